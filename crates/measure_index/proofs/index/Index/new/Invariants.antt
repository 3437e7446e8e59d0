use Rattle.std.proofs.Common.{◌≡◌, ◌≤◌, length, map, take, vec_capacity, vec_len}
use Rattle.measure_index.specs.Index.{empty_ranking}
use Rattle.measure_index.proofs.index.Index.new.Given as goal

abbrev pub invariant-kinds : goal.invariant-kinds
invariant-kinds l = record {
  made : l.columns.items ≡ map (empty_ranking l.scales) (take l.kind-index l.kinds);
  len : vec_len l.columns ≡ l.kind-index;
  room : length l.kinds ≤ vec_capacity l.columns;
}
