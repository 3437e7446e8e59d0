use Rattle.std.proofs.Common.{◌≡◌, ◌≤◌, length, map, take, vec_capacity, vec_len}
use Rattle.measure_index.proofs.FillingLemmas.{bare_coming}
use Rattle.measure_index.proofs.builder.IndexBuilder.new.Given as goal

abbrev pub invariant-kinds : goal.invariant-kinds
invariant-kinds l = record {
  made : l.columns.items ≡ map (bare_coming l.scales) (take l.kind-index l.kinds);
  len : vec_len l.columns ≡ l.kind-index;
  room : length l.kinds ≤ vec_capacity l.columns;
}
