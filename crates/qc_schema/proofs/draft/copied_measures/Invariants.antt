use Rattle.std.proofs.Common.{◌≡◌, ◌≤◌, map, take, vec_capacity, vec_len}
use Rattle.qc_schema.specs.Progress.{measure_in}
use Rattle.qc_schema.proofs.draft.copied_measures.Given as goal

abbrev pub invariant-loop-measure : goal.invariant-loop-measure
invariant-loop-measure l = record {
  made : map measure_in l.copy.items ≡ map measure_in (take l.measure-index l.measures.items);
  len : vec_len l.copy ≡ l.measure-index;
  room : vec_len l.measures ≤ vec_capacity l.copy;
}
