use Rattle.std.proofs.Common.{◌≡◌, drop, map}
use Rattle.qc_schema.specs.Grammar.{measure_from}
use Rattle.qc_schema.specs.Progress.{measure_in}
use Rattle.qc_schema.proofs.draft.measure_named.Given as goal

abbrev pub invariant-loop-k : goal.invariant-loop-k
invariant-loop-k l = measure_from (map measure_in (drop l.k l.measures.items)) l.k l.name
    ≡ measure_from (map measure_in l.measures.items) 0 l.name
