use Rattle.std.proofs.Common.{◌≡◌, drop, map}
use Rattle.std.specs.List.{list_any}
use Rattle.std.specs.Str.{bytes_eq}
use Rattle.qc_schema.specs.Progress.{measure_in}
use Rattle.qc_schema.proofs.draft.has_measure.Given as goal

abbrev pub invariant-loop-measure : goal.invariant-loop-measure
invariant-loop-measure l
    = list_any (λ y. bytes_eq y l.name) (map (λ m. m.name) (map measure_in (drop l.measure-index l.measures.items)))
    ≡ list_any (λ y. bytes_eq y l.name) (map (λ m. m.name) (map measure_in l.measures.items))
