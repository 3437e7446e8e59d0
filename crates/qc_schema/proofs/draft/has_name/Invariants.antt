use Rattle.std.proofs.Common.{◌≡◌, drop, map}
use Rattle.std.specs.Prelude.{string_bytes}
use Rattle.std.specs.List.{list_any}
use Rattle.std.specs.Str.{bytes_eq}
use Rattle.qc_schema.proofs.draft.has_name.Given as goal

abbrev pub invariant-loop-other : goal.invariant-loop-other
invariant-loop-other l = list_any (λ y. bytes_eq y l.name) (map string_bytes (drop l.other-index l.names.items))
    ≡ list_any (λ y. bytes_eq y l.name) (map string_bytes l.names.items)
