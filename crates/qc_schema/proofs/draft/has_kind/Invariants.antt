use Rattle.std.proofs.Common.{◌≡◌, drop}
use Rattle.std.specs.List.{list_any}
use Rattle.aggregates.specs.Views.{same_kind}
use Rattle.qc_schema.proofs.draft.has_kind.Given as goal

abbrev pub invariant-loop-other : goal.invariant-loop-other
invariant-loop-other l = list_any (λ k. same_kind k l.kind) (drop l.other-index l.kinds.items)
    ≡ list_any (λ k. same_kind k l.kind) l.kinds.items
