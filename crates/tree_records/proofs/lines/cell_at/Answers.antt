use Rattle.std.proofs.Common.{◌+◌, ◌∙◌, arith, inl, inr, subst, sym, slice_set}
use Rattle.std.specs.Prelude.{IsSome}
use Rattle.std.specs.FinMap as map
use Rattle.qc_arena.specs.RecordReaders.{record_at}
use Rattle.tree_records.proofs.Climbing.{IsOnWay, goes_up, known, no_parent, read_all, sets_out, too_large}
use Rattle.tree_records.proofs.lines.cell_at.Goals as goal

pub up-init : goal.up-init
up-init g c = λ rooted. sets_out c.args.tree.now.now c.args.node.0

pub returns-in_default : goal.returns-in_default
returns-in_default g c = λ rooted.
    let tree = c.args.tree.now.now in
    let there : IsSome (map.get tree c.up.at.0) = sym c.has.ensures ∙ c.if-not-has.false in
    read_all tree rooted c.args.node.0 c.up.at.0 c.up.counter c.up.cell (c.up.invariant rooted) (record_at tree c.up.at.0)
    (known tree c.up.at.0 there) (sym c.end_of.ensures.value ∙ c.in_default.is)

pub returns-then-dim-ge6 : goal.returns-then-dim-ge6
returns-then-dim-ge6 g c = λ rooted.
    let tree = c.args.tree.now.now in
    let there : IsSome (map.get tree c.up.at.0) = sym c.has.ensures ∙ c.if-not-has.false in
    too_large tree rooted c.args.node.0 c.up.at.0 c.up.counter c.up.cell (c.up.invariant rooted)
    (record_at tree c.up.at.0) (known tree c.up.at.0 there) c.in-Some.dim c.in-Some.code (sym c.in-Some.ensures.value)
    (λ small. elim c.then-dim-ge6.either [
      | inl h ↦ omega (arith, h, small.0)
      | inr h ↦ omega (arith, h.1, small.1)
    ])

pub returns-in_err-at : goal.returns-in_err-at
returns-in_err-at g c = λ rooted.
    let tree = c.args.tree.now.now in
    let there : IsSome (map.get tree c.up.at.0) = sym c.has.ensures ∙ c.if-not-has.false in
    let read = no_parent tree rooted c.args.node.0 c.up.at.0 c.up.counter c.up.cell (c.up.invariant rooted)
    (record_at tree c.up.at.0) (known tree c.up.at.0 there) c.in-Some.dim c.in-Some.code (sym c.in-Some.ensures.value)
    (sym c.in_err-at.ensures.value) in
    rw c.from_residual.ensures read

pub up-preserved : goal.up-preserved
up-preserved g c = λ rooted.
    let tree = c.args.tree.now.now in
    let there : IsSome (map.get tree c.up.at.0) = sym c.has.ensures ∙ c.if-not-has.false in
    let next = goes_up tree rooted c.args.node.0 c.up.at.0 c.up.counter c.up.cell (c.up.invariant rooted)
    (record_at tree c.up.at.0) (known tree c.up.at.0 there) c.in-Some.dim c.in-Some.code (sym c.in-Some.ensures.value)
    c.in_ok-at.at.0 (sym c.in_ok-at.ensures.value) in
    subst (λ j. IsOnWay tree c.args.node.0 c.in_ok-at.at.0 (c.up.counter + 1) (slice_set c.up.cell j c.in-Some.code))
    (sym c.from.ensures) next
