use Rattle.std.proofs.Common.{Bool, Some, None, sym, ap, ◌∙◌}
use Rattle.std.specs.Prelude.{if◌then◌else◌}
use Rattle.cells_below.specs.Numbers.{cell_of_number}
use Rattle.cells_below.proofs.CallerLemmas.{closed}
use Rattle.quotient_lattice.proofs.Numbers.{is_joined, joined_own, not_marked, not_most}
use Rattle.quotient_lattice.proofs.parent_test.parent_at.Goals as goal

pub returns-then-get-clause-value : goal.returns-then-get-clause-value
returns-then-get-clause-value g c = λ source h.
    let u = c.args.upper.now.cell.now in
    let d = c.args.upper.now.values in
    sym (ap (λ (b : Bool). if b then Some (Some (cell_of_number u c.args.m)) else None)
    (not_marked source u c.args.marks.now d c.args.m c.args.upper.now.counted c.requires.number
    (c.requires.marked source h)
    (sym c.if-get.ensures)))

pub returns-then-not-is_maximal-clause-value : goal.returns-then-not-is_maximal-clause-value
returns-then-not-is_maximal-clause-value g c = λ source h.
    let u = c.args.upper.now.cell.now in
    let d = c.args.upper.now.values in
    sym (ap (λ (b : Bool). if b then Some (Some (cell_of_number u c.args.m)) else None)
    (not_most source u c.args.marks.now d c.args.m c.args.upper.now.counted c.requires.number
    (c.requires.marked source h)
    (sym c.if-not-is_maximal.ensures)))

pub node_of-requires-clause-dims : goal.node_of-requires-clause-dims
node_of-requires-clause-dims g c = c.write_cell.ensures.dims ∙ c.args.upper.now.long

pub node_of-requires-clause-class : goal.node_of-requires-clause-class
node_of-requires-clause-class g c = λ source h.
    let u = c.args.upper.now.cell.now in
    let d = c.args.upper.now.values in
    joined_own source u c.write_cell.new.out c.args.m (closed source u u (c.args.upper.now.own source h))
    (is_joined source u c.args.marks.now d c.args.m c.args.upper.now.counted c.requires.number
    (c.requires.marked source h)
    (sym c.if-get.ensures) (sym c.if-not-is_maximal.ensures)) c.write_cell.ensures.value

pub returns-clause-value : goal.returns-clause-value
returns-clause-value g c = λ source h.
    let u = c.args.upper.now.cell.now in
    let d = c.args.upper.now.values in
    ap (λ x. Some x) (c.node_of.ensures.cell ∙ ap (λ x. Some x) c.write_cell.ensures.value)
    ∙ sym (ap (λ (b : Bool). if b then Some (Some (cell_of_number u c.args.m)) else None)
    (is_joined source u c.args.marks.now d c.args.m c.args.upper.now.counted c.requires.number
    (c.requires.marked source h)
    (sym c.if-get.ensures) (sym c.if-not-is_maximal.ensures)))
