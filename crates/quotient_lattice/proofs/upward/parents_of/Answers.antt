use Rattle.std.proofs.Common.{◌≡◌, ◌^◌, Some, List, Option, filter, map, sym, subst, ◌∙◌, ap}
use Rattle.std.specs.Prelude.{IfOk}
use Rattle.std.specs.List.{range_with_len}
use Rattle.cube_defs.specs.Cell.{Cell}
use Rattle.cube_defs.specs.Tree.{cell_at}
use Rattle.cells_below.specs.Numbers.{cell_of_number}
use Rattle.cells_below.proofs.CallerLemmas.{closed}
use Rattle.std.proofs.lemmas.Simd.{map-map}
use Rattle.quotient_lattice.specs.Joined.{joins}
use Rattle.quotient_lattice.proofs.InOrder.{parents_are}
use Rattle.quotient_lattice.proofs.upward.parents_of.Goals as goal

pub returns-in-Ok-clause-nodes : goal.returns-in-Ok-clause-nodes
returns-in-Ok-clause-nodes g c = λ source h.
    let upper = c.args.upper.now in
    let u = upper.cell.now in
    let all = parents_are _ source.rows h.wide source.measures u (closed source u u (upper.own source h)) upper.long in
    subst (λ (b : List (Option (Cell _))). IfOk c.parents_by_marks.result
    (λ nodes. map (λ k. cell_at upper.tree.now.tree k.0) nodes.items ≡ b))
    (ap (λ d. map (λ m. Some (cell_of_number u m)) (filter (joins source u) (range_with_len 0 (2 ^ d)))) upper.counted
    ∙ sym (map-map (λ x. Some x) (cell_of_number u) (filter (joins source u) (range_with_len 0 _)))
    ∙ ap (map (λ x. Some x)) all) (c.parents_by_marks.ensures.nodes source h)
