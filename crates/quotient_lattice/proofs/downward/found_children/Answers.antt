use Rattle.std.proofs.Common.{◌≡◌, ◌↔◌, length, sym, ap, subst, ◌∙◌, arith}
use Rattle.std.specs.Prelude.{IsSome}
use Rattle.std.specs.FinMap as numbers
use Rattle.std.specs.Ordering.{nat_cmp}
use Rattle.std.proofs.lemmas.List.Sorted.{All-permutation}
use Rattle.std.proofs.lemmas.Result.{IfOk-weaker}
use Rattle.cube_laws.specs.Parts.{value_count}
use Rattle.cells_below.proofs.CallerLemmas.{closed}
use Rattle.qc_arena.specs.RecordReaders.{record_at}
use Rattle.tree_search.proofs.CallerLemmas.{cell_of}
use Rattle.lower_bounds.proofs.CallerLemmas.{own_closure}
use Rattle.quotient_lattice.specs.Neighbours as lattice
use Rattle.quotient_lattice.specs.NodeCells.{IsPassing}
use Rattle.quotient_lattice.proofs.ChildNodes.{goes, picked_child}
use Rattle.quotient_lattice.proofs.downward.found_children.Goals as goal

pub children_among-requires-clause-there : goal.children_among-requires-clause-there
children_among-requires-clause-there g c =
    All-permutation (λ k. IsSome (numbers.get c.args.tree.now.tree k)) c.in-Ok.led.items
    c.sort_unstable.new.self.items c.sort_unstable.ensures.permutation c.in-Ok.ensures.there

pub returns-clause-each : goal.returns-clause-each
returns-clause-each g c = λ source h.
    let tree = c.args.tree.now.tree in
    let n = c.args.tree.now.width in
    let u = c.upper_into.new.out in
    let own = own_closure _ _ source h c.args.node.0 u c.upper_into.ensures.cell c.requires.class in
    let wide : length u ≡ n = omega (arith, c.upper_into.ensures.dims, c.any-u.ensures.dims, c.dims.ensures.value) in
    let same : (record_at tree c.args.node.0).cell ≡ u = cell_of tree c.args.node.0 u c.upper_into.ensures.cell in
    let there = All-permutation (λ k. IsSome (numbers.get tree k)) c.in-Ok.led.items c.sort_unstable.new.self.items
    c.sort_unstable.ensures.permutation c.in-Ok.ensures.there in
    let count = c.count_values.ensures.value ∙ ap (λ z. value_count z) c.in-Ok.ensures.same in
    IfOk-weaker c.children_among.result _ _
    (λ found each k. goes (each k)
    (goes (picked_child n tree source h u (closed source u u own) wide c.in-Ok.led.items c.sort_unstable.new.self.items
    c.sort_unstable.ensures.permutation (c.in-Ok.ensures.led source h) there c.count_values.result count k)
    (subst (λ cell. IsPassing tree source (λ d. lattice.is_parent nat_cmp source.rows u d) k
    ↔ IsPassing tree source (λ d. lattice.is_parent nat_cmp source.rows cell d) k) (sym same) (λ p. p, λ p. p))))
    c.children_among.ensures.each
