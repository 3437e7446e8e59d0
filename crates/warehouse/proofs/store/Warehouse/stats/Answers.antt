use Rattle.std.proofs.Common.{◌≡◌, ◌-◌, ◌∙◌, ℕ, ap, arith, sym}
use Rattle.std.specs.Ordering.{nat_cmp}
use Rattle.base_table.specs.Places.{rows_of}
use Rattle.tree_laws.specs.Counts.{links_in, tree_edges_in}
use Rattle.warehouse.proofs.Counted.{classes-kept, links-kept, nodes-kept, tree_edges-kept, tree_edges-less}
use Rattle.warehouse.proofs.store.Warehouse.stats.Goals as goal

pub returns-clause-classes : goal.returns-clause-classes
returns-clause-classes c =
    let inside = c.self.inside in
    let stored = c.self.invariant.stored in
    rw (← c.self.view_is) (c.class_count.ensures
    ∙ classes-kept inside.cube.dict.lists (rows_of inside.cube.table) stored.known stored.dictionary.distinct _ _
    inside.cube.tree.now c.self.invariant.kept.from)

pub returns-clause-nodes : goal.returns-clause-nodes
returns-clause-nodes c =
    let inside = c.self.inside in
    let stored = c.self.invariant.stored in
    rw (← c.self.view_is) (c.live-nodes.ensures.value
    ∙ nodes-kept inside.cube.dict.lists (rows_of inside.cube.table) stored.known stored.dictionary.distinct _ _
    inside.cube.tree.now c.self.invariant.kept.from)

pub returns-clause-tree_edges : goal.returns-clause-tree_edges
returns-clause-tree_edges c =
    let inside = c.self.inside in
    let stored = c.self.invariant.stored in
    let less : c.from-tree_edges.result ≡ tree_edges_in nat_cmp inside.cube.tree.now =
    c.from-tree_edges.ensures ∙ c.saturating_sub.ensures ∙ ap (λ (n : ℕ). n - 1) c.live-nodes.ensures.value
    ∙ sym (tree_edges-less inside.cube.dict.lists (rows_of inside.cube.table) stored.known stored.dictionary.distinct _
    _ inside.cube.tree.now c.self.invariant.kept.from) in
    rw (← c.self.view_is) (less
    ∙ tree_edges-kept inside.cube.dict.lists (rows_of inside.cube.table) stored.known stored.dictionary.distinct _ _
    inside.cube.tree.now c.self.invariant.kept.from)

pub returns-clause-links : goal.returns-clause-links
returns-clause-links c =
    let inside = c.self.inside in
    let stored = c.self.invariant.stored in
    let less : c.from-tree_edges.result ≡ tree_edges_in nat_cmp inside.cube.tree.now =
    c.from-tree_edges.ensures ∙ c.saturating_sub.ensures ∙ ap (λ (n : ℕ). n - 1) c.live-nodes.ensures.value
    ∙ sym (tree_edges-less inside.cube.dict.lists (rows_of inside.cube.table) stored.known stored.dictionary.distinct _
    _ inside.cube.tree.now c.self.invariant.kept.from) in
    let left : c.edge_total.result - c.from-tree_edges.result ≡ links_in nat_cmp inside.cube.tree.now
    = omega (arith, less, c.edge_total.ensures.kinds) in
    rw (← c.self.view_is) (left
    ∙ links-kept inside.cube.dict.lists (rows_of inside.cube.table) stored.known stored.dictionary.distinct _ _
    inside.cube.tree.now c.self.invariant.kept.from)

pub overflow_sub-result : goal.overflow_sub-result
overflow_sub-result c =
    let inside = c.self.inside in
    let stored = c.self.invariant.stored in
    let less : c.from-tree_edges.result ≡ tree_edges_in nat_cmp inside.cube.tree.now =
    c.from-tree_edges.ensures ∙ c.saturating_sub.ensures ∙ ap (λ (n : ℕ). n - 1) c.live-nodes.ensures.value
    ∙ sym (tree_edges-less inside.cube.dict.lists (rows_of inside.cube.table) stored.known stored.dictionary.distinct _
    _ inside.cube.tree.now c.self.invariant.kept.from) in
    omega (arith, less, c.edge_total.ensures.kinds)
