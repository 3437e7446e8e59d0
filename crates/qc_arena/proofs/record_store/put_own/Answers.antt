use Rattle.std.proofs.Common.{◌∙◌, ℕ, List, ap, length, refl, sym}
use Rattle.slab.specs.Slab as slots
use Rattle.cube_defs.specs.Tree.{Edge}
use Rattle.qc_arena.specs.Edges.{edge_in, put_edge, with_edge}
use Rattle.qc_arena.specs.KeptSlot.{Kept, with_edges}
use Rattle.qc_arena.specs.Records.{nodes_of}
use Rattle.qc_arena.proofs.Listed.{kept_listed, kept_others, own_by, seen_own, there_after, write_at}
use Rattle.qc_arena.proofs.record_store.put_own.Goals as goal

pub invariant_of-store : goal.invariant_of-store
invariant_of-store c =
    record {
      listed = kept_listed c.args.store.now.records c.args.store.now.lists c.args.store.now.listed c.args.node c.index_mut.result.now
          c.try_only.new.self c.index_mut.ensures.value c.try_only.ensures.place;
    }

pub returns-then-try_only-clause-here : goal.returns-then-try_only-clause-here
returns-then-try_only-clause-here c =
    let taken = c.if-try_only.ensures.taken refl in
    let h = c.index_mut.result.now in
    own_by c.args.store.now.records c.args.store.now.lists c.args.store.now.listed c.args.node h c.try_only.new.self
    c.index_mut.ensures.value (ap (λ (h : Kept). h.place) taken)
    (with_edge (edge_in c.args.edge))
    (c.if-try_only.ensures.unlisted refl) (taken ∙ sym (ap (λ (es : List (Edge ℕ ℕ)). record h {
      node
          = with_edges (put_edge (edge_in c.args.edge) es) h.node;
    }) (c.if-try_only.ensures.free refl)))

pub returns-then-try_only-clause-has : goal.returns-then-try_only-clause-has
returns-then-try_only-clause-has c =
    let taken = c.if-try_only.ensures.taken refl in
    let s = slots.with_value c.args.store.now.records c.args.node c.try_only.new.self in
    let there = there_after
    (with_edge (edge_in c.args.edge))
    (slots.get (nodes_of s c.args.store.now.lists) c.args.node)
    (slots.get (nodes_of c.args.store.now.records c.args.store.now.lists) c.args.node) (returns-then-try_only-clause-here c)
    c.requires.node in
    sym (ap (λ (es : List (Edge ℕ ℕ)). length es) (seen_own s c.args.store.now.lists c.args.node c.try_only.new.self
    (write_at c.args.store.now.records c.args.node c.index_mut.result.now c.try_only.new.self c.index_mut.ensures.value)
    (ap (λ (h : Kept). h.place) taken ∙ c.if-try_only.ensures.unlisted refl) there
    ∙ ap (λ (h : Kept). h.node.edges) taken))

pub returns-then-try_only-clause-others : goal.returns-then-try_only-clause-others
returns-then-try_only-clause-others c =
    kept_others c.args.store.now.records c.args.store.now.lists c.args.store.now.listed c.args.node c.index_mut.result.now
    c.try_only.new.self c.index_mut.ensures.value (ap (λ (h : Kept). h.place) (c.if-try_only.ensures.taken refl))
