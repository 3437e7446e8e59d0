use Rattle.std.proofs.Common.{◌∙◌, ℕ, List, None, ap, length, sym}
use Rattle.slab.specs.Slab as slots
use Rattle.cube_defs.specs.Tree.{Edge}
use Rattle.qc_arena.specs.Edges.{without_edge}
use Rattle.qc_arena.specs.KeptSlot.{Kept}
use Rattle.qc_arena.specs.Records.{nodes_of}
use Rattle.qc_arena.proofs.Listed.{kept_listed, kept_others, own_by, same_place, seen_own, there_after, write_at}
use Rattle.qc_arena.proofs.record_store.take_at.Goals as goal

pub invariant_of-store : goal.invariant_of-store
invariant_of-store c =
    record {
      listed = kept_listed c.args.store.now.records c.args.store.now.lists c.args.store.now.listed c.args.node c.index_mut.result.now
          c.take_own.new.kept c.index_mut.ensures.value (ap (λ (h : Kept). h.place) c.take_own.ensures.taken);
    }

pub returns-in-None-clause-here : goal.returns-in-None-clause-here
returns-in-None-clause-here c =
    let none = same_place c.args.store.now.records c.args.node c.index.result.now c.index_mut.result.now c.index.ensures
    c.index_mut.ensures.value None c.in-None.ensures in
    own_by c.args.store.now.records c.args.store.now.lists c.args.store.now.listed c.args.node c.index_mut.result.now
    c.take_own.new.kept c.index_mut.ensures.value (ap (λ (h : Kept). h.place) c.take_own.ensures.taken)
    (without_edge c.args.dim c.args.code) none c.take_own.ensures.taken

pub returns-in-None-clause-has : goal.returns-in-None-clause-has
returns-in-None-clause-has c =
    let none = same_place c.args.store.now.records c.args.node c.index.result.now c.index_mut.result.now c.index.ensures
    c.index_mut.ensures.value None c.in-None.ensures in
    let s = slots.with_value c.args.store.now.records c.args.node c.take_own.new.kept in
    let there = there_after (without_edge c.args.dim c.args.code)
    (slots.get (nodes_of s c.args.store.now.lists) c.args.node)
    (slots.get (nodes_of c.args.store.now.records c.args.store.now.lists) c.args.node) (returns-in-None-clause-here c)
    c.requires in
    c.take_own.ensures.has ∙ sym (ap (λ (es : List (Edge ℕ ℕ)). length es)
    (seen_own s c.args.store.now.lists c.args.node c.take_own.new.kept
    (write_at c.args.store.now.records c.args.node c.index_mut.result.now c.take_own.new.kept c.index_mut.ensures.value)
    (ap (λ (h : Kept). h.place) c.take_own.ensures.taken ∙ none) there))

pub returns-in-None-clause-others : goal.returns-in-None-clause-others
returns-in-None-clause-others c =
    kept_others c.args.store.now.records c.args.store.now.lists c.args.store.now.listed c.args.node c.index_mut.result.now
    c.take_own.new.kept c.index_mut.ensures.value (ap (λ (h : Kept). h.place) c.take_own.ensures.taken)
