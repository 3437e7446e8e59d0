use Rattle.std.proofs.Common.{◌≡◌, ◌∙◌, ◌∷◌, ◌+◌, ◌++◌, ℕ, [], List, ap, arith}
use Rattle.slab.specs.Slab as slots
use Rattle.cube_defs.specs.Tree.{Edge}
use Rattle.qc_arena.proofs.Filled.{filled, filled_count}
use Rattle.qc_arena.proofs.edge_lists.EdgeLists.insert.Goals as goal

pub invariant_of-self : goal.invariant_of-self
invariant_of-self c =
    let is : c.self.inside.free.items ≡ c.pop.new.self.items ++ c.in-Some.place ∷ [] = c.in-Some.ensures.items in
    let i = c.self.invariant in
    let m = c.self.inside in
    let done = filled m.lists.items m.free.items c.pop.new.self.items c.in-Some.place is _ _ _ i c.args.list in
    record {
      vacant = done.vacant;
      within = done.within;
      once = done.once;
      counted = done.counted;
      few = done.few;
      placed = done.placed;
      for_lists = done.for_lists;
      for_free = omega (arith, done.for_free, c.pop.ensures.capacity);
    }

pub returns-in-Some-clause-len : goal.returns-in-Some-clause-len
returns-in-Some-clause-len c =
    let is : c.self.inside.free.items ≡ c.pop.new.self.items ++ c.in-Some.place ∷ [] = c.in-Some.ensures.items in
    let m = c.self.inside in
    let count = filled_count m.lists.items m.free.items c.pop.new.self.items c.in-Some.place is _ _ _ c.self.invariant
    c.args.list in
    count ∙ ap (λ (s : slots.Slab (List (Edge ℕ ℕ))). slots.slab_len s + 1) c.self.view_is
