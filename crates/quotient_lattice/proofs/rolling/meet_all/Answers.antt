use Rattle.std.proofs.Common.{true, false, true≢false, ◌≡◌, ◌<◌, ◌≤◌, ◌+◌, ◌*◌, ℕ, Some, [], ◌∷◌, ◌++◌, length, map, nat_eq, take, get_or}
use Rattle.std.proofs.Common.{refl, sym, ap, subst, ◌∙◌, arith, inl}
use Rattle.std.specs.Prelude.{Err, Ok, OnOk, Result, is_err, slice_get}
use Rattle.std.specs.Option.{option_copied}
use Rattle.std.specs.List.{IsDistinct, sum_by}
use Rattle.std.proofs.lemmas.List.Sums.{sum_by-take-le}
use Rattle.cube_laws.specs.Lists.{Among}
use Rattle.cube_laws.proofs.CallerLemmas.{get_among, got}
use Rattle.indexmap.specs.IndexSet.{insert_key}
use Rattle.tree_laws.proofs.CallerLemmas.{some_same}
use Rattle.quotient_lattice.specs.Candidates.{edges_on_way}
use Rattle.quotient_lattice.specs.NodeCells.{number_of}
use Rattle.quotient_lattice.specs.Visits.{AreQueued, wants}
use Rattle.quotient_lattice.proofs.ChildNodes.{once_none}
use Rattle.quotient_lattice.proofs.Counted.{steps_more, steps_most}
use Rattle.quotient_lattice.proofs.ParentNodes.{class_some}
use Rattle.quotient_lattice.proofs.RowCosts.{next_counted, next_within, within_size}
use Rattle.quotient_lattice.proofs.Visited.{inserted_among, all_met, all_once, alone, first_seen, grown, none_met, visited_met}
use Rattle.quotient_lattice.proofs.Visited.{visited_once, visited_seen, visited_take}
use Rattle.quotient_lattice.proofs.rolling.meet_all.Goals as goal

ok_gives : {T E P : Type 0} (r : Result T E) → is_err r ≡ false → OnOk r P → P
ok_gives (Ok x) e p = p
ok_gives (Err x) e p = absurd (true≢false e)

pub seen-init : goal.seen-init
seen-init g c =
    let tree = c.args.selection.now.tree.now.tree in
    let keys = c.insert.new.self.keys in
    let is : keys ≡ c.args.node.0 ∷ [] = ok_gives c.insert.result (sym c.if-is_err.ensures.value) c.insert.ensures.keys
    ∙ ap (λ ks. insert_key nat_eq ks c.args.node.0) c.requires.none_seen in
    record {
      within = omega arith;
      first = subst (Among c.args.node.0) (sym is) (inl refl);
      apart = alone keys c.args.node.0 is;
      seen = λ source h. first_seen _ tree source h c.args.selection.now.ask.now c.args.node.0 keys is c.requires.class;
      each = none_met tree c.args.selection.now.ask.now keys c.args.met.now.items c.requires.none_met;
      once = once_none c.args.met.now.items c.requires.none_met;
      cells = λ k d l. absurd (omega (arith, l, ap length c.requires.none_met));
      steps = omega arith;
    }

pub visit-requires : goal.visit-requires
visit-requires g c =
    let keys = c.seen.seen.keys in
    let at : slice_get keys c.seen.i ≡ Some c.unwrap-number.result.now = sym c.get_index.ensures.key
    ∙ ap option_copied c.unwrap-number.ensures in
    let p = (c.seen.invariant.seen c.dims-dims.ensures.rows.0 c.dims-dims.ensures.rows.1).above c.unwrap-number.result.now
    (get_among keys c.seen.i c.unwrap-number.result.now at) in
    class_some _ _ c.dims-dims.ensures.rows.0 c.dims-dims.ensures.rows.1 c.unwrap-number.result.now p.there p.class

pub seen-preserved : goal.seen-preserved
seen-preserved g c =
    let tree = c.args.selection.now.tree.now.tree in
    let n = c.args.selection.now.tree.now.width in
    let ask = c.args.selection.now.ask.now in
    let seen = c.seen.seen.keys in
    let after = c.visit.new.seen.keys in
    let x = c.unwrap-number.result.now in
    let met = map number_of c.seen.met.items in
    let more = map number_of c.visit.new.met.items in
    let count : ℕ → ℕ = λ k. edges_on_way tree k + 1 in
    let inv = c.seen.invariant in
    let l : c.seen.i < length seen = omega (arith, c.seen-test.true, c.len.ensures.len) in
    let here : slice_get seen c.seen.i ≡ Some x = sym c.get_index.ensures.key
    ∙ ap option_copied c.unwrap-number.ensures in
    let at : get_or seen c.seen.i 0 ≡ x = some_same (sym (got seen c.seen.i 0 l) ∙ here) in
    let source = c.dims-dims.ensures.rows.0 in
    let h = c.dims-dims.ensures.rows.1 in
    let v = c.in-Ok.ensures.visited source h in
    record {
      within = omega (arith, l, grown seen after v.found v.seen_more);
      first = subst (Among c.args.node.0) (sym v.seen_more)
          ((inserted_among seen v.found c.args.node.0).1 (inl inv.first));
      apart = subst (IsDistinct nat_eq) (sym v.seen_more) (all_once seen v.found inv.apart);
      seen = λ source h. visited_seen n tree source h ask c.args.node.0 seen after c.seen.i x l at met more
          (inv.seen source h) (c.in-Ok.ensures.visited source h);
      each = visited_met n tree source h ask c.args.node.0 seen after c.seen.i x l at met more
          (inv.seen source h) v inv.apart inv.each;
      once = visited_once n tree source h ask c.args.node.0 seen after c.seen.i x l at met more
          (inv.seen source h) v inv.apart inv.each inv.once;
      cells = c.in-Ok.ensures.cells inv.cells;
      steps = subst (λ ks. c.visit.new.steps ≤ c.args.steps.now + 17 * (n + 1) * sum_by count ks)
          (sym (visited_take n tree source h ask c.args.node.0 seen after c.seen.i x l at met more
          (inv.seen source h) v))
          (steps_more (17 * (n + 1)) (sum_by count (take c.seen.i seen)) (count x)
          (sum_by count (take c.seen.i seen ++ x ∷ [])) c.args.steps.now c.seen.steps c.visit.new.steps
          inv.steps c.in-Ok.ensures.steps (next_counted count (take c.seen.i seen) x));
    }

pub returns-clause-met : goal.returns-clause-met
returns-clause-met g c = λ source h.
    let tree = c.args.selection.now.tree.now.tree in
    let seen = c.seen.seen.keys in
    let met = map number_of c.seen.met.items in
    let end : c.seen.i ≡ length seen = omega (arith, c.seen-test.false, c.len.ensures.len, c.seen.invariant.within) in
    all_met _ tree source h c.args.selection.now.ask.now c.args.node.0 seen met c.seen.invariant.first
    (subst (λ i. AreQueued tree source c.args.selection.now.ask.now c.args.node.0 seen i) end (c.seen.invariant.seen source h))
    (λ k. subst (λ i. (Among k met → Among k (take i seen) × (wants tree c.args.selection.now.ask.now k ≡ true))
    × (Among k (take i seen) × (wants tree c.args.selection.now.ask.now k ≡ true) → Among k met)) end (c.seen.invariant.each k))

pub returns-in-Err-clause-steps : goal.returns-in-Err-clause-steps
returns-in-Err-clause-steps g c = λ source h.
    let tree = c.args.selection.now.tree.now.tree in
    let n = c.args.selection.now.tree.now.width in
    let seen = c.seen.seen.keys in
    let x = c.unwrap-number.result.now in
    let inv = c.seen.invariant in
    let count : ℕ → ℕ = λ k. edges_on_way tree k + 1 in
    let l : c.seen.i < length seen = omega (arith, c.seen-test.true, c.len.ensures.len) in
    let here : slice_get seen c.seen.i ≡ Some x = sym c.get_index.ensures.key
    ∙ ap option_copied c.unwrap-number.ensures in
    let at : get_or seen c.seen.i 0 ≡ x = some_same (sym (got seen c.seen.i 0 l) ∙ here) in
    let all = within_size n tree source h c.args.node.0 seen inv.apart (inv.seen source h).above in
    steps_more (17 * (n + 1)) (sum_by count (take c.seen.i seen)) (count x) _ c.args.steps.now c.seen.steps
    c.visit.new.steps inv.steps c.in-Err.ensures.steps (omega (arith, next_within count seen c.seen.i x l at, all))

pub returns-clause-steps : goal.returns-clause-steps
returns-clause-steps g c = λ source h.
    let tree = c.args.selection.now.tree.now.tree in
    let n = c.args.selection.now.tree.now.width in
    let seen = c.seen.seen.keys in
    let inv = c.seen.invariant in
    let count : ℕ → ℕ = λ k. edges_on_way tree k + 1 in
    let all = within_size n tree source h c.args.node.0 seen inv.apart (inv.seen source h).above in
    steps_most (17 * (n + 1)) (sum_by count (take c.seen.i seen)) _ c.args.steps.now c.seen.steps inv.steps
    (omega (arith, sum_by-take-le count seen c.seen.i, all))
