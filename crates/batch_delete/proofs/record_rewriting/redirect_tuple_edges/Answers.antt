use Rattle.std.proofs.Common.{◌≡◌, ◌∙◌, ◌+◌, ℕ, Bool, None, Option, Some, ap, arith, get_or, is_some, nat_cmp, nat_eq, refl, sym}
use Rattle.std.specs.Option.{option_map}
use Rattle.std.specs.Ordering.{eq_by_cmp}
use Rattle.qc_arena.specs.Map.{Arena, Known, is_open}
use Rattle.qc_arena.specs.RecordReaders.{record_at, record_or}
use Rattle.tree_laws.specs.Walk.{target_at}
use Rattle.tree_search.proofs.CallerLemmas.{there_is}
use Rattle.batch_delete.specs.Plan.{heir_in, first_redirected, heir_target, with_mixed, with_own}
use Rattle.batch_delete.proofs.Redirecting.{all_led, label_was, leads_to, none_led, not_yet, own_before, own_more}
use Rattle.batch_delete.proofs.Rewriting.{more_changes, no_change, there_still}
use Rattle.batch_delete.proofs.record_rewriting.redirect_tuple_edges.Goals as goal
use Rattle.cube_laws.proofs.CallerLemmas.{one_test}

pub dims-init : goal.dims-init
dims-init g c =
    let heirs = heir_in c.args.plan.now.entries in
    let n = record_at c.args.arena.now.now c.args.node.0 in
    let old = there_is c.args.arena.now.now c.args.node.0 c.requires.change.there in
    record {
      here = old ∙ ap (λ (m : Known). Some m) (sym (none_led c.args.tuple.now heirs c.args.from n c.requires.behind))
          ∙ sym (ap (option_map (with_mixed (own_before c.args.tuple.now heirs c.args.from) 0)) old);
      only = no_change c.args.node.0 c.args.arena.now;
      opened = c.requires.change.opened;
      width = refl;
      from = omega arith;
      steps = omega arith;
    }

pub redirect_tuple_edge-requires : goal.redirect_tuple_edge-requires
redirect_tuple_edge-requires g c =
    let tuple = c.args.tuple.now in
    let heirs = heir_in c.args.plan.now.entries in
    let n = record_at c.args.arena.now.now c.args.node.0 in
    let old = there_is c.args.arena.now.now c.args.node.0 c.requires.change.there in
    let is = c.dims.invariant.here ∙ ap (option_map (with_mixed (own_before tuple heirs c.dims.dim) 0)) old in
    let long = c.requires.long ∙ sym c.dims.invariant.width in
    let before = c.dims-test.true in
    let ends = c.dims-dim-end.ensures.value in
    record {
      change = record {
        opened = c.dims.invariant.opened;
        there = ap is_some is;
        touched = c.dims.invariant.only.touched c.args.node.0 ∙ c.requires.change.touched;
      };
      long = long;
      dim = omega arith;
      target = λ v t y has found heir.
          let at : target_at nat_eq c.dims.dim v (first_redirected (own_before tuple heirs c.dims.dim) 0 n.edges) ≡ Some y
          = ap (λ (e : ℕ → ℕ → Bool). target_at e c.dims.dim v
          (first_redirected (own_before tuple heirs c.dims.dim) 0 n.edges)) (sym one_test)
          ∙ sym (ap (λ (o : Option Known). target_at (eq_by_cmp nat_cmp) c.dims.dim v (record_or o).edges) is) ∙ found in
          let x = label_was (own_before tuple heirs c.dims.dim) c.dims.dim v (not_yet tuple heirs c.dims.dim v has)
          n.edges y at in
          there_still c.args.arena.now.now c.dims.arena.now c.args.node.0 c.dims.invariant.only.others (ap is_some is) t
          (c.requires.targets x.0 t _ x.1 (leads_to tuple heirs c.dims.dim v has t y heir));
    }

pub dims-preserved : goal.dims-preserved
dims-preserved g c =
    let tuple = c.args.tuple.now in
    let heirs = heir_in c.args.plan.now.entries in
    let n = record_at c.args.arena.now.now c.args.node.0 in
    let old = there_is c.args.arena.now.now c.args.node.0 c.requires.change.there in
    let is = c.dims.invariant.here ∙ ap (option_map (with_mixed (own_before tuple heirs c.dims.dim) 0)) old in
    let had = c.dims.invariant.steps in
    let from = c.dims.invariant.from in
    let took = c.redirect_tuple_edge.ensures.steps in
    record {
      here = c.in_ok-redirect_tuple_edge.ensures.here
          ∙ ap (option_map (with_own heirs c.dims.dim (get_or tuple c.dims.dim None))) is
          ∙ ap (λ (m : Known). Some m) (own_more tuple heirs c.dims.dim n c.requires.rises)
          ∙ sym (ap (option_map (with_mixed (own_before tuple heirs (c.dims.dim + 1)) 0)) old);
      only = more_changes c.args.node.0 _ _ _ c.dims.invariant.only c.redirect_tuple_edge.ensures.only;
      opened = ap is_open c.redirect_tuple_edge.ensures.only.frame ∙ c.dims.invariant.opened;
      width = ap (λ (a : Arena). a.width) c.redirect_tuple_edge.ensures.only.frame ∙ c.dims.invariant.width;
      from = omega arith;
      steps = omega arith;
    }

pub returns-clause-here : goal.returns-clause-here
returns-clause-here g c =
    let tuple = c.args.tuple.now in
    let heirs = heir_in c.args.plan.now.entries in
    let old = there_is c.args.arena.now.now c.args.node.0 c.requires.change.there in
    let past = c.dims-test.false in
    let ends = c.dims-dim-end.ensures.value in
    let long = c.requires.long in
    c.dims.invariant.here ∙ ap (option_map (with_mixed (own_before tuple heirs c.dims.dim) 0)) old
    ∙ ap (λ (m : Known). Some m) (all_led tuple heirs c.dims.dim (record_at c.args.arena.now.now c.args.node.0)
    (λ k x e. let low = c.requires.dims k x e in omega arith))
    ∙ sym (ap (option_map (with_mixed (heir_target tuple heirs) 0)) old)
