use Rattle.std.proofs.Common.{◌∙◌, ap, arith, is_some, sym}
use Rattle.qc_arena.specs.Map.{Arena}
use Rattle.qc_arena.specs.RecordReaders.{record_at}
use Rattle.tree_search.proofs.CallerLemmas.{there_is}
use Rattle.batch_delete.specs.Plan.{heir_in, next_entry}
use Rattle.batch_delete.proofs.Rewritten.{all_mended, cut_is, cut_rises, cut_was, left_leads}
use Rattle.batch_delete.proofs.Rewriting.{changed, more_changes, there_still}
use Rattle.batch_delete.proofs.record_rewriting.rewrite_record.Goals as goal

pub redirect_tuple_edges-requires : goal.redirect_tuple_edges-requires
redirect_tuple_edges-requires g c =
    let a = c.args.arena.now in
    let k = c.args.below.now.node.0 in
    let n = record_at a.now k in
    let tuple = c.args.tuple.now in
    let heirs = heir_in c.args.plan.now.entries in
    let old = there_is a.now k c.requires.node.change.there in
    let is = cut_is n _ _ c.next_value-next.result old c.cut_edges.ensures.here in
    let was = cut_was n _ _ c.next_value-next.result old c.cut_edges.ensures.here in
    let wide = ap (λ (a : Arena). a.width) c.cut_edges.ensures.only.frame in
    let entry = c.next_value-next.ensures.entry
    ∙ ap (λ n. next_entry n c.args.rest.now.shared) c.depth-from.ensures.value in
    let within = c.depth-from.ensures.within in
    let cell = c.requires.node.cell in
    let long = c.requires.node.long in
    record {
      change = changed a c.cut_edges.new.arena k _ c.cut_edges.ensures.here c.cut_edges.ensures.only
          c.requires.node.change;
      long = long ∙ sym wide;
      from = omega arith;
      rises = cut_rises n _ _ c.next_value-next.result old c.cut_edges.ensures.here c.cut_edges.ensures.rises;
      dims = λ j x e. let w = was j x e in rw wide (c.requires.node.dims w.0 x w.1);
      behind = λ j x e. let w = was j x e in rw c.depth-from.ensures.value (c.requires.node.behind w.0 x w.1);
      targets = λ j t x e own.
          let w = was j x e in
          let led = left_leads n _ _ c.next_value-next.result old c.cut_edges.ensures.here tuple heirs x t w.2 own in
          there_still a.now c.cut_edges.new.arena.now k c.cut_edges.ensures.only.others (ap is_some is) t
          (c.requires.rest.targets w.0 t x w.1 (rw (← entry) led));
    }

pub returns-clause-here : goal.returns-clause-here
returns-clause-here g c =
    all_mended (record_at c.args.arena.now.now c.args.below.now.node.0) _ _ c.next_value-next.result
    (there_is c.args.arena.now.now c.args.below.now.node.0 c.requires.node.change.there) c.cut_edges.ensures.here
    c.args.tuple.now (heir_in c.args.plan.now.entries) c.args.below.now.cell c.args.rest.now _ _ _ _
    (c.next_value-next.ensures.entry ∙ ap (λ n. next_entry n c.args.rest.now.shared) c.depth-from.ensures.value)
    c.class_agg_of_rest-class.ensures
    c.in-Ok.ensures.here c.rewrite_forced.ensures.here c.set_class.ensures.here

pub rewrite_forced-requires : goal.rewrite_forced-requires
rewrite_forced-requires g c = record {
  change = changed c.cut_edges.new.arena c.redirect_tuple_edges.new.arena c.args.below.now.node.0 _
      c.in-Ok.ensures.here c.redirect_tuple_edges.ensures.only
      (changed c.args.arena.now c.cut_edges.new.arena c.args.below.now.node.0 _ c.cut_edges.ensures.here
      c.cut_edges.ensures.only c.requires.node.change);
  code = c.next_value-next.ensures.small;
}

pub set_class-requires : goal.set_class-requires
set_class-requires g c = record {
  change = changed c.redirect_tuple_edges.new.arena c.rewrite_forced.new.arena c.args.below.now.node.0 _
      c.rewrite_forced.ensures.here c.rewrite_forced.ensures.only
      (changed c.cut_edges.new.arena c.redirect_tuple_edges.new.arena c.args.below.now.node.0 _ c.in-Ok.ensures.here
      c.redirect_tuple_edges.ensures.only
      (changed c.args.arena.now c.cut_edges.new.arena c.args.below.now.node.0 _ c.cut_edges.ensures.here
      c.cut_edges.ensures.only c.requires.node.change));
}

pub returns-clause-only : goal.returns-clause-only
returns-clause-only g c =
    let k = c.args.below.now.node.0 in
    more_changes k _ _ _ (more_changes k _ _ _ (more_changes k _ _ _ c.cut_edges.ensures.only
    c.redirect_tuple_edges.ensures.only) c.rewrite_forced.ensures.only) (record {
      others = c.set_class.ensures.others;
      touched = c.set_class.ensures.touched;
      frame = c.set_class.ensures.frame;
    })

pub returns-in-Err-clause-only : goal.returns-in-Err-clause-only
returns-in-Err-clause-only g c = more_changes c.args.below.now.node.0 _ _ _ c.cut_edges.ensures.only
    c.redirect_tuple_edges.ensures.only
