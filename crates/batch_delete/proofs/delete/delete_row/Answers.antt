use Rattle.std.proofs.Common.{◌≡◌, ◌∙◌, OnOk, Ok, Err, ap, refl, sym}
use Rattle.std.specs.FinMap as map
use Rattle.std.specs.declared.result.Result.{Result}
use Rattle.cube_defs.specs.Tree.{cell_at}
use Rattle.qc_arena.specs.Map.{Arena, is_open}
use Rattle.tree_laws.proofs.CallerLemmas as lists
use Rattle.tree_search.specs.Found.{IsTreeOf, TreeRows}
use Rattle.batch_delete.specs.Rests.{source_before}
use Rattle.batch_delete.proofs.Outcomes.{apart, ready}
use Rattle.batch_delete.proofs.Renewed.{comes, renewed, still}
use Rattle.batch_delete.proofs.Summed.{all_steps}
use Rattle.batch_delete.proofs.delete.delete_row.Goals as goal

on_ok : {T E : Type 0} {A B : Type 0} (r : Result T E) → OnOk r A → (A → B) → OnOk r B
on_ok (Ok x) h f = f h
on_ok (Err e) h f = h

-- the tree is the same once its nodes are touched
still_from : (old new : Arena) (source : TreeRows) → new.now ≡ old.now → new.width ≡ old.width
    → IsTreeOf old.width old.now source → IsTreeOf new.width new.now source
still_from old new source now width h
    = rw now (rw width h)

pub rewrite_or_remove_all-requires : goal.rewrite_or_remove_all-requires
rewrite_or_remove_all-requires g c =
    let a = c.touch_all.new.arena in
    let tuple = c.args.tuple.now in
    let list = c.in-Ok.list.items in
    let width = ap (λ (x : Arena). x.width) c.touch_all.ensures.frame in
    let from = still_from c.args.arena.now a (source_before g.deletion) c.touch_all.ensures.now width
    c.requires.1.1.1.0 in
    let below = rw (← c.touch_all.ensures.now) at c.in-Ok.ensures.below in
    let long = c.requires.1.1.0 ∙ sym width in
    record {
      opened = ap is_open c.touch_all.ensures.frame ∙ c.requires.1.0;
      touched = c.in-Ok-touch_all.ensures.touched;
      long = long;
      ready = ready a.width a.now tuple g.deletion from long c.requires.1.1.1.1.0 c.in-Ok-plan_all.plan.entries list
          below c.in-Ok-plan_all.ensures.planned;
    }

pub returns : goal.returns
returns g c =
    let a = c.touch_all.new.arena in
    let new = c.rewrite_or_remove_all.new.arena.now in
    let tuple = c.args.tuple.now in
    let list = c.in-Ok.list.items in
    let plan = c.in-Ok-plan_all.plan.entries in
    let width = ap (λ (x : Arena). x.width) c.touch_all.ensures.frame in
    let long = c.requires.1.1.0 ∙ sym width in
    let row = c.requires.1.1.1.1.0 in
    let from = still_from c.args.arena.now a (source_before g.deletion) c.touch_all.ensures.now width
    c.requires.1.1.1.0 in
    let below = rw (← c.touch_all.ensures.now) at c.in-Ok.ensures.below in
    let planned = c.in-Ok-plan_all.ensures.planned in
    let others = c.rewrite_or_remove_all.ensures.others in
    record {
      tree = on_ok c.rewrite_or_remove_all.result c.rewrite_or_remove_all.ensures.here
          (λ here. rw (← width) (renewed a.width a.now new tuple g.deletion from long row plan list below planned here others));
      numbers = on_ok c.rewrite_or_remove_all.result c.rewrite_or_remove_all.ensures.here
          (λ here k x at node. still a.width a.now new tuple g.deletion from long row plan list below planned here
          others k x (ap (λ t. cell_at t k) c.touch_all.ensures.now ∙ at) node);
      none_new = on_ok c.rewrite_or_remove_all.result c.rewrite_or_remove_all.ensures.here
          (λ here k x at. ap (λ t. cell_at t k) (sym c.touch_all.ensures.now)
          ∙ (comes a.width a.now new tuple g.deletion from long row plan list below planned here others k x at).0);
      apart = λ k n at off. apart a.width a.now tuple g.deletion from long row plan list below planned new others k n
          (ap (λ t. map.get t k) c.touch_all.ensures.now ∙ at) off;
      touched = on_ok c.rewrite_or_remove_all.result c.rewrite_or_remove_all.ensures.here (λ here k now was.
          let x = c.in-Ok-touch_all.ensures.only k (sym (c.rewrite_or_remove_all.ensures.touched k) ∙ now) was in (
            x.1.cell,
            ap (cell_at c.args.arena.now.now) (sym x.3) ∙ c.in-Ok.ensures.below.cells x.0 x.1 x.2,
            c.in-Ok.ensures.below.below x.0 x.1 x.2,
          ));
      frame = c.rewrite_or_remove_all.ensures.frame ∙ c.touch_all.ensures.frame;
      steps = on_ok c.rewrite_or_remove_all.result c.rewrite_or_remove_all.ensures.here
          (λ here. all_steps a.width a.now tuple g.deletion from long row list below c.args.steps.now
          c.collect.new.steps c.touch_all.new.steps c.plan_all.new.steps c.rewrite_or_remove_all.new.steps
          c.in-Ok.ensures.steps c.touch_all.ensures.steps c.in-Ok-plan_all.ensures.steps
          c.rewrite_or_remove_all.ensures.steps);
    }

pub collect-requires : goal.collect-requires
collect-requires g c = record { tree = (source_before g.deletion, c.requires.1.1.1.0); long = c.requires.1.1.0 }

pub touch_all-requires : goal.touch_all-requires
touch_all-requires g c =
    record {
      opened = c.requires.1.0;
      there
          = λ k b e. lists.there c.args.arena.now.now b.node.0 b.cell (c.in-Ok.ensures.below.cells k b e);
    }

pub plan_all-requires : goal.plan_all-requires
plan_all-requires g c κs within =
    let width = ap (λ (x : Arena). x.width) c.touch_all.ensures.frame in (
      within,
      (
        record {
          tree = still_from c.args.arena.now c.touch_all.new.arena (source_before g.deletion) c.touch_all.ensures.now
              width c.requires.1.1.1.0;
          long = c.requires.1.1.0 ∙ sym width;
          tuple = c.requires.1.1.1.1.0;
          duplicates = c.requires.1.1.1.1.1.1;
          few = c.requires.1.1.1.1.1.0;
        },
        rw c.touch_all.ensures.now c.in-Ok.ensures.below,
      ),
    )

pub returns-in-Err : goal.returns-in-Err
returns-in-Err g c = record {
  tree = tt;
  numbers = tt;
  none_new = tt;
  apart = λ k n at off. at;
  touched = tt;
  frame
      = refl;
  steps = tt;
}

pub returns-in-Err-touch_all : goal.returns-in-Err-touch_all
returns-in-Err-touch_all g c
    = record {
      tree = tt;
      numbers = tt;
      none_new = tt;
      apart
          = λ k n at off. ap (λ t. map.get t k) c.touch_all.ensures.now ∙ at;
      touched = tt;
      frame
          = c.touch_all.ensures.frame;
      steps = tt;
    }

pub returns-in-Err-plan_all : goal.returns-in-Err-plan_all
returns-in-Err-plan_all g c
    = record {
      tree = tt;
      numbers = tt;
      none_new = tt;
      apart
          = λ k n at off. ap (λ t. map.get t k) c.touch_all.ensures.now ∙ at;
      touched = tt;
      frame
          = c.touch_all.ensures.frame;
      steps = tt;
    }
