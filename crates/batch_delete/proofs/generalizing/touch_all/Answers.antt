use Rattle.std.proofs.Common.{◌∙◌, Some, ap, arith, refl, sym, true≢false}
use Rattle.std.proofs.lemmas.Option.{slice_get_within}
use Rattle.qc_arena.specs.Map.{Arena, is_open}
use Rattle.batch_delete.proofs.Growing.{item_at}
use Rattle.batch_delete.proofs.Touching.{only_more, touched_more}
use Rattle.batch_delete.proofs.generalizing.touch_all.Goals as goal

pub nodes-init : goal.nodes-init
nodes-init g c = record {
  touched = λ j b l e. absurd (omega (arith, l));
  only = λ q a b. absurd (true≢false (sym a ∙ b));
  now = refl;
  opened = c.requires.opened;
  width = refl;
  frame = refl;
  steps = omega arith;
}

pub touch-requires-clause-node : goal.touch-requires-clause-node
touch-requires-clause-node g c =
    let at = item_at c.args.list.now.items c.nodes.k c.index.result.now
    (omega (arith, c.len-k-end.ensures, c.nodes-test.true)) ∙ ap (λ b. Some b) (sym c.index.ensures) in
    rw c.nodes.invariant.now (c.requires.there c.nodes.k c.index.result.now at)

pub nodes-preserved : goal.nodes-preserved
nodes-preserved g c =
    let xs = c.args.list.now.items in
    let x = c.index.result.now in
    let at = item_at xs c.nodes.k x (omega (arith, c.len-k-end.ensures, c.nodes-test.true))
    ∙ ap (λ b. Some b) (sym c.index.ensures) in
    record {
      touched = touched_more xs c.nodes.k x at c.nodes.arena c.touch.new.self c.in_ok-touch.ensures.touched
          c.nodes.invariant.touched;
      only = only_more xs c.nodes.k x at c.nodes.arena c.touch.new.self c.in_ok-touch.ensures.touched c.args.arena.now
          c.nodes.invariant.only;
      now = c.touch.ensures.now ∙ c.nodes.invariant.now;
      opened = ap is_open c.touch.ensures.frame ∙ c.nodes.invariant.opened;
      width = ap (λ (a : Arena). a.width) c.touch.ensures.frame ∙ c.nodes.invariant.width;
      frame = c.touch.ensures.frame ∙ c.nodes.invariant.frame;
      steps = omega (arith, c.nodes.invariant.steps, c.touch.ensures.steps);
    }

pub returns-clause-touched : goal.returns-clause-touched
returns-clause-touched g c = λ k b e.
    let within = slice_get_within c.args.list.now.items k b e in
    c.nodes.invariant.touched k b (omega (arith, within, c.len-k-end.ensures, c.nodes-test.false)) e

pub returns-clause-only : goal.returns-clause-only
returns-clause-only g c = c.nodes.invariant.only
