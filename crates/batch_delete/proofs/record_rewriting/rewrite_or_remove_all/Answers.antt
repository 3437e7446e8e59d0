use Rattle.std.proofs.Common.{length, ◌∙◌, ◌+◌, Some, ap, arith, sym}
use Rattle.qc_arena.specs.Map.{Arena, is_open}
use Rattle.std.proofs.lemmas.Option.{slice_get_within}
use Rattle.batch_delete.proofs.Growing.{item_at}
use Rattle.batch_delete.proofs.Settling.{can_rewrite, done_more, new_rest, others_all, others_more, same_long, settling_more}
use Rattle.batch_delete.proofs.Settling.{settling_taken, there_more}
use Rattle.batch_delete.proofs.record_rewriting.rewrite_or_remove_all.Goals as goal

pub rewrite_or_remove-requires : goal.rewrite_or_remove-requires
rewrite_or_remove-requires g c =
    let a = c.args.arena.now in
    let xs = c.args.list.now.items in
    let at = item_at xs c.nodes.k c.index.result.now (omega (arith, c.len-k-end.ensures, c.nodes-test.true))
    ∙ ap (λ b. Some b) (sym c.index.ensures) in
    record {
      node = can_rewrite a.width a.now c.args.tuple.now c.args.plan.now.entries xs c.requires.ready c.nodes.k
          c.index.result.now at c.nodes.arena c.nodes.invariant.others c.nodes.invariant.there c.nodes.invariant.width
          c.nodes.invariant.opened (c.nodes.invariant.touched c.index.result.now.node.0
          ∙ c.requires.touched c.nodes.k c.index.result.now at) c.requires.long;
      rest = new_rest a.width a.now c.args.tuple.now c.args.plan.now.entries xs c.requires.ready c.nodes.k
          c.index.result.now at c.nodes.arena c.nodes.invariant.others c.nodes.invariant.there c.nodes.invariant.width;
    }

pub returns-in_err-rewrite_or_remove-clause-others : goal.returns-in_err-rewrite_or_remove-clause-others
returns-in_err-rewrite_or_remove-clause-others g c =
    let a = c.args.arena.now in
    let xs = c.args.list.now.items in
    let at = item_at xs c.nodes.k c.index.result.now (omega (arith, c.len-k-end.ensures, c.nodes-test.true))
    ∙ ap (λ b. Some b) (sym c.index.ensures) in
    others_all a.width a.now c.args.tuple.now c.args.plan.now.entries xs c.requires.ready c.nodes.k c.index.result.now
    at c.nodes.arena c.nodes.invariant.others c.nodes.invariant.there c.rewrite_or_remove.new.arena.now
    c.rewrite_or_remove.ensures.only.others

pub returns-in_err-rewrite_or_remove-clause-steps : goal.returns-in_err-rewrite_or_remove-clause-steps
returns-in_err-rewrite_or_remove-clause-steps g c =
    let a = c.args.arena.now in
    let xs = c.args.list.now.items in
    let at = item_at xs c.nodes.k c.index.result.now (omega (arith, c.len-k-end.ensures, c.nodes-test.true))
    ∙ ap (λ b. Some b) (sym c.index.ensures) in
    let long = same_long a.width a.now c.args.tuple.now c.args.plan.now.entries xs c.requires.ready c.nodes.k
    c.index.result.now at c.nodes.arena c.nodes.invariant.others c.nodes.invariant.there in
    let more = settling_more (length c.args.tuple.now) a.now xs c.nodes.k c.index.result.now at in
    let all = settling_taken (length c.args.tuple.now) a.now xs (c.nodes.k + 1) in
    let had = c.nodes.invariant.steps in
    let took = c.rewrite_or_remove.ensures.steps in
    omega arith

pub nodes-preserved : goal.nodes-preserved
nodes-preserved g c =
    let a = c.args.arena.now in
    let xs = c.args.list.now.items in
    let at = item_at xs c.nodes.k c.index.result.now (omega (arith, c.len-k-end.ensures, c.nodes-test.true))
    ∙ ap (λ b. Some b) (sym c.index.ensures) in
    let long = same_long a.width a.now c.args.tuple.now c.args.plan.now.entries xs c.requires.ready c.nodes.k
    c.index.result.now at c.nodes.arena c.nodes.invariant.others c.nodes.invariant.there in
    let more = settling_more (length c.args.tuple.now) a.now xs c.nodes.k c.index.result.now at in
    let had = c.nodes.invariant.steps in
    let took = c.rewrite_or_remove.ensures.steps in
    record {
      done = done_more a.width a.now c.args.tuple.now c.args.plan.now.entries xs c.requires.ready c.nodes.k
          c.index.result.now at c.nodes.arena c.nodes.invariant.others c.nodes.invariant.there
          c.rewrite_or_remove.new.arena.now c.rewrite_or_remove.ensures.only.others c.in_ok-rewrite_or_remove.ensures.here
          c.nodes.invariant.done;
      others = others_more a.width a.now c.args.tuple.now c.args.plan.now.entries xs c.requires.ready c.nodes.k
          c.index.result.now at c.nodes.arena c.nodes.invariant.others c.nodes.invariant.there
          c.rewrite_or_remove.new.arena.now c.rewrite_or_remove.ensures.only.others;
      there = there_more a.width a.now c.args.tuple.now c.args.plan.now.entries xs c.requires.ready c.nodes.k
          c.index.result.now at c.nodes.arena c.nodes.invariant.others c.nodes.invariant.there
          c.rewrite_or_remove.new.arena.now c.rewrite_or_remove.ensures.only.others c.in_ok-rewrite_or_remove.ensures.here;
      touched = λ q. c.rewrite_or_remove.ensures.only.touched q ∙ c.nodes.invariant.touched q;
      opened = ap is_open c.rewrite_or_remove.ensures.only.frame ∙ c.nodes.invariant.opened;
      width = ap (λ (a : Arena). a.width) c.rewrite_or_remove.ensures.only.frame ∙ c.nodes.invariant.width;
      frame = c.rewrite_or_remove.ensures.only.frame ∙ c.nodes.invariant.frame;
      steps = omega arith;
    }

pub returns-clause-here : goal.returns-clause-here
returns-clause-here g c =
    let ends = c.len-k-end.ensures in
    let past = c.nodes-test.false in
    λ k b e. let within = slice_get_within c.args.list.now.items k b e in c.nodes.invariant.done k b (omega arith) e

pub returns-in_err-rewrite_or_remove-clause-touched : goal.returns-in_err-rewrite_or_remove-clause-touched
returns-in_err-rewrite_or_remove-clause-touched g c = λ q. c.rewrite_or_remove.ensures.only.touched q
    ∙ c.nodes.invariant.touched q

pub returns-in_err-rewrite_or_remove-clause-frame : goal.returns-in_err-rewrite_or_remove-clause-frame
returns-in_err-rewrite_or_remove-clause-frame g c = c.rewrite_or_remove.ensures.only.frame ∙ c.nodes.invariant.frame

pub returns-clause-others : goal.returns-clause-others
returns-clause-others g c = λ q none. c.nodes.invariant.others q (λ j b l e. none j b e)

pub returns-clause-steps : goal.returns-clause-steps
returns-clause-steps g c =
    let all = settling_taken (length c.args.tuple.now) c.args.arena.now.now c.args.list.now.items c.nodes.k in
    let had = c.nodes.invariant.steps in
    omega arith
