use Rattle.std.proofs.Common.{IsTrue, arith, get_or, rules, sym, ◌≡◌, ◌∙◌}
use borrow.Author.Count.{below_more}
use Rattle.std.proofs.lemmas.List.{get_or-set_other}
use Rattle.std.proofs.lemmas.List.Elements.{All-set}
use Rattle.cell_core.specs.Codes.{is_kept}
use Rattle.cell_core.proofs.CodesLemmas.{meet_cleared, meet_from_points, meet-same, code_meet}
use Rattle.cell_core.proofs.codes.meet_into.Goals as goal
use Rattle.cell_core.proofs.codes.meet_into.Goals.{then-c-i, else-c-i}

pub loop-i-preserved : goal.loop-i-preserved
loop-i-preserved c = elim c.if-c-i.branch [
  | then-c-i w ↦ rw w.c-is (record {
    done = λ k b. meet_cleared c.loop-i.c c.args.c.now c.args.d.now c.loop-i.i k (omega arith) w.if-c-i.true
        (c.loop-i.invariant.rest c.loop-i.i (omega arith)) (c.loop-i.invariant.done k) b;
    kept = λ h. All-set (λ code. IsTrue (is_kept code)) c.loop-i.c c.loop-i.i 4294967295 (search rules)
        (c.loop-i.invariant.kept h);
    rest = λ k b. get_or-set_other c.loop-i.c c.loop-i.i k 4294967295 0 (omega arith)
        ∙ c.loop-i.invariant.rest k (omega arith);
  })
  | else-c-i w ↦ rw w.c-is (record {
    done = below_more (λ k. get_or c.loop-i.c k 0 ≡ code_meet (get_or c.args.c.now k 0) (get_or c.args.d.now k 0))
        c.loop-i.i c.loop-i.invariant.done
        (let here = c.loop-i.invariant.rest c.loop-i.i (omega arith) in
        here ∙ meet-same (get_or c.args.c.now c.loop-i.i 0) (get_or c.args.d.now c.loop-i.i 0) (sym here
        ∙ w.if-c-i.false));
    kept = c.loop-i.invariant.kept;
    rest = λ k b. c.loop-i.invariant.rest k (omega arith);
  })
]

pub returns-clause-meet : goal.returns-clause-meet
returns-clause-meet c =
    meet_from_points _ _ _ c.loop-i.auto.c c.requires (λ k l. c.loop-i.invariant.done k (omega arith))
