use Rattle.std.proofs.Common.{IsTrue, arith, rules, ◌∙◌}
use Rattle.std.proofs.lemmas.List.{get_or-set_other}
use Rattle.std.proofs.lemmas.List.Elements.{All-set}
use Rattle.cell_core.specs.Codes.{is_kept}
use Rattle.cell_core.proofs.CodesLemmas.{cell_prefix_from_points, cleared-more}
use Rattle.cell_core.proofs.codes.upto.Goals as goal

pub returns-clause-upto : goal.returns-clause-upto
returns-clause-upto c = cell_prefix_from_points _ _ _ c.loop-i.auto.c (λ k l. c.loop-i.invariant.kept k (omega arith))
    (λ k l m. c.loop-i.invariant.cleared k (omega arith) (omega arith))

pub loop-i-preserved : goal.loop-i-preserved
loop-i-preserved c = record {
  kept = λ k b. get_or-set_other c.loop-i.c c.loop-i.i k 4294967295 0 (omega arith) ∙ c.loop-i.invariant.kept k b;
  all_kept = λ h. All-set (λ code. IsTrue (is_kept code)) c.loop-i.c c.loop-i.i 4294967295 (search rules)
      (c.loop-i.invariant.all_kept h);
  cleared = λ k b. cleared-more c.loop-i.c c.loop-i.i k (omega arith) (c.loop-i.invariant.cleared k b);
}
