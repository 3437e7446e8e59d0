use Rattle.batch_delete.proofs.plan.plan_all.Given as goal

abbrev pub ghost-plan_row : goal.ghost-plan_row
ghost-plan_row g a = g.d
