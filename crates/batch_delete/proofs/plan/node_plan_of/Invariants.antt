use Rattle.batch_delete.proofs.plan.node_plan_of.Given as goal

abbrev pub ghost-rest_of : goal.ghost-rest_of
ghost-rest_of g a = g.d

abbrev pub ghost-heir_at : goal.ghost-heir_at
ghost-heir_at g a = g.d
