use Rattle.batch_delete.proofs.plan.rest_of.Given as goal

abbrev pub ghost-class_after : goal.ghost-class_after
ghost-class_after g a = g.d
