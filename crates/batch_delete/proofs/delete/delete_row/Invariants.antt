use Rattle.batch_delete.proofs.delete.delete_row.Given as goal

abbrev pub ghost-plan_all : goal.ghost-plan_all
ghost-plan_all g a = g.deletion
