use Rattle.batch_delete.proofs.stays.settled.Given as goal

abbrev pub ghost-agg_without_row : goal.ghost-agg_without_row
ghost-agg_without_row g a = g.d
