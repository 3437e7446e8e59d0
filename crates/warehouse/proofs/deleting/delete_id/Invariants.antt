use Rattle.warehouse.proofs.deleting.delete_id.Given as goal

abbrev pub ghost-delete_row : goal.ghost-delete_row
ghost-delete_row g a = g.deletion
