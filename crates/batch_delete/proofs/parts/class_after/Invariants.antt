use Rattle.batch_delete.proofs.parts.class_after.Given as goal

abbrev pub ghost-all_parts : goal.ghost-all_parts
ghost-all_parts g a = g.d
