use Rattle.batch_delete.proofs.parts.own_part.Given as goal

abbrev pub ghost-find_from : goal.ghost-find_from
ghost-find_from g a = g.d
