use Rattle.batch_delete.proofs.searches.search_on.Given as goal

abbrev pub ghost-find_some : goal.ghost-find_some
ghost-find_some g a = g.d
