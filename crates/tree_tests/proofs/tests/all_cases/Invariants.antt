use Rattle.tree_tests.proofs.tests.all_cases.Given as goal

abbrev pub ghosts-over_trees : goal.ghosts-over_trees
ghosts-over_trees g a = record { name = a.blank.name; parts = a.blank.parts }
