use Rattle.warehouse_tests.proofs.main.Given as goal

abbrev pub ghosts-print_all : goal.ghosts-print_all
ghosts-print_all a = record { name = a.blank.name; parts = a.blank.parts }
