use Rattle.pinned_view.proofs.view.first_look.Given as goal

abbrev pub ghosts-look_from : goal.ghosts-look_from
ghosts-look_from a = record { name = a.blank.name; parts = a.blank.parts }
