use Rattle.qc_session.proofs.scripts.pack_files.Given as goal

abbrev pub ghosts-read_files : goal.ghosts-read_files
ghosts-read_files g a = record { name = a.blank.name; parts = a.blank.parts }
