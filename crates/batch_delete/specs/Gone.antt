-- What is left when a row has gone.
use Rattle.tree_search.specs.Found.{TreeRows}
use Rattle.batch_delete.specs.Rests.{Deletion, rows_after}

abbrev pub source_after : Deletion → TreeRows
source_after d = record { measures = d.measures; rows = rows_after d }
