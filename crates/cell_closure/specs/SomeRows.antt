-- Rows of a table, of which there are some.
use Rattle.std.specs.Prelude.{◌<◌, List, length}
use Rattle.base_table.specs.Places.{AreThere, IsTable, Places}
use Rattle.base_table.specs.declared.table.RowNo.{RowNo}

-- each of the numbers is that of a row of the table, and there are some
pub record AreSomeRows (t : Places) (nos : List RowNo) : Type 0 where
  pub table : IsTable t
  pub some : 0 < length nos
  pub there : AreThere t nos
