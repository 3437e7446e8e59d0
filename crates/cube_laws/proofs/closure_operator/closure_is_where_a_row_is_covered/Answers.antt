use Rattle.cube_laws.proofs.Columns.{closure-some}
use Rattle.cube_laws.proofs.closure_operator.closure_is_where_a_row_is_covered.Goals as goal

pub returns : goal.returns
returns g c = λ rows c'. closure-some _ rows c'
