use Rattle.cube_defs.specs.Answers.{in_box, range}
use Rattle.cube_defs.specs.Cell.{Cell}
use Rattle.cube_defs.specs.Rows.{agg, closure}
use Rattle.cube_laws.proofs.Listed.{range-is}
use Rattle.cube_laws.proofs.Lists.{all_from}
use Rattle.cube_laws.proofs.Orders.{equality-path}
use Rattle.cube_laws.specs.Lists.{Among}
use Rattle.std.proofs.Common.{Some, length, subst, true, ◌↔◌, ◌≡◌}
use Rattle.cube_laws.proofs.lists_of_cells.range_has_the_covered_cells_of_the_box.Goals as goal

pub returns : goal.returns
returns g c = λ n measures rows box hit long. subst (λ e. Among hit (range g.V.Ord.cmp measures rows box)
    ↔ ((length hit.cell ≡ n) × (in_box e box hit.cell ≡ true) × ((u : Cell _) × (closure e rows hit.cell ≡ Some u))
    × (hit.agg ≡ agg e measures rows hit.cell))) (equality-path _ g.met.V.Ord.matches_eq)
    (range-is g.met.V.Ord.total g.met.V.Value.apart rows n (all_from _ rows long) measures box hit)
