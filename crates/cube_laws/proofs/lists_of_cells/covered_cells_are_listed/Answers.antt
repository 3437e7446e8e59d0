use Rattle.cube_defs.specs.Rows.{Row, covers}
use Rattle.cube_defs.specs.Tree.{covered}
use Rattle.cube_laws.proofs.Covered.{covered-is}
use Rattle.cube_laws.proofs.Orders.{equality-path}
use Rattle.cube_laws.specs.Lists.{Among}
use Rattle.std.proofs.Common.{length, subst, true, ◌↔◌, ◌≡◌}
use Rattle.cube_laws.proofs.lists_of_cells.covered_cells_are_listed.Goals as goal

pub returns : goal.returns
returns g c = λ rows c'. subst (λ e. Among c' (covered g.V.Ord.cmp rows)
    ↔ ((r : Row _) × Among r rows × (length c' ≡ length r.tuple) × (covers e c' r ≡ true)))
    (equality-path _ g.met.V.Ord.matches_eq) (covered-is g.met.V.Ord.total g.met.V.Value.apart rows c')
