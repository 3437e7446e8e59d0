use Rattle.cube_defs.specs.Answers.{lower_bounds}
use Rattle.cube_defs.specs.Rows.{is_lower_bound}
use Rattle.cube_laws.proofs.Listed.{lower_bounds-is}
use Rattle.cube_laws.proofs.Lists.{all_from}
use Rattle.cube_laws.proofs.Orders.{equality-path}
use Rattle.cube_laws.specs.Lists.{Among}
use Rattle.std.proofs.Common.{length, subst, true, ◌↔◌, ◌≡◌}
use Rattle.cube_laws.proofs.lists_of_cells.lower_bounds_are_listed.Goals as goal

pub returns : goal.returns
returns g c = λ n rows u c' long. subst (λ e. Among c' (lower_bounds g.V.Ord.cmp rows u)
    ↔ ((length c' ≡ n) × (is_lower_bound e rows u c' ≡ true))) (equality-path _ g.met.V.Ord.matches_eq)
    (lower_bounds-is g.met.V.Ord.total g.met.V.Value.apart rows n (all_from _ rows long) u c')
