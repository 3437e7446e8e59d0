-- What a tree says of a cell is what its rows come to.
use Rattle.std.proofs.Common.{◌≡◌, ℕ, List, [], ◌∷◌, map, refl}
use Rattle.std.specs.Option.{option_map}
use Rattle.std.specs.Ordering.{eq_by_cmp, nat_cmp}
use Rattle.cube_defs.specs.Cell.{Cell, cell_of}
use Rattle.cube_defs.specs.Rows.{Row, agg_of, cov, meet_all}
use Rattle.cube_laws.specs.Total.{agg_at, agg_some}
use Rattle.tree_search.specs.Found.{TreeRows, total_in}

total-some : (measures : ℕ) (covered : List (Row ℕ))
    → option_map (λ _. agg_of measures covered) (meet_all (eq_by_cmp nat_cmp) (map (λ row. cell_of row.tuple) covered))
    ≡ agg_some measures covered
total-some measures [] = refl
total-some measures (r ∷ rows) = refl

pub total-at : (source : TreeRows) (cell : Cell ℕ)
    → total_in source cell ≡ agg_at (eq_by_cmp nat_cmp) source.measures source.rows cell
total-at source cell = total-some source.measures (cov (eq_by_cmp nat_cmp) source.rows cell)
