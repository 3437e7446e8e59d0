-- The neighbours of a class in the lattice of classes, and how far up it can be rolled.
use Rattle.std.specs.Prelude.{ℕ, Bool, not, ◌&&◌, ◌||◌, List, [], filter}
use Rattle.std.specs.declared.cmp.Ordering.{Ordering}
use Rattle.std.specs.Ordering.{eq_by_cmp}
use Rattle.std.specs.List.{list_all}
use Rattle.cube_defs.specs.Answers.{Ask, ClassHit, passes_bound}
use Rattle.cube_defs.specs.Cell.{Cell, cell_eq, leq}
use Rattle.cube_defs.specs.Rows.{Row, agg}
use Rattle.cube_defs.specs.Tree.{classes}

module _ {A : Type 0} (cmp : A → A → Ordering) where
  -- q is no third cell between p and u
  abbrev pub is_apart : Cell A → Cell A → Cell A → Bool
  is_apart p u q = not (leq (eq_by_cmp cmp) p q && leq (eq_by_cmp cmp) q u)
      || (cell_eq (eq_by_cmp cmp) q p || cell_eq (eq_by_cmp cmp) q u)

  -- p <= u, p is another cell than u, and no third class stands between
  abbrev pub is_parent : List (Row A) → Cell A → Cell A → Bool
  is_parent rows p u = leq (eq_by_cmp cmp) p u && not (cell_eq (eq_by_cmp cmp) p u)
      && list_all (is_apart p u) (classes cmp rows)

  -- the parents of a class, in cell order
  abbrev pub parents : List (Row A) → Cell A → List (Cell A)
  parents rows u = filter (λ p. is_parent rows p u) (classes cmp rows)

  -- the classes whose parent it is, in cell order
  abbrev pub children : List (Row A) → Cell A → List (Cell A)
  children rows u = filter (λ d. is_parent rows u d) (classes cmp rows)

  -- a class from u on that is asked for
  abbrev pub qualifies : ℕ → List (Row A) → Ask → Cell A → Cell A → Bool
  qualifies measures rows ask u d = leq (eq_by_cmp cmp) u d && passes_bound ask (agg (eq_by_cmp cmp) measures rows d)

  -- e is no other class that generalizes d that qualifies
  abbrev pub is_no_other : ℕ → List (Row A) → Ask → Cell A → Cell A → Cell A → Bool
  is_no_other measures rows ask u d e = not (qualifies measures rows ask u e && leq (eq_by_cmp cmp) e d)
      || cell_eq (eq_by_cmp cmp) e d

  -- it qualifies, and no other class that generalizes it does
  abbrev pub is_rolled : ℕ → List (Row A) → Ask → Cell A → Cell A → Bool
  is_rolled measures rows ask u d
      = qualifies measures rows ask u d && list_all (is_no_other measures rows ask u d) (classes cmp rows)

  -- the most general classes from u on that are asked for, in cell order
  abbrev pub rollup : ℕ → List (Row A) → Ask → Cell A → List (Cell A)
  rollup measures rows ask u = filter (is_rolled measures rows ask u) (classes cmp rows)

  -- a class without its lower bounds
  abbrev pub class_alone : ℕ → List (Row A) → Cell A → ClassHit A
  class_alone measures rows u = record { upper = u; agg = agg (eq_by_cmp cmp) measures rows u; lowers = [] }
