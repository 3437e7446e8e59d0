-- What a walk along a box costs, beside the cells that are reached before each dimension.
use Rattle.std.proofs.Common.{◌≡◌, ℕ, zero, suc, ◌+◌, ◌*◌, ◌≤◌, Bool, true, false, cond, Some, None, List, [], ◌∷◌, ◌++◌, filter, length}
use Rattle.std.proofs.Common.{length-append, flat_map, replicate, refl, sym, ap, ap₂, ◌∙◌, arith}
use Rattle.std.specs.Prelude.{sum_by}
use Rattle.std.specs.declared.cmp.Ordering.{Ordering}
use Rattle.std.specs.Ordering.{eq_by_cmp}
use Rattle.std.specs.Cmp.{IsTotalOrder}
use Rattle.std.specs.FinMap.{IsAntisymmetric}
use Rattle.std.specs.List.{AllByRecursion}
use Rattle.std.proofs.lemmas.List.Sums.{sum_by-cons}
use Rattle.cube_defs.specs.Cell.{Cell, with_value}
use Rattle.cube_defs.specs.Rows.{Row}
use Rattle.cube_defs.specs.Tree.{covered}
use Rattle.cube_defs.specs.Answers.{Box, in_box}
use Rattle.range_query.specs.Met.{cost, if_covered, is_covered, met}
use Rattle.value_dict.specs.Boxes.{IsOrdered}
use Rattle.range_query.specs.Work.{choices, prefix_box, reached, total_over, work}
use Rattle.range_query.proofs.MetCells.{met_is}

module _ {A : Type 0} where
  total_same : (f g : ℕ → ℕ) (box : Box A) → ((j : ℕ) → f j ≡ g j) → total_over f box ≡ total_over g box
  total_same f g [] h = refl
  total_same f g (a ∷ box) h
      = ap₂ (λ m n. m * (1 + choices a) + n) (h 0) (total_same (λ j. f (suc j)) (λ j. g (suc j)) box (λ j. h (suc j)))

  total_none : (f : ℕ → ℕ) (box : Box A) → ((j : ℕ) → f j ≡ 0) → total_over f box ≡ 0
  total_none f [] h = refl
  total_none f (a ∷ box) h
      = ap₂ (λ m n. m * (1 + choices a) + n) (h 0) (total_none (λ j. f (suc j)) box (λ j. h (suc j)))
      ∙ zero_left (choices a)
    where
      zero_left : (n : ℕ) → 0 * (1 + n) + 0 ≡ 0
      zero_left n = omega arith

  total_plus : (f g : ℕ → ℕ) (box : Box A) → total_over (λ j. f j + g j) box ≡ total_over f box + total_over g box
  total_plus f g [] = refl
  total_plus f g (a ∷ box)
      = apart (f 0) (g 0) (1 + choices a) (total_over (λ j. f (suc j)) box) (total_over (λ j. g (suc j)) box) _
      (total_plus (λ j. f (suc j)) (λ j. g (suc j)) box)
    where
      apart : (m n k x y z : ℕ) → z ≡ x + y → (m + n) * k + z ≡ (m * k + x) + (n * k + y)
      apart m n k x y z e = grind (arith, e)

  pub prefix_long : (j : ℕ) (box : Box A) → length (prefix_box j box) ≡ length box
  prefix_long j [] = refl
  prefix_long zero (a ∷ box) = ap suc (prefix_long zero box)
  prefix_long (suc j) (a ∷ box) = ap suc (prefix_long j box)

  pub prefix_ordered : (cmp : A → A → Ordering) (j : ℕ) (box : Box A) → IsOrdered cmp box
      → IsOrdered cmp (prefix_box j box)
  prefix_ordered cmp j [] o = tt
  prefix_ordered cmp zero (None ∷ box) o = prefix_ordered cmp zero box o
  prefix_ordered cmp zero (Some vs ∷ box) o = prefix_ordered cmp zero box o.1
  prefix_ordered cmp (suc j) (None ∷ box) o = prefix_ordered cmp j box o
  prefix_ordered cmp (suc j) (Some vs ∷ box) o = (o.0, prefix_ordered cmp j box o.1)

module _ {A : Type 0} (eq : A → A → Bool) (rows : List (Row A)) where
  -- the cells that are reached from p before each dimension
  abbrev reached_from : Box A → Cell A → ℕ → ℕ → ℕ
  reached_from box p i j = length (met eq rows (prefix_box j box) p i)

  abbrev pub labels : Box A → Cell A → ℕ → ℕ
  labels box p i = total_over (reached_from box p i) box

  any_one : (box : Box A) (p : Cell A) (i : ℕ) → length (met eq rows (prefix_box 0 box) p i) ≡ 1
  any_one [] p i = refl
  any_one (a ∷ box) p i = any_one box p (suc i)

  labels_any : (box : Box A) (p : Cell A) (i : ℕ) → labels (None ∷ box) p i ≡ 1 + labels box p (suc i)
  labels_any box p i = ap (λ n. n * 1 + labels box p (suc i)) (any_one (None ∷ box) p i)

  -- the work after one value
  abbrev behind : Box A → Cell A → ℕ → A → ℕ
  behind box p i v = if_covered eq rows 0 (λ q. labels box q (suc i)) (with_value p i v)

  abbrev one_from : Box A → Cell A → ℕ → ℕ → A → List (Cell A)
  one_from box p i j v = if_covered eq rows [] (λ q. met eq rows (prefix_box j box) q (suc i)) (with_value p i v)

  labels_one : (box : Box A) (p : Cell A) (i : ℕ) (v : A)
      → total_over (λ j. length (one_from box p i j v)) box ≡ behind box p i v
  labels_one box p i v = go (is_covered eq rows (with_value p i v))
    where
      go : (b : Bool) → total_over (λ j. length (cond b (met eq rows (prefix_box j box) (with_value p i v) (suc i)) []))
          box ≡ cond b (labels box (with_value p i v) (suc i)) 0
      go true = refl
      go false = total_none (λ j. 0) box (λ j. refl)

  labels_all : (box : Box A) (p : Cell A) (i : ℕ) (vs : List A)
      → total_over (λ j. length (flat_map (one_from box p i j) vs)) box ≡ sum_by (behind box p i) vs
  labels_all box p i [] = total_none (λ j. 0) box (λ j. refl)
  labels_all box p i (v ∷ vs) =
      total_same (λ j. length (one_from box p i j v ++ flat_map (one_from box p i j) vs))
      (λ j. length (one_from box p i j v) + length (flat_map (one_from box p i j) vs)) box
      (λ j. length-append (one_from box p i j v) (flat_map (one_from box p i j) vs))
      ∙ total_plus (λ j. length (one_from box p i j v)) (λ j. length (flat_map (one_from box p i j) vs)) box
      ∙ ap₂ (λ m n. m + n) (labels_one box p i v) (labels_all box p i vs)
      ∙ sym (sum_by-cons (behind box p i) v vs)

  labels_codes : (box : Box A) (p : Cell A) (i : ℕ) (vs : List A)
      → labels (Some vs ∷ box) p i ≡ (1 + length vs) + sum_by (behind box p i) vs
  labels_codes box p i vs = ap₂ (λ m n. m * (1 + length vs) + n) (any_one (Some vs ∷ box) p i) (labels_all box p i vs)
      ∙ one_times (length vs) (sum_by (behind box p i) vs)
    where
      one_times : (m n : ℕ) → 1 * (1 + m) + n ≡ (1 + m) + n
      one_times m n = omega arith

  abbrev price : Box A → Cell A → ℕ → A → ℕ
  price box p i v = 1 + if_covered eq rows 0 (λ q. cost eq rows box q (suc i)) (with_value p i v)

  abbrev cells_of : Box A → Cell A → ℕ → A → List (Cell A)
  cells_of box p i v = if_covered eq rows [] (λ q. met eq rows box q (suc i)) (with_value p i v)

  -- a step a label and two for each cell that is met
  pub record IsBoundedByLabels (box : Box A) (p : Cell A) (i : ℕ) : Type 0 where
    pub steps : cost eq rows box p i ≤ labels box p i + 2 * length (met eq rows box p i)
    pub cells : length (met eq rows box p i) ≤ 1 + labels box p i

  pub cost_within : (box : Box A) (p : Cell A) (i : ℕ) → IsBoundedByLabels box p i
  cost_within [] p i = record { steps = omega arith; cells = omega arith }
  cost_within (None ∷ box) p i =
      let r = cost_within box p (suc i) in
      let e = labels_any box p i in
      record { steps = omega (arith, e, r.steps); cells = omega (arith, e, r.cells) }
  cost_within (Some vs ∷ box) p i =
      let r = all vs (λ v. one (with_value p i v) (is_covered eq rows (with_value p i v))
      (cost_within box (with_value p i v) (suc i))) in
      let e = labels_codes box p i vs in
      record { steps = omega (arith, e, r.0); cells = omega (arith, e, r.1) }
    where
      one : (q : Cell A) (b : Bool) → IsBoundedByLabels box q (suc i)
          → (1 + cond b (cost eq rows box q (suc i)) 0 ≤ 1 + cond b (labels box q (suc i)) 0
          + 2 * length (cond b (met eq rows box q (suc i)) []))
          × (length (cond b (met eq rows box q (suc i)) []) ≤ 1 + cond b (labels box q (suc i)) 0)
      one q true w = (omega (arith, w.steps), omega (arith, w.cells))
      one q false w = (omega arith, omega arith)

      all : (ws : List A) → ((v : A) → (price box p i v ≤ 1 + behind box p i v + 2 * length (cells_of box p i v))
          × (length (cells_of box p i v) ≤ 1 + behind box p i v))
          → (sum_by (price box p i) ws ≤ length ws + sum_by (behind box p i) ws
          + 2 * length (flat_map (cells_of box p i) ws))
          × (length (flat_map (cells_of box p i) ws) ≤ length ws + sum_by (behind box p i) ws)
      all [] h = (omega arith, omega arith)
      all (v ∷ ws) h =
          let r = all ws h in
          let a = sum_by-cons (price box p i) v ws in
          let b = sum_by-cons (behind box p i) v ws in
          let c = length-append (cells_of box p i v) (flat_map (cells_of box p i) ws) in
          (omega (arith, r.0, a, b, c, (h v).0), omega (arith, r.1, b, c, (h v).1))

module _ {A : Type 0} {cmp : A → A → Ordering} (total : IsTotalOrder cmp) (anti : IsAntisymmetric cmp)
    (rows : List (Row A)) (dims : ℕ) (wide : AllByRecursion (λ row. length row.tuple ≡ dims) rows) (box : Box A)
    (fits : length box ≡ dims) (ordered : IsOrdered cmp box)
    (some : is_covered (eq_by_cmp cmp) rows (replicate dims None) ≡ true) where
  labels_are : labels (eq_by_cmp cmp) rows box (replicate dims None) 0 ≡ work cmp rows box
  labels_are = total_same (reached_from (eq_by_cmp cmp) rows box (replicate dims None) 0) (reached cmp rows box) box
      (λ j. ap length (met_is total anti rows dims wide (prefix_box j box) (prefix_long j box ∙ fits)
      (prefix_ordered cmp j box ordered) some))

  within : IsBoundedByLabels (eq_by_cmp cmp) rows box (replicate dims None) 0
  within = cost_within (eq_by_cmp cmp) rows box (replicate dims None) 0

  cells_are : length (met (eq_by_cmp cmp) rows box (replicate dims None) 0)
      ≡ length (filter (in_box (eq_by_cmp cmp) box) (covered cmp rows))
  cells_are = ap length (met_is total anti rows dims wide box fits ordered some)

  pub work_is : cost (eq_by_cmp cmp) rows box (replicate dims None) 0 ≤ work cmp rows box
      + 2 * length (filter (in_box (eq_by_cmp cmp) box) (covered cmp rows))
  work_is = omega (arith, within.steps, labels_are, cells_are)

  -- there are not more cells than work
  pub cells_within : length (filter (in_box (eq_by_cmp cmp) box) (covered cmp rows)) ≤ 1 + work cmp rows box
  cells_within = omega (arith, within.cells, labels_are, cells_are)
