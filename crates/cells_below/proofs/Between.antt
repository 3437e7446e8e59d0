-- The cells between a cell and its closure have its closure, and so a number is marked where one with
-- one bit less is.
use Rattle.std.proofs.Common.{◌≡◌, ◌≢◌, ℕ, ◌+◌, ◌^◌, ◌<◌, Bool, true, false, not, ◌||◌, ◌&&◌, nat_eq, eqb-true, eq-eqb, Some, List, map}
use Rattle.std.proofs.Common.{filter, length, set, refl, sym, ap, ap₂, ◌∙◌, subst, arith, true≢false}
use Rattle.std.specs.Cmp.{nat_cmp_total}
use Rattle.std.proofs.lemmas.List.{get_or-set_other, get_or-set_same}
use Rattle.std.specs.FinMap as map
use Rattle.std.specs.List.{AllByRecursion, range_with_len}
use Rattle.std.specs.Ordering.{nat_cmp, eq_by_cmp}
use Rattle.std.proofs.Math.Bool.{and-false}
use Rattle.cube_defs.specs.Answers.{lower_bounds}
use Rattle.cube_defs.specs.Cell.{Cell, leq}
use Rattle.cube_defs.specs.Rows.{Row, closure, is_lower_bound}
use Rattle.cube_laws.proofs.CallerLemmas.{IsEquality, leq_antisymm, closure_idem, closure_mono, closure_some, option_eq-is, map-filter}
use Rattle.cube_laws.proofs.CallerLemmas.{code_equality}
use Rattle.cube_laws.specs.Parts.{value_count}
use Rattle.tree_laws.proofs.CallerLemmas.{lower_bounds-below}
use Rattle.tree_search.specs.Found.{TreeRows}
use Rattle.cells_below.specs.Closed.{IsMarkedBefore, bounds, closes, has_closure_in}
use Rattle.cells_below.specs.Marks.{is_least, is_marked}
use Rattle.cells_below.specs.Numbers.{cell_of_number, has_bit, turned}
use Rattle.cells_below.proofs.Turned.{turned_below, turned_other}
use Rattle.cells_below.proofs.Ranges.{list_all_each, list_all_range}
use Rattle.cells_below.proofs.Cells.{cell_below, cells_below, more_bits}
use Rattle.cells_below.proofs.Minimal.{none_smaller-is}

none_and : (a b : Bool) → a ≡ false → false ≡ (a && b)
none_and a b e = sym (ap (λ x. x && b) e)

module _ {A : Type 0} {eq : A → A → Bool} (law : IsEquality eq) where
  pub between : (rows : List (Row A)) (c d u : Cell A) → leq eq c d ≡ true → leq eq d u ≡ true
      → closure eq rows c ≡ Some u → closure eq rows d ≡ Some u
  between rows c d u h k e =
      let own : closure eq rows u ≡ Some u = closure_idem law rows c u e in
      let r : (w : Cell A) × (closure eq rows d ≡ Some w) = closure_some law rows d u u k own in
      r.1 ∙ ap (λ x. Some x) (leq_antisymm law r.0 u (closure_mono law rows d u r.0 u k r.1 own)
      (closure_mono law rows c d u r.0 h e r.1))

module _ (source : TreeRows) (u : Cell ℕ) where
  pub closed : (c : Cell ℕ) → has_closure_in source u c ≡ true → closure (eq_by_cmp nat_cmp) source.rows c ≡ Some u
  closed c = (option_eq-is code_equality (closure (eq_by_cmp nat_cmp) source.rows c) u).0

  pub open_no_bound : (m : ℕ) → closes source u m ≡ false → false ≡ bounds source u m
  open_no_bound m e = none_and (closes source u m) _ e

  with_bit : (m k j : ℕ) → has_bit m k ≡ true → has_bit (turned m k) j ≡ true → has_bit m j ≡ true
  with_bit m k j e h = go (nat_eq j k) refl
    where
      go : (b : Bool) → nat_eq j k ≡ b → has_bit m j ≡ true
      go true q = ap (has_bit m) (eqb-true j k q) ∙ e
      go false q = let ne : j ≢ k = λ s. true≢false (sym (eq-eqb j k s) ∙ q) in sym (turned_other m k j ne) ∙ h

  -- a cell with one bit more than one with the closure has it
  closes_more : (m k : ℕ) → has_bit m k ≡ true → closes source u (turned m k) ≡ true → closes source u m ≡ true
  closes_more m k e h =
      (option_eq-is code_equality (closure (eq_by_cmp nat_cmp) source.rows (cell_of_number u m)) u).1
      (between code_equality source.rows (cell_of_number u (turned m k)) (cell_of_number u m) u
      (more_bits code_equality u (turned m k) m (λ j h. with_bit m k j e h)) (cell_below code_equality u m)
      (closed (cell_of_number u (turned m k)) h))

  module _ (marks : List Bool) (m : ℕ) (l : m < 2 ^ value_count u) (below : IsMarkedBefore source u marks m) where
    least_if : closes source u m ≡ false → is_least marks (value_count u) m ≡ true
    least_if c = list_all_each _ 0 (value_count u) (λ k q r. go k (has_bit m k) refl)
      where
        out : (k : ℕ) → has_bit m k ≡ true → (b : Bool) → closes source u (turned m k) ≡ b → not b ≡ true
        out k e true h = absurd (true≢false (sym (closes_more m k e h) ∙ c))
        out k e false h = refl

        go : (k : ℕ) (b : Bool) → has_bit m k ≡ b → (not b || not (is_marked marks (turned m k))) ≡ true
        go k false e = refl
        go k true e = ap not (below (turned m k) (turned_below m k e)) ∙ out k e (closes source u (turned m k)) refl

    -- a number is marked where one with one bit less is
    pub not_least : is_least marks (value_count u) m ≡ false → closes source u m ≡ true
    not_least e = go (closes source u m) refl
      where
        go : (b : Bool) → closes source u m ≡ b → b ≡ true
        go true c = refl
        go false c = absurd (true≢false (sym (least_if c) ∙ e))

    -- the test of a lower bound, number by number
    pub bound_is : bounds source u m ≡ (closes source u m && is_least marks (value_count u) m)
    bound_is = ap (λ b. closes source u m && b) (none_smaller-is (has_closure_in source u) u m
        ∙ list_all_range _ _ 0 (value_count u) (λ k q r. go k (has_bit m k) refl))
      where
        go : (k : ℕ) (b : Bool) → has_bit m k ≡ b
            → (not b || not (closes source u (turned m k))) ≡ (not b || not (is_marked marks (turned m k)))
        go k false e = refl
        go k true e = ap not (sym (below (turned m k) (turned_below m k e)))

    pub no_bound : is_least marks (value_count u) m ≡ false → false ≡ bounds source u m
    no_bound e = sym (bound_is ∙ ap (λ b. closes source u m && b) e ∙ and-false (closes source u m))

    pub is_bound : closes source u m ≡ true → is_least marks (value_count u) m ≡ true → true ≡ bounds source u m
    is_bound c e = sym (bound_is ∙ ap₂ (λ x y. x && y) c e)

    -- one number more is marked
    pub marked_more : m < length marks → closes source u m ≡ true → IsMarkedBefore source u (set marks m true) (m + 1)
    marked_more w c j k = go (nat_eq j m) refl
      where
        go : (b : Bool) → nat_eq j m ≡ b → is_marked (set marks m true) j ≡ closes source u j
        go true e = subst (λ i. is_marked (set marks m true) i ≡ closes source u i) (sym (eqb-true j m e))
            (get_or-set_same marks m true false w ∙ sym c)
        go false e = let ne : j ≢ m = λ s. true≢false (sym (eq-eqb j m s) ∙ e) in
            get_or-set_other marks m j true false ne ∙ below j (omega arith)

  -- one number more stays unmarked
  pub unmarked_more : (marks : List Bool) (m : ℕ) → IsMarkedBefore source u marks m → is_marked marks m ≡ false
      → closes source u m ≡ false → IsMarkedBefore source u marks (m + 1)
  unmarked_more marks m below e c j k = go (nat_eq j m) refl
    where
      go : (b : Bool) → nat_eq j m ≡ b → is_marked marks j ≡ closes source u j
      go true q = subst (λ i. is_marked marks i ≡ closes source u i) (sym (eqb-true j m q)) (e ∙ sym c)
      go false q = let ne : j ≢ m = λ s. true≢false (sym (eq-eqb j m s) ∙ q) in below j (omega arith)

  pub bounds_are : (dims : ℕ) → AllByRecursion (λ row. length row.tuple ≡ dims) source.rows → length u ≡ dims
      → map (cell_of_number u) (filter (bounds source u) (range_with_len 0 (2 ^ value_count u)))
      ≡ lower_bounds nat_cmp source.rows u
  bounds_are dims wide long =
      map-filter (cell_of_number u) (is_lower_bound (eq_by_cmp nat_cmp) source.rows u)
      (range_with_len 0 (2 ^ value_count u))
      ∙ ap (filter (is_lower_bound (eq_by_cmp nat_cmp) source.rows u)) (cells_below u)
      ∙ sym (lower_bounds-below nat_cmp_total map.nat_cmp-IsAntisymmetric dims source.rows u wide long)
