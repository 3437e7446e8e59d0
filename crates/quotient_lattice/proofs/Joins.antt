-- The parents of a class are the cells that generalize it that have another closure and no value to spare.
use Rattle.std.proofs.Common.{◌≡◌, ◌≢◌, ℕ, ◌<◌, Bool, true, false, not, ◌||◌, Some, List, refl, sym, ap, ◌∙◌, subst, arith, true≢false}
use Rattle.std.proofs.lemmas.Bool.{and_parts, and_from}
use Rattle.std.specs.List.{list_all, range_with_len}
use Rattle.std.specs.Ordering.{nat_cmp, eq_by_cmp}
use Rattle.cube_defs.specs.Cell.{Cell, cell_eq, leq}
use Rattle.cube_defs.specs.Rows.{Row, closure}
use Rattle.cube_laws.proofs.CallerLemmas.{leq_trans, cell_eq-exact, cell_eq-from, closure_idem, closure_mono, closure_some, leq-closure}
use Rattle.cube_laws.proofs.CallerLemmas.{option_eq-is, code_equality}
use Rattle.tree_search.specs.Found.{TreeRows}
use Rattle.cells_below.specs.Closed.{closes, has_closure_in}
use Rattle.cells_below.specs.Numbers.{cell_of_number, has_bit, turned}
use Rattle.cube_laws.specs.Parts.{value_count}
use Rattle.cells_below.proofs.CallerLemmas.{between, cell_below, more_bits, each_of_all, list_all_each, turned_other}
use Rattle.quotient_lattice.specs.Joined.{joins}
use Rattle.quotient_lattice.proofs.StepUp.{length-cell, leq-length, not_below, step_up}

eq : ℕ → ℕ → Bool
eq = eq_by_cmp nat_cmp

-- p generalizes u and another, and each class between is one of both
pub record IsJoin (rows : List (Row ℕ)) (p u : Cell ℕ) : Type 0 where
  pub own : closure (eq_by_cmp nat_cmp) rows p ≡ Some p
  pub below : leq (eq_by_cmp nat_cmp) p u ≡ true
  pub another : p ≢ u
  pub alone : (q : Cell ℕ) → closure (eq_by_cmp nat_cmp) rows q ≡ Some q → leq (eq_by_cmp nat_cmp) p q ≡ true
      → leq (eq_by_cmp nat_cmp) q u ≡ true → q ≢ p → q ≡ u

module _ (source : TreeRows) (u : Cell ℕ) (class : closure (eq_by_cmp nat_cmp) source.rows u ≡ Some u) where
  closed : (c : Cell ℕ) → has_closure_in source u c ≡ true → closure (eq_by_cmp nat_cmp) source.rows c ≡ Some u
  closed c = (option_eq-is code_equality (closure (eq_by_cmp nat_cmp) source.rows c) u).0

  closes-from : (m : ℕ) → closure (eq_by_cmp nat_cmp) source.rows (cell_of_number u m) ≡ Some u
      → closes source u m ≡ true
  closes-from m = (option_eq-is code_equality (closure (eq_by_cmp nat_cmp) source.rows (cell_of_number u m)) u).1

  -- a bit more makes a greater cell
  more : (m k : ℕ) → has_bit m k ≡ false
      → leq (eq_by_cmp nat_cmp) (cell_of_number u m) (cell_of_number u (turned m k)) ≡ true
  more m k e = more_bits code_equality u m (turned m k) (λ j h. go j (h))
    where
      go : (j : ℕ) → has_bit m j ≡ true → has_bit (turned m k) j ≡ true
      go j h = let ne : j ≢ k = λ s. true≢false (sym h ∙ ap (has_bit m) s ∙ e) in turned_other m k j ne ∙ h

  -- the number of a parent
  pub join_joins : (m : ℕ) → IsJoin source.rows (cell_of_number u m) u → joins source u m ≡ true
  join_joins m h = and_from _ _ (out (closes source u m) refl)
      (list_all_each _ 0 (value_count u) (λ k a l. bit k (omega arith) (has_bit m k) refl))
    where
      out : (b : Bool) → closes source u m ≡ b → not b ≡ true
      out true e = absurd (h.another (let same : Some (cell_of_number u m) ≡ Some u
          = sym h.own ∙ closed (cell_of_number u m) e in cc))
      out false e = refl

      above : (k : ℕ) → k < value_count u → has_bit m k ≡ false → closes source u (turned m k) ≡ true
      above k l e =
          let c = cell_of_number u (turned m k) in
          let r : (w : Cell ℕ) × (closure (eq_by_cmp nat_cmp) source.rows c ≡ Some w)
          = closure_some code_equality source.rows c u u (cell_below code_equality u (turned m k)) class in
          let up : leq (eq_by_cmp nat_cmp) c r.0 ≡ true = leq-closure code_equality source.rows c r.0 r.1 in
          let top : r.0 ≡ u = h.alone r.0 (closure_idem code_equality source.rows c r.0 r.1)
          (leq_trans code_equality (cell_of_number u m) c r.0 (more m k e) up)
          (closure_mono code_equality source.rows c u r.0 u (cell_below code_equality u (turned m k)) r.1 class)
          (λ s. not_below code_equality u m k l e
          (subst (λ x. leq (eq_by_cmp nat_cmp) (cell_of_number u (turned m k)) x ≡ true) s up)) in
          closes-from (turned m k) (r.1 ∙ ap (λ x. Some x) top)

      bit : (k : ℕ) → k < value_count u → (b : Bool) → has_bit m k ≡ b → (b || closes source u (turned m k)) ≡ true
      bit k l true e = refl
      bit k l false e = above k l e

  -- and no other number
  pub joins_join : (m : ℕ) → joins source u m ≡ true → IsJoin source.rows (cell_of_number u m) u
  joins_join m h = record {
    own = own;
    below = cell_below code_equality u m;
    another
        = λ s. open_ (closes-from m (ap (closure (eq_by_cmp nat_cmp) source.rows) s ∙ class));
    alone = alone;
  }
    where
      p : (not (closes source u m) ≡ true)
          × (list_all (λ k. has_bit m k || closes source u (turned m k)) (range_with_len 0 (value_count u)) ≡ true)
      p = and_parts (not (closes source u m)) _ h

      open_ : closes source u m ≡ true → ⊥
      open_ e = true≢false (sym p.0 ∙ ap not e)

      -- a class that specializes u without another value is u
      alone : (q : Cell ℕ) → closure (eq_by_cmp nat_cmp) source.rows q ≡ Some q
          → leq (eq_by_cmp nat_cmp) (cell_of_number u m) q ≡ true → leq (eq_by_cmp nat_cmp) q u ≡ true
          → q ≢ cell_of_number u m → q ≡ u
      alone q e low high ne =
          let a = leq-length code_equality (cell_of_number u m) q low in
          let b = leq-length code_equality q u high in
          let c = length-cell code_equality u m in
          let s : (k : ℕ) × (k < value_count u) × (has_bit m k ≡ false)
          × (leq (eq_by_cmp nat_cmp) (cell_of_number u (turned m k)) q ≡ true)
          = step_up code_equality u q m low high (omega arith) (λ t. ne (sym t)) in
          let up : closes source u (turned m s.0) ≡ true
          = subst (λ b. (b || closes source u (turned m s.0)) ≡ true) s.2
          (each_of_all (λ k. has_bit m k || closes source u (turned m k)) 0 (value_count u) p.1 s.0 (omega arith)
          (omega (arith, s.1))) in
          let top : closure (eq_by_cmp nat_cmp) source.rows q ≡ Some u
          = between code_equality source.rows (cell_of_number u (turned m s.0)) q u s.3 high
          (closed (cell_of_number u (turned m s.0)) up) in
          (let same : Some q ≡ Some u = sym e ∙ top in cc)

      own : closure (eq_by_cmp nat_cmp) source.rows (cell_of_number u m) ≡ Some (cell_of_number u m)
      own = go (cell_eq (eq_by_cmp nat_cmp) r.0 (cell_of_number u m)) refl
        where
          r : (w : Cell ℕ) × (closure (eq_by_cmp nat_cmp) source.rows (cell_of_number u m) ≡ Some w)
          r = closure_some code_equality source.rows (cell_of_number u m) u u (cell_below code_equality u m) class

          go : (b : Bool) → cell_eq (eq_by_cmp nat_cmp) r.0 (cell_of_number u m) ≡ b
              → closure (eq_by_cmp nat_cmp) source.rows (cell_of_number u m) ≡ Some (cell_of_number u m)
          go true s = r.1 ∙ ap (λ x. Some x) (cell_eq-exact code_equality r.0 (cell_of_number u m) s)
          go false s =
              let ne : r.0 ≢ cell_of_number u m
              = λ t. true≢false (sym (cell_eq-from code_equality r.0 (cell_of_number u m) t) ∙ s) in
              let top : r.0 ≡ u = alone r.0 (closure_idem code_equality source.rows (cell_of_number u m) r.0 r.1)
              (leq-closure code_equality source.rows (cell_of_number u m) r.0 r.1)
              (closure_mono code_equality source.rows (cell_of_number u m) u r.0 u
              (cell_below code_equality u m) r.1 class) ne in
              absurd (open_ (closes-from m (r.1 ∙ ap (λ x. Some x) top)))
