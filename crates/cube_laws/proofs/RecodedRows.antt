-- What rows say of a cell stays under other values for the values of each dimension.
use Rattle.std.proofs.Common.{◌≡◌, ℕ, zero, suc, Bool, true, false, not, ◌&&◌, ◌||◌, cond, Option, Some, None, List, [], ◌∷◌, map, length}
use Rattle.std.proofs.Common.{is_none, pos, refl, ap, ap₂, subst, ◌∙◌, slice_index_or}
use Rattle.std.specs.List.{list_all, range_with_len}
use Rattle.std.specs.Option.{option_map, option_eq}
use Rattle.cube_defs.specs.Cell.{Cell, leq, cell_of, cell_eq, cell_prefix, depth, depth_with, without}
use Rattle.cube_defs.specs.Rows.{Row, Agg, Part, covers, cov, closure, has_closure, is_class, is_node, is_lower_bound, agg, agg_of}
use Rattle.cube_defs.specs.Rows.{amounts_of, part_of}
use Rattle.cube_laws.specs.Recoding.{coded_cell, coded_row, TellsApart, AreKnown, RowsAreKnown}
use Rattle.cube_laws.proofs.Lists.{map_same, list_all_same}
use Rattle.cube_laws.proofs.Cells.{IsEquality}
use Rattle.cube_laws.proofs.Recoded.{leq-coded, cell_of-coded, closure-coded, known-closure, option_eq-coded}

module _ {A B : Type 0} (codes : ℕ → A → B) where
  pub length-coded : (k : ℕ) (c : Cell A) → length (coded_cell codes k c) ≡ length c
  length-coded k [] = refl
  length-coded k (e ∷ c) = ap suc (length-coded (suc k) c)

  pub depth-coded : (k : ℕ) (c : Cell A) → depth (coded_cell codes k c) ≡ depth c
  depth-coded k [] = refl
  depth-coded k (None ∷ c) = ap (depth_with {A = A} None) (depth-coded (suc k) c)
  depth-coded k (Some v ∷ c) = ap suc (depth-coded (suc k) c)

  pub cell_prefix-coded : (n k : ℕ) (c : Cell A)
      → cell_prefix n (coded_cell codes k c) ≡ coded_cell codes k (cell_prefix n c)
  cell_prefix-coded n k [] = refl
  cell_prefix-coded zero k (e ∷ c) = ap (λ x. None ∷ x) (cell_prefix-coded zero (suc k) c)
  cell_prefix-coded (suc n) k (e ∷ c) = ap (λ x. option_map (codes k) e ∷ x) (cell_prefix-coded n (suc k) c)

  pub without-coded : (k : ℕ) (c : Cell A) (i : ℕ) → without (coded_cell codes k c) i ≡ coded_cell codes k (without c i)
  without-coded k [] i = refl
  without-coded k (e ∷ c) zero = refl
  without-coded k (e ∷ c) (suc i) = ap (λ x. option_map (codes k) e ∷ x) (without-coded (suc k) c i)

  is_none-coded : (k : ℕ) (c : Cell A) (i : ℕ)
      → is_none (slice_index_or (coded_cell codes k c) i None) ≡ is_none (slice_index_or c i None)
  is_none-coded k [] i = refl
  is_none-coded k (None ∷ c) zero = refl
  is_none-coded k (Some v ∷ c) zero = refl
  is_none-coded k (e ∷ c) (suc i) = is_none-coded (suc k) c i

  -- the amounts stay, and so does what they add up to
  amounts-coded : (m : ℕ) (rows : List (Row A)) → amounts_of m (map (coded_row codes) rows) ≡ amounts_of m rows
  amounts-coded m [] = refl
  amounts-coded m (r ∷ rows) = ap (λ xs. slice_index_or r.amounts m (pos 0) ∷ xs) (amounts-coded m rows)

  count-coded : (rows : List (Row A)) → length (map (coded_row codes) rows) ≡ length rows
  count-coded [] = refl
  count-coded (r ∷ rows) = ap suc (count-coded rows)

  pub agg_of-coded : (measures : ℕ) (rows : List (Row A))
      → agg_of measures (map (coded_row codes) rows) ≡ agg_of measures rows
  agg_of-coded measures rows =
      ap₂ (λ (n : ℕ) (ps : List Part). let x : Agg = record { count = n; parts = ps } in x)
      (count-coded rows)
      (map_same _ _ (range_with_len 0 measures) (λ m. ap part_of (amounts-coded m rows)))

module _ {A : Type 0} (known : ℕ → A → Bool) where
  pub known-cell_prefix : (n k : ℕ) (c : Cell A) → AreKnown known k c → AreKnown known k (cell_prefix n c)
  known-cell_prefix n k [] h = tt
  known-cell_prefix zero k (None ∷ c) h = known-cell_prefix zero (suc k) c h
  known-cell_prefix zero k (Some v ∷ c) h = known-cell_prefix zero (suc k) c h.1
  known-cell_prefix (suc n) k (None ∷ c) h = known-cell_prefix n (suc k) c h
  known-cell_prefix (suc n) k (Some v ∷ c) h = (h.0, known-cell_prefix n (suc k) c h.1)

  pub known-without : (k : ℕ) (c : Cell A) (i : ℕ) → AreKnown known k c → AreKnown known k (without c i)
  known-without k [] i h = tt
  known-without k (None ∷ c) zero h = h
  known-without k (Some v ∷ c) zero h = h.1
  known-without k (None ∷ c) (suc i) h = known-without (suc k) c i h
  known-without k (Some v ∷ c) (suc i) h = (h.0, known-without (suc k) c i h.1)

module _ {A B : Type 0} {eq : A → A → Bool} {eq' : B → B → Bool} (law : IsEquality eq) (law' : IsEquality eq')
    {known : ℕ → A → Bool} {codes : ℕ → A → B} (tells : TellsApart known codes) where
  pub covers-coded : (c : Cell A) (r : Row A) → AreKnown known 0 c → AreKnown known 0 (cell_of r.tuple)
      → covers eq' (coded_cell codes 0 c) (coded_row codes r) ≡ covers eq c r
  covers-coded c r h g = ap (leq eq' (coded_cell codes 0 c)) (cell_of-coded law law' tells 0 r.tuple)
      ∙ leq-coded law law' tells 0 c (cell_of r.tuple) h g

  pub cov-coded : (rows : List (Row A)) (c : Cell A) → RowsAreKnown known rows → AreKnown known 0 c
      → cov eq' (map (coded_row codes) rows) (coded_cell codes 0 c) ≡ map (coded_row codes) (cov eq rows c)
  cov-coded [] c h g = refl
  cov-coded (r ∷ rows) c h g
      = ap₂ (λ b xs. cond b (coded_row codes r ∷ xs) xs) (covers-coded c r g h.0) (cov-coded rows c h.1 g)
      ∙ go (covers eq c r)
    where
      go : (b : Bool) → cond b (coded_row codes r ∷ map (coded_row codes) (cov eq rows c))
          (map (coded_row codes) (cov eq rows c)) ≡ map (coded_row codes) (cond b (r ∷ cov eq rows c) (cov eq rows c))
      go true = refl
      go false = refl

  module _ (rows : List (Row A)) (h : RowsAreKnown known rows) where
    pub agg-coded : (measures : ℕ) (c : Cell A) → AreKnown known 0 c
        → agg eq' measures (map (coded_row codes) rows) (coded_cell codes 0 c) ≡ agg eq measures rows c
    agg-coded measures c g = ap (agg_of measures) (cov-coded rows c h g) ∙ agg_of-coded codes measures (cov eq rows c)

    pub has_closure-coded : (c u : Cell A) → AreKnown known 0 c → AreKnown known 0 u
        → has_closure eq' (map (coded_row codes) rows) (coded_cell codes 0 c) (coded_cell codes 0 u)
        ≡ has_closure eq rows c u
    has_closure-coded c u g k =
        ap (λ o. option_eq (cell_eq eq') o (Some (coded_cell codes 0 u))) (closure-coded law law' tells rows c h g)
        ∙ option_eq-coded law law' tells (closure eq rows c) u (λ w e. known-closure law law' tells rows c w h e) k

    pub is_class-coded : (u : Cell A) → AreKnown known 0 u
        → is_class eq' (map (coded_row codes) rows) (coded_cell codes 0 u) ≡ is_class eq rows u
    is_class-coded u g = has_closure-coded u u g g

    pub is_node-coded : (p : Cell A) → AreKnown known 0 p
        → is_node eq' (map (coded_row codes) rows) (coded_cell codes 0 p) ≡ is_node eq rows p
    is_node-coded p g =
        ap (λ o. option_eq (cell_eq eq') (option_map (cell_prefix (depth (coded_cell codes 0 p))) o)
        (Some (coded_cell codes 0 p))) (closure-coded law law' tells rows p h g)
        ∙ ap (λ n. option_eq (cell_eq eq')
        (option_map (cell_prefix n) (option_map (coded_cell codes 0) (closure eq rows p)))
        (Some (coded_cell codes 0 p))) (depth-coded codes 0 p)
        ∙ fronts (closure eq rows p) (λ w e. known-closure law law' tells rows p w h e)
      where
        fronts : (o : Option (Cell A)) → ((w : Cell A) → o ≡ Some w → AreKnown known 0 w)
            → option_eq (cell_eq eq') (option_map (cell_prefix (depth p)) (option_map (coded_cell codes 0) o))
            (Some (coded_cell codes 0 p)) ≡ option_eq (cell_eq eq) (option_map (cell_prefix (depth p)) o) (Some p)
        fronts None f = refl
        fronts (Some w) f =
            ap (λ x. cell_eq eq' x (coded_cell codes 0 p)) (cell_prefix-coded codes (depth p) 0 w)
            ∙ option_eq-coded law law' tells (Some (cell_prefix (depth p) w)) p
            (λ x e. let is : cell_prefix (depth p) w ≡ x = cc in
            subst (AreKnown known 0) is (known-cell_prefix known (depth p) 0 w (f w refl))) g

    pub is_lower_bound-coded : (u c : Cell A) → AreKnown known 0 u → AreKnown known 0 c
        → is_lower_bound eq' (map (coded_row codes) rows) (coded_cell codes 0 u) (coded_cell codes 0 c)
        ≡ is_lower_bound eq rows u c
    is_lower_bound-coded u c g k =
        ap₂ (λ a b. a && b) (has_closure-coded c u k g)
        (ap (λ n. list_all minimal' (range_with_len 0 n)) (length-coded codes 0 c)
        ∙ list_all_same minimal' minimal (range_with_len 0 (length c))
        (λ i. ap₂ (λ a b. a || not b) (is_none-coded codes 0 c i)
        (ap (λ x. has_closure eq' (map (coded_row codes) rows) x (coded_cell codes 0 u)) (without-coded codes 0 c i)
        ∙ has_closure-coded (without c i) u (known-without known 0 c i k) g)))
      where
        minimal : ℕ → Bool
        minimal i = is_none (slice_index_or c i None) || not (has_closure eq rows (without c i) u)

        minimal' : ℕ → Bool
        minimal' i = is_none (slice_index_or (coded_cell codes 0 c) i None)
            || not (has_closure eq' (map (coded_row codes) rows) (without (coded_cell codes 0 c) i)
            (coded_cell codes 0 u))
