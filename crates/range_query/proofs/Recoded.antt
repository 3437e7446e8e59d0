-- What a walk meets, and what it costs, under codes.
use Rattle.std.proofs.Common.{◌≡◌, ℕ, zero, suc, ◌+◌, Bool, true, false, cond, Option, Some, None, List, [], ◌∷◌, ◌++◌, map, flat_map, refl}
use Rattle.std.proofs.Common.{sym, ap, ap₂, ◌∙◌, arith, true≢false}
use Rattle.std.specs.Prelude.{is_some, sum_by}
use Rattle.std.specs.List.{AllByRecursion}
use Rattle.std.specs.Option.{option_map}
use Rattle.std.proofs.lemmas.List.{map-append}
use Rattle.std.proofs.lemmas.List.Sums.{sum_by-cons}
use Rattle.cube_defs.specs.Cell.{Cell, with_value}
use Rattle.cube_defs.specs.Rows.{Row, closure}
use Rattle.cube_defs.specs.Answers.{Box}
use Rattle.cube_laws.specs.Recoding.{AreKnown, BoxIsKnown, RowsAreKnown, TellsApart, coded_cell, coded_box, coded_row}
use Rattle.cube_laws.proofs.CallerLemmas.{IsEquality, closure-coded, known-closed}
use Rattle.tree_laws.proofs.CallerLemmas.{with_value-coded}
use Rattle.range_query.specs.Met.{cost, if_covered, is_covered, met}

module _ {A : Type 0} (known : ℕ → A → Bool) where
  pub known-with : (k : ℕ) (c : Cell A) (i j : ℕ) (v : A) → AreKnown known k c → j ≡ k + i → known j v ≡ true
      → AreKnown known k (with_value c i v)
  known-with k [] i j v h s e = tt
  known-with k (None ∷ c) zero j v h s e = (ap (λ n. known n v) (let r : k ≡ j = omega arith in r) ∙ e, h)
  known-with k (Some w ∷ c) zero j v h s e = (ap (λ n. known n v) (let r : k ≡ j = omega arith in r) ∙ e, h.1)
  known-with k (None ∷ c) (suc i) j v h s e = known-with (suc k) c i j v h (omega arith) e
  known-with k (Some w ∷ c) (suc i) j v h s e = (h.0, known-with (suc k) c i j v h.1 (omega arith) e)

module _ {A B : Type 0} {eq : A → A → Bool} {eq' : B → B → Bool} (law : IsEquality eq) (law' : IsEquality eq')
    {known : ℕ → A → Bool} {codes : ℕ → A → B} (tells : TellsApart known codes) (rows : List (Row A))
    (h : RowsAreKnown known rows) where
  abbrev more : List (Row B)
  more = map (coded_row codes) rows

  pub is_covered-coded : (c : Cell A) → AreKnown known 0 c
      → is_covered eq' (map (coded_row codes) rows) (coded_cell codes 0 c) ≡ is_covered eq rows c
  is_covered-coded c k = ap is_some (closure-coded law law' tells rows c h k) ∙ go (closure eq rows c)
    where
      go : (o : Option (Cell A)) → is_some (option_map (coded_cell codes 0) o) ≡ is_some o
      go None = refl
      go (Some u) = refl

  value-coded : (p : Cell A) (i : ℕ) (v : A)
      → with_value (coded_cell codes 0 p) i (codes i v) ≡ coded_cell codes 0 (with_value p i v)
  value-coded p i v = with_value-coded codes 0 p i i v (omega arith)

  -- one value
  if-coded : {X Y : Type 0} (g : X → Y) (none : X) (other : Y) (f : Cell A → X) (f' : Cell B → Y) (p : Cell A) (i : ℕ)
      (v : A) → AreKnown known 0 p → known i v ≡ true → g none ≡ other
      → (AreKnown known 0 (with_value p i v) → g (f (with_value p i v)) ≡ f' (coded_cell codes 0 (with_value p i v)))
      → g (if_covered eq rows none f (with_value p i v)) ≡ if_covered eq' more other f'
      (with_value (coded_cell codes 0 p) i (codes i v))
  if-coded {X} {Y} g none other f f' p i v k e n m =
      let q : AreKnown known 0 (with_value p i v) = known-with known 0 p i i v k (omega arith) e in
      go (is_covered eq rows (with_value p i v)) (m q)
      ∙ ap (λ b. cond b (f' (coded_cell codes 0 (with_value p i v))) other)
      (sym (is_covered-coded (with_value p i v) q))
      ∙ ap (if_covered eq' more other f') (sym (value-coded p i v))
    where
      go : (b : Bool) → g (f (with_value p i v)) ≡ f' (coded_cell codes 0 (with_value p i v))
          → g (cond b (f (with_value p i v)) none) ≡ cond b (f' (coded_cell codes 0 (with_value p i v))) other
      go true s = s
      go false s = n

  pub met-coded : (box : Box A) (p : Cell A) (i : ℕ) → AreKnown known 0 p → BoxIsKnown known i box
      → map (coded_cell codes 0) (met eq rows box p i) ≡ met eq' more (coded_box codes i box) (coded_cell codes 0 p) i
  met-coded [] p i k b = refl
  met-coded (None ∷ box) p i k b = met-coded box p (suc i) k b
  met-coded (Some vs ∷ box) p i k b = go (λ v q. met-coded box (with_value p i v) (suc i) q b.1) vs b.0
    where
      go : ((v : A) → AreKnown known 0 (with_value p i v)
          → map (coded_cell codes 0) (met eq rows box (with_value p i v) (suc i))
          ≡ met eq' more (coded_box codes (suc i) box) (coded_cell codes 0 (with_value p i v)) (suc i))
          → (ws : List A) → AllByRecursion (λ v. known i v ≡ true) ws
          → map (coded_cell codes 0)
          (flat_map (λ v. if_covered eq rows [] (λ q. met eq rows box q (suc i)) (with_value p i v)) ws)
          ≡ flat_map (λ w. if_covered eq' more [] (λ q. met eq' more (coded_box codes (suc i) box) q (suc i))
          (with_value (coded_cell codes 0 p) i w)) (map (codes i) ws)
      go rest [] e = refl
      go rest (v ∷ ws) e =
          map-append (coded_cell codes 0) (if_covered eq rows [] (λ q. met eq rows box q (suc i)) (with_value p i v))
          (flat_map (λ v. if_covered eq rows [] (λ q. met eq rows box q (suc i)) (with_value p i v)) ws)
          ∙ ap₂ (λ (xs ys : List (Cell B)). xs ++ ys)
          (if-coded (map (coded_cell codes 0)) [] [] (λ q. met eq rows box q (suc i))
          (λ q. met eq' more (coded_box codes (suc i) box) q (suc i)) p i v k e.0 refl (rest v))
          (go rest ws e.1)

  pub cost-coded : (box : Box A) (p : Cell A) (i : ℕ) → AreKnown known 0 p → BoxIsKnown known i box
      → cost eq rows box p i ≡ cost eq' more (coded_box codes i box) (coded_cell codes 0 p) i
  cost-coded [] p i k b = refl
  cost-coded (None ∷ box) p i k b = ap (λ n. 1 + n) (cost-coded box p (suc i) k b)
  cost-coded (Some vs ∷ box) p i k b
      = ap (λ n. 1 + n) (go (λ v q. cost-coded box (with_value p i v) (suc i) q b.1) vs b.0)
    where
      go : ((v : A) → AreKnown known 0 (with_value p i v)
          → cost eq rows box (with_value p i v) (suc i) ≡ cost eq' more (coded_box codes (suc i) box)
          (coded_cell codes 0 (with_value p i v)) (suc i))
          → (ws : List A) → AllByRecursion (λ v. known i v ≡ true) ws
          → sum_by (λ v. 1 + if_covered eq rows 0 (λ q. cost eq rows box q (suc i)) (with_value p i v)) ws
          ≡ sum_by (λ w. 1 + if_covered eq' more 0 (λ q. cost eq' more (coded_box codes (suc i) box) q (suc i))
          (with_value (coded_cell codes 0 p) i w)) (map (codes i) ws)
      go rest [] e = refl
      go rest (v ∷ ws) e =
          sum_by-cons (λ v. 1 + if_covered eq rows 0 (λ q. cost eq rows box q (suc i)) (with_value p i v)) v ws
          ∙ ap₂ (λ m n. (1 + m) + n)
          (if-coded (λ n. n) 0 0 (λ q. cost eq rows box q (suc i))
          (λ q. cost eq' more (coded_box codes (suc i) box) q (suc i)) p i v k e.0 refl (rest v))
          (go rest ws e.1)
          ∙ sym (sum_by-cons (λ w. 1 + if_covered eq' more 0
          (λ q. cost eq' more (coded_box codes (suc i) box) q (suc i)) (with_value (coded_cell codes 0 p) i w))
          (codes i v) (map (codes i) ws))

  pub known-covered : (c : Cell A) → is_covered eq rows c ≡ true → AreKnown known 0 c
  known-covered c e = go (closure eq rows c) refl e
    where
      go : (o : Option (Cell A)) → closure eq rows c ≡ o → is_some o ≡ true → AreKnown known 0 c
      go None q e = absurd (true≢false (sym e))
      go (Some u) q e = known-closed law known rows c u h q
