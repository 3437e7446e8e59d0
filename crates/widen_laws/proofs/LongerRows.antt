-- What rows with one value more share.
use Rattle.std.proofs.Common.{◌≡◌, ℕ, suc, Bool, true, false, cond, List, [], ◌∷◌, ◌++◌, Option, Some, None, IfSome, length, map, refl, ap}
use Rattle.std.proofs.Common.{ap₂, sym, ◌∙◌, arith, length-append}
use Rattle.std.specs.Prelude.{◌&&◌}
use Rattle.std.specs.List.{AllByRecursion}
use Rattle.std.specs.Option.{option_eq, option_map}
use Rattle.std.proofs.lemmas.List.{map-append}
use Rattle.cube_defs.specs.Cell.{Cell, cell_eq, cell_prefix, cell_of, depth, entry_leq, entry_meet, leq, meet}
use Rattle.cube_defs.specs.Rows.{Row, closure, cov, covers, is_class, is_node, meet_after, meet_all}
use Rattle.cube_laws.proofs.CallerLemmas.{IsEquality, depth-le, length-cell_prefix, length-cell_of, length-meet}
use Rattle.widen_laws.specs.Widened.{all_longer, and_any, and_value, longer}
use Rattle.widen_laws.proofs.LongerCells.{cell_eq-longer, depth-any_after, depth-value_after, prefix-any, prefix_whole, leq-longer}
use Rattle.widen_laws.proofs.LongerCells.{meet-longer}

and-true : (a : Bool) → (a && true) ≡ a
and-true true = refl
and-true false = refl

-- rows of n dimensions
abbrev pub HaveWidth : {A : Type 0} → ℕ → List (Row A) → Type 0
HaveWidth n rows = AllByRecursion (λ row. length row.tuple ≡ n) rows

module _ {A : Type 0} {eq : A → A → Bool} (equality : IsEquality eq) (v : A) where
  cell-longer : (row : Row A) → cell_of (longer v row).tuple ≡ cell_of row.tuple ++ Some v ∷ []
  cell-longer row = map-append (λ x. Some x) row.tuple (v ∷ [])

  pub covers-longer : (row : Row A) (c : Cell A) (e : Option A) → entry_leq eq e (Some v) ≡ true
      → length c ≡ length row.tuple → covers eq (c ++ e ∷ []) (longer v row) ≡ covers eq c row
  covers-longer row c e fits h =
      ap (leq eq (c ++ e ∷ [])) (cell-longer row)
      ∙ leq-longer eq c (cell_of row.tuple) e (Some v) (h ∙ sym (length-cell_of row.tuple))
      ∙ ap (λ b. leq eq c (cell_of row.tuple) && b) fits ∙ and-true (leq eq c (cell_of row.tuple))

  pub cov-longer : (n : ℕ) (rows : List (Row A)) (c : Cell A) (e : Option A) → entry_leq eq e (Some v) ≡ true
      → HaveWidth n rows → length c ≡ n → cov eq (all_longer v rows) (c ++ e ∷ []) ≡ all_longer v (cov eq rows c)
  cov-longer n [] c e fits wide h = refl
  cov-longer n (row ∷ rows) c e fits wide h =
      ap₂ (λ (b : Bool) (l : List (Row A)). cond b (longer v row ∷ l) l) (covers-longer row c e fits (h ∙ sym wide.0))
      (cov-longer n rows c e fits wide.1 h)
      ∙ out (covers eq c row) (cov eq rows c)
    where
      out : (b : Bool) (l : List (Row A))
          → cond b (longer v row ∷ all_longer v l) (all_longer v l) ≡ all_longer v (cond b (row ∷ l) l)
      out true l = refl
      out false l = refl

  pub cov_wide : (n : ℕ) (rows : List (Row A)) (c : Cell A) → HaveWidth n rows → HaveWidth n (cov eq rows c)
  cov_wide n [] c wide = tt
  cov_wide n (row ∷ rows) c wide = by (covers eq c row) (cov_wide n rows c wide.1)
    where
      by : (b : Bool) → HaveWidth n (cov eq rows c) → HaveWidth n (cond b (row ∷ cov eq rows c) (cov eq rows c))
      by true h = (wide.0, h)
      by false h = h

  same_value : entry_meet eq (Some v) (Some v) ≡ Some v
  same_value = ap (λ b. cond b (Some v) None) (equality.same v)

  abbrev cells : List (Row A) → List (Cell A)
  cells rows = map (λ row. cell_of row.tuple) rows

  -- what some rows share
  meets-longer : (n : ℕ) (rows : List (Row A)) → HaveWidth n rows
      → (meet_all eq (cells (all_longer v rows)) ≡ option_map (and_value v) (meet_all eq (cells rows)))
      × IfSome (meet_all eq (cells rows)) (λ u. length u ≡ n)
  meets-longer n [] wide = (refl, tt)
  meets-longer n (row ∷ rows) wide =
      let rest = meets-longer n rows wide.1 in
      let here = by (meet_all eq (cells rows)) rest.1 in
      (ap₂ (λ (c : Cell A) (o : Option (Cell A)). Some (meet_after eq c o)) (cell-longer row) rest.0 ∙ here.0, here.1)
    where
      long : length (cell_of row.tuple) ≡ n
      long = length-cell_of row.tuple ∙ wide.0

      by : (o : Option (Cell A)) → IfSome o (λ u. length u ≡ n)
          → (Some (meet_after eq (cell_of row.tuple ++ Some v ∷ []) (option_map (and_value v) o))
          ≡ Some (and_value v (meet_after eq (cell_of row.tuple) o)))
          × (length (meet_after eq (cell_of row.tuple) o) ≡ n)
      by None h = (refl, long)
      by (Some d) h = (
        ap (λ (c : Cell A). Some c) (meet-longer eq (cell_of row.tuple) d (Some v) (Some v) (long ∙ sym h)
            ∙ ap (λ (e : Option A). meet eq (cell_of row.tuple) d ++ e ∷ []) same_value),
        length-meet eq (cell_of row.tuple) d (long ∙ sym h) ∙ long,
      )

  pub closure_wide : (n : ℕ) (rows : List (Row A)) (c : Cell A) → HaveWidth n rows
      → IfSome (closure eq rows c) (λ u. length u ≡ n)
  closure_wide n rows c wide = (meets-longer n (cov eq rows c) (cov_wide n rows c wide)).1

  pub closure-longer : (n : ℕ) (rows : List (Row A)) (c : Cell A) (e : Option A) → entry_leq eq e (Some v) ≡ true
      → HaveWidth n rows → length c ≡ n
      → closure eq (all_longer v rows) (c ++ e ∷ []) ≡ option_map (and_value v) (closure eq rows c)
  closure-longer n rows c e fits wide h =
      ap (λ (l : List (Row A)). meet_all eq (cells l)) (cov-longer n rows c e fits wide h)
      ∙ (meets-longer n (cov eq rows c) (cov_wide n rows c wide)).0

  -- which cells are classes, and which are nodes
  pub class-value : (n : ℕ) (rows : List (Row A)) (u : Cell A) → HaveWidth n rows → length u ≡ n
      → is_class eq (all_longer v rows) (and_value v u) ≡ is_class eq rows u
  class-value n rows u wide h =
      ap (λ (o : Option (Cell A)). option_eq (cell_eq eq) o (Some (and_value v u)))
      (closure-longer n rows u (Some v) (equality.same v) wide h)
      ∙ by (closure eq rows u) (closure_wide n rows u wide)
    where
      by : (o : Option (Cell A)) → IfSome o (λ w. length w ≡ n)
          → option_eq (cell_eq eq) (option_map (and_value v) o) (Some (and_value v u))
          ≡ option_eq (cell_eq eq) o (Some u)
      by None k = refl
      by (Some w) k = cell_eq-longer eq w u (Some v) (Some v) (k ∙ sym h)
          ∙ ap (λ b. cell_eq eq w u && b) (equality.same v) ∙ and-true (cell_eq eq w u)

  pub node-any : (n : ℕ) (rows : List (Row A)) (p : Cell A) → HaveWidth n rows → length p ≡ n
      → is_node eq (all_longer v rows) (and_any p) ≡ is_node eq rows p
  node-any n rows p wide h =
      ap₂ (λ (k : ℕ) (o : Option (Cell A)). option_eq (cell_eq eq) (option_map (cell_prefix k) o) (Some (and_any p)))
      (depth-any_after p) (closure-longer n rows p None refl wide h)
      ∙ by (closure eq rows p) (closure_wide n rows p wide)
    where
      by : (o : Option (Cell A)) → IfSome o (λ w. length w ≡ n)
          → option_eq (cell_eq eq) (option_map (cell_prefix (depth p)) (option_map (and_value v) o)) (Some (and_any p))
          ≡ option_eq (cell_eq eq) (option_map (cell_prefix (depth p)) o) (Some p)
      by None k = refl
      by (Some w) k =
          ap (λ (c : Cell A). cell_eq eq c (and_any p))
          (prefix-any (depth p) w (Some v) (omega (arith, depth-le p, h, k)))
          ∙ cell_eq-longer eq (cell_prefix (depth p) w) p None None (length-cell_prefix (depth p) w ∙ k ∙ sym h)
          ∙ and-true (cell_eq eq (cell_prefix (depth p) w) p)

  pub node-value : (n : ℕ) (rows : List (Row A)) (u : Cell A) → HaveWidth n rows → length u ≡ n
      → is_node eq (all_longer v rows) (and_value v u) ≡ is_class eq rows u
  node-value n rows u wide h =
      ap₂ (λ (k : ℕ) (o : Option (Cell A)). option_eq (cell_eq eq) (option_map (cell_prefix k) o)
      (Some (and_value v u))) (depth-value_after u v) (closure-longer n rows u (Some v) (equality.same v) wide h)
      ∙ by (closure eq rows u) (closure_wide n rows u wide)
    where
      by : (o : Option (Cell A)) → IfSome o (λ w. length w ≡ n)
          → option_eq (cell_eq eq) (option_map (cell_prefix (suc (length u))) (option_map (and_value v) o))
          (Some (and_value v u)) ≡ option_eq (cell_eq eq) o (Some u)
      by None k = refl
      by (Some w) k =
          ap (λ (c : Cell A). cell_eq eq c (and_value v u))
          (prefix_whole (suc (length u)) (and_value v w) (omega (arith, length-append w (Some v ∷ []), k, h)))
          ∙ cell_eq-longer eq w u (Some v) (Some v) (k ∙ sym h) ∙ ap (λ b. cell_eq eq w u && b) (equality.same v)
          ∙ and-true (cell_eq eq w u)
