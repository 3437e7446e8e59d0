-- Closures under another code for the values of each dimension.
use Rattle.std.proofs.Common.{◌≡◌, ℕ, suc, Bool, true, false, ◌&&◌, cond, Option, Some, None, List, [], ◌∷◌, map, filter, refl, sym, ap}
use Rattle.std.proofs.Common.{ap₂, subst, ◌∙◌, arith}
use Rattle.std.specs.List.{AllByRecursion}
use Rattle.std.specs.Option.{option_map, option_eq}
use Rattle.std.proofs.lemmas.Bool.{cond-true, cond-false}
use Rattle.std.specs.Cmp.{both_ways}
use Rattle.cube_defs.specs.Cell.{Cell, leq, meet, cell_eq, cell_of}
use Rattle.cube_defs.specs.Rows.{Row, meet_after, meet_all, closure}
use Rattle.cube_laws.specs.Recoding.{coded_cell, coded_tuple, coded_row, TellsApart, AreKnown, RowsAreKnown}
use Rattle.cube_laws.proofs.Cells.{IsEquality, cell_eq-leq, cell_eq-exact, cell_eq-from}
use Rattle.cube_laws.specs.Tuples.{cells_of}
use Rattle.cube_laws.proofs.Closures.{all_cells, closure-cells}

module _ {A B : Type 0} {eq : A → A → Bool} {eq' : B → B → Bool} (law : IsEquality eq) (law' : IsEquality eq')
    {known : ℕ → A → Bool} {codes : ℕ → A → B} (tells : TellsApart known codes) where
  pub same_test : (k : ℕ) (v w : A) → known k v ≡ true → known k w ≡ true → eq' (codes k v) (codes k w) ≡ eq v w
  same_test k v w h g = both_ways _ _
      (λ t. let e : v ≡ w = tells.apart k v w h g (law'.exact _ _ t) in subst (λ x. eq v x ≡ true) e (law.same v))
      (λ t. ap (λ x. eq' (codes k v) (codes k x)) (sym (law.exact v w t)) ∙ law'.same (codes k v))

  pub leq-coded : (k : ℕ) (c d : Cell A) → AreKnown known k c → AreKnown known k d
      → leq eq' (coded_cell codes k c) (coded_cell codes k d) ≡ leq eq c d
  leq-coded k [] d h g = refl
  leq-coded k (None ∷ c) [] h g = refl
  leq-coded k (Some v ∷ c) [] h g = refl
  leq-coded k (None ∷ c) (None ∷ d) h g = leq-coded (suc k) c d h g
  leq-coded k (None ∷ c) (Some w ∷ d) h g = leq-coded (suc k) c d h g.1
  leq-coded k (Some v ∷ c) (None ∷ d) h g = refl
  leq-coded k (Some v ∷ c) (Some w ∷ d) h g
      = ap₂ (λ x y. x && y) (same_test k v w h.0 g.0) (leq-coded (suc k) c d h.1 g.1)

  pub meet-coded : (k : ℕ) (c d : Cell A) → AreKnown known k c → AreKnown known k d
      → meet eq' (coded_cell codes k c) (coded_cell codes k d) ≡ coded_cell codes k (meet eq c d)
  meet-coded k [] d h g = refl
  meet-coded k (None ∷ c) [] h g = refl
  meet-coded k (Some v ∷ c) [] h g = refl
  meet-coded k (None ∷ c) (None ∷ d) h g = ap (λ x. None ∷ x) (meet-coded (suc k) c d h g)
  meet-coded k (None ∷ c) (Some w ∷ d) h g = ap (λ x. None ∷ x) (meet-coded (suc k) c d h g.1)
  meet-coded k (Some v ∷ c) (None ∷ d) h g = ap (λ x. None ∷ x) (meet-coded (suc k) c d h.1 g)
  meet-coded k (Some v ∷ c) (Some w ∷ d) h g
      = ap₂ (λ x y. x ∷ y) (both (eq v w) _ (same_test k v w h.0 g.0)) (meet-coded (suc k) c d h.1 g.1)
    where
      both : (b t : Bool) → t ≡ b → cond t (Some (codes k v)) None ≡ option_map (codes k) (cond b (Some v) None)
      both b t e = grind (arith, cond-true, cond-false)

  pub known-meet : (k : ℕ) (c d : Cell A) → AreKnown known k c → AreKnown known k (meet eq c d)
  known-meet k [] d h = tt
  known-meet k (None ∷ c) [] h = tt
  known-meet k (Some v ∷ c) [] h = tt
  known-meet k (None ∷ c) (f ∷ d) h = known-meet (suc k) c d h
  known-meet k (Some v ∷ c) (None ∷ d) h = known-meet (suc k) c d h.1
  known-meet k (Some v ∷ c) (Some w ∷ d) h = go (known-meet (suc k) c d h.1) (eq v w)
    where
      go : AreKnown known (suc k) (meet eq c d) → (b : Bool) → AreKnown known k (cond b (Some v) None ∷ meet eq c d)
      go rest true = (h.0, rest)
      go rest false = rest

  known-meet_all : (cs : List (Cell A)) (u : Cell A) → AllByRecursion (AreKnown known 0) cs → meet_all eq cs ≡ Some u
      → AreKnown known 0 u
  known-meet_all [] u h e = cc
  known-meet_all (c ∷ cs) u h e = let is : meet_after eq c (meet_all eq cs) ≡ u = cc in
      subst (AreKnown known 0) is (go (meet_all eq cs))
    where
      go : (o : Option (Cell A)) → AreKnown known 0 (meet_after eq c o)
      go None = h.0
      go (Some d) = known-meet 0 c d h.0

  meet_all-coded : (cs : List (Cell A)) → AllByRecursion (AreKnown known 0) cs
      → meet_all eq' (map (coded_cell codes 0) cs) ≡ option_map (coded_cell codes 0) (meet_all eq cs)
  meet_all-coded [] h = refl
  meet_all-coded (c ∷ cs) h = ap (λ o. Some (meet_after eq' (coded_cell codes 0 c) o)) (meet_all-coded cs h.1)
      ∙ ap (λ x. Some x) (go (meet_all eq cs) (known-meet_all cs))
    where
      go : (o : Option (Cell A))
          → ((u : Cell A) → AllByRecursion (AreKnown known 0) cs → o ≡ Some u → AreKnown known 0 u)
          → meet_after eq' (coded_cell codes 0 c) (option_map (coded_cell codes 0) o) ≡ coded_cell codes 0
          (meet_after eq c o)
      go None f = refl
      go (Some d) f = meet-coded 0 c d h.0 (f d h.1 refl)

  filter-coded : (c : Cell A) (cs : List (Cell A)) → AreKnown known 0 c → AllByRecursion (AreKnown known 0) cs
      → filter (leq eq' (coded_cell codes 0 c)) (map (coded_cell codes 0) cs) ≡ map (coded_cell codes 0)
      (filter (leq eq c) cs)
  filter-coded c [] g h = refl
  filter-coded c (d ∷ cs) g h
      = ap₂ (λ b xs. cond b (coded_cell codes 0 d ∷ xs) xs) (leq-coded 0 c d g h.0) (filter-coded c cs g h.1)
      ∙ go (leq eq c d)
    where
      go : (b : Bool) → cond b (coded_cell codes 0 d ∷ map (coded_cell codes 0) (filter (leq eq c) cs))
          (map (coded_cell codes 0) (filter (leq eq c) cs)) ≡ map (coded_cell codes 0)
          (cond b (d ∷ filter (leq eq c) cs) (filter (leq eq c) cs))
      go true = refl
      go false = refl

  known-filter : (p : Cell A → Bool) (cs : List (Cell A)) → AllByRecursion (AreKnown known 0) cs
      → AllByRecursion (AreKnown known 0) (filter p cs)
  known-filter p [] h = tt
  known-filter p (c ∷ cs) h = go (known-filter p cs h.1) (p c)
    where
      go : AllByRecursion (AreKnown known 0) (filter p cs) → (b : Bool)
          → AllByRecursion (AreKnown known 0) (cond b (c ∷ filter p cs) (filter p cs))
      go rest true = (h.0, rest)
      go rest false = rest

  pub cell_of-coded : (k : ℕ) (t : List A) → cell_of (coded_tuple codes k t) ≡ coded_cell codes k (cell_of t)
  cell_of-coded k [] = refl
  cell_of-coded k (v ∷ t) = ap (λ x. Some (codes k v) ∷ x) (cell_of-coded (suc k) t)

  pub cells_of-coded : (rows : List (Row A))
      → cells_of (map (coded_row codes) rows) ≡ map (coded_cell codes 0) (cells_of rows)
  cells_of-coded [] = refl
  cells_of-coded (r ∷ rows) = ap₂ (λ x y. x ∷ y) (cell_of-coded 0 r.tuple) (cells_of-coded rows)

  -- the closure among the coded rows is the coded closure
  pub closure-coded : (rows : List (Row A)) (c : Cell A) → RowsAreKnown known rows → AreKnown known 0 c
      → closure eq' (map (coded_row codes) rows) (coded_cell codes 0 c) ≡ option_map (coded_cell codes 0)
      (closure eq rows c)
  closure-coded rows c known_rows g =
      let h : AllByRecursion (AreKnown known 0) (cells_of rows) = (all_cells (AreKnown known 0) rows).1 known_rows in
      closure-cells eq' (map (coded_row codes) rows) (coded_cell codes 0 c)
      ∙ ap (λ cs. meet_all eq' (filter (leq eq' (coded_cell codes 0 c)) cs)) (cells_of-coded rows)
      ∙ ap (meet_all eq') (filter-coded c (cells_of rows) g h)
      ∙ meet_all-coded (filter (leq eq c) (cells_of rows)) (known-filter _ (cells_of rows) h)
      ∙ ap (option_map (coded_cell codes 0)) (sym (closure-cells eq rows c))

  pub known-closure : (rows : List (Row A)) (c u : Cell A) → RowsAreKnown known rows → closure eq rows c ≡ Some u
      → AreKnown known 0 u
  known-closure rows c u h e
      = known_meet_all-of (filter (leq eq c) (cells_of rows))
      (known-filter _ (cells_of rows) ((all_cells (AreKnown known 0) rows).1 h)) (sym (closure-cells eq rows c) ∙ e)
    where
      known_meet_all-of : (cs : List (Cell A)) → AllByRecursion (AreKnown known 0) cs → meet_all eq cs ≡ Some u
          → AreKnown known 0 u
      known_meet_all-of cs k f = known-meet_all cs u k f

  pub cell_eq-coded : (c d : Cell A) → AreKnown known 0 c → AreKnown known 0 d
      → cell_eq eq' (coded_cell codes 0 c) (coded_cell codes 0 d) ≡ cell_eq eq c d
  cell_eq-coded c d h g =
      cell_eq-leq law' (coded_cell codes 0 c) (coded_cell codes 0 d)
      ∙ ap₂ (λ a b. a && b) (leq-coded 0 c d h g) (leq-coded 0 d c g h)
      ∙ sym (cell_eq-leq law c d)

  -- known cells with one code are the same
  pub coded-apart : (c d : Cell A) → AreKnown known 0 c → AreKnown known 0 d
      → coded_cell codes 0 c ≡ coded_cell codes 0 d → c ≡ d
  coded-apart c d h g e = cell_eq-exact law c d (sym (cell_eq-coded c d h g) ∙ cell_eq-from law' _ _ e)

  pub option_eq-coded : (o : Option (Cell A)) (u : Cell A) → ((w : Cell A) → o ≡ Some w → AreKnown known 0 w)
      → AreKnown known 0 u → option_eq (cell_eq eq') (option_map (coded_cell codes 0) o) (Some (coded_cell codes 0 u))
      ≡ option_eq (cell_eq eq) o (Some u)
  option_eq-coded None u h g = refl
  option_eq-coded (Some w) u h g = cell_eq-coded w u (h w refl) g
