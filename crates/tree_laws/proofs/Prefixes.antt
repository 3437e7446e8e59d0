-- The prefixes of cells, and cells with a value more.
use Rattle.std.proofs.Common.{◌≡◌, ◌==◌, ℕ, zero, suc, ◌-◌, ◌≤◌, ◌<◌, nat_cmp, nat_eq, replicate, Bool, false, true, ◌&&◌, Option, Some}
use Rattle.std.proofs.Common.{None, [], ◌∷◌, length, slice_get, refl, sym, ap, ◌∙◌, arith}
use Rattle.std.proofs.lemmas.Bool.{and_parts, and_from, cond-false}
use Rattle.cube_defs.specs.Cell.{Cell, entry_leq, leq, entry_meet, meet, depth, depth_with, cell_prefix, upto, with_value}
use Rattle.cube_defs.specs.Tree.{parent_cell_of}
use Rattle.cube_laws.proofs.CallerLemmas.{IsEquality, leq_refl, cell_prefix-depth, cell_prefix_zero, depth-cell_prefix_zero, one_deeper-le}
use Rattle.cube_laws.proofs.CallerLemmas.{one_value}

pub shallower : {A : Type 0} (e : Option A) (n i : ℕ) → depth_with e n ≤ suc i → n ≤ i
shallower None zero i h = omega arith
shallower None (suc n) i h = omega arith
shallower (Some v) n i h = omega arith

module _ {A : Type 0} where
  pub depth-cell_prefix-le : (n : ℕ) (c : Cell A) → depth (cell_prefix n c) ≤ n
  depth-cell_prefix-le n [] = omega arith
  depth-cell_prefix-le zero (e ∷ c) = omega (arith, depth-cell_prefix_zero (e ∷ c))
  depth-cell_prefix-le (suc n) (e ∷ c) = one_deeper-le e (depth (cell_prefix n c)) n (depth-cell_prefix-le n c)

  pub cell_prefix-beyond : (n : ℕ) (c : Cell A) → depth c ≤ n → cell_prefix n c ≡ c
  cell_prefix-beyond n [] h = refl
  cell_prefix-beyond zero (None ∷ c) h = ap (λ x. None ∷ x) (cell_prefix-beyond zero c (shallower_zero (depth c) h))
    where
      shallower_zero : (m : ℕ) → depth_with {A = A} None m ≤ 0 → m ≤ 0
      shallower_zero zero h = omega arith
      shallower_zero (suc m) h = absurd (omega arith)
  cell_prefix-beyond zero (Some v ∷ c) h = absurd (omega arith)
  cell_prefix-beyond (suc n) (e ∷ c) h = ap (λ x. e ∷ x) (cell_prefix-beyond n c (shallower e (depth c) n h))

  pub depth-with_value : (p : Cell A) (i : ℕ) (v : A) → depth p ≤ i → i < length p → depth (with_value p i v) ≡ suc i
  depth-with_value [] i v h l = absurd (omega arith)
  depth-with_value (None ∷ p) zero v h l = ap suc (none_left (depth p) h)
    where
      none_left : (n : ℕ) → depth_with {A = A} None n ≤ 0 → n ≡ 0
      none_left zero h = refl
      none_left (suc n) h = absurd (omega arith)
  depth-with_value (Some w ∷ p) zero v h l = absurd (omega arith)
  depth-with_value (e ∷ p) (suc i) v h l
      = ap (depth_with e) (depth-with_value p i v (shallower e (depth p) i h) (omega arith)) ∙ deep e
    where
      deep : (e : Option A) → depth_with e (suc i) ≡ suc (suc i)
      deep None = refl
      deep (Some w) = refl

  -- a cell's last value stands after its prefix
  pub split_last : (c : Cell A) (i : ℕ) → depth c ≡ suc i → (v : A) × (c ≡ with_value (cell_prefix i c) i v)
      × (slice_get c i ≡ Some (Some v))
  split_last [] i h = absurd (omega arith)
  split_last (e ∷ c) i h = go (split_last c) e i (depth c) refl h
    where
      go : ((i : ℕ) → depth c ≡ suc i → (v : A) × (c ≡ with_value (cell_prefix i c) i v)
          × (slice_get c i ≡ Some (Some v))) → (e : Option A) (i n : ℕ) → depth c ≡ n → depth_with e n ≡ suc i
          → (v : A) × (e ∷ c ≡ with_value (cell_prefix i (e ∷ c)) i v) × (slice_get (e ∷ c) i ≡ Some (Some v))
      go more None i zero is k = absurd (omega arith)
      go more None zero (suc n) is k = absurd (omega arith)
      go more None (suc i) (suc n) is k = let r : (v : A) × (c ≡ with_value (cell_prefix i c) i v)
          × (slice_get c i ≡ Some (Some v)) = more i (omega (arith, is, k)) in (r.0, ap (λ x. None ∷ x) r.1, r.2)
      go more (Some v) zero n is k
          = (v, ap (λ x. Some v ∷ x) (sym (cell_prefix-beyond zero c (omega (arith, is, k)))), refl)
      go more (Some w) (suc i) n is k = let r : (v : A) × (c ≡ with_value (cell_prefix i c) i v)
          × (slice_get c i ≡ Some (Some v)) = more i (omega (arith, is, k)) in (r.0, ap (λ x. Some w ∷ x) r.1, r.2)

  pub cell_prefix-cell_prefix : (k n : ℕ) (u : Cell A) → k ≤ n → cell_prefix k (cell_prefix n u) ≡ cell_prefix k u
  cell_prefix-cell_prefix k n [] h = refl
  cell_prefix-cell_prefix zero zero (e ∷ u) h = ap (λ x. None ∷ x) (cell_prefix-cell_prefix zero zero u h)
  cell_prefix-cell_prefix zero (suc n) (e ∷ u) h = ap (λ x. None ∷ x) (cell_prefix-cell_prefix zero n u (omega arith))
  cell_prefix-cell_prefix (suc k) zero (e ∷ u) h = absurd (omega arith)
  cell_prefix-cell_prefix (suc k) (suc n) (e ∷ u) h = ap (λ x. e ∷ x) (cell_prefix-cell_prefix k n u (omega arith))

  -- after a cell's last value there is Any
  pub any_after : (p : Cell A) (i : ℕ) → depth p ≤ i → i < length p → slice_get p i ≡ Some None
  any_after [] i h l = absurd (omega arith)
  any_after (None ∷ p) zero h l = refl
  any_after (Some v ∷ p) zero h l = absurd (omega arith)
  any_after (e ∷ p) (suc i) h l = any_after p i (shallower e (depth p) i h) (omega arith)

  -- a prefix one longer
  pub upto-entry : (u : Cell A) (e : ℕ) (w : A) → slice_get u e ≡ Some (Some w)
      → upto u e ≡ with_value (cell_prefix e u) e w
  upto-entry [] e w h = cc
  upto-entry (f ∷ u) zero w h = ap (λ x. x ∷ cell_prefix zero u) (cc)
  upto-entry (f ∷ u) (suc e) w h = ap (λ x. f ∷ x) (upto-entry u e w h)

  pub upto-none : (u : Cell A) (e : ℕ) → slice_get u e ≡ Some None → upto u e ≡ cell_prefix e u
  upto-none [] e h = refl
  upto-none (f ∷ u) zero h = ap (λ x. x ∷ cell_prefix zero u) (cc)
  upto-none (f ∷ u) (suc e) h = ap (λ x. f ∷ x) (upto-none u e h)

module _ {A : Type 0} {eq : A → A → Bool} (law : IsEquality eq) where
  -- p + (i, v) generalizes what p and the value generalize
  pub with_value-leq : (p d : Cell A) (i : ℕ) (v : A) → depth p ≤ i → i < length p
      → leq eq (with_value p i v) d ≡ (leq eq p d && leq eq (one_value i v) d)
  with_value-leq [] d i v h l = absurd (omega arith)
  with_value-leq (Some w ∷ p) d zero v h l = absurd (omega arith)
  with_value-leq (None ∷ p) [] zero v h l = refl
  with_value-leq (None ∷ p) (f ∷ d) zero v h l = turned (entry_leq eq (Some v) f) (leq eq p d)
    where
      turned : (a b : Bool) → (a && b) ≡ (b && (a && true))
      turned a b = grind arith
  with_value-leq (e ∷ p) [] (suc i) v h l = refl
  with_value-leq (e ∷ p) (f ∷ d) (suc i) v h l
      = ap (λ x. entry_leq eq e f && x) (with_value-leq p d i v (shallower e (depth p) i h) (omega arith))
      ∙ grouped (entry_leq eq e f) (leq eq p d) (leq eq (one_value i v) d)
    where
      grouped : (a b c : Bool) → (a && (b && c)) ≡ ((a && b) && c)
      grouped a b c = grind arith

  -- a value after a cell's last leads to a greater cell
  pub leq-with_value : (p : Cell A) (i : ℕ) (v : A) → depth p ≤ i → leq eq p (with_value p i v) ≡ true
  leq-with_value [] i v h = refl
  leq-with_value (None ∷ p) zero v h = leq_refl law p
  leq-with_value (Some w ∷ p) zero v h = absurd (omega arith)
  leq-with_value (e ∷ p) (suc i) v h
      = and_from _ _ (and_parts (entry_leq eq e e) (leq eq p p) (leq_refl law (e ∷ p))).0
      (leq-with_value p i v (shallower e (depth p) i h))

  pub cell_prefix-meet : (n : ℕ) (w d : Cell A) → cell_prefix n (meet eq w d) ≡ meet eq (cell_prefix n w) d
  cell_prefix-meet n [] d = refl
  cell_prefix-meet zero (e ∷ w) [] = refl
  cell_prefix-meet (suc n) (e ∷ w) [] = refl
  cell_prefix-meet zero (e ∷ w) (f ∷ d) = ap (λ x. None ∷ x) (cell_prefix-meet zero w d)
  cell_prefix-meet (suc n) (e ∷ w) (f ∷ d) = ap (λ x. entry_meet eq e f ∷ x) (cell_prefix-meet n w d)

module _ {A : Type 0} where
  pub with_value-there : (p : Cell A) (i : ℕ) (v : A) → i < length p → slice_get (with_value p i v) i ≡ Some (Some v)
  with_value-there [] i v l = absurd (omega arith)
  with_value-there (e ∷ p) zero v l = refl
  with_value-there (e ∷ p) (suc i) v l = with_value-there p i v (omega arith)

  pub with_value-other : (p : Cell A) (i : ℕ) (v : A) (k : ℕ) → k < i → slice_get (with_value p i v) k ≡ slice_get p k
  with_value-other [] i v k l = refl
  with_value-other (f ∷ p) zero v k l = absurd (omega arith)
  with_value-other (f ∷ p) (suc i) v zero l = refl
  with_value-other (f ∷ p) (suc i) v (suc k) l = with_value-other p i v k (omega arith)

  pub depth-one_value : (i : ℕ) (v : A) → depth (one_value i v) ≡ suc i
  depth-one_value zero v = refl
  depth-one_value (suc i) v = ap (depth_with {A = A} None) (depth-one_value i v)

  pub get-cell_prefix : (k n : ℕ) (c : Cell A) → k < n → slice_get (cell_prefix n c) k ≡ slice_get c k
  get-cell_prefix k n [] h = refl
  get-cell_prefix k zero (e ∷ c) h = absurd (omega arith)
  get-cell_prefix zero (suc n) (e ∷ c) h = refl
  get-cell_prefix (suc k) (suc n) (e ∷ c) h = get-cell_prefix k n c (omega arith)

-- the prefix before a new last value
pub cell_prefix-with_value : {A : Type 0} (p : Cell A) (i : ℕ) (v : A) → depth p ≤ i
    → cell_prefix i (with_value p i v) ≡ p
cell_prefix-with_value [] i v h = refl
cell_prefix-with_value (None ∷ p) zero v h = cell_prefix-beyond zero (None ∷ p) h
cell_prefix-with_value (Some w ∷ p) zero v h = absurd (omega arith)
cell_prefix-with_value (e ∷ p) (suc i) v h = ap (λ x. e ∷ x) (cell_prefix-with_value p i v (shallower e (depth p) i h))

pub depth-any : (n : ℕ) → depth (replicate {A = Option ℕ} n None) ≡ 0
depth-any zero = refl
depth-any (suc n) = ap (depth_with {A = ℕ} None) (depth-any n)

-- a cell without values
pub flat_is : {A : Type 0} (c : Cell A) → depth c ≡ 0 → c ≡ replicate (length c) None
flat_is c h = sym (cell_prefix-depth c) ∙ ap (λ n. cell_prefix n c) h ∙ cell_prefix_zero c

pub any_below : (n : ℕ) (t : Cell ℕ) → n ≡ length t → leq nat_eq (replicate n None) t ≡ true
any_below zero t e = refl
any_below (suc n) [] e = absurd (omega arith)
any_below (suc n) (x ∷ t) e = any_below n t (omega arith)

-- what cutting off the last value leaves
pub cut_some : (p : Cell ℕ) (i : ℕ) → depth p ≡ suc i → parent_cell_of nat_cmp p ≡ Some (cell_prefix i p)
cut_some p i e =
    cond-false (depth p == 0) None (Some (cell_prefix (depth p - 1) p)) (apart (depth p) e)
    ∙ ap (λ d. Some (cell_prefix d p)) (less (depth p) e)
  where
    apart : (d : ℕ) → d ≡ suc i → (d == 0) ≡ false
    apart d e = grind arith

    less : (d : ℕ) → d ≡ suc i → d - 1 ≡ i
    less d e = omega arith
