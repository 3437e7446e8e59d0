-- Masks of what cells that generalize a tuple, and a node and the tuple, have in common.
use Rattle.std.proofs.Common.{◌≡◌, ◌≢◌, ℕ, zero, suc, ◌+◌, ◌*◌, ◌-◌, ◌^◌, ◌%◌, ◌/◌, ◌≤◌, ◌<◌, All, Bool, true, false, ◌&&◌, Option, Some}
use Rattle.std.proofs.Common.{None, [], ◌∷◌, is_some, length, nat_eq, slice_get, slice_index_or, replicate, if◌then◌else◌, refl, sym, ap}
use Rattle.std.proofs.Common.{ap₂, ◌∙◌, true≢false, arith, pow_mono, pow-suc}
use Rattle.std.proofs.lemmas.Bool.{and_parts, cond-true, cond-false, false_from_ne_true}
use Rattle.cube_defs.specs.Cell.{Cell, depth, entry_leq, entry_meet, cell_prefix, leq, mask, meet, depth_with, upto, with_value}
use Rattle.cube_laws.proofs.CallerLemmas.{nat_equality, cell_prefix-depth, cell_prefix_zero}
use Rattle.tree_laws.proofs.CallerLemmas.{flat_is, some_same}
use Rattle.batch_insert.specs.Masks.{part}
use Rattle.batch_insert.proofs.Naming.{any_mask, below_with, long_with}

pub part_long : (t : Cell ℕ) (m : ℕ) → length (part t m) ≡ length t
part_long [] m = refl
part_long (e ∷ t) m = ap suc (part_long t (m / 2))

pub part_below : (t : Cell ℕ) (m : ℕ) → leq nat_eq (part t m) t ≡ true
part_below [] m = refl
part_below (e ∷ t) m = ap₂ (λ x y. x && y) (go e (nat_eq (m % 2) 1)) (part_below t (m / 2))
  where
    go : (e : Option ℕ) (b : Bool) → entry_leq nat_eq (if b then e else None) e ≡ true
    go e false = refl
    go None true = refl
    go (Some v) true = nat_equality.same v

even : (n : ℕ) → nat_eq ((2 * n) % 2) 1 ≡ false
even n = let e : (2 * n) % 2 ≡ 0 = omega arith in ap (λ x. nat_eq x 1) e

odd : (n : ℕ) → nat_eq ((2 * n + 1) % 2) 1 ≡ true
odd n = let e : (2 * n + 1) % 2 ≡ 1 = omega arith in ap (λ x. nat_eq x 1) e

-- a cell that generalizes t is the part with its mask
pub part_of : (t p : Cell ℕ) → leq nat_eq p t ≡ true → length p ≡ length t → part t (mask p) ≡ p
part_of [] [] h l = refl
part_of [] (e ∷ p) h l = absurd (omega arith)
part_of (f ∷ t) [] h l = absurd (omega arith)
part_of (f ∷ t) (None ∷ p) h l =
    let half : (2 * mask p) / 2 ≡ mask p = omega arith in
    ap₂ (λ x y. x ∷ y) (cond-false _ f None (even _)) (ap (part t) half ∙ part_of t p h (omega arith))
part_of (f ∷ t) (Some v ∷ p) h l =
    let half : (2 * mask p + 1) / 2 ≡ mask p = omega arith in
    let b = and_parts _ _ h in
    ap₂ (λ x y. x ∷ y) (cond-true _ f None (odd _) ∙ one f b.0) (ap (part t) half ∙ part_of t p b.1 (omega arith))
  where
    one : (f : Option ℕ) → entry_leq nat_eq (Some v) f ≡ true → f ≡ Some v
    one None k = absurd (true≢false (sym k))
    one (Some w) k = ap (λ x. Some x) (sym (nat_equality.exact v w k))

pub part_none : (t : Cell ℕ) → part t 0 ≡ replicate (length t) None
part_none [] = refl
part_none (e ∷ t) = ap (λ x. None ∷ x) (part_none t)

pub mask_small : (c : Cell ℕ) → mask c < 2 ^ length c
mask_small [] = omega arith
mask_small (None ∷ c) = let h = mask_small c in rw pow-suc (omega arith)
mask_small (Some v ∷ c) = let h = mask_small c in rw pow-suc (omega arith)

pub mask_fits : (c : Cell ℕ) (n : ℕ) → length c ≡ n → n ≤ 16 → mask c < 65536
mask_fits c n e h = let p : 2 ^ n ≤ 2 ^ 16 = pow_mono h in let q : mask c < 2 ^ n
    = rw (← e) (mask_small c) in omega arith

shallow : (e : Option ℕ) (d i : ℕ) → depth_with e d ≤ suc i → d ≤ i
shallow None zero i h = omega arith
shallow None _ i h = omega (arith, h)
shallow _ d i h = omega (arith, h)

-- one value more
pub mask_with : (p : Cell ℕ) (i v : ℕ) → depth p ≤ i → i < length p → mask (with_value p i v) ≡ mask p + 2 ^ i
mask_with [] i v d l = absurd (omega arith)
mask_with (None ∷ p) zero v d l = refl
mask_with _ zero v d l = absurd (omega (arith, d))
mask_with (None ∷ p) (suc i) v d l = let h = mask_with p i v (shallow None _ i d) (omega arith) in
    rw pow-suc (omega arith)
mask_with (Some w ∷ p) (suc i) v d l = let h = mask_with p i v (shallow (Some w) (depth p) i d) (omega arith) in
    rw pow-suc (omega arith)

-- t's prefix
prefix_more : (t : Cell ℕ) (i : ℕ) → All (λ e. is_some e ≡ true) t → i < length t
    → mask (cell_prefix (suc i) t) + 1 ≡ 2 ^ suc i
prefix_more [] i full l = absurd (omega arith)
prefix_more (None ∷ t) i full l = absurd (true≢false (sym (full 0 None (omega arith))))
prefix_more (Some v ∷ t) zero full l = let e : mask (cell_prefix 0 t) ≡ 0 = ap mask (cell_prefix_zero t)
    ∙ any_mask (length t) in omega arith
prefix_more (Some v ∷ t) (suc i) full l = let h
    = prefix_more t i (λ j d k. full (suc j) d (omega arith)) (omega arith) in rw pow-suc (omega arith)

pub front_mask : (t : Cell ℕ) (i b n : ℕ) → All (λ e. is_some e ≡ true) t → i < length t → b ≡ 2 ^ i → n ≡ b + (b - 1)
    → n ≡ mask (upto t i)
front_mask t i b n full l e h =
    let m = prefix_more t i full l in
    let p : 2 ^ suc i ≡ 2 ^ i * 2 = pow-suc 2 i in
    omega (arith, m, p, e, h)

-- whether t has the value v in the dimension j, and the bit for it
abbrev pub agrees : Cell ℕ → ℕ → ℕ → Bool
agrees t j v = entry_leq nat_eq (Some v) (slice_index_or t j None)

abbrev pub bit_for : Cell ℕ → ℕ → ℕ → ℕ
bit_for t j v = if agrees t j v then 2 ^ j else 0

-- an entry more before it
abbrev entry_bit : Option ℕ → ℕ
entry_bit None = 0
entry_bit (Some v) = 1

mask_cons : (e : Option ℕ) (c : Cell ℕ) → mask (e ∷ c) ≡ 2 * mask c + entry_bit e
mask_cons None c = omega arith
mask_cons _ c = refl

met_bit : (v : ℕ) (f : Option ℕ)
    → entry_bit (entry_meet nat_eq (Some v) f) ≡ (if entry_leq nat_eq (Some v) f then 2 ^ 0 else 0)
met_bit v None = refl
met_bit v (Some w) = go (nat_eq v w)
  where
    go : (b : Bool) → entry_bit (if b then Some v else None) ≡ (if b then 2 ^ 0 else 0)
    go true = refl
    go false = refl

twice : (b : Bool) (j : ℕ) → (if b then 2 ^ suc j else 0) ≡ 2 * (if b then 2 ^ j else 0)
twice true j = let p : 2 ^ suc j ≡ 2 ^ j * 2 = pow-suc 2 j in omega (arith, p)
twice false j = refl

deeper : (e : Option ℕ) (d j : ℕ) → depth_with e d ≡ suc (suc j) → d ≡ suc j
deeper None zero j h = cc
deeper None _ j h = omega (arith, h)
deeper _ d j h = omega (arith, h)

bare : (x : Cell ℕ) (v : ℕ) → depth_with (Some v) (depth x) ≡ 1 → cell_prefix 0 x ≡ x
bare x v h = let d : 0 ≡ depth x = omega (arith, h) in ap (λ n. cell_prefix n x) d ∙ cell_prefix-depth x

-- a cell whose last value is v in the dimension j
pub last_mask : (x t : Cell ℕ) (j v : ℕ) → depth x ≡ suc j → slice_get x j ≡ Some (Some v) → length x ≡ length t
    → mask (meet nat_eq x t) ≡ mask (meet nat_eq (cell_prefix j x) t) + bit_for t j v
last_mask [] t j v d e l = cc
last_mask (e ∷ x) [] j v d g l = absurd (omega arith)
last_mask (e ∷ x) (f ∷ t) zero v d g l =
    let is : e ≡ Some v = some_same g in
    let b = bare x v (ap (λ o. depth_with o (depth x)) (sym is) ∙ d) in
    let left : mask (entry_meet nat_eq e f ∷ meet nat_eq x t) ≡ 2 * mask (meet nat_eq x t)
    + (if entry_leq nat_eq (Some v) f then 2 ^ 0 else 0)
    = mask_cons (entry_meet nat_eq e f) (meet nat_eq x t)
    ∙ ap (λ n. 2 * mask (meet nat_eq x t) + n) (ap (λ o. entry_bit (entry_meet nat_eq o f)) is ∙ met_bit v f) in
    let right : mask (meet nat_eq (cell_prefix 0 x) t) ≡ mask (meet nat_eq x t) = ap (λ y. mask (meet nat_eq y t)) b in
    left ∙ ap (λ n. 2 * n + (if entry_leq nat_eq (Some v) f then 2 ^ 0 else 0)) (sym right)
last_mask (e ∷ x) (f ∷ t) (suc j) v d g l =
    let h = last_mask x t j v (deeper e (depth x) j d) g (omega arith) in
    let left = mask_cons (entry_meet nat_eq e f) (meet nat_eq x t) in
    let right = mask_cons (entry_meet nat_eq e f) (meet nat_eq (cell_prefix j x) t) in
    let two = twice (agrees t j v) j in
    omega (arith, h, left, right, two)

pub last_leq : (x t : Cell ℕ) (j v : ℕ) → depth x ≡ suc j → slice_get x j ≡ Some (Some v) → length x ≡ length t
    → leq nat_eq x t ≡ (agrees t j v && leq nat_eq (cell_prefix j x) t)
last_leq [] t j v d e l = cc
last_leq (e ∷ x) [] j v d g l = absurd (omega arith)
last_leq (e ∷ x) (f ∷ t) zero v d g l =
    let is : e ≡ Some v = some_same g in
    let b = bare x v (ap (λ o. depth_with o (depth x)) (sym is) ∙ d) in
    ap₂ (λ o y. entry_leq nat_eq o f && leq nat_eq y t) is (sym b)
last_leq (e ∷ x) (f ∷ t) (suc j) v d g l =
    ap (λ b. entry_leq nat_eq e f && b) (last_leq x t j v (deeper e _ j d) g (omega arith))
    ∙ swap (entry_leq nat_eq e f) (agrees t j v) _
  where
    swap : (a b c : Bool) → (a && (b && c)) ≡ (b && (a && c))
    swap true b c = refl
    swap false true c = refl
    swap false false c = refl

pub any_met : (n : ℕ) (t : Cell ℕ) → n ≡ length t → (mask (meet nat_eq (replicate n None) t) ≡ 0)
    × (leq nat_eq (replicate n None) t ≡ true)
any_met zero t h = (refl, refl)
any_met (suc n) [] h = absurd (omega arith)
any_met (suc n) (f ∷ t) h = let r = any_met n t (omega arith) in let e = r.0 in (omega (arith, e), r.1)

pub flat_met : (x t : Cell ℕ) → depth x ≡ 0 → length x ≡ length t → (mask (meet nat_eq x t) ≡ 0)
    × (leq nat_eq x t ≡ true)
flat_met x t d l =
    let r = any_met (length x) t l in
    (ap (λ y. mask (meet nat_eq y t)) (flat_is x d) ∙ r.0, ap (λ y. leq nat_eq y t) (flat_is x d) ∙ r.1)

-- what specializes a cell that doesn't generalize t
pub apart_at : (c d : Cell ℕ) (i v w : ℕ) → slice_get c i ≡ Some (Some w) → slice_get d i ≡ Some (Some v) → w ≢ v
    → leq nat_eq c d ≡ false
apart_at c d i v w e f o = false_from_ne_true _ (λ h. o (same c d i e f h))
  where
    same : (c d : Cell ℕ) (i : ℕ) → slice_get c i ≡ Some (Some w) → slice_get d i ≡ Some (Some v)
        → leq nat_eq c d ≡ true → w ≡ v
    same [] d i e f h = cc
    same (x ∷ c) [] i e f h = cc
    same (x ∷ c) (y ∷ d) zero e f h =
        let b = and_parts _ _ h in
        nat_equality.exact w v (sym (ap₂ (entry_leq nat_eq) (some_same e) (some_same f)) ∙ b.0)
    same (x ∷ c) (y ∷ d) (suc i) e f h = same c d i e f (and_parts _ _ h).1

-- the child with one value more
module _ (t : Cell ℕ) (m i v x : ℕ) (d : depth (part t m) ≤ i) (l : i < length t)
    (at : slice_index_or t i None ≡ Some v) (e : x ≡ mask (with_value (part t m) i v)) where
  inside : i < length (part t m)
  inside = let n = part_long t m in omega (arith, l, n)

  pub child_is : part t x ≡ with_value (part t m) i v
  child_is = ap (part t) e
      ∙ part_of t (with_value (part t m) i v) (below_with t (part t m) i v (part_below t m) d inside at)
      (long_with (part t m) i v ∙ part_long t m)

  pub child_mask : mask (part t x) ≡ x
  child_mask = ap mask child_is ∙ sym e

-- the root has no values
pub flat_mask : (p : Cell ℕ) → depth p ≡ 0 → mask p ≡ 0
flat_mask [] h = refl
flat_mask (None ∷ p) h = let e = flat_mask p (shallow _ h) in omega arith
  where
    shallow : (n : ℕ) → depth_with {A = ℕ} None n ≡ 0 → n ≡ 0
    shallow zero h = refl
    shallow _ h = absurd (omega (arith, h))
flat_mask _ h = absurd (omega (arith, h))
