-- The laws of cells.
use Rattle.std.proofs.Common.{◌≡◌, ℕ, zero, suc, Bool, true, ◌&&◌, Option, Some, None, List, [], ◌∷◌, refl, sym, ap, ap₂, ◌∙◌, arith}
use Rattle.std.proofs.Common.{true≢false, nat_eq, eqb-true, eq-eqb, length, subst, ◌≤◌, replicate}
use Rattle.std.proofs.lemmas.Bool.{and_parts, and_from, cond-true, cond-false}
use Rattle.std.specs.Option.{option_eq}
use Rattle.std.specs.Cmp.{both_ways}
use Rattle.cube_defs.specs.Cell.{Cell, entry_leq, leq, entry_meet, meet, cell_eq, cell_of, depth, last, depth_index, depth_with}
use Rattle.cube_defs.specs.Cell.{cell_prefix}

-- the test tells equal values
pub record IsEquality {A : Type 0} (eq : A → A → Bool) : Type 0 where
  pub exact : (x y : A) → eq x y ≡ true → x ≡ y
  pub same : (x : A) → eq x x ≡ true

module _ {A : Type 0} {eq : A → A → Bool} (law : IsEquality eq) where
  pub symm : (x y : A) → eq x y ≡ eq y x
  symm x y = grind (arith, law.exact, law.same)

  entry_meet_comm : (e f : Option A) → entry_meet eq e f ≡ entry_meet eq f e
  entry_meet_comm None None = refl
  entry_meet_comm None (Some w) = refl
  entry_meet_comm (Some v) None = refl
  entry_meet_comm (Some v) (Some w) = grind (arith, law.exact, law.same, cond-true, cond-false)

  entry_meet_assoc : (e f g : Option A) → entry_meet eq (entry_meet eq e f) g ≡ entry_meet eq e (entry_meet eq f g)
  entry_meet_assoc e f g = grind (arith, law.exact, law.same, cond-true, cond-false)

  entry_meet_idem : (e : Option A) → entry_meet eq e e ≡ e
  entry_meet_idem e = grind (arith, law.exact, law.same, cond-true, cond-false)

  entry_leq_meet : (e f : Option A) → entry_leq eq e f ≡ true → entry_meet eq e f ≡ e
  entry_leq_meet e f h = grind (arith, law.exact, law.same, cond-true, cond-false)

  entry_meet_leq : (e f : Option A) → entry_meet eq e f ≡ e → entry_leq eq e f ≡ true
  entry_meet_leq e f h = grind (arith, law.exact, law.same, cond-true, cond-false)

  pub entry_leq_trans : (e f g : Option A) → entry_leq eq e f ≡ true → entry_leq eq f g ≡ true → entry_leq eq e g ≡ true
  entry_leq_trans e f g h k = grind (arith, law.exact, law.same, cond-true, cond-false)

  -- the meet generalizes both
  entry_meet_left : (e f : Option A) → entry_leq eq (entry_meet eq e f) e ≡ true
  entry_meet_left e f = grind (arith, law.exact, law.same, cond-true, cond-false)

  pub meet_comm : (c d : Cell A) → meet eq c d ≡ meet eq d c
  meet_comm [] [] = refl
  meet_comm [] (f ∷ d) = refl
  meet_comm (e ∷ c) [] = refl
  meet_comm (e ∷ c) (f ∷ d) = ap₂ (λ x y. x ∷ y) (entry_meet_comm e f) (meet_comm c d)

  pub meet_assoc : (c d x : Cell A) → meet eq (meet eq c d) x ≡ meet eq c (meet eq d x)
  meet_assoc [] d x = refl
  meet_assoc (e ∷ c) [] x = refl
  meet_assoc (e ∷ c) (f ∷ d) [] = refl
  meet_assoc (e ∷ c) (f ∷ d) (g ∷ x) = ap₂ (λ x y. x ∷ y) (entry_meet_assoc e f g) (meet_assoc c d x)

  pub meet_idem : (c : Cell A) → meet eq c c ≡ c
  meet_idem [] = refl
  meet_idem (e ∷ c) = ap₂ (λ x y. x ∷ y) (entry_meet_idem e) (meet_idem c)

  pub meet_of_leq : (c d : Cell A) → leq eq c d ≡ true → meet eq c d ≡ c
  meet_of_leq [] d h = refl
  meet_of_leq (e ∷ c) [] h = absurd (true≢false (sym h))
  meet_of_leq (e ∷ c) (f ∷ d) h = let p = and_parts (entry_leq eq e f) (leq eq c d) h in
      ap₂ (λ x y. x ∷ y) (entry_leq_meet e f p.0) (meet_of_leq c d p.1)

  pub leq_of_meet : (c d : Cell A) → meet eq c d ≡ c → leq eq c d ≡ true
  leq_of_meet [] d h = refl
  leq_of_meet (e ∷ c) [] h = cc
  leq_of_meet (e ∷ c) (f ∷ d) h = and_from _ _ (entry_meet_leq e f (cc)) (leq_of_meet c d (cc))

  pub leq_refl : (c : Cell A) → leq eq c c ≡ true
  leq_refl c = leq_of_meet c c (meet_idem c)

  pub leq_trans : (c d x : Cell A) → leq eq c d ≡ true → leq eq d x ≡ true → leq eq c x ≡ true
  leq_trans [] d x h k = refl
  leq_trans (e ∷ c) [] x h k = absurd (true≢false (sym h))
  leq_trans (e ∷ c) (f ∷ d) [] h k = absurd (true≢false (sym k))
  leq_trans (e ∷ c) (f ∷ d) (g ∷ x) h k =
      let p = and_parts (entry_leq eq e f) (leq eq c d) h in
      let q = and_parts (entry_leq eq f g) (leq eq d x) k in
      and_from _ _ (entry_leq_trans e f g p.0 q.0) (leq_trans c d x p.1 q.1)

  pub leq_antisymm : (c d : Cell A) → leq eq c d ≡ true → leq eq d c ≡ true → c ≡ d
  leq_antisymm c d h k = sym (meet_of_leq c d h) ∙ meet_comm c d ∙ meet_of_leq d c k

  pub meet_left : (c d : Cell A) → leq eq (meet eq c d) c ≡ true
  meet_left [] d = refl
  meet_left (e ∷ c) [] = refl
  meet_left (e ∷ c) (f ∷ d) = and_from _ _ (entry_meet_left e f) (meet_left c d)

  pub meet_right : (c d : Cell A) → leq eq (meet eq c d) d ≡ true
  meet_right c d = (ap (λ x. leq eq x d) (meet_comm c d)) ∙ meet_left d c

  pub meet_great : (c d x : Cell A) → leq eq c d ≡ true → leq eq c x ≡ true → leq eq c (meet eq d x) ≡ true
  meet_great c d x h k = leq_of_meet c (meet eq d x) (sym (meet_assoc c d x) ∙ ap (λ y. meet eq y x) (meet_of_leq c d h)
      ∙ meet_of_leq c x k)

  pub cell_eq-exact : (c d : Cell A) → cell_eq eq c d ≡ true → c ≡ d
  cell_eq-exact [] [] h = refl
  cell_eq-exact [] (f ∷ d) h = absurd (true≢false (sym h))
  cell_eq-exact (e ∷ c) [] h = absurd (true≢false (sym h))
  cell_eq-exact (e ∷ c) (f ∷ d) h = let p = and_parts (option_eq eq e f) (cell_eq eq c d) h in
      ap₂ (λ x y. x ∷ y) (entry_eq-exact e f p.0) (cell_eq-exact c d p.1)
    where
      entry_eq-exact : (e f : Option A) → option_eq eq e f ≡ true → e ≡ f
      entry_eq-exact e f h = grind (arith, law.exact)

  pub cell_eq-same : (c : Cell A) → cell_eq eq c c ≡ true
  cell_eq-same [] = refl
  cell_eq-same (e ∷ c) = and_from _ _ (entry_eq-same e) (cell_eq-same c)
    where
      entry_eq-same : (e : Option A) → option_eq eq e e ≡ true
      entry_eq-same e = grind (arith, law.same)

  pub cell_eq-from : (c d : Cell A) → c ≡ d → cell_eq eq c d ≡ true
  cell_eq-from c d e = ap (cell_eq eq c) (sym e) ∙ cell_eq-same c

  -- a tuple covers no other of its length
  pub tuple-leq : (s t : List A) → length s ≡ length t → leq eq (cell_of s) (cell_of t) ≡ true → s ≡ t
  tuple-leq [] [] l h = refl
  tuple-leq [] (y ∷ t) l h = absurd (omega arith)
  tuple-leq (x ∷ s) [] l h = absurd (omega arith)
  tuple-leq (x ∷ s) (y ∷ t) l h = let p = and_parts (eq x y) (leq eq (cell_of s) (cell_of t)) h in
      ap₂ (λ v vs. v ∷ vs) (law.exact x y p.0) (tuple-leq s t (omega arith) p.1)

  pub cell_prefix-leq : (n : ℕ) (c : Cell A) → leq eq (cell_prefix n c) c ≡ true
  cell_prefix-leq n [] = refl
  cell_prefix-leq zero (e ∷ c) = cell_prefix-leq zero c
  cell_prefix-leq (suc n) (e ∷ c) = and_from _ _ (entry_refl e) (cell_prefix-leq n c)
    where
      entry_refl : (e : Option A) → entry_leq eq e e ≡ true
      entry_refl e = grind (arith, law.same)

  pub cell_prefix_mono : (n : ℕ) (c d : Cell A) → leq eq c d ≡ true → leq eq (cell_prefix n c) (cell_prefix n d) ≡ true
  cell_prefix_mono n [] d h = refl
  cell_prefix_mono n (e ∷ c) [] h = absurd (true≢false (sym h))
  cell_prefix_mono zero (e ∷ c) (f ∷ d) h = cell_prefix_mono zero c d (and_parts _ _ h).1
  cell_prefix_mono (suc n) (e ∷ c) (f ∷ d) h
      = and_from _ _ (and_parts (entry_leq eq e f) (leq eq c d) h).0 (cell_prefix_mono n c d (and_parts _ _ h).1)

module _ {A : Type 0} where
  -- a cell ends where its values do
  pub deeper : (e : Option A) (n : ℕ) (c x : Cell A) → cell_prefix n c ≡ x
      → cell_prefix (depth_with e n) (e ∷ c) ≡ e ∷ x
  deeper None zero c x h = ap (λ y. None ∷ y) h
  deeper None (suc n) c x h = ap (λ y. None ∷ y) h
  deeper (Some v) n c x h = ap (λ y. Some v ∷ y) h

  pub cell_prefix-depth : (c : Cell A) → cell_prefix (depth c) c ≡ c
  cell_prefix-depth [] = refl
  cell_prefix-depth (e ∷ c) = deeper e (depth c) c c (cell_prefix-depth c)

  pub depth-cell_prefix_zero : (c : Cell A) → depth (cell_prefix zero c) ≡ 0
  depth-cell_prefix_zero [] = refl
  depth-cell_prefix_zero (e ∷ c) = ap (depth_with {A = A} None) (depth-cell_prefix_zero c)

  -- the prefix of c that ends where keep k c does
  pub cell_prefix-depth_cell_prefix : (k : ℕ) (c : Cell A) → cell_prefix (depth (cell_prefix k c)) c ≡ cell_prefix k c
  cell_prefix-depth_cell_prefix k [] = refl
  cell_prefix-depth_cell_prefix zero (e ∷ c)
      = ap (λ n. cell_prefix (depth_with {A = A} None n) (e ∷ c)) (depth-cell_prefix_zero c)
  cell_prefix-depth_cell_prefix (suc k) (e ∷ c)
      = deeper e (depth (cell_prefix k c)) c (cell_prefix k c) (cell_prefix-depth_cell_prefix k c)

-- at numbers
pub nat_equality : IsEquality nat_eq
nat_equality = record { exact = λ x y h. eqb-true x y h; same = λ x. eq-eqb x x refl }

pub length-meet : {A : Type 0} (eq : A → A → Bool) (c d : Cell A) → length c ≡ length d
    → length (meet eq c d) ≡ length c
length-meet eq [] d e = refl
length-meet eq (f ∷ c) [] e = absurd (omega arith)
length-meet eq (f ∷ c) (g ∷ d) e = ap suc (length-meet eq c d (omega arith))

pub length-cell_of : {A : Type 0} (t : List A) → length (cell_of t) ≡ length t
length-cell_of [] = refl
length-cell_of (v ∷ t) = ap suc (length-cell_of t)

module _ {A : Type 0} {eq : A → A → Bool} (law : IsEquality eq) where
  -- the same cell, by two comparisons
  pub cell_eq-leq : (c d : Cell A) → cell_eq eq c d ≡ (leq eq c d && leq eq d c)
  cell_eq-leq c d = both_ways _ _
      (λ h. let e : c ≡ d = cell_eq-exact law c d h in
      subst (λ x. (leq eq c x && leq eq x c) ≡ true) e (and_from _ _ (leq_refl law c) (leq_refl law c)))
      (λ h. let p = and_parts (leq eq c d) (leq eq d c) h in
      subst (λ x. cell_eq eq c x ≡ true) (leq_antisymm law c d p.0 p.1) (cell_eq-same law c))

-- the depth, by the last dimension with a value
pub depth_of_last : {A : Type 0} (c : Cell A) (j : ℕ) → last c ≡ Some j → depth c ≡ suc j
depth_of_last c j h = go (depth c) h
  where
    go : (n : ℕ) → depth_index n ≡ Some j → n ≡ suc j
    go zero h = cc
    go (suc n) h = cc

pub depth_of_none : {A : Type 0} (c : Cell A) → last c ≡ None → depth c ≡ 0
depth_of_none c h = go (depth c) h
  where
    go : (n : ℕ) → depth_index n ≡ None → n ≡ 0
    go zero h = refl
    go (suc n) h = cc

pub one_deeper-le : {A : Type 0} (e : Option A) (n m : ℕ) → n ≤ m → depth_with e n ≤ suc m
one_deeper-le None zero m h = omega arith
one_deeper-le None (suc n) m h = omega arith
one_deeper-le (Some v) n m h = omega arith

pub depth-le : {A : Type 0} (c : Cell A) → depth c ≤ length c
depth-le [] = omega arith
depth-le (e ∷ c) = one_deeper-le e (depth c) (length c) (depth-le c)

pub cell_prefix_zero : {A : Type 0} (c : Cell A) → cell_prefix 0 c ≡ replicate (length c) None
cell_prefix_zero [] = refl
cell_prefix_zero (e ∷ c) = ap (λ x. None ∷ x) (cell_prefix_zero c)

pub length-cell_prefix : {A : Type 0} (n : ℕ) (c : Cell A) → length (cell_prefix n c) ≡ length c
length-cell_prefix n [] = refl
length-cell_prefix zero (e ∷ c) = ap suc (length-cell_prefix zero c)
length-cell_prefix (suc n) (e ∷ c) = ap suc (length-cell_prefix n c)
