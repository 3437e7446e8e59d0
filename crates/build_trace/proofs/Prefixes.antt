-- The entries of cells, and cells with the same prefix.
use Rattle.std.proofs.Common.{◌≡◌, ◌⊎◌, inl, inr, ℕ, zero, suc, ◌<◌, ◌≤◌, true, Option, Some, None, List, [], ◌∷◌, length, nat_eq}
use Rattle.std.proofs.Common.{slice_index_or, refl, sym, ap, ap₂, subst, ◌∙◌, arith, true≢false, eqb-true}
use Rattle.std.proofs.lemmas.Bool.{and_parts}
use Rattle.cube_defs.specs.Cell.{Cell, leq, entry_leq, cell_prefix, cell_of, depth, depth_with}
use Rattle.cube_laws.proofs.CallerLemmas.{entry, nat_equality, depth-cell_prefix_zero, cell_prefix_mono, leq_antisymm}

pub cell_prefix_next : (k : ℕ) (c d : Cell ℕ) → length c ≡ length d → cell_prefix k c ≡ cell_prefix k d
    → entry c k ≡ entry d k → cell_prefix (suc k) c ≡ cell_prefix (suc k) d
cell_prefix_next k [] [] l h e = refl
cell_prefix_next k [] (f ∷ d) l h e = absurd (omega arith)
cell_prefix_next k (x ∷ c) [] l h e = absurd (omega arith)
cell_prefix_next zero (x ∷ c) (y ∷ d) l h e = ap₂ (λ a b. a ∷ b) e (cc)
cell_prefix_next (suc k) (x ∷ c) (y ∷ d) l h e = ap₂ (λ a b. a ∷ b) (cc) (cell_prefix_next k c d (omega arith) (cc) e)

pub cell_prefix_back : (k : ℕ) (c d : Cell ℕ) → cell_prefix (suc k) c ≡ cell_prefix (suc k) d
    → cell_prefix k c ≡ cell_prefix k d
cell_prefix_back k [] [] h = refl
cell_prefix_back k [] (f ∷ d) h = cc
cell_prefix_back k (x ∷ c) [] h = cc
cell_prefix_back zero (x ∷ c) (y ∷ d) h = ap (λ b. None ∷ b) (cc)
cell_prefix_back (suc k) (x ∷ c) (y ∷ d) h = ap₂ (λ a b. a ∷ b) (cc) (cell_prefix_back k c d (cc))

pub cell_prefix_entry : (k : ℕ) (c d : Cell ℕ) → cell_prefix (suc k) c ≡ cell_prefix (suc k) d → entry c k ≡ entry d k
cell_prefix_entry k [] [] h = refl
cell_prefix_entry k [] (f ∷ d) h = cc
cell_prefix_entry k (x ∷ c) [] h = cc
cell_prefix_entry zero (x ∷ c) (y ∷ d) h = cc
cell_prefix_entry (suc k) (x ∷ c) (y ∷ d) h = cell_prefix_entry k c d (cc)

pub cell_prefix_all : (k : ℕ) (c : Cell ℕ) → length c ≤ k → cell_prefix k c ≡ c
cell_prefix_all k [] l = refl
cell_prefix_all zero (x ∷ c) l = absurd (omega arith)
cell_prefix_all (suc k) (x ∷ c) l = ap (λ b. x ∷ b) (cell_prefix_all k c (omega arith))

entry_of_leq : (x : ℕ) (f : Option ℕ) → entry_leq nat_eq (Some x) f ≡ true → f ≡ Some x
entry_of_leq x None h = absurd (true≢false (sym h))
entry_of_leq x (Some y) h = ap (λ v. Some v) (sym (eqb-true x y h))

pub leq_entry : (k x : ℕ) (c d : Cell ℕ) → leq nat_eq c d ≡ true → entry c k ≡ Some x → entry d k ≡ Some x
leq_entry k x [] d h e = cc
leq_entry k x (f ∷ c) [] h e = absurd (true≢false (sym h))
leq_entry zero x (f ∷ c) (g ∷ d) h e
    = entry_of_leq x g (subst (λ z. entry_leq nat_eq z g ≡ true) e
    (and_parts (entry_leq nat_eq f g) (leq nat_eq c d) h).0)
leq_entry (suc k) x (f ∷ c) (g ∷ d) h e = leq_entry k x c d (and_parts (entry_leq nat_eq f g) (leq nat_eq c d) h).1 e

-- a cell that covers a row has the row's codes
pub covers_code : (k x : ℕ) (c : Cell ℕ) (t : List ℕ) → leq nat_eq c (cell_of t) ≡ true → entry c k ≡ Some x
    → slice_index_or t k 0 ≡ x
covers_code k x [] t h e = cc
covers_code k x (f ∷ c) [] h e = absurd (true≢false (sym h))
covers_code zero x (f ∷ c) (v ∷ t) h e = let r : Some v ≡ Some x
    = entry_of_leq x (Some v)
    (subst (λ z. entry_leq nat_eq z (Some v) ≡ true) e
    (and_parts (entry_leq nat_eq f (Some v)) (leq nat_eq c (cell_of t)) h).0) in cc
covers_code (suc k) x (f ∷ c) (v ∷ t) h e
    = covers_code k x c t (and_parts (entry_leq nat_eq f (Some v)) (leq nat_eq c (cell_of t)) h).1 e

-- what lies between two cells with the same prefix has it too
pub prefix_between : (k : ℕ) (a b c : Cell ℕ) → leq nat_eq a b ≡ true → leq nat_eq b c ≡ true
    → cell_prefix k c ≡ cell_prefix k a → cell_prefix k b ≡ cell_prefix k a
prefix_between k a b c h g e =
    leq_antisymm nat_equality _ _
    (subst (λ x. leq nat_eq (cell_prefix k b) x ≡ true) e (cell_prefix_mono nat_equality k b c g))
    (cell_prefix_mono nat_equality k a b h)

pub entry_cell_prefix : (k d : ℕ) (c : Cell ℕ) → k < d → entry (cell_prefix d c) k ≡ entry c k
entry_cell_prefix k zero c l = absurd (omega arith)
entry_cell_prefix k (suc d) [] l = refl
entry_cell_prefix zero (suc d) (x ∷ c) l = refl
entry_cell_prefix (suc k) (suc d) (x ∷ c) l = entry_cell_prefix k d c (omega arith)

deeper : (e : Option ℕ) (n m : ℕ) → n ≡ suc m → depth_with e n ≡ suc (suc m)
deeper None n m h = ap (depth_with {A = ℕ} None) h
deeper (Some v) n m h = ap suc h

pub depth_cell_prefix : (d v : ℕ) (c : Cell ℕ) → entry c d ≡ Some v → depth (cell_prefix (suc d) c) ≡ suc d
depth_cell_prefix d v [] e = cc
depth_cell_prefix zero v (x ∷ c) e = ap (λ y. depth_with y (depth (cell_prefix 0 c))) e
    ∙ ap suc (depth-cell_prefix_zero c)
depth_cell_prefix (suc d) v (x ∷ c) e = deeper x (depth (cell_prefix (suc d) c)) d (depth_cell_prefix d v c e)

-- the last value
pub last_entry : (d : ℕ) (c : Cell ℕ) → depth c ≡ suc d → entry c d ≡ None → ⊥
last_entry d [] h e = absurd (omega arith)
last_entry zero (None ∷ c) h e = go (depth c) h
  where
    go : (n : ℕ) → depth_with {A = ℕ} None n ≡ 1 → ⊥
    go zero h = absurd (omega arith)
    go (suc n) h = absurd (omega arith)
last_entry zero (Some v ∷ c) h e = cc
last_entry (suc d) (x ∷ c) h e = last_entry d c (go x (depth c) h) e
  where
    go : (x : Option ℕ) (n : ℕ) → depth_with x n ≡ suc (suc d) → n ≡ suc d
    go None zero h = absurd (omega arith)
    go None (suc n) h = omega arith
    go (Some v) n h = omega arith

pub deeper_or : (k d : ℕ) → k < d → (d ≡ suc k) ⊎ (suc k < d)
deeper_or k zero h = absurd (omega arith)
deeper_or zero (suc zero) h = inl refl
deeper_or zero (suc (suc d)) h = inr (omega arith)
deeper_or (suc k) (suc d) h = elim (deeper_or k d (omega arith)) [ inl e ↦ inl (ap suc e) | inr g ↦ inr (omega arith) ]

-- cells with the same entries before a dimension
pub zero_prefix : (c d : Cell ℕ) → length c ≡ length d → cell_prefix 0 c ≡ cell_prefix 0 d
zero_prefix [] [] h = refl
zero_prefix [] (f ∷ d) h = absurd (omega arith)
zero_prefix (x ∷ c) [] h = absurd (omega arith)
zero_prefix (x ∷ c) (y ∷ d) h = ap (λ b. None ∷ b) (zero_prefix c d (omega arith))

pub entry_cut : (k : ℕ) (c : Cell ℕ) → entry (cell_prefix k c) k ≡ None
entry_cut k [] = refl
entry_cut zero (x ∷ c) = refl
entry_cut (suc k) (x ∷ c) = entry_cut k c

pub cell_prefix_still : (k : ℕ) (u : Cell ℕ) → entry u k ≡ None → cell_prefix (suc k) u ≡ cell_prefix k u
cell_prefix_still k [] e = refl
cell_prefix_still zero (x ∷ u) e = ap (λ y. y ∷ cell_prefix 0 u) e
cell_prefix_still (suc k) (x ∷ u) e = ap (λ c. x ∷ c) (cell_prefix_still k u e)

pub depth_beyond : (k x : ℕ) (c : Cell ℕ) → entry c k ≡ Some x → k < depth c
depth_beyond k x [] e = cc
depth_beyond zero x (Some y ∷ c) e = omega arith
depth_beyond zero x (None ∷ c) e = cc
depth_beyond (suc k) x (y ∷ c) e = go y (depth c) (depth_beyond k x c e)
  where
    go : (y : Option ℕ) (d : ℕ) → k < d → suc k < depth_with y d
    go None zero h = absurd (omega arith)
    go None (suc d) h = omega arith
    go (Some v) d h = omega arith

pub prefix_entry : (k j v : ℕ) (c : Cell ℕ) → entry (cell_prefix k c) j ≡ Some v → j < k
prefix_entry k j v [] e = cc
prefix_entry zero zero v (x ∷ c) e = cc
prefix_entry zero (suc j) v (x ∷ c) e = let h : j < 0 = prefix_entry zero j v c e in absurd (omega arith)
prefix_entry (suc k) zero v (x ∷ c) e = omega arith
prefix_entry (suc k) (suc j) v (x ∷ c) e = let h : j < k = prefix_entry k j v c e in omega arith
