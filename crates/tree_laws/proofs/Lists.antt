-- Lists by dimensions.
use Rattle.std.proofs.Common.{◌≡◌, ◌↔◌, ◌⊎◌, inl, inr, ℕ, zero, suc, ◌+◌, ◌≤◌, ◌<◌, Option, Some, None, List, [], ◌∷◌, ◌++◌, flat_map}
use Rattle.std.proofs.Common.{filter_map, IsSome, true≢false, sym, refl, ap, ap₂, arith}
use Rattle.std.specs.List.{range_with_len, cons_option}
use Rattle.std.specs.Option.{option_map}
use Rattle.std.specs.FinMap as map
use Rattle.cube_defs.specs.Cell.{Cell}
use Rattle.cube_defs.specs.Tree.{Node, Tree, cell_at}
use Rattle.cube_laws.specs.Lists.{Among}

pub some_same : {X : Type 0} {x y : X} → Some x ≡ Some y → x ≡ y
some_same h = cc

-- a value is not Any
pub not_any : {X : Type 0} {x : X} → Some (Some x) ≡ Some None → ⊥
not_any h = cc

pub filter_map_same : {X Y : Type 0} (f g : X → Option Y) (xs : List X) → ((x : X) → f x ≡ g x)
    → filter_map f xs ≡ filter_map g xs
filter_map_same f g [] h = refl
filter_map_same f g (x ∷ xs) h = ap₂ cons_option (h x) (filter_map_same f g xs h)

pub option_map_same : {X Y : Type 0} (f g : X → Y) (o : Option X) → ((x : X) → f x ≡ g x)
    → option_map f o ≡ option_map g o
option_map_same f g None h = refl
option_map_same f g (Some x) h = ap (λ y. Some y) (h x)

pub flat_map_range : {Y : Type 0} (f g : ℕ → List Y) (a n : ℕ) → ((i : ℕ) → a ≤ i → f i ≡ g i)
    → flat_map f (range_with_len a n) ≡ flat_map g (range_with_len a n)
flat_map_range f g a zero h = refl
flat_map_range f g a (suc n) h
    = ap₂ (λ x y. x ++ y) (h a (omega arith)) (flat_map_range f g (a + 1) n (λ i l. h i (omega arith)))

pub le_or : (a b : ℕ) → (a ≤ b) ⊎ (b ≤ a)
le_or zero b = inl (omega arith)
le_or (suc a) zero = inr (omega arith)
le_or (suc a) (suc b) = elim (le_or a b) [ inl h ↦ inl (omega (arith, h)) | inr h ↦ inr (omega (arith, h)) ]

pub first_of_range : (i a : ℕ) → a ≤ i → (i ≡ a) ⊎ (a + 1 ≤ i)
first_of_range zero zero h = inl refl
first_of_range zero (suc a) h = absurd (omega arith)
first_of_range (suc i) zero h = inr (omega arith)
first_of_range (suc i) (suc a) h
    = elim (first_of_range i a (omega arith)) [ inl e ↦ inl (ap suc e) | inr k ↦ inr (omega (arith, k)) ]

pub among_range : (i a m : ℕ) → Among i (range_with_len a m) ↔ ((a ≤ i) × (i < a + m))
among_range i a zero = (λ h. absurd h, λ h. absurd (omega (arith, h.0, h.1)))
among_range i a (suc m) = (
  λ h. elim h [
    | inl e ↦ (omega (arith, e), omega (arith, e))
    | inr k ↦ let p : (a + 1 ≤ i) × (i < a + 1 + m)
        = (among_range i (a + 1) m).0 k in (omega (arith, p.0), omega (arith, p.1))
  ],
  λ h. elim (first_of_range i a h.0) [
    | inl e ↦ inl e
    | inr k ↦ inr ((among_range i (a + 1) m).1 (k, omega (arith, h.1)))
  ],
)

pub some_there : {X : Type 0} (o : Option X) → IsSome o → (x : X) × (o ≡ Some x)
some_there None h = absurd (true≢false (sym h))
some_there (Some x) h = (x, refl)

-- where a number has a cell, it has a record
pub there : (tree : Tree ℕ) (k : ℕ) (c : Cell ℕ) → cell_at tree k ≡ Some c → IsSome (map.get tree k)
there tree k c h = go (map.get tree k) h
  where
    go : (o : Option (Node ℕ ℕ)) → option_map (λ n. n.cell) o ≡ Some c → IsSome o
    go None e = cc
    go (Some n) e = refl

-- the record of a number that has a cell
pub cell_record : {A : Type 0} (tree : Tree A) (k : ℕ) (c : Cell A) → cell_at tree k ≡ Some c → (n : Node A ℕ)
    × (map.get tree k ≡ Some n) × (n.cell ≡ c)
cell_record {A} tree k c h = go (map.get tree k) refl h
  where
    go : (o : Option (Node A ℕ)) → map.get tree k ≡ o → option_map (λ n. n.cell) o ≡ Some c → (n : Node A ℕ)
        × (map.get tree k ≡ Some n) × (n.cell ≡ c)
    go None q e = cc
    go (Some n) q e = (n, q, some_same e)
