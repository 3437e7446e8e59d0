-- Parts that are joined place by place are the aggregates put together.
use Rattle.std.proofs.Common.{◌≡◌, ℕ, zero, suc, ◌<◌, ◌≤◌, List, [], ◌∷◌, map, length, take, refl, ap, ap₂, ◌∙◌, arith, ℤ, pos}
use Rattle.std.proofs.Common.{slice_index_or}
use Rattle.cube_laws.specs.Total.{combine_parts}
use Rattle.aggregates.specs.declared.agg.Part.{Part}
use Rattle.aggregates.specs.Bounds.{zero_part}
use Rattle.aggregates.specs.Rows.{joined, single}
use Rattle.aggregates.specs.Views.{part_in}

abbrev at : List Part → ℕ → Part
at ps k = slice_index_or ps k zero_part

abbrev amount : List ℤ → ℕ → ℤ
amount xs k = slice_index_or xs k (pos 0)

pub part-same : (p q : Part) → p.sum ≡ q.sum → p.least ≡ q.least → p.greatest ≡ q.greatest → p ≡ q
part-same p q e f g =
    ap (λ (s : ℤ). let x : Part = record { sum = s; least = p.least; greatest = p.greatest } in x) e
    ∙ ap₂ (λ (l h : ℤ). let x : Part = record { sum = q.sum; least = l; greatest = h } in x) f g

pub parts-joined : (ps qs ns : List Part) (n : ℕ) → n ≤ length ps → n ≤ length qs → n ≤ length ns
    → ((k : ℕ) → k < n → at ns k ≡ joined (at ps k) (at qs k))
    → map part_in (take n ns) ≡ combine_parts (map part_in (take n ps)) (map part_in (take n qs))
parts-joined ps qs ns zero h l m e = refl
parts-joined [] qs ns (suc n) h l m e = absurd (omega arith)
parts-joined (p ∷ ps) [] ns (suc n) h l m e = absurd (omega arith)
parts-joined (p ∷ ps) (q ∷ qs) [] (suc n) h l m e = absurd (omega arith)
parts-joined (p ∷ ps) (q ∷ qs) (r ∷ ns) (suc n) h l m e =
    ap₂ (λ x xs. x ∷ xs) (ap part_in (e 0 (omega arith)))
    (parts-joined ps qs ns n (omega arith) (omega arith) (omega arith) (λ k i. e (suc k) (omega arith)))

pub parts-added : (ps : List Part) (xs : List ℤ) (ns : List Part) (n : ℕ) → length xs ≡ n → n ≤ length ps
    → n ≤ length ns → ((k : ℕ) → k < length xs → at ns k ≡ joined (at ps k) (single (amount xs k)))
    → map part_in (take n ns) ≡ combine_parts (map part_in (take n ps)) (map (λ a. part_in (single a)) xs)
parts-added ps [] ns zero s h l e = refl
parts-added ps [] ns (suc n) s h l e = absurd (omega arith)
parts-added ps (a ∷ xs) ns zero s h l e = absurd (omega arith)
parts-added [] (a ∷ xs) ns (suc n) s h l e = absurd (omega arith)
parts-added (p ∷ ps) (a ∷ xs) [] (suc n) s h l e = absurd (omega arith)
parts-added (p ∷ ps) (a ∷ xs) (r ∷ ns) (suc n) s h l e =
    ap₂ (λ x xs. x ∷ xs) (ap part_in (e 0 (omega arith)))
    (parts-added ps xs ns n (omega arith) (omega arith) (omega arith) (λ k i. e (suc k) (omega arith)))

pub parts-set : (xs : List ℤ) (ns : List Part) → length xs ≤ length ns
    → ((k : ℕ) → k < length xs → at ns k ≡ single (amount xs k))
    → map part_in (take (length xs) ns) ≡ map (λ a. part_in (single a)) xs
parts-set [] ns l e = refl
parts-set (a ∷ xs) [] l e = absurd (omega arith)
parts-set (a ∷ xs) (r ∷ ns) l e
    = ap₂ (λ x xs. x ∷ xs) (ap part_in (e 0 (omega arith)))
    (parts-set xs ns (omega arith) (λ k i. e (suc k) (omega arith)))
