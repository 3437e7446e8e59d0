-- What rows come to without some of them is told by both, where these have no extreme amount.
use Rattle.std.proofs.Common.{◌≡◌, ◌∙◌, ℕ, ℤ, ◌-ℤ◌, false, true, true≢false, zero, suc, ◌<◌, ◌≤◌, List, [], ◌∷◌, ap, ap₂, arith, length}
use Rattle.std.proofs.Common.{map, refl, slice_index_or, sym, take}
use Rattle.std.specs.Int.Signed.{le_z}
use Rattle.aggregates.specs.Bounds.{zero_part}
use Rattle.aggregates.specs.Views.{part_in}
use Rattle.aggregates.specs.declared.agg.Part.{Part}
use Rattle.cube_defs.specs.Rows as defs
use Rattle.cube_laws.specs.Total.{combine_part, combine_parts}
use Rattle.cube_laws.proofs.CallerLemmas.{greatest_left, least_left, sum_left}

abbrev pub at : List Part → ℕ → Part
at ps k = slice_index_or ps k zero_part

-- a part is told by the whole and the other part
abbrev pub IsRemainder : Part → Part → Part → Type 0
IsRemainder p w n = (o : defs.Part) → combine_part (part_in p) o ≡ part_in w → part_in n ≡ o

pub parts_told : (n : ℕ) (ps ws ns : List Part) (os : List defs.Part) → n ≤ length ps → n ≤ length ws → n ≤ length ns
    → length os ≡ n → ((k : ℕ) → k < n → IsRemainder (at ps k) (at ws k) (at ns k))
    → combine_parts (map part_in (take n ps)) os ≡ map part_in (take n ws) → map part_in (take n ns) ≡ os
parts_told zero ps ws ns [] a b c l told e = refl
parts_told zero ps ws ns (o ∷ os) a b c l told e = absurd (omega arith)
parts_told (suc n) [] ws ns os a b c l told e = absurd (omega arith)
parts_told (suc n) (p ∷ ps) [] ns os a b c l told e = absurd (omega arith)
parts_told (suc n) (p ∷ ps) (w ∷ ws) [] os a b c l told e = absurd (omega arith)
parts_told (suc n) (p ∷ ps) (w ∷ ws) (m ∷ ns) [] a b c l told e = absurd (omega arith)
parts_told (suc n) (p ∷ ps) (w ∷ ws) (m ∷ ns) (o ∷ os) a b c l told e =
    let head : combine_part (part_in p) o ≡ part_in w = cc in
    let tail : combine_parts (map part_in (take n ps)) os ≡ map part_in (take n ws) = cc in
    ap₂ (λ x xs. x ∷ xs) (told 0 (omega arith) o head)
    (parts_told n ps ws ns os (omega arith) (omega arith) (omega arith) (omega arith)
    (λ k l. told (suc k) (omega arith)) tail)

le_z_same : (a b : ℤ) → le_z a b ≡ false → b ≡ a → ⊥
le_z_same a b h e = let t : le_z a a ≡ true = grind arith in true≢false (sym t ∙ ap (le_z a) (sym e) ∙ h)

-- one measure, where the part has neither extreme of the whole
pub part_told : (p w : Part) (sum least greatest : ℤ) → sum ≡ (w.sum -ℤ p.sum) → least ≡ w.least → greatest ≡ w.greatest
    → le_z p.least w.least ≡ false → le_z w.greatest p.greatest ≡ false
    → (o : defs.Part) → combine_part (part_in p) o ≡ part_in w
    → part_in (record { sum = sum; least = least; greatest = greatest }) ≡ o
part_told p w sum least greatest s l g low high o e =
    let a : o.sum ≡ (w.sum -ℤ p.sum) = sum_left p.sum w.sum o.sum (ap (λ (x : defs.Part). x.sum) (sym e)) in
    let b : o.least ≡ w.least
    = least_left p.least w.least o.least (ap (λ (x : defs.Part). x.least) (sym e))
    (le_z_same p.least w.least low) in
    let c : o.greatest ≡ w.greatest
    = greatest_left p.greatest w.greatest o.greatest (ap (λ (x : defs.Part). x.greatest) (sym e))
    (λ i. le_z_same w.greatest p.greatest high (sym i)) in
    ap (λ (x : ℤ). let y : defs.Part = record { sum = x; least = least; greatest = greatest } in y) (s ∙ sym a)
    ∙ ap₂ (λ (x y : ℤ). let z : defs.Part = record { sum = o.sum; least = x; greatest = y } in
    z) (l ∙ sym b) (g ∙ sym c)
