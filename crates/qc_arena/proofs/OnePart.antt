-- The parts of a list that has one for each measure.
use Rattle.std.proofs.Common.{◌≡◌, ◌≤◌, ℕ, List, [], ◌∷◌, arith, get_or, length, refl}
use Rattle.aggregates.specs.Bounds.{IsZero, zero_part}
use Rattle.aggregates.specs.declared.agg.Part.{Part}
use Rattle.cube_defs.specs.declared.limits.TheConstants.{MAX_MEASURES}

is_zero : (p : Part) → IsZero p → p ≡ zero_part
is_zero p z = λ j. record { sum = z.sum j; least = z.least j; greatest = z.greatest j }

pub one_part : (parts : List Part) → length parts ≡ MAX_MEASURES
    → ((k : ℕ) → 1 ≤ k → IsZero (get_or parts k zero_part))
    → parts ≡ get_or parts 0 zero_part ∷ zero_part ∷ zero_part ∷ zero_part ∷ []
one_part [] l z = absurd (omega arith)
one_part (a ∷ []) l z = absurd (omega arith)
one_part (a ∷ b ∷ []) l z = absurd (omega arith)
one_part (a ∷ b ∷ c ∷ []) l z = absurd (omega arith)
one_part (a ∷ b ∷ c ∷ d ∷ []) l z = λ j.
    a ∷ is_zero b (z 1 (omega arith)) j ∷ is_zero c (z 2 (omega arith)) j ∷ is_zero d (z 3 (omega arith)) j ∷ []
one_part (a ∷ b ∷ c ∷ d ∷ e ∷ rest) l z = absurd (omega arith)

pub four_parts : (parts : List Part) → length parts ≡ MAX_MEASURES
    → parts ≡ get_or parts 0 zero_part ∷ get_or parts 1 zero_part ∷ get_or parts 2 zero_part
    ∷ get_or parts 3 zero_part ∷ []
four_parts [] l = absurd (omega arith)
four_parts (a ∷ []) l = absurd (omega arith)
four_parts (a ∷ b ∷ []) l = absurd (omega arith)
four_parts (a ∷ b ∷ c ∷ []) l = absurd (omega arith)
four_parts (a ∷ b ∷ c ∷ d ∷ []) l = refl
four_parts (a ∷ b ∷ c ∷ d ∷ e ∷ rest) l = absurd (omega arith)
