-- Keys of a list.
use Rattle.std.specs.Prelude.{◌≡◌, ℕ, ◌-◌, ◌<◌, ◌≤◌, Bool, false, List, length, slice_index_or}
use Rattle.std.specs.List.{list_any}
use Rattle.std.specs.declared.cmp.Ordering.{Ordering}
use Rattle.std.specs.declared.cmp.Ordering.TheVariants.{Less}
use Rattle.std.specs.Ordering.{is_eq, is_lt}

-- whether a key of the list is equal to q
abbrev pub among : {K : Type 0} → (K → K → Ordering) → List K → K → Bool
among cmp items q = list_any (λ x. is_eq (cmp x q)) items

-- the key before the place is less than q, and the key at the place isn't
pub record IsPlace {K : Type 0} (cmp : K → K → Ordering) (items : List K) (q : K) (place : ℕ) : Type 0 where
  pub within : place ≤ length items
  pub less : (d : K) → 0 < place → cmp (slice_index_or items (place - 1) d) q ≡ Less
  pub others : (d : K) → place < length items → is_lt (cmp (slice_index_or items place d) q) ≡ false
