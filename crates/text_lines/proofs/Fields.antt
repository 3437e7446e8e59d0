-- The fields of a record.
use Rattle.std.proofs.Common.{◌≡◌, ◌<◌, ℕ, zero, suc, List, [], ◌∷◌, length, get_or, refl, arith, Some, None}
use Rattle.std.specs.Prelude.{Option, option_map, IsSome}
use Rattle.csv.specs.Records.{field_at}

pub field-at : (fields : List (List ℕ)) (i : ℕ) → i < length fields → field_at fields i ≡ Some (get_or fields i [])
unfolding field_at
field-at [] i h = absurd (omega arith)
field-at (f ∷ fs) zero h = refl
field-at (f ∷ fs) (suc i) h = field-at fs i (omega arith)

pub mapped-some : {A B : Type 0} (f : A → B) (o : Option A) (x : B) → option_map f o ≡ Some x → IsSome o
mapped-some f None x e = absurd (cc e)
mapped-some f (Some a) x e = refl
