-- Lines for failures in which nothing differs.
use Rattle.std.proofs.Common.{◌≡◌, ◌∙◌, ◌++◌, ℕ, List, [], append-nil, refl}
use Rattle.qc_session.specs.Failures.{TellsFixed, cause_of}
use Rattle.qc_session.specs.Runs.{error_text}
use Rattle.qc_session.specs.declared.failure.Failure.{Failure}
use Rattle.qc_session.specs.declared.failure.Failure.TheVariants as failures

pub fixed-whole : (f : Failure) (text : List ℕ) → ((name : _) → f ≡ failures.CannotRead name → ⊥)
    → ((refused : _) → f ≡ failures.NoSchema refused → ⊥) → ((name : _) → f ≡ failures.TooLong name → ⊥)
    → TellsFixed f text → text ++ [] ≡ error_text (cause_of f)
fixed-whole (failures.CannotRead name) text read schema long tells = absurd (read name refl)
fixed-whole (failures.NoSchema refused) text read schema long tells = absurd (schema refused refl)
fixed-whole (failures.TooLong name) text read schema long tells = absurd (long name refl)
fixed-whole _ text read schema long tells = append-nil text ∙ tells
