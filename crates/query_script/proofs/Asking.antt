-- The fields that were asked so far, and those after them.
use Rattle.std.proofs.Common.{◌≡◌, ◌<◌, ◌+◌, ◌-◌, ℕ, suc, List, [], ◌∷◌, ◌++◌, length, refl, ap, arith, Some, Ok, Err, append_assoc}
use Rattle.std.proofs.Common.{append-nil, true, false, Bool, cond, eqb-true}
use Rattle.std.specs.Prelude.{Option, Result, ◌==◌}
use Rattle.std.proofs.lemmas.List.{length_push}
use Rattle.cube_defs.specs.Text.{Text}
use Rattle.cell_core.specs.declared.fields.Field as asked
use Rattle.query_script.specs.Faults.{LineFault, Field}
use Rattle.query_script.specs.Fields.{cons_asked, fields_from, value_of}
use Rattle.query_script.specs.Progress.{asked_after, ok_with}

with-more : (before : List asked.Field) (field : asked.Field) (k : ℕ) (more : Result (List asked.Field) LineFault)
    → ok_with (before ++ field ∷ []) more ≡ ok_with before (cons_asked k (Some field) more)
with-more before field k (Err fault) = refl
with-more before field k (Ok fields) = ap Ok (append_assoc before (field ∷ []) fields)

-- one field more
pub asks-more : (ask : Text → Option asked.Field) (dims : ℕ) (before : List asked.Field) (field : asked.Field)
    (text : Text) (more : List Text) → length before < dims → ask text ≡ Some field
    → asked_after ask dims (before ++ field ∷ []) more ≡ asked_after ask dims before (text ∷ more)
asks-more ask dims before field text more low e =
    let left : dims - length before ≡ suc (dims - length (before ++ field ∷ []))
    = omega (arith, length_push before field) in
    let place : length (before ++ field ∷ []) + 1 ≡ length before + 1 + 1 = omega (arith, length_push before field) in
    rw (left, e, place) (with-more before field (length before + 1)
    (fields_from ask (length before + 1 + 1) (dims - length (before ++ field ∷ [])) more))

-- none is left where fields are missing
pub asks_too_few : (ask : Text → Option asked.Field) (dims : ℕ) (before : List asked.Field) → length before < dims
    → asked_after ask dims before [] ≡ Err (Field (length before + 1))
asks_too_few ask dims before low =
    let left : dims - length before ≡ suc (dims - length before - 1) = omega arith in
    rw left refl

pub asks_all : (ask : Text → Option asked.Field) (dims : ℕ) (before : List asked.Field) → length before ≡ dims
    → asked_after ask dims before [] ≡ Ok before
asks_all ask dims before same =
    let left : dims - length before ≡ 0 = omega arith in
    rw left (ap Ok (append-nil before))

-- before the first
pub asks-first : (ask : Text → Option asked.Field) (dims : ℕ) (texts : List Text)
    → asked_after ask dims [] texts ≡ fields_from ask 1 dims texts
asks-first ask dims texts =
    let left : dims - 0 ≡ dims = omega arith in
    rw left (by (fields_from ask 1 dims texts))
  where
    by : (read : Result (List asked.Field) LineFault) → ok_with [] read ≡ read
    by (Err fault) = refl
    by (Ok fields) = refl

-- a field with no `=` before it is its own value
pub plain-value : (text : Text) → ((rest : List ℕ) → text ≡ 61 ∷ rest → ⊥) → text ≡ value_of text
plain-value [] h = refl
plain-value (b ∷ bs) h = by (b == 61) refl
  where
    by : (m : Bool) → (b == 61) ≡ m → b ∷ bs ≡ cond m bs (b ∷ bs)
    by true e = absurd (h bs (ap (λ (x : ℕ). x ∷ bs) (eqb-true b 61 e)))
    by false e = refl
