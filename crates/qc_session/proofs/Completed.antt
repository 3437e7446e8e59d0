-- What is carried out where nothing hinders it.
use Rattle.std.proofs.Common.{◌≡◌, ◌⊎◌, ℕ, Option, Some, None, IfSome, inl, inr}
use Rattle.qc_io.specs.Outside.{FileContents}
use Rattle.qc_session.specs.Forms.{FileNames}
use Rattle.qc_session.specs.Runs.{AllFilesKnown, Cause, IsScriptStatus}

-- a run that isn't refused, where nothing hinders its reads or its writes, is complete or out of memory
unhindered : (IsRefusal S : Cause → Type 0) (status : ℕ) (files out : Type 0) → IsScriptStatus status
    → (status ≡ 3 → files) → (status ≡ 4 → out)
    → (status ≡ 6 → (cause : Cause) × IsRefusal cause × S cause)
    → ((cause : Cause) → IsRefusal cause → ⊥) → (files → ⊥) → (out → ⊥) → (status ≡ 0) ⊎ (status ≡ 5)
unhindered IsRefusal S status files out (inl h) read wrote refused fine no_files no_out = inl h
unhindered IsRefusal S status files out (inr (inl h)) read wrote refused fine no_files no_out
    = absurd (no_files (read h))
unhindered IsRefusal S status files out (inr (inr (inl h))) read wrote refused fine no_files no_out
    = absurd (no_out (wrote h))
unhindered IsRefusal S status files out (inr (inr (inr (inl h)))) read wrote refused fine no_files no_out = inr h
unhindered IsRefusal S status files out (inr (inr (inr (inr h)))) read wrote refused fine no_files no_out = let why
    = refused h in absurd (fine why.0 why.1)

-- where the count of the files didn't rise, whatever is a refusal
pub complete : (IsRefusal : FileContents → Cause → Type 0) (S : Cause → Type 0) (told : Option FileContents)
    (status : ℕ) (files out : Type 0) → IsScriptStatus status → (status ≡ 3 → files) → (status ≡ 4 → out)
    → (status ≡ 6 → IfSome told (λ t. (cause : Cause) × IsRefusal t cause × S cause))
    → IfSome told (λ t. ((cause : Cause) → IsRefusal t cause → ⊥) → (files → ⊥) → (out → ⊥) → (status ≡ 0)
    ⊎ (status ≡ 5))
complete IsRefusal S None status files out known read wrote refused = tt
complete IsRefusal S (Some t) status files out known read wrote refused
    = unhindered (IsRefusal t) S status files out known read wrote refused

-- and where all files are told
pub complete-steady : (IsRefusal : FileContents → Cause → Type 0) (S : Cause → Type 0) (told : Option FileContents)
    (names : FileNames) (status : ℕ) (out : Type 0) → IsScriptStatus status → (status ≡ 4 → out)
    → IfSome told (λ t. AllFilesKnown t names → status ≡ 3 → ⊥)
    → (status ≡ 6 → IfSome told (λ t. (cause : Cause) × IsRefusal t cause × S cause))
    → IfSome told (λ t. AllFilesKnown t names → ((cause : Cause) → IsRefusal t cause → ⊥) → (out → ⊥) → (status ≡ 0)
    ⊎ (status ≡ 5))
complete-steady IsRefusal S None names status out known wrote found refused = tt
complete-steady IsRefusal S (Some t) names status out known wrote found refused =
    λ all fine no_out. unhindered (IsRefusal t) S status (status ≡ 3) out known (λ h. h) wrote refused fine
    (found all) no_out
