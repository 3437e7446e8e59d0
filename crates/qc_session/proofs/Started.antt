-- The state at which a run starts, by what its first file gives.
use Rattle.std.proofs.Common.{◌≡◌, ◌≤◌, ◌⊎◌, List, Option, Some, None, IfSome, inl, inr, length, ℕ}
use Rattle.std.specs.Prelude.{◌↔◌}
use Rattle.cube_defs.specs.declared.limits.TheConstants.{MAX_FILE}
use Rattle.qc_io.specs.Outside.{FileContents}
use Rattle.warehouse.specs.State.{State}
use Rattle.qc_session.specs.Forms.{FileNames, FromSchema, FromSnapshot, Source}
use Rattle.qc_session.specs.Runs.{Begins, BeginsNot, Cause, HasNoStart, IsNever, IsScriptOf, IsStartOf}
use Rattle.qc_session.specs.Runs.{NoSchema, NoSnapshot, OutOfMemory, ReadFails}

-- a file that is read
pub script-read : (told : Option FileContents) (name bytes : List ℕ) → IfSome told (λ t. t name ≡ Some bytes)
    → length bytes ≤ MAX_FILE → IfSome told (λ t. IsScriptOf t name bytes)
script-read None name bytes read within = tt
script-read (Some t) name bytes read within = record { is_told = read; within = within }

-- one that failed isn't told, where the files are steady
pub unread-name : (told : Option FileContents) (name : List ℕ) (Sure Failed : Type 0) → Failed
    → (Sure → IfSome told (λ t. Failed ↔ (t name ≡ None))) → IfSome told (λ t. Sure → t name ≡ None)
unread-name None name Sure Failed failed h = tt
unread-name (Some t) name Sure Failed failed h = λ sure. (h sure).0 failed

-- the first file is read and tells a start
pub started : (told : Option FileContents) (names : FileNames) (bytes : List ℕ) (start : State)
    → IfSome told (λ t. IsScriptOf t names.first bytes) → Begins names.source bytes start
    → IfSome told (λ t. IsStartOf t names start)
started None names bytes start read begins = tt
started (Some t) names bytes start read begins
    = record { bytes = bytes; is_told = read.is_told; within = read.within; begins = begins }

-- it is read and tells none
no-start : (t : FileContents) (names : FileNames) (bytes : List ℕ) (cause : Cause) → IsScriptOf t names.first bytes
    → BeginsNot names.source bytes cause → HasNoStart names cause t
no-start t names bytes cause read none = rw read.is_told (read.within, none)

told-none : (told : Option FileContents) (names : FileNames) (bytes : List ℕ) (cause : Cause)
    → IfSome told (λ t. IsScriptOf t names.first bytes) → BeginsNot names.source bytes cause
    → IfSome told (HasNoStart names cause)
told-none None names bytes cause read none = tt
told-none (Some t) names bytes cause read none = no-start t names bytes cause read none

pub start-fails : (told : Option FileContents) (names : FileNames) (rose sure : Type 0) (bytes : List ℕ) (cause : Cause)
    → IfSome told (λ t. IsScriptOf t names.first bytes)
    → (cause ≡ OutOfMemory) ⊎ BeginsNot names.source bytes cause
    → ReadFails told names.first rose sure (HasNoStart names) cause
start-fails told names rose sure bytes cause read (inl is) = rw is tt
start-fails told names rose sure bytes cause read (inr none)
    = by names.source none (told-none told names bytes cause read none)
  where
    by : (source : Source) → BeginsNot source bytes cause → IfSome told (HasNoStart names cause)
        → ReadFails told names.first rose sure (HasNoStart names) cause
    by FromSchema (fault, is, why) h = rw why (rw why at h)
    by FromSnapshot (every, why) h = rw why (rw why at h)

never : (told : Option FileContents) (names : FileNames) (cause : Cause) → IfSome told (IsNever cause)
    → IfSome told (HasNoStart names cause)
never None names cause h = tt
never (Some t) names cause h = absurd h

-- it isn't read
pub first-fails : (told : Option FileContents) (names : FileNames) (rose sure : Type 0) (cause : Cause)
    → ReadFails told names.first rose sure IsNever cause → ReadFails told names.first rose sure (HasNoStart names) cause
first-fails told names rose sure (NoSchema fault) h = never told names (NoSchema fault) h
first-fails told names rose sure NoSnapshot h = never told names NoSnapshot h
first-fails told names rose sure _ h = h
