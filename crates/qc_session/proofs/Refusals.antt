-- What follows where a file of the words wasn't read, or is refused.
use Rattle.std.proofs.Common.{◌≡◌, ◌<◌, ◌⊎◌, ℕ, List, [], refl, sym, subst, Option, Some, None, IfSome, inl, inr, arith, length, ap}
use Rattle.std.specs.Prelude.{IsSomeAnd}
use Rattle.cube_defs.specs.declared.limits.TheConstants.{MAX_FILE}
use Rattle.qc_io.specs.Outside.{FileContents}
use Rattle.qc_session.specs.Lines.{script_lines}
use Rattle.qc_session.specs.Runs.{Cause, Usage, CannotRead, CannotWrite, HasNoStart, IsRefused, IsScriptStatus, NotBegun, OutOfMemory}
use Rattle.qc_session.specs.Runs.{LongSnapshot, NoSchema, NoSnapshot, TooLong, IsNever, IsStartOf, IsScriptOf, StoppedAt, ReadFails}
use Rattle.qc_session.specs.Runs.{HasReported, Unread, status_of}
use Rattle.qc_session.specs.Forms.{FileNames}
use Rattle.warehouse.specs.State.{State}

-- a cause with the status 3, of which it is told what wasn't read
abbrev IsUnread : Option FileContents → FileNames → Type 0 → Cause → Type 0
IsUnread told names sure cause =
    IfSome told (λ t. (name : List ℕ) × (cause ≡ CannotRead name)
    × ((bytes : Option (List ℕ)) → Unread t sure names [] name bytes bytes))

module _ (told : Option FileContents) (names : FileNames) (rose sure : Type 0) where
  unread-named : (file : List ℕ) → rose → IsUnread told names sure (CannotRead file)
      → NotBegun told names rose sure (CannotRead file)
  unread-named file did h
      = record { known = inl refl; rose = λ _. did; unread = λ _. h; refused = λ e. absurd (omega (arith, e)) }

  no-memory : NotBegun told names rose sure OutOfMemory
  no-memory = record {
    known = inr (inl refl);
    rose = λ e. absurd (omega (arith, e));
    unread
        = λ e. absurd (omega (arith, e));
    refused = λ e. absurd (omega (arith, e));
  }

  refused-for : (cause : Cause) → status_of cause ≡ 6 → IfSome told (λ t. IsRefused t names cause)
      → NotBegun told names rose sure cause
  refused-for cause six h = record {
    known = inr (inr six);
    rose = λ e. absurd (omega (arith, six, e));
    unread
        = λ e. absurd (omega (arith, six, e));
    refused = λ _. h;
  }

pub first-not-begun : (told : Option FileContents) (names : FileNames) (rose sure : Type 0) (cause : Cause)
    → ReadFails told names.first rose sure (HasNoStart names) cause → NotBegun told names rose sure cause
first-not-begun told names rose sure Usage h = absurd h
first-not-begun told names rose sure (CannotRead file) h = unread-named told names rose sure file h.1 (by told h.2)
  where
    by : (told : Option FileContents) → IfSome told (λ t. sure → t names.first ≡ None)
        → IsUnread told names sure (CannotRead file)
    by None u = tt
    by (Some t) u = (
      file,
      refl,
      λ bytes. inl (record { is_first = h.0; nothing = refl; unskipped = refl; untold = λ s. rw h.0 (u s) }),
    )
first-not-begun told names rose sure CannotWrite h = absurd h
first-not-begun told names rose sure OutOfMemory h = no-memory told names rose sure
first-not-begun told names rose sure (NoSchema fault) h
    = refused-for told names rose sure (NoSchema fault) refl (by told h)
  where
    by : (told : Option FileContents) → IfSome told (HasNoStart names (NoSchema fault))
        → IfSome told (λ t. IsRefused t names (NoSchema fault))
    by None u = tt
    by (Some t) u = inr (inl u)
first-not-begun told names rose sure NoSnapshot h = refused-for told names rose sure NoSnapshot refl (by told h)
  where
    by : (told : Option FileContents) → IfSome told (HasNoStart names NoSnapshot)
        → IfSome told (λ t. IsRefused t names NoSnapshot)
    by None u = tt
    by (Some t) u = inr (inl u)
first-not-begun told names rose sure LongSnapshot h = absurd h
first-not-begun told names rose sure (TooLong file) h
    = refused-for told names rose sure (TooLong file) refl (by told h.1)
  where
    by : (told : Option FileContents) → IfSome told (λ t. IsSomeAnd (t names.first) (λ bytes. MAX_FILE < length bytes))
        → IfSome told (λ t. IsRefused t names (TooLong file))
    by None u = tt
    by (Some t) u = inl (u, ap TooLong h.0)

pub script-not-begun : (told : Option FileContents) (names : FileNames) (start : State) (rose later sure sure2 : Type 0)
    (cause : Cause) → IfSome told (λ t. IsStartOf t names start) → (sure → sure2) → (later → rose)
    → ReadFails told names.script later sure2 IsNever cause → NotBegun told names rose sure cause
script-not-begun told names start rose later sure sure2 Usage is surer sooner h = absurd h
script-not-begun told names start rose later sure sure2 (CannotRead file) is surer sooner h
    = unread-named told names rose sure file (sooner h.1) (by told is h.2)
  where
    by : (told : Option FileContents) → IfSome told (λ t. IsStartOf t names start)
        → IfSome told (λ t. sure2 → t names.script ≡ None) → IsUnread told names sure (CannotRead file)
    by None is u = tt
    by (Some t) is u = (
      file,
      refl,
      λ bytes. inr (inl (record {
        is_script = h.0;
        start = start;
        start_read = is;
        nothing = refl;
        unskipped = refl;
        untold
            = λ s. rw h.0 (u (surer s));
      })),
    )
script-not-begun told names start rose later sure sure2 CannotWrite is surer sooner h = absurd h
script-not-begun told names start rose later sure sure2 OutOfMemory is surer sooner h = no-memory told names rose sure
script-not-begun told names start rose later sure sure2 (NoSchema fault) is surer sooner h
    = refused-for told names rose sure (NoSchema fault) refl (by told h)
  where
    by : (told : Option FileContents) → IfSome told (IsNever (NoSchema fault))
        → IfSome told (λ t. IsRefused t names (NoSchema fault))
    by None u = tt
    by (Some t) u = absurd u
script-not-begun told names start rose later sure sure2 NoSnapshot is surer sooner h
    = refused-for told names rose sure NoSnapshot refl (by told h)
  where
    by : (told : Option FileContents) → IfSome told (IsNever NoSnapshot)
        → IfSome told (λ t. IsRefused t names NoSnapshot)
    by None u = tt
    by (Some t) u = absurd u
script-not-begun told names start rose later sure sure2 LongSnapshot is surer sooner h = absurd h
script-not-begun told names start rose later sure sure2 (TooLong file) is surer sooner h
    = refused-for told names rose sure (TooLong file) refl (by told is h.1)
  where
    by : (told : Option FileContents) → IfSome told (λ t. IsStartOf t names start)
        → IfSome told (λ t. IsSomeAnd (t names.script) (λ bytes. MAX_FILE < length bytes))
        → IfSome told (λ t. IsRefused t names (TooLong file))
    by None is u = tt
    by (Some t) is u = inr (inr (start, is, (u, ap TooLong h.0)))

-- what a run tells that ends so
pub begun-status : (told : Option FileContents) (names : FileNames) (rose sure : Type 0) (cause : Cause) (status : ℕ)
    → NotBegun told names rose sure cause → status ≡ status_of cause → IsScriptStatus status
begun-status told names rose sure cause status h is = rw is (by h.known)
  where
    by : (status_of cause ≡ 3) ⊎ (status_of cause ≡ 5) ⊎ (status_of cause ≡ 6) → IsScriptStatus (status_of cause)
    by (inl e) = inr (inl e)
    by (inr late) = inr (inr (inr late))

pub begun-unread : (told : Option FileContents) (names : FileNames) (rose sure r : Type 0) (cause : Cause)
    (skipped : List ℕ) (bytes err err2 : Option (List ℕ)) → NotBegun told names rose sure cause → status_of cause ≡ 3
    → skipped ≡ [] → HasReported r cause err err2
    → IfSome told (λ t. (name : List ℕ) × Unread t sure names skipped name bytes bytes
    × HasReported r (CannotRead name) err err2)
begun-unread told names rose sure r cause skipped bytes err err2 h is none said = by told (h.unread is)
  where
    by : (told : Option FileContents) → IsUnread told names sure cause
        → IfSome told (λ t. (name : List ℕ) × Unread t sure names skipped name bytes bytes
        × HasReported r (CannotRead name) err err2)
    by None u = tt
    by (Some t) (name, same, unread) = (
      name,
      subst (λ (ks : List ℕ). Unread t sure names ks name bytes bytes) (sym none) (unread bytes),
      rw same at said,
    )

pub begun-refused : (told : Option FileContents) (names : FileNames) (rose sure r : Type 0) (cause : Cause)
    (err err2 : Option (List ℕ)) → NotBegun told names rose sure cause → status_of cause ≡ 6
    → HasReported r cause err err2
    → IfSome told (λ t. (found : Cause) × IsRefused t names found × HasReported r found err err2)
begun-refused told names rose sure r cause err err2 h is said = by told (h.refused is)
  where
    by : (told : Option FileContents) → IfSome told (λ t. IsRefused t names cause)
        → IfSome told (λ t. (found : Cause) × IsRefused t names found × HasReported r found err err2)
    by None u = tt
    by (Some t) u = (cause, u, said)

-- where one is refused, no other status comes
pub begun-refusal : (told : Option FileContents) (names : FileNames) (rose sure : Type 0) (cause : Cause) (status : ℕ)
    (R : FileContents → Cause → Type 0) → NotBegun told names rose sure cause → status ≡ status_of cause
    → IfSome told (λ t. (found : Cause) → R t found → (status ≡ 6) ⊎ (status ≡ 5) ⊎ (status ≡ 3))
begun-refusal None names rose sure cause status R h is = tt
begun-refusal (Some t) names rose sure cause status R h is = λ found refused. rw is (by h.known)
  where
    by : (status_of cause ≡ 3) ⊎ (status_of cause ≡ 5) ⊎ (status_of cause ≡ 6) → (status_of cause ≡ 6)
        ⊎ (status_of cause ≡ 5) ⊎ (status_of cause ≡ 3)
    by (inl e) = inr (inr e)
    by (inr (inl e)) = inr (inl e)
    by (inr (inr e)) = inl e

pub unread-line : (told : Option FileContents) (names : FileNames) (start : State) (script : List ℕ)
    (sure sure2 r : Type 0) (skipped : List ℕ) (before now err err2 : Option (List ℕ))
    → IfSome told (λ t. IsStartOf t names start) → IfSome told (λ t. IsScriptOf t names.script script)
    → (sure → sure2) → IfSome told (λ t. (name : List ℕ)
    × StoppedAt t sure2 start skipped (script_lines script) name before now
    × HasReported r (CannotRead name) err err2)
    → IfSome told (λ t. (name : List ℕ) × Unread t sure names skipped name before now
    × HasReported r (CannotRead name) err err2)
unread-line None names start script sure sure2 r skipped before now err err2 is_read is_script surer h = tt
unread-line (Some t) names start script sure sure2 r skipped before now err err2 is_read is_script surer h = (
  h.0,
  inr (inr (record {
    start = start;
    script = script;
    start_read = is_read;
    script_read = is_script;
    stopped
        = surely h.1;
  })),
  h.2,
)
  where
    surely : StoppedAt t sure2 start skipped (script_lines script) h.0 before now
        → StoppedAt t sure start skipped (script_lines script) h.0 before now
    surely s = record {
      done = s.done;
      line = s.line;
      rest = s.rest;
      split = s.split;
      reached = s.reached;
      names = s.names;
      wrote
          = s.wrote;
      untold = λ k. s.untold (surer k);
    }
