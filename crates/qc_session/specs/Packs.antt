-- How a run for its snapshot ends.
use Rattle.std.specs.Prelude.{◌≡◌, ◌≤◌, ◌<◌, ◌⊎◌, ℕ, List, [], length, take, Option, Some}
use Rattle.cube_defs.specs.declared.limits.TheConstants.{MAX_FILE}
use Rattle.cube_snapshot.specs.States.{spelling}
use Rattle.qc_io.specs.Outside.{FileContents, with_taken}
use Rattle.warehouse.specs.State.{State}
use Rattle.qc_session.specs.Forms.{FileNames}
use Rattle.qc_session.specs.Lines.{script_lines}
use Rattle.qc_session.specs.Pins.{Pin}
use Rattle.qc_session.specs.Runs.{Cause, IsRefused, IsScriptOf, IsStartOf, LongSnapshot, Took}

-- none of these lines is skipped, and they lead from one state to another
pub record Leads (told : FileContents) (start : State) (lines : List (List ℕ)) (state : State) : Type 0 where
  pub pins : List Pin
  pub replies : List ℕ
  pub took : Took told start [] lines (record { state = state; pins = pins }) replies

-- to one whose snapshot is longer than a file may be
pub record LeadsTooFar (told : FileContents) (start : State) (lines : List (List ℕ)) : Type 0 where
  pub state : State
  pub leads : Leads told start lines state
  pub long : MAX_FILE < length (spelling state)

-- out took the snapshot of the state to which these lines lead, and that is the state that they left
pub record WroteSnapshot (told : FileContents) (start : State) (lines : List (List ℕ)) (end : Option State)
    (before now : Option (List ℕ)) : Type 0 where
  pub state : State
  pub leads : Leads told start lines state
  pub fits : length (spelling state) ≤ MAX_FILE
  pub wrote : now ≡ with_taken (spelling state) before
  pub ended : end ≡ Some state

-- out took a prefix of that snapshot
pub record WroteSnapshotPrefix (told : FileContents) (start : State) (lines : List (List ℕ))
    (before now : Option (List ℕ)) : Type 0 where
  pub state : State
  pub leads : Leads told start lines state
  pub fits : length (spelling state) ≤ MAX_FILE
  pub count : ℕ
  pub wrote : now ≡ with_taken (take count (spelling state)) before

-- of a start and a script that are read
pub record IsRead (told : FileContents) (names : FileNames) (P : State → List (List ℕ) → Type 0) : Type 0 where
  pub start : State
  pub script : List ℕ
  pub start_read : IsStartOf told names start
  pub script_read : IsScriptOf told names.script script
  pub holds : P start (script_lines script)

-- the snapshot of the state at the end of the script was written, and the run hands back that state
abbrev pub Packed : FileContents → FileNames → Option State → Option (List ℕ) → Option (List ℕ) → Type 0
Packed told names end before now = IsRead told names (λ start lines. WroteSnapshot told start lines end before now)

-- the snapshot couldn't be written
abbrev pub PackedPrefix : FileContents → FileNames → Option (List ℕ) → Option (List ℕ) → Type 0
PackedPrefix told names before now = IsRead told names (λ start lines. WroteSnapshotPrefix told start lines before now)

-- why a run for its snapshot is refused: as each run, or at the end of the script, where the snapshot is too long
abbrev pub IsPackRefused : FileContents → FileNames → Cause → Type 0
IsPackRefused told names cause = IsRefused told names cause
    ⊎ (IsRead told names (λ start lines. LeadsTooFar told start lines) × (cause ≡ LongSnapshot))

abbrev pub IsPackUnrefused : FileContents → FileNames → Type 0
IsPackUnrefused told names = (cause : Cause) → IsPackRefused told names cause → ⊥
