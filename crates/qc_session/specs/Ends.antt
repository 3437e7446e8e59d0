-- How a run ends, by its status.
use Rattle.std.specs.Prelude.{◌≡◌, ◌≤◌, ◌<◌, ◌⊎◌, ℕ, Bool, true, List, [], length, take, Option, Some, None, IfSome, IsTrue, MatchOption}
use Rattle.std.specs.Prelude.{is_some, ⊤}
use Rattle.cube_defs.specs.declared.limits.TheConstants.{MAX_FILE}
use Rattle.cube_snapshot.specs.States.{spelling}
use Rattle.generated_run.specs.Generated.{generated_record, generated_state}
use Rattle.qc_io.specs.Outside.{Cursor, IsOpenAs, Rose, FileContents, with_taken}
use Rattle.warehouse.specs.State.{AreContents, State}
use Rattle.qc_session.specs.Forms.{Drawing, FileNames}
use Rattle.qc_session.specs.Lines.{script_lines}
use Rattle.qc_session.specs.Packs.{IsPackRefused, LeadsTooFar, Packed, PackedPrefix, WroteSnapshot, WroteSnapshotPrefix}
use Rattle.qc_session.specs.Runs.{AreSkipped, BrokenOff, CannotRead, CannotWrite, Cause, Finished, IsRefused, IsScriptStatus, LongSnapshot}
use Rattle.qc_session.specs.Runs.{OutOfMemory, HasReported, StoppedAt, StoppedWriting, Unread, WroteAll, state_in}
use Rattle.qc_session.specs.declared.scripts.Outcome.{Outcome}

-- files before and after a run: what they tell, whether they are steady, their faults, and what is open
pub record FilesOver : Type 0 where
  pub told : Option FileContents
  pub steady : Bool
  pub faults_before : ℕ
  pub faults_after : ℕ
  pub open_before : Option Cursor
  pub open_after : Option Cursor

-- a sink before and after a run: its faults, and the bytes that it took
pub record SinkOver : Type 0 where
  pub faults_before : ℕ
  pub faults_after : ℕ
  pub taken_before : Option (List ℕ)
  pub taken_after : Option (List ℕ)

abbrev pub files_over : Option FileContents → Bool → ℕ → ℕ → Option Cursor → Option Cursor → FilesOver
files_over told steady faults faults2 cursor cursor2 =
    record {
      told = told;
      steady = steady;
      faults_before = faults;
      faults_after = faults2;
      open_before
          = cursor;
      open_after = cursor2;
    }

abbrev pub sink_over : ℕ → ℕ → Option (List ℕ) → Option (List ℕ) → SinkOver
sink_over faults faults2 taken taken2
    = record { faults_before = faults; faults_after = faults2; taken_before = taken; taken_after = taken2 }

abbrev pub FilesFailed : FilesOver → Type 0
FilesFailed files = Rose files.faults_before files.faults_after

abbrev pub SinkFailed : SinkOver → Type 0
SinkFailed sink = Rose sink.faults_before sink.faults_after

-- a sink took nothing
abbrev pub TookNothing : SinkOver → Type 0
TookNothing sink = sink.taken_after ≡ sink.taken_before

-- err took the line that tells a cause, unless it failed
abbrev pub Reports : SinkOver → Cause → Type 0
Reports err cause = HasReported (SinkFailed err) cause err.taken_before err.taken_after

-- a fact for each status with which a run of a script may end
pub record EndsBy (status : ℕ) (AtEnd AtFile AtWrite AtMemory AtRefusal : Type 0) : Type 0 where
  pub known : IsScriptStatus status
  pub at_end : status ≡ 0 → AtEnd
  pub at_file : status ≡ 3 → AtFile
  pub at_write : status ≡ 4 → AtWrite
  pub at_memory : status ≡ 5 → AtMemory
  pub at_refusal : status ≡ 6 → AtRefusal

-- the warehouse that a run hands back: one that holds what it should, at status 0 alone
pub record ReturnsWarehouse (outcome : Outcome) : Type 0 where
  pub held : IfSome outcome.end AreContents
  pub there : outcome.status ≡ 0 → is_some outcome.end ≡ true
  pub none : (outcome.status ≡ 0 → ⊥) → outcome.end ≡ None

-- the lines of a script, with their replies, from a state on
pub record ScriptEnds (start : State) (script : List ℕ) (files : FilesOver) (out err : SinkOver) (Silent : Type 0)
    (outcome : Outcome) : Type 0 where
  pub skipped : AreSkipped (script_lines script) outcome.skipped.items
  pub by : EndsBy outcome.status
      (IfSome files.told (λ t. WroteAll t start outcome.skipped.items (script_lines script)
      (state_in outcome.end) out.taken_before out.taken_after) × Silent)
      (FilesFailed files × IfSome files.told (λ t. (name : List ℕ)
      × StoppedAt t (IsTrue files.steady) start outcome.skipped.items (script_lines script) name out.taken_before
      out.taken_after
      × Reports err (CannotRead name)))
      (SinkFailed out × IfSome files.told
      (λ t. StoppedWriting t start outcome.skipped.items (script_lines script) out.taken_before out.taken_after)
      × Reports err CannotWrite)
      ((files.open_after ≡ files.open_before) × TookNothing out × (outcome.skipped.items ≡ [])
      × Reports err OutOfMemory)
      ⊥

-- the words `run SCHEMA SCRIPT` or `open SNAPSHOT SCRIPT`
pub record RunEnds (names : FileNames) (files : FilesOver) (out err : SinkOver) (Silent : Type 0)
    (outcome : Outcome) : Type 0 where
  pub skipped : IfSome files.told
      (λ t. MatchOption (t names.script) (outcome.skipped.items ≡ [])
      (λ script. AreSkipped (script_lines script) outcome.skipped.items))
  pub refusal : IfSome files.told (λ t. (cause : Cause) → IsRefused t names cause
      → (outcome.status ≡ 6) ⊎ (outcome.status ≡ 5) ⊎ (outcome.status ≡ 3))
  pub by : EndsBy outcome.status
      (IfSome files.told (λ t. Finished t names outcome.skipped.items (state_in outcome.end) out.taken_before
      out.taken_after) × Silent)
      (FilesFailed files × IfSome files.told (λ t. (name : List ℕ)
      × Unread t (IsTrue files.steady) names outcome.skipped.items name out.taken_before out.taken_after
      × Reports err (CannotRead name)))
      (SinkFailed out × IfSome files.told
      (λ t. BrokenOff t names outcome.skipped.items out.taken_before out.taken_after) × Reports err CannotWrite)
      ((IsOpenAs files.told files.open_after names.first ⊎ IsOpenAs files.told files.open_after names.script)
      × TookNothing out × (outcome.skipped.items ≡ []) × Reports err OutOfMemory)
      (TookNothing out × (outcome.skipped.items ≡ [])
      × IfSome files.told (λ t. (cause : Cause) × IsRefused t names cause × Reports err cause))

-- bytes that are written for a state
pub record BytesEnd (bytes : List ℕ) (state : State) (Fits Long : Type 0) (out err : SinkOver) (Silent : Type 0)
    (outcome : Outcome) : Type 0 where
  pub skipped : outcome.skipped.items ≡ []
  pub by : EndsBy outcome.status
      (Fits × (out.taken_after ≡ with_taken bytes out.taken_before) × (state_in outcome.end ≡ Some state) × Silent)
      ⊥
      (Fits × SinkFailed out × ((n : ℕ) × (out.taken_after ≡ with_taken (take n bytes) out.taken_before))
      × Reports err CannotWrite)
      (TookNothing out × Reports err OutOfMemory)
      (Long × TookNothing out × Reports err LongSnapshot)

-- the snapshot of a state
abbrev pub SnapshotEnds : State → SinkOver → SinkOver → Type 0 → Outcome → Type 0
SnapshotEnds state = BytesEnd (spelling state) state (length (spelling state) ≤ MAX_FILE)
    (MAX_FILE < length (spelling state))

-- the words `gen ROWS SEED`
abbrev pub GenEnds : Drawing → SinkOver → SinkOver → Type 0 → Outcome → Type 0
GenEnds drawing = BytesEnd (generated_record drawing.rows drawing.seed) (generated_state drawing.rows drawing.seed) ⊤ ⊥

-- the lines of a script without their replies, from a state on, and the snapshot of the state after them
pub record PackScriptEnds (start : State) (script : List ℕ) (files : FilesOver) (out err : SinkOver) (Silent : Type 0)
    (outcome : Outcome) : Type 0 where
  pub skipped : outcome.skipped.items ≡ []
  pub by : EndsBy outcome.status
      (IfSome files.told (λ t. WroteSnapshot t start (script_lines script) (state_in outcome.end) out.taken_before
      out.taken_after) × Silent)
      (TookNothing out × FilesFailed files × IfSome files.told (λ t. (name : List ℕ)
      × StoppedAt t (IsTrue files.steady) start [] (script_lines script) name None None
      × Reports err (CannotRead name)))
      (SinkFailed out × IfSome files.told
      (λ t. WroteSnapshotPrefix t start (script_lines script) out.taken_before out.taken_after)
      × Reports err CannotWrite)
      (TookNothing out × Reports err OutOfMemory)
      (TookNothing out × IfSome files.told (λ t. LeadsTooFar t start (script_lines script)) × Reports err LongSnapshot)

-- the words `pack SCHEMA SCRIPT`
pub record PackEnds (names : FileNames) (files : FilesOver) (out err : SinkOver) (Silent : Type 0)
    (outcome : Outcome) : Type 0 where
  pub skipped : outcome.skipped.items ≡ []
  pub refusal : IfSome files.told (λ t. (cause : Cause) → IsPackRefused t names cause
      → (outcome.status ≡ 6) ⊎ (outcome.status ≡ 5) ⊎ (outcome.status ≡ 3))
  pub by : EndsBy outcome.status
      (IfSome files.told (λ t. Packed t names (state_in outcome.end) out.taken_before out.taken_after) × Silent)
      (TookNothing out × FilesFailed files × IfSome files.told (λ t. (name : List ℕ)
      × Unread t (IsTrue files.steady) names [] name None None
      × Reports err (CannotRead name)))
      (SinkFailed out × IfSome files.told (λ t. PackedPrefix t names out.taken_before out.taken_after)
      × Reports err CannotWrite)
      (TookNothing out × Reports err OutOfMemory)
      (TookNothing out × IfSome files.told (λ t. (cause : Cause) × IsPackRefused t names cause × Reports err cause))
