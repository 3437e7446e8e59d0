-- How a run ends.
use Rattle.std.specs.Prelude.{◌≡◌, ◌≢◌, ◌≤◌, ◌<◌, ◌&&◌, ◌⊎◌, ◌++◌, ℕ, zero, suc, Bool, true, not, List, [], ◌∷◌, length, take, Option, Some}
use Rattle.std.specs.Prelude.{None, IfSome, IsSome, IsSomeAnd, codes, slice_index_or, decimal, Ok, Err, option_map, ⊤}
use Rattle.std.specs.List.{All, AllByRecursion}
use Rattle.cube_defs.specs.declared.limits.TheConstants.{MAX_FILE}
use Rattle.qc_io.specs.Outside.{FileContents, with_taken}
use Rattle.qc_schema.specs.Grammar.{schema_in}
use Rattle.qc_schema.specs.Schema.{Layout}
use Rattle.qc_schema.specs.Progress as schemas
use Rattle.qc_schema.specs.declared.refusal.SchemaCause.{SchemaCause}
use Rattle.qc_schema.specs.declared.refusal.SchemaCause.TheVariants as causes
use Rattle.query_script.specs.Lines.{may_want_memory}
use Rattle.warehouse.specs.State.{Contents, IsState, State, empty}
use Rattle.qc_session.specs.Answers.{file_of}
use Rattle.cube_snapshot.specs.States.{spelling}
use Rattle.qc_session.specs.Forms.{FileNames, FromSchema, FromSnapshot, Source}
use Rattle.qc_session.specs.Lines.{is_passed, script_lines}
use Rattle.qc_session.specs.Pins.{PinnedState}
use Rattle.qc_session.specs.Transcript.{run_at, transcript}

abbrev pub IsStatus : ℕ → Type 0
IsStatus s = (s ≡ 0) ⊎ (s ≡ 2) ⊎ (s ≡ 3) ⊎ (s ≡ 4) ⊎ (s ≡ 5) ⊎ (s ≡ 6)

-- that of a run of a script, or of one for its snapshot
abbrev pub IsScriptStatus : ℕ → Type 0
IsScriptStatus s = (s ≡ 0) ⊎ (s ≡ 3) ⊎ (s ≡ 4) ⊎ (s ≡ 5) ⊎ (s ≡ 6)

-- why a run ended before the end of its script
pub data Cause : Type 0 where
  Usage : Cause
  CannotRead : List ℕ → Cause
  CannotWrite : Cause
  OutOfMemory : Cause
  NoSchema : schemas.Fault → Cause
  NoSnapshot : Cause
  LongSnapshot : Cause
  TooLong : List ℕ → Cause

abbrev pub status_of : Cause → ℕ
status_of Usage = 2
status_of (CannotRead name) = 3
status_of CannotWrite = 4
status_of OutOfMemory = 5
status_of (NoSchema fault) = 6
status_of NoSnapshot = 6
status_of LongSnapshot = 6
status_of (TooLong name) = 6

abbrev pub cause_text : SchemaCause → List ℕ
cause_text causes.Version = codes "version"
cause_text causes.Order = codes "order"
cause_text causes.Words = codes "words"
cause_text causes.Name = codes "name"
cause_text causes.Number = codes "number"
cause_text causes.End = codes "end"

-- what is wrong with a schema
abbrev pub fault_text : schemas.Fault → List ℕ
fault_text schemas.NotUtf8 = codes "not UTF-8"
fault_text (schemas.Line line cause) = codes "line " ++ decimal line ++ codes ": " ++ cause_text cause

-- the line that tells it
abbrev pub error_text : Cause → List ℕ
error_text Usage = codes
    "usage: qcube run SCHEMA SCRIPT | qcube gen ROWS SEED | qcube pack SCHEMA SCRIPT | qcube open SNAPSHOT SCRIPT\n"
error_text (CannotRead name) = codes "qcube: cannot read " ++ name ++ 10 ∷ []
error_text CannotWrite = codes "qcube: cannot write\n"
error_text OutOfMemory = codes "qcube: out of memory\n"
error_text (NoSchema fault) = codes "qcube: schema " ++ fault_text fault ++ 10 ∷ []
error_text NoSnapshot = codes "qcube: snapshot refused\n"
error_text LongSnapshot = codes "qcube: snapshot is too long\n"
error_text (TooLong name) = codes "qcube: " ++ name ++ codes " is too long\n"

-- these bytes of the first file tell this start: they are a schema, and there are no rows; or they are its snapshot
abbrev pub Begins : Source → List ℕ → State → Type 0
Begins FromSchema bytes start = (schema : Layout) × (schema_in bytes ≡ Ok schema) × (start ≡ empty schema)
Begins FromSnapshot bytes start = (bytes ≡ spelling start) × IsState start

-- they tell none, for this cause
abbrev pub BeginsNot : Source → List ℕ → Cause → Type 0
BeginsNot FromSchema bytes cause = (fault : schemas.Fault) × (schema_in bytes ≡ Err fault) × (cause ≡ NoSchema fault)
BeginsNot FromSnapshot bytes cause = ((s : State) → IsState s → bytes ≢ spelling s) × (cause ≡ NoSnapshot)

-- a start that is read: the first file is there, is no longer than a file may be, and tells it
pub record IsStartOf (told : FileContents) (names : FileNames) (start : State) : Type 0 where
  pub bytes : List ℕ
  pub is_told : told names.first ≡ Some bytes
  pub within : length bytes ≤ MAX_FILE
  pub begins : Begins names.source bytes start

-- a script that is read
pub record IsScriptOf (told : FileContents) (name bytes : List ℕ) : Type 0 where
  pub is_told : told name ≡ Some bytes
  pub within : length bytes ≤ MAX_FILE

-- the file of a name is longer than a file may be
abbrev pub IsLong : FileContents → List ℕ → Cause → Type 0
IsLong told name cause = IsSomeAnd (told name) (λ bytes. MAX_FILE < length bytes) × (cause ≡ TooLong name)

-- the first file tells no start
abbrev pub HasNoStart : FileNames → Cause → FileContents → Type 0
HasNoStart names cause told
    = IsSomeAnd (told names.first) (λ bytes. (length bytes ≤ MAX_FILE) × BeginsNot names.source bytes cause)

-- Why a run is refused before its first line: the first file is too long or tells no start, or else the script is too
-- long.
abbrev pub IsRefused : FileContents → FileNames → Cause → Type 0
IsRefused told names cause =
    IsLong told names.first cause ⊎ HasNoStart names cause told
    ⊎ ((start : State) × IsStartOf told names start × IsLong told names.script cause)

abbrev pub IsUnrefused : FileContents → FileNames → Type 0
IsUnrefused told names = (cause : Cause) → IsRefused told names cause → ⊥

-- the line with a number, counted from 1, and no bytes where there is none
abbrev pub line_at : List (List ℕ) → ℕ → List ℕ
line_at lines zero = []
line_at lines (suc k) = slice_index_or lines k []

-- a line that may be skipped for want of memory: a text whose word is a command other than `stats`
abbrev pub may_skip : List ℕ → Bool
may_skip line = not (is_passed line) && may_want_memory line

-- the numbers are of lines up to this one
abbrev pub AreUpTo : ℕ → List ℕ → Type 0
AreUpTo number [] = ⊤
AreUpTo number (k ∷ ks) = (k ≤ number) × AreUpTo number ks

-- rising numbers of lines that may be skipped
abbrev pub AreRising : ℕ → List ℕ → Type 0
AreRising n [] = ⊤
AreRising n (k ∷ ks) = (n < k) × AreRising k ks

pub record AreSkipped (lines : List (List ℕ)) (skipped : List ℕ) : Type 0 where
  pub rising : AreRising 0 skipped
  pub commands : AllByRecursion (λ k. may_skip (line_at lines k) ≡ true) skipped

-- the state of the warehouse that a run hands back
abbrev pub state_in : Option Contents → Option State
state_in end = option_map (λ held. held.state) end

-- these lines were taken, and these were their replies
pub record Took (told : FileContents) (start : State) (skipped : List ℕ) (lines : List (List ℕ)) (state : PinnedState)
    (replies : List ℕ) : Type 0 where
  pub is : transcript told start skipped lines ≡ run_at state replies

-- out took the replies of these lines
pub record Wrote (told : FileContents) (start : State) (skipped : List ℕ) (lines : List (List ℕ))
    (before now : Option (List ℕ)) : Type 0 where
  pub state : PinnedState
  pub replies : List ℕ
  pub took : Took told start skipped lines state replies
  pub wrote : now ≡ with_taken replies before

-- the same, and this is the state that they left
pub record WroteAll (told : FileContents) (start : State) (skipped : List ℕ) (lines : List (List ℕ))
    (end : Option State) (before now : Option (List ℕ)) : Type 0 where
  pub wrote : Wrote told start skipped lines before now
  pub ended : end ≡ Some wrote.state.state

-- out took a prefix of the replies of these lines
pub record WrotePrefix (told : FileContents) (start : State) (skipped : List ℕ) (lines : List (List ℕ))
    (before now : Option (List ℕ)) : Type 0 where
  pub state : PinnedState
  pub replies : List ℕ
  pub count : ℕ
  pub took : Took told start skipped lines state replies
  pub wrote : now ≡ with_taken (take count replies) before

-- out took the replies of the lines before one whose file couldn't be read; only these may be skipped
pub record StoppedAt (told : FileContents) (sure : Type 0) (start : State) (skipped : List ℕ) (lines : List (List ℕ))
    (name : List ℕ) (before now : Option (List ℕ)) : Type 0 where
  pub done : List (List ℕ)
  pub line : List ℕ
  pub rest : List (List ℕ)
  pub split : lines ≡ done ++ line ∷ rest
  pub reached : AreUpTo (length done) skipped
  pub wrote : Wrote told start skipped done before now
  pub names : file_of wrote.state.state.schema line ≡ Some name
  pub untold : sure → told name ≡ None

-- out took a prefix of the replies of some first lines; only these may be skipped
pub record StoppedWriting (told : FileContents) (start : State) (skipped : List ℕ) (lines : List (List ℕ))
    (before now : Option (List ℕ)) : Type 0 where
  pub done : List (List ℕ)
  pub rest : List (List ℕ)
  pub split : lines ≡ done ++ rest
  pub reached : AreUpTo (length done) skipped
  pub wrote : WrotePrefix told start skipped done before now

-- where err's count didn't rise, it took the line that tells a cause
abbrev pub HasReported : Type 0 → Cause → Option (List ℕ) → Option (List ℕ) → Type 0
HasReported rose cause before now = (rose → ⊥) → now ≡ with_taken (error_text cause) before

-- why a file of the words wasn't read: a fault, want of memory, or what it holds
abbrev pub ReadFails : Option FileContents → List ℕ → Type 0 → Type 0 → (Cause → FileContents → Type 0) → Cause → Type 0
ReadFails told name rose sure form Usage = ⊥
ReadFails told name rose sure form (CannotRead file) = (file ≡ name) × rose × IfSome told (λ t. sure → t name ≡ None)
ReadFails told name rose sure form CannotWrite = ⊥
ReadFails told name rose sure form OutOfMemory = ⊤
ReadFails told name rose sure form (NoSchema fault) = IfSome told (form (NoSchema fault))
ReadFails told name rose sure form NoSnapshot = IfSome told (form NoSnapshot)
ReadFails told name rose sure form LongSnapshot = ⊥
ReadFails told name rose sure form (TooLong file) = (file ≡ name)
    × IfSome told (λ t. IsSomeAnd (t name) (λ bytes. MAX_FILE < length bytes))

abbrev pub IsNever : Cause → FileContents → Type 0
IsNever cause t = ⊥

-- the whole transcript of the script's lines was written, and the run hands back the state at its end
pub record Finished (told : FileContents) (names : FileNames) (skipped : List ℕ) (end : Option State)
    (before now : Option (List ℕ)) : Type 0 where
  pub start : State
  pub script : List ℕ
  pub start_read : IsStartOf told names start
  pub script_read : IsScriptOf told names.script script
  pub wrote : WroteAll told start skipped (script_lines script) end before now

-- a reply couldn't be written
pub record BrokenOff (told : FileContents) (names : FileNames) (skipped : List ℕ)
    (before now : Option (List ℕ)) : Type 0 where
  pub start : State
  pub script : List ℕ
  pub start_read : IsStartOf told names start
  pub script_read : IsScriptOf told names.script script
  pub wrote : StoppedWriting told start skipped (script_lines script) before now

-- a file that a line names couldn't be read
pub record LineUnread (told : FileContents) (sure : Type 0) (names : FileNames) (skipped : List ℕ) (name : List ℕ)
    (before now : Option (List ℕ)) : Type 0 where
  pub start : State
  pub script : List ℕ
  pub start_read : IsStartOf told names start
  pub script_read : IsScriptOf told names.script script
  pub stopped : StoppedAt told sure start skipped (script_lines script) name before now

-- the first file couldn't be read; no line is skipped
pub record FirstUnread (told : FileContents) (sure : Type 0) (names : FileNames) (skipped : List ℕ) (name : List ℕ)
    (before now : Option (List ℕ)) : Type 0 where
  pub is_first : name ≡ names.first
  pub nothing : now ≡ before
  pub unskipped : skipped ≡ []
  pub untold : sure → told name ≡ None

-- the script couldn't be read, and the first file was; no line is skipped
pub record ScriptUnread (told : FileContents) (sure : Type 0) (names : FileNames) (skipped : List ℕ) (name : List ℕ)
    (before now : Option (List ℕ)) : Type 0 where
  pub is_script : name ≡ names.script
  pub start : State
  pub start_read : IsStartOf told names start
  pub nothing : now ≡ before
  pub unskipped : skipped ≡ []
  pub untold : sure → told name ≡ None

abbrev pub Unread : FileContents → Type 0 → FileNames → List ℕ → List ℕ → Option (List ℕ) → Option (List ℕ) → Type 0
Unread told sure names skipped name before now =
    FirstUnread told sure names skipped name before now ⊎ ScriptUnread told sure names skipped name before now
    ⊎ LineUnread told sure names skipped name before now

-- the file that a line names is told, where it names one
abbrev pub IsLineFileKnown : FileContents → Layout → List ℕ → Type 0
IsLineFileKnown told schema line = IfSome (file_of schema line) (λ name. IsSome (told name))

-- each file that the words and the lines name is told
pub record AllFilesKnown (told : FileContents) (names : FileNames) : Type 0 where
  pub first : IsSome (told names.first)
  pub script : IsSome (told names.script)
  pub lines : (start : State) (script : List ℕ) → IsStartOf told names start → IsScriptOf told names.script script
      → All (IsLineFileKnown told start.schema) (script_lines script)

-- why no line of a script was begun: a file of the words couldn't be read, memory lacked, or one of them is refused
pub record NotBegun (told : Option FileContents) (names : FileNames) (faulted sure : Type 0)
    (cause : Cause) : Type 0 where
  pub known : (status_of cause ≡ 3) ⊎ (status_of cause ≡ 5) ⊎ (status_of cause ≡ 6)
  pub rose : status_of cause ≡ 3 → faulted
  pub unread : status_of cause ≡ 3
      → IfSome told (λ t. (name : List ℕ) × (cause ≡ CannotRead name)
      × ((bytes : Option (List ℕ)) → Unread t sure names [] name bytes bytes))
  pub refused : status_of cause ≡ 6 → IfSome told (λ t. IsRefused t names cause)
