-- How one line goes on from those before it.
use Rattle.std.specs.Prelude.{◌≡◌, ◌≤◌, ◌<◌, ◌⊎◌, ◌+◌, ◌^◌, ◌++◌, ℕ, true, List, [], ◌∷◌, Option, Some, None, IfSome, Result, MatchResult}
use Rattle.std.specs.Prelude.{length, vec_capacity, vec_len}
use Rattle.cube_defs.specs.declared.limits.TheConstants.{MAX_FILE}
use Rattle.qc_io.specs.Outside.{FileContents}
use Rattle.warehouse.specs.State.{State}
use Rattle.qc_session.specs.Answers.{file_of}
use Rattle.qc_session.specs.Pins.{PinnedState, pinned_state_in}
use Rattle.qc_session.specs.Transcript.{item, run_at, step}
use Rattle.qc_session.specs.Flushed.{IsFlushed, TookPrefix}
use Rattle.qc_session.specs.Lines.{lines_of}
use Rattle.qc_session.specs.Runs.{AreSkipped, AreUpTo, StoppedAt, StoppedWriting, Took, WroteAll, may_skip}
use Rattle.qc_session.specs.declared.session.Session.{Session}
use Rattle.qc_session.specs.declared.session.Stop.{Stop}
use Rattle.qc_session.specs.declared.session.Stop.TheVariants as stops

-- a fact for each reason to stop
abbrev pub IfStop : Stop → (List ℕ → Type 0) → Type 0 → Type 0
IfStop (stops.Read name) P Q = P name
IfStop stops.Write P Q = Q

-- a session before the first line of a script, with room for the numbers of its lines
pub record IsReady (session : Session) (script : List ℕ) : Type 0 where
  pub room : length (lines_of script) ≤ vec_capacity session.skipped
  pub few : length (lines_of script) < 2 ^ 32
  pub short : length script ≤ MAX_FILE
  pub number : session.number ≡ 0
  pub skipped : session.skipped.items ≡ []
  pub pending : session.pending ≡ []
  pub pins : session.pinned.pins ≡ []

-- the next line has a number, for which there is room
pub record HasRoom (session : Session) : Type 0 where
  pub room : vec_len session.skipped < vec_capacity session.skipped
  pub number : session.number + 1 < 2 ^ 32

-- this line may be the next one
pub record CanTake (session : Session) (line : List ℕ) : Type 0 where
  pub next : HasRoom session
  pub up_to : AreUpTo session.number session.skipped.items
  pub short : length line ≤ MAX_FILE

-- the list of skipped lines stayed, or has this line too
abbrev pub Skips : List ℕ → ℕ → List ℕ → List ℕ → Type 0
Skips old number line new = (new ≡ old) ⊎ ((new ≡ old ++ number ∷ []) × (may_skip line ≡ true))

-- a line that leads from this state to that gives this reply
pub record Replies (told : FileContents) (skipped : List ℕ) (number : ℕ) (state : PinnedState) (line : List ℕ)
    (state2 : PinnedState) (reply : List ℕ) : Type 0 where
  pub is : (replies : List ℕ)
      → step told (run_at state replies) (item skipped number line) ≡ run_at state2 (replies ++ reply)

-- out took a prefix of what was kept and of the reply of a line, and the rest is kept
abbrev pub WroteLine : Option FileContents → List ℕ → ℕ → PinnedState → List ℕ → PinnedState → List ℕ → List ℕ
    → Option (List ℕ) → Option (List ℕ) → Type 0
WroteLine told skipped number state line state2 kept kept2 before now =
    IfSome told (λ t. (reply : List ℕ) × Replies t skipped number state line state2 reply
    × IsFlushed (kept ++ reply) kept2 before now)

-- out refused the rest: of what was kept before the line, or of that and the line's reply
abbrev pub WrotePart : Option FileContents → List ℕ → List ℕ → ℕ → PinnedState → List ℕ → PinnedState → List ℕ
    → Option (List ℕ) → Option (List ℕ) → Type 0
WrotePart told old new number state line state2 kept before now =
    IfSome told (λ t. ((new ≡ old) × TookPrefix kept before now)
    ⊎ ((reply : List ℕ) × Replies t new number state line state2 reply × TookPrefix (kept ++ reply) before now))

-- these lines were taken, out took a prefix of their replies, and the rest is kept
pub record Gathered (told : FileContents) (start : State) (skipped : List ℕ) (lines : List (List ℕ))
    (state : PinnedState) (kept : List ℕ) (before now : Option (List ℕ)) : Type 0 where
  pub replies : List ℕ
  pub took : Took told start skipped lines state replies
  pub handed : IsFlushed replies kept before now

-- how a reply was gathered: out took a prefix of these bytes, and the rest is kept, or it is refused where out failed
pub record Puts {T : Type 0} (broke : Type 0) (bytes kept : List ℕ) (before now : Option (List ℕ))
    (result : Result T Stop) : Type 0 where
  pub by : MatchResult result (λ done. IsFlushed bytes kept before now)
      (λ stop. IfStop stop (λ name. ⊥) (broke × TookPrefix bytes before now))

-- how a line was taken: whole; or its file couldn't be read, where the files failed; or a reply couldn't be written,
-- where out broke
pub record LineEnds {T : Type 0} (told : Option FileContents) (sure failed broke : Type 0) (line : List ℕ)
    (old new : Session) (before now : Option (List ℕ)) (result : Result T Stop) : Type 0 where
  pub number : new.number ≡ old.number
  pub capacity : vec_capacity old.skipped ≤ vec_capacity new.skipped
  pub skips : Skips old.skipped.items (old.number + 1) line new.skipped.items
  pub by : MatchResult result
      (λ done. WroteLine told new.skipped.items (old.number + 1) (pinned_state_in old.pinned) line
      (pinned_state_in new.pinned) old.pending new.pending before now)
      (λ stop. IfStop stop
      (λ name. failed × (file_of old.pinned.now.state.schema line ≡ Some name)
      × (sure → IfSome told (λ t. t name ≡ None))
      × IsFlushed old.pending [] before now × (new.skipped.items ≡ old.skipped.items))
      (broke × WrotePart told old.skipped.items new.skipped.items (old.number + 1) (pinned_state_in old.pinned) line
      (pinned_state_in new.pinned) old.pending before now))

-- how all lines were taken, in the same three ways
pub record LinesEnd {T : Type 0} (told : Option FileContents) (sure failed broke : Type 0) (lines : List (List ℕ))
    (old new : Session) (before now : Option (List ℕ)) (result : Result T Stop) : Type 0 where
  pub skipped : AreSkipped lines new.skipped.items
  pub by : MatchResult result
      (λ done. IfSome told (λ t. WroteAll t old.pinned.now.state new.skipped.items lines
      (Some new.pinned.now.state) before now))
      (λ stop. IfStop stop
      (λ name. failed × IfSome told
      (λ t. StoppedAt t sure old.pinned.now.state new.skipped.items lines name before now))
      (broke × IfSome told (λ t. StoppedWriting t old.pinned.now.state new.skipped.items lines before now)))
