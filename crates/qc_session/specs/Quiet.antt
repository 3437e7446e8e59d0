-- Why a script whose replies nobody takes stopped.
use Rattle.std.specs.Prelude.{ℕ, List, [], Option, Some, None, IfSome, Result, MatchResult, ⊤}
use Rattle.qc_io.specs.Outside.{FileContents}
use Rattle.qc_session.specs.Runs.{StoppedAt, WroteAll}
use Rattle.qc_session.specs.declared.session.Session.{Session}
use Rattle.qc_session.specs.declared.quiet.SilentStop.{SilentStop}
use Rattle.qc_session.specs.declared.quiet.SilentStop.TheVariants as stops

-- a fact for each reason to stop
abbrev pub IfQuietStop : SilentStop → (List ℕ → Type 0) → Type 0 → Type 0
IfQuietStop (stops.Read name) P Q = P name
IfQuietStop stops.Memory P Q = Q

-- how all lines were taken without their replies, none of them skipped; or a file couldn't be read, where the files
-- failed
pub record QuietEnds {T : Type 0} (told : Option FileContents) (sure failed : Type 0) (lines : List (List ℕ))
    (old new : Session) (result : Result T SilentStop) : Type 0 where
  pub by : MatchResult result
      (λ done. IfSome told (λ t. WroteAll t old.pinned.now.state [] lines (Some new.pinned.now.state) None None))
      (λ stop. IfQuietStop stop (λ name. failed
      × IfSome told (λ t. StoppedAt t sure old.pinned.now.state [] lines name None None)) ⊤)
