-- What a script answers, over the files that are told.
use Rattle.std.specs.Prelude.{◌+◌, ◌==◌, ◌++◌, ℕ, Bool, true, false, List, [], ◌∷◌, Option, Some, None, if◌then◌else◌, fold}
use Rattle.std.specs.List.{list_any}
use Rattle.qc_io.specs.Outside.{FileContents}
use Rattle.qc_session.specs.Lines.{is_passed}
use Rattle.reply_text.specs.Replies.{memory_text}
use Rattle.warehouse.specs.State.{State}
use Rattle.qc_session.specs.Answers.{answer}
use Rattle.qc_session.specs.Pins.{PinnedAnswer, PinnedState, unpinned}

-- how far a script has come: the state with its pins, the replies, and whether a file lacked
pub record Run : Type 0 where
  pub state : PinnedState
  pub replies : List ℕ
  pub lacked : Bool

-- a run in which no file lacked
abbrev pub run_at : PinnedState → List ℕ → Run
run_at state replies = record { state = state; replies = replies; lacked = false }

-- a line with its number, and whether it is skipped for want of memory
pub record Item : Type 0 where
  pub number : ℕ
  pub line : List ℕ
  pub skipped : Bool

abbrev pub is_skipped : List ℕ → ℕ → Bool
is_skipped skipped number = list_any (λ k. k == number) skipped

abbrev pub item : List ℕ → ℕ → List ℕ → Item
item skipped number line = record { number = number; line = line; skipped = is_skipped skipped number }

-- the lines after so many others
unfoldable pub items : List ℕ → ℕ → List (List ℕ) → List Item
items skipped n [] = []
items skipped n (line ∷ lines) = item skipped (n + 1) line ∷ items skipped (n + 1) lines

abbrev pub answered : Run → Option PinnedAnswer → Run
answered run None = record run { lacked = true }
answered run (Some a) = record run { state = a.state; replies = run.replies ++ a.reply }

-- One line more. A line that is passed over adds nothing, a skipped one adds the reply on memory and keeps the state
-- and its pins, and each other one adds its answer. Where a file is missing, the transcript ends before that line.
abbrev pub step : FileContents → Run → Item → Run
step told run item =
    if run.lacked then run
    else if is_passed item.line then run
    else if item.skipped then record run { replies = run.replies ++ memory_text item.number }
    else answered run (answer run.state told item.number item.line)

-- from the state at which a run starts, where no name is pinned
unfoldable pub transcript : FileContents → State → List ℕ → List (List ℕ) → Run
transcript told start skipped lines = fold (step told) (run_at (unpinned start) []) (items skipped 0 lines)
