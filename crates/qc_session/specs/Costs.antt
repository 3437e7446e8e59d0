-- What the lines of a script may cost, in steps.
use Rattle.std.specs.Prelude.{ℕ, ◌+◌, ◌≤◌, Option, Some, None, IfSome, List, [], length, fold, nat_lt, Result, Ok, Err}
use Rattle.std.specs.Prelude.{if◌then◌else◌, false, ◌∷◌}
use Rattle.csv_load.specs.Batch.{Change}
use Rattle.csv_load.specs.Faults.{Fault}
use Rattle.csv_load.specs.Files.{batch_in}
use Rattle.cube_defs.specs.Rows.{Row}
use Rattle.cube_defs.specs.Text.{Text}
use Rattle.cube_defs.specs.declared.limits.TheConstants.{MAX_FILE}
use Rattle.qc_io.specs.Outside.{FileContents}
use Rattle.query_answers.specs.Queries.{names_kind, query_cost}
use Rattle.query_script.specs.Commands.{command_in}
use Rattle.query_script.specs.Faults.{LineFault}
use Rattle.query_script.specs.Queries.{Query}
use Rattle.query_script.specs.Questions as asks
use Rattle.query_script.specs.Questions.{Question}
use Rattle.warehouse.specs.Batch.{Applied, Apply, FileUse, Load, Refusal, result}
use Rattle.warehouse.specs.InPlace.{cost_in}
use Rattle.warehouse.specs.Loading.{cost_of_load}
use Rattle.warehouse.specs.State.{State, with_rows}
use Rattle.warehouse.specs.Widening.{WidenRefusal, cost_of_widening, widen_result}
use Rattle.qc_session.specs.Forms.{FileNames}
use Rattle.qc_session.specs.Lines.{is_passed, script_lines}
use Rattle.qc_session.specs.Pins.{Pin, PinnedState, rows_at, unpinned}
use Rattle.qc_session.specs.Runs.{IsScriptOf, IsStartOf}
use Rattle.qc_session.specs.Transcript.{Item, Run, items, run_at, step}

-- A cost is the most steps that may be taken. It is nothing where no bound is claimed.

-- no more steps are taken than a cost, from one count of them to another
abbrev pub IsWithin : Option ℕ → ℕ → ℕ → Type 0
IsWithin cost from to = IfSome cost (λ most. to ≤ from + most)

-- two costs, one after the other
abbrev pub both_costs : Option ℕ → Option ℕ → Option ℕ
both_costs None second = None
both_costs (Some first) None = None
both_costs (Some first) (Some second) = Some (first + second)

-- a query of the rows of a pin, which have no index; a name that isn't pinned is refused at once
abbrev pub cost_over : State → Query → Option (List (Row Text)) → ℕ
cost_over s query None = 0
cost_over s query (Some rows) = query_cost (with_rows s rows) (λ kind. false) query

-- the changes of a batch that a state takes; a file that is no batch takes no step, and no bound is claimed of changes
-- that are refused
abbrev pub changes_cost : State → Result (List (Change Text)) Fault → Result Applied Refusal → Option ℕ
changes_cost s (Err fault) taken = Some 0
changes_cost s (Ok changes) (Err refusal) = None
changes_cost s (Ok changes) (Ok applied) = Some (cost_in s changes)

-- a batch that is applied or tried
abbrev pub batch_cost : State → List ℕ → Option ℕ
batch_cost s bytes = changes_cost s (batch_in s.schema bytes) (result s Apply bytes)

-- a base file that is loaded, by the state after it; no bound is claimed of one that is refused
abbrev pub loaded_cost : Result Applied Refusal → Option ℕ
loaded_cost (Err refusal) = None
loaded_cost (Ok applied) = Some (cost_of_load applied.state)

-- the bytes of a file that isn't too long, by what it is read for
abbrev pub taken_bytes_cost : FileUse → State → List ℕ → Option ℕ
taken_bytes_cost Load s bytes = loaded_cost (result s Load bytes)
taken_bytes_cost Apply s bytes = batch_cost s bytes

-- the bytes of any file; one that is too long isn't taken
abbrev pub bytes_cost : FileUse → State → List ℕ → Option ℕ
bytes_cost kind s bytes = if nat_lt MAX_FILE (length bytes) then Some 0 else taken_bytes_cost kind s bytes

-- the same of a file that is told
abbrev pub file_cost : FileUse → State → Option (List ℕ) → Option ℕ
file_cost kind s None = None
file_cost kind s (Some bytes) = bytes_cost kind s bytes

-- a new dimension; no bound is claimed of one that is refused
abbrev pub widening_cost : State → Result Applied WidenRefusal → Option ℕ
widening_cost s (Err refusal) = None
widening_cost s (Ok applied) = Some (cost_of_widening s)

-- where a name is pinned, no dimension comes
abbrev pub widen_cost : State → List Pin → Text → Text → Option ℕ
widen_cost s [] name value = widening_cost s (widen_result s name value)
widen_cost s (pin ∷ pins) name value = Some 0

-- what a line asks, or its fault
abbrev pub question_cost : PinnedState → FileContents → Result Question LineFault → Option ℕ
question_cost s told (Err fault) = Some 0
question_cost s told (Ok (asks.Load name)) = file_cost Load s.state (told name)
question_cost s told (Ok (asks.Apply name)) = file_cost Apply s.state (told name)
question_cost s told (Ok (asks.Try name)) = file_cost Apply s.state (told name)
question_cost s told (Ok (asks.Widen name value)) = widen_cost s.state s.pins name value
question_cost s told (Ok (asks.Pin name)) = Some 0
question_cost s told (Ok (asks.Unpin name)) = Some 0
question_cost s told (Ok (asks.At name query)) = Some (cost_over s.state query (rows_at s.pins name))
question_cost s told (Ok (asks.Ask query)) = Some (query_cost s.state (names_kind s.state.schema) query)

-- a line that is answered
abbrev pub line_cost : PinnedState → FileContents → List ℕ → Option ℕ
line_cost s told line = question_cost s told (command_in s.state.schema line)

-- a line of a script; no bound is claimed of one that is skipped for want of memory
abbrev pub item_cost : PinnedState → FileContents → Item → Option ℕ
item_cost s told item =
    if is_passed item.line then Some 0
    else if item.skipped then None
    else line_cost s told item.line

-- how far a script has come, and what its lines cost so far
pub record Costed : Type 0 where
  pub run : Run
  pub cost : Option ℕ

-- one line more; those where a file was missing, and after it, aren't taken
abbrev pub costed_step : FileContents → Costed → Item → Costed
costed_step told c item = record {
  run = step told c.run item;
  cost = if c.run.lacked then c.cost else both_costs c.cost (item_cost c.run.state told item);
}

-- all lines of a script, from the state at which a run starts
unfoldable pub script_cost : FileContents → State → List ℕ → List (List ℕ) → Option ℕ
script_cost told start skipped lines =
    (fold (costed_step told) (record { run = run_at (unpinned start) []; cost = Some 0 })
    (items skipped 0 lines)).cost

-- from one count of steps to another there are no more than the lines of the script that was read may cost
pub record IsWithinScript (told : FileContents) (names : FileNames) (skipped : List ℕ) (from to : ℕ) : Type 0 where
  pub start : State
  pub script : List ℕ
  pub start_read : IsStartOf told names start
  pub script_read : IsScriptOf told names.script script
  pub within : IsWithin (script_cost told start skipped (script_lines script)) from to
