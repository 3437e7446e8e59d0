-- Why a line, or a script, stopped, and what a file is taken for.
use Rattle.std.specs.Prelude.{ℕ, List}
use Rattle.warehouse.specs.Batch as batches
use Rattle.warehouse.specs.State.{State}
use Rattle.qc_session.specs.Answers.{StateAnswer}
use Rattle.qc_session.specs.declared.answer.FileUse.{FileUse}
use Rattle.qc_session.specs.declared.answer.FileUse.TheVariants as kinds
use Rattle.qc_session.specs.declared.answer.LineStop.{LineStop}
use Rattle.qc_session.specs.declared.answer.LineStop.TheVariants as stops

abbrev pub MatchLineStop : LineStop → Type 0 → (List ℕ → Type 0) → Type 0
MatchLineStop stops.Memory P Q = P
MatchLineStop (stops.Fault name) P Q = Q name

abbrev pub kind_in : FileUse → batches.FileUse
kind_in kinds.Load = batches.Load
kind_in kinds.Apply = batches.Apply
kind_in kinds.Try = batches.Apply

-- the state that is left: that before a file that is only tried, and else that after it
abbrev pub state_by_use : FileUse → State → State → State
state_by_use kinds.Load before then = then
state_by_use kinds.Apply before then = then
state_by_use kinds.Try before then = before

-- an answer with the state that is left
abbrev pub answer_by_use : FileUse → State → StateAnswer → StateAnswer
answer_by_use kind before a = record { state = state_by_use kind before a.state; reply = a.reply }
