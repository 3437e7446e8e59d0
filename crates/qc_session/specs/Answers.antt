-- The answer to a line: what a file does to the rows that are present, what is asked of them, or of rows that are
-- pinned.
use Rattle.std.specs.Prelude.{ℕ, Option, Some, None, List, [], ◌∷◌, length, nat_lt, Result, Ok, Err, if◌then◌else◌}
use Rattle.std.specs.Option.{option_map}
use Rattle.cube_defs.specs.Text.{Text}
use Rattle.qc_io.specs.Outside.{FileContents}
use Rattle.qc_schema.specs.Schema.{Layout}
use Rattle.query_answers.specs.Queries.{query_reply}
use Rattle.query_script.specs.Commands.{command_in}
use Rattle.query_script.specs.Faults.{LineFault}
use Rattle.query_script.specs.Questions as asks
use Rattle.query_script.specs.Questions.{Question}
use Rattle.warehouse.specs.Batch.{Applied, FileUse, Load, Apply, Refusal, result}
use Rattle.warehouse.specs.State.{State}
use Rattle.warehouse.specs.Widening.{WidenRefusal, widen_result}
use Rattle.reply_text.specs.Replies.{applied_text, batch_texts, line_texts, pinned_texts, refused_text, size_texts, widen_texts}
use Rattle.reply_text.specs.Replies.{widened_text}
use Rattle.cube_defs.specs.declared.limits.TheConstants.{MAX_FILE}
use Rattle.qc_session.specs.Pins.{Pin, PinnedAnswer, PinnedState, at_reply, unchanged_with_pins, pin_answer, unpin_answer}

-- a state and a reply
pub record StateAnswer : Type 0 where
  pub state : State
  pub reply : List ℕ

abbrev pub unchanged : State → List ℕ → StateAnswer
unchanged state reply = record { state = state; reply = reply }

-- what a file did, or why it was refused
abbrev pub change_answer : State → ℕ → Result Applied Refusal → StateAnswer
change_answer state line (Ok applied)
    = record { state = applied.state; reply = applied_text line applied.records applied.classes }
change_answer state line (Err refusal) = unchanged state (refused_text line (batch_texts state.schema refusal))

abbrev pub file_answer : State → ℕ → FileUse → List ℕ → StateAnswer
file_answer state line kind bytes =
    if nat_lt MAX_FILE (length bytes) then unchanged state (refused_text line size_texts)
    else change_answer state line (result state kind bytes)

-- what applying a file would answer; nothing changes
abbrev pub attempt_answer : State → ℕ → List ℕ → StateAnswer
attempt_answer state line bytes = unchanged state (file_answer state line Apply bytes).reply

-- the dimension that came, or why none came
abbrev pub widened_by : State → ℕ → Result Applied WidenRefusal → StateAnswer
widened_by state line (Ok applied)
    = record { state = applied.state; reply = widened_text line (length applied.state.schema.dims) applied.classes }
widened_by state line (Err refusal) = unchanged state (refused_text line (widen_texts refusal))

abbrev pub widen_answer : State → ℕ → Text → Text → StateAnswer
widen_answer state line name value = widened_by state line (widen_result state name value)

-- an answer beside pins, which stay
abbrev pub with_pins : PinnedState → StateAnswer → PinnedAnswer
with_pins s a = record { state = record s { state = a.state }; reply = a.reply }

-- the answer to `widen`: no dimension comes where a name is pinned
abbrev pub widen_with : PinnedState → List Pin → ℕ → Text → Text → PinnedAnswer
widen_with s [] line name value = with_pins s (widen_answer s.state line name value)
widen_with s (pin ∷ pins) line name value = unchanged_with_pins s (refused_text line pinned_texts)

-- the answer to a question or to a line that asks none, and nothing where the file that it names isn't told
abbrev pub answer_to : PinnedState → FileContents → ℕ → Result Question LineFault → Option PinnedAnswer
answer_to s told line (Err fault) = Some (unchanged_with_pins s (refused_text line (line_texts fault)))
answer_to s told line (Ok (asks.Load name))
    = option_map (λ bytes. with_pins s (file_answer s.state line Load bytes)) (told name)
answer_to s told line (Ok (asks.Apply name))
    = option_map (λ bytes. with_pins s (file_answer s.state line Apply bytes)) (told name)
answer_to s told line (Ok (asks.Try name))
    = option_map (λ bytes. with_pins s (attempt_answer s.state line bytes)) (told name)
answer_to s told line (Ok (asks.Widen name value)) = Some (widen_with s s.pins line name value)
answer_to s told line (Ok (asks.Pin name)) = Some (pin_answer s line name)
answer_to s told line (Ok (asks.Unpin name)) = Some (unpin_answer s line name)
answer_to s told line (Ok (asks.At name query)) = Some (unchanged_with_pins s (at_reply s line name query))
answer_to s told line (Ok (asks.Ask query)) = Some (unchanged_with_pins s (query_reply s.state line query))

-- the answer to a line, which is read with the schema of the state before it
abbrev pub answer : PinnedState → FileContents → ℕ → List ℕ → Option PinnedAnswer
answer s told number line = answer_to s told number (command_in s.state.schema line)

-- the file that a question names, where it names one
abbrev pub file_named : Result Question LineFault → Option Text
file_named (Err fault) = None
file_named (Ok (asks.Load name)) = Some name
file_named (Ok (asks.Apply name)) = Some name
file_named (Ok (asks.Try name)) = Some name
file_named (Ok (asks.Widen name value)) = None
file_named (Ok (asks.Pin name)) = None
file_named (Ok (asks.Unpin name)) = None
file_named (Ok (asks.At name query)) = None
file_named (Ok (asks.Ask query)) = None

-- the file that a line names, over a schema
abbrev pub file_of : Layout → List ℕ → Option Text
file_of schema line = file_named (command_in schema line)
