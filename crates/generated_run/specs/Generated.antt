-- A generated run: the state that its files leave, and the record that tells it.
use Rattle.std.specs.Prelude.{ℕ, zero, suc, ◌+◌, ◌*◌, List, [], ◌∷◌, ◌++◌, length, replicate, ℤ, pos, Option, Some, None, Result, Ok}
use Rattle.std.specs.Prelude.{Err, IsOk, codes, decimal}
use Rattle.aggregates.specs.Texts.{amount_text}
use Rattle.cube_defs.specs.Answers.{part}
use Rattle.cube_defs.specs.Rows.{Agg}
use Rattle.cube_defs.specs.Text.{text_cmp, text_eq}
use Rattle.cube_defs.specs.Tree.{classes, links, nodes, tree_edges}
use Rattle.cube_laws.specs.Total.{agg_at}
use Rattle.row_generator.specs.Drawn.{layout}
use Rattle.row_generator.specs.Generator.{after_rows, base_text, batch_rows, batch_text}
use Rattle.row_generator.specs.declared.files.TheConstants.{BATCHES}
use Rattle.warehouse.specs.Batch.{Applied, Apply, FileUse, Load, Refusal, result}
use Rattle.warehouse.specs.State.{State, empty}

-- the state after a file that gave this: where it was refused, the one before
abbrev pub state_after : State → Result Applied Refusal → State
state_after state (Ok applied) = applied.state
state_after state (Err refusal) = state

unfoldable pub file_taken : State → FileUse → List ℕ → State
file_taken state kind bytes = state_after state (result state kind bytes)

-- the state after so many batches, of which the first has so many before it, from the state of the draws before them
unfoldable pub batches_taken : ℕ → ℕ → ℕ → ℕ → State → State
batches_taken zero rows before draws state = state
batches_taken (suc k) rows before draws state =
    batches_taken k rows (before + 1) (after_rows (batch_rows rows) draws)
    (file_taken state Apply (batch_text rows before draws))

-- the base file of so many rows, drawn from a seed, and then the batches
unfoldable pub filled : ℕ → ℕ → State → State
filled rows seed state =
    batches_taken BATCHES rows 0 (after_rows rows seed) (file_taken state Load (base_text rows seed))

unfoldable pub generated_state : ℕ → ℕ → State
generated_state rows seed = filled rows seed (empty layout)

-- a file is taken, and not refused
abbrev pub IsTaken : State → FileUse → List ℕ → Type 0
IsTaken state kind bytes = IsOk (result state kind bytes)

-- the state that the base file and so many batches after it leave
unfoldable pub state_before : ℕ → ℕ → ℕ → State
state_before rows seed before
    = batches_taken before rows 0 (after_rows rows seed) (file_taken (empty layout) Load (base_text rows seed))

-- the bytes of the batch that so many others stand before
abbrev pub batch_at : ℕ → ℕ → ℕ → List ℕ
batch_at rows seed before = batch_text rows before (after_rows (rows + before * batch_rows rows) seed)

-- the sum of the first measure, where there are rows
abbrev pub sum_in : Option Agg → ℤ
sum_in None = pos 0
sum_in (Some agg) = (part agg 0).sum

-- what the rows come to that are covered by the cell of Any alone
abbrev pub total_of : State → Option Agg
total_of state = agg_at text_eq (length state.schema.measures) state.rows (replicate (length state.schema.dims) None)

abbrev pub field_text : List ℕ → List ℕ
field_text field = 44 ∷ field

-- both numbers, and then what is counted of the rows and of their canonical tree, and the sum
unfoldable pub record_text : ℕ → ℕ → State → List ℕ
record_text rows seed state =
    codes "gen"
    ++ field_text (decimal rows)
    ++ field_text (decimal seed)
    ++ field_text (decimal (length (classes text_cmp state.rows)))
    ++ field_text (decimal (length (nodes text_cmp state.rows)))
    ++ field_text (decimal (tree_edges text_cmp state.rows))
    ++ field_text (decimal (links text_cmp state.rows))
    ++ field_text (amount_text 2 (sum_in (total_of state)))
    ++ 10 ∷ []

abbrev pub generated_record : ℕ → ℕ → List ℕ
generated_record rows seed = record_text rows seed (generated_state rows seed)
