-- The answers that tell classes of the quotient lattice.
use Rattle.std.specs.Prelude.{ℕ, ◌+◌, ◌*◌, ◌^◌, Option, Some, None, List, length, map}
use Rattle.std.specs.Option.{option_map_or}
use Rattle.std.specs.Ordering.{nat_cmp}
use Rattle.cube_defs.specs.Text.{Text, text_cmp, text_eq}
use Rattle.cube_defs.specs.Cell.{Cell}
use Rattle.cube_defs.specs.Rows.{closure}
use Rattle.cube_defs.specs.Answers.{Ask}
use Rattle.cube_laws.specs.Parts.{value_count}
use Rattle.cube_laws.specs.Recoding.{coded_cell}
use Rattle.quotient_lattice.specs.Costs.{edges_to, size_from}
use Rattle.quotient_lattice.specs.Neighbours.{children, class_alone, parents, rollup}
use Rattle.reply_text.specs.Replies.{iceberg_text, none_text}
use Rattle.value_dict.specs.Decoded.{place_in}
use Rattle.warehouse.specs.State.{State, coded_rows}

-- the reply that tells classes without their lower bounds
abbrev pub uppers_text : State → ℕ → List (Cell Text) → List ℕ
uppers_text state line uppers
    = iceberg_text line state.schema.measures
    (map (class_alone text_cmp (length state.schema.measures) state.rows) uppers)

-- what stands in some relation to the upper bound, or that no row is covered
abbrev pub related : State → ℕ → (Cell Text → List (Cell Text)) → Option (Cell Text) → List ℕ
related state line relation None = none_text line
related state line relation (Some upper) = uppers_text state line (relation upper)

-- the upper bound of the class of a cell
abbrev pub upper_of : State → Cell Text → Option (Cell Text)
upper_of state cell = closure text_eq state.rows cell

-- the answer to `parents`
abbrev pub parents_answer : State → ℕ → Cell Text → List ℕ
parents_answer state line cell = related state line (parents text_cmp state.rows) (upper_of state cell)

-- the answer to `children`
abbrev pub children_answer : State → ℕ → Cell Text → List ℕ
children_answer state line cell = related state line (children text_cmp state.rows) (upper_of state cell)

-- the answer to `rollup`
abbrev pub rollup_answer : State → ℕ → Ask → Cell Text → List ℕ
rollup_answer state line ask cell
    = related state line (rollup text_cmp (length state.schema.measures) state.rows ask) (upper_of state cell)

-- a cell with codes for its texts
abbrev pub code_of : State → Cell Text → Cell ℕ
code_of state cell = coded_cell (place_in state.texts) 0 cell

-- The most steps of a question about the class of a cell: some for its search, for each class of the answer, and as
-- often as `size` says of its upper bound. The sizes speak of the tree by codes.
abbrev pub steps_of_related : State → (Cell Text → List (Cell Text)) → (Cell ℕ → ℕ) → Option (Cell Text) → ℕ
steps_of_related state relation size upper
    = 17 * (length state.schema.dims + 1)
    * (1 + option_map_or (λ u. size (code_of state u) + length (relation u)) upper 0)

-- of `parents`: by the cells that generalize the class
abbrev pub steps_of_parents : State → Cell Text → ℕ
steps_of_parents state cell
    = steps_of_related state (parents text_cmp state.rows) (λ u. 2 ^ value_count u) (upper_of state cell)

-- of `children`: by the edges at the nodes from the root to the class
abbrev pub steps_of_children : State → Cell Text → ℕ
steps_of_children state cell
    = steps_of_related state (children text_cmp state.rows) (λ u. edges_to nat_cmp (coded_rows state) u + 1)
    (upper_of state cell)

-- of `rollup`: by these edges of each class that the class generalizes
abbrev pub steps_of_rollup : State → Ask → Cell Text → ℕ
steps_of_rollup state ask cell
    = steps_of_related state (rollup text_cmp (length state.schema.measures) state.rows ask)
    (size_from nat_cmp (coded_rows state)) (upper_of state cell)
