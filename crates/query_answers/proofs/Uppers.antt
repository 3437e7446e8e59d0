-- The upper bound of the class of the asked cell, by codes and by texts.
use Rattle.std.proofs.Common.{◌≡◌, ◌∙◌, ℕ, Option, Some, None, List, length, refl, sym, ap, subst}
use Rattle.std.specs.Prelude.{IfSome, IsSome, option_map, is_some}
use Rattle.std.specs.FinMap as numbers
use Rattle.std.specs.Ordering.{nat_cmp, eq_by_cmp}
use Rattle.std.specs.List.{All}
use Rattle.cube_laws.proofs.CallerLemmas.{all_among, closure-coded, code_equality}
use Rattle.cube_defs.specs.Text.{Text, text_cmp}
use Rattle.cube_defs.specs.Cell.{Cell}
use Rattle.cube_defs.specs.Rows.{Fraction, Row, agg}
use Rattle.cube_defs.specs.Tree.{Tree, cell_at}
use Rattle.cube_defs.specs.Answers.{AggKind, Ask, Bound, ClassHit, class_at, class_of}
use Rattle.quotient_lattice.specs.Neighbours.{rollup}
use Rattle.cell_core.specs.declared.cell.NodeNo.{NodeNo}
use Rattle.cell_core.specs.declared.fields.Field.{Field}
use Rattle.qc_arena.specs.RecordReaders.{number, record_at}
use Rattle.query_script.specs.Commands.{IsCellField}
use Rattle.tree_laws.proofs.CallerLemmas.{some_same}
use Rattle.tree_search.specs.Found.{IsTreeOf, IsNumberOfCell, TreeRows, closure_in}
use Rattle.tree_search.proofs.CallerLemmas.{cell_of, total_some}
use Rattle.value_dict.specs.TextLists.{cell_in}
use Rattle.value_dict.specs.Decoded.{decoded_cell, decoded_class}
use Rattle.warehouse.specs.State.{IsState, State, coded_rows, source_of}
use Rattle.query_answers.specs.Queries.{ask_of, cell_of_fields, scale_of}
use Rattle.query_answers.specs.Lattice.{code_of, related, rollup_answer, upper_of, uppers_text}
use Rattle.value_dict.proofs.CallerLemmas.{fits, class-told, places-apart, text_equality}
use Rattle.cube_laws.specs.Lists.{Among}
use Rattle.quotient_lattice.specs.DecodedNodes.{decoded_nodes}
use Rattle.value_dict.specs.Recoded.{decoded_row_list}
use Rattle.query_answers.proofs.Asked.{cell-found}
use Rattle.query_answers.proofs.Recoded.{rows-told}
use Rattle.query_answers.proofs.DecodedClasses.{state-none, wide}

-- the node that a search finds
pub record IsUpper (tree : Tree ℕ) (source : TreeRows) (cell : Cell ℕ) (found : Option NodeNo) : Type 0 where
  pub class : IfSome found (λ node. IsSome (record_at tree node.0).class)
  pub upper : option_map (λ (node : NodeNo). (record_at tree node.0).cell) found ≡ closure_in source cell

pub upper-found : (dims : ℕ) (tree : Tree ℕ) (source : TreeRows) (h : IsTreeOf dims tree source) (cell : Cell ℕ)
    → length cell ≡ dims → (found : Option NodeNo)
    → IsNumberOfCell tree (option_map number found) (closure_in source cell)
    → IfSome found (λ node. IsSome (numbers.get tree node.0)) → IsUpper tree source cell found
upper-found dims tree source h cell long None e t = record { class = tt; upper = none (closure_in source cell) e }
  where
    none : (o : Option (Cell ℕ)) → None ≡ option_map (λ c. Some c) o → None ≡ o
    none None e = refl
    none (Some c) e = cc
upper-found dims tree source h cell long (Some node) e t
    = record { class = some (closure_in source cell) refl e; upper = here (closure_in source cell) e }
  where
    here : (o : Option (Cell ℕ)) → Some (cell_at tree node.0) ≡ option_map (λ c. Some c) o
        → Some (record_at tree node.0).cell ≡ o
    here None e = cc
    here (Some c) e = ap (λ x. Some x) (cell_of tree node.0 c (some_same e))

    some : (o : Option (Cell ℕ)) → closure_in source cell ≡ o → Some (cell_at tree node.0) ≡ option_map (λ c. Some c) o
        → IsSome (record_at tree node.0).class
    some None q s = cc
    some (Some c) q s = ap is_some (total_some dims tree source h cell long node.0 t e)
        ∙ ap (λ o. is_some (option_map (λ (c : Cell ℕ). agg (eq_by_cmp nat_cmp) source.measures source.rows cell) o)) q

-- the upper bounds of classes
uppers-told : (texts : List (List Text)) (measures : ℕ) (rows : List (Row ℕ)) (o : Option (Cell ℕ))
    → option_map (λ (h : ClassHit Text). h.upper)
    (option_map (decoded_class texts) (option_map (class_at nat_cmp measures rows) o))
    ≡ option_map (decoded_cell texts) o
uppers-told texts measures rows None = refl
uppers-told texts measures rows (Some c) = refl

uppers-are : (measures : ℕ) (rows : List (Row Text)) (o : Option (Cell Text))
    → option_map (λ (h : ClassHit Text). h.upper) (option_map (class_at text_cmp measures rows) o) ≡ o
uppers-are measures rows None = refl
uppers-are measures rows (Some c) = refl

module _ (s : State) (is : IsState s) (lists : List (List Text)) (asked : List Field) (same : lists ≡ s.texts)
    (point : All IsCellField asked) where
  pub upper-told : (cell : Cell ℕ) → Some cell ≡ cell_in lists asked
      → option_map (decoded_cell s.texts) (closure_in (source_of s) cell) ≡ upper_of s (cell_of_fields asked)
  upper-told cell e =
      let at = cell-found s.texts 0 s.texts asked cell (fits s.texts) point (rw same at (sym e)) in
      let told = class-told s.texts (length s.schema.measures) s.rows is.consistent.known (wide s is)
      (cell_of_fields asked) (class_of nat_cmp (length s.schema.measures) (source_of s).rows cell) at.known
      (ap (class_of nat_cmp (length s.schema.measures) (source_of s).rows) at.code) in
      sym (uppers-told s.texts (length s.schema.measures) (source_of s).rows (closure_in (source_of s) cell))
      ∙ ap (option_map (λ (h : ClassHit Text). h.upper)) told.value
      ∙ uppers-are (length s.schema.measures) s.rows (upper_of s (cell_of_fields asked))

  pub upper-coded : (cell : Cell ℕ) → Some cell ≡ cell_in lists asked
      → closure_in (source_of s) cell ≡ option_map (code_of s) (upper_of s (cell_of_fields asked))
  upper-coded cell e =
      let at = cell-found s.texts 0 s.texts asked cell (fits s.texts) point (rw same at (sym e)) in
      ap (closure_in (source_of s)) at.code
      ∙ closure-coded text_equality code_equality (places-apart s.texts) s.rows (cell_of_fields asked)
      is.consistent.known at.known

  pub upper-none : length asked ≡ length s.schema.dims → None ≡ cell_in lists asked
      → None ≡ upper_of s (cell_of_fields asked)
  upper-none len e = ap (option_map (λ (h : ClassHit Text). h.upper)) (state-none s is lists asked same len point e)
      ∙ uppers-are (length s.schema.measures) s.rows (upper_of s (cell_of_fields asked))

-- the found node's cell, told
pub told-upper : (texts : List (List Text)) (tree : Tree ℕ) (found : Option NodeNo) (o : Option (Cell ℕ))
    → option_map (λ (node : NodeNo). (record_at tree node.0).cell) found ≡ o
    → option_map (λ (node : NodeNo). decoded_cell texts (record_at tree node.0).cell) found
    ≡ option_map (decoded_cell texts) o
told-upper texts tree None o e = ap (option_map (decoded_cell texts)) e
told-upper texts tree (Some node) o e = ap (option_map (decoded_cell texts)) e

-- what stands in a relation, by codes and by texts
pub moved : (relation : List (Row Text) → Cell Text → List (Cell Text)) (s : State) (is : IsState s)
    (lists : List (List Text)) (same : lists ≡ s.texts) (tree : Tree ℕ) (node : NodeNo) (nodes : List NodeNo)
    → decoded_nodes lists tree nodes ≡ relation (decoded_row_list lists (coded_rows s))
    (decoded_cell lists (record_at tree node.0).cell)
    → decoded_nodes s.texts tree nodes ≡ relation s.rows (decoded_cell s.texts (record_at tree node.0).cell)
moved relation s is lists same tree node nodes e =
    subst (λ l. decoded_nodes l tree nodes ≡ relation s.rows (decoded_cell l (record_at tree node.0).cell)) same
    (e ∙ ap (λ rows. relation rows (decoded_cell lists (record_at tree node.0).cell)) (rows-told s is lists same))

pub each-class : (tree : Tree ℕ) (nodes : List NodeNo) → All (λ node. IsSome (record_at tree node.0).class) nodes
    → (node : NodeNo) → Among node nodes → IsSome (record_at tree node.0).class
each-class tree nodes all node m = all_among (λ (n : NodeNo). IsSome (record_at tree n.0).class) nodes all node m

-- the nodes of a roll-up, told
pub rolled-told : (s : State) (number : ℕ) (kind : AggKind) (bound : Bound) (value : Fraction) (scale : ℕ)
    (cell upper : Cell Text) (nodes : List (Cell Text)) (reply : List ℕ)
    → reply ≡ uppers_text s number nodes
    → (let asked : Ask = record { kind = kind; scale = scale; bound = bound; value = value } in
    nodes ≡ rollup text_cmp (length s.schema.measures) s.rows asked upper)
    → Some upper ≡ upper_of s cell → scale ≡ scale_of s.schema.measures kind
    → reply ≡ rollup_answer s number (ask_of s.schema.measures kind bound value) cell
rolled-told s number kind bound value scale cell upper nodes reply told here up scaled =
    let ask : ℕ → Ask = λ n. record { kind = kind; scale = n; bound = bound; value = value } in
    told ∙ ap (uppers_text s number) here
    ∙ ap (related s number (rollup text_cmp (length s.schema.measures) s.rows (ask scale))) up
    ∙ ap (λ (n : ℕ). related s number (rollup text_cmp (length s.schema.measures) s.rows (ask n))
    (upper_of s cell)) scaled
