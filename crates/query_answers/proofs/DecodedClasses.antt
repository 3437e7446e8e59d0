-- The class of the asked cell, by codes and by texts.
use Rattle.std.proofs.Common.{◌≡◌, ◌∙◌, ℕ, Option, Some, None, List, map, length, sym, ap, subst, arith}
use Rattle.std.specs.Prelude.{IfSome, option_map}
use Rattle.std.specs.Ordering.{nat_cmp}
use Rattle.std.specs.List.{All, AllByRecursion}
use Rattle.std.proofs.lemmas.List.{length-map}
use Rattle.std.proofs.lemmas.List.Elements.{recursion_from_All}
use Rattle.cube_defs.specs.Text.{Text, text_cmp}
use Rattle.cube_defs.specs.Cell.{Cell}
use Rattle.cube_defs.specs.Rows.{Row}
use Rattle.cube_defs.specs.Answers.{class_of}
use Rattle.cube_laws.specs.Recoding.{RowsAreKnown, coded_row}
use Rattle.cube_laws.proofs.CallerLemmas.{all_map}
use Rattle.cell_core.specs.declared.fields.Field.{Field}
use Rattle.value_dict.specs.TextLists.{cell_in}
use Rattle.value_dict.specs.Decoded.{HasTexts, IsDecodableClass, has_text, place_in, decoded_cell, decoded_class}
use Rattle.value_dict.proofs.CallerLemmas.{fits, has-texts, told-coded, IsToldClass, class-missing, class-told}
use Rattle.lower_bounds.specs.Classes.{hit_in}
use Rattle.lower_bounds.specs.declared.class.ClassHit.{ClassHit}
use Rattle.csv_load.specs.Batch.{IsLoaded}
use Rattle.query_script.specs.Commands.{IsCellField}
use Rattle.warehouse.specs.State.{IsState, State, source_of}
use Rattle.query_answers.specs.Queries.{cell_of_fields, entry_of_field}
use Rattle.query_answers.proofs.Asked.{cell-found, cell-missing}

-- what is found by codes is the class by texts
pub record IsFoundClass (texts : List (List Text)) (measures : ℕ) (rows : List (Row Text)) (c : Cell Text)
    (found : Option ClassHit) : Type 0 where
  pub value : option_map (λ k. decoded_class texts (hit_in k)) found ≡ class_of text_cmp measures rows c
  pub told : IfSome found (λ k. IsDecodableClass texts measures (hit_in k))

found-of : (texts : List (List Text)) (measures : ℕ) (rows : List (Row Text)) (c : Cell Text) (found : Option ClassHit)
    → IsToldClass texts measures rows c (option_map hit_in found) → IsFoundClass texts measures rows c found
found-of texts measures rows c None is = record { value = is.value; told = tt }
found-of texts measures rows c (Some k) is = record { value = is.value; told = is.told }

module _ (texts : List (List Text)) (measures : ℕ) (rows : List (Row Text)) (h : RowsAreKnown (has_text texts) rows)
    (wide : AllByRecursion (λ row. length row.tuple ≡ length texts) rows) where
  abbrev codes_of : List (Row ℕ)
  codes_of = map (coded_row (place_in texts)) rows

  -- the class of what is asked
  class-found : (lists : List (List Text)) (asked : List Field) (cell : Cell ℕ) (found : Option ClassHit) → lists ≡ texts
      → All IsCellField asked → cell_in lists asked ≡ Some cell
      → option_map hit_in found ≡ class_of nat_cmp measures codes_of cell
      → IsFoundClass texts measures rows (cell_of_fields asked) found
  class-found lists asked cell found same point e is =
      let at = cell-found texts 0 texts asked cell (fits texts) point (rw same at e) in
      found-of texts measures rows (cell_of_fields asked) found
      (class-told texts measures rows h wide (cell_of_fields asked) (option_map hit_in found) at.known (is
      ∙ ap (class_of nat_cmp measures codes_of) at.code))

  class-none : (lists : List (List Text)) (asked : List Field) → lists ≡ texts → length asked ≡ length texts
      → All IsCellField asked → cell_in lists asked ≡ None
      → None ≡ class_of text_cmp measures rows (cell_of_fields asked)
  class-none lists asked same len point e
      = class-missing texts measures rows h wide (cell_of_fields asked)
      (cell-missing texts 0 texts asked len (fits texts) point (rw same at e))

module _ (s : State) (is : IsState s) where
  -- each row has a text for each list
  pub wide : AllByRecursion (λ row. length row.tuple ≡ length s.texts) s.rows
  wide =
      all_map (IsLoaded (length s.schema.dims) (length s.schema.measures)) (λ row. length row.tuple ≡ length s.texts)
      s.rows (λ row r. r.tuple ∙ sym is.consistent.lists)
      (recursion_from_All (IsLoaded (length s.schema.dims) (length s.schema.measures)) s.rows is.consistent.rows)

  pub state-found : (lists : List (List Text)) (asked : List Field) (cell : Cell ℕ) (found : Option ClassHit)
      → lists ≡ s.texts → All IsCellField asked → Some cell ≡ cell_in lists asked
      → option_map hit_in found ≡ class_of nat_cmp (source_of s).measures (source_of s).rows cell
      → IsFoundClass s.texts (length s.schema.measures) s.rows (cell_of_fields asked) found
  state-found lists asked cell found same point e h
      = class-found s.texts (length s.schema.measures) s.rows is.consistent.known wide lists asked cell found same
      point (sym e) h

  pub state-none : (lists : List (List Text)) (asked : List Field) → lists ≡ s.texts
      → length asked ≡ length s.schema.dims → All IsCellField asked → None ≡ cell_in lists asked
      → None ≡ class_of text_cmp (length s.schema.measures) s.rows (cell_of_fields asked)
  state-none lists asked same len point e
      = class-none s.texts (length s.schema.measures) s.rows is.consistent.known wide lists asked same (len
      ∙ sym is.consistent.lists) point (sym e)

-- the codes of the asked cell tell it
pub asked-told : (texts lists : List (List Text)) (asked : List Field) (cell : Cell ℕ) → lists ≡ texts
    → length asked ≡ length texts → All IsCellField asked → cell_in lists asked ≡ Some cell
    → decoded_cell texts cell ≡ cell_of_fields asked
asked-told texts lists asked cell same len point e =
    let found = cell-found texts 0 texts asked cell (fits texts) point (rw same at e) in
    ap (decoded_cell texts) found.code ∙ told-coded texts 0 texts (cell_of_fields asked) (fits texts) found.known
    (omega (arith, length-map asked entry_of_field, len))

pub asked-texts : (texts lists : List (List Text)) (asked : List Field) (cell : Cell ℕ) → lists ≡ texts
    → length asked ≡ length texts → All IsCellField asked → cell_in lists asked ≡ Some cell → HasTexts texts cell
asked-texts texts lists asked cell same len point e =
    let found = cell-found texts 0 texts asked cell (fits texts) point (rw same at e) in
    subst (HasTexts texts) (sym found.code) (has-texts texts 0 texts (cell_of_fields asked) (fits texts) found.known
    (omega (arith, length-map asked entry_of_field, len)))
