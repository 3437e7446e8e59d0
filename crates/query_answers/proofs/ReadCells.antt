-- The answers to queries of a cell that were read into codes.
use Rattle.std.proofs.Common.{◌≡◌, ◌≤◌, ◌+◌, ◌*◌, ◌∙◌, ℕ, Option, Some, None, List, length, refl, sym, ap, ap₂, arith}
use Rattle.std.proofs.Common.{subst, true}
use Rattle.std.specs.Prelude.{Err, IfSome, Ok, OnErr, OnOk, Result, option_map}
use Rattle.std.specs.Ordering.{eq_by_cmp, nat_cmp}
use Rattle.std.proofs.lemmas.Result.{on_ok_weaker}
use Rattle.cube_defs.specs.Answers.{class_of}
use Rattle.cube_defs.specs.Text.{text_eq}
use Rattle.cube_defs.specs.Cell.{Cell}
use Rattle.cube_laws.specs.Total.{agg_at}
use Rattle.aggregates.specs.Views.{agg_in}
use Rattle.aggregates.specs.declared.agg.Agg as shown
use Rattle.lower_bounds.specs.Classes.{hit_in}
use Rattle.lower_bounds.specs.declared.class.ClassHit.{ClassHit}
use Rattle.query_script.specs.Coded.{AsksByCodes, query_of}
use Rattle.query_script.specs.Lines.{may_want_memory}
use Rattle.query_script.specs.Questions.{Ask}
use Rattle.query_script.specs.declared.coded.CellQuery.{CellQuery}
use Rattle.query_script.specs.declared.coded.CellQuery.TheVariants as queries
use Rattle.query_script.proofs.CallerLemmas.{line-wants}
use Rattle.reply_text.specs.Replies.{bounds_reply, none_text, point_reply}
use Rattle.value_dict.specs.Decoded.{HasTexts, decoded_cell, decoded_class}
use Rattle.warehouse.specs.State.{IsState, State, source_of}
use Rattle.query_answers.specs.Queries.{IsAnswered, cell_of_fields, names_kind, query_cost, query_reply}
use Rattle.query_answers.proofs.Asked.{length-found, measured, total-found, total-none}
use Rattle.query_answers.proofs.DecodedClasses.{IsFoundClass, asked-texts, asked-told, state-found, state-none}

no-steps : (n more : ℕ) → n ≤ n + more
no-steps n more = omega arith

-- what holds at any end holds at an error
pub on-err : {T E P : Type 0} (r : Result T E) → P → OnErr r P
on-err (Ok x) p = tt
on-err (Err e) p = p

-- a line that was read is answered, if its query is
pub answered : {T E : Type 0} (query : CellQuery) (s : State) (line : List ℕ) (number : ℕ) (found : Option (Cell ℕ))
    (p : AsksByCodes query s.schema s.texts line found) (done : Result T E) (reply : List ℕ) (from to : ℕ)
    → OnOk done (reply ≡ query_reply s number (query_of query p.asked))
    → to ≤ from + query_cost s (names_kind s.schema) (query_of query p.asked)
    → IsAnswered s line number done reply from to
answered query s line number found p done reply from to answer steps
    = record { query = query_of query p.asked; command = p.command; answer = answer; steps = steps }

-- its answer may want memory
pub cell-wants : (query : CellQuery) (s : State) (line : List ℕ) (found : Option (Cell ℕ))
    → AsksByCodes query s.schema s.texts line found → may_want_memory line ≡ true
cell-wants queries.Point s line found p = line-wants s.schema line (Ask (query_of queries.Point p.asked)) p.command refl
cell-wants queries.Bounds s line found p
    = line-wants s.schema line (Ask (query_of queries.Bounds p.asked)) p.command refl

module _ (s : State) (is : IsState s) (line : List ℕ) (number : ℕ) where
  -- ---- a value that isn't known

  unknown-reply : (query : CellQuery) (p : AsksByCodes query s.schema s.texts line None)
      → none_text number ≡ query_reply s number (query_of query p.asked)
  unknown-reply queries.Point p =
      let none = total-none s.texts s.texts (length s.schema.measures) s.rows p.asked refl (p.count
      ∙ sym is.consistent.lists) is.consistent.known p.each p.codes in
      sym (ap (point_reply s.schema number (cell_of_fields p.asked)) none)
  unknown-reply queries.Bounds p
      = ap (bounds_reply s.schema number) (state-none s is s.texts p.asked refl p.count p.each (sym p.codes))

  pub unknown : {T E : Type 0} (query : CellQuery) → AsksByCodes query s.schema s.texts line None
      → (done : Result T E) (reply : List ℕ) (steps : ℕ) → OnOk done (reply ≡ none_text number)
      → IsAnswered s line number done reply steps steps
  unknown query p done reply steps put = answered query s line number None p done reply steps steps
      (on_ok_weaker done (λ e. e ∙ unknown-reply query p) put) (no-steps steps _)

  -- ---- known values

  pub cell-texts : (query : CellQuery) (cell : Cell ℕ) → AsksByCodes query s.schema s.texts line (Some cell)
      → HasTexts s.texts cell
  cell-texts query cell p
      = asked-texts s.texts s.texts p.asked cell refl (p.count ∙ sym is.consistent.lists) p.each p.codes

  pub cell-long : (query : CellQuery) (cell : Cell ℕ) → AsksByCodes query s.schema s.texts line (Some cell)
      → length cell ≡ length s.schema.dims
  cell-long query cell p = length-found s.texts p.asked cell p.codes ∙ p.count

  module _ (cell : Cell ℕ) (total : Option shown.Agg)
      (at : option_map agg_in total ≡ agg_at (eq_by_cmp nat_cmp) (source_of s).measures (source_of s).rows cell)
      (p : AsksByCodes queries.Point s.schema s.texts line (Some cell)) where
    total-is : option_map agg_in total ≡ agg_at text_eq (length s.schema.measures) s.rows (cell_of_fields p.asked)
    total-is = at ∙ total-found s.texts s.texts (length s.schema.measures) s.rows p.asked cell refl is.consistent.known
        p.each p.codes

    pub point-parts : IfSome total (λ agg. length (agg_in agg).parts ≡ length s.schema.measures)
    point-parts = measured (length s.schema.measures) s.rows (cell_of_fields p.asked) total total-is

    pub point-known : {T E : Type 0} (done : Result T E) (reply : List ℕ) (from to : ℕ)
        → OnOk done (reply ≡ point_reply s.schema number (decoded_cell s.texts cell) (option_map agg_in total))
        → to ≤ from + (2 * length cell + 3) → IsAnswered s line number done reply from to
    point-known done reply from to put steps =
        let cells = asked-told s.texts s.texts p.asked cell refl (p.count ∙ sym is.consistent.lists) p.each p.codes in
        answered queries.Point s line number (Some cell) p done reply from to
        (on_ok_weaker done (λ e. e ∙ ap₂ (point_reply s.schema number) cells total-is) put)
        (subst (λ n. to ≤ from + (2 * n + 3)) (cell-long queries.Point cell p) steps)

  module _ (cell : Cell ℕ) (found : Option ClassHit)
      (at : option_map hit_in found ≡ class_of nat_cmp (source_of s).measures (source_of s).rows cell)
      (p : AsksByCodes queries.Bounds s.schema s.texts line (Some cell)) where
    pub class-is : IsFoundClass s.texts (length s.schema.measures) s.rows (cell_of_fields p.asked) found
    class-is = state-found s is s.texts p.asked cell found refl p.each (sym p.codes) at

    pub bounds-known : {T E : Type 0} (done : Result T E) (reply : List ℕ) (from to : ℕ)
        → OnOk done (reply ≡ bounds_reply s.schema number (option_map (λ k. decoded_class s.texts (hit_in k)) found))
        → to ≤ from + query_cost s (names_kind s.schema) (query_of queries.Bounds p.asked)
        → IsAnswered s line number done reply from to
    bounds-known done reply from to put steps = answered queries.Bounds s line number (Some cell) p done reply from to
        (on_ok_weaker done (λ e. e ∙ ap (bounds_reply s.schema number) class-is.value) put) steps
