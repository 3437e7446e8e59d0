-- The cell that a point asks, and its codes.
use Rattle.std.proofs.Common.{◌≡◌, ◌∙◌, ℕ, suc, Bool, true, false, cond, Option, Some, None, List, [], ◌∷◌, map, length, get_or, ◌⊎◌, inl}
use Rattle.std.proofs.Common.{inr, refl, sym, ap, ap₂, subst, arith}
use Rattle.std.specs.Prelude.{IfSome, nat_lt, option_map}
use Rattle.std.specs.Ordering.{eq_by_cmp, nat_cmp}
use Rattle.std.specs.Option.{option_and_then}
use Rattle.std.specs.List.{All, list_any, position_or_len}
use Rattle.std.proofs.lemmas.List.FromFn.{length-map-range_with_len}
use Rattle.std.proofs.lemmas.List.Elements.{All-head, All-tail}
use Rattle.std.specs.Str.{bytes_eq}
use Rattle.std.proofs.lemmas.Bool.{ltb-false, ltb-true}
use Rattle.cell_core.specs.declared.fields.Field.{Field}
use Rattle.cell_core.specs.declared.fields.Field.TheVariants as fields
use Rattle.cube_defs.specs.Text.{Text, text_eq}
use Rattle.cube_defs.specs.Cell.{Cell}
use Rattle.aggregates.specs.declared.agg.Agg as shown
use Rattle.aggregates.specs.Views.{agg_in}
use Rattle.cube_defs.specs.Rows.{Agg, Row, agg_of, amounts_of, cov, part_of}
use Rattle.cube_laws.specs.Recoding.{AreKnown, RowsAreKnown, coded_cell, coded_row}
use Rattle.cube_laws.specs.Total.{agg_at, agg_some}
use Rattle.query_script.specs.Commands.{IsCellField}
use Rattle.value_dict.specs.TextLists.{cell_in, entry_in}
use Rattle.value_dict.specs.Decoded.{has_text, place_in}
use Rattle.value_dict.proofs.CallerLemmas.{any-within, within-any, Fits, fits, total-coded, total-missing}
use Rattle.query_answers.specs.Queries.{cell_of_fields, entry_of_field}

-- what is known where an entry is found
record IsEntry (texts : List Text) (asked : Option Text) (entry : Option ℕ) : Type 0 where
  pub coded : entry ≡ option_map (λ v. position_or_len (bytes_eq v) texts) asked
  pub known : (v : Text) → asked ≡ Some v → list_any (bytes_eq v) texts ≡ true

entry-found : (texts : List Text) (field : Field) (entry : Option ℕ) → IsCellField field
    → entry_in texts field ≡ Some entry → IsEntry texts (entry_of_field field) entry
entry-found texts fields.Any entry is e = record { coded = cc; known = λ v h. cc }
entry-found texts fields.All entry is e = absurd is
entry-found texts (fields.Among more) entry is e = absurd is
entry-found texts (fields.Between low high) entry is e = absurd is
entry-found texts (fields.One text) entry is e
    = go (nat_lt (position_or_len (bytes_eq text) texts) (length texts)) refl e
  where
    some : {x y : Option ℕ} → Some x ≡ Some y → y ≡ x
    some h = cc

    same : {x y : Text} → Some x ≡ Some y → x ≡ y
    same h = cc

    go : (b : Bool) → nat_lt (position_or_len (bytes_eq text) texts) (length texts) ≡ b
        → option_map (λ code. Some code) (cond b (Some (position_or_len (bytes_eq text) texts)) None) ≡ Some entry
        → IsEntry texts (Some text) entry
    go true t h = record {
      coded = some h;
      known = λ v g. subst (λ x. list_any (bytes_eq x) texts ≡ true) (same g)
          (within-any (bytes_eq text) texts (ltb-true _ _ t));
    }
    go false t h = cc

entry-missing : (texts : List Text) (field : Field) (v : Text) → IsCellField field → entry_in texts field ≡ None
    → (entry_of_field field ≡ Some v) × (list_any (bytes_eq v) texts ≡ true) → ⊥
entry-missing texts fields.Any v is e h = cc
entry-missing texts fields.All v is e h = absurd is
entry-missing texts (fields.Among more) v is e h = absurd is
entry-missing texts (fields.Between low high) v is e h = absurd is
entry-missing texts (fields.One text) v is e h
    = go (nat_lt (position_or_len (bytes_eq text) texts) (length texts)) refl e
  where
    same : {x y : Text} → Some x ≡ Some y → y ≡ x
    same h = cc

    go : (b : Bool) → nat_lt (position_or_len (bytes_eq text) texts) (length texts) ≡ b
        → option_map (λ (code : ℕ). Some code) (cond b (Some (position_or_len (bytes_eq text) texts)) None) ≡ None → ⊥
    go true t g = cc
    go false t g = omega (
      arith,
      ltb-false _ _ t,
      any-within (bytes_eq text) texts (subst (λ x. list_any (bytes_eq x) texts ≡ true) (same h.0) h.1),
    )

-- an entry, and the cell after it
abbrev joined : Option (Option ℕ) → Option (Cell ℕ) → Option (Cell ℕ)
joined entry rest = option_and_then (λ e. option_map (λ c. e ∷ c) rest) entry

record AreJoined (entry : Option (Option ℕ)) (rest : Option (Cell ℕ)) (cell : Cell ℕ) : Type 0 where
  pub first : Option ℕ
  pub more : Cell ℕ
  pub entry_is : entry ≡ Some first
  pub rest_is : rest ≡ Some more
  pub cell_is : cell ≡ first ∷ more

some-joined : (entry : Option (Option ℕ)) (rest : Option (Cell ℕ)) (cell : Cell ℕ) → joined entry rest ≡ Some cell
    → AreJoined entry rest cell
some-joined None rest cell h = cc
some-joined (Some e) None cell h = cc
some-joined (Some e) (Some c) cell h = record { first = e; more = c; entry_is = refl; rest_is = refl; cell_is = cc }

-- where each field's entry is there, the cell is the code of the asked cell, which is known
pub record IsFound (texts : List (List Text)) (k : ℕ) (asked : Cell Text) (cell : Cell ℕ) : Type 0 where
  pub code : cell ≡ coded_cell (place_in texts) k asked
  pub known : AreKnown (has_text texts) k asked

found-more : (texts : List (List Text)) (k : ℕ) (list : List Text) (entry : Option Text) (asked : Cell Text)
    (e : Option ℕ) (c : Cell ℕ) → get_or texts k [] ≡ list → IsEntry list entry e → IsFound texts (suc k) asked c
    → IsFound texts k (entry ∷ asked) (e ∷ c)
found-more texts k list None asked e c fit is more
    = record { code = ap₂ (λ x xs. x ∷ xs) is.coded more.code; known = more.known }
found-more texts k list (Some v) asked e c fit is more = record {
  code = ap₂ (λ x xs. x ∷ xs) (is.coded ∙ ap (λ l. Some (position_or_len (bytes_eq v) l)) (sym fit)) more.code;
  known = (subst (λ l. list_any (bytes_eq v) l ≡ true) (sym fit) (is.known v refl), more.known);
}

pub cell-found : (texts : List (List Text)) (k : ℕ) (lists : List (List Text)) (asked : List Field) (cell : Cell ℕ)
    → Fits texts k lists → All IsCellField asked → cell_in lists asked ≡ Some cell
    → IsFound texts k (cell_of_fields asked) cell
cell-found texts k [] [] cell fit point e = record { code = cc; known = tt }
cell-found texts k [] (f ∷ asked) cell fit point e = cc
cell-found texts k (list ∷ lists) [] cell fit point e = cc
cell-found texts k (list ∷ lists) (f ∷ asked) cell fit point e =
    let j = some-joined (entry_in list f) (cell_in lists asked) cell e in
    subst (IsFound texts k (cell_of_fields (f ∷ asked))) (sym j.cell_is)
    (found-more texts k list (entry_of_field f) (cell_of_fields asked) j.first j.more fit.0
    (entry-found list f j.first (All-head IsCellField f asked point) j.entry_is)
    (cell-found texts (suc k) lists asked j.more fit.1 (All-tail IsCellField f asked point) j.rest_is))

none-joined : (entry : Option (Option ℕ)) (rest : Option (Cell ℕ)) → joined entry rest ≡ None → (entry ≡ None)
    ⊎ (rest ≡ None)
none-joined None rest h = inl refl
none-joined (Some e) None h = inr refl
none-joined (Some e) (Some c) h = cc

missing-first : (texts : List (List Text)) (k : ℕ) (list : List Text) (f : Field) (asked : List Field)
    → get_or texts k [] ≡ list → IsCellField f → entry_in list f ≡ None
    → AreKnown (has_text texts) k (entry_of_field f ∷ cell_of_fields asked) → ⊥
missing-first texts k list f asked fit point e known = go (entry_of_field f) refl known
  where
    go : (o : Option Text) → entry_of_field f ≡ o → AreKnown (has_text texts) k (o ∷ cell_of_fields asked) → ⊥
    go None h known = asks-any f point e h
      where
        asks-any : (f : Field) → IsCellField f → entry_in list f ≡ None → entry_of_field f ≡ None → ⊥
        asks-any fields.Any point e h = cc
        asks-any fields.All point e h = absurd point
        asks-any (fields.One text) point e h = cc
        asks-any (fields.Among more) point e h = absurd point
        asks-any (fields.Between low high) point e h = absurd point
    go (Some v) h known = entry-missing list f v point e (h, subst (λ l. list_any (bytes_eq v) l ≡ true) fit known.0)

known-after : (texts : List (List Text)) (k : ℕ) (e : Option Text) (asked : Cell Text)
    → AreKnown (has_text texts) k (e ∷ asked) → AreKnown (has_text texts) (suc k) asked
known-after texts k None asked h = h
known-after texts k (Some v) asked h = h.1

-- where a field's value isn't there, the asked cell isn't known
pub cell-missing : (texts : List (List Text)) (k : ℕ) (lists : List (List Text)) (asked : List Field)
    → length asked ≡ length lists → Fits texts k lists → All IsCellField asked → cell_in lists asked ≡ None
    → AreKnown (has_text texts) k (cell_of_fields asked) → ⊥
cell-missing texts k [] [] same fit point e known = cc
cell-missing texts k [] (f ∷ asked) same fit point e known = omega (arith, same)
cell-missing texts k (list ∷ lists) [] same fit point e known = omega (arith, same)
cell-missing texts k (list ∷ lists) (f ∷ asked) same fit point e known
    = elim (none-joined (entry_in list f) (cell_in lists asked) e) [
      | inl h ↦ missing-first texts k list f asked fit.0 (All-head IsCellField f asked point) h known
      | inr h ↦ cell-missing texts (suc k) lists asked (omega (arith, same)) fit.1 (All-tail IsCellField f asked point) h
          (known-after texts k (entry_of_field f) (cell_of_fields asked) known)
    ]

-- what a point's cell comes to, by its codes
pub total-found : (texts lists : List (List Text)) (measures : ℕ) (rows : List (Row Text)) (asked : List Field)
    (cell : Cell ℕ) → lists ≡ texts → RowsAreKnown (has_text texts) rows → All IsCellField asked
    → cell_in lists asked ≡ Some cell → agg_at (eq_by_cmp nat_cmp) measures (map (coded_row (place_in texts)) rows) cell
    ≡ agg_at text_eq measures rows (cell_of_fields asked)
total-found texts lists measures rows asked cell same h point e =
    let found = cell-found texts 0 texts asked cell (fits texts) point (rw same at e) in
    ap (agg_at (eq_by_cmp nat_cmp) measures (map (coded_row (place_in texts)) rows)) found.code
    ∙ total-coded texts measures rows (cell_of_fields asked) h found.known

pub total-none : (texts lists : List (List Text)) (measures : ℕ) (rows : List (Row Text)) (asked : List Field)
    → lists ≡ texts → length asked ≡ length texts → RowsAreKnown (has_text texts) rows → All IsCellField asked
    → cell_in lists asked ≡ None → agg_at text_eq measures rows (cell_of_fields asked) ≡ None
total-none texts lists measures rows asked same len h point e =
    total-missing texts measures rows (cell_of_fields asked) h
    (cell-missing texts 0 texts asked len (fits texts) point (rw same at e))

-- what some rows come to has a part for each measure
length-some : (measures : ℕ) (rows : List (Row Text)) (a : Agg) → agg_some measures rows ≡ Some a
    → length a.parts ≡ measures
length-some measures [] a e = cc
length-some measures (r ∷ rows) a e =
    let same : agg_of measures (r ∷ rows) ≡ a = cc in
    rw (← same) (length-map-range_with_len (λ m. part_of (amounts_of m (r ∷ rows))) 0 measures)

pub measured : (measures : ℕ) (rows : List (Row Text)) (cell : Cell Text) (total : Option shown.Agg)
    → option_map agg_in total ≡ agg_at text_eq measures rows cell
    → IfSome total (λ agg. length (agg_in agg).parts ≡ measures)
measured measures rows cell None e = tt
measured measures rows cell (Some agg) e = length-some measures (cov text_eq rows cell) (agg_in agg) (sym e)

-- a cell that fields ask for has an entry for each of them
pub length-found : (lists : List (List Text)) (asked : List Field) (cell : Cell ℕ) → cell_in lists asked ≡ Some cell
    → length cell ≡ length asked
length-found [] [] cell e = cc
length-found [] (f ∷ asked) cell e = cc
length-found (list ∷ lists) [] cell e = cc
length-found (list ∷ lists) (f ∷ asked) cell e =
    let j = some-joined (entry_in list f) (cell_in lists asked) cell e in
    ap length j.cell_is ∙ ap suc (length-found lists asked j.more j.rest_is)
