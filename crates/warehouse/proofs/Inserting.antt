-- Why a row can be put in: its id is new, and there is room. What additions leave.
use Rattle.std.proofs.Common.{◌≡◌, ◌<◌, ◌≤◌, ◌+◌, ◌∙◌, ℕ, List, ◌++◌, Bool, false, None, length, map, take, drop, sym, ap, ap₂, arith}
use Rattle.std.proofs.Common.{nat_eq}
use Rattle.std.specs.Prelude.{◌||◌}
use Rattle.std.proofs.lemmas.List.{length-append, take-append-drop}
use Rattle.std.proofs.lemmas.List.Folds.{list_any-append}
use Rattle.cube_defs.specs.Rows.{Row}
use Rattle.cube_defs.specs.Text.{Text}
use Rattle.base_table.specs.Places.{Places, has_id, rows_in, rows_of}
use Rattle.csv_load.specs.Batch.{Change, change_at, id_of, inserted, is_deletion}
use Rattle.warehouse.specs.Batch.{first_number, first_twice, is_among}
use Rattle.warehouse.specs.State.{ids_of}
use Rattle.value_dict.specs.TextLists.{TextLists}
use Rattle.warehouse.specs.Changing.{OnlyAdds}
use Rattle.warehouse.specs.Steps.{HasPrefix, is_there, rows_before}
use Rattle.value_dict.specs.Decoded.{decoded_row}
use Rattle.warehouse.proofs.Changes.{ids-append, inserted-append, insertion-more, insertion-there, new-insertion, none-at}
use Rattle.warehouse.proofs.Decoding.{ids-decoded, length-rows}
use Rattle.warehouse.proofs.TreeInsertions.{front-front, prefix-within}
use Rattle.warehouse.proofs.Rows.{has-ids}
use Rattle.warehouse.proofs.Texts.{longer-longer}

pub new-row : (lists lists0 : List (List Text)) (rows rows0 : List (Row ℕ)) (changes : List (Change Text)) (k : ℕ)
    → map (decoded_row lists) rows ≡ map (decoded_row lists0) rows0 ++ inserted (take k changes)
    → first_twice changes ≡ None → first_number (is_there rows0) changes ≡ None → k < length changes
    → is_deletion (change_at changes (k + 1)) ≡ false → has_id rows (id_of (change_at changes (k + 1))) ≡ false
new-row lists lists0 rows rows0 changes k same once none lt is =
    has-ids rows id
    ∙ ap (is_among id) ids
    ∙ list_any-append (λ (other : ℕ). nat_eq other id) (ids_of rows0) (ids_of (inserted (take k changes)))
    ∙ ap₂ (λ (a b : Bool). a || b) absent (new-insertion changes k once lt is)
  where
    id : ℕ
    id = id_of (change_at changes (k + 1))

    ids : ids_of rows ≡ ids_of rows0 ++ ids_of (inserted (take k changes))
    ids =
        sym (ids-decoded lists rows)
        ∙ ap (λ (rs : List (Row Text)). ids_of rs) same
        ∙ ids-append (map (decoded_row lists0) rows0) (inserted (take k changes))
        ∙ ap (λ (ns : List ℕ). ns ++ ids_of (inserted (take k changes))) (ids-decoded lists0 rows0)

    absent : is_among id (ids_of rows0) ≡ false
    absent = sym (has-ids rows0 id) ∙ sym (insertion-there rows0 (change_at changes (k + 1)) is)
        ∙ none-at (is_there rows0) changes k none lt

pub room-row : (lists lists0 : List (List Text)) (rows rows0 : List (Row ℕ)) (changes : List (Change Text)) (k max : ℕ)
    → map (decoded_row lists) rows ≡ map (decoded_row lists0) rows0 ++ inserted (take k changes)
    → length rows0 + length (inserted changes) ≤ max → k < length changes
    → is_deletion (change_at changes (k + 1)) ≡ false → length rows < max
room-row lists lists0 rows rows0 changes k max same room lt is =
    let whole : length (inserted changes) ≡ length (inserted (take (k + 1) changes))
    + length (inserted (drop (k + 1) changes)) =
    ap (λ (cs : List (Change Text)). length (inserted cs)) (sym (take-append-drop (k + 1) changes))
    ∙ ap (λ (rs : List (Row Text)). length rs) (inserted-append (take (k + 1) changes) (drop (k + 1) changes))
    ∙ length-append (inserted (take (k + 1) changes)) (inserted (drop (k + 1) changes)) in
    let now : length rows ≡ length rows0 + length (inserted (take k changes)) =
    sym (length-rows lists rows)
    ∙ ap (λ (rs : List (Row Text)). length rs) same
    ∙ length-append (map (decoded_row lists0) rows0) (inserted (take k changes))
    ∙ ap (λ (n : ℕ). n + length (inserted (take k changes))) (length-rows lists0 rows0) in
    omega (arith, whole, now, room, insertion-more changes k lt is)

-- additions after additions
pub adds-adds : (d d1 d2 : TextLists) (t t1 t2 : Places) → OnlyAdds d d1 t t1 → OnlyAdds d1 d2 t1 t2
    → OnlyAdds d d2 t t2
adds-adds d d1 d2 t t1 t2 first second = record {
  longer = longer-longer d.lists d1.lists d2.lists first.longer second.longer;
  most_texts = second.most_texts ∙ first.most_texts;
  dictionary = second.dictionary;
  front = front-front t t1 t2 first.front second.front;
  frame = second.frame ∙ first.frame;
}

-- the rows before the place at which a table ended
pub rows-prefix : (t t' : Places) (k : ℕ) → k ≡ length t.places → HasPrefix t t' → rows_before t' k ≡ rows_of t
rows-prefix t t' k is front = ap (λ (n : ℕ). rows_before t' n) is ∙ ap rows_in front

pub place-within : (t t' : Places) (k : ℕ) → k ≡ length t.places → HasPrefix t t' → k ≤ length t'.places
place-within t t' k is front = omega (arith, is, prefix-within t t' front)
