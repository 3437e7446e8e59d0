-- Changes that lie in columns, one after the other.
use Rattle.std.proofs.Common.{◌≡◌, ◌<◌, ◌≤◌, ◌+◌, ◌-◌, ◌*◌, ◌^◌, ◌∙◌, ℕ, ℤ, pos, Bool, true, false, List, [], ◌∷◌, ◌++◌, length, get_or}
use Rattle.std.proofs.Common.{refl, sym, ap, ap₂, arith, map, subst, cond}
use Rattle.std.specs.Prelude.{nat_abs, slice_range, not, count_by}
use Rattle.std.specs.List.{All, range_with_len}
use Rattle.std.proofs.lemmas.List.{length_push, get_or_push, get_or_append_left, get_or-map, length-append, length-map}
use Rattle.std.proofs.lemmas.List.Elements.{All-push}
use Rattle.std.proofs.lemmas.List.Sums.{sum_by-cons}
use Rattle.std.proofs.lemmas.List.FromFn.{length-map-range_with_len, get_or-map-range_with_len, map-range_with_len_more, fill_by_all}
use Rattle.std.proofs.Math.Nat.{mul-le-mul_left}
use Rattle.cube_defs.specs.Rows.{Row}
use Rattle.cube_defs.specs.Text.{Text}
use Rattle.csv_load.specs.Batch.{Adds, AreChanges, Batch, Change, Delete, HasChange, Insert, IsChange, IsLoaded, change_at_place}
use Rattle.csv_load.specs.Batch.{change_with, id_of, inserted, is_deletion, row_at_place, row_of}
use Rattle.csv_load.specs.declared.changes.ChangeColumns.{ChangeColumns}
use Rattle.csv_load.proofs.Ranges.{range-append, range-after, same-below, get_or-range}
use Rattle.cube_defs.specs.declared.limits.TheConstants.{MAX_AMOUNT}

abbrev pub all_in : ℕ → ℕ → ChangeColumns → List (Change Text)
all_in dims measures changes = map (change_at_place dims measures changes) (range_with_len 0 (length changes.ids.items))

pub length-all : (dims measures : ℕ) (changes : ChangeColumns)
    → length (all_in dims measures changes) ≡ length changes.ids.items
length-all dims measures changes
    = length-map-range_with_len (change_at_place dims measures changes) 0 (length changes.ids.items)

-- the place of the k-th change is in the columns
pub change-within : {dims measures : ℕ} (changes : ChangeColumns) {b : Batch} {k : ℕ}
    → record { dims = dims; measures = measures; changes = all_in dims measures changes } ≡ b → HasChange b.changes k
    → k - 1 < length changes.ids.items
change-within {dims} {measures} changes is has = omega (
  arith,
  has.first,
  has.last,
  length-all dims measures changes,
  ap (λ (b : Batch). length b.changes) is,
)

pub change-at : (dims measures : ℕ) (changes : ChangeColumns) (k : ℕ) (d : Change Text) → k < length changes.ids.items
    → get_or (all_in dims measures changes) k d ≡ change_at_place dims measures changes k
change-at dims measures changes k d h
    = get_or-map-range_with_len (change_at_place dims measures changes) 0
    (length changes.ids.items) k k d h (omega arith)

-- ---- a change of a kind and a row

pub kind-with : (deletes : Bool) (row : Row Text) → is_deletion (change_with deletes row) ≡ deletes
kind-with true row = refl
kind-with false row = refl

pub id-with : (deletes : Bool) (row : Row Text) → id_of (change_with deletes row) ≡ row.id
id-with true row = refl
id-with false row = refl

pub row-with : (deletes : Bool) (row : Row Text) → deletes ≡ false → row_of (change_with deletes row) ≡ row
row-with true row e = absurd (cc e)
row-with false row e = refl

-- ---- one of those that lie there

-- a place in a row generalizes the end of all rows
pub below-all : (dims n k i : ℕ) → k < n → i ≤ dims → k * dims + i ≤ n * dims
below-all dims n k i h le =
    let more : k + 1 ≤ n = omega arith in
    omega (arith, mul-le-mul_left dims more)

pub kind-at : (dims measures : ℕ) (changes : ChangeColumns) (k : ℕ) (d : Change Text) → k < length changes.ids.items
    → is_deletion (get_or (all_in dims measures changes) k d) ≡ get_or changes.deletes.items k false
kind-at dims measures changes k d h = ap (λ (c : Change Text). is_deletion c) (change-at dims measures changes k d h)
    ∙ kind-with (get_or changes.deletes.items k false) (row_at_place dims measures changes k)

pub id-at : (dims measures : ℕ) (changes : ChangeColumns) (k : ℕ) (d : Change Text) → k < length changes.ids.items
    → id_of (get_or (all_in dims measures changes) k d) ≡ get_or changes.ids.items k 0
id-at dims measures changes k d h = ap (λ (c : Change Text). id_of c) (change-at dims measures changes k d h)
    ∙ id-with (get_or changes.deletes.items k false) (row_at_place dims measures changes k)

pub row-at : (dims measures : ℕ) (changes : ChangeColumns) (k : ℕ) (d : Change Text) → k < length changes.ids.items
    → is_deletion (get_or (all_in dims measures changes) k d) ≡ false
    → row_of (get_or (all_in dims measures changes) k d) ≡ row_at_place dims measures changes k
row-at dims measures changes k d h e =
    ap (λ (c : Change Text). row_of c) (change-at dims measures changes k d h)
    ∙ row-with (get_or changes.deletes.items k false) (row_at_place dims measures changes k)
    (sym (kind-at dims measures changes k d h) ∙ e)

pub text-at : (dims measures : ℕ) (changes : ChangeColumns) (k i : ℕ) (d : Change Text) → k < length changes.ids.items
    → is_deletion (get_or (all_in dims measures changes) k d) ≡ false → i < dims
    → get_or (row_of (get_or (all_in dims measures changes) k d)).tuple i [] ≡ get_or changes.texts (k * dims + i) []
text-at dims measures changes k i d h e lt =
    ap (λ (row : Row Text). get_or row.tuple i []) (row-at dims measures changes k d h e)
    ∙ get_or-range changes.texts (k * dims) (k * dims + dims) i [] (omega arith)

pub amount-at : (dims measures : ℕ) (changes : ChangeColumns) (k i : ℕ) (d : Change Text) → k < length changes.ids.items
    → is_deletion (get_or (all_in dims measures changes) k d) ≡ false → i < measures
    → get_or (row_of (get_or (all_in dims measures changes) k d)).amounts i (pos 0) ≡ get_or changes.amounts.items
    (k * measures + i) (pos 0)
amount-at dims measures changes k i d h e lt =
    ap (λ (row : Row Text). get_or row.amounts i (pos 0)) (row-at dims measures changes k d h e)
    ∙ get_or-range changes.amounts.items (k * measures) (k * measures + measures) i (pos 0) (omega arith)

loaded-row : (dims measures : ℕ) (change : Change Text) → IsChange dims measures change → is_deletion change ≡ false
    → IsLoaded dims measures (row_of change)
loaded-row dims measures (Delete id) is e = absurd (cc e)
loaded-row dims measures (Insert row) is e = is

pub amount-small : (dims measures : ℕ) (changes : ChangeColumns) (k i : ℕ) (d : Change Text)
    → AreChanges dims measures changes → k < length changes.ids.items
    → is_deletion (get_or (all_in dims measures changes) k d) ≡ false → i < measures
    → nat_abs (get_or changes.amounts.items (k * measures + i) (pos 0)) ≤ MAX_AMOUNT
amount-small dims measures changes k i d are h e lt =
    let at : IsLoaded dims measures (row_of (get_or (all_in dims measures changes) k d))
    = loaded-row dims measures (get_or (all_in dims measures changes) k d)
    (are.is_batch.loaded k d (omega (arith, h, length-all dims measures changes))) e in
    let small : nat_abs (get_or (row_of (get_or (all_in dims measures changes) k d)).amounts i (pos 0)) ≤ MAX_AMOUNT
    = at.small i (pos 0) (omega (arith, at.amounts)) in
    let same = amount-at dims measures changes k i d h e lt in
    let P : ℤ → Type 0 = λ z. nat_abs z ≤ MAX_AMOUNT in
    subst P same small

-- ---- one more

same-change : (b c : Bool) (i j : ℕ) (s t : List Text) (x y : List ℤ) → b ≡ c → i ≡ j → s ≡ t → x ≡ y
    → change_with b (record { id = i; tuple = s; amounts = x })
    ≡ change_with c (record { id = j; tuple = t; amounts = y })
same-change b c i j s t x y e f g h = rw (e, f, g, h) refl

-- the changes after one was put after them
pub all-push : (dims measures : ℕ) (deletes : Bool) (row : Row Text) (changes changes' : ChangeColumns)
    → AreChanges dims measures changes → length row.tuple ≡ dims → length row.amounts ≡ measures
    → Adds deletes row changes changes'
    → all_in dims measures changes' ≡ all_in dims measures changes ++ change_with deletes row ∷ []
all-push dims measures deletes row changes changes' are full whole adds =
    ap (λ (n : ℕ). map (change_at_place dims measures changes') (range_with_len 0 n)) (ap length adds.with_id
    ∙ length_push changes.ids.items row.id)
    ∙ map-range_with_len_more (change_at_place dims measures changes') 0 (length changes.ids.items)
    (length changes.ids.items) (omega arith)
    ∙ ap₂ (λ (xs : List (Change Text)) (x : Change Text). xs ++ x ∷ [])
    (same-below (Delete 0) (change_at_place dims measures changes') (change_at_place dims measures changes)
    (length changes.ids.items) (λ k h. before k h))
    here
  where
    before : (k : ℕ) → k < length changes.ids.items
        → change_at_place dims measures changes' k ≡ change_at_place dims measures changes k
    before k h = same-change _ _ _ _ _ _ _ _
        (ap (λ (xs : List Bool). get_or xs k false) adds.with_kind
        ∙ get_or_append_left changes.deletes.items (deletes ∷ []) false k (omega (arith, are.deletes_fit)))
        (ap (λ (xs : List ℕ). get_or xs k 0) adds.with_id ∙ get_or_append_left changes.ids.items (row.id ∷ []) 0 k h)
        (ap (λ (xs : List Text). slice_range xs (k * dims) (k * dims + dims)) adds.with_texts
        ∙ range-append changes.texts row.tuple (k * dims) (k * dims + dims) (omega arith)
        (omega (arith, are.texts_fit, below-all dims (length changes.ids.items) k dims h (omega arith))))
        (ap (λ (xs : List ℤ). slice_range xs (k * measures) (k * measures + measures)) adds.with_amounts
        ∙ range-append changes.amounts.items row.amounts (k * measures) (k * measures + measures) (omega arith)
        (omega (arith, are.amounts_fit, below-all measures (length changes.ids.items) k measures h (omega arith))))

    here : change_at_place dims measures changes' (length changes.ids.items) ≡ change_with deletes row
    here = same-change _ _ _ _ _ _ _ _
        (ap (λ (xs : List Bool). get_or xs (length changes.ids.items) false) adds.with_kind
        ∙ get_or_push changes.deletes.items deletes false (length changes.ids.items) are.deletes_fit)
        (ap (λ (xs : List ℕ). get_or xs (length changes.ids.items) 0) adds.with_id
        ∙ get_or_push changes.ids.items row.id 0 (length changes.ids.items) refl)
        (ap (λ (xs : List Text). slice_range xs (length changes.ids.items * dims)
        (length changes.ids.items * dims + dims)) adds.with_texts
        ∙ range-after changes.texts row.tuple (length changes.ids.items * dims)
        (length changes.ids.items * dims + dims) are.texts_fit (omega arith))
        (ap (λ (xs : List ℤ). slice_range xs (length changes.ids.items * measures)
        (length changes.ids.items * measures + measures)) adds.with_amounts
        ∙ range-after changes.amounts.items row.amounts (length changes.ids.items * measures)
        (length changes.ids.items * measures + measures) are.amounts_fit (omega arith))

pub are-push : (dims measures : ℕ) (deletes : Bool) (row : Row Text) (changes changes' : ChangeColumns)
    → AreChanges dims measures changes → length row.tuple ≡ dims → length row.amounts ≡ measures
    → Adds deletes row changes changes'
    → IsChange dims measures (change_with deletes row) → length changes.ids.items + 1 < 2 ^ 32
    → AreChanges dims measures changes'
are-push dims measures deletes row changes changes' are full whole adds is room =
    let all = all-push dims measures deletes row changes changes' are full whole adds in
    let few : length changes'.ids.items ≡ length changes.ids.items + 1 = ap length adds.with_id
    ∙ length_push changes.ids.items row.id in
    let P : List (Change Text) → Type 0 = λ cs. All (IsChange dims measures) cs in
    record {
      deletes_fit = ap length adds.with_kind ∙ length_push changes.deletes.items deletes
          ∙ omega (arith, few, are.deletes_fit);
      texts_fit = ap length adds.with_texts ∙ length-append changes.texts row.tuple
          ∙ ap₂ (λ (x y : ℕ). x + y) are.texts_fit full ∙ rw few (omega arith);
      amounts_fit = ap length adds.with_amounts ∙ length-append changes.amounts.items row.amounts
          ∙ ap₂ (λ (x y : ℕ). x + y) are.amounts_fit whole ∙ rw few (omega arith);
      is_batch = record {
        few = omega (arith, length-all dims measures changes', few);
        loaded = subst P (sym all)
            (All-push (IsChange dims measures) (all_in dims measures changes)
            (change_with deletes row) are.is_batch.loaded is);
      };
    }

-- ---- how many are insertions

kinds : (dims measures : ℕ) (changes : ChangeColumns) → AreChanges dims measures changes
    → map (λ (c : Change Text). is_deletion c) (all_in dims measures changes) ≡ changes.deletes.items
kinds dims measures changes are =
    fill_by_all (λ k. get_or changes.deletes.items k false)
    (map (λ (c : Change Text). is_deletion c) (all_in dims measures changes)) (length changes.ids.items) false
    (length-map (all_in dims measures changes) (λ (c : Change Text). is_deletion c) ∙ length-all dims measures changes)
    (λ k h. get_or-map (λ (c : Change Text). is_deletion c) (all_in dims measures changes) k (Delete 0) false
    (omega (arith, length-all dims measures changes)) ∙ kind-at dims measures changes k (Delete 0) h)
    ∙ sym (fill_by_all (λ k. get_or changes.deletes.items k false) changes.deletes.items
    (length changes.ids.items) false are.deletes_fit (λ k h. refl))

count-kinds : (changes : List (Change Text))
    → length (inserted changes) ≡ count_by not (map (λ (c : Change Text). is_deletion c) changes)
count-kinds [] = refl
count-kinds (Delete id ∷ changes)
    = omega (
      arith,
      count-kinds changes,
      sum_by-cons (λ (b : Bool). cond (not b) 1 0) true (map (λ (c : Change Text). is_deletion c) changes),
    )
count-kinds (Insert row ∷ changes)
    = omega (
      arith,
      count-kinds changes,
      sum_by-cons (λ (b : Bool). cond (not b) 1 0) false (map (λ (c : Change Text). is_deletion c) changes),
    )

pub count-inserted : (dims measures : ℕ) (changes : ChangeColumns) → AreChanges dims measures changes
    → length (inserted (all_in dims measures changes)) ≡ count_by not changes.deletes.items
count-inserted dims measures changes are = count-kinds (all_in dims measures changes)
    ∙ ap (λ (xs : List Bool). count_by not xs) (kinds dims measures changes are)
