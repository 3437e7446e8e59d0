-- Lists of texts that grow.
use Rattle.std.proofs.Common.{◌≡◌, ◌<◌, ◌≤◌, ◌+◌, ◌-◌, ◌∙◌, ◌⊎◌, inl, inr, ℕ, zero, suc, List, [], ◌∷◌, ◌++◌, Bool, true, false, Option}
use Rattle.std.proofs.Common.{Some, None, length, get_or, take, drop, map, set, refl, sym, ap, ap₂, arith, subst, is_some, position, nat_lt}
use Rattle.std.proofs.Common.{All}
use Rattle.std.specs.Prelude.{fold}
use Rattle.std.specs.List.{AllByRecursion, position_or_len}
use Rattle.std.specs.Str.{bytes_eq}
use Rattle.std.specs.Cmp.Lexicographic.{bytes_decides}
use Rattle.std.proofs.lemmas.List.{get_or-set_other, get_or-set_same, length-append, length-take, map-append, set-set, take-append-drop}
use Rattle.std.proofs.lemmas.List.{take-append-le, take-take, take_all}
use Rattle.std.proofs.lemmas.List.Elements.{All-cons, All-head, All-nil, All-tail}
use Rattle.std.proofs.lemmas.List.Quantifiers.{position-Some}
use Rattle.std.proofs.lemmas.List.Sums.{fold-append, position_or_len_is}
use Rattle.std.proofs.lemmas.Bool.{lt-ltb, ltb-true, le-ltb}
use Rattle.cube_defs.specs.Cell.{Cell}
use Rattle.cube_defs.specs.Rows.{Row}
use Rattle.cube_defs.specs.Text.{Text}
use Rattle.csv_load.specs.Batch.{Batch, Change, Delete, Insert, IsBatch, IsChange, change_at, inserted, is_deletion, text_at}
use Rattle.value_dict.specs.TextLists.{code_in, learnt_in}
use Rattle.value_dict.proofs.CallerLemmas.{none_passes}
use Rattle.warehouse.proofs.Changes.{any-at, deletion-keeps, inserted-append, inserted-more, take-change, tuple_of}
use Rattle.warehouse.specs.Batch.{full_dim, texts_after, with_row, with_tuple}
use Rattle.warehouse.specs.Steps.{AreLonger, IsLearnt, IsOver, column_after}

-- a list of lists, each longer
longer-cons : (b n : List Text) (before now : List (List Text)) → take (length b) n ≡ b → AreLonger before now
    → AreLonger (b ∷ before) (n ∷ now)
longer-cons b n before now front rest
    = record {
      dims = ap suc rest.dims;
      fronts
          = ap₂ (λ (t : List Text) (ts : List (List Text)). t ∷ ts) front rest.fronts;
    }

pub longer-head : (b n : List Text) (before now : List (List Text)) → AreLonger (b ∷ before) (n ∷ now)
    → take (length b) n ≡ b
longer-head b n before now h = ap (λ (ts : List (List Text)). get_or ts 0 []) h.fronts

pub longer-tail : (b n : List Text) (before now : List (List Text)) → AreLonger (b ∷ before) (n ∷ now)
    → AreLonger before now
longer-tail b n before now h
    = record { dims = omega (arith, h.dims); fronts = ap (λ (ts : List (List Text)). drop 1 ts) h.fronts }

pub longer-same : (lists : List (List Text)) → AreLonger lists lists
longer-same [] = record { dims = refl; fronts = refl }
longer-same (texts ∷ lists)
    = longer-cons texts texts lists lists (take_all (length texts) texts (omega arith)) (longer-same lists)

-- the prefix of a longer list
pub prefix-length : (b n : List Text) → take (length b) n ≡ b → length b ≤ length n
prefix-length b n front = omega (arith, ap (λ (ts : List Text). length ts) front, length-take (length b) n)

pub longer-longer : (a b c : List (List Text)) → AreLonger a b → AreLonger b c → AreLonger a c
longer-longer [] [] [] h l = l
longer-longer [] (y ∷ b) c h l = absurd (omega (arith, h.dims))
longer-longer (x ∷ a) [] c h l = absurd (omega (arith, h.dims))
longer-longer (x ∷ a) (y ∷ b) (z ∷ c) h l =
    let first : take (length x) y ≡ x = longer-head x y a b h in
    let second : take (length y) z ≡ y = longer-head y z b c l in
    let few : length x ≤ length y = prefix-length x y first in
    longer-cons x z a c
    (sym (take-take (length x) (length y) z few) ∙ ap (λ (ts : List Text). take (length x) ts) second ∙ first)
    (longer-longer a b c (longer-tail x y a b h) (longer-tail y z b c l))
longer-longer _ _ _ h l = absurd (omega (arith, l.dims))

longer-learnt_in : (texts : List Text) (text : Text) → take (length texts) (learnt_in texts text) ≡ texts
longer-learnt_in texts text = by (is_some (code_in texts text)) refl
  where
    by : (b : Bool) → is_some (code_in texts text) ≡ b → take (length texts) (learnt_in texts text) ≡ texts
    by true e = rw e (take_all (length texts) texts (omega arith))
    by false e = rw e (take-append-le (length texts) texts (text ∷ []) (omega arith)
        ∙ take_all (length texts) texts (omega arith))

pub longer-set : (lists : List (List Text)) (dim : ℕ) (text : Text)
    → AreLonger lists (set lists dim (learnt_in (get_or lists dim []) text))
longer-set [] dim text = longer-same []
longer-set (texts ∷ lists) zero text
    = longer-cons texts (learnt_in texts text) lists lists (longer-learnt_in texts text) (longer-same lists)
longer-set (texts ∷ lists) (suc dim) text
    = longer-cons texts texts lists (set lists dim (learnt_in (get_or lists dim []) text))
    (take_all (length texts) texts (omega arith)) (longer-set lists dim text)

longer-tuple : (lists : List (List Text)) (tuple : List Text) → AreLonger lists (with_tuple lists tuple)
longer-tuple [] tuple = longer-same []
longer-tuple (texts ∷ lists) [] = longer-same (texts ∷ lists)
longer-tuple (texts ∷ lists) (text ∷ tuple)
    = longer-cons texts (learnt_in texts text) lists (with_tuple lists tuple) (longer-learnt_in texts text)
    (longer-tuple lists tuple)

pub longer-rows : (lists : List (List Text)) (rows : List (Row Text)) → AreLonger lists (fold with_row lists rows)
longer-rows lists [] = longer-same lists
longer-rows lists (row ∷ rows)
    = longer-longer lists (with_tuple lists row.tuple) (fold with_row (with_tuple lists row.tuple) rows)
    (longer-tuple lists row.tuple) (longer-rows (with_tuple lists row.tuple) rows)

longer-at : (before now : List (List Text)) (k : ℕ) → AreLonger before now
    → length (get_or before k []) ≤ length (get_or now k [])
longer-at [] now k h = omega arith
longer-at (b ∷ before) [] k h = absurd (omega (arith, h.dims))
longer-at (b ∷ before) (n ∷ now) zero h = prefix-length b n (longer-head b n before now h)
longer-at (b ∷ before) (n ∷ now) (suc k) h = longer-at before now k (longer-tail b n before now h)

-- a dimension with too many texts
pub record HasFull (max : ℕ) (lists : List (List Text)) : Type 0 where
  pub dim : ℕ
  pub there : dim < length lists
  pub over : max < length (get_or lists dim [])

found-some : {X : Type 0} (p : X → Bool) (xs : List X) (k : ℕ) → position_or_len p xs ≡ k → k < length xs
    → position p xs ≡ Some k
found-some p xs k place lt = grind (arith, place, lt)

found-none : {X : Type 0} (p : X → Bool) (xs : List X) → position_or_len p xs ≡ length xs → position p xs ≡ None
found-none p xs place = grind (arith, place)

full-found : (max : ℕ) (lists : List (List Text)) → IsOver max lists → HasFull max lists
full-found max lists over = by (full_dim max lists) refl over
  where
    by : (o : Option ℕ) → full_dim max lists ≡ o → is_some o ≡ true → HasFull max lists
    by None e h = cc
    by (Some k) e h =
        let p = position-Some (λ (texts : List Text). nat_lt max (length texts)) lists k [] e in
        record { dim = k; there = p.0; over = ltb-true max (length (get_or lists k [])) p.1 }

pub full-none : (max : ℕ) (lists : List (List Text)) → All (λ texts. length texts ≤ max) lists
    → full_dim max lists ≡ None
full-none max lists within =
    let test : List Text → Bool = λ texts. nat_lt max (length texts) in
    found-none test lists (position_or_len_is test lists (length lists) [] (omega arith)
    (λ k lt. le-ltb max (length (get_or lists k [])) (within k [] lt)) (λ lt. absurd (omega arith)))

-- the first dimension with too many texts
pub full-first : (max : ℕ) (lists : List (List Text)) (dim : ℕ) → dim < length lists
    → ((k : ℕ) → k < dim → length (get_or lists k []) ≤ max) → max < length (get_or lists dim [])
    → full_dim max lists ≡ Some dim
full-first max lists dim lt before over =
    let test : List Text → Bool = λ texts. nat_lt max (length texts) in
    found-some test lists dim
    (position_or_len_is test lists dim [] (omega arith)
    (λ k below. le-ltb max (length (get_or lists k [])) (before k below))
    (λ _. lt-ltb max (length (get_or lists dim [])) over)) lt

some-over : (max : ℕ) (lists : List (List Text)) → HasFull max lists → IsOver max lists
some-over max lists h = by (full_dim max lists) refl
  where
    by : (o : Option ℕ) → full_dim max lists ≡ o → IsOver max lists
    by None e =
        let test : List Text → Bool = λ texts. nat_lt max (length texts) in
        let fails : nat_lt max (length (get_or lists h.dim [])) ≡ false
        = any-at test lists h.dim [] (none_passes test lists e) h.there in
        let passes : nat_lt max (length (get_or lists h.dim [])) ≡ true
        = lt-ltb max (length (get_or lists h.dim [])) h.over in
        cc
    by (Some k) e = rw e refl

-- a list that is longer has too many texts too
pub over-longer : (max : ℕ) (before now : List (List Text)) → AreLonger before now → IsOver max before → IsOver max now
over-longer max before now longer over =
    let h : HasFull max before = full-found max before over in
    some-over max now (record {
      dim = h.dim;
      there = omega (arith, h.there, longer.dims);
      over
          = omega (arith, h.over, longer-at before now h.dim longer);
    })

-- what a text's code stands for
text-of-code : (texts : List Text) (text : Text) (code : ℕ) → code_in texts text ≡ Some code
    → get_or texts code [] ≡ text
text-of-code texts text code e
    = sym ((bytes_decides text (get_or texts code [])).0 (position-Some (bytes_eq text) texts code [] e).1)

code-within : (texts : List Text) (text : Text) (code : ℕ) → code_in texts text ≡ Some code → code < length texts
code-within texts text code e = (position-Some (bytes_eq text) texts code [] e).0

-- a text is learnt, and the entry has its code
pub record IsTextLearnt (before now : List Text) (text : Text) (entry : Option ℕ) : Type 0 where
  pub list : now ≡ learnt_in before text
  pub code : code_in now text ≡ entry
  pub whole : is_some entry ≡ true

pub learnt-all : (before now : List (List Text)) (tuple : List Text) (cell : Cell ℕ) → length now ≡ length before
    → length tuple ≡ length before → length cell ≡ length before
    → ((k : ℕ) → k < length before
    → IsTextLearnt (get_or before k []) (get_or now k []) (get_or tuple k []) (get_or cell k None))
    → IsLearnt before now tuple cell
learnt-all [] [] [] [] same many whole each
    = record { lists = refl; texts = refl; codes = tt; whole = All-nil (λ (e : Option ℕ). is_some e ≡ true) }
learnt-all (b ∷ before) (n ∷ now) (t ∷ tuple) (None ∷ cell) same many whole each = let h
    = (each 0 (omega arith)).whole in cc
learnt-all (b ∷ before) (n ∷ now) (t ∷ tuple) (Some code ∷ cell) same many whole each =
    let first : IsTextLearnt b n t (Some code) = each 0 (omega arith) in
    let rest : IsLearnt before now tuple cell
    = learnt-all before now tuple cell (omega arith) (omega arith) (omega arith)
    (λ k lt. each (suc k) (omega arith)) in
    record {
      lists = ap₂ (λ (ts : List Text) (tss : List (List Text)). ts ∷ tss) first.list rest.lists;
      texts = ap₂ (λ (x : Text) (xs : List Text). x ∷ xs) (text-of-code n t code first.code) rest.texts;
      codes = (code-within n t code first.code, rest.codes);
      whole = All-cons (λ (e : Option ℕ). is_some e ≡ true) (Some code) cell refl rest.whole;
    }
learnt-all _ _ tuple cell same many whole each = absurd (omega arith)

same-learnt : (before now now' : List Text) (text : Text) (entry entry' : Option ℕ) → now' ≡ now → entry' ≡ entry
    → IsTextLearnt before now text entry → IsTextLearnt before now' text entry'
same-learnt before now now' text entry entry' p q h = record {
  list = p ∙ h.list;
  code = ap (λ (texts : List Text). code_in texts text) p ∙ h.code ∙ sym q;
  whole = ap (λ (e : Option ℕ). is_some e) q ∙ h.whole;
}

-- one text more of a tuple is learnt
pub learnt-more : (first before now : List (List Text)) (cell cell' : Cell ℕ) (text : ℕ → Text) (dim code : ℕ)
    → dim < length before → dim < length cell
    → get_or before dim [] ≡ get_or first dim [] → now ≡ set before dim (learnt_in (get_or before dim []) (text dim))
    → code_in (get_or now dim []) (text dim) ≡ Some code → cell' ≡ set cell dim (Some code)
    → ((k : ℕ) → k < dim → IsTextLearnt (get_or first k []) (get_or before k []) (text k) (get_or cell k None))
    → (k : ℕ) → k < dim + 1 → IsTextLearnt (get_or first k []) (get_or now k []) (text k) (get_or cell' k None)
learnt-more first before now cell cell' text dim code lt in_cell left is coded put done k below = elim (split k below) [
  | inl earlier ↦
      same-learnt (get_or first k []) (get_or before k []) (get_or now k []) (text k) (get_or cell k None)
      (get_or cell' k None)
      (ap (λ (ls : List (List Text)). get_or ls k []) is
      ∙ get_or-set_other before dim k (learnt_in (get_or before dim []) (text dim)) [] (omega arith))
      (ap (λ (c : Cell ℕ). get_or c k None) put ∙ get_or-set_other cell dim k (Some code) None (omega arith))
      (done k earlier)
  | inr here ↦ let P : ℕ → Type 0
      = λ n. IsTextLearnt (get_or first n []) (get_or now n []) (text n) (get_or cell' n None) in
      subst P (sym here) last
]
  where
    split : (k : ℕ) → k < dim + 1 → (k < dim) ⊎ (k ≡ dim)
    split k below = grind arith

    entry : get_or cell' dim None ≡ Some code
    entry = ap (λ (c : Cell ℕ). get_or c dim None) put ∙ get_or-set_same cell dim (Some code) None in_cell

    last : IsTextLearnt (get_or first dim []) (get_or now dim []) (text dim) (get_or cell' dim None)
    last = record {
      list = ap (λ (ls : List (List Text)). get_or ls dim []) is
          ∙ get_or-set_same before dim (learnt_in (get_or before dim []) (text dim)) [] lt
          ∙ ap (λ (texts : List Text). learnt_in texts (text dim)) left;
      code = coded ∙ sym entry;
      whole = ap (λ (e : Option ℕ). is_some e) entry;
    }

tuple-at : (lists : List (List Text)) (tuple : List Text) (k : ℕ) → k < length lists → k < length tuple
    → get_or (with_tuple lists tuple) k [] ≡ learnt_in (get_or lists k []) (get_or tuple k [])
tuple-at (texts ∷ lists) (text ∷ tuple) zero lt in_tuple = refl
tuple-at (texts ∷ lists) (text ∷ tuple) (suc k) lt in_tuple = tuple-at lists tuple k (omega arith) (omega arith)
tuple-at _ tuple k lt in_tuple = absurd (omega arith)

one-more : (texts : List Text) (text : Text) → code_in texts text ≡ None
    → length (learnt_in texts text) ≡ length texts + 1
one-more texts text none = rw none (length-append texts (text ∷ []))

-- a new text, where there are as many as there may be, is one too many
pub over-tuple : (lists : List (List Text)) (tuple : List Text) (dim max : ℕ) → dim < length lists → dim < length tuple
    → code_in (get_or lists dim []) (get_or tuple dim []) ≡ None → length (get_or lists dim []) ≡ max
    → IsOver max (with_tuple lists tuple)
over-tuple lists tuple dim max lt in_tuple none full =
    some-over max (with_tuple lists tuple) (record {
      dim = dim;
      there = omega (arith, lt, (longer-tuple lists tuple).dims);
      over = omega (
        arith,
        full,
        ap (λ (texts : List Text). length texts) (tuple-at lists tuple dim lt in_tuple),
        one-more (get_or lists dim []) (get_or tuple dim []) none,
      );
    })

-- the texts of one dimension
abbrev column : ℕ → List (Change Text) → List Text
column dim changes = map (λ row. get_or row.tuple dim []) (inserted changes)

column-insertion : (dim : ℕ) (c : Change Text) → is_deletion c ≡ false
    → column dim (c ∷ []) ≡ get_or (tuple_of c) dim [] ∷ []
column-insertion dim (Delete id) is = cc
column-insertion dim (Insert row) is = refl

column-append : (texts : List Text) (dim : ℕ) (xs ys : List (Change Text))
    → column_after texts dim (xs ++ ys) ≡ fold learnt_in (column_after texts dim xs) (column dim ys)
column-append texts dim xs ys =
    ap (λ (rows : List (Row Text)). fold learnt_in texts (map (λ row. get_or row.tuple dim []) rows))
    (inserted-append xs ys)
    ∙ ap (fold learnt_in texts) (map-append (λ (row : Row Text). get_or row.tuple dim []) (inserted xs) (inserted ys))
    ∙ fold-append learnt_in texts (column dim xs) (column dim ys)

pub column-more : (texts : List Text) (dim : ℕ) (changes : List (Change Text)) (k : ℕ) → k < length changes
    → is_deletion (change_at changes (k + 1)) ≡ false
    → column_after texts dim (take (k + 1) changes) ≡ learnt_in (column_after texts dim (take k changes))
    (text_at changes (k + 1) dim)
column-more texts dim changes k lt is =
    ap (column_after texts dim) (take-change changes k lt)
    ∙ column-append texts dim (take k changes) (change_at changes (k + 1) ∷ [])
    ∙ ap (fold learnt_in (column_after texts dim (take k changes)))
    (column-insertion dim (change_at changes (k + 1)) is)

pub column-same : (texts : List Text) (dim : ℕ) (changes : List (Change Text)) (k : ℕ) → k < length changes
    → is_deletion (change_at changes (k + 1)) ≡ true
    → column_after texts dim (take (k + 1) changes) ≡ column_after texts dim (take k changes)
column-same texts dim changes k lt is
    = ap (λ (rows : List (Row Text)). fold learnt_in texts (map (λ row. get_or row.tuple dim []) rows))
    (deletion-keeps changes k lt is)

length-learnt : (more texts : List Text) → length texts ≤ length (fold learnt_in texts more)
length-learnt [] texts = omega arith
length-learnt (t ∷ more) texts
    = omega (
      arith,
      prefix-length texts (learnt_in texts t) (longer-learnt_in texts t),
      length-learnt more (learnt_in texts t),
    )

pub column-over : (texts : List Text) (dim : ℕ) (changes : List (Change Text)) (k max : ℕ) → k < length changes
    → is_deletion (change_at changes (k + 1)) ≡ false
    → code_in (column_after texts dim (take k changes)) (text_at changes (k + 1) dim) ≡ None
    → length (column_after texts dim (take k changes)) ≡ max → max < length (column_after texts dim changes)
column-over texts dim changes k max lt is none full =
    let whole : column_after texts dim changes ≡ fold learnt_in (column_after texts dim (take (k + 1) changes))
    (column dim (drop (k + 1) changes)) =
    ap (column_after texts dim) (sym (take-append-drop (k + 1) changes))
    ∙ column-append texts dim (take (k + 1) changes) (drop (k + 1) changes) in
    omega (
      arith,
      full,
      ap (λ (ts : List Text). length ts) whole,
      length-learnt (column dim (drop (k + 1) changes)) (column_after texts dim (take (k + 1) changes)),
      ap (λ (ts : List Text). length ts) (column-more texts dim changes k lt is),
      one-more (column_after texts dim (take k changes)) (text_at changes (k + 1) dim) none,
    )

pub column-set : (lists : List (List Text)) (texts : List Text) (dim : ℕ) (text : Text) → dim < length lists
    → set (set lists dim texts) dim (learnt_in (get_or (set lists dim texts) dim []) text)
    ≡ set lists dim (learnt_in texts text)
column-set lists texts dim text lt
    = rw (get_or-set_same lists dim texts [] lt) (set-set lists dim texts (learnt_in texts text))

-- rows with so many texts each
abbrev AreWide : ℕ → List (Row Text) → Type 0
AreWide dims rows = AllByRecursion (λ row. length row.tuple ≡ dims) rows

wide-inserted : (dims measures : ℕ) (changes : List (Change Text)) → All (IsChange dims measures) changes
    → AreWide dims (inserted changes)
wide-inserted dims measures [] all = tt
wide-inserted dims measures (Delete id ∷ changes) all
    = wide-inserted dims measures changes (All-tail (IsChange dims measures) (Delete id) changes all)
wide-inserted dims measures (Insert row ∷ changes) all = (
  (All-head (IsChange dims measures) (Insert row) changes all).tuple,
  wide-inserted dims measures changes (All-tail (IsChange dims measures) (Insert row) changes all),
)

rows-at : (rows : List (Row Text)) (lists : List (List Text)) (dims k : ℕ) → length lists ≡ dims → k < dims
    → AreWide dims rows
    → get_or (fold with_row lists rows) k [] ≡ fold learnt_in (get_or lists k [])
    (map (λ row. get_or row.tuple k []) rows)
rows-at [] lists dims k same lt wide = refl
rows-at (row ∷ rows) lists dims k same lt wide =
    rows-at rows (with_tuple lists row.tuple) dims k ((longer-tuple lists row.tuple).dims ∙ same) lt wide.1
    ∙ ap (λ (texts : List Text). fold learnt_in texts (map (λ r. get_or r.tuple k []) rows))
    (tuple-at lists row.tuple k (omega (arith, same, lt)) (omega (arith, wide.0, lt)))

-- a dimension's texts after all changes
pub texts-at : (batch : Batch) (lists : List (List Text)) (k : ℕ) → IsBatch batch → length lists ≡ batch.dims
    → k < batch.dims → get_or (texts_after lists batch.changes) k [] ≡ column_after (get_or lists k []) k batch.changes
texts-at batch lists k is same lt
    = rows-at (inserted batch.changes) lists batch.dims k same lt
    (wide-inserted batch.dims batch.measures batch.changes is.loaded)

pub length-after : (lists : List (List Text)) (changes : List (Change Text))
    → length (texts_after lists changes) ≡ length lists
length-after lists changes = (longer-rows lists (inserted changes)).dims

-- what is known of an insertion
pub loaded-at : (batch : Batch) (k : ℕ) → IsBatch batch → 1 ≤ k → k ≤ length batch.changes
    → IsChange batch.dims batch.measures (change_at batch.changes k)
loaded-at batch k is low high = is.loaded (k - 1) (Delete 0) (omega arith)

pub insertion-wide : (dims measures : ℕ) (c : Change Text) → is_deletion c ≡ false → IsChange dims measures c
    → length (tuple_of c) ≡ dims
insertion-wide dims measures (Delete id) is loaded = cc
insertion-wide dims measures (Insert row) is loaded = loaded.tuple

-- the lists after the next change
one-after : (lists : List (List Text)) (c : Change Text) → is_deletion c ≡ false
    → fold with_row lists (inserted (c ∷ [])) ≡ with_tuple lists (tuple_of c)
one-after lists (Delete id) is = cc
one-after lists (Insert row) is = refl

pub after-more : (lists : List (List Text)) (changes : List (Change Text)) (k : ℕ) → k < length changes
    → is_deletion (change_at changes (k + 1)) ≡ false
    → texts_after lists (take (k + 1) changes) ≡ with_tuple (texts_after lists (take k changes))
    (tuple_of (change_at changes (k + 1)))
after-more lists changes k lt is =
    ap (fold with_row lists) (inserted-more changes k lt)
    ∙ fold-append with_row lists (inserted (take k changes)) (inserted (change_at changes (k + 1) ∷ []))
    ∙ one-after (texts_after lists (take k changes)) (change_at changes (k + 1)) is

pub after-same : (lists : List (List Text)) (changes : List (Change Text)) (k : ℕ) → k < length changes
    → is_deletion (change_at changes (k + 1)) ≡ true
    → texts_after lists (take (k + 1) changes) ≡ texts_after lists (take k changes)
after-same lists changes k lt is = ap (fold with_row lists) (deletion-keeps changes k lt is)

pub longer-after : (lists : List (List Text)) (changes : List (Change Text)) (k : ℕ)
    → AreLonger (texts_after lists (take k changes)) (texts_after lists changes)
longer-after lists changes k =
    let whole : texts_after lists changes ≡ fold with_row (texts_after lists (take k changes))
    (inserted (drop k changes)) =
    ap (λ (cs : List (Change Text)). texts_after lists cs) (sym (take-append-drop k changes))
    ∙ ap (fold with_row lists) (inserted-append (take k changes) (drop k changes))
    ∙ fold-append with_row lists (inserted (take k changes)) (inserted (drop k changes)) in
    rw whole (longer-rows (texts_after lists (take k changes)) (inserted (drop k changes)))
