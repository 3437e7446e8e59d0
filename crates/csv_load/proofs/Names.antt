-- The places of names in a header.
use Rattle.std.proofs.Common.{◌≡◌, ◌<◌, ◌≤◌, ◌+◌, ◌-◌, ◌∙◌, ℕ, zero, suc, List, [], ◌∷◌, ◌++◌, length, get_or, drop, map, refl, sym, ap}
use Rattle.std.proofs.Common.{arith, Some, None, true, false, Bool, cond, append_assoc, subst, ◌≢◌, true≢false, ◌&&◌}
use Rattle.std.specs.Prelude.{Option, option_map, unwrap_or, codes, nat_le, not, slice_index}
use Rattle.std.specs.Char.{is_ascii_alphabetic}
use Rattle.std.specs.List.{All, AllByRecursion, list_all, list_any}
use Rattle.std.specs.Str.{bytes_eq}
use Rattle.std.proofs.lemmas.Bool.{and_parts, not-true, or_parts}
use Rattle.std.proofs.lemmas.Slice.Eq.{bytes_eq-Decides}
use Rattle.std.proofs.lemmas.List.{drop_more, length-map, get_or-map, get_or_append_left, get_or_push, length-append, append-nil}
use Rattle.std.proofs.lemmas.List.Elements.{All-cons}
use Rattle.cube_defs.specs.Text.{Text}
use Rattle.qc_schema.specs.Schema.{IsLayout, Layout, Measure, all_different, is_name, is_name_byte, names_of, no_measure}
use Rattle.qc_schema.proofs.CallerLemmas.{bytes-flip, push-different}
use Rattle.csv.specs.Records.{fields_of}
use Rattle.csv_load.proofs.Sizes.{Apart}
use Rattle.csv_load.specs.Columns.{cons_some, fields_at, needed_names, place_from, places_in}
use Rattle.csv_load.specs.FileRows.{needed_of}
use Rattle.csv_load.specs.declared.row.FileRow.{FileRow}

-- ---- one name

-- where the name stands, when it was found or not before the i-th field
abbrev pub place_left : Option ℕ → ℕ → Text → List (List ℕ) → Option ℕ
place_left None i name fields = place_from i name fields
place_left (Some place) i name fields = cond (list_any (λ other. bytes_eq other name) fields) None (Some place)

place-within : (fields : List (List ℕ)) (k : ℕ) (name : Text) (place : ℕ) → place_from k name fields ≡ Some place
    → place < k + length fields
place-within [] k name place e = absurd (cc e)
place-within (f ∷ fs) k name place e = by (bytes_eq f name) e (place-within fs (k + 1) name place)
  where
    alone : (b : Bool) → cond b None (Some k) ≡ Some place → place < k + suc (length fs)
    alone true m = absurd (cc m)
    alone false m = let same : k ≡ place = cc in omega (arith, same)

    by : (b : Bool) → cond b (cond (list_any (λ other. bytes_eq other name) fs) None (Some k))
        (place_from (k + 1) name fs) ≡ Some place
        → (place_from (k + 1) name fs ≡ Some place → place < k + 1 + length fs) → place < k + suc (length fs)
    by true m more = alone (list_any (λ other. bytes_eq other name) fs) m
    by false m more = omega (arith, more m)

-- ---- all names

pub places-split : (o : Option ℕ) (p : Option (List ℕ)) (places : List ℕ) → cons_some o p ≡ Some places → (place : ℕ)
    × (more : List ℕ) × (o ≡ Some place) × (p ≡ Some more) × (place ∷ more ≡ places)
places-split None p places e = absurd (cc e)
places-split (Some place) None places e = absurd (cc e)
places-split (Some place) (Some more) places e
    = (place, more, refl, refl, ap (λ (q : Option (List ℕ)). unwrap_or q places) e)

pub places-all : (header names : List (List ℕ)) (places : List ℕ) → places_in header names ≡ Some places
    → length places ≡ length names
places-all header [] places e = let same : [] ≡ places = ap (λ (q : Option (List ℕ)). unwrap_or q places) e in
    omega (arith, ap length same)
places-all header (n ∷ ns) places e =
    let s = places-split (place_from 0 n header) (places_in header ns) places e in
    omega (arith, ap length s.4, places-all header ns s.1 s.3)

pub places-within : (header names : List (List ℕ)) (places : List ℕ) → places_in header names ≡ Some places
    → All (λ place. place < length header) places
places-within header [] places e = let same : [] ≡ places = ap (λ (q : Option (List ℕ)). unwrap_or q places) e in
    rw (← same) (λ k d lt. absurd (omega arith))
places-within header (n ∷ ns) places e =
    let s = places-split (place_from 0 n header) (places_in header ns) places e in
    rw (← s.4) (All-cons (λ place. place < length header) s.0 s.1 (omega (arith, place-within header 0 n s.0 s.2))
    (places-within header ns s.1 s.3))

-- a place that is found has the name
place-named : (fields : List (List ℕ)) (k : ℕ) (name : Text) (place : ℕ) → place_from k name fields ≡ Some place
    → (i : ℕ) × (place ≡ k + i) × (get_or fields i [] ≡ name)
place-named [] k name place e = absurd (cc e)
place-named (f ∷ fs) k name place e = by (bytes_eq f name) refl e (place-named fs (k + 1) name place)
  where
    alone : (b : Bool) → cond b None (Some k) ≡ Some place → place ≡ k + 0
    alone true m = absurd (cc m)
    alone false m = let same : k ≡ place = cc in omega (arith, same)

    by : (b : Bool) → bytes_eq f name ≡ b
        → cond b (cond (list_any (λ other. bytes_eq other name) fs) None (Some k))
        (place_from (k + 1) name fs) ≡ Some place
        → (place_from (k + 1) name fs ≡ Some place → (i : ℕ) × (place ≡ k + 1 + i) × (get_or fs i [] ≡ name)) → (i : ℕ)
        × (place ≡ k + i) × (get_or (f ∷ fs) i [] ≡ name)
    by true is m more = (0, alone (list_any (λ other. bytes_eq other name) fs) m, (bytes_eq-Decides f name).0 is)
    by false is m more = let p = more m in (suc p.0, omega (arith, p.1), p.2)

other-places : (header names : List (List ℕ)) (places : List ℕ) (p : ℕ) (name : Text)
    → places_in header names ≡ Some places → get_or header p [] ≡ name → list_any (λ y. bytes_eq y name) names ≡ false
    → AllByRecursion (λ q. q ≢ p) places
other-places header [] places p name e at none = let same : [] ≡ places
    = ap (λ (q : Option (List ℕ)). unwrap_or q places) e in subst (AllByRecursion (λ q. q ≢ p)) same tt
other-places header (n ∷ ns) places p name e at none =
    let s = places-split (place_from 0 n header) (places_in header ns) places e in
    let found = place-named header 0 n s.0 s.2 in
    let parts = or_parts (bytes_eq n name) (list_any (λ y. bytes_eq y name) ns) none in
    let apart : s.0 ≢ p = λ same.
    let index : found.0 ≡ p = omega (arith, found.1, same) in
    let named : n ≡ name = sym found.2 ∙ ap (λ (k : ℕ). get_or header k []) index ∙ at in
    true≢false (sym ((bytes_eq-Decides n name).1 named) ∙ parts.0) in
    subst (AllByRecursion (λ q. q ≢ p)) s.4 (apart, other-places header ns s.1 p name s.3 at parts.1)

pub places-apart : (header names : List (List ℕ)) (places : List ℕ) → places_in header names ≡ Some places
    → all_different bytes_eq names ≡ true → Apart places
places-apart header [] places e d = let same : [] ≡ places = ap (λ (q : Option (List ℕ)). unwrap_or q places) e in
    subst Apart same tt
places-apart header (n ∷ ns) places e d =
    let s = places-split (place_from 0 n header) (places_in header ns) places e in
    let found = place-named header 0 n s.0 s.2 in
    let parts = and_parts (not (list_any (λ y. bytes_eq y n) ns)) (all_different bytes_eq ns) d in
    let at : get_or header s.0 [] ≡ n = ap (λ (k : ℕ). get_or header k []) (omega (arith, found.1)) ∙ found.2 in
    subst Apart s.4 (
      other-places header ns s.1 s.0 n s.3 at (not-true (list_any (λ y. bytes_eq y n) ns) parts.0),
      places-apart header ns s.1 s.3 parts.1,
    )

-- with the places before, those of the names that are left are all
abbrev pub places_with : List ℕ → Option (List ℕ) → Option (List ℕ)
places_with before more = option_map (λ places. before ++ places) more

pub places-step : (header names : List (List ℕ)) (before : List ℕ) (i place : ℕ) → i < length names
    → place_from 0 (get_or names i []) header ≡ Some place
    → places_with before (places_in header (drop i names)) ≡ places_with (before ++ place ∷ [])
    (places_in header (drop (i + 1) names))
places-step header names before i place h e
    = ap (λ (ns : List Text). places_with before (places_in header ns)) (drop_more names i [] h)
    ∙ rw e (by (places_in header (drop (i + 1) names)))
  where
    by : (more : Option (List ℕ))
        → places_with before (cons_some (Some place) more) ≡ places_with (before ++ place ∷ []) more
    by None = refl
    by (Some places) = ap Some (sym (append_assoc before (place ∷ []) places))

pub places-start : (header names : List (List ℕ)) (before : List ℕ) → before ≡ []
    → places_with before (places_in header (drop 0 names)) ≡ places_in header names
places-start header names before e = rw e (whole (places_in header names))
  where
    whole : (o : Option (List ℕ)) → places_with [] o ≡ o
    whole None = refl
    whole (Some places) = refl

pub places-none : (header names : List (List ℕ)) (before : List ℕ) (i : ℕ) → i < length names
    → place_from 0 (get_or names i []) header ≡ None
    → places_with before (places_in header (drop i names)) ≡ None
places-none header names before i h e
    = ap (λ (ns : List Text). places_with before (places_in header ns)) (drop_more names i [] h) ∙ rw e refl

pub places-end : (header : List (List ℕ)) (before : List ℕ) → places_with before (places_in header []) ≡ Some before
places-end header before = ap Some (append-nil before)

-- ---- the names of a schema

pub names-all : (layout : Layout) → length (names_of layout) ≡ 1 + length layout.dims + length layout.measures
names-all layout = omega (
  arith,
  length-append layout.dims (map (λ (m : Measure). m.name) layout.measures),
  length-map layout.measures (λ (m : Measure). m.name),
)

pub needed-all : (has_op : Bool) (layout : Layout)
    → length (needed_names has_op layout) ≡ 1 + length layout.dims + length layout.measures + cond has_op 1 0
needed-all false layout = omega (arith, names-all layout)
needed-all true layout = omega (arith, names-all layout, length-append (names_of layout) (codes "op" ∷ []))

pub needed-most : (has_op : Bool) (layout : Layout) → length (needed_names has_op layout) ≤ length (names_of layout) + 1
needed-most false layout = omega arith
needed-most true layout = omega (arith, length-append (names_of layout) (codes "op" ∷ []))

pub needed-some : (has_op : Bool) (layout : Layout)
    → 1 + length layout.dims + length layout.measures ≤ length (needed_names has_op layout)
needed-some has_op layout = omega (arith, needed-all has_op layout)

-- no needed name stands twice
name-not-op : (name : Text) → is_name name ≡ true → bytes_eq name (codes "op") ≡ false
name-not-op name h = not-true (bytes_eq name (codes "op"))
    (and_parts (is_ascii_alphabetic (slice_index name 0) && list_all is_name_byte name && nat_le (length name) 32)
    (not (bytes_eq name (codes "op"))) h).1

none-is-op : (names : List Text) → list_all is_name names ≡ true → list_any (λ x. bytes_eq x (codes "op")) names ≡ false
none-is-op [] h = refl
none-is-op (x ∷ xs) h = let p = and_parts (is_name x) (list_all is_name xs) h in
    rw (name-not-op x p.0, none-is-op xs p.1) refl

pub needed-different : (has_op : Bool) (layout : Layout) → IsLayout layout
    → all_different bytes_eq (needed_names has_op layout) ≡ true
needed-different false layout h = h.different_names
needed-different true layout h
    = push-different bytes_eq bytes-flip (names_of layout) (codes "op") h.different_names
    (none-is-op (names_of layout) h.names)

-- the needed names are the first of those with the op
pub needed-name : (has_op : Bool) (layout : Layout) (column : ℕ) → column < length (needed_names has_op layout)
    → get_or (needed_names has_op layout) column [] ≡ get_or (names_of layout ++ codes "op" ∷ []) column []
needed-name false layout column h = sym (get_or_append_left (names_of layout) (codes "op" ∷ []) [] column h)
needed-name true layout column h = refl

pub length-at : (places : List ℕ) (fields : List (List ℕ)) → length (fields_at places fields) ≡ length places
length-at places fields = length-map places (λ place. get_or fields place [])

-- a record that is as wide as the header has a field for each needed name
pub row-within : (row : FileRow)
    → 1 + length row.schema.now.dims + length row.schema.now.measures ≤ length (needed_of row)
row-within row = omega (
  arith,
  row.are.all,
  needed-some row.columns.now.has_op row.schema.now,
  length-at row.columns.now.places.items (fields_of row.fields.now),
)

-- ---- the name of a column, by its place

behind : {X : Type 0} (xs ys : List X) (d : X) (k : ℕ) → length xs ≤ k
    → get_or (xs ++ ys) k d ≡ get_or ys (k - length xs) d
behind [] ys d k le = let place : k - 0 ≡ k = omega arith in rw place refl
behind (x ∷ xs) ys d zero le = absurd (omega arith)
behind (x ∷ xs) ys d (suc k) le = let place : suc k - suc (length xs) ≡ k - length xs = omega arith in
    rw place (behind xs ys d k (omega arith))

pub name-of-dim : (layout : Layout) (column : ℕ) → 0 < column → column ≤ length layout.dims
    → get_or layout.dims (column - 1) [] ≡ get_or (names_of layout ++ codes "op" ∷ []) column []
name-of-dim layout zero some few = absurd (omega arith)
name-of-dim layout (suc k) some few =
    let names : List Text = map (λ (m : Measure). m.name) layout.measures in
    let place : suc k - 1 ≡ k = omega arith in
    rw place (sym (get_or_append_left (layout.dims ++ names) (codes "op" ∷ []) [] k
    (omega (arith, length-append layout.dims names)) ∙ get_or_append_left layout.dims names [] k (omega arith)))

pub name-of-measure : (layout : Layout) (column : ℕ) → length layout.dims < column
    → column ≤ length layout.dims + length layout.measures
    → (get_or layout.measures (column - 1 - length layout.dims) no_measure).name
    ≡ get_or (names_of layout ++ codes "op" ∷ []) column []
name-of-measure layout zero some few = absurd (omega arith)
name-of-measure layout (suc k) some few =
    let names : List Text = map (λ (m : Measure). m.name) layout.measures in
    let count : length names ≡ length layout.measures = length-map layout.measures (λ (m : Measure). m.name) in
    let place : suc k - 1 - length layout.dims ≡ k - length layout.dims = omega arith in
    rw place (sym (get_or_append_left (layout.dims ++ names) (codes "op" ∷ []) [] k
    (omega (arith, length-append layout.dims names, count)) ∙ behind layout.dims names [] k (omega arith)
    ∙ get_or-map (λ (m : Measure). m.name) layout.measures (k - length layout.dims) no_measure [] (omega arith)))

pub name-of-op : (layout : Layout) (column : ℕ) → column ≡ 1 + length layout.dims + length layout.measures
    → codes "op" ≡ get_or (names_of layout ++ codes "op" ∷ []) column []
name-of-op layout column at
    = sym (get_or_push (names_of layout) (codes "op") [] column (omega (arith, names-all layout, at)))
