-- The text of a schema is short.
use Rattle.std.proofs.Common.{◌≡◌, ◌<◌, ◌≤◌, ◌+◌, ◌*◌, ◌^◌, ◌∙◌, ℕ, zero, suc, List, [], ◌∷◌, ◌++◌, length, map, refl, sym}
use Rattle.std.proofs.Common.{arith, true, false, Bool, length-append}
use Rattle.std.specs.Prelude.{not, ◌||◌, eqb, codes, decimal}
use Rattle.std.specs.List.{list_all, list_any, flat_map, AllByRecursion, IsDistinct}
use Rattle.std.proofs.lemmas.Bool.{and_parts, not-true}
use Rattle.std.proofs.lemmas.Bool.Decides.{nat_tests}
use Rattle.std.proofs.lemmas.Fmt.{length-decimal-le_succ}
use Rattle.std.proofs.lemmas.List.{length-map}
use Rattle.std.proofs.lemmas.List.Folds.{list_all-append}
use Rattle.std.proofs.lemmas.Map.Steps.{length-le_from_distinct_below}
use Rattle.aggregates.specs.Views.{IsThere, same_kind}
use Rattle.aggregates.specs.declared.kind.AggKind.{AggKind}
use Rattle.aggregates.specs.declared.kind.AggKind.TheVariants as kinds
use Rattle.cube_defs.specs.Text.{Text}
use Rattle.cube_defs.specs.declared.limits.TheConstants.{MAX_SCALE}
use Rattle.qc_schema.specs.Schema.{IsLayout, Layout, Measure, all_different, is_name, version_word}
use Rattle.qc_schema.specs.Spelling.{dim_words, index_words, layout_text, layout_words, limit_words, line_text, measure_words, name_at}
use Rattle.qc_schema.specs.declared.limits.SchemaVersion.{SchemaVersion}
use Rattle.qc_schema.specs.declared.limits.SchemaVersion.TheVariants as versions
use Rattle.qc_schema.proofs.Keeping.{dims-few, measures-few}

-- the kinds of aggregates by numbers
abbrev kind_number : AggKind → ℕ
kind_number kinds.Count = 0
kind_number (kinds.Sum m) = 4 * m + 1
kind_number (kinds.Least m) = 4 * m + 2
kind_number (kinds.Greatest m) = 4 * m + 3
kind_number (kinds.Mean m) = 4 * m + 4

clash : {b : Bool} → b ≡ true → b ≡ false → ⊥
clash e f = cc

same-test : (m n : ℕ) → m ≡ n → eqb m n ≡ true
same-test m n e = grind (arith, nat_tests, e)

one-kind : (a b : AggKind) → kind_number a ≡ kind_number b → same_kind a b ≡ true
one-kind kinds.Count kinds.Count e = refl
one-kind (kinds.Sum m) (kinds.Sum n) e = same-test m n (omega (arith, e))
one-kind (kinds.Least m) (kinds.Least n) e = same-test m n (omega (arith, e))
one-kind (kinds.Greatest m) (kinds.Greatest n) e = same-test m n (omega (arith, e))
one-kind (kinds.Mean m) (kinds.Mean n) e = same-test m n (omega (arith, e))
one-kind _ _ e = absurd (omega (arith, e))

none-of : (a b : Bool) → (a || b) ≡ false → (a ≡ false) × (b ≡ false)
none-of true b h = absurd (clash refl h)
none-of false b h = (refl, h)

-- a kind that is none of others has another number
apart-number : (k : AggKind) (ks : List AggKind) → list_any (λ j. same_kind j k) ks ≡ false
    → AllByRecursion (λ n. eqb (kind_number k) n ≡ false) (map kind_number ks)
apart-number k [] h = tt
apart-number k (j ∷ js) h = (by (eqb (kind_number k) (kind_number j)) refl, apart-number k js parts.1)
  where
    parts : (same_kind j k ≡ false) × (list_any (λ i. same_kind i k) js ≡ false)
    parts = none-of (same_kind j k) (list_any (λ i. same_kind i k) js) h

    same : (x y : ℕ) → eqb x y ≡ true → y ≡ x
    same x y e = grind (arith, nat_tests, e)

    by : (b : Bool) → eqb (kind_number k) (kind_number j) ≡ b → eqb (kind_number k) (kind_number j) ≡ false
    by false e = e
    by true e = absurd (clash (one-kind j k (same (kind_number k) (kind_number j) e)) parts.0)

distinct-numbers : (ks : List AggKind) → all_different same_kind ks ≡ true → IsDistinct eqb (map kind_number ks)
unfolding IsDistinct
distinct-numbers [] h = tt
distinct-numbers (k ∷ ks) h =
    let parts = and_parts (not (list_any (λ y. same_kind y k) ks)) (all_different same_kind ks) h in
    (apart-number k ks (not-true _ parts.0), distinct-numbers ks parts.1)

-- the numbers of kinds of at most four measures
small-numbers : (measures : ℕ) (ks : List AggKind) → measures ≤ 4 → AllByRecursion (IsThere measures) ks
    → (q : ℕ) → list_any (eqb q) (map kind_number ks) ≡ true → q < 17
small-numbers measures [] few there q h = absurd (clash h refl)
small-numbers measures (k ∷ ks) few there q h
    = by (eqb q (kind_number k)) refl (small-numbers measures ks few there.1 q)
  where
    small : (k : AggKind) → IsThere measures k → kind_number k < 17
    small kinds.Count is = omega arith
    small (kinds.Sum m) is = omega (arith, is, few)
    small (kinds.Least m) is = omega (arith, is, few)
    small (kinds.Greatest m) is = omega (arith, is, few)
    small (kinds.Mean m) is = omega (arith, is, few)

    same : (x y : ℕ) → eqb x y ≡ true → x ≡ y
    same x y e = grind (arith, nat_tests, e)

    by : (b : Bool) → eqb q (kind_number k) ≡ b → (list_any (eqb q) (map kind_number ks) ≡ true → q < 17) → q < 17
    by true e rest = omega (arith, same q (kind_number k) e, small k there.0)
    by false e rest = rest (rw e at h)

few-kinds : (measures : ℕ) (ks : List AggKind) → measures ≤ 4 → AllByRecursion (IsThere measures) ks
    → all_different same_kind ks ≡ true → length ks ≤ 17
few-kinds measures ks few there apart =
    let le = length-le_from_distinct_below (map kind_number ks) 17 (distinct-numbers ks apart)
    (small-numbers measures ks few there) in
    omega (arith, le, length-map ks kind_number)

-- how long a line is
two-words : (a b : Text) → length (line_text (a ∷ b ∷ [])) ≡ length a + length b + 2
two-words a b = omega (arith, length-append a (32 ∷ (b ++ 10 ∷ [])), length-append b (10 ∷ []))

three-words : (a b c : Text) → length (line_text (a ∷ b ∷ c ∷ [])) ≡ length a + length b + length c + 3
three-words a b c
    = omega (
      arith,
      length-append a (32 ∷ (b ++ 32 ∷ (c ++ 10 ∷ []))),
      length-append b (32 ∷ (c ++ 10 ∷ [])),
      length-append c (10 ∷ []),
    )

abbrev IsShortLine : List Text → Type 0
IsShortLine words = length (line_text words) ≤ 5000000

short-name : (name : Text) → is_name name ≡ true → length name ≤ 32
short-name name h = grind (arith, nat_tests, h)

flat-short : (lines : List (List Text)) → AllByRecursion IsShortLine lines
    → length (flat_map line_text lines) ≤ 5000000 * length lines
flat-short [] h = omega arith
flat-short (line ∷ lines) h
    = omega (arith, length-append (line_text line) (flat_map line_text lines), h.0, flat-short lines h.1)

all-append : {X : Type 0} (P : X → Type 0) (xs ys : List X) → AllByRecursion P xs → AllByRecursion P ys
    → AllByRecursion P (xs ++ ys)
all-append P [] ys h k = k
all-append P (x ∷ xs) ys h k = (h.0, all-append P xs ys h.1 k)

short-dims : (dims : List Text) → list_all is_name dims ≡ true → AllByRecursion IsShortLine (map dim_words dims)
short-dims [] h = tt
short-dims (name ∷ dims) h =
    let parts = and_parts (is_name name) (list_all is_name dims) h in
    let word : length (codes "dim") ≡ 3 = refl in
    (omega (arith, two-words (codes "dim") name, word, short-name name parts.0), short-dims dims parts.1)

short-measures : (ms : List Measure) → list_all is_name (map (λ m. m.name) ms) ≡ true
    → AllByRecursion (λ m. m.scale ≤ MAX_SCALE) ms → AllByRecursion IsShortLine (map measure_words ms)
short-measures [] h scales = tt
short-measures (m ∷ ms) h scales =
    let parts = and_parts (is_name m.name) (list_all is_name (map (λ n. n.name) ms)) h in
    let word : length (codes "measure") ≡ 7 = refl in
    let digits = length-decimal-le_succ m.scale (omega (arith, scales.0)) in (
      omega (
        arith,
        three-words (codes "measure") m.name (decimal m.scale),
        word,
        short-name m.name parts.0,
        digits,
        scales.0,
      ),
      short-measures ms parts.1 scales.1,
    )

short-name_at : (ms : List Measure) → list_all is_name (map (λ m. m.name) ms) ≡ true → (k : ℕ)
    → length (name_at ms k) ≤ 32
short-name_at [] h k = omega arith
short-name_at (m ∷ ms) h zero
    = short-name m.name (and_parts (is_name m.name) (list_all is_name (map (λ n. n.name) ms)) h).0
short-name_at (m ∷ ms) h (suc k)
    = short-name_at ms (and_parts (is_name m.name) (list_all is_name (map (λ n. n.name) ms)) h).1 k

short-indexes : (ms : List Measure) → list_all is_name (map (λ m. m.name) ms) ≡ true → (ks : List AggKind)
    → AllByRecursion IsShortLine (map (index_words ms) ks)
short-indexes ms h [] = tt
short-indexes ms h (k ∷ ks) = (line k, short-indexes ms h ks)
  where
    index : length (codes "index") ≡ 5
    index = refl

    of : (word : Text) (m : ℕ) → length word ≤ 8 → IsShortLine (codes "index" ∷ word ∷ name_at ms m ∷ [])
    of word m le = omega (arith, three-words (codes "index") word (name_at ms m), index, le, short-name_at ms h m)

    line : (k : AggKind) → IsShortLine (index_words ms k)
    line kinds.Count =
        let word : length (codes "count") ≡ 5 = refl in
        omega (arith, two-words (codes "index") (codes "count"), index, word)
    line (kinds.Sum m) = let word : length (codes "sum") ≡ 3 = refl in of (codes "sum") m (omega (arith, word))
    line (kinds.Least m) = let word : length (codes "least") ≡ 5 = refl in of (codes "least") m (omega (arith, word))
    line (kinds.Greatest m)
        = let word : length (codes "greatest") ≡ 8 = refl in of (codes "greatest") m (omega (arith, word))
    line (kinds.Mean m) = let word : length (codes "mean") ≡ 4 = refl in of (codes "mean") m (omega (arith, word))

short-limits : (l : Layout) → IsLayout l → AllByRecursion IsShortLine (limit_words l)
short-limits l is = (
  line (codes "nodes") l.nodes (omega (arith, nodes)) is.limits.few_nodes,
  (
    line (codes "rows") l.rows (omega (arith, rows)) (omega (arith, is.limits.few_rows)),
    (line (codes "values") l.values (omega (arith, values)) is.limits.few_values, tt),
  ),
)
  where
    nodes : length (codes "nodes") ≡ 5
    nodes = refl

    rows : length (codes "rows") ≡ 4
    rows = refl

    values : length (codes "values") ≡ 6
    values = refl

    line : (word : Text) (n : ℕ) → length word ≤ 8 → n ≤ 4000000 → IsShortLine (word ∷ decimal n ∷ [])
    line word n short few = omega (arith, two-words word (decimal n), short, length-decimal-le_succ n (omega (arith, few)), few)

short-first : (v : SchemaVersion) → IsShortLine (codes "qcube" ∷ version_word v ∷ [])
short-first v = omega (arith, two-words (codes "qcube") (version_word v), qcube, word v)
  where
    qcube : length (codes "qcube") ≡ 5
    qcube = refl

    word : (v : SchemaVersion) → length (version_word v) ≡ 1
    word versions.One = refl
    word versions.Two = refl

-- The text of a schema has less bytes than four bytes can count: it has at most 42 lines.
pub short-text : (l : Layout) → IsLayout l → length (layout_text l) < 2 ^ 32
short-text l is =
    let names = and_parts (is_name l.id) (list_all is_name (l.dims ++ map (λ m. m.name) l.measures)) is.names in
    let rest = and_parts (list_all is_name l.dims) (list_all is_name (map (λ m. m.name) l.measures))
    (sym (list_all-append is_name l.dims (map (λ m. m.name) l.measures)) ∙ names.1) in
    let id : length (codes "id") ≡ 2 = refl in
    let lines : AllByRecursion IsShortLine (layout_words l) = (
      short-first l.version,
      (
        omega (arith, two-words (codes "id") l.id, id, short-name l.id names.0),
        all-append IsShortLine _ _ (short-dims l.dims rest.0)
            (all-append IsShortLine _ _ (short-measures l.measures rest.1 is.scales)
            (all-append IsShortLine _ _ (short-indexes l.measures rest.1 l.indexes) (short-limits l is))),
      ),
    ) in
    let few = measures-few l is in
    let many : length (layout_words l) ≤ 42 =
    omega (
      arith,
      length-append (map dim_words l.dims)
          (map measure_words l.measures ++ (map (index_words l.measures) l.indexes ++ limit_words l)),
      length-append (map measure_words l.measures) (map (index_words l.measures) l.indexes ++ limit_words l),
      length-append (map (index_words l.measures) l.indexes) (limit_words l),
      length-map l.dims dim_words,
      length-map l.measures measure_words,
      length-map l.indexes (index_words l.measures),
      dims-few l is,
      few,
      few-kinds (length l.measures) l.indexes few is.indexes is.different_indexes,
    ) in
    omega (arith, flat-short (layout_words l) lines, many)
