-- The canonical text of a schema is read as this schema.
use Rattle.std.proofs.Common.{◌≡◌, ◌<◌, ◌≤◌, ◌+◌, ◌∙◌, ℕ, zero, suc, List, [], ◌∷◌, ◌++◌, length, refl, sym, ap, ap₂, arith, true, false}
use Rattle.std.proofs.Common.{Bool, append_assoc, Result, Ok, map, Some}
use Rattle.std.specs.Prelude.{not, codes, decimal}
use Rattle.std.specs.List.{list_all, list_any, flat_map, AllByRecursion}
use Rattle.std.specs.Str.{all_ascii_digits, bytes_eq}
use Rattle.std.specs.Str.Parse.{digits_value}
use Rattle.std.proofs.lemmas.Bool.{and_parts, le-leb, lt-ltb, or_parts, not-true}
use Rattle.std.proofs.lemmas.Fmt.{decimal_digit, decimal_nonempty, digits_decimal, digits_value-decimal, length-decimal-le}
use Rattle.std.proofs.lemmas.Str.Parse.{IsNumeralModel, numerals_by_value, tells_all_ascii_digits}
use Rattle.std.proofs.lemmas.List.{append-nil, length_push, map-append}
use Rattle.std.proofs.lemmas.List.Folds.{list_any-append}
use Rattle.std.proofs.lemmas.Slice.Eq.{bytes_eq-Decides}
use Rattle.aggregates.specs.Views.{IsThere, same_kind}
use Rattle.aggregates.specs.declared.kind.AggKind.{AggKind}
use Rattle.aggregates.specs.declared.kind.AggKind.TheVariants as kinds
use Rattle.cube_defs.specs.Text.{Text}
use Rattle.cube_defs.specs.declared.limits.TheConstants.{MAX_CODES, MAX_NODES, MAX_ROWS, MAX_SCALE}
use Rattle.qc_schema.specs.Grammar.{◌>>=◌, and_on, dim_line, id_line, index_line, is_start, kind_of, limit_in, line_of_words, may_dim}
use Rattle.qc_schema.specs.Grammar.{may_end, may_index, may_measure, measure_from, measure_line, named_line, nodes_line, read_lines}
use Rattle.qc_schema.specs.Grammar.{rows_line, scale_in, schema_in, start, take_line, values_line, version_line}
use Rattle.text_lines.specs.Lines.{lines_of, without_cr}
use Rattle.qc_schema.specs.Schema.{IsLayout, Layout, Measure, all_different, is_name, is_name_byte, max_dims, max_measures, version_word}
use Rattle.qc_schema.specs.declared.limits.SchemaVersion.{SchemaVersion}
use Rattle.qc_schema.specs.declared.limits.SchemaVersion.TheVariants as versions
use Rattle.qc_schema.specs.Spelling.{dim_words, index_words, layout_text, layout_words, limit_words, line_text, measure_words, name_at}
use Rattle.qc_schema.specs.Progress.{Progress}
use Rattle.qc_schema.specs.declared.reader.LastLine.{LastLine}
use Rattle.qc_schema.specs.declared.reader.LastLine.TheVariants as stages
use Rattle.qc_schema.specs.declared.refusal.SchemaCause.{SchemaCause}
use Rattle.qc_schema.proofs.Keeping.{bind_ok, kind-flip}
use Rattle.qc_schema.proofs.Widening.{bytes-flip}
use Rattle.qc_schema.proofs.Naming.{name-bytes}
use Rattle.qc_schema.proofs.Reading.{schema-text}
use Rattle.qc_schema.proofs.Wording.{IsLine, IsWord, digits-bytes, joined, lines-more, not-comment, text-utf8, words-joined}

-- a state in which the limits are those by default
abbrev at : SchemaVersion → LastLine → Text → List Text → List Measure → List AggKind → Progress
at version stage id dims ms ks
    = record {
      stage = stage;
      layout = record {
        version = version;
        id = id;
        dims = dims;
        measures = ms;
        indexes
            = ks;
        nodes = 1000000;
        rows = 1000000;
        values = 4000000;
      };
    }

-- the state after lines of these words
abbrev after : List (List Text) → Progress → Result Progress SchemaCause
after [] s = Ok s
after (words ∷ lines) s = line_of_words s words >>= λ t. after lines t

after-append : (xs ys : List (List Text)) (s t : Progress) → after xs s ≡ Ok t → after (xs ++ ys) s ≡ after ys t
after-append [] ys s t e = let same : s ≡ t = cc in ap (after ys) same
after-append (x ∷ xs) ys s t e =
    let p = bind_ok (line_of_words s x) (λ u. after xs u) t e in
    ap (λ (r : Result Progress SchemaCause). r >>= λ u. after (xs ++ ys) u) p.1 ∙ after-append xs ys p.0 t p.2

taken : (words : List Text) (s t : Progress) → IsLine words → line_of_words s words ≡ Ok t
    → take_line s (joined words) ≡ Ok t
unfolding take_line
taken words s t h e = rw (not-comment words h, words-joined words h.each) e

read-after : (lines : List (List Text)) → AllByRecursion IsLine lines → (n : ℕ) (s t : Progress) → after lines s ≡ Ok t
    → may_end t.stage ≡ true
    → read_lines (map without_cr (lines_of (flat_map line_text lines))) n s ≡ Ok t.layout
unfolding read_lines
read-after [] h n s t e may = let same : s ≡ t = cc in ap (read_lines [] n) same ∙ rw may refl
read-after (words ∷ lines) h n s t e may =
    let p = bind_ok (line_of_words s words) (λ u. after lines u) t e in
    ap (λ (ls : List (List ℕ)). read_lines ls n s) (lines-more words (flat_map line_text lines) h.0)
    ∙ ap (λ (r : Result Progress SchemaCause). and_on n r
    (λ u. read_lines (map without_cr (lines_of (flat_map line_text lines))) (n + 1) u)) (taken words s p.0 h.0 p.1)
    ∙ read-after lines h.1 (n + 1) p.0 t p.2 may

-- elements that are all different, or all of a kind
at-middle : {X : Type 0} (p : X → Bool) (xs : List X) (y : X) (ys : List X)
    → list_any p (xs ++ y ∷ ys) ≡ false → p y ≡ false
at-middle p xs y ys h =
    let q = or_parts (list_any p xs) (list_any p (y ∷ ys)) (sym (list_any-append p xs (y ∷ ys)) ∙ h) in
    (or_parts (p y) (list_any p ys) q.1).0

different-middle : {X : Type 0} (eq : X → X → Bool) → ((a b : X) → eq a b ≡ false → eq b a ≡ false)
    → (xs : List X) (y : X) (ys : List X)
    → all_different eq (xs ++ y ∷ ys) ≡ true → list_any (λ x. eq x y) xs ≡ false
different-middle eq flip [] y ys h = refl
different-middle eq flip (x ∷ xs) y ys h =
    let p = and_parts (not (list_any (λ z. eq z x) (xs ++ y ∷ ys))) (all_different eq (xs ++ y ∷ ys)) h in
    let other : eq x y ≡ false
    = flip y x (at-middle (λ z. eq z x) xs y ys (not-true (list_any (λ z. eq z x) (xs ++ y ∷ ys)) p.0)) in
    rw (other, different-middle eq flip xs y ys p.1) refl

different-prefix : {X : Type 0} (eq : X → X → Bool) (xs ys : List X) → all_different eq (xs ++ ys) ≡ true
    → all_different eq xs ≡ true
different-prefix eq [] ys h = refl
different-prefix eq (x ∷ xs) ys h =
    let p = and_parts (not (list_any (λ z. eq z x) (xs ++ ys))) (all_different eq (xs ++ ys)) h in
    let q = or_parts (list_any (λ z. eq z x) xs) (list_any (λ z. eq z x) ys) (sym (list_any-append (λ z. eq z x) xs ys)
    ∙ not-true (list_any (λ z. eq z x) (xs ++ ys)) p.0) in
    rw (q.0, different-prefix eq xs ys p.1) refl

all-parts : {X : Type 0} (p : X → Bool) (xs ys : List X) → list_all p (xs ++ ys) ≡ true → (list_all p xs ≡ true)
    × (list_all p ys ≡ true)
all-parts p [] ys h = (refl, h)
all-parts p (x ∷ xs) ys h =
    let q = and_parts (p x) (list_all p (xs ++ ys)) h in
    let r = all-parts p xs ys q.1 in
    (rw (q.0, r.0) refl, r.1)

every-append : {X : Type 0} (P : X → Type 0) (xs ys : List X) → AllByRecursion P xs → AllByRecursion P ys
    → AllByRecursion P (xs ++ ys)
every-append P [] ys a b = b
every-append P (x ∷ xs) ys a b = (a.0, every-append P xs ys a.1 b)

bytes-same : (a : List ℕ) → bytes_eq a a ≡ true
bytes-same a = (bytes_eq-Decides a a).1 refl

-- numbers are read as they are written
own : IsNumeralModel (λ ds. all_ascii_digits ds ≡ true) (digits_value 10)
own = numerals_by_value (λ ds. all_ascii_digits ds ≡ true) tells_all_ascii_digits

scale-again : (n : ℕ) → n ≤ MAX_SCALE → scale_in (decimal n) ≡ Ok n
scale-again n h =
    let one : length (decimal n) ≡ 1 = ap length (decimal_digit n (omega arith)) in
    rw (one, digits_decimal own n (omega arith), digits_value-decimal own n (omega arith), le-leb n MAX_SCALE h) refl

limit-again : (most n : ℕ) → 1 ≤ n → n ≤ most → most < 10000000 → limit_in most (decimal n) ≡ Ok n
limit-again most n some few small =
    rw (
      lt-ltb 0 (length (decimal n)) (decimal_nonempty n (omega arith)),
      le-leb (length (decimal n)) 7 (length-decimal-le 7 n (omega arith) (omega arith) (omega arith)),
      digits_decimal own n (omega arith),
      digits_value-decimal own n (omega arith),
      lt-ltb 0 n some,
      le-leb n most few,
    ) refl

-- the kind of the last line, after lines of one kind
abbrev stage_after : {X : Type 0} → LastLine → LastLine → List X → LastLine
stage_after before stage [] = before
stage_after before stage (x ∷ xs) = stage

behind-same : {X : Type 0} (stage : LastLine) (xs : List X) → stage_after stage stage xs ≡ stage
behind-same stage [] = refl
behind-same stage (x ∷ xs) = refl

after-some : {X : Type 0} (before stage : LastLine) (xs : List X) → 1 ≤ length xs → stage_after before stage xs ≡ stage
after-some before stage [] h = absurd (omega arith)
after-some before stage (x ∷ xs) h = refl

pub record MayIndex (stage : LastLine) : Type 0 where
  begun : is_start stage ≡ false
  index : may_index stage ≡ true

after-index : {X : Type 0} (before stage : LastLine) (xs : List X) → MayIndex before → MayIndex stage
    → MayIndex (stage_after before stage xs)
after-index before stage [] a b = a
after-index before stage (x ∷ xs) a b = b

-- the lines of dimensions
dim-step : (version : SchemaVersion) (stage : LastLine) (id : Text) (done : List Text) (name : Text)
    → is_start stage ≡ false → may_dim stage ≡ true → length done < max_dims version → is_name name ≡ true
    → list_any (λ y. bytes_eq y name) (id ∷ done) ≡ false
    → line_of_words (at version stage id done [] []) (dim_words name)
    ≡ Ok (at version stages.Dim id (done ++ name ∷ []) [] [])
unfolding named_line dim_line
dim-step version stage id done name begun may few n u =
    let fresh : list_any (λ y. bytes_eq y name) (id ∷ (done ++ [])) ≡ false
    = ap (λ (xs : List Text). list_any (λ y. bytes_eq y name) (id ∷ xs)) (append-nil done) ∙ u in
    rw (begun, may, lt-ltb (length done) (max_dims version) few, n, fresh) refl

dims-run : (dims : List Text) (version : SchemaVersion) (stage : LastLine) (id : Text) (done : List Text)
    → is_start stage ≡ false → may_dim stage ≡ true → length done + length dims ≤ max_dims version
    → list_all is_name dims ≡ true
    → all_different bytes_eq (id ∷ (done ++ dims)) ≡ true
    → after (map dim_words dims) (at version stage id done [] [])
    ≡ Ok (at version (stage_after stage stages.Dim dims) id (done ++ dims) [] [])
dims-run [] version stage id done begun may few n d
    = ap (λ (xs : List Text). Ok (at version stage id xs [] [])) (sym (append-nil done))
dims-run (x ∷ xs) version stage id done begun may few n d =
    let p = and_parts (is_name x) (list_all is_name xs) n in
    let joined_up : (done ++ x ∷ []) ++ xs ≡ done ++ x ∷ xs = append_assoc done (x ∷ []) xs in
    let fresh : list_any (λ y. bytes_eq y x) (id ∷ done) ≡ false
    = different-middle bytes_eq bytes-flip (id ∷ done) x xs d in
    let others : all_different bytes_eq (id ∷ ((done ++ x ∷ []) ++ xs)) ≡ true
    = ap (λ (ys : List Text). all_different bytes_eq (id ∷ ys)) joined_up ∙ d in
    ap (λ (r : Result Progress SchemaCause). r >>= λ t. after (map dim_words xs) t)
    (dim-step version stage id done x begun may (omega arith) p.0 fresh)
    ∙ dims-run xs version stages.Dim id (done ++ x ∷ []) refl refl (omega (arith, length_push done x)) p.1 others
    ∙ ap₂ (λ (s : LastLine) (ys : List Text). Ok (at version s id ys [] [])) (behind-same stages.Dim xs) joined_up

-- the lines of measures
measure-step : (version : SchemaVersion) (stage : LastLine) (id : Text) (dims : List Text) (done : List Measure)
    (m : Measure) → is_start stage ≡ false → may_measure stage ≡ true → length done < max_measures version
    → m.scale ≤ MAX_SCALE → is_name m.name ≡ true
    → list_any (λ y. bytes_eq y m.name) (id ∷ (dims ++ map (λ m. m.name) done)) ≡ false
    → line_of_words (at version stage id dims done []) (measure_words m)
    ≡ Ok (at version stages.Measure id dims (done ++ m ∷ []) [])
unfolding named_line measure_line
measure-step version stage id dims done m begun may few small n u
    = rw (begun, may, lt-ltb (length done) (max_measures version) few, n, u, scale-again m.scale small) refl

names-after : (dims : List Text) (done : List Measure) (m : Measure) (ms : List Measure)
    → dims ++ map (λ m. m.name) (done ++ m ∷ ms) ≡ (dims ++ map (λ m. m.name) done) ++ m.name ∷ map (λ m. m.name) ms
names-after dims done m ms = ap (λ (xs : List Text). dims ++ xs) (map-append (λ m. m.name) done (m ∷ ms))
    ∙ sym (append_assoc dims (map (λ m. m.name) done) (m.name ∷ map (λ m. m.name) ms))

measures-run : (ms : List Measure) (version : SchemaVersion) (stage : LastLine) (id : Text) (dims : List Text)
    (done : List Measure) → is_start stage ≡ false → may_measure stage ≡ true
    → length done + length ms ≤ max_measures version
    → AllByRecursion (λ m. m.scale ≤ MAX_SCALE) ms → list_all is_name (map (λ m. m.name) ms) ≡ true
    → all_different bytes_eq (id ∷ (dims ++ map (λ m. m.name) (done ++ ms))) ≡ true
    → after (map measure_words ms) (at version stage id dims done [])
    ≡ Ok (at version (stage_after stage stages.Measure ms) id dims (done ++ ms) [])
measures-run [] version stage id dims done begun may few small n d
    = ap (λ (xs : List Measure). Ok (at version stage id dims xs [])) (sym (append-nil done))
measures-run (m ∷ ms) version stage id dims done begun may few small n d =
    let p = and_parts (is_name m.name) (list_all is_name (map (λ m. m.name) ms)) n in
    let joined_up : (done ++ m ∷ []) ++ ms ≡ done ++ m ∷ ms = append_assoc done (m ∷ []) ms in
    let apart : all_different bytes_eq ((id ∷ (dims ++ map (λ m. m.name) done)) ++ m.name ∷ map (λ m. m.name) ms) ≡ true
    = ap (λ (ys : List Text). all_different bytes_eq (id ∷ ys)) (sym (names-after dims done m ms)) ∙ d in
    let fresh : list_any (λ y. bytes_eq y m.name) (id ∷ (dims ++ map (λ m. m.name) done)) ≡ false
    = different-middle bytes_eq bytes-flip (id ∷ (dims ++ map (λ m. m.name) done)) m.name
    (map (λ m. m.name) ms) apart in
    let others : all_different bytes_eq (id ∷ (dims ++ map (λ m. m.name) ((done ++ m ∷ []) ++ ms))) ≡ true
    = ap (λ (xs : List Measure). all_different bytes_eq (id ∷ (dims ++ map (λ m. m.name) xs))) joined_up ∙ d in
    ap (λ (r : Result Progress SchemaCause). r >>= λ t. after (map measure_words ms) t)
    (measure-step version stage id dims done m begun may (omega arith) small.0 p.0 fresh)
    ∙ measures-run ms version stages.Measure id dims (done ++ m ∷ []) refl refl (omega (arith, length_push done m))
    small.1 p.1 others
    ∙ ap₂ (λ (s : LastLine) (xs : List Measure). Ok (at version s id dims xs []))
    (behind-same stages.Measure ms) joined_up

-- the lines of indexes
different-after : {X : Type 0} (eq : X → X → Bool) (xs ys : List X) → all_different eq (xs ++ ys) ≡ true
    → all_different eq ys ≡ true
different-after eq [] ys h = h
different-after eq (x ∷ xs) ys h
    = different-after eq xs ys (and_parts (not (list_any (λ z. eq z x) (xs ++ ys))) (all_different eq (xs ++ ys)) h).1

another-name : (ms : List Measure) (m : ℕ) (name : Text) → m < length ms
    → list_any (λ y. bytes_eq y name) (map (λ m. m.name) ms) ≡ false → bytes_eq (name_at ms m) name ≡ false
another-name [] m name lt h = absurd (omega arith)
another-name (x ∷ xs) zero name lt h
    = (or_parts (bytes_eq x.name name) (list_any (λ y. bytes_eq y name) (map (λ m. m.name) xs)) h).0
another-name (x ∷ xs) (suc m) name lt h
    = another-name xs m name (omega arith)
    (or_parts (bytes_eq x.name name) (list_any (λ y. bytes_eq y name) (map (λ m. m.name) xs)) h).1

found-from : (ms : List Measure) (k m : ℕ) → all_different bytes_eq (map (λ m. m.name) ms) ≡ true → m < length ms
    → measure_from ms k (name_at ms m) ≡ Some (k + m)
found-from [] k m d lt = absurd (omega arith)
found-from (x ∷ xs) k zero d lt = rw (bytes-same x.name) (ap (λ (n : ℕ). Some n) (omega arith))
found-from (x ∷ xs) k (suc m) d lt =
    let p = and_parts (not (list_any (λ y. bytes_eq y x.name) (map (λ m. m.name) xs)))
    (all_different bytes_eq (map (λ m. m.name) xs)) d in
    let other : bytes_eq x.name (name_at xs m) ≡ false
    = bytes-flip (name_at xs m) x.name
    (another-name xs m x.name (omega arith)
    (not-true (list_any (λ y. bytes_eq y x.name) (map (λ m. m.name) xs)) p.0)) in
    rw other (found-from xs (k + 1) m p.1 (omega arith) ∙ ap (λ (n : ℕ). Some n) (omega arith))

found-again : (ms : List Measure) (m : ℕ) → all_different bytes_eq (map (λ m. m.name) ms) ≡ true → m < length ms
    → measure_from ms 0 (name_at ms m) ≡ Some m
found-again ms m d lt = found-from ms 0 m d lt ∙ ap (λ (n : ℕ). Some n) (omega arith)

index-step : (version : SchemaVersion) (stage : LastLine) (id : Text) (dims : List Text) (ms : List Measure)
    (done : List AggKind) (kind : AggKind) → MayIndex stage → all_different bytes_eq (map (λ m. m.name) ms) ≡ true
    → IsThere (length ms) kind
    → list_any (λ k. same_kind k kind) done ≡ false
    → line_of_words (at version stage id dims ms done) (index_words ms kind)
    ≡ Ok (at version stages.Index id dims ms (done ++ kind ∷ []))
unfolding named_line index_line kind_of
index-step version stage id dims ms done kinds.Count may apart there fresh = rw (may.begun, may.index, fresh) refl
index-step version stage id dims ms done (kinds.Sum m) may apart there fresh
    = rw (may.begun, may.index, found-again ms m apart there, fresh) refl
index-step version stage id dims ms done (kinds.Least m) may apart there fresh
    = rw (may.begun, may.index, found-again ms m apart there, fresh) refl
index-step version stage id dims ms done (kinds.Greatest m) may apart there fresh
    = rw (may.begun, may.index, found-again ms m apart there, fresh) refl
index-step version stage id dims ms done (kinds.Mean m) may apart there fresh
    = rw (may.begun, may.index, found-again ms m apart there, fresh) refl

at-index : MayIndex stages.Index
at-index = record { begun = refl; index = refl }

indexes-run : (ks : List AggKind) (version : SchemaVersion) (stage : LastLine) (id : Text) (dims : List Text)
    (ms : List Measure) (done : List AggKind) → MayIndex stage → all_different bytes_eq (map (λ m. m.name) ms) ≡ true
    → AllByRecursion (IsThere (length ms)) ks
    → all_different same_kind (done ++ ks) ≡ true
    → after (map (index_words ms) ks) (at version stage id dims ms done)
    ≡ Ok (at version (stage_after stage stages.Index ks) id dims ms (done ++ ks))
indexes-run [] version stage id dims ms done may apart there d
    = ap (λ (xs : List AggKind). Ok (at version stage id dims ms xs)) (sym (append-nil done))
indexes-run (k ∷ ks) version stage id dims ms done may apart there d =
    let joined_up : (done ++ k ∷ []) ++ ks ≡ done ++ k ∷ ks = append_assoc done (k ∷ []) ks in
    ap (λ (r : Result Progress SchemaCause). r >>= λ t. after (map (index_words ms) ks) t)
    (index-step version stage id dims ms done k may apart there.0
    (different-middle same_kind kind-flip done k ks d))
    ∙ indexes-run ks version stages.Index id dims ms (done ++ k ∷ []) at-index apart there.1
    (ap (all_different same_kind) joined_up ∙ d)
    ∙ ap₂ (λ (s : LastLine) (xs : List AggKind). Ok (at version s id dims ms xs))
    (behind-same stages.Index ks) joined_up

-- the lines of the limits
limits-run : (stage : LastLine) (l : Layout) → MayIndex stage → IsLayout l
    → after (limit_words l) (at l.version stage l.id l.dims l.measures l.indexes)
    ≡ Ok (record { stage = stages.Values; layout = l })
unfolding named_line nodes_line rows_line values_line
limits-run stage l may h
    = rw (
      may.begun,
      may.index,
      limit-again MAX_NODES l.nodes h.limits.some_nodes h.limits.few_nodes (omega arith),
      limit-again MAX_ROWS l.rows h.limits.some_rows h.limits.few_rows (omega arith),
      limit-again MAX_CODES l.values h.limits.some_values h.limits.few_values (omega arith),
    ) refl

-- the first two lines
id-fresh : (id : Text) → is_name id ≡ true → bytes_eq [] id ≡ false
id-fresh [] h = absurd (cc h)
id-fresh (b ∷ bs) h = refl

id-run : (version : SchemaVersion) (id : Text) (lines : List (List Text)) → is_name id ≡ true
    → after ((codes "qcube" ∷ version_word version ∷ []) ∷ (codes "id" ∷ id ∷ []) ∷ lines) start
    ≡ after lines (at version stages.Id id [] [] [])
unfolding version_line named_line id_line
id-run versions.One id lines h = rw (h, id-fresh id h) refl
id-run versions.Two id lines h = rw (h, id-fresh id h) refl

-- all lines
pub layout-run : (l : Layout) → IsLayout l
    → after (layout_words l) start ≡ Ok (record { stage = stages.Values; layout = l })
layout-run l h =
    let n = and_parts (is_name l.id) (list_all is_name (l.dims ++ map (λ m. m.name) l.measures)) h.names in
    let parts = all-parts is_name l.dims (map (λ m. m.name) l.measures) n.1 in
    let dims : after (map dim_words l.dims) (at l.version stages.Id l.id [] [] [])
    ≡ Ok (at l.version stages.Dim l.id l.dims [] []) =
    dims-run l.dims l.version stages.Id l.id [] refl refl (omega (arith, h.few_dims)) parts.0
    (different-prefix bytes_eq (l.id ∷ l.dims) (map (λ m. m.name) l.measures) h.different_names)
    ∙ ap (λ (s : LastLine). Ok (at l.version s l.id l.dims [] []))
    (after-some stages.Id stages.Dim l.dims h.some_dims) in
    let measures = measures-run l.measures l.version stages.Dim l.id l.dims [] refl refl
    (omega (arith, h.few_measures)) h.scales parts.1 h.different_names in
    let apart : all_different bytes_eq (map (λ m. m.name) l.measures) ≡ true
    = different-after bytes_eq (l.id ∷ l.dims) (map (λ m. m.name) l.measures) h.different_names in
    let at_dim : MayIndex stages.Dim = record { begun = refl; index = refl } in
    let at_measure : MayIndex stages.Measure = record { begun = refl; index = refl } in
    let behind_measures : MayIndex (stage_after stages.Dim stages.Measure l.measures)
    = after-index stages.Dim stages.Measure l.measures at_dim at_measure in
    let behind_all : MayIndex (stage_after (stage_after stages.Dim stages.Measure l.measures) stages.Index l.indexes)
    = after-index (stage_after stages.Dim stages.Measure l.measures) stages.Index l.indexes
    behind_measures at-index in
    let indexes = indexes-run l.indexes l.version (stage_after stages.Dim stages.Measure l.measures) l.id l.dims
    l.measures [] behind_measures apart h.indexes h.different_indexes in
    let index_text : List (List Text) = map (index_words l.measures) l.indexes ++ limit_words l in
    let measure_text : List (List Text) = map measure_words l.measures ++ index_text in
    let measured : LastLine = stage_after stages.Dim stages.Measure l.measures in
    let indexed : LastLine = stage_after measured stages.Index l.indexes in
    id-run l.version l.id (map dim_words l.dims ++ measure_text) n.0
    ∙ after-append (map dim_words l.dims) measure_text (at l.version stages.Id l.id [] [] [])
    (at l.version stages.Dim l.id l.dims [] []) dims
    ∙ after-append (map measure_words l.measures) index_text (at l.version stages.Dim l.id l.dims [] [])
    (at l.version measured l.id l.dims l.measures []) measures
    ∙ after-append (map (index_words l.measures) l.indexes) (limit_words l)
    (at l.version measured l.id l.dims l.measures [])
    (at l.version indexed l.id l.dims l.measures l.indexes) indexes
    ∙ limits-run indexed l behind_all h

-- each line is one of words
keyword : (word : Text) → 0 < length word → list_all is_name_byte word ≡ true → IsWord word
keyword word some bytes = record { some = some; bytes = bytes }

name-word : (name : Text) → is_name name ≡ true → IsWord name
name-word [] h = absurd (cc h)
name-word (b ∷ bs) h = record { some = omega arith; bytes = name-bytes (b ∷ bs) h }

number-word : (n : ℕ) → n < 10000000 → IsWord (decimal n)
number-word n h = record {
  some = decimal_nonempty n (omega arith);
  bytes
      = digits-bytes (decimal n) (digits_decimal own n (omega arith));
}

pair-line : (first second : Text) → IsWord first → IsWord second → IsLine (first ∷ second ∷ [])
pair-line first second a b = record { some = omega arith; each = (a, (b, tt)) }

triple-line : (first second third : Text) → IsWord first → IsWord second → IsWord third
    → IsLine (first ∷ second ∷ third ∷ [])
triple-line first second third a b c = record { some = omega arith; each = (a, (b, (c, tt))) }

dim-lines : (dims : List Text) → list_all is_name dims ≡ true → AllByRecursion IsLine (map dim_words dims)
dim-lines [] h = tt
dim-lines (x ∷ xs) h =
    let p = and_parts (is_name x) (list_all is_name xs) h in
    (pair-line (codes "dim") x (keyword (codes "dim") (omega arith) refl) (name-word x p.0), dim-lines xs p.1)

measure-lines : (ms : List Measure) → AllByRecursion (λ m. m.scale ≤ MAX_SCALE) ms
    → list_all is_name (map (λ m. m.name) ms) ≡ true → AllByRecursion IsLine (map measure_words ms)
measure-lines [] small h = tt
measure-lines (m ∷ ms) small h =
    let p = and_parts (is_name m.name) (list_all is_name (map (λ m. m.name) ms)) h in
    let few : m.scale ≤ MAX_SCALE = small.0 in (
      triple-line (codes "measure") m.name (decimal m.scale) (keyword (codes "measure") (omega arith) refl)
          (name-word m.name p.0) (number-word m.scale (omega arith)),
      measure-lines ms small.1 p.1,
    )

name-there : (ms : List Measure) (m : ℕ) → m < length ms → list_all is_name (map (λ m. m.name) ms) ≡ true
    → IsWord (name_at ms m)
name-there [] m lt h = absurd (omega arith)
name-there (x ∷ xs) zero lt h
    = name-word x.name (and_parts (is_name x.name) (list_all is_name (map (λ m. m.name) xs)) h).0
name-there (x ∷ xs) (suc m) lt h
    = name-there xs m (omega arith) (and_parts (is_name x.name) (list_all is_name (map (λ m. m.name) xs)) h).1

index-line : (ms : List Measure) (kind : AggKind) → IsThere (length ms) kind
    → list_all is_name (map (λ m. m.name) ms) ≡ true → IsLine (index_words ms kind)
index-line ms kinds.Count there h
    = pair-line (codes "index") (codes "count") (keyword (codes "index") (omega arith) refl)
    (keyword (codes "count") (omega arith) refl)
index-line ms (kinds.Sum m) there h
    = triple-line (codes "index") (codes "sum") (name_at ms m) (keyword (codes "index") (omega arith) refl)
    (keyword (codes "sum") (omega arith) refl) (name-there ms m there h)
index-line ms (kinds.Least m) there h
    = triple-line (codes "index") (codes "least") (name_at ms m) (keyword (codes "index") (omega arith) refl)
    (keyword (codes "least") (omega arith) refl) (name-there ms m there h)
index-line ms (kinds.Greatest m) there h
    = triple-line (codes "index") (codes "greatest") (name_at ms m) (keyword (codes "index") (omega arith) refl)
    (keyword (codes "greatest") (omega arith) refl) (name-there ms m there h)
index-line ms (kinds.Mean m) there h
    = triple-line (codes "index") (codes "mean") (name_at ms m) (keyword (codes "index") (omega arith) refl)
    (keyword (codes "mean") (omega arith) refl) (name-there ms m there h)

index-lines : (ms : List Measure) (ks : List AggKind) → AllByRecursion (IsThere (length ms)) ks
    → list_all is_name (map (λ m. m.name) ms) ≡ true → AllByRecursion IsLine (map (index_words ms) ks)
index-lines ms [] there h = tt
index-lines ms (k ∷ ks) there h = (index-line ms k there.0 h, index-lines ms ks there.1 h)

limit-lines : (l : Layout) → IsLayout l → AllByRecursion IsLine (limit_words l)
limit-lines l h = (
  pair-line (codes "nodes") (decimal l.nodes) (keyword (codes "nodes") (omega arith) refl)
      (number-word l.nodes (omega (arith, h.limits.few_nodes))),
  (
    pair-line (codes "rows") (decimal l.rows) (keyword (codes "rows") (omega arith) refl)
        (number-word l.rows (omega (arith, h.limits.few_rows))),
    (
      pair-line (codes "values") (decimal l.values) (keyword (codes "values") (omega arith) refl)
          (number-word l.values (omega (arith, h.limits.few_values))),
      tt,
    ),
  ),
)

version-is-word : (version : SchemaVersion) → IsWord (version_word version)
version-is-word versions.One = keyword (codes "1") (omega arith) refl
version-is-word versions.Two = keyword (codes "2") (omega arith) refl

layout-lines : (l : Layout) → IsLayout l → AllByRecursion IsLine (layout_words l)
layout-lines l h =
    let n = and_parts (is_name l.id) (list_all is_name (l.dims ++ map (λ m. m.name) l.measures)) h.names in
    let parts = all-parts is_name l.dims (map (λ m. m.name) l.measures) n.1 in (
      pair-line (codes "qcube") (version_word l.version) (keyword (codes "qcube") (omega arith) refl)
          (version-is-word l.version),
      (
        pair-line (codes "id") l.id (keyword (codes "id") (omega arith) refl) (name-word l.id n.0),
        every-append IsLine (map dim_words l.dims) _ (dim-lines l.dims parts.0)
            (every-append IsLine (map measure_words l.measures) _ (measure-lines l.measures h.scales parts.1)
            (every-append IsLine (map (index_words l.measures) l.indexes) _
            (index-lines l.measures l.indexes h.indexes parts.1) (limit-lines l h))),
      ),
    )

-- the text is read as the schema that it spells
pub read-again : (l : Layout) → IsLayout l → schema_in (layout_text l) ≡ Ok l
read-again l h =
    let lines : AllByRecursion IsLine (layout_words l) = layout-lines l h in
    schema-text (layout_text l) (text-utf8 (layout_words l) lines)
    ∙ read-after (layout_words l) lines 1 start (record { stage = stages.Values; layout = l }) (layout-run l h) refl
