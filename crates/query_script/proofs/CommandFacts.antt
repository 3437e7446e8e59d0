-- Lines as commands.
use Rattle.std.proofs.Common.{Option, ◌<◌, ◌≤◌, ◌+◌, Some, None, ◌≡◌, ℕ, List, [], ◌∷◌, length, refl, arith, Ok, Err, true, false, Bool}
use Rattle.std.proofs.Common.{cond, IsUtf8, ◌⊎◌, inl, inr}
use Rattle.std.specs.Prelude.{◌&&◌, ◌||◌, All, Result, IfOk, codes, nat_le, nat_lt}
use Rattle.std.specs.Str.{bytes_eq, is_utf8}
use Rattle.std.proofs.lemmas.Str.{IsUtf8-from_is_utf8, is_utf8-from_IsUtf8}
use Rattle.std.proofs.lemmas.Bool.{and_from}
use Rattle.std.proofs.lemmas.Bool.Decides.{nat_tests}
use Rattle.cube_defs.specs.Text.{Text}
use Rattle.cell_core.specs.declared.fields.Field as asked
use Rattle.cube_defs.specs.declared.limits.TheConstants.{MAX_TEXT}
use Rattle.qc_schema.specs.Schema.{Layout}
use Rattle.query_script.specs.Faults as faults
use Rattle.cell_core.specs.Gives.{Gives}
use Rattle.query_script.specs.Faults.{LineFault, line_fault_in}
use Rattle.query_script.specs.Lines.{may_want_memory, names_more, names_query, rest_of, stats_line, word_of}
use Rattle.query_script.specs.Commands.{IsCellField, IsMeasured, IsQuery, IsQuestion, asked_with, at_in, command_in, command_named}
use Rattle.query_script.specs.Commands.{is_pin_name, name_in, pin_name_in, query_in_line, query_named, record_in, wants_memory}
use Rattle.query_script.specs.Icebergs.{bound_at, bound_named, iceberg_of, measure_kind, value_at, with_aggregate, with_bound, with_measure}
use Rattle.query_script.specs.Icebergs.{with_value}
use Rattle.query_script.specs.Queries as queries
use Rattle.query_script.specs.Queries.{Query}
use Rattle.query_script.specs.Questions.{Apply, Ask, At, Load, Pin, Question, Try, Unpin, Widen, question_in}
use Rattle.query_script.specs.Rollups as rollups
use Rattle.query_script.specs.Rollups.{rollup_in}
use Rattle.query_script.specs.Widens.{has_value, widen_in}
use Rattle.query_script.specs.declared.line.Command.{Command}
use Rattle.query_script.specs.declared.record.Shape.TheVariants as shapes
use Rattle.query_script.specs.declared.line.LineRefused.{LineRefused}
use Rattle.qc_schema.specs.Grammar.{is_new_name, measure_from}
use Rattle.qc_schema.proofs.CallerLemmas.{measure-there}
use Rattle.cube_defs.specs.Answers as answers
use Rattle.cube_defs.specs.Rows.{Fraction}
use Rattle.aggregates.specs.Numbers.{fraction_written}
use Rattle.text_lines.specs.Cuts.{words_of}
use Rattle.query_script.proofs.Asked.{box-fields, cell-fields}

pub stats-line : (layout : Layout) (line : List ℕ) → IsUtf8 line → bytes_eq line stats_line ≡ true
    → command_in layout line ≡ Ok (Ask queries.Stats)
stats-line layout line u e = rw (is_utf8-from_IsUtf8 line u, e) refl

pub text-line : (layout : Layout) (line : List ℕ) → IsUtf8 line → bytes_eq line stats_line ≡ false
    → command_in layout line ≡ command_named layout (word_of line) (rest_of line)
text-line layout line u e = rw (is_utf8-from_IsUtf8 line u, e) refl

pub no-text-line : (layout : Layout) (line : List ℕ) → (IsUtf8 line → ⊥) → command_in layout line ≡ Err faults.Utf8
no-text-line layout line h = by (is_utf8 line) refl
  where
    by : (b : Bool) → is_utf8 line ≡ b
        → cond b (cond (bytes_eq line stats_line) (Ok (Ask queries.Stats))
        (command_named layout (word_of line) (rest_of line))) (Err faults.Utf8) ≡ Err faults.Utf8
    by true e = absurd (h (IsUtf8-from_is_utf8 line e))
    by false e = refl

pub wants-memory : (line : List ℕ) → IsUtf8 line → names_more (word_of line) ≡ true → may_want_memory line ≡ true
wants-memory line u e = and_from _ _ (is_utf8-from_IsUtf8 line u) e

-- ---- what each line asks

-- what names a file
file-is : (layout : Layout) (rest : List ℕ) (make : Text → Question) (q : Question)
    → ((b : ℕ) (bs : List ℕ) → IsQuestion layout (make (b ∷ bs))) → asked_with make (name_in rest) ≡ Ok q
    → IsQuestion layout q
file-is layout [] make q made e = absurd (cc e)
file-is layout (b ∷ bs) make q made e = let same : make (b ∷ bs) ≡ q = cc in rw (← same) (made b bs)

-- what asks for fields
fields-are : (layout : Layout) (read : Result (List asked.Field) LineFault) (make : List asked.Field
    → Query) (q : Query) → ((fields : List asked.Field) → read ≡ Ok fields → IsQuery layout (make fields))
    → asked_with make read ≡ Ok q → IsQuery layout q
fields-are layout (Err fault) make q made m = absurd (cc m)
fields-are layout (Ok fields) make q made m = let same : make fields ≡ q = cc in rw (← same) (made fields refl)

-- an iceberg of a measure that is there
module _ (layout : Layout) where
  abbrev IsMade : answers.AggKind → Type 0
  IsMade kind = IsMeasured (length layout.measures) kind

  value-is : (kind : answers.AggKind) (bound : answers.Bound) (k : ℕ) (words : List Text) (q : Query) → IsMade kind
      → value_at kind bound k words ≡ Ok q → IsQuery layout q
  value-is kind bound k [] q made e = absurd (cc e)
  value-is kind bound k (word ∷ []) q made e = by (fraction_written word) e
    where
      by : (o : Option Fraction) → with_value kind bound o ≡ Ok q → IsQuery layout q
      by None m = absurd (cc m)
      by (Some value) m = let same : queries.Iceberg kind bound value ≡ q = cc in rw (← same) made
  value-is kind bound k (word ∷ more ∷ words) q made e = absurd (cc e)

  bound-is : (kind : answers.AggKind) (k : ℕ) (words : List Text) (q : Query) → IsMade kind
      → bound_at kind k words ≡ Ok q → IsQuery layout q
  bound-is kind k [] q made e = absurd (cc e)
  bound-is kind k (word ∷ words) q made e = by (bound_named word) e
    where
      by : (o : Option answers.Bound) → with_bound kind k words o ≡ Ok q → IsQuery layout q
      by None m = absurd (cc m)
      by (Some bound) m = value-is kind bound (k + 1) words q made m

  made-is : (word : Text) (make : ℕ → answers.AggKind) (m : ℕ) → m < length layout.measures
      → measure_kind word ≡ Some make → IsMade (make m)
  made-is word make m lt e
      = by (bytes_eq word (codes "sum")) (bytes_eq word (codes "least")) (bytes_eq word (codes "greatest"))
      (bytes_eq word (codes "mean")) e
    where
      by : (sum least greatest mean : Bool)
          → cond sum (Some answers.Sum)
          (cond least (Some answers.Least) (cond greatest (Some answers.Greatest) (cond mean (Some answers.Mean) None)))
          ≡ Some make → IsMade (make m)
      by true least greatest mean h = let same : answers.Sum ≡ make = cc in rw (← same) lt
      by false true greatest mean h = let same : answers.Least ≡ make = cc in rw (← same) lt
      by false false true mean h = let same : answers.Greatest ≡ make = cc in rw (← same) lt
      by false false false true h = let same : answers.Mean ≡ make = cc in rw (← same) lt
      by false false false false h = absurd (cc h)

  measure-is : (make : ℕ → answers.AggKind) (words : List Text) (o : Option ℕ) (q : Query)
      → ((m : ℕ) → o ≡ Some m → IsMade (make m)) → with_measure make words o ≡ Ok q → IsQuery layout q
  measure-is make words None q made e = absurd (cc e)
  measure-is make words (Some m) q made e = bound-is (make m) 3 words q (made m refl) e

  aggregate-is : (word : Text) (words : List Text) (o : Option (ℕ → answers.AggKind)) (q : Query)
      → measure_kind word ≡ o → with_aggregate layout.measures words o ≡ Ok q → IsQuery layout q
  aggregate-is word words None q is e = absurd (cc e)
  aggregate-is word [] (Some make) q is e = absurd (cc e)
  aggregate-is word (name ∷ words) (Some make) q is e =
      measure-is make words (measure_from layout.measures 0 name) q
      (λ m there. made-is word make m (omega (arith, measure-there layout.measures 0 m name there)) is) e

  iceberg-is : (words : List Text) (q : Query) → iceberg_of layout.measures words ≡ Ok q → IsQuery layout q
  iceberg-is [] q e = absurd (cc e)
  iceberg-is (word ∷ words) q e = by (bytes_eq word (codes "count")) e
    where
      by : (count : Bool) → cond count (bound_at answers.Count 2 words)
          (with_aggregate layout.measures words (measure_kind word)) ≡ Ok q → IsQuery layout q
      by true m = bound-is answers.Count 2 words q tt m
      by false m = aggregate-is word words (measure_kind word) q refl m

-- a roll-up of a measure that is there, of a cell with an entry for each dimension
module _ (layout : Layout) where
  rolled-is : (kind : answers.AggKind) (bound : answers.Bound) (k : ℕ) (word : Text)
      (read : Result (List asked.Field) LineFault) (q : Query) → IsMeasured (length layout.measures) kind
      → ((fields : List asked.Field) → read ≡ Ok fields → (length fields ≡ length layout.dims) × All IsCellField fields)
      → rollups.with_record kind bound k word read ≡ Ok q → IsQuery layout q
  rolled-is kind bound k word (Err fault) q made are e = absurd (cc e)
  rolled-is kind bound k word (Ok fields) q made are e = by (fraction_written word) e
    where
      by : (o : Option Fraction) → rollups.with_value kind bound fields o ≡ Ok q → IsQuery layout q
      by None m = absurd (cc m)
      by (Some value) m = let same : queries.Rollup kind bound value fields ≡ q = cc in
          rw (← same) (made, (are fields refl).0, (are fields refl).1)

  rolled-value : (kind : answers.AggKind) (bound : answers.Bound) (k : ℕ) (word : Text) (rest : List ℕ) (q : Query)
      → IsMeasured (length layout.measures) kind → rollups.value_at (length layout.dims) kind bound k word rest ≡ Ok q
      → IsQuery layout q
  rolled-value kind bound k [] rest q made e = absurd (cc e)
  rolled-value kind bound k (b ∷ bs) rest q made e
      = rolled-is kind bound k (b ∷ bs) (record_in shapes.Cell (length layout.dims) rest) q made
      (cell-fields (length layout.dims) rest) e

  rolled-bound : (kind : answers.AggKind) (k : ℕ) (rest : List ℕ) (o : Option answers.Bound) (q : Query)
      → IsMeasured (length layout.measures) kind → rollups.with_bound (length layout.dims) kind k rest o ≡ Ok q
      → IsQuery layout q
  rolled-bound kind k rest None q made e = absurd (cc e)
  rolled-bound kind k rest (Some bound) q made e
      = rolled-value kind bound (k + 1) (word_of rest) (rest_of rest) q made e

  rolled-measure : (make : ℕ → answers.AggKind) (rest : List ℕ) (o : Option ℕ) (q : Query)
      → ((m : ℕ) → o ≡ Some m → IsMeasured (length layout.measures) (make m))
      → rollups.with_measure (length layout.dims) make rest o ≡ Ok q → IsQuery layout q
  rolled-measure make rest None q made e = absurd (cc e)
  rolled-measure make rest (Some m) q made e
      = rolled-bound (make m) 3 (rest_of rest) (bound_named (word_of rest)) q (made m refl) e

  rolled-aggregate : (word : Text) (rest : List ℕ) (o : Option (ℕ → answers.AggKind)) (q : Query)
      → measure_kind word ≡ o → rollups.with_aggregate layout rest o ≡ Ok q → IsQuery layout q
  rolled-aggregate word rest None q is e = absurd (cc e)
  rolled-aggregate word rest (Some make) q is e =
      rolled-measure make (rest_of rest) (measure_from layout.measures 0 (word_of rest)) q
      (λ m there. made-is layout word make m
      (omega (arith, measure-there layout.measures 0 m (word_of rest) there)) is) e

  rollup-is : (rest : List ℕ) (q : Query) → rollup_in layout rest ≡ Ok q → IsQuery layout q
  rollup-is rest q e = by (bytes_eq (word_of rest) (codes "count")) e
    where
      by : (count : Bool) → cond count (rollups.bound_at (length layout.dims) answers.Count 2 (rest_of rest))
          (rollups.with_aggregate layout (rest_of rest) (measure_kind (word_of rest))) ≡ Ok q → IsQuery layout q
      by true m = rolled-bound answers.Count 2 (rest_of (rest_of rest)) (bound_named (word_of (rest_of rest))) q tt m
      by false m = rolled-aggregate (word_of rest) (rest_of rest) (measure_kind (word_of rest)) q refl m

most-text : (b : Bool) (n : ℕ) → (b && nat_le n MAX_TEXT) ≡ true → n ≤ MAX_TEXT
most-text false n h = absurd (cc h)
most-text true n h = grind (arith, nat_tests)

-- a new name, and a short value
widened-is : (layout : Layout) (rest : List ℕ) (q : Question) → widen_in layout rest ≡ Ok q → IsQuestion layout q
widened-is layout rest q e = by (is_new_name layout (word_of rest)) (has_value rest) refl refl e
  where
    by : (new valued : Bool) → is_new_name layout (word_of rest) ≡ new → has_value rest ≡ valued
        → cond new (cond valued (Ok (Widen (word_of rest) (rest_of rest))) (Err (faults.Field 2)))
        (Err (faults.Field 1)) ≡ Ok q → IsQuestion layout q
    by true true n v m =
        let same : Widen (word_of rest) (rest_of rest) ≡ q = cc in
        rw (← same) (n, most-text (nat_lt (length (word_of rest)) (length rest)) (length (rest_of rest)) v)
    by true false n v m = absurd (cc m)
    by false valued n v m = absurd (cc m)

-- ---- queries

-- what follows from either outcome of a test
by_test : {X E P : Type 0} (b : Bool) {asked other : Result X E} {x : X} → cond b asked other ≡ Ok x
    → (asked ≡ Ok x → P) → (other ≡ Ok x → P) → P
by_test true e holds fails = holds e
by_test false e holds fails = fails e

-- one of the tests so far holds, or the outcome is what follows them
next_test : {X E : Type 0} (so_far b : Bool) (asked other : Result X E) {x : X} → (so_far ≡ true)
    ⊎ (cond b asked other ≡ Ok x) → ((so_far || b) ≡ true) ⊎ (other ≡ Ok x)
next_test true b asked other h = inl refl
next_test false true asked other h = inl refl
next_test false false asked other (inl h) = absurd (cc h)
next_test false false asked other (inr e) = inr e

last_test : {X E : Type 0} (so_far last : Bool) (other : Result X E) {x : X} → (so_far ≡ true) ⊎ (other ≡ Ok x)
    → (other ≡ Ok x → last ≡ true) → (so_far || last) ≡ true
last_test true last other h then = refl
last_test false last other (inl h) then = absurd (cc h)
last_test false last other (inr e) then = then e

some_test : {X E : Type 0} (b : Bool) (fault : E) {x : X} → (b ≡ true)
    ⊎ (◌≡◌ {A = Result X E} (Err fault) (Ok x)) → b ≡ true
some_test b fault (inl h) = h
some_test b fault (inr e) = absurd (cc e)

-- each word in turn: what it asks of what follows it
query-is : (layout : Layout) (word : Text) (rest : List ℕ) (q : Query) → query_named layout word rest ≡ Ok q
    → IsQuery layout q
query-is layout word rest q e =
    let cell = record_in shapes.Cell (length layout.dims) rest in
    let box = record_in shapes.Box (length layout.dims) rest in
    let is_cell = cell-fields (length layout.dims) rest in
    let is_box = box-fields (length layout.dims) rest in
    by_test (bytes_eq word (codes "point")) e (fields-are layout cell queries.Point q is_cell) (λ e.
    by_test (bytes_eq word (codes "range")) e (fields-are layout box queries.Range q is_box) (λ e.
    by_test (bytes_eq word (codes "bounds")) e (fields-are layout cell queries.Bounds q is_cell) (λ e.
    by_test (bytes_eq word (codes "iceberg")) e (iceberg-is layout (words_of rest) q) (λ e.
    by_test (bytes_eq word (codes "parents")) e (fields-are layout cell queries.Parents q is_cell) (λ e.
    by_test (bytes_eq word (codes "children")) e (fields-are layout cell queries.Children q is_cell) (λ e.
    by_test (bytes_eq word (codes "rollup")) e (rollup-is layout rest q) (λ e. absurd (cc e))))))))

query-line : (layout : Layout) (line : List ℕ) (q : Query) → query_in_line layout line ≡ Ok q → IsQuery layout q
query-line layout line q e = by (bytes_eq line stats_line) e
  where
    by : (stats : Bool) → cond stats (Ok queries.Stats) (query_named layout (word_of line) (rest_of line)) ≡ Ok q
        → IsQuery layout q
    by true m = let same : queries.Stats ≡ q = cc in rw (← same) tt
    by false m = query-is layout (word_of line) (rest_of line) q m

asked-is : (layout : Layout) (read : Result Query LineFault) (make : Query → Question) (q : Question)
    → ((query : Query) → read ≡ Ok query → IsQuestion layout (make query)) → asked_with make read ≡ Ok q
    → IsQuestion layout q
asked-is layout (Err fault) make q made m = absurd (cc m)
asked-is layout (Ok query) make q made m = let same : make query ≡ q = cc in rw (← same) (made query refl)

-- ---- pins

-- the name of a pin
pin-is : (layout : Layout) (name : List ℕ) (make : Text → Question) (q : Question)
    → (is_pin_name name ≡ true → IsQuestion layout (make name)) → asked_with make (pin_name_in name) ≡ Ok q
    → IsQuestion layout q
pin-is layout name make q made e = by (is_pin_name name) refl e
  where
    by : (named : Bool) → is_pin_name name ≡ named
        → asked_with make (cond named (Ok name) (Err (faults.Field 1))) ≡ Ok q → IsQuestion layout q
    by true n m = let same : make name ≡ q = cc in rw (← same) (made n)
    by false n m = absurd (cc m)

-- what is asked of the rows of a name
at-is : (layout : Layout) (rest : List ℕ) (q : Question) → at_in layout rest ≡ Ok q → IsQuestion layout q
at-is layout rest q e = by (is_pin_name (word_of rest)) refl e
  where
    by : (named : Bool) → is_pin_name (word_of rest) ≡ named
        → cond named (asked_with (At (word_of rest)) (query_in_line layout (rest_of rest))) (Err (faults.Field 1))
        ≡ Ok q → IsQuestion layout q
    by true n m = asked-is layout (query_in_line layout (rest_of rest)) (At (word_of rest)) q
        (λ query e. (n, query-line layout (rest_of rest) query e)) m
    by false n m = absurd (cc m)

-- ---- each word

named-is : (layout : Layout) (word : Text) (rest : List ℕ) (q : Question) → command_named layout word rest ≡ Ok q
    → IsQuestion layout q
named-is layout word rest q e =
    by_test (bytes_eq word (codes "load")) e (file-is layout rest Load q (λ b bs. omega arith)) (λ e.
    by_test (bytes_eq word (codes "apply")) e (file-is layout rest Apply q (λ b bs. omega arith)) (λ e.
    by_test (bytes_eq word (codes "try")) e (file-is layout rest Try q (λ b bs. omega arith)) (λ e.
    by_test (bytes_eq word (codes "widen")) e (widened-is layout rest q) (λ e.
    by_test (bytes_eq word (codes "pin")) e (pin-is layout rest Pin q (λ n. n)) (λ e.
    by_test (bytes_eq word (codes "unpin")) e (pin-is layout rest Unpin q (λ n. n)) (λ e.
    by_test (bytes_eq word (codes "at")) e (at-is layout rest q) (λ e.
    asked-is layout (query_named layout word rest) Ask q (query-is layout word rest) e)))))))

pub line-is : (layout : Layout) (line : List ℕ) (r : Result Command LineRefused)
    → Gives line_fault_in question_in r (command_in layout line)
    → IfOk r (λ command. IsQuestion layout (question_in command))
line-is layout line (Err refused) h = tt
line-is layout line (Ok command) h = by (is_utf8 line) (bytes_eq line stats_line) h
  where
    by : (b stats : Bool) → cond b
        (cond stats (Ok (Ask queries.Stats)) (command_named layout (word_of line) (rest_of line))) (Err faults.Utf8)
        ≡ Ok (question_in command) → IsQuestion layout (question_in command)
    by true true m = let same : Ask queries.Stats ≡ question_in command = cc in rw (← same) tt
    by true false m = named-is layout (word_of line) (rest_of line) (question_in command) m
    by false stats m = absurd (cc m)

-- ---- which lines want memory

query-wants : (layout : Layout) (word : Text) (rest : List ℕ) (q : Query) → query_named layout word rest ≡ Ok q
    → names_query word ≡ true
query-wants layout word rest q e =
    let e = next_test false (bytes_eq word (codes "point")) _ _ (inr e) in
    let e = next_test _ (bytes_eq word (codes "range")) _ _ e in
    let e = next_test _ (bytes_eq word (codes "bounds")) _ _ e in
    let e = next_test _ (bytes_eq word (codes "iceberg")) _ _ e in
    let e = next_test _ (bytes_eq word (codes "parents")) _ _ e in
    let e = next_test _ (bytes_eq word (codes "children")) _ _ e in
    let e = next_test _ (bytes_eq word (codes "rollup")) _ _ e in
    some_test _ faults.Command e

present-wants : (layout : Layout) (word : Text) (rest : List ℕ) (read : Result Query LineFault) (q : Question)
    → query_named layout word rest ≡ read → asked_with Ask read ≡ Ok q → names_query word ≡ true
present-wants layout word rest (Err fault) q e m = absurd (cc m)
present-wants layout word rest (Ok query) q e m = query-wants layout word rest query e

named-wants : (layout : Layout) (word : Text) (rest : List ℕ) (q : Question) → command_named layout word rest ≡ Ok q
    → names_more word ≡ true
named-wants layout word rest q e =
    let e = next_test false (bytes_eq word (codes "load")) _ _ (inr e) in
    let e = next_test _ (bytes_eq word (codes "apply")) _ _ e in
    let e = next_test _ (bytes_eq word (codes "try")) _ _ e in
    let e = next_test _ (bytes_eq word (codes "widen")) _ _ e in
    let e = next_test _ (bytes_eq word (codes "pin")) _ _ e in
    let e = next_test _ (bytes_eq word (codes "unpin")) _ _ e in
    let e = next_test _ (bytes_eq word (codes "at")) _ _ e in
    last_test _ (names_query word) _ e (present-wants layout word rest (query_named layout word rest) q refl)

pub line-wants : (layout : Layout) (line : List ℕ) (q : Question) → command_in layout line ≡ Ok q → wants_memory q ≡ true
    → may_want_memory line ≡ true
line-wants layout line q h wants = by (is_utf8 line) (bytes_eq line stats_line) h
  where
    by : (b stats : Bool) → cond b
        (cond stats (Ok (Ask queries.Stats)) (command_named layout (word_of line) (rest_of line))) (Err faults.Utf8)
        ≡ Ok q → (b && names_more (word_of line)) ≡ true
    by true true m = let same : Ask queries.Stats ≡ q = cc in absurd (never (rw (← same) at wants))
      where
        never : wants_memory (Ask queries.Stats) ≡ true → ⊥
        never e = cc
    by true false m = named-wants layout (word_of line) (rest_of line) q m
    by false stats m = absurd (cc m)

pub reading-wants : (layout : Layout) (line : List ℕ) (r : Result Command LineRefused)
    → Gives line_fault_in question_in r (command_in layout line)
    → IfOk r (λ command. wants_memory (question_in command) ≡ true → may_want_memory line ≡ true)
reading-wants layout line (Err refused) h = tt
reading-wants layout line (Ok command) h = line-wants layout line (question_in command) h
