-- No generated file is refused.
use Rattle.std.proofs.Common.{◌≡◌, ◌∙◌, ℕ, zero, suc, ◌+◌, ◌*◌, ◌-◌, ◌<◌, ◌≤◌, Bool, true, false, List, [], ◌∷◌, ◌++◌, length, refl, sym}
use Rattle.std.proofs.Common.{ap, ap₂, arith, None, cond, filter, min, subst}
use Rattle.std.specs.Prelude.{Option, Result, Ok, IsOk, is_ok, nat_lt, not, fold, is_some, option_map}
use Rattle.std.specs.List.{AllByRecursion}
use Rattle.std.proofs.lemmas.Bool.{le-ltb}
use Rattle.std.proofs.lemmas.List.{length-append}
use Rattle.std.proofs.lemmas.Nat.{mul-le}
use Rattle.cube_defs.specs.Rows.{Row}
use Rattle.cube_defs.specs.Text.{Text, text_cmp}
use Rattle.cube_defs.specs.Tree.{classes, nodes}
use Rattle.cube_defs.specs.declared.limits.TheConstants.{MAX_CODES, MAX_ROWS}
use Rattle.csv_load.specs.Batch.{Change, deleted}
use Rattle.csv_load.specs.Faults.{Fault}
use Rattle.csv_load.specs.Files.{base_in, batch_in}
use Rattle.qc_schema.specs.declared.limits.TheConstants.{DEFAULT_NODES}
use Rattle.value_dict.specs.TextLists.{code_in, learnt_in}
use Rattle.row_generator.specs.Drawn.{base_changes, batch_changes, deletions, drawn_rows, insertions, layout}
use Rattle.row_generator.specs.Generator.{after_rows, base_text, batch_rows, batch_text, oldest_id}
use Rattle.row_generator.specs.declared.files.TheConstants.{BATCHES}
use Rattle.warehouse.specs.Batch.{Applied, Apply, Load, Refusal, after, first_number, first_twice, full_dim, is_among, is_missing}
use Rattle.warehouse.specs.Batch.{is_present, refusal_of, result, result_of, rows_after, texts_after, unless, with_row, with_tuple}
use Rattle.generated_run.specs.Generated.{batch_at, batches_taken, file_taken, filled, generated_state, state_after, state_before}
use Rattle.warehouse.specs.State.{State, empty, ids_of}
use Rattle.generated_run.proofs.Changes.{all-inserted, among-after, among-there, deleted-ids, drawn-append, drawn-ids, drawn-length}
use Rattle.generated_run.proofs.Changes.{inserted-rows, more-draws, none-missing, none-passes, none-present, numbers, oldest-go, once}

-- ---- the texts of a dimension are no more than the rows that came

abbrev pub AreFew : ℕ → List (List Text) → Type 0
AreFew most lists = AllByRecursion (λ texts. length texts ≤ most) lists

learnt-few : (texts : List Text) (text : Text) (most : ℕ) → length texts ≤ most → length (learnt_in texts text) ≤ most + 1
learnt-few texts text most h = by (is_some (code_in texts text))
  where
    by : (b : Bool) → length (cond b texts (texts ++ text ∷ [])) ≤ most + 1
    by true = omega (arith, h)
    by false = omega (arith, h, length-append texts (text ∷ []))

wider : (lists : List (List Text)) (most more : ℕ) → most ≤ more → AreFew most lists → AreFew more lists
wider [] most more le h = tt
wider (texts ∷ lists) most more le h = (omega (arith, h.0, le), wider lists most more le h.1)

tuple-few : (lists : List (List Text)) (tuple : List Text) (most : ℕ) → AreFew most lists
    → AreFew (most + 1) (with_tuple lists tuple)
tuple-few [] tuple most h = tt
tuple-few (texts ∷ lists) [] most h = wider (texts ∷ lists) most (most + 1) (omega arith) h
tuple-few (texts ∷ lists) (text ∷ tuple) most h
    = (learnt-few texts text most h.0, tuple-few lists tuple most h.1)

rows-few : (rows : List (Row Text)) (lists : List (List Text)) (most : ℕ) → AreFew most lists
    → AreFew (most + length rows) (fold with_row lists rows)
rows-few [] lists most h = wider lists most (most + 0) (omega arith) h
rows-few (row ∷ rows) lists most h =
    wider (fold with_row (with_row lists row) rows) (most + 1 + length rows) (most + suc (length rows)) (omega arith)
    (rows-few rows (with_row lists row) (most + 1) (tuple-few lists row.tuple most h))

not-full : (lists : List (List Text)) (most max : ℕ) → most ≤ max → AreFew most lists
    → AllByRecursion (λ texts. nat_lt max (length texts) ≡ false) lists
not-full [] most max le h = tt
not-full (texts ∷ lists) most max le h
    = (le-ltb max (length texts) (omega (arith, h.0, le)), not-full lists most max le h.1)

-- ---- changes that are not refused

record AreAccepted (s : State) (changes : List (Change Text)) : Type 0 where
  once : first_twice changes ≡ None
  there : first_number (is_missing (ids_of s.rows)) changes ≡ None
  new : first_number (is_present (ids_of s.rows) (deleted changes)) changes ≡ None
  rows : length (rows_after s.rows changes) ≤ s.schema.rows
  texts : full_dim s.schema.values (texts_after s.texts changes) ≡ None
  nodes : length (nodes text_cmp (rows_after s.rows changes)) ≤ s.schema.nodes

accepted : (s : State) (changes : List (Change Text)) → AreAccepted s changes → refusal_of s changes ≡ None
accepted s changes h = rw (
  h.once,
  h.there,
  h.new,
  h.texts,
  le-ltb s.schema.rows (length (rows_after s.rows changes)) h.rows,
  le-ltb s.schema.nodes (length (nodes text_cmp (rows_after s.rows changes))) h.nodes,
) refl

-- what changes that are accepted leave
taken : (s : State) (read : Result (List (Change Text)) Fault) (changes : List (Change Text)) → read ≡ Ok changes
    → AreAccepted s changes → (applied : Applied) × (result_of s read ≡ Ok applied) × (applied.state ≡ after s changes)
taken s read changes e h =
    let applied : Applied = record {
      records = length changes;
      classes = length (classes text_cmp (rows_after s.rows changes));
      state = after s changes;
    } in
    (applied, ap (result_of s) e ∙ ap (λ (o : Option Refusal). unless o applied) (accepted s changes h), refl)

-- ---- the state after some batches

pub record Holds (rows seed before : ℕ) (state : State) : Type 0 where
  pub schema : state.schema ≡ layout
  pub rows-are : state.rows ≡ drawn_rows rows (oldest_id rows before) (after_rows (before * batch_rows rows) seed)
  pub texts : AreFew (rows + before * batch_rows rows) state.texts

rows-then : (old new : List (Row Text)) (k d : ℕ) → rows_after old (deletions k d ++ insertions new)
    ≡ filter (λ (row : Row Text). not (is_among row.id (numbers k d))) old ++ new
rows-then old new k d
    = ap₂ (λ (ids : List ℕ) (rows : List (Row Text)).
    filter (λ (row : Row Text). not (is_among row.id ids)) old ++ rows) (deleted-ids k d new) (inserted-rows k d new)

-- the state of the draws after so many rows more
pub draws-then : (a b c s : ℕ) → a + b ≡ c → after_rows b (after_rows a s) ≡ after_rows c s
draws-then a b c s e = sym (more-draws a b s) ∙ ap (λ (n : ℕ). after_rows n s) e

rows-next : (n k before seed : ℕ) → k ≤ n
    → rows_after (drawn_rows n (before * k + 1) (after_rows (before * k) seed))
    (deletions k (before * k + 1)
    ++ insertions (drawn_rows k (n + (before * k + 1)) (after_rows (n + before * k) seed)))
    ≡ drawn_rows n ((before + 1) * k + 1) (after_rows ((before + 1) * k) seed)
rows-next n k before seed le =
    let d = before * k + 1 in
    let s = after_rows (before * k) seed in
    let t = after_rows k s in
    let new = drawn_rows k (n + d) (after_rows (n + before * k) seed) in
    let parts : k + (n - k) ≡ n = omega (arith, le) in
    let whole : n - k + k ≡ n = omega (arith, le) in
    let first : d + k ≡ (before + 1) * k + 1 = omega arith in
    let draws : after_rows (n - k) t ≡ after_rows (n + before * k) seed
    = draws-then k (n - k) n s parts ∙ draws-then (before * k) n (n + before * k) seed (omega arith) in
    let last : d + k + (n - k) ≡ n + d = omega (arith, le) in
    let old : filter (λ (row : Row Text). not (is_among row.id (numbers k d))) (drawn_rows n d s)
    ≡ drawn_rows (n - k) (d + k) t
    = ap (λ (m : ℕ). filter (λ (row : Row Text). not (is_among row.id (numbers k d))) (drawn_rows m d s)) (sym parts)
    ∙ oldest-go k (n - k) d s in
    rows-then (drawn_rows n d s) new k d
    ∙ ap (λ (rows : List (Row Text)). rows ++ new) old
    ∙ ap₂ (λ (i u : ℕ). drawn_rows (n - k) (d + k) t ++ drawn_rows k i u) (sym last) (sym draws)
    ∙ sym (drawn-append (n - k) k (d + k) t)
    ∙ ap (λ (m : ℕ). drawn_rows m (d + k) t) whole
    ∙ ap₂ (λ (i u : ℕ). drawn_rows n i u) first (draws-then (before * k) k ((before + 1) * k) seed (omega arith))

few-in-batch : (rows : ℕ) → batch_rows rows ≤ rows
unfolding batch_rows
few-in-batch rows = omega arith

few-in-batches : (rows before : ℕ) → before ≤ 40 → before * batch_rows rows ≤ 2000
unfolding batch_rows
few-in-batches rows before h = mul-le before (min rows 50) 40 50 h (omega arith)

-- where drawn rows have few nodes
module _ (few-nodes : (n id s : ℕ) → length (nodes text_cmp (drawn_rows n id s)) ≤ 284130) where
  -- ---- one batch

  module _ (rows seed before : ℕ) (small : rows ≤ MAX_ROWS) (early : before < BATCHES) (state : State)
      (h : Holds rows seed before state) where
    abbrev draws : ℕ
    draws = after_rows (rows + before * batch_rows rows) seed

    abbrev changes : List (Change Text)
    changes = batch_changes rows before draws

    left : rows_after state.rows changes
        ≡ drawn_rows rows (oldest_id rows (before + 1)) (after_rows ((before + 1) * batch_rows rows) seed)
    left = ap (λ (rs : List (Row Text)). rows_after rs changes) h.rows-are
        ∙ rows-next rows (batch_rows rows) before seed (few-in-batch rows)

    ids : ids_of state.rows ≡ numbers rows (oldest_id rows before)
    ids = ap ids_of h.rows-are
        ∙ drawn-ids rows (oldest_id rows before) (after_rows (before * batch_rows rows) seed)

    texts-left : AreFew (rows + (before + 1) * batch_rows rows) (texts_after state.texts changes)
    texts-left =
        let new = drawn_rows (batch_rows rows) (rows + oldest_id rows before) draws in
        let count = drawn-length (batch_rows rows) (rows + oldest_id rows before) draws in
        rw (inserted-rows (batch_rows rows) (oldest_id rows before) new)
        (wider (fold with_row state.texts new) (rows + before * batch_rows rows + length new)
        (rows + (before + 1) * batch_rows rows) (omega (arith, count))
        (rows-few new state.texts (rows + before * batch_rows rows) h.texts))

    batch-accepted : AreAccepted state changes
    batch-accepted =
        let k = batch_rows rows in
        let d = oldest_id rows before in
        let most : MAX_ROWS ≡ 1000000 = refl in
        let values : MAX_CODES ≡ 4000000 = refl in
        let limit : DEFAULT_NODES ≡ 1000000 = refl in
        let times : BATCHES ≡ 40 = refl in
        let new = drawn_rows k (rows + d) draws in
        let number : Option ℕ → Option ℕ = λ o. option_map suc o in
        let next = drawn_rows rows (oldest_id rows (before + 1)) (after_rows ((before + 1) * k) seed) in
        record {
          once = once k d k (rows + d) draws;
          there = ap number (none-passes (is_missing (ids_of state.rows)) changes
              (none-missing (ids_of state.rows) k d new (λ j le lt. ap (is_among j) ids
              ∙ among-there rows d j le (omega (arith, lt, few-in-batch rows)))));
          new = ap number (none-passes (is_present (ids_of state.rows) (deleted changes)) changes
              (none-present (ids_of state.rows) (deleted changes) k d k (rows + d) draws (λ j le. ap (is_among j) ids
              ∙ among-after rows d j (omega (arith, le)))));
          rows = omega (
            arith,
            ap length left,
            drawn-length rows (oldest_id rows (before + 1)) (after_rows ((before + 1) * k) seed),
            ap (λ l. l.rows) h.schema,
            small,
          );
          texts = none-passes (λ texts. nat_lt state.schema.values (length texts)) (texts_after state.texts changes)
              (not-full (texts_after state.texts changes) (rows + (before + 1) * k) state.schema.values (omega (
                arith,
                few-in-batches rows (before + 1) (omega (arith, early, times)),
                ap (λ l. l.values) h.schema,
                small,
                most,
                values,
              )) texts-left);
          nodes = omega (
            arith,
            ap (λ (rs : List (Row Text)). length (nodes text_cmp rs)) left,
            few-nodes rows (oldest_id rows (before + 1)) (after_rows ((before + 1) * k) seed),
            ap (λ l. l.nodes) h.schema,
            limit,
          );
        }

    holds-after : Holds rows seed (before + 1) (after state changes)
    holds-after = record { schema = h.schema; rows-are = left; texts = texts-left }

    -- the batch is taken, and leaves the next state
    pub batch-taken : batch_in layout (batch_at rows seed before) ≡ Ok changes
        → (applied : Applied) × (result state Apply (batch_at rows seed before) ≡ Ok applied)
        × Holds rows seed (before + 1) applied.state
    batch-taken read =
        let t = taken state (batch_in state.schema (batch_at rows seed before)) changes
        (ap (λ l. batch_in l (batch_at rows seed before)) h.schema ∙ read) batch-accepted in
        (t.0, t.1, subst (Holds rows seed (before + 1)) (sym t.2) holds-after)

  -- ---- all files

  module _ (base-read : (rows seed : ℕ) → rows ≤ MAX_ROWS → base_in layout (base_text rows seed)
      ≡ Ok (base_changes rows seed))
      (batch-read : (rows before draws : ℕ) → rows ≤ MAX_ROWS → before < BATCHES
      → batch_in layout (batch_text rows before draws) ≡ Ok (batch_changes rows before draws)) where
    module _ (rows seed : ℕ) (small : rows ≤ MAX_ROWS) where
      base-left : rows_after [] (base_changes rows seed) ≡ drawn_rows rows 1 seed
      base-left = all-inserted (drawn_rows rows 1 seed)

      base-texts : AreFew rows (texts_after (empty layout).texts (base_changes rows seed))
      base-texts =
          let new = drawn_rows rows 1 seed in
          rw (all-inserted new) (wider (fold with_row (empty layout).texts new) (0 + length new) rows
          (omega (arith, drawn-length rows 1 seed))
          (rows-few new (empty layout).texts 0 (
            omega arith,
            (
              omega arith,
              (
                omega arith,
                (
                  omega arith,
                  (
                    omega arith,
                    tt,
                  ),
                ),
              ),
            ),
          )))

      base-accepted : AreAccepted (empty layout) (base_changes rows seed)
      base-accepted =
          let values : MAX_CODES ≡ 4000000 = refl in
          let most : MAX_ROWS ≡ 1000000 = refl in
          let limit : DEFAULT_NODES ≡ 1000000 = refl in
          let changes = base_changes rows seed in
          let number : Option ℕ → Option ℕ = λ o. option_map suc o in
          record {
            once = once 0 0 rows 1 seed;
            there = ap number (none-passes (is_missing []) changes
                (none-missing [] 0 0 (drawn_rows rows 1 seed) (λ j le lt. absurd (omega (arith, le, lt)))));
            new = ap number (none-passes (is_present [] (deleted changes)) changes
                (none-present [] (deleted changes) 0 0 rows 1 seed (λ j le. refl)));
            rows = omega (arith, ap length base-left, drawn-length rows 1 seed, small);
            texts = none-passes (λ texts. nat_lt MAX_CODES (length texts))
                (texts_after (empty layout).texts changes)
                (not-full (texts_after (empty layout).texts changes) rows MAX_CODES
                (omega (arith, small, most, values)) base-texts);
            nodes = omega (
              arith,
              ap (λ (rs : List (Row Text)). length (nodes text_cmp rs)) base-left,
              few-nodes rows 1 seed,
              limit,
            );
          }

      base-holds : Holds rows seed 0 (after (empty layout) (base_changes rows seed))
      base-holds =
          let none : 0 ≡ 0 * batch_rows rows = omega arith in
          record {
            schema = refl;
            rows-are = base-left
                ∙ ap (λ (n : ℕ). drawn_rows rows (n + 1) (after_rows n seed)) none;
            texts = wider (texts_after (empty layout).texts (base_changes rows seed)) rows
                (rows + 0 * batch_rows rows) (omega arith) base-texts;
          }

      -- the base file is taken, and leaves the first state
      base-taken : (applied : Applied) × (result (empty layout) Load (base_text rows seed) ≡ Ok applied)
          × Holds rows seed 0 applied.state
      base-taken =
          let t = taken (empty layout) (base_in layout (base_text rows seed)) (base_changes rows seed)
          (base-read rows seed small) base-accepted in
          (t.0, t.1, subst (Holds rows seed 0) (sym t.2) base-holds)

      batches-hold : (m before draws : ℕ) (state : State) → before + m ≤ BATCHES
          → draws ≡ after_rows (rows + before * batch_rows rows) seed → Holds rows seed before state
          → Holds rows seed (before + m) (batches_taken m rows before draws state)
      unfolding batches_taken file_taken
      batches-hold zero before draws state le e h =
          let same : before ≡ before + 0 = omega arith in
          subst (λ (n : ℕ). Holds rows seed n state) same h
      batches-hold (suc m) before draws state le e h =
          let k = batch_rows rows in
          let early : before < BATCHES = omega (arith, le) in
          let t = batch-taken rows seed before small early state h (batch-read rows before
          (after_rows (rows + before * k) seed) small early) in
          let next : file_taken state Apply (batch_text rows before draws) ≡ t.0.state
          = ap (λ (d : ℕ). state_after state (result state Apply (batch_text rows before d))) e
          ∙ ap (state_after state) t.1 in
          let more : after_rows k draws ≡ after_rows (rows + (before + 1) * k) seed = ap (after_rows k) e
          ∙ draws-then (rows + before * k) k (rows + (before + 1) * k) seed (omega arith) in
          let same : before + 1 + m ≡ before + suc m = omega arith in
          subst (λ (n : ℕ). Holds rows seed n (batches_taken (suc m) rows before draws state)) same
          (batches-hold m (before + 1) (after_rows k draws) (file_taken state Apply (batch_text rows before draws))
          (omega (arith, le)) more (subst (Holds rows seed (before + 1)) (sym next) t.2))

      state-holds : (before : ℕ) → before ≤ BATCHES → Holds rows seed before (state_before rows seed before)
      unfolding state_before file_taken
      state-holds before le =
          let t = base-taken in
          let none : rows ≡ rows + 0 * batch_rows rows = omega arith in
          let same : 0 + before ≡ before = omega arith in
          let first : file_taken (empty layout) Load (base_text rows seed) ≡ t.0.state
          = ap (state_after (empty layout)) t.1 in
          subst (λ (n : ℕ). Holds rows seed n (state_before rows seed before)) same
          (batches-hold before 0 (after_rows rows seed) (file_taken (empty layout) Load (base_text rows seed))
          (omega (arith, le)) (ap (λ (n : ℕ). after_rows n seed) none)
          (subst (Holds rows seed 0) (sym first) t.2))

    pub base-is-accepted : (rows seed : ℕ) → rows ≤ MAX_ROWS
        → IsOk (result (empty layout) Load (base_text rows seed))
    base-is-accepted rows seed small = ap is_ok (base-taken rows seed small).1

    pub batch-is-accepted : (rows seed before : ℕ) → rows ≤ MAX_ROWS → before < BATCHES
        → IsOk (result (state_before rows seed before) Apply (batch_at rows seed before))
    batch-is-accepted rows seed before small early = ap is_ok
        (batch-taken rows seed before small early (state_before rows seed before)
        (state-holds rows seed small before (omega (arith, early)))
        (batch-read rows before (after_rows (rows + before * batch_rows rows) seed) small early)).1

    pub rows-before : (rows seed before : ℕ) → rows ≤ MAX_ROWS → before ≤ BATCHES
        → (state_before rows seed before).rows
        ≡ drawn_rows rows (oldest_id rows before) (after_rows (before * batch_rows rows) seed)
    rows-before rows seed before small le = (state-holds rows seed small before le).rows-are

-- ---- what the states are

pub state-at-the-start : (rows seed : ℕ)
    → state_before rows seed 0 ≡ file_taken (empty layout) Load (base_text rows seed)
unfolding state_before batches_taken
state-at-the-start rows seed = refl

batches-last : (n rows before draws : ℕ) (state : State)
    → batches_taken (suc n) rows before draws state
    ≡ file_taken (batches_taken n rows before draws state) Apply
    (batch_text rows (before + n) (after_rows (n * batch_rows rows) draws))
unfolding batches_taken
batches-last zero rows before draws state =
    let same : before ≡ before + 0 = omega arith in
    let none : 0 ≡ 0 * batch_rows rows = omega arith in
    ap₂ (λ (b n : ℕ). file_taken state Apply (batch_text rows b (after_rows n draws))) same none
batches-last (suc n) rows before draws state =
    let k = batch_rows rows in
    let next = file_taken state Apply (batch_text rows before draws) in
    let same : before + 1 + n ≡ before + suc n = omega arith in
    batches-last n rows (before + 1) (after_rows k draws) next
    ∙ ap₂ (λ (b d : ℕ). file_taken (batches_taken n rows (before + 1) (after_rows k draws) next) Apply
    (batch_text rows b d)) same (draws-then k (n * k) (suc n * k) draws (omega arith))

pub state-after-a-batch : (rows seed before : ℕ) → state_before rows seed (before + 1)
    ≡ file_taken (state_before rows seed before) Apply (batch_at rows seed before)
unfolding state_before
state-after-a-batch rows seed before =
    let first = file_taken (empty layout) Load (base_text rows seed) in
    let k = batch_rows rows in
    let one : before + 1 ≡ suc before = omega arith in
    let same : 0 + before ≡ before = omega arith in
    ap (λ (n : ℕ). batches_taken n rows 0 (after_rows rows seed) first) one
    ∙ batches-last before rows 0 (after_rows rows seed) first
    ∙ ap₂ (λ (b d : ℕ). file_taken (batches_taken before rows 0 (after_rows rows seed) first) Apply
    (batch_text rows b d)) same (draws-then rows (before * k) (rows + before * k) seed refl)

pub state-at-the-end : (rows seed : ℕ) → generated_state rows seed ≡ state_before rows seed BATCHES
unfolding generated_state filled state_before
state-at-the-end rows seed = refl
