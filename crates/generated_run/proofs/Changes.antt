-- What drawn changes do to drawn rows.
use Rattle.std.proofs.Common.{◌≡◌, ◌∙◌, ℕ, zero, suc, ◌+◌, ◌<◌, ◌≤◌, Bool, true, false, List, [], ◌∷◌, ◌++◌, length, refl}
use Rattle.std.proofs.Common.{ap, ap₂, arith, None, Some, ne_eqb, filter, cond}
use Rattle.std.specs.Prelude.{◌==◌, ◌||◌, nat_lt, not, position}
use Rattle.std.specs.List.{AllByRecursion, list_any, position_or_len}
use Rattle.std.proofs.lemmas.Bool.Decides.{nat_tests}
use Rattle.std.proofs.lemmas.List.Folds.{list_any-append}
use Rattle.std.proofs.lemmas.List.Elements.{filter-append}
use Rattle.cube_defs.specs.Rows.{Row}
use Rattle.cube_defs.specs.Text.{Text}
use Rattle.cube_laws.proofs.CallerLemmas.{filter_all, filter_none}
use Rattle.csv_load.specs.Batch.{Change, Delete, Insert, deleted, inserted}
use Rattle.row_generator.specs.Drawn.{deletions, drawn_row, drawn_rows, insertions}
use Rattle.row_generator.specs.Generator.{after_draws, after_rows}
use Rattle.warehouse.specs.Batch.{first_twice, is_among, is_missing, is_present, same_change, twice_from}
use Rattle.warehouse.specs.State.{ids_of}

-- so many numbers, from this one on
abbrev pub numbers : ℕ → ℕ → List ℕ
numbers zero id = []
numbers (suc n) id = id ∷ numbers n (id + 1)

pub among-after : (n id j : ℕ) → id + n ≤ j → is_among j (numbers n id) ≡ false
among-after zero id j h = refl
among-after (suc n) id j h =
    rw (ne_eqb id j (λ e. absurd (omega (arith, e, h))), among-after n (id + 1) j (omega (arith, h))) refl

pub among-there : (n id j : ℕ) → id ≤ j → j < id + n → is_among j (numbers n id) ≡ true
among-there zero id j h k = absurd (omega (arith, h, k))
among-there (suc n) id j h k = by (id == j) refl (λ le. among-there n (id + 1) j le (omega (arith, k)))
  where
    by : (b : Bool) → (id == j) ≡ b → (id + 1 ≤ j → is_among j (numbers n (id + 1)) ≡ true)
        → (b || is_among j (numbers n (id + 1))) ≡ true
    by true e more = refl
    by false e more = more (grind (arith, nat_tests))

-- ---- the ids of drawn rows and changes

pub drawn-ids : (n id s : ℕ) → ids_of (drawn_rows n id s) ≡ numbers n id
unfolding drawn_row
drawn-ids zero id s = refl
drawn-ids (suc n) id s = ap (λ (ids : List ℕ). id ∷ ids) (drawn-ids n (id + 1) (after_draws 5 s))

pub drawn-length : (n id s : ℕ) → length (drawn_rows n id s) ≡ n
drawn-length zero id s = refl
drawn-length (suc n) id s = ap suc (drawn-length n (id + 1) (after_draws 5 s))

none-deleted : (rows : List (Row Text)) → deleted (insertions rows) ≡ []
none-deleted [] = refl
none-deleted (row ∷ rows) = none-deleted rows

pub all-inserted : (rows : List (Row Text)) → inserted (insertions rows) ≡ rows
all-inserted [] = refl
all-inserted (row ∷ rows) = ap (λ (rs : List (Row Text)). row ∷ rs) (all-inserted rows)

pub deleted-ids : (n id : ℕ) (rows : List (Row Text)) → deleted (deletions n id ++ insertions rows) ≡ numbers n id
deleted-ids zero id rows = none-deleted rows
deleted-ids (suc n) id rows = ap (λ (ids : List ℕ). id ∷ ids) (deleted-ids n (id + 1) rows)

pub inserted-rows : (n id : ℕ) (rows : List (Row Text)) → inserted (deletions n id ++ insertions rows) ≡ rows
inserted-rows zero id rows = all-inserted rows
inserted-rows (suc n) id rows = inserted-rows n (id + 1) rows

-- ---- no change stands twice

-- no change of the list deletes a number from d on, or inserts one from i on
record IsFresh (d i : ℕ) (changes : List (Change Text)) : Type 0 where
  gone : (j : ℕ) → d ≤ j → list_any (same_change (Delete j)) changes ≡ false
  come : (row : Row Text) → i ≤ row.id → list_any (same_change (Insert row)) changes ≡ false

one-more : (test : Change Text → Bool) (changes : List (Change Text)) (change : Change Text)
    → list_any test changes ≡ false → test change ≡ false → list_any test (changes ++ change ∷ []) ≡ false
one-more test changes change h k = list_any-append test changes (change ∷ []) ∙ rw (h, k) refl

fresh-deletion : (d i : ℕ) (changes : List (Change Text)) → IsFresh d i changes
    → IsFresh (d + 1) i (changes ++ Delete d ∷ [])
fresh-deletion d i changes h = record {
  gone = λ j le. one-more (same_change (Delete j)) changes (Delete d) (h.gone j (omega (arith, le)))
      (ne_eqb j d (λ e. absurd (omega (arith, e, le))));
  come = λ row le. one-more (same_change (Insert row)) changes (Delete d) (h.come row le) refl;
}

fresh-insertion : (d i s : ℕ) (changes : List (Change Text)) → IsFresh d i changes
    → IsFresh d (i + 1) (changes ++ Insert (drawn_row i s) ∷ [])
unfolding drawn_row
fresh-insertion d i s changes h = record {
  gone = λ j le. one-more (same_change (Delete j)) changes (Insert (drawn_row i s)) (h.gone j le) refl;
  come = λ row le. one-more (same_change (Insert row)) changes (Insert (drawn_row i s))
      (h.come row (omega (arith, le))) (ne_eqb row.id i (λ e. absurd (omega (arith, e, le))));
}

once-inserted : (n k d i s : ℕ) (before : List (Change Text)) → IsFresh d i before
    → twice_from k before (insertions (drawn_rows n i s)) ≡ None
unfolding drawn_row
once-inserted zero k d i s before h = refl
once-inserted (suc n) k d i s before h =
    rw (h.come (drawn_row i s) (omega arith))
    (once-inserted n (k + 1) d (i + 1) (after_draws 5 s) (before ++ Insert (drawn_row i s) ∷ [])
    (fresh-insertion d i s before h))

once-deleted : (n k d m i s : ℕ) (before : List (Change Text)) → IsFresh d i before
    → twice_from k before (deletions n d ++ insertions (drawn_rows m i s)) ≡ None
once-deleted zero k d m i s before h = once-inserted m k d i s before h
once-deleted (suc n) k d m i s before h =
    rw (h.gone d (omega arith))
    (once-deleted n (k + 1) (d + 1) m i s (before ++ Delete d ∷ []) (fresh-deletion d i before h))

pub once : (n d m i s : ℕ) → first_twice (deletions n d ++ insertions (drawn_rows m i s)) ≡ None
once n d m i s = once-deleted n 1 d m i s [] (record { gone = λ j le. refl; come = λ row le. refl })

-- ---- no change passes a test

pub none-passes : {X : Type 0} (test : X → Bool) (xs : List X) → AllByRecursion (λ x. test x ≡ false) xs
    → position test xs ≡ None
none-passes test xs h =
    let last : nat_lt (position_or_len test xs) (length xs) ≡ false = grind (arith, nat_tests, at-end test xs h) in
    ap (λ (b : Bool). cond b (Some (position_or_len test xs)) None) last
  where
    at-end : {X : Type 0} (test : X → Bool) (xs : List X) → AllByRecursion (λ x. test x ≡ false) xs
        → position_or_len test xs ≡ length xs
    at-end test [] h = refl
    at-end test (x ∷ xs) h = rw h.0 (omega (arith, at-end test xs h.1))

module _ (ids : List ℕ) where
  insertions-not-missing : (rows : List (Row Text))
      → AllByRecursion (λ change. is_missing ids change ≡ false) (insertions rows)
  insertions-not-missing [] = tt
  insertions-not-missing (row ∷ rows) = (refl, insertions-not-missing rows)

  -- deletions of numbers that are there
  pub none-missing : (n id : ℕ) (rows : List (Row Text))
      → ((j : ℕ) → id ≤ j → j < id + n → is_among j ids ≡ true)
      → AllByRecursion (λ change. is_missing ids change ≡ false) (deletions n id ++ insertions rows)
  none-missing zero id rows h = insertions-not-missing rows
  none-missing (suc n) id rows h = (
    ap not (h id (omega arith) (omega arith)),
    none-missing n (id + 1) rows (λ j le lt. h j (omega (arith, le)) (omega (arith, lt))),
  )

  module _ (gone : List ℕ) where
    insertions-not-present : (n id s : ℕ) → ((j : ℕ) → id ≤ j → is_among j ids ≡ false)
        → AllByRecursion (λ change. is_present ids gone change ≡ false) (insertions (drawn_rows n id s))
    unfolding drawn_row
    insertions-not-present zero id s h = tt
    insertions-not-present (suc n) id s h = (
      rw (h id (omega arith)) refl,
      insertions-not-present n (id + 1) (after_draws 5 s) (λ j le. h j (omega (arith, le))),
    )

    -- insertions of numbers that aren't there
    pub none-present : (k d n id s : ℕ) → ((j : ℕ) → id ≤ j → is_among j ids ≡ false)
        → AllByRecursion (λ change. is_present ids gone change ≡ false)
        (deletions k d ++ insertions (drawn_rows n id s))
    none-present zero d n id s h = insertions-not-present n id s h
    none-present (suc k) d n id s h = (refl, none-present k (d + 1) n id s h)

-- ---- the rows after a batch

pub more-draws : (a b s : ℕ) → after_rows (a + b) s ≡ after_rows b (after_rows a s)
more-draws zero b s = let e : 0 + b ≡ b = omega arith in rw e refl
more-draws (suc a) b s = let e : suc a + b ≡ suc (a + b) = omega arith in rw e (more-draws a b (after_draws 5 s))

pub drawn-append : (a b id s : ℕ)
    → drawn_rows (a + b) id s ≡ drawn_rows a id s ++ drawn_rows b (id + a) (after_rows a s)
drawn-append zero b id s =
    let e : 0 + b ≡ b = omega arith in
    let f : id + 0 ≡ id = omega arith in
    rw (e, f) refl
drawn-append (suc a) b id s =
    let e : suc a + b ≡ suc (a + b) = omega arith in
    let f : id + 1 + a ≡ id + suc a = omega arith in
    rw e (ap (λ (rows : List (Row Text)). drawn_row id s ∷ rows) (drawn-append a b (id + 1) (after_draws 5 s)
    ∙ ap (λ (i : ℕ). drawn_rows a (id + 1) (after_draws 5 s) ++ drawn_rows b i (after_rows a (after_draws 5 s))) f))

-- all rows with numbers in a range pass a test or not
drawn-all : (test : ℕ → Bool) (b : Bool) (n id s : ℕ) → ((j : ℕ) → id ≤ j → j < id + n → test j ≡ b)
    → AllByRecursion (λ (row : Row Text). test row.id ≡ b) (drawn_rows n id s)
unfolding drawn_row
drawn-all test b zero id s h = tt
drawn-all test b (suc n) id s h = (
  h id (omega arith) (omega arith),
  drawn-all test b n (id + 1) (after_draws 5 s) (λ j le lt. h j (omega (arith, le)) (omega (arith, lt))),
)

-- the oldest rows go
pub oldest-go : (a b id s : ℕ)
    → filter (λ (row : Row Text). not (is_among row.id (numbers a id))) (drawn_rows (a + b) id s)
    ≡ drawn_rows b (id + a) (after_rows a s)
oldest-go a b id s =
    let stays : Row Text → Bool = λ row. not (is_among row.id (numbers a id)) in
    let test : ℕ → Bool = λ j. not (is_among j (numbers a id)) in
    ap (filter stays) (drawn-append a b id s)
    ∙ filter-append stays (drawn_rows a id s) (drawn_rows b (id + a) (after_rows a s))
    ∙ ap₂ (λ (xs ys : List (Row Text)). xs ++ ys)
    (filter_none stays (drawn_rows a id s)
    (drawn-all test false a id s (λ j le lt. ap not (among-there a id j le lt))))
    (filter_all stays (drawn_rows b (id + a) (after_rows a s))
    (drawn-all test true b (id + a) (after_rows a s) (λ j le lt. ap not (among-after a id j le))))
