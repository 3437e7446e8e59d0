-- Changes by their numbers.
use Rattle.std.proofs.Common.{◌≡◌, ◌<◌, ◌≤◌, ◌+◌, ◌-◌, ◌∙◌, ℕ, ℤ, zero, suc, List, [], ◌∷◌, ◌++◌, Bool, true, false, Option, Some, None}
use Rattle.std.proofs.Common.{length, get_or, take, drop, refl, sym, ap, ap₂, arith, add-one, append-nil, append_assoc, position, subst}
use Rattle.std.specs.Prelude.{◌||◌, not, nat_eq, option_map}
use Rattle.std.specs.List.{list_any, position_or_len}
use Rattle.std.proofs.lemmas.List.{drop_more, length-append, take_more}
use Rattle.std.proofs.lemmas.List.Sums.{position_or_len_is}
use Rattle.value_dict.proofs.CallerLemmas.{none_passes}
use Rattle.base_table.specs.Places.{has_id}
use Rattle.cube_defs.specs.Rows.{Row}
use Rattle.cube_defs.specs.Text.{Text}
use Rattle.csv_load.specs.Batch.{Change, Delete, Insert, change_at, deleted, id_of, inserted, is_deletion, row_of}
use Rattle.warehouse.specs.Batch.{first_number, first_twice, is_among, is_missing, same_change, twice_from}
use Rattle.warehouse.specs.State.{ids_of}
use Rattle.warehouse.proofs.Rows.{among-turned}
use Rattle.warehouse.specs.Steps.{AreChangeIds, is_there}

abbrev pub tuple_of : Change Text → List Text
tuple_of c = (row_of c).tuple

abbrev pub amounts_of : Change Text → List ℤ
amounts_of c = (row_of c).amounts

pub change-at : (changes : List (Change Text)) (k : ℕ) → change_at changes (k + 1) ≡ get_or changes k (Delete 0)
change-at changes k = let same : k + 1 - 1 ≡ k = omega arith in ap (λ (n : ℕ). get_or changes n (Delete 0)) same

pub one-before : (changes : List (Change Text)) (k : ℕ) → take (k + 1 - 1) changes ≡ take k changes
one-before changes k = let same : k + 1 - 1 ≡ k = omega arith in ap (λ (n : ℕ). take n changes) same

deleted-append : (xs ys : List (Change Text)) → deleted (xs ++ ys) ≡ deleted xs ++ deleted ys
deleted-append [] ys = refl
deleted-append (Delete id ∷ xs) ys = ap (λ (ids : List ℕ). id ∷ ids) (deleted-append xs ys)
deleted-append (Insert row ∷ xs) ys = deleted-append xs ys

pub inserted-append : (xs ys : List (Change Text)) → inserted (xs ++ ys) ≡ inserted xs ++ inserted ys
inserted-append [] ys = refl
inserted-append (Delete id ∷ xs) ys = inserted-append xs ys
inserted-append (Insert row ∷ xs) ys = ap (λ (rows : List (Row Text)). row ∷ rows) (inserted-append xs ys)

pub take-change : (changes : List (Change Text)) (k : ℕ) → k < length changes
    → take (k + 1) changes ≡ take k changes ++ change_at changes (k + 1) ∷ []
take-change changes k lt = take_more changes k (Delete 0) lt
    ∙ ap (λ (c : Change Text). take k changes ++ c ∷ []) (sym (change-at changes k))

deleted-more : (changes : List (Change Text)) (k : ℕ) → k < length changes
    → deleted (take (k + 1) changes) ≡ deleted (take k changes) ++ deleted (change_at changes (k + 1) ∷ [])
deleted-more changes k lt = ap (λ (cs : List (Change Text)). deleted cs) (take-change changes k lt)
    ∙ deleted-append (take k changes) (change_at changes (k + 1) ∷ [])

pub inserted-more : (changes : List (Change Text)) (k : ℕ) → k < length changes
    → inserted (take (k + 1) changes) ≡ inserted (take k changes) ++ inserted (change_at changes (k + 1) ∷ [])
inserted-more changes k lt = ap (λ (cs : List (Change Text)). inserted cs) (take-change changes k lt)
    ∙ inserted-append (take k changes) (change_at changes (k + 1) ∷ [])

-- what a deletion alone deletes and inserts, and an insertion
deletion-deletes : (c : Change Text) → is_deletion c ≡ true → deleted (c ∷ []) ≡ id_of c ∷ []
deletion-deletes (Delete id) is = refl
deletion-deletes (Insert row) is = cc

deletion-inserts : (c : Change Text) → is_deletion c ≡ true → inserted (c ∷ []) ≡ []
deletion-inserts (Delete id) is = refl
deletion-inserts (Insert row) is = cc

insertion-deletes : (c : Change Text) → is_deletion c ≡ false → deleted (c ∷ []) ≡ []
insertion-deletes (Delete id) is = cc
insertion-deletes (Insert row) is = refl

insertion-ids : (c : Change Text) → is_deletion c ≡ false → ids_of (inserted (c ∷ [])) ≡ id_of c ∷ []
insertion-ids (Delete id) is = cc
insertion-ids (Insert row) is = refl

insertion-counts : (c : Change Text) → is_deletion c ≡ false → length (inserted (c ∷ [])) ≡ 1
insertion-counts (Delete id) is = cc
insertion-counts (Insert row) is = refl

pub ids-append : {A : Type 0} (xs ys : List (Row A)) → ids_of (xs ++ ys) ≡ ids_of xs ++ ids_of ys
ids-append [] ys = refl
ids-append (x ∷ xs) ys = ap (λ (ids : List ℕ). x.id ∷ ids) (ids-append xs ys)

pub same-deletion : (c : Change Text) (before : List (Change Text)) → is_deletion c ≡ true
    → list_any (same_change c) before ≡ list_any (nat_eq (id_of c)) (deleted before)
same-deletion (Delete id) [] is = refl
same-deletion (Delete id) (Delete other ∷ before) is
    = ap (λ (b : Bool). nat_eq id other || b) (same-deletion (Delete id) before is)
same-deletion (Delete id) (Insert row ∷ before) is = same-deletion (Delete id) before is
same-deletion (Insert row) before is = cc

pub same-insertion : (c : Change Text) (before : List (Change Text)) → is_deletion c ≡ false
    → list_any (same_change c) before ≡ list_any (nat_eq (id_of c)) (ids_of (inserted before))
same-insertion (Insert row) [] is = refl
same-insertion (Insert row) (Delete other ∷ before) is = same-insertion (Insert row) before is
same-insertion (Insert row) (Insert other ∷ before) is
    = ap (λ (b : Bool). nat_eq row.id other.id || b) (same-insertion (Insert row) before is)
same-insertion (Delete id) before is = cc

-- a deletion more, or an insertion more, is seen
seen-deletion : (gone come : List ℕ) (changes : List (Change Text)) (k : ℕ) → k < length changes
    → is_deletion (change_at changes (k + 1)) ≡ true
    → AreChangeIds gone come (take k changes)
    → AreChangeIds (gone ++ id_of (change_at changes (k + 1)) ∷ []) come (take (k + 1) changes)
seen-deletion gone come changes k lt is seen =
    let c = change_at changes (k + 1) in
    record {
      deletions = ap₂ (λ (xs ys : List ℕ). xs ++ ys) seen.deletions (sym (deletion-deletes c is))
          ∙ sym (deleted-more changes k lt);
      insertions = seen.insertions
          ∙ ap (λ (rows : List (Row Text)). ids_of rows) (sym (append-nil (inserted (take k changes)))
          ∙ ap (λ (rows : List (Row Text)). inserted (take k changes) ++ rows) (sym (deletion-inserts c is))
          ∙ sym (inserted-more changes k lt));
    }

seen-insertion : (gone come : List ℕ) (changes : List (Change Text)) (k : ℕ) → k < length changes
    → is_deletion (change_at changes (k + 1)) ≡ false
    → AreChangeIds gone come (take k changes)
    → AreChangeIds gone (come ++ id_of (change_at changes (k + 1)) ∷ []) (take (k + 1) changes)
seen-insertion gone come changes k lt is seen =
    let c = change_at changes (k + 1) in
    record {
      deletions = seen.deletions ∙ sym (append-nil (deleted (take k changes)))
          ∙ ap (λ (ids : List ℕ). deleted (take k changes) ++ ids) (sym (insertion-deletes c is))
          ∙ sym (deleted-more changes k lt);
      insertions = ap₂ (λ (xs ys : List ℕ). xs ++ ys) seen.insertions (sym (insertion-ids c is))
          ∙ sym (ids-append (inserted (take k changes)) (inserted (c ∷ [])))
          ∙ ap (λ (rows : List (Row Text)). ids_of rows) (sym (inserted-more changes k lt));
    }

-- the same at the number of a change
pub deletion-seen : (gone come : List ℕ) (changes : List (Change Text)) (k : ℕ) → 1 ≤ k → k ≤ length changes
    → is_deletion (change_at changes k) ≡ true
    → AreChangeIds gone come (take (k - 1) changes)
    → AreChangeIds (gone ++ id_of (change_at changes k) ∷ []) come (take k changes)
deletion-seen gone come changes k low high is seen =
    let e : (k - 1) + 1 ≡ k = omega arith in
    let P : ℕ → Type 0 = λ n. AreChangeIds (gone ++ id_of (change_at changes n) ∷ []) come (take n changes) in
    subst P e (seen-deletion gone come changes (k - 1) (omega arith)
    (ap (λ (n : ℕ). is_deletion (change_at changes n)) e ∙ is) seen)

pub insertion-seen : (gone come : List ℕ) (changes : List (Change Text)) (k : ℕ) → 1 ≤ k → k ≤ length changes
    → is_deletion (change_at changes k) ≡ false
    → AreChangeIds gone come (take (k - 1) changes)
    → AreChangeIds gone (come ++ id_of (change_at changes k) ∷ []) (take k changes)
insertion-seen gone come changes k low high is seen =
    let e : (k - 1) + 1 ≡ k = omega arith in
    let P : ℕ → Type 0 = λ n. AreChangeIds gone (come ++ id_of (change_at changes n) ∷ []) (take n changes) in
    subst P e (seen-insertion gone come changes (k - 1) (omega arith)
    (ap (λ (n : ℕ). is_deletion (change_at changes n)) e ∙ is) seen)

-- the search for a repeat, at the next change
pub repeat-here : (changes : List (Change Text)) (k : ℕ) → k < length changes
    → list_any (same_change (change_at changes (k + 1))) (take k changes) ≡ true
    → twice_from (k + 1) (take k changes) (drop k changes) ≡ Some (k + 1)
repeat-here changes k lt there =
    let h : list_any (same_change (get_or changes k (Delete 0))) (take k changes) ≡ true
    = ap (λ (c : Change Text). list_any (same_change c) (take k changes)) (sym (change-at changes k)) ∙ there in
    rw (drop_more changes k (Delete 0) lt, h) refl

pub repeat-later : (changes : List (Change Text)) (k : ℕ) → k < length changes
    → list_any (same_change (change_at changes (k + 1))) (take k changes) ≡ false
    → twice_from (k + 1) (take k changes) (drop k changes) ≡ twice_from (k + 1 + 1) (take (k + 1) changes)
    (drop (k + 1) changes)
repeat-later changes k lt new =
    let h : list_any (same_change (get_or changes k (Delete 0))) (take k changes) ≡ false
    = ap (λ (c : Change Text). list_any (same_change c) (take k changes)) (sym (change-at changes k)) ∙ new in
    rw (drop_more changes k (Delete 0) lt, h)
    (ap (λ (cs : List (Change Text)). twice_from (k + 1 + 1) cs (drop (k + 1) changes))
    (sym (take_more changes k (Delete 0) lt)))

-- where no change stands twice, each is none of those before it
once-from : (k : ℕ) (before changes : List (Change Text)) (i : ℕ) → twice_from k before changes ≡ None
    → i < length changes → list_any (same_change (get_or changes i (Delete 0))) (before ++ take i changes) ≡ false
once-from k before [] i none lt = absurd (omega arith)
once-from k before (c ∷ changes) i none lt
    = go (list_any (same_change c) before) refl (λ j. once-from (k + 1) (before ++ c ∷ []) changes j) i lt
  where
    go : (b : Bool) → list_any (same_change c) before ≡ b
        → ((j : ℕ) → twice_from (k + 1) (before ++ c ∷ []) changes ≡ None → j < length changes
        → list_any (same_change (get_or changes j (Delete 0))) ((before ++ c ∷ []) ++ take j changes) ≡ false)
        → (i : ℕ) → i < length (c ∷ changes)
        → list_any (same_change (get_or (c ∷ changes) i (Delete 0))) (before ++ take i (c ∷ changes)) ≡ false
    go true e later i lt = let n = rw e at none in cc
    go false e later zero lt = rw (append-nil before) e
    go false e later (suc i) lt =
        let n : twice_from (k + 1) (before ++ c ∷ []) changes ≡ None = rw e at none in
        rw (sym (append_assoc before (c ∷ []) (take i changes))) (later i n (omega arith))

once-at : (changes : List (Change Text)) (k : ℕ) → first_twice changes ≡ None → k < length changes
    → list_any (same_change (change_at changes (k + 1))) (take k changes) ≡ false
once-at changes k once lt = ap (λ (c : Change Text). list_any (same_change c) (take k changes)) (change-at changes k)
    ∙ once-from 1 [] changes k once lt

-- the first change that passes
pub number-here : (test : Change Text → Bool) (changes : List (Change Text)) (k : ℕ) → k < length changes
    → ((j : ℕ) → j < k → test (get_or changes j (Delete 0)) ≡ false) → test (change_at changes (k + 1)) ≡ true
    → first_number test changes ≡ Some (k + 1)
number-here test changes k lt before here = ap (option_map suc) found ∙ ap (λ (n : ℕ). Some n) (sym (add-one k))
  where
    place : position_or_len test changes ≡ k
    place = position_or_len_is test changes k (Delete 0) (omega arith) before
        (λ _. ap test (sym (change-at changes k)) ∙ here)

    found : position test changes ≡ Some k
    found = grind (arith, place)

pub number-none : (test : Change Text → Bool) (changes : List (Change Text))
    → ((j : ℕ) → j < length changes → test (get_or changes j (Delete 0)) ≡ false) → first_number test changes ≡ None
number-none test changes all = ap (option_map suc) found
  where
    place : position_or_len test changes ≡ length changes
    place = position_or_len_is test changes (length changes) (Delete 0) (omega arith) all (λ lt. absurd (omega arith))

    found : position test changes ≡ None
    found = grind (arith, place)

pub any-at : {X : Type 0} (p : X → Bool) (xs : List X) (k : ℕ) (d : X) → list_any p xs ≡ false → k < length xs
    → p (get_or xs k d) ≡ false
any-at p [] k d none lt = absurd (omega arith)
any-at p (x ∷ xs) k d none lt = go (p x) refl (λ j. any-at p xs j d) k lt
  where
    go : (b : Bool) → p x ≡ b → ((j : ℕ) → list_any p xs ≡ false → j < length xs → p (get_or xs j d) ≡ false) → (k : ℕ)
        → k < length (x ∷ xs) → p (get_or (x ∷ xs) k d) ≡ false
    go true e rest k lt = let n = rw e at none in cc
    go false e rest zero lt = e
    go false e rest (suc k) lt = let n : list_any p xs ≡ false = rw e at none in rest k n (omega arith)

pub none-at : (test : Change Text → Bool) (changes : List (Change Text)) (k : ℕ) → first_number test changes ≡ None
    → k < length changes → test (change_at changes (k + 1)) ≡ false
none-at test changes k none lt = ap test (change-at changes k)
    ∙ any-at test changes k (Delete 0) (none_passes test changes (no (position test changes) none)) lt
  where
    no : (o : Option ℕ) → option_map suc o ≡ None → o ≡ None
    no None e = refl
    no (Some n) e = cc

pub number-same : (p q : Change Text → Bool) (changes : List (Change Text)) → ((c : Change Text) → p c ≡ q c)
    → first_number p changes ≡ first_number q changes
number-same p q changes same = let e : p ≡ q = λ j c. same c j in
    ap (λ (test : Change Text → Bool). first_number test changes) e

-- changes that are passed over stay
pub below-more : (test : Change Text → Bool) (changes : List (Change Text)) (k : ℕ)
    → ((j : ℕ) → j < k → test (get_or changes j (Delete 0)) ≡ false) → test (change_at changes (k + 1)) ≡ false
    → (j : ℕ) → j < k + 1 → test (get_or changes j (Delete 0)) ≡ false
below-more test changes k before here j lt = go (nat_eq j k) refl
  where
    go : (b : Bool) → nat_eq j k ≡ b → test (get_or changes j (Delete 0)) ≡ false
    go true e = let same : j ≡ k = grind (arith, e) in ap (λ (n : ℕ). test (get_or changes n (Delete 0))) same
        ∙ ap test (sym (change-at changes k)) ∙ here
    go false e = before j (let ne : j < k = grind (arith, e, lt) in ne)

pub insertion-there : (rows : List (Row ℕ)) (c : Change Text) → is_deletion c ≡ false
    → is_there rows c ≡ has_id rows (id_of c)
insertion-there rows (Delete id) is = cc
insertion-there rows (Insert row) is = refl

pub none-there : (rows : List (Row ℕ)) (c : Change Text) → length rows ≡ 0 → is_there rows c ≡ false
none-there [] (Delete id) empty = refl
none-there [] (Insert row) empty = refl
none-there (row ∷ rows) c empty = absurd (omega arith)

-- whether a deletion's id is among some
pub deletion-missing : (ids : List ℕ) (c : Change Text) → is_deletion c ≡ true
    → is_missing ids c ≡ not (is_among (id_of c) ids)
deletion-missing ids (Delete id) is = refl
deletion-missing ids (Insert row) is = cc

pub insertion-missing : (ids : List ℕ) (c : Change Text) → is_deletion c ≡ false → is_missing ids c ≡ false
insertion-missing ids (Delete id) is = cc
insertion-missing ids (Insert row) is = refl

pub insertion-keeps : (changes : List (Change Text)) (k : ℕ) → k < length changes
    → is_deletion (change_at changes (k + 1)) ≡ false → deleted (take (k + 1) changes) ≡ deleted (take k changes)
insertion-keeps changes k lt is = deleted-more changes k lt
    ∙ ap (λ (ids : List ℕ). deleted (take k changes) ++ ids) (insertion-deletes (change_at changes (k + 1)) is)
    ∙ append-nil (deleted (take k changes))

pub deletion-adds : (changes : List (Change Text)) (k : ℕ) → k < length changes
    → is_deletion (change_at changes (k + 1)) ≡ true
    → deleted (take (k + 1) changes) ≡ deleted (take k changes) ++ id_of (change_at changes (k + 1)) ∷ []
deletion-adds changes k lt is = deleted-more changes k lt
    ∙ ap (λ (ids : List ℕ). deleted (take k changes) ++ ids) (deletion-deletes (change_at changes (k + 1)) is)

pub deletion-keeps : (changes : List (Change Text)) (k : ℕ) → k < length changes
    → is_deletion (change_at changes (k + 1)) ≡ true → inserted (take (k + 1) changes) ≡ inserted (take k changes)
deletion-keeps changes k lt is = inserted-more changes k lt
    ∙ ap (λ (rows : List (Row Text)). inserted (take k changes) ++ rows)
    (deletion-inserts (change_at changes (k + 1)) is) ∙ append-nil (inserted (take k changes))

pub insertion-more : (changes : List (Change Text)) (k : ℕ) → k < length changes
    → is_deletion (change_at changes (k + 1)) ≡ false
    → length (inserted (take (k + 1) changes)) ≡ length (inserted (take k changes)) + 1
insertion-more changes k lt is =
    ap (λ (rows : List (Row Text)). length rows) (inserted-more changes k lt)
    ∙ length-append (inserted (take k changes)) (inserted (change_at changes (k + 1) ∷ []))
    ∙ ap (λ (n : ℕ). length (inserted (take k changes)) + n) (insertion-counts (change_at changes (k + 1)) is)

-- the id of a change is new, where no change stands twice
pub new-deletion : (changes : List (Change Text)) (k : ℕ) → first_twice changes ≡ None → k < length changes
    → is_deletion (change_at changes (k + 1)) ≡ true
    → is_among (id_of (change_at changes (k + 1))) (deleted (take k changes)) ≡ false
new-deletion changes k once lt is =
    among-turned (id_of (change_at changes (k + 1))) (deleted (take k changes))
    ∙ sym (same-deletion (change_at changes (k + 1)) (take k changes) is)
    ∙ once-at changes k once lt

pub new-insertion : (changes : List (Change Text)) (k : ℕ) → first_twice changes ≡ None → k < length changes
    → is_deletion (change_at changes (k + 1)) ≡ false
    → is_among (id_of (change_at changes (k + 1))) (ids_of (inserted (take k changes))) ≡ false
new-insertion changes k once lt is =
    among-turned (id_of (change_at changes (k + 1))) (ids_of (inserted (take k changes)))
    ∙ sym (same-insertion (change_at changes (k + 1)) (take k changes) is)
    ∙ once-at changes k once lt
