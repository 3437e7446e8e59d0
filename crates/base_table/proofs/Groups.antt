-- What the rows of a tuple come to, from the last to the first.
use Rattle.std.proofs.Common.{◌≡◌, ℕ, ◌+◌, ◌<◌, ◌≤◌, Bool, true, false, cond, ◌&&◌, List, [], ◌∷◌, ◌++◌, Option, Some, None, length, take}
use Rattle.std.proofs.Common.{map, get_or, refl, ap, ap₂, sym, ◌∙◌, subst, arith, zero, suc, nat_eq, true≢false, length-append}
use Rattle.std.specs.List.{All}
use Rattle.std.proofs.lemmas.Bool.{eqb-true, eq-eqb}
use Rattle.std.proofs.lemmas.List.{append-nil, get_or-take, get_or-map, length-map, length-take, length-take-le, take-map, take-take}
use Rattle.std.proofs.lemmas.List.{take_all}
use Rattle.aggregates.specs.Rows.{agg_of_row}
use Rattle.aggregates.proofs.CallerLemmas.{agg_of-one}
use Rattle.cube_defs.specs.Cell.{Cell, cell_eq, cell_of}
use Rattle.cube_defs.specs.Rows.{Agg, Row, agg_of}
use Rattle.cube_laws.specs.Total.{agg_some, join_aggs}
use Rattle.cube_laws.proofs.CallerLemmas.{cell_eq-exact, nat_equality, filter-le, agg_total, aggs_add, row_agg, total-push}
use Rattle.base_table.specs.declared.fingerprints.Fingerprinter.{Fingerprinter}
use Rattle.base_table.specs.Last.{last_of, picked}
use Rattle.base_table.specs.Places.{IsRow, total_of, with_tuple}
use Rattle.base_table.specs.Store.{added, print_in, print_of}
use Rattle.base_table.proofs.LastPlaces.{last_map, last_passes, last_take, last_within, not_zero}
use Rattle.base_table.proofs.Placed.{picked-nil, picked-take}

take-nil : {A : Type 0} (n : ℕ) → take n (let none : List A = [] in none) ≡ []
take-nil zero = refl
take-nil (suc n) = refl

-- marks and rows cut at one place
picked-cut : {A : Type 0} (k : ℕ) (here : List Bool) (xs : List A) → picked here (take k xs) ≡ picked (take k here) xs
picked-cut zero here xs = picked-nil here
picked-cut (suc k) [] xs = refl
picked-cut (suc k) (b ∷ here) [] = refl
picked-cut (suc k) (b ∷ here) (x ∷ xs) = ap (λ l. cond b (x ∷ l) l) (picked-cut k here xs)

pub total_some : (measures : ℕ) (rows : List (Row ℕ)) → total_of measures rows ≡ agg_some measures rows
total_some measures [] = refl
total_some measures (row ∷ rows) = refl

-- how many rows an aggregate counts
abbrev pub count_of : Option Agg → ℕ
count_of None = 0
count_of (Some a) = a.count

count-join : (a b : Option Agg) → count_of (join_aggs a b) ≡ count_of a + count_of b
count-join None b = omega arith
count-join (Some a) None = omega arith
count-join (Some a) (Some b) = refl

count-total : (measures : ℕ) (rows : List (Row ℕ)) → count_of (total_of measures rows) ≡ length rows
count-total measures [] = refl
count-total measures (row ∷ rows) = refl

join_none : (a : Option Agg) → join_aggs a None ≡ a
join_none None = refl
join_none (Some a) = refl

module _ (printer : Fingerprinter) (tuple : Cell ℕ) where
  abbrev is_alike : Row ℕ → Bool
  is_alike row = nat_eq (print_in printer tuple) (print_of printer row)

  abbrev has_it : Row ℕ → Bool
  has_it row = cell_eq nat_eq (cell_of row.tuple) tuple

  -- a row of the tuple shares its number
  alike : (row : Row ℕ) → has_it row ≡ true → is_alike row ≡ true
  alike row h = eq-eqb (print_in printer tuple) (print_of printer row)
      (ap (print_in printer) (sym (cell_eq-exact nat_equality (cell_of row.tuple) tuple h)))

  other : (row : Row ℕ) → is_alike row ≡ false → has_it row ≡ false
  other row h = by (has_it row) refl
    where
      by : (b : Bool) → has_it row ≡ b → b ≡ false
      by false e = refl
      by true e = absurd (true≢false (sym (alike row e) ∙ h))

  abbrev pub group_rows : List Bool → List (Row ℕ) → List (Row ℕ)
  group_rows here rows = with_tuple (picked here rows) tuple

  group_head : (b : Bool) (row : Row ℕ) (here more : List Bool) (rows : List (Row ℕ))
      → group_rows here rows ≡ group_rows more rows
      → group_rows (b ∷ here) (row ∷ rows) ≡ group_rows (b ∷ more) (row ∷ rows)
  group_head true row here more rows h = ap (λ l. cond (has_it row) (row ∷ l) l) h
  group_head false row here more rows h = h

  group_other : (b : Bool) (row : Row ℕ) (here : List Bool) (rows : List (Row ℕ)) → has_it row ≡ false
      → group_rows (b ∷ here) (row ∷ rows) ≡ group_rows here rows
  group_other true row here rows h = ap (λ c. cond c (row ∷ group_rows here rows) (group_rows here rows)) h
  group_other false row here rows h = refl

  cut_step : (b : Bool) (row : Row ℕ) (here : List Bool) (rows : List (Row ℕ)) (n : ℕ)
      → group_rows (take n here) rows ≡ group_rows here rows
      → group_rows (take (cond (nat_eq n 0) (cond (is_alike row) 1 0) (suc n)) (b ∷ here)) (row ∷ rows)
      ≡ group_rows (b ∷ here) (row ∷ rows)
  cut_step b row here rows zero h = by (is_alike row) refl
    where
      by : (c : Bool) → is_alike row ≡ c
          → group_rows (take (cond c 1 0) (b ∷ here)) (row ∷ rows) ≡ group_rows (b ∷ here) (row ∷ rows)
      by true e = group_head b row [] here rows h
      by false e = h ∙ sym (group_other b row here rows (other row e))
  cut_step b row here rows (suc n) h = let z : nat_eq (suc n) 0 ≡ false = not_zero n in
      rw z (group_head b row (take (suc n) here) here rows h)

  -- no row of the tuple stands after the last that shares its number
  group_cut : (here : List Bool) (rows : List (Row ℕ))
      → group_rows (take (last_of is_alike rows) here) rows ≡ group_rows here rows
  group_cut [] rows = ap (λ (h : List Bool). group_rows h rows) (take-nil (last_of is_alike rows))
  group_cut (b ∷ here) [] = refl
  group_cut (b ∷ here) (row ∷ rows) = cut_step b row here rows (last_of is_alike rows) (group_cut here rows)

  -- one place more
  group_more : (here : List Bool) (rows : List (Row ℕ)) (k : ℕ) (d : Row ℕ) → length rows ≡ length here
      → k < length here
      → group_rows (take (suc k) here) rows ≡ group_rows (take k here) rows
      ++ cond (get_or here k false && has_it (get_or rows k d)) (get_or rows k d ∷ []) []
  group_more [] rows k d e l = absurd (omega arith)
  group_more (b ∷ here) [] k d e l = absurd (omega arith)
  group_more (true ∷ here) (row ∷ rows) zero d e l = refl
  group_more (false ∷ here) (row ∷ rows) zero d e l = refl
  group_more (true ∷ here) (row ∷ rows) (suc k) d e l
      = by (has_it row) (group_more here rows k d (omega arith) (omega arith))
    where
      by : (c : Bool) → group_rows (take (suc k) here) rows ≡ group_rows (take k here) rows
          ++ cond (get_or here k false && has_it (get_or rows k d)) (get_or rows k d ∷ []) []
          → cond c (row ∷ group_rows (take (suc k) here) rows) (group_rows (take (suc k) here) rows)
          ≡ cond c (row ∷ group_rows (take k here) rows) (group_rows (take k here) rows)
          ++ cond (get_or here k false && has_it (get_or rows k d)) (get_or rows k d ∷ []) []
      by true h = ap (λ l. row ∷ l) h
      by false h = h
  group_more (false ∷ here) (row ∷ rows) (suc k) d e l = group_more here rows k d (omega arith) (omega arith)

  -- the sum of the rows from a place on
  pub record IsSummed (measures : ℕ) (here : List Bool) (rows : List (Row ℕ)) (sum : Option Agg) (at : ℕ) : Type 0 where
    pub within : at ≤ length here
    pub last : last_of (nat_eq (print_in printer tuple)) (take at (map (print_of printer) rows)) ≡ at
    pub summed : join_aggs sum (total_of measures (group_rows (take at here) rows)) ≡ total_of measures
        (group_rows (take (length here) here) rows)

  module _ (dims measures : ℕ) (here : List Bool) (rows : List (Row ℕ)) (same : length rows ≡ length here)
      (each : All (IsRow dims measures) rows) where
    abbrev sum_to : ℕ → Option Agg
    sum_to k = total_of measures (group_rows (take k here) rows)

    -- the last place of the tuple's number less than k
    last_below : (k : ℕ) → last_of (nat_eq (print_in printer tuple)) (take k (map (print_of printer) rows))
        ≡ last_of is_alike (take k rows)
    last_below k = ap (last_of (nat_eq (print_in printer tuple))) (take-map (print_of printer) k rows)
        ∙ last_map (print_of printer) (nat_eq (print_in printer tuple)) (take k rows)

    chain_within : (k : ℕ) → k ≤ length here
        → last_of (nat_eq (print_in printer tuple)) (take k (map (print_of printer) rows)) ≤ k
    chain_within k le = omega (
      arith,
      last_below k,
      last_within is_alike (take k rows),
      length-take-le k rows (omega arith),
    )

    chain_skip : (k n : ℕ) → n ≡ last_of (nat_eq (print_in printer tuple)) (take k (map (print_of printer) rows))
        → n ≤ k → group_rows (take n here) rows ≡ group_rows (take k here) rows
    chain_skip k n e le =
        ap (λ l. with_tuple l tuple) (sym (picked-take k (take n here) rows (short k n le)))
        ∙ ap (λ m. group_rows (take m here) (take k rows)) (e ∙ last_below k)
        ∙ group_cut here (take k rows)
        ∙ ap (λ l. with_tuple l tuple) (picked-cut k here rows)
      where
        short : (k n : ℕ) → n ≤ k → length (take n here) ≤ k
        short k n le = omega (arith, length-take n here)

    chain_last : (k n : ℕ) → n ≡ last_of (nat_eq (print_in printer tuple)) (take k (map (print_of printer) rows))
        → n ≤ k → last_of (nat_eq (print_in printer tuple)) (take n (map (print_of printer) rows)) ≡ n
    chain_last k n e le =
        ap (last_of (nat_eq (print_in printer tuple))) (sym (take-take n k (map (print_of printer) rows) le)
        ∙ ap (λ m. take m (take k (map (print_of printer) rows))) e)
        ∙ last_take (nat_eq (print_in printer tuple)) (take k (map (print_of printer) rows)) ∙ sym e

    -- the row at the last place shares the number
    chain_print : (k : ℕ) (d : Row ℕ) → k < length here
        → last_of (nat_eq (print_in printer tuple)) (take (suc k) (map (print_of printer) rows)) ≡ suc k
        → (print_of printer) (get_or rows k d) ≡ print_in printer tuple
    chain_print k d lt l =
        let passes : nat_eq (print_in printer tuple) (get_or (take (suc k) (map (print_of printer) rows)) k 0) ≡ true
        = last_passes (nat_eq (print_in printer tuple)) (take (suc k) (map (print_of printer) rows)) k 0 l in
        sym (eqb-true (print_in printer tuple) (print_of printer (get_or rows k d))
        (ap (nat_eq (print_in printer tuple))
        (sym (get_or-take (suc k) (map (print_of printer) rows) k 0 (omega arith)
        ∙ get_or-map (print_of printer) rows k d 0 (omega arith))) ∙ passes))

    sum_more : (k : ℕ) (d : Row ℕ) → k < length here → sum_to (suc k) ≡ join_aggs (sum_to k) (added here rows tuple k d)
    sum_more k d lt =
        ap (total_of measures) (group_more here rows k d same lt)
        ∙ by (get_or here k false && has_it (get_or rows k d)) (each k d (omega arith))
      where
        by : (b : Bool) → IsRow dims measures (get_or rows k d)
            → total_of measures (group_rows (take k here) rows ++ cond b (get_or rows k d ∷ []) [])
            ≡ join_aggs (sum_to k) (cond b (Some (agg_of_row (get_or rows k d).amounts)) None)
        by true r =
            let one : agg_of measures (get_or rows k d ∷ []) ≡ agg_of_row (get_or rows k d).amounts
            = ap (λ m. agg_of m (get_or rows k d ∷ [])) (sym r.amounts) ∙ agg_of-one (get_or rows k d) in
            total_some measures (group_rows (take k here) rows ++ get_or rows k d ∷ [])
            ∙ agg_total measures (group_rows (take k here) rows ++ get_or rows k d ∷ [])
            ∙ total-push join_aggs None aggs_add (row_agg measures) (group_rows (take k here) rows) (get_or rows k d)
            ∙ ap₂ join_aggs (sym (agg_total measures (group_rows (take k here) rows))
            ∙ sym (total_some measures (group_rows (take k here) rows))) (ap (λ a. Some a) one)
        by false r = ap (total_of measures) (append-nil (group_rows (take k here) rows)) ∙ sym (join_none (sum_to k))

    whole : take (length here) (map (print_of printer) rows) ≡ map (print_of printer) rows
    whole = take_all (length here) (map (print_of printer) rows) (omega (arith, length-map rows (print_of printer)))

    pub begin_sum : (at : ℕ) → at ≡ last_of (nat_eq (print_in printer tuple)) (map (print_of printer) rows)
        → IsSummed measures here rows None at
    begin_sum at e =
        let e2 : at ≡ last_of (nat_eq (print_in printer tuple)) (take (length here) (map (print_of printer) rows))
        = e ∙ ap (last_of (nat_eq (print_in printer tuple))) (sym whole) in
        let le : at ≤ length here = omega (arith, e2, chain_within (length here) (omega arith)) in
        record {
          within = le;
          last = chain_last (length here) at e2 le;
          summed
              = ap (total_of measures) (chain_skip (length here) at e2 le);
        }

    pub step_sum : (sum sum' : Option Agg) (k at n : ℕ) (d : Row ℕ) → at ≡ suc k → IsSummed measures here rows sum at
        → sum' ≡ join_aggs sum (added here rows tuple k d)
        → n ≡ last_of (nat_eq (print_of printer (get_or rows k d))) (take k (map (print_of printer) rows))
        → IsSummed measures here rows sum' n × (n ≤ k)
    step_sum sum sum' k at n d e h s b =
        let lt : k < length here = omega (arith, h.within) in
        let last : last_of (nat_eq (print_in printer tuple)) (take (suc k) (map (print_of printer) rows)) ≡ suc k
        = subst (λ m. last_of (nat_eq (print_in printer tuple)) (take m (map (print_of printer) rows))
        ≡ m) e h.last in
        let b2 : n ≡ last_of (nat_eq (print_in printer tuple)) (take k (map (print_of printer) rows))
        = b ∙ ap (λ m. last_of (nat_eq m) (take k (map (print_of printer) rows))) (chain_print k d lt last) in
        let le : n ≤ k = omega (arith, b2, chain_within k (omega arith)) in (
          record {
            within = omega arith;
            last = chain_last k n b2 le;
            summed =
                ap₂ join_aggs s (ap (total_of measures) (chain_skip k n b2 le))
                ∙ aggs_add.assoc sum (added here rows tuple k d) (sum_to k)
                ∙ ap (join_aggs sum) (aggs_add.comm (added here rows tuple k d) (sum_to k) ∙ sym (sum_more k d lt)
                ∙ ap sum_to (sym e))
                ∙ h.summed;
          },
          le,
        )

    pub sum_few : (sum : Option Agg) (k at : ℕ) (d : Row ℕ) → at ≡ suc k → IsSummed measures here rows sum at
        → length (picked here rows) ≤ 1000000 → get_or here k false ≡ true → has_it (get_or rows k d) ≡ true
        → count_of sum < 1000000
    sum_few sum k at d e h few there it =
        let lt : k < length here = omega (arith, h.within) in
        let more : group_rows (take at here) rows ≡ group_rows (take k here) rows ++ get_or rows k d ∷ [] =
        ap (λ m. group_rows (take m here) rows) e ∙ group_more here rows k d same lt
        ∙ ap₂ (λ b c. group_rows (take k here) rows ++ cond (b && c) (get_or rows k d ∷ []) []) there it in
        let all : group_rows (take (length here) here) rows ≡ group_rows here rows
        = ap (λ (h : List Bool). group_rows h rows) (take_all (length here) here (omega arith)) in
        omega (
          arith,
          ap count_of h.summed,
          count-join sum (sum_to at),
          count-total measures (group_rows (take at here) rows),
          count-total measures (group_rows (take (length here) here) rows),
          ap length more,
          length-append (group_rows (take k here) rows) (get_or rows k d ∷ []),
          ap length all,
          filter-le has_it (picked here rows),
        )

    pub end_sum : (sum : Option Agg) (at : ℕ) → at ≡ 0 → IsSummed measures here rows sum at
        → sum ≡ total_of measures (group_rows here rows)
    end_sum sum at e h =
        sym (join_none sum) ∙ ap (λ k. join_aggs sum (sum_to k)) (sym e) ∙ h.summed
        ∙ ap (λ (h : List Bool). total_of measures (group_rows h rows)) (take_all (length here) here (omega arith))
