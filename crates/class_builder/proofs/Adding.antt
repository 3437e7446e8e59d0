-- What rows come to, one row after another.
use Rattle.std.proofs.Common.{◌≡◌, ℕ, zero, suc, ◌+◌, ◌<◌, ◌≤◌, true, Option, Some, None, List, [], ◌∷◌, length, get_or, is_some, take, ℤ}
use Rattle.std.proofs.Common.{refl, sym, ap, ◌∙◌, arith, true≢false}
use Rattle.std.specs.Prelude.{IfSome}
use Rattle.std.proofs.lemmas.List.{take_more}
use Rattle.std.specs.List.{cons_option}
use Rattle.cube_defs.specs.Rows as defs
use Rattle.cube_laws.specs.Total.{combine}
use Rattle.aggregates.specs.Rows.{agg_of_row}
use Rattle.aggregates.proofs.CallerLemmas.{agg_of-append, agg_of-one}
use Rattle.base_table.specs.Places.{Places, named, row_at}
use Rattle.base_table.specs.declared.table.RowNo.{RowNo}
use Rattle.cell_closure.proofs.CallerLemmas.{There, length-named, named-append, zeroth}

pub there_take : (t : Places) (i : ℕ) (nos : List RowNo) → There t nos → There t (take i nos)
there_take t zero nos h = tt
there_take t (suc i) [] h = tt
there_take t (suc i) (x ∷ nos) h = (h.0, there_take t i nos h.1)

length_prefix : (i : ℕ) (xs : List RowNo) → i ≤ length xs → length (take i xs) ≡ i
length_prefix zero xs h = refl
length_prefix (suc i) [] h = absurd (omega arith)
length_prefix (suc i) (x ∷ xs) h = ap suc (length_prefix i xs (omega arith))

-- one row by its number
one_row : (t : Places) (m : ℕ) (x : RowNo) (amounts : List ℤ) → is_some (row_at t x.0) ≡ true
    → IfSome (row_at t x.0) (λ r. amounts ≡ r.amounts) → length amounts ≡ m
    → defs.agg_of m (named t (x ∷ [])) ≡ agg_of_row amounts
one_row t m x amounts h e l = go (row_at t x.0) h e
  where
    go : (o : Option (defs.Row ℕ)) → is_some o ≡ true → IfSome o (λ r. amounts ≡ r.amounts)
        → defs.agg_of m (cons_option o []) ≡ agg_of_row amounts
    go None h e = absurd (true≢false (sym h))
    go (Some r) h e = ap (λ n. defs.agg_of n (r ∷ [])) (sym l ∙ ap length e) ∙ agg_of-one r ∙ ap agg_of_row (sym e)

pub first_total : (t : Places) (m : ℕ) (nos : List RowNo) (amounts : List ℤ) → 0 < length nos
    → is_some (row_at t (get_or nos 0 zeroth).0) ≡ true
    → IfSome (row_at t (get_or nos 0 zeroth).0) (λ r. amounts ≡ r.amounts) → length amounts ≡ m
    → agg_of_row amounts ≡ defs.agg_of m (named t (take 1 nos))
first_total t m [] amounts s h e l = absurd (omega arith)
first_total t m (x ∷ nos) amounts s h e l = sym (one_row t m x amounts h e l)

pub next_total : (t : Places) (m i : ℕ) (nos : List RowNo) (amounts : List ℤ) (a new : defs.Agg) → 0 < i
    → i < length nos → There t nos → is_some (row_at t (get_or nos i zeroth).0) ≡ true
    → IfSome (row_at t (get_or nos i zeroth).0) (λ r. amounts ≡ r.amounts) → length amounts ≡ m
    → a ≡ defs.agg_of m (named t (take i nos)) → new ≡ combine a (agg_of_row amounts)
    → new ≡ defs.agg_of m (named t (take (i + 1) nos))
next_total t m i nos amounts a new s lt there h e l is f =
    let x = get_or nos i zeroth in
    let n : length (named t (take i nos)) ≡ length (take i nos)
    = length-named t (take i nos) (there_take t i nos there) in
    let k : length (take i nos) ≡ i = length_prefix i nos (omega arith) in
    let one : length (named t (x ∷ [])) ≡ 1 = length-named t (x ∷ []) (h, tt) in
    f ∙ ap (λ b. combine b (agg_of_row amounts)) is
    ∙ ap (combine (defs.agg_of m (named t (take i nos)))) (sym (one_row t m x amounts h e l))
    ∙ sym (agg_of-append m (named t (take i nos)) (named t (x ∷ [])) (omega arith) (omega arith))
    ∙ ap (defs.agg_of m) (sym (named-append t (take i nos) (x ∷ [])) ∙ ap (named t) (sym (take_more nos i zeroth lt)))

-- how many rows were added up
pub count_is : (t : Places) (m i : ℕ) (nos : List RowNo) (a : defs.Agg) → i ≤ length nos → There t nos
    → a ≡ defs.agg_of m (named t (take i nos)) → a.count ≡ i
count_is t m i nos a l there is = ap (λ b. b.count) is ∙ length-named t (take i nos) (there_take t i nos there)
    ∙ length_prefix i nos l
