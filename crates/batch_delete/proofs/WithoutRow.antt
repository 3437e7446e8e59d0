-- What a class comes to without the row: its other tuples' rows, and the tuple's that stay.
use Rattle.std.proofs.Common.{◌≡◌, ◌∙◌, ℕ, ◌+◌, ◌<◌, ◌≤◌, Bool, true, false, cond, not, Option, Some, None, List, [], ◌∷◌, ◌++◌, ap, ap₂}
use Rattle.std.proofs.Common.{arith, filter, length, nat_cmp, refl, sym}
use Rattle.std.proofs.lemmas.Bool.{cond-true}
use Rattle.std.proofs.lemmas.List.FromFn.{length-map-range_with_len}
use Rattle.std.specs.Ordering.{eq_by_cmp}
use Rattle.std.specs.Option.{option_map}
use Rattle.aggregates.specs.declared.agg.Agg as counts
use Rattle.aggregates.specs.Views.{agg_in}
use Rattle.cube_defs.specs.Cell.{Cell, cell_of, leq}
use Rattle.cube_defs.specs.Rows.{Agg, Row, closure, cov, covers}
use Rattle.cube_defs.specs.Tree.{Tree, cell_at}
use Rattle.cube_laws.specs.Total.{agg_at, agg_some, combine, join_aggs, total}
use Rattle.cube_laws.proofs.CallerLemmas.{leq_antisymm, leq_refl, leq-closure, cov_above, filter-le, below_row, closure-insert, agg_total}
use Rattle.cube_laws.proofs.CallerLemmas.{aggs_add, row_agg, total-split}
use Rattle.qc_arena.specs.RecordReaders.{record_at}
use Rattle.tree_laws.proofs.CallerLemmas.{some_same, there}
use Rattle.tree_search.specs.Found.{IsTreeOf, closure_in}
use Rattle.tree_search.proofs.CallerLemmas.{total_some}
use Rattle.batch_delete.specs.declared.deleted_row.DeletedRow.{DeletedRow}
use Rattle.batch_delete.specs.DeletedRow.{IsDeletedRow}
use Rattle.batch_delete.specs.Rests.{Deletion, rows_after, rows_before, source_before}
use Rattle.batch_delete.proofs.Counted.{counted, counted_at, fewer_left}
use Rattle.batch_delete.proofs.Labelled.{law}
use Rattle.batch_delete.proofs.Resting.{total_agg}

dropped : (q c : Row ℕ → Bool) (xs : List (Row ℕ)) (r : Row ℕ) (ys : List (Row ℕ)) → q r ≡ false
    → filter q (filter c (xs ++ r ∷ ys)) ≡ filter q (filter c (xs ++ ys))
dropped q c [] r ys out = go (c r)
  where
    go : (b : Bool) → filter q (cond b (r ∷ filter c ys) (filter c ys)) ≡ filter q (filter c ys)
    go true = ap (λ b. cond b (r ∷ filter q (filter c ys)) (filter q (filter c ys))) out
    go false = refl
dropped q c (x ∷ xs) r ys out = go (c x) (dropped q c xs r ys out)
  where
    go : (b : Bool) → filter q (filter c (xs ++ r ∷ ys)) ≡ filter q (filter c (xs ++ ys))
        → filter q (cond b (x ∷ filter c (xs ++ r ∷ ys)) (filter c (xs ++ r ∷ ys)))
        ≡ filter q (cond b (x ∷ filter c (xs ++ ys)) (filter c (xs ++ ys)))
    go true more = ap (λ (l : List (Row ℕ)). cond (q x) (x ∷ l) l) more
    go false more = more

some_long : (measures : ℕ) (rows : List (Row ℕ)) (o : Agg) → agg_some measures rows ≡ Some o → length o.parts ≡ measures
some_long measures [] o e = cc
some_long measures (r ∷ rows) o e = ap (λ (a : Agg). length a.parts) (sym (some_same e))
    ∙ length-map-range_with_len _ 0 measures

module _ (d : Deletion) (u t : Cell ℕ) (up : leq (eq_by_cmp nat_cmp) u t ≡ true)
    (own : covers (eq_by_cmp nat_cmp) t d.r ≡ true) where
  abbrev apart : Row ℕ → Bool
  apart r = not (covers (eq_by_cmp nat_cmp) t r)

  -- the rows of t and the others
  split_at : (rows : List (Row ℕ))
      → agg_at (eq_by_cmp nat_cmp) d.measures rows u ≡ join_aggs (agg_at (eq_by_cmp nat_cmp) d.measures rows t)
      (agg_some d.measures (filter apart (cov (eq_by_cmp nat_cmp) rows u)))
  split_at rows =
      agg_total d.measures (cov (eq_by_cmp nat_cmp) rows u)
      ∙ total-split join_aggs None aggs_add (row_agg d.measures) (covers (eq_by_cmp nat_cmp) t)
      (cov (eq_by_cmp nat_cmp) rows u)
      ∙ ap₂ join_aggs
      (ap (total join_aggs None (row_agg d.measures)) (cov_above law rows u t up)
      ∙ sym (agg_total d.measures (cov (eq_by_cmp nat_cmp) rows t)))
      (sym (agg_total d.measures (filter apart (cov (eq_by_cmp nat_cmp) rows u))))

  same_others : filter apart (cov (eq_by_cmp nat_cmp) (rows_before d) u)
      ≡ filter apart (cov (eq_by_cmp nat_cmp) (rows_after d) u)
  same_others = dropped apart (covers (eq_by_cmp nat_cmp) u) d.xs d.r d.ys (ap not own)

  pub others_of : (w b : Agg) → Some w ≡ agg_at (eq_by_cmp nat_cmp) d.measures (rows_before d) u
      → Some b ≡ agg_at (eq_by_cmp nat_cmp) d.measures (rows_before d) t → b.count < w.count
      → (o : Agg) × (length o.parts ≡ d.measures) × (combine b o ≡ w)
      × (agg_at (eq_by_cmp nat_cmp) d.measures (rows_after d) u
      ≡ join_aggs (agg_at (eq_by_cmp nat_cmp) d.measures (rows_after d) t) (Some o))
  others_of w b e f less = go (agg_some d.measures (filter apart (cov (eq_by_cmp nat_cmp) (rows_before d) u))) refl
    where
      whole : Some w ≡ join_aggs (Some b)
          (agg_some d.measures (filter apart (cov (eq_by_cmp nat_cmp) (rows_before d) u)))
      whole = e ∙ split_at (rows_before d)
          ∙ ap (λ o. join_aggs o (agg_some d.measures (filter apart (cov (eq_by_cmp nat_cmp) (rows_before d) u))))
          (sym f)

      go : (o : Option Agg) → agg_some d.measures (filter apart (cov (eq_by_cmp nat_cmp) (rows_before d) u)) ≡ o
          → (o : Agg) × (length o.parts ≡ d.measures) × (combine b o ≡ w)
          × (agg_at (eq_by_cmp nat_cmp) d.measures (rows_after d) u
          ≡ join_aggs (agg_at (eq_by_cmp nat_cmp) d.measures (rows_after d) t) (Some o))
      go None q = absurd (let same : w.count ≡ b.count = ap counted (whole ∙ ap (join_aggs (Some b)) q) in omega arith)
      go (Some o) q = (
        o,
        some_long d.measures (filter apart (cov (eq_by_cmp nat_cmp) (rows_before d) u)) o q,
        some_same (sym (whole ∙ ap (join_aggs (Some b)) q)),
        split_at (rows_after d) ∙ ap (join_aggs (agg_at (eq_by_cmp nat_cmp) d.measures (rows_after d) t))
            (ap (agg_some d.measures) (sym same_others) ∙ q),
      )

-- no more rows are left than there were
pub few_left : (d : Deletion) (u : Cell ℕ)
    → counted (agg_at (eq_by_cmp nat_cmp) d.measures (rows_after d) u) ≤ length (rows_before d)
few_left d u =
    let is = counted_at d.measures (rows_after d) u in
    let less = fewer_left (covers (eq_by_cmp nat_cmp) u) d.xs d.r d.ys in
    let all = filter-le (covers (eq_by_cmp nat_cmp) u) (rows_before d) in
    omega arith

-- the row's tuple is a class
pub tuple_closes : (d : Deletion) (t : Cell ℕ) → t ≡ cell_of d.r.tuple → (covers (eq_by_cmp nat_cmp) t d.r ≡ true)
    × (closure (eq_by_cmp nat_cmp) (rows_before d) t ≡ Some t)
tuple_closes d t row = (own, by (closure (eq_by_cmp nat_cmp) (rows_before d) t) refl)
  where
    own : covers (eq_by_cmp nat_cmp) t d.r ≡ true
    own = ap (λ c. leq (eq_by_cmp nat_cmp) c (cell_of d.r.tuple)) row ∙ leq_refl law (cell_of d.r.tuple)

    by : (o : Option (Cell ℕ)) → closure (eq_by_cmp nat_cmp) (rows_before d) t ≡ o
        → closure (eq_by_cmp nat_cmp) (rows_before d) t ≡ Some t
    by None q = let bad = sym (closure-insert law d.xs d.r d.ys t ∙ cond-true _ _ _ own) ∙ q in cc
    by (Some w) q =
        let up = leq-closure law (rows_before d) t w q in
        let down = rw (← row) at (below_row law d.xs d.r d.ys t w own q) in
        q ∙ ap (λ c. Some c) (leq_antisymm law w t down up)

module _ (dims : ℕ) (tree : Tree ℕ) (d : Deletion) (h : IsTreeOf dims tree (source_before d)) where
  -- a class has what its rows come to
  pub class_agg : (c : Cell ℕ) → length c ≡ dims → (k : ℕ) → cell_at tree k ≡ Some c
      → closure_in (source_before d) c ≡ Some c
      → (record_at tree k).class ≡ agg_at (eq_by_cmp nat_cmp) d.measures (rows_before d) c
  class_agg c long k at own = total_some dims tree (source_before d) h c long k (there tree k c at) (ap (λ x. Some x) at
      ∙ sym (ap (option_map (λ x. Some x)) own)) ∙ total_agg d.measures (rows_before d) c

-- what a class comes to afterwards, by its tuple's rows and the others
pub left : (d : Deletion) (u t : Cell ℕ) → leq (eq_by_cmp nat_cmp) u t ≡ true → covers (eq_by_cmp nat_cmp) t d.r ≡ true
    → (whole gone others : counts.Agg)
    → Some (agg_in whole) ≡ agg_at (eq_by_cmp nat_cmp) d.measures (rows_before d) u
    → Some (agg_in gone) ≡ agg_at (eq_by_cmp nat_cmp) d.measures (rows_before d) t → gone.count < whole.count
    → ((o : Agg) → length o.parts ≡ length (agg_in gone).parts → combine (agg_in gone) o ≡ agg_in whole
    → agg_in others ≡ o)
    → (length (agg_in others).parts ≡ d.measures)
    × (agg_at (eq_by_cmp nat_cmp) d.measures (rows_after d) u
    ≡ join_aggs (agg_at (eq_by_cmp nat_cmp) d.measures (rows_after d) t) (Some (agg_in others)))
left d u t up own whole gone others e f less told =
    let o = others_of d u t up own (agg_in whole) (agg_in gone) e f less in
    let is : agg_in others ≡ o.0
    = told o.0 (o.1 ∙ sym (some_long d.measures (cov (eq_by_cmp nat_cmp) (rows_before d) t) (agg_in gone) (sym f)))
    o.2 in (
      ap (λ (a : Agg). length a.parts) is ∙ o.1,
      o.3
          ∙ ap (λ a. join_aggs (agg_at (eq_by_cmp nat_cmp) d.measures (rows_after d) t) (Some a)) (sym is),
    )

-- so it is by what is known of the row
pub left_of : (d : Deletion) (row : DeletedRow) (u : Cell ℕ) (whole gone others : counts.Agg) → IsDeletedRow d row
    → covers (eq_by_cmp nat_cmp) u d.r ≡ true
    → Some (agg_in whole) ≡ agg_at (eq_by_cmp nat_cmp) d.measures (rows_before d) u
    → row.all ≡ Some gone → gone.count < whole.count
    → ((o : Agg) → length o.parts ≡ length (agg_in gone).parts → combine (agg_in gone) o ≡ agg_in whole
    → agg_in others ≡ o)
    → (length (agg_in others).parts ≡ d.measures)
    × (agg_at (eq_by_cmp nat_cmp) d.measures (rows_after d) u
    ≡ join_aggs (agg_at (eq_by_cmp nat_cmp) d.measures (rows_after d) row.tuple.now) (Some (agg_in others)))
left_of d row u whole gone others is below e all less told =
    let t = row.tuple.now in
    let up = rw (← is.tuple) at below in
    left d u t up (tuple_closes d t is.tuple).0 whole gone others e (sym (ap (option_map agg_in) all) ∙ is.all) less told

pub twins_long : (d : Deletion) (t : Cell ℕ) (a : Agg) → agg_at (eq_by_cmp nat_cmp) d.measures (rows_after d) t ≡ Some a
    → length a.parts ≡ d.measures
twins_long d t a e = some_long d.measures (cov (eq_by_cmp nat_cmp) (rows_after d) t) a e

pub few_both : (d : Deletion) (u : Cell ℕ) (a b : Agg) (o : Option Agg) → o ≡ Some a
    → agg_at (eq_by_cmp nat_cmp) d.measures (rows_after d) u ≡ join_aggs o (Some b)
    → a.count + b.count ≤ length (rows_before d)
few_both d u a b o is e =
    let few = few_left d u in
    let same : counted (agg_at (eq_by_cmp nat_cmp) d.measures (rows_after d) u) ≡ a.count + b.count
    = ap counted (e ∙ ap (λ o. join_aggs o (Some b)) is) in
    omega arith
