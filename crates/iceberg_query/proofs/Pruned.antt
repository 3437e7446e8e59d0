-- Below a class of whose rows none can come to what is asked, no node is asked for.
use Rattle.std.proofs.Common.{◌≡◌, ℕ, ◌≤◌, true, false, ◌&&◌, Some, List, [], ◌∷◌, filter, length, map, sym, ap, subst, ◌∙◌, arith}
use Rattle.std.specs.Prelude.{IsSome}
use Rattle.std.specs.FinMap as numbers
use Rattle.std.specs.Option.{option_map}
use Rattle.std.specs.Ordering.{nat_cmp, eq_by_cmp}
use Rattle.std.proofs.Math.Bool.{and-false}
use Rattle.cube_defs.specs.Cell.{Cell, cell_of, depth, leq}
use Rattle.cube_defs.specs.Rows.{Agg, Row, agg, agg_of, closure, cov, covers, is_class, meet_all}
use Rattle.cube_defs.specs.Tree.{Tree}
use Rattle.cube_defs.specs.Answers as answers
use Rattle.cube_laws.proofs.CallerLemmas.{cell_prefix-leq, cov_above, all_from, filter_none, code_equality}
use Rattle.aggregates.specs.declared.agg.Agg.{Agg as Total}
use Rattle.aggregates.specs.Views.{IsThere, agg_in}
use Rattle.qc_arena.specs.RecordReaders.{record_at}
use Rattle.tree_search.specs.Found.{IsTreeOf, TreeRows}
use Rattle.iceberg_query.specs.declared.ask.Ask.{Ask}
use Rattle.iceberg_query.specs.Asked.{ask_in}
use Rattle.iceberg_query.specs.Subtree.{subtree, is_wanted, wanted}
use Rattle.iceberg_query.specs.Reach.{IsOfSome}
use Rattle.lower_bounds.proofs.CallerLemmas.{closed}
use Rattle.iceberg_query.proofs.Measures.{class_agg, wanted_is}
use Rattle.iceberg_query.proofs.Parts.{of_some}
use Rattle.iceberg_query.proofs.Reached.{IsBelow, below_begins}

module _ (dims : ℕ) (tree : Tree ℕ) (source : TreeRows) (h : IsTreeOf dims tree source) where
  abbrev cell : ℕ → Cell ℕ
  cell k = (record_at tree k).cell

  -- a node covers a row
  covers_some : (l : ℕ) → IsSome (numbers.get tree l) → 1 ≤ length (cov (eq_by_cmp nat_cmp) source.rows (cell l))
  covers_some l t = let u : (u : Cell ℕ) × (closure (eq_by_cmp nat_cmp) source.rows (cell l) ≡ Some u)
      = closed dims tree source h l t in go (cov (eq_by_cmp nat_cmp) source.rows (cell l)) u.0 u.1
    where
      go : (xs : List (Row ℕ)) (u : Cell ℕ) → meet_all (eq_by_cmp nat_cmp) (map (λ row. cell_of row.tuple) xs) ≡ Some u
          → 1 ≤ length xs
      go [] u e = cc
      go (x ∷ xs) u e = omega arith

  -- a node that generalizes another covers some of its rows
  some_below : (k l : ℕ) → IsBelow dims tree source h k l
      → IsOfSome source.measures (agg (eq_by_cmp nat_cmp) source.measures source.rows (cell k))
      (agg (eq_by_cmp nat_cmp) source.measures source.rows (cell l))
  some_below k l b =
      let over : leq (eq_by_cmp nat_cmp) (cell k) (cell l) ≡ true
      = subst (λ c. leq (eq_by_cmp nat_cmp) c (cell l) ≡ true) b.begins
      (cell_prefix-leq code_equality (depth (cell k)) (cell l)) in
      let e : filter (covers (eq_by_cmp nat_cmp) (cell l)) (cov (eq_by_cmp nat_cmp) source.rows (cell k))
      ≡ cov (eq_by_cmp nat_cmp) source.rows (cell l) = cov_above code_equality source.rows (cell k) (cell l) over in
      subst (λ rows. IsOfSome source.measures (agg (eq_by_cmp nat_cmp) source.measures source.rows (cell k))
      (agg_of source.measures rows)) e
      (of_some source.measures (cov (eq_by_cmp nat_cmp) source.rows (cell k)) (covers (eq_by_cmp nat_cmp) (cell l))
      (subst (λ rows. 1 ≤ length rows) (sym e) (covers_some l b.there)))

  pub none_below : (ask : Ask) (k : ℕ) (t : IsSome (numbers.get tree k)) (a : Total)
      → option_map agg_in (Some a) ≡ (record_at tree k).class → IsThere source.measures ask.kind
      → ((measures : ℕ) (some : Agg) → IsThere measures ask.kind → IsOfSome measures (agg_in a) some
      → answers.passes_bound (ask_in ask) some ≡ false)
      → (n : ℕ) → wanted tree ask (subtree tree n k) ≡ []
  none_below ask k t a e there fails n
      = filter_none _ (subtree tree n k)
      (all_from (λ l. is_wanted ask (record_at tree l).class ≡ false) (subtree tree n k) (λ l m.
      let b : IsBelow dims tree source h k l = below_begins dims tree source h n k l t m in
      let whole : agg_in a ≡ agg (eq_by_cmp nat_cmp) source.measures source.rows (cell k)
      = class_agg dims tree source h k t a e in
      let not_asked = fails source.measures (agg (eq_by_cmp nat_cmp) source.measures source.rows (cell l)) there
      (subst (λ w. IsOfSome source.measures w (agg (eq_by_cmp nat_cmp) source.measures source.rows (cell l)))
      (sym whole) (some_below k l b)) in
      wanted_is dims tree source h l b.there ask
      ∙ ap (λ q. is_class (eq_by_cmp nat_cmp) source.rows (cell l) && q) not_asked
      ∙ and-false (is_class (eq_by_cmp nat_cmp) source.rows (cell l))))
