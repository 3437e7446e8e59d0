-- The rows xs ++ r ∷ ys are the rows xs ++ ys and one more: what an insertion adds, and a deletion takes away.
use Rattle.std.proofs.Common.{ℤ, pos, ◌+ℤ◌, ◌-ℤ◌, ◌<◌, suc, arith, slice_index_or, ◌≡◌, ℕ, Bool, true, false, cond, Option, Some, None}
use Rattle.std.proofs.Common.{List, [], ◌∷◌, ◌++◌, refl, sym, ap, subst, ◌∙◌, true≢false}
use Rattle.std.proofs.lemmas.Bool.{cond-true, cond_both}
use Rattle.std.specs.Option.{option_eq, option_map}
use Rattle.cube_defs.specs.Cell.{Cell, leq, meet, cell_of, cell_eq, cell_prefix, depth}
use Rattle.std.specs.Int.{int_min, int_max}
use Rattle.std.proofs.lemmas.Int.{ints}
use Rattle.cube_defs.specs.Answers.{part}
use Rattle.cube_defs.specs.Rows.{Part, part_of, Row, covers, cov, closure, meet_after, is_class, is_node, agg, agg_of}
use Rattle.cube_laws.specs.Total.{total, join_aggs, join_cells, combine, combine_part, agg_at}
use Rattle.cube_laws.proofs.Lists.{length_filter-insert, filter-insert_apart}
use Rattle.cube_laws.proofs.Cells.{IsEquality, leq_antisymm, leq_refl, meet_comm}
use Rattle.cube_laws.proofs.Closures.{leq-closure, meet_after_below, meet_after_rest, is_class-is}
use Rattle.cube_laws.proofs.Totals.{total_filter-insert}
use Rattle.cube_laws.proofs.RowTotals.{cells_add, aggs_add, row_cell, row_agg, closure_total, agg_total, agg_where, agg_none, part-agg_of}
use Rattle.cube_laws.proofs.RowTotals.{part-combine}
use Rattle.cube_laws.proofs.Nodes.{prefix_of_class, class_prefixes}

module _ {A : Type 0} {eq : A → A → Bool} (law : IsEquality eq) where
  module _ (xs : List (Row A)) (r : Row A) (ys : List (Row A)) where
    -- what a cell that does not cover r says, stays
    pub cov_stays : (c : Cell A) → covers eq c r ≡ false → cov eq (xs ++ r ∷ ys) c ≡ cov eq (xs ++ ys) c
    cov_stays c h = filter-insert_apart (covers eq c) xs r ys h

    pub closure_stays : (c : Cell A) → covers eq c r ≡ false → closure eq (xs ++ r ∷ ys) c ≡ closure eq (xs ++ ys) c
    closure_stays c h = closure_total eq (xs ++ r ∷ ys) c ∙ ap (total (join_cells eq) None row_cell) (cov_stays c h)
        ∙ sym (closure_total eq (xs ++ ys) c)

    pub agg_stays : (measures : ℕ) (c : Cell A) → covers eq c r ≡ false
        → agg eq measures (xs ++ r ∷ ys) c ≡ agg eq measures (xs ++ ys) c
    agg_stays measures c h = ap (agg_of measures) (cov_stays c h)

    pub class_stays : (c : Cell A) → covers eq c r ≡ false → is_class eq (xs ++ r ∷ ys) c ≡ is_class eq (xs ++ ys) c
    class_stays c h = ap (λ o. option_eq (cell_eq eq) o (Some c)) (closure_stays c h)

    pub node_stays : (c : Cell A) → covers eq c r ≡ false → is_node eq (xs ++ r ∷ ys) c ≡ is_node eq (xs ++ ys) c
    node_stays c h = ap (λ o. option_eq (cell_eq eq) (option_map (cell_prefix (depth c)) o) (Some c))
        (closure_stays c h)

    -- what the row added to the cells that cover it
    pub closure-insert : (c : Cell A)
        → closure eq (xs ++ r ∷ ys) c ≡ cond (covers eq c r)
        (Some (meet_after eq (cell_of r.tuple) (closure eq (xs ++ ys) c))) (closure eq (xs ++ ys) c)
    closure-insert c =
        closure_total eq (xs ++ r ∷ ys) c
        ∙ total_filter-insert (join_cells eq) None (cells_add law) row_cell (covers eq c) xs r ys
        ∙ ap (λ o. cond (covers eq c r) (Some (meet_after eq (cell_of r.tuple) o)) o)
        (sym (closure_total eq (xs ++ ys) c))

    pub agg_at-insert : (measures : ℕ) (c : Cell A)
        → agg_at eq measures (xs ++ r ∷ ys) c ≡ cond (covers eq c r)
        (join_aggs (row_agg measures r) (agg_at eq measures (xs ++ ys) c)) (agg_at eq measures (xs ++ ys) c)
    agg_at-insert measures c =
        agg_total measures (cov eq (xs ++ r ∷ ys) c)
        ∙ total_filter-insert join_aggs None aggs_add (row_agg measures) (covers eq c) xs r ys
        ∙ ap (λ o. cond (covers eq c r) (join_aggs (row_agg measures r) o) o)
        (sym (agg_total measures (cov eq (xs ++ ys) c)))

    -- the closure of a cell that covers r generalizes r
    pub below_row : (c w : Cell A) → covers eq c r ≡ true → closure eq (xs ++ r ∷ ys) c ≡ Some w → covers eq w r ≡ true
    below_row c w h e =
        let is : meet_after eq (cell_of r.tuple) (closure eq (xs ++ ys) c) ≡ w
        = let k : Some w ≡ Some (meet_after eq (cell_of r.tuple) (closure eq (xs ++ ys) c))
        = sym e ∙ closure-insert c ∙ cond-true _ _ _ h in cc in
        subst (λ x. leq eq x (cell_of r.tuple) ≡ true) is
        (meet_after_below law (cell_of r.tuple) (closure eq (xs ++ ys) c))

    -- a closure gets no smaller
    pub closure_grows : (c u w : Cell A) → closure eq (xs ++ r ∷ ys) c ≡ Some u → closure eq (xs ++ ys) c ≡ Some w
        → leq eq u w ≡ true
    closure_grows c u w e f = cond_both (covers eq c r) _ _ (λ o. o ≡ Some u → leq eq u w ≡ true)
        (λ h k. let is : meet_after eq (cell_of r.tuple) (closure eq (xs ++ ys) c) ≡ u = cc in
        subst (λ x. leq eq x w ≡ true) is (meet_after_rest law (cell_of r.tuple) (closure eq (xs ++ ys) c) w f))
        (λ h k. let is : w ≡ u = let z : Some w ≡ Some u = sym f ∙ k in cc in
        subst (λ x. leq eq x w ≡ true) is (leq_refl law w))
        (sym (closure-insert c) ∙ e)

    -- a cell that covers a row still, covered one before
    pub covered-insert : (c w : Cell A) → closure eq (xs ++ ys) c ≡ Some w → (u : Cell A)
        × (closure eq (xs ++ r ∷ ys) c ≡ Some u)
    covered-insert c w e = cond_both (covers eq c r) _ _ (λ o. closure eq (xs ++ r ∷ ys) c ≡ o → (u : Cell A)
        × (closure eq (xs ++ r ∷ ys) c ≡ Some u)) (λ h k. (_, k)) (λ h k. (w, k ∙ e)) (closure-insert c)

    -- no class is added
    pub class-insert : (u : Cell A) → is_class eq (xs ++ ys) u ≡ true → is_class eq (xs ++ r ∷ ys) u ≡ true
    class-insert u h =
        let e : closure eq (xs ++ ys) u ≡ Some u = (is_class-is law (xs ++ ys) u).0 h in
        let b : (w : Cell A) × (closure eq (xs ++ r ∷ ys) u ≡ Some w) = covered-insert u u e in
        let same : u ≡ b.0 = leq_antisymm law u b.0 (leq-closure law (xs ++ r ∷ ys) u b.0 b.1)
        (closure_grows u b.0 u b.1 e) in
        (is_class-is law (xs ++ r ∷ ys) u).1 (b.1 ∙ ap (λ x. Some x) (sym same))

    -- and no node
    pub node-insert : (p : Cell A) → is_node eq (xs ++ ys) p ≡ true → is_node eq (xs ++ r ∷ ys) p ≡ true
    node-insert p h = go (closure eq (xs ++ ys) p) refl
      where
        go : (o : Option (Cell A)) → closure eq (xs ++ ys) p ≡ o → is_node eq (xs ++ r ∷ ys) p ≡ true
        go None e = absurd (true≢false (sym h
            ∙ ap (λ o. option_eq (cell_eq eq) (option_map (cell_prefix (depth p)) o) (Some p)) e))
        go (Some u) e =
            let f = prefix_of_class law (xs ++ ys) p u e h in
            subst (λ x. is_node eq (xs ++ r ∷ ys) x ≡ true) f.1
            (class_prefixes law (xs ++ r ∷ ys) (depth p) u (class-insert u f.0))

    -- the closure of a cell that covers r: r's tuple where it covers no other row, else the meet with it
    pub closure-insert_alone : (c : Cell A) → covers eq c r ≡ true → closure eq (xs ++ ys) c ≡ None
        → closure eq (xs ++ r ∷ ys) c ≡ Some (cell_of r.tuple)
    closure-insert_alone c h e = closure-insert c ∙ cond-true _ _ _ h
        ∙ ap (λ o. Some (meet_after eq (cell_of r.tuple) o)) e

    pub closure-insert_more : (c u : Cell A) → covers eq c r ≡ true → closure eq (xs ++ ys) c ≡ Some u
        → closure eq (xs ++ r ∷ ys) c ≡ Some (meet eq u (cell_of r.tuple))
    closure-insert_more c u h e = closure-insert c ∙ cond-true _ _ _ h
        ∙ ap (λ o. Some (meet_after eq (cell_of r.tuple) o)) e ∙ ap (λ x. Some x) (meet_comm law (cell_of r.tuple) u)

    -- and its aggregate: that of r alone, else both put together
    pub agg-insert_alone : (measures : ℕ) (c : Cell A) → covers eq c r ≡ true → closure eq (xs ++ ys) c ≡ None
        → agg eq measures (xs ++ r ∷ ys) c ≡ agg_of measures (r ∷ [])
    agg-insert_alone measures c h e =
        let k : Some (agg eq measures (xs ++ r ∷ ys) c) ≡ Some (agg_of measures (r ∷ [])) =
        sym (agg_where eq measures (xs ++ r ∷ ys) c (cell_of r.tuple) (closure-insert_alone c h e))
        ∙ agg_at-insert measures c ∙ cond-true _ _ _ h
        ∙ ap (join_aggs (row_agg measures r)) (agg_none eq measures (xs ++ ys) c e) in cc

    pub agg-insert_more : (measures : ℕ) (c u : Cell A) → covers eq c r ≡ true → closure eq (xs ++ ys) c ≡ Some u
        → agg eq measures (xs ++ r ∷ ys) c ≡ combine (agg_of measures (r ∷ [])) (agg eq measures (xs ++ ys) c)
    agg-insert_more measures c u h e =
        let k : Some (agg eq measures (xs ++ r ∷ ys) c)
        ≡ Some (combine (agg_of measures (r ∷ [])) (agg eq measures (xs ++ ys) c)) =
        sym (agg_where eq measures (xs ++ r ∷ ys) c (meet eq u (cell_of r.tuple)) (closure-insert_more c u h e))
        ∙ agg_at-insert measures c ∙ cond-true _ _ _ h
        ∙ ap (join_aggs (row_agg measures r)) (agg_where eq measures (xs ++ ys) c u e) in cc

    pub count-insert : (measures : ℕ) (c : Cell A) → covers eq c r ≡ true
        → (agg eq measures (xs ++ r ∷ ys) c).count ≡ suc (agg eq measures (xs ++ ys) c).count
    count-insert measures c h = length_filter-insert (covers eq c) xs r ys h

    -- a measure of a cell that covers r and other rows, r's amount being a
    abbrev amount : ℕ → ℤ
    amount m = slice_index_or r.amounts m (pos 0)

    pub part-insert : (measures m : ℕ) (c u : Cell A) → m < measures → covers eq c r ≡ true
        → closure eq (xs ++ ys) c ≡ Some u
        → part (agg eq measures (xs ++ r ∷ ys) c) m ≡ combine_part (part_of (amount m ∷ []))
        (part (agg eq measures (xs ++ ys) c) m)
    part-insert measures m c u l h e =
        ap (λ a. part a m) (agg-insert_more measures c u h e)
        ∙ part-combine measures m (r ∷ []) (cov eq (xs ++ ys) c) l
        ∙ ap (combine_part (part_of (amount m ∷ []))) (sym (part-agg_of measures m (cov eq (xs ++ ys) c) l))

    pub sum-insert : (measures m : ℕ) (c u : Cell A) → m < measures → covers eq c r ≡ true
        → closure eq (xs ++ ys) c ≡ Some u
        → (part (agg eq measures (xs ++ r ∷ ys) c) m).sum ≡ (amount m +ℤ (part (agg eq measures (xs ++ ys) c) m).sum)
    sum-insert measures m c u l h e = ap (λ (p : Part). p.sum) (part-insert measures m c u l h e)

    pub least-insert : (measures m : ℕ) (c u : Cell A) → m < measures → covers eq c r ≡ true
        → closure eq (xs ++ ys) c ≡ Some u
        → (part (agg eq measures (xs ++ r ∷ ys) c) m).least ≡ int_min (amount m)
        (part (agg eq measures (xs ++ ys) c) m).least
    least-insert measures m c u l h e = ap (λ (p : Part). p.least) (part-insert measures m c u l h e)

    pub greatest-insert : (measures m : ℕ) (c u : Cell A) → m < measures → covers eq c r ≡ true
        → closure eq (xs ++ ys) c ≡ Some u
        → (part (agg eq measures (xs ++ r ∷ ys) c) m).greatest ≡ int_max (amount m)
        (part (agg eq measures (xs ++ ys) c) m).greatest
    greatest-insert measures m c u l h e = ap (λ (p : Part). p.greatest) (part-insert measures m c u l h e)

-- what is left of a measure when a row of amount a has gone: the sum less a, and the same least where a was not it
pub sum_left : (a s t : ℤ) → s ≡ (a +ℤ t) → t ≡ (s -ℤ a)
sum_left a s t e = grind (arith, ints)

pub least_left : (a l m : ℤ) → l ≡ int_min a m → (l ≡ a → ⊥) → m ≡ l
least_left a l m e h = grind (arith, ints)

pub greatest_left : (a l m : ℤ) → l ≡ int_max a m → (l ≡ a → ⊥) → m ≡ l
greatest_left a l m e h = grind (arith, ints)
