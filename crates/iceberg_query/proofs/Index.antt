-- The nodes of the entries that qualify are those of the classes that are asked for.
use Rattle.std.proofs.Common.{◌≡◌, ℕ, Bool, true, false, cond, Option, Some, None, List, [], ◌∷◌, map, filter, refl, sym, ap, subst, ◌∙◌}
use Rattle.std.proofs.Common.{nat_eq, true≢false}
use Rattle.std.specs.Prelude.{IsSome, IfSome}
use Rattle.std.specs.Ordering.{is_ge, is_le}
use Rattle.std.specs.FinMap as numbers
use Rattle.std.specs.List.{AllByRecursion, IsDistinct}
use Rattle.std.specs.List.Sorted.{IsPermutation}
use Rattle.std.proofs.lemmas.List.Sorted.{IsPermutation-map, IsPermutation-reverse, IsPermutation-sym}
use Rattle.cube_defs.specs.Rows.{Agg, Fraction}
use Rattle.cube_defs.specs.Tree.{Node, Tree}
use Rattle.cube_defs.specs.Answers as answers
use Rattle.cube_laws.specs.Lists.{Among}
use Rattle.cube_laws.proofs.CallerLemmas.{among_filter, among_map, filter_among, map_among, nat_eq-turned}
use Rattle.aggregates.specs.Views.{fraction_in, kind_in, ratio_in}
use Rattle.measure_index.specs.declared.entry.IndexEntry.{IndexEntry}
use Rattle.measure_index.specs.Index.{entries_in, ranking_of}
use Rattle.measure_index.specs.Rankings.{IsIndex, IsRanking, Ranking}
use Rattle.measure_index.specs.Walks.{is_at_least, is_at_most}
use Rattle.measure_index.proofs.CallerLemmas.{index_alike, nodes_once, ranking_found}
use Rattle.qc_arena.specs.Changes.{class_in}
use Rattle.qc_arena.specs.RecordReaders.{record_at, record_or}
use Rattle.iceberg_query.specs.declared.ask.Ask.{Ask}
use Rattle.iceberg_query.specs.declared.ask.Bound.{Bound}
use Rattle.iceberg_query.specs.declared.ask.Bound.TheVariants as bounds
use Rattle.iceberg_query.specs.Asked.{bound_in}
use Rattle.iceberg_query.specs.Subtree.{is_wanted}
use Rattle.iceberg_query.specs.Indexed.{qualifying_entries, class_of_node, node_of, qualifying}
use Rattle.iceberg_query.specs.Picked.{ArePicked}
use Rattle.iceberg_query.proofs.Bounded.{class_there}
use Rattle.iceberg_query.proofs.Sorted.{among_permutation, once_permutation}

picked_permutation : (tree : Tree ℕ) (ask : Ask) (ks ls : List ℕ) → IsPermutation ks ls → ArePicked tree ask ks
    → ArePicked tree ask ls
picked_permutation tree ask ks ls p a = record {
  once = once_permutation nat_eq nat_eq-turned ks ls p a.once;
  each = λ k. (
    λ m. (a.each k).0 (among_permutation ks ls p k m),
    λ q. among_permutation ls ks (IsPermutation-sym ks ls p) k ((a.each k).1 q),
  );
}

once_passing : (test : IndexEntry → Bool) (es : List IndexEntry) → IsDistinct nat_eq (map node_of es)
    → IsDistinct nat_eq (map node_of (filter test es))
unfolding IsDistinct
once_passing test [] h = tt
once_passing test (e ∷ es) h = go (test e) (once_passing test es h.1)
  where
    all : (fs : List IndexEntry) → AllByRecursion (λ l. nat_eq e.node l ≡ false) (map node_of fs)
        → AllByRecursion (λ l. nat_eq e.node l ≡ false) (map node_of (filter test fs))
    all [] a = tt
    all (f ∷ fs) a = by (test f) (all fs a.1)
      where
        by : (b : Bool) → AllByRecursion (λ l. nat_eq e.node l ≡ false) (map node_of (filter test fs))
            → AllByRecursion (λ l. nat_eq e.node l ≡ false) (map node_of (cond b (f ∷ filter test fs) (filter test fs)))
        by true r = (a.0, r)
        by false r = r

    go : (b : Bool) → IsDistinct nat_eq (map node_of (filter test es))
        → IsDistinct nat_eq (map node_of (cond b (e ∷ filter test es) (filter test es)))
    go true r = (all es h.0, r)
    go false r = r

abbrev class_of_record : Tree ℕ → ℕ → Option Agg
class_of_record tree k = (record_at tree k).class

pub class_same : (o : Option (Node ℕ ℕ)) → class_in o ≡ (record_or o).class
class_same None = refl
class_same (Some n) = refl

module _ (tree : Tree ℕ) (ask : Ask) (r : Ranking) (is : IsRanking (class_of_record tree) r) (kind : ask.kind ≡ r.kind)
    (unit : r.scale ≡ ask.scale) where
  abbrev HasValue : IndexEntry → Type 0
  HasValue e = (a : Agg) × ((record_at tree e.node).class ≡ Some a)
      × (ratio_in e.value ≡ answers.value_of (kind_in ask.kind) ask.scale a)

  has_value : (e : IndexEntry) → Among e r.entries → HasValue e
  has_value e m =
      let c : (a : Agg) × ((record_at tree e.node).class ≡ Some a)
      × (ratio_in e.value ≡ answers.value_of (kind_in r.kind) r.scale a) = is.classes e m in (
        c.0,
        c.1,
        c.2 ∙ ap (λ k. answers.value_of (kind_in k) r.scale c.0) (sym kind)
            ∙ ap (λ (s : ℕ). answers.value_of (kind_in ask.kind) s c.0) unit,
      )

  picked_passing : (test : IndexEntry → Bool)
      → ((e : IndexEntry) → Among e r.entries → test e ≡ is_wanted ask (record_at tree e.node).class)
      → ArePicked tree ask (map node_of (filter test r.entries))
  picked_passing test same = record {
    once = once_passing test r.entries (nodes_once (class_of_record tree) r is);
    each = λ k. (
      λ m.
          let g : (e : IndexEntry) × Among e (filter test r.entries) × (k ≡ e.node)
          = among_map node_of k (filter test r.entries) m in
          let f = filter_among test g.0 r.entries g.1 in
          let c : HasValue g.0 = has_value g.0 f.0 in
          let t : IsSome (record_at tree g.0.node).class = subst (λ o. IsSome o) (sym c.1) refl in (
            subst (λ l. IsSome (numbers.get tree l)) (sym g.2) (class_there tree g.0.node t),
            ap (λ l. is_wanted ask (record_at tree l).class) g.2 ∙ sym (same g.0 f.0) ∙ f.1,
          ),
      λ q. go k (record_at tree k).class refl q.1,
    );
  }
    where
      go : (k : ℕ) (o : Option Agg) → (record_at tree k).class ≡ o → is_wanted ask (record_at tree k).class ≡ true
          → Among k (map node_of (filter test r.entries))
      go k None e w = absurd (true≢false (sym w ∙ ap (is_wanted ask) e))
      go k (Some a) e w =
          let g : (x : IndexEntry) × Among x r.entries × (x.node ≡ k) = is.all k a e in
          let t : test g.0 ≡ true = same g.0 g.1 ∙ ap (λ l. is_wanted ask (record_at tree l).class) g.2 ∙ w in
          subst (λ l. Among l (map node_of (filter test r.entries))) g.2
          (map_among node_of g.0 (filter test r.entries) (among_filter test g.0 r.entries g.1 t))

  least_same : ask.bound ≡ bounds.AtLeast → (e : IndexEntry) → Among e r.entries
      → is_at_least ask.value e ≡ is_wanted ask (record_at tree e.node).class
  least_same b e m =
      let c : HasValue e = has_value e m in
      ap (λ (v : Fraction). is_ge (answers.fraction_cmp v (fraction_in ask.value))) c.2
      ∙ sym (ap (is_wanted ask) c.1
      ∙ ap (λ x. answers.passes_bound (record {
        kind = kind_in ask.kind;
        scale = ask.scale;
        bound
            = bound_in x;
        value = fraction_in ask.value;
      }) c.0) b)

  most_same : ask.bound ≡ bounds.AtMost → (e : IndexEntry) → Among e r.entries
      → is_at_most ask.value e ≡ is_wanted ask (record_at tree e.node).class
  most_same b e m =
      let c : HasValue e = has_value e m in
      ap (λ (v : Fraction). is_le (answers.fraction_cmp v (fraction_in ask.value))) c.2
      ∙ sym (ap (is_wanted ask) c.1
      ∙ ap (λ x. answers.passes_bound (record {
        kind = kind_in ask.kind;
        scale = ask.scale;
        bound
            = bound_in x;
        value = fraction_in ask.value;
      }) c.0) b)

  picked_qualifying : (bound : Bound) → ask.bound ≡ bound
      → ArePicked tree ask (map node_of (qualifying bound ask.value r.entries))
  picked_qualifying bounds.AtLeast b =
      picked_permutation tree ask _ _
      (IsPermutation-map node_of _ _ (IsPermutation-reverse (filter (is_at_least ask.value) r.entries)))
      (picked_passing (is_at_least ask.value) (least_same b))
  picked_qualifying bounds.AtMost b = picked_passing (is_at_most ask.value) (most_same b)

pub picked_indexed : (tree : Tree ℕ) (ask : Ask) (index : List Ranking) → IsIndex (class_of_node tree) index
    → IsSome (ranking_of ask.kind index) → IfSome (ranking_of ask.kind index) (λ r. r.scale ≡ ask.scale)
    → (ks : List ℕ) → ks ≡ map node_of (qualifying_entries ask index) → ArePicked tree ask ks
picked_indexed tree ask index is there unit ks e = go (ranking_of ask.kind index) refl there unit
  where
    go : (o : Option Ranking) → ranking_of ask.kind index ≡ o → IsSome o → IfSome o (λ r. r.scale ≡ ask.scale)
        → ArePicked tree ask ks
    go None f t u = absurd (true≢false (sym t))
    go (Some r) f t u =
        let told : IsIndex (class_of_record tree) index
        = index_alike (class_of_node tree) (class_of_record tree) (λ k. class_same (numbers.get tree k)) index is in
        let found = ranking_found (class_of_record tree) ask.kind index r told f in
        subst (ArePicked tree ask) (sym (e ∙ ap (λ o. map node_of (qualifying ask.bound ask.value (entries_in o))) f))
        (picked_qualifying tree ask r found.0 found.1 u ask.bound refl)
