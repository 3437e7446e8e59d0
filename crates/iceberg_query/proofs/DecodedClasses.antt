-- The classes of nodes with the texts of their codes.
use Rattle.std.proofs.Common.{◌≡◌, ◌↔◌, inl, inr, ℕ, Bool, true, false, List, [], ◌∷◌, Some, length, map, refl, sym, ap, ap₂, subst, ◌∙◌}
use Rattle.std.proofs.Common.{arith, true≢false, nat_eq, eq-eqb}
use Rattle.std.specs.Prelude.{IsSome}
use Rattle.std.specs.declared.cmp.Ordering.TheVariants.{Less, Equal}
use Rattle.std.specs.Ordering.{nat_cmp, eq_by_cmp, is_eq, ordering_reverse, ordering_then}
use Rattle.std.specs.Cmp.{nat_cmp_total}
use Rattle.std.specs.Cmp.Lexicographic.{lists_total}
use Rattle.std.specs.FinMap as numbers
use Rattle.std.specs.List.{All, AllByRecursion, IsDistinct}
use Rattle.std.specs.List.Sorted.{IsPermutation, IsSortedBy, IsStrictlySortedBy}
use Rattle.std.proofs.lemmas.Bool.{and_from, and_parts, false_from_ne_true}
use Rattle.std.proofs.lemmas.List.Elements.{All-cons, All-from_recursion}
use Rattle.std.proofs.lemmas.List.FromFn.{length-map-range_with_len}
use Rattle.std.proofs.lemmas.List.Sorted.{All-permutation, IsPermutation-sym}
use Rattle.std.proofs.lemmas.List.{length-map}
use Rattle.cube_defs.specs.Text.{Text, text_cmp}
use Rattle.cube_defs.specs.Cell.{Cell, cell_cmp, depth, cell_prefix}
use Rattle.cube_defs.specs.Rows.{Row, Agg, agg, amounts_of, cov, is_class, part_of}
use Rattle.cube_defs.specs.Tree.{Tree, cell_at, classes}
use Rattle.cube_defs.specs.Answers as answers
use Rattle.cube_laws.specs.Lists.{Among}
use Rattle.cube_laws.specs.Recoding.{AreKnown, RowsAreKnown, TellsApart, coded_cell}
use Rattle.cube_laws.proofs.CallerLemmas.{IsEquality, is_class-is, cell_anti, iceberg-only, asked-is, hit_of, classes-is, among_map}
use Rattle.cube_laws.proofs.CallerLemmas.{map_among, all_among, class_prefixes, equality_by, is_equal, then_equal, code_equality}
use Rattle.cube_laws.proofs.CallerLemmas.{coded-apart, classes-coded, known-closed, agg-coded}
use Rattle.aggregates.specs.Order.{ratio_cmp}
use Rattle.aggregates.specs.Views.{fraction_in, kind_in}
use Rattle.cell_core.specs.declared.cell.NodeNo.{NodeNo}
use Rattle.qc_arena.specs.RecordReaders.{number, record_at}
use Rattle.tree_laws.proofs.CallerLemmas.{cell_prefix-beyond, lowers-coded, lowers-known, there}
use Rattle.tree_search.specs.Found.{IsTreeOf, TreeRows}
use Rattle.tree_search.proofs.CallerLemmas.{cell_of, cell_there}
use Rattle.value_dict.specs.TextLists.{IsDictionary, TextLists}
use Rattle.value_dict.specs.Recoded.{has_code, text_in, decoded_row_list}
use Rattle.value_dict.specs.Decoded as telling
use Rattle.iceberg_query.specs.declared.ask.Ask.{Ask}
use Rattle.iceberg_query.specs.declared.ask.Bound.{Bound}
use Rattle.iceberg_query.specs.declared.ask.Bound.TheVariants as bounds
use Rattle.lower_bounds.specs.Classes.{hit_in}
use Rattle.lower_bounds.specs.declared.class.ClassHit.{ClassHit}
use Rattle.iceberg_query.specs.declared.hits.ValuedClass.{ValuedClass}
use Rattle.iceberg_query.specs.Asked.{ask_in, bound_in}
use Rattle.iceberg_query.specs.Subtree.{is_wanted}
use Rattle.iceberg_query.specs.Hits as hits
use Rattle.iceberg_query.specs.Hits.{IsValued, class_at, decoded_classes, valued_of}
use Rattle.iceberg_query.specs.Order.{is_before, decoded_upper, turned, valued_cmp}
use Rattle.iceberg_query.specs.Picked.{ArePicked}
use Rattle.value_dict.proofs.CallerLemmas.{texts-apart, texts-known, told-known}
use Rattle.iceberg_query.proofs.Measures.{wanted_is}
use Rattle.iceberg_query.proofs.Ordered.{valued_total}
use Rattle.iceberg_query.proofs.Reached.{wide}
use Rattle.iceberg_query.proofs.Sorted.{among_permutation, flips, once_permutation, sorted_rises}

-- with the texts of codes by dimension, as the laws of recoding take them
abbrev told_cell : TextLists → Cell ℕ → Cell Text
told_cell dict c = coded_cell (text_in dict.lists) 0 c

abbrev told_hit : TextLists → answers.ClassHit ℕ → answers.ClassHit Text
told_hit dict hit = record { upper = told_cell dict hit.upper; agg = hit.agg; lowers = map (told_cell dict) hit.lowers }

abbrev told_hits : TextLists → List ClassHit → List (answers.ClassHit Text)
told_hits dict classes = map (λ class. told_hit dict (hit_in class)) classes

text_law : IsEquality (eq_by_cmp text_cmp)
text_law = equality_by (lists_total nat_cmp_total) (numbers.slice_cmp-IsAntisymmetric numbers.nat_cmp-IsAntisymmetric)

texts_there : (lists : List (List Text)) (n : ℕ) (cells : List (Cell ℕ)) → n ≡ length lists
    → AllByRecursion (λ c. AreKnown (has_code lists) 0 c × (length c ≡ n)) cells
    → AllByRecursion (telling.HasTexts lists) cells
texts_there lists n [] e h = tt
texts_there lists n (c ∷ cells) e h
    = (texts-known lists c h.0.0 (omega (arith, e, h.0.1)), texts_there lists n cells e h.1)

told_lowers : (dict : TextLists) (n : ℕ) (cells : List (Cell ℕ)) → n ≡ length dict.lists
    → AllByRecursion (λ c. AreKnown (has_code dict.lists) 0 c × (length c ≡ n)) cells
    → map (telling.decoded_cell dict.lists) cells ≡ map (told_cell dict) cells
told_lowers dict n [] e h = refl
told_lowers dict n (c ∷ cells) e h
    = ap₂ (λ (x : Cell Text) (xs : List (Cell Text)). x ∷ xs) (told-known dict.lists c (omega (arith, e, h.0.1)))
    (told_lowers dict n cells e h.1)

module _ (dims : ℕ) (tree : Tree ℕ) (dict : TextLists) (ask : Ask) (source : TreeRows) (h : IsTreeOf dims tree source)
    (dictionary : IsDictionary dict) (rows_known : RowsAreKnown (has_code dict.lists) source.rows) (ks : List ℕ)
    (picked : ArePicked tree ask ks) (same_dims : length dict.lists ≡ dims) where
  tells : TellsApart (has_code dict.lists) (text_in dict.lists)
  tells = texts-apart dict.lists dictionary.distinct

  abbrev cell : ℕ → Cell ℕ
  cell k = (record_at tree k).cell

  abbrev rows : List (Row Text)
  rows = decoded_row_list dict.lists source.rows

  -- what is known of a class
  record IsFound (k : ℕ) : Type 0 where
    there : IsSome (numbers.get tree k)
    class : is_class (eq_by_cmp nat_cmp) source.rows (cell k) ≡ true
    asked : answers.passes_bound (ask_in ask) (agg (eq_by_cmp nat_cmp) source.measures source.rows (cell k)) ≡ true
    known : AreKnown (has_code dict.lists) 0 (cell k)

  class_known : (c : Cell ℕ) → is_class (eq_by_cmp nat_cmp) source.rows c ≡ true → AreKnown (has_code dict.lists) 0 c
  class_known c e = known-closed code_equality (has_code dict.lists) source.rows c c rows_known
      ((is_class-is code_equality source.rows c).0 e)

  found : (k : ℕ) → Among k ks → IsFound k
  found k m =
      let p = (picked.each k).0 m in
      let b = and_parts (is_class (eq_by_cmp nat_cmp) source.rows (cell k))
      (answers.passes_bound (ask_in ask) (agg (eq_by_cmp nat_cmp) source.measures source.rows (cell k)))
      (sym (wanted_is dims tree source h k p.0 ask) ∙ p.1) in
      record { there = p.0; class = b.0; asked = b.1; known = class_known (cell k) b.0 }

  told_class : (c : Cell ℕ) → AreKnown (has_code dict.lists) 0 c → length c ≡ dims
      → told_hit dict (answers.class_at nat_cmp source.measures source.rows c) ≡ hit_of text_cmp source.measures rows
      (told_cell dict c)
  told_class c k long =
      ap₂ (λ (a : Agg) (ls : List (Cell Text)). record { upper = told_cell dict c; agg = a; lowers = ls })
      (sym (agg-coded code_equality text_law tells source.rows rows_known source.measures c k))
      (sym (lowers-coded nat_cmp_total numbers.nat_cmp-IsAntisymmetric (lists_total nat_cmp_total)
      (numbers.slice_cmp-IsAntisymmetric numbers.nat_cmp-IsAntisymmetric) tells dims source.rows rows_known
      h.wide c k long))

  -- the classes told are those that are asked for
  pub told_asked : (x : answers.ClassHit Text) → Among x (map (told_hit dict) (map (class_at source tree) ks))
      ↔ Among x (answers.passing_classes text_cmp source.measures rows (ask_in ask))
  told_asked x = (
    λ m.
        let a : (y : answers.ClassHit ℕ) × Among y (map (class_at source tree) ks) × (x ≡ told_hit dict y)
        = among_map (told_hit dict) x (map (class_at source tree) ks) m in
        let b : (k : ℕ) × Among k ks × (a.0 ≡ class_at source tree k) = among_map (class_at source tree) a.0 ks a.1 in
        let f : IsFound b.0 = found b.0 b.1 in
        let long = wide dims tree source h b.0 f.there in
        (asked-is (lists_total nat_cmp_total) (numbers.slice_cmp-IsAntisymmetric numbers.nat_cmp-IsAntisymmetric)
        source.measures rows (ask_in ask) x).1 (
          told_cell dict (cell b.0),
          (classes-coded nat_cmp_total numbers.nat_cmp-IsAntisymmetric (lists_total nat_cmp_total)
              (numbers.slice_cmp-IsAntisymmetric numbers.nat_cmp-IsAntisymmetric) tells source.rows rows_known
              (told_cell dict (cell b.0))).1 (
                cell b.0,
                (classes-is nat_cmp_total numbers.nat_cmp-IsAntisymmetric source.rows dims h.wide (cell b.0)).1
                    f.class,
                refl,
              ),
          ap (answers.passes_bound (ask_in ask))
              (agg-coded code_equality text_law tells source.rows rows_known source.measures (cell b.0) f.known)
              ∙ f.asked,
          a.2 ∙ ap (told_hit dict) b.2 ∙ told_class (cell b.0) f.known long,
        ),
    λ m.
        let p = (asked-is (lists_total nat_cmp_total)
        (numbers.slice_cmp-IsAntisymmetric numbers.nat_cmp-IsAntisymmetric) source.measures rows
        (ask_in ask) x).0 m in
        let c : (c : Cell ℕ) × Among c (classes nat_cmp source.rows) × (p.0 ≡ coded_cell (text_in dict.lists) 0 c)
        = (classes-coded nat_cmp_total numbers.nat_cmp-IsAntisymmetric (lists_total nat_cmp_total)
        (numbers.slice_cmp-IsAntisymmetric numbers.nat_cmp-IsAntisymmetric) tells source.rows rows_known p.0).0
        p.1 in
        let class : is_class (eq_by_cmp nat_cmp) source.rows c.0 ≡ true
        = (classes-is nat_cmp_total numbers.nat_cmp-IsAntisymmetric source.rows dims h.wide c.0).0 c.1 in
        let whole : cell_prefix (depth c.0) c.0 ≡ c.0 = cell_prefix-beyond (depth c.0) c.0 (omega arith) in
        let f : (k : ℕ) × (cell_at tree k ≡ Some (cell_prefix (depth c.0) c.0))
        = h.canonical.all (cell_prefix (depth c.0) c.0)
        (class_prefixes code_equality source.rows (depth c.0) c.0 class) in
        let at : cell_at tree f.0 ≡ Some c.0 = f.1 ∙ ap (λ d. Some d) whole in
        let s = there tree f.0 c.0 at in
        let own : cell f.0 ≡ c.0 = cell_of tree f.0 c.0 at in
        let known = class_known c.0 class in
        let passes : answers.passes_bound (ask_in ask) (agg (eq_by_cmp nat_cmp) source.measures source.rows c.0) ≡ true
        = ap (answers.passes_bound (ask_in ask))
        (sym (agg-coded code_equality text_law tells source.rows rows_known source.measures c.0 known))
        ∙ ap (λ d. answers.passes_bound (ask_in ask) (agg (eq_by_cmp text_cmp) source.measures rows d)) (sym c.2)
        ∙ p.2 in
        let wants : is_wanted ask (record_at tree f.0).class ≡ true
        = wanted_is dims tree source h f.0 s ask
        ∙ and_from _ _ (ap (is_class (eq_by_cmp nat_cmp) source.rows) own ∙ class)
        (ap (λ d. answers.passes_bound (ask_in ask) (agg (eq_by_cmp nat_cmp) source.measures source.rows d)) own
        ∙ passes) in
        let k : Among f.0 ks = (picked.each f.0).1 (s, wants) in
        let same : told_hit dict (class_at source tree f.0) ≡ x
        = ap (λ d. told_hit dict (answers.class_at nat_cmp source.measures source.rows d)) own
        ∙ told_class c.0 known (ap length (sym own) ∙ wide dims tree source h f.0 s)
        ∙ ap (hit_of text_cmp source.measures rows) (sym c.2) ∙ sym p.3 in
        subst (λ y. Among y (map (told_hit dict) (map (class_at source tree) ks))) same
        (map_among (told_hit dict) (class_at source tree f.0) (map (class_at source tree) ks)
        (map_among (class_at source tree) f.0 ks k)),
  )

  abbrev ties : ValuedClass → ValuedClass → Bool
  ties x y = is_eq (valued_cmp dict.lists ask.bound x y)

  -- two classes of one place are one node
  same_node : (k l : ℕ) (x y : ValuedClass) → IsFound k → IsFound l → valued_of x ≡ class_at source tree k
      → valued_of y ≡ class_at source tree l → ties x y ≡ true → k ≡ l
  same_node k l x y f g a b e =
      let cells : cell_cmp text_cmp (decoded_upper dict.lists x) (decoded_upper dict.lists y) ≡ Equal
      = then_equal (turned ask.bound (ratio_cmp x.value y.value))
      (cell_cmp text_cmp (decoded_upper dict.lists x) (decoded_upper dict.lists y))
      (is_equal (valued_cmp dict.lists ask.bound x y) e) in
      let told : decoded_upper dict.lists x ≡ decoded_upper dict.lists y
      = cell_anti (lists_total nat_cmp_total) (numbers.slice_cmp-IsAntisymmetric numbers.nat_cmp-IsAntisymmetric)
      (decoded_upper dict.lists x) (decoded_upper dict.lists y) cells in
      let own : x.class.upper ≡ cell k = ap (λ (z : answers.ClassHit ℕ). z.upper) a in
      let other : y.class.upper ≡ cell l = ap (λ (z : answers.ClassHit ℕ). z.upper) b in
      let same : cell k ≡ cell l
      = coded-apart code_equality text_law tells (cell k) (cell l) f.known g.known (ap (told_cell dict) (sym own)
      ∙ told ∙ ap (told_cell dict) other) in
      h.canonical.once k l (cell l) (cell_there tree k f.there ∙ ap (λ c. Some c) same) (cell_there tree l g.there)

  once_values : (vs : List ValuedClass) (ls : List ℕ) → map valued_of vs ≡ map (class_at source tree) ls
      → IsDistinct nat_eq ls → ((k : ℕ) → Among k ls → IsFound k) → IsDistinct ties vs
  unfolding IsDistinct
  once_values [] ls e o f = tt
  once_values (v ∷ vs) [] e o f = cc
  once_values (v ∷ vs) (k ∷ ls) e o f =
      let first : valued_of v ≡ class_at source tree k = cc in
      let rest : map valued_of vs ≡ map (class_at source tree) ls = cc in (
        apart vs ls rest o.0 (λ l m. f l (inr m)) first (f k (inl refl)),
        once_values vs ls rest o.1 (λ l m. f l (inr m)),
      )
    where
      apart : (ws : List ValuedClass) (ls : List ℕ) → map valued_of ws ≡ map (class_at source tree) ls
          → AllByRecursion (λ l. nat_eq k l ≡ false) ls → ((l : ℕ) → Among l ls → IsFound l)
          → valued_of v ≡ class_at source tree k → IsFound k → AllByRecursion (λ w. ties v w ≡ false) ws
      apart [] ls e o f a g = tt
      apart (w ∷ ws) [] e o f a g = cc
      apart (w ∷ ws) (l ∷ ls) e o f a g =
          let first : valued_of w ≡ class_at source tree l = cc in
          let rest : map valued_of ws ≡ map (class_at source tree) ls = cc in (
            false_from_ne_true _ (λ t. true≢false
                (sym (eq-eqb k l (same_node k l v w g (f l (inl refl)) a first t)) ∙ o.0)),
            apart ws ls rest o.1 (λ i m. f i (inr m)) a g,
          )

  -- the order of the classes with texts
  same_order : (x y : ValuedClass) → IsValued ask x → IsValued ask y
      → answers.answer_cmp text_cmp (ask_in ask) (told_hit dict (valued_of x)) (told_hit dict (valued_of y))
      ≡ valued_cmp dict.lists ask.bound x y
  same_order x y a b = go ask.bound
    where
      go : (bound : Bound) → answers.answer_cmp text_cmp (record {
        kind = kind_in ask.kind;
        scale = ask.scale;
        bound
            = bound_in bound;
        value = fraction_in ask.value;
      }) (told_hit dict (valued_of x)) (told_hit dict (valued_of y))
          ≡ valued_cmp dict.lists bound x y
      go bounds.AtLeast = ap₂
          (λ p q. ordering_then (ordering_reverse (answers.fraction_cmp p q))
          (cell_cmp text_cmp (decoded_upper dict.lists x) (decoded_upper dict.lists y))) (sym a) (sym b)
      go bounds.AtMost = ap₂ (λ p q. ordering_then (answers.fraction_cmp p q)
          (cell_cmp text_cmp (decoded_upper dict.lists x) (decoded_upper dict.lists y))) (sym a) (sym b)

  told_rises : (vs : List ValuedClass) → ((v : ValuedClass) → Among v vs → IsValued ask v)
      → IsStrictlySortedBy (valued_cmp dict.lists ask.bound) vs
      → IsStrictlySortedBy (answers.answer_cmp text_cmp (ask_in ask)) (map (told_hit dict) (map valued_of vs))
  unfolding IsStrictlySortedBy
  told_rises [] a r = tt
  told_rises (v ∷ vs) a r = (all vs (λ w m. a w (inr m)) r.0, told_rises vs (λ w m. a w (inr m)) r.1)
    where
      all : (ws : List ValuedClass) → ((w : ValuedClass) → Among w ws → IsValued ask w)
          → AllByRecursion (λ w. valued_cmp dict.lists ask.bound v w ≡ Less) ws
          → AllByRecursion (λ y. answers.answer_cmp text_cmp (ask_in ask) (told_hit dict (valued_of v)) y ≡ Less)
          (map (told_hit dict) (map valued_of ws))
      all [] b q = tt
      all (w ∷ ws) b q = (same_order v w (a v (inl refl)) (b w (inl refl)) ∙ q.0, all ws (λ x m. b x (inr m)) q.1)

  told_values : (vs : List ValuedClass)
      → told_hits dict (map hits.valued_class vs) ≡ map (told_hit dict) (map valued_of vs)
  told_values [] = refl
  told_values (v ∷ vs) = ap (λ xs. told_hit dict (valued_of v) ∷ xs) (told_values vs)

  told_node : (k : ℕ) → IsFound k
      → telling.decoded_class dict.lists (class_at source tree k) ≡ told_hit dict (class_at source tree k)
  told_node k f =
      let long = wide dims tree source h k f.there in
      ap₂ (λ (u : Cell Text) (ls : List (Cell Text)). record {
        upper = u;
        agg = (class_at source tree k).agg;
        lowers = ls;
      })
      (told-known dict.lists (cell k) (omega (arith, long, same_dims)))
      (told_lowers dict (length (cell k)) (answers.lower_bounds nat_cmp source.rows (cell k)) (long ∙ sym same_dims)
      (lowers-known nat_cmp_total numbers.nat_cmp-IsAntisymmetric (lists_total nat_cmp_total)
      (numbers.slice_cmp-IsAntisymmetric numbers.nat_cmp-IsAntisymmetric) tells dims source.rows rows_known h.wide
      (cell k) f.known long))

  is_told_node : (k : ℕ) → IsFound k → telling.IsDecodableClass dict.lists source.measures (class_at source tree k)
  is_told_node k f =
      let long = wide dims tree source h k f.there in
      record {
        upper = texts-known dict.lists (cell k) f.known (omega (arith, long, same_dims));
        lowers = All-from_recursion (telling.HasTexts dict.lists) _
            (texts_there dict.lists (length (cell k)) (answers.lower_bounds nat_cmp source.rows (cell k)) (long
            ∙ sym same_dims)
            (lowers-known nat_cmp_total numbers.nat_cmp-IsAntisymmetric (lists_total nat_cmp_total)
            (numbers.slice_cmp-IsAntisymmetric numbers.nat_cmp-IsAntisymmetric) tells dims source.rows rows_known
            h.wide (cell k) f.known long));
        parts = length-map-range_with_len (λ m. part_of (amounts_of m (cov (eq_by_cmp nat_cmp) source.rows (cell k)))) 0
            source.measures;
      }

  abbrev IsToldClass : ClassHit → Type 0
  IsToldClass class = telling.IsDecodableClass dict.lists source.measures (hit_in class)

  -- each class of the answer can be told
  pub iceberg_is_told : (found_values values : List ValuedClass) (answer : List ClassHit)
      → map valued_of found_values ≡ map (class_at source tree) ks → IsPermutation found_values values
      → answer ≡ map hits.valued_class values → All IsToldClass answer
  iceberg_is_told found_values values answer e p is =
      subst (All IsToldClass) (sym is)
      (each values (λ v m. subst (Among (valued_of v)) e
      (map_among valued_of v found_values (among_permutation found_values values p v m))))
    where
      one : (v : ValuedClass) → Among (valued_of v) (map (class_at source tree) ks) → IsToldClass (hits.valued_class v)
      one v m =
          let b : (k : ℕ) × Among k ks × (valued_of v ≡ class_at source tree k)
          = among_map (class_at source tree) (valued_of v) ks m in
          subst (telling.IsDecodableClass dict.lists source.measures) (sym b.2) (is_told_node b.0 (found b.0 b.1))

      each : (vs : List ValuedClass)
          → ((v : ValuedClass) → Among v vs → Among (valued_of v) (map (class_at source tree) ks))
          → All IsToldClass (map hits.valued_class vs)
      each [] f = λ k d l. absurd (omega arith)
      each (v ∷ vs) f = All-cons IsToldClass (hits.valued_class v) (map hits.valued_class vs) (one v (f v (inl refl)))
          (each vs (λ w m. f w (inr m)))

  told_alike : (vs : List ValuedClass)
      → ((v : ValuedClass) → Among v vs → Among (valued_of v) (map (class_at source tree) ks))
      → decoded_classes dict.lists (map hits.valued_class vs) ≡ told_hits dict (map hits.valued_class vs)
  told_alike [] f = refl
  told_alike (v ∷ vs) f =
      ap₂ (λ (x : answers.ClassHit Text) (xs : List (answers.ClassHit Text)). x ∷ xs) (one v (f v (inl refl)))
      (told_alike vs (λ w m. f w (inr m)))
    where
      one : (v : ValuedClass) → Among (valued_of v) (map (class_at source tree) ks)
          → telling.decoded_class dict.lists (valued_of v) ≡ told_hit dict (valued_of v)
      one v m =
          let b : (k : ℕ) × Among k ks × (valued_of v ≡ class_at source tree k)
          = among_map (class_at source tree) (valued_of v) ks m in
          ap (telling.decoded_class dict.lists) b.2 ∙ told_node b.0 (found b.0 b.1) ∙ ap (told_hit dict) (sym b.2)

  pub iceberg_told : (found_values values : List ValuedClass) (answer : List ClassHit)
      → map valued_of found_values ≡ map (class_at source tree) ks → All (IsValued ask) found_values
      → IsPermutation found_values values → IsSortedBy (is_before dict.lists ask.bound) values
      → answer ≡ map hits.valued_class values
      → decoded_classes dict.lists answer ≡ answers.iceberg text_cmp source.measures rows (ask_in ask)
  iceberg_told found_values values answer e right p sorted is =
      ap (decoded_classes dict.lists) is
      ∙ told_alike values (λ v m. subst (Among (valued_of v)) e
      (map_among valued_of v found_values (among_permutation found_values values p v m)))
      ∙ told_values values
      ∙ iceberg-only (lists_total nat_cmp_total) (numbers.slice_cmp-IsAntisymmetric numbers.nat_cmp-IsAntisymmetric)
      source.measures rows (ask_in ask) (map (told_hit dict) (map valued_of values))
      (told_rises values (λ v m. all_among (IsValued ask) values
      (All-permutation (IsValued ask) found_values values p right) v m)
      (sorted_rises (valued_cmp dict.lists ask.bound) (valued_total dict.lists ask.bound) values sorted
      (once_permutation ties (flips (valued_cmp dict.lists ask.bound) (valued_total dict.lists ask.bound)) found_values
      values p (once_values found_values ks e picked.once found))))
      (λ x. (
        λ m.
            let a : (y : answers.ClassHit ℕ) × Among y (map valued_of values) × (x ≡ told_hit dict y)
            = among_map (told_hit dict) x (map valued_of values) m in
            let b : (v : ValuedClass) × Among v values × (a.0 ≡ valued_of v) = among_map valued_of a.0 values a.1 in
            let c : Among (valued_of b.0) (map (class_at source tree) ks)
            = subst (Among (valued_of b.0)) e
            (map_among valued_of b.0 found_values (among_permutation found_values values p b.0 b.1)) in
            (told_asked x).0 (subst (λ y. Among y (map (told_hit dict) (map (class_at source tree) ks)))
            (sym (a.2 ∙ ap (told_hit dict) b.2))
            (map_among (told_hit dict) (valued_of b.0) (map (class_at source tree) ks) c)),
        λ m.
            let a : (y : answers.ClassHit ℕ) × Among y (map (class_at source tree) ks) × (x ≡ told_hit dict y)
            = among_map (told_hit dict) x (map (class_at source tree) ks) ((told_asked x).1 m) in
            let b : (v : ValuedClass) × Among v found_values × (a.0 ≡ valued_of v)
            = among_map valued_of a.0 found_values (subst (Among a.0) (sym e) a.1) in
            let c : Among b.0 values
            = among_permutation values found_values (IsPermutation-sym found_values values p) b.0 b.1 in
            subst (λ y. Among y (map (told_hit dict) (map valued_of values))) (sym (a.2 ∙ ap (told_hit dict) b.2))
            (map_among (told_hit dict) (valued_of b.0) (map valued_of values) (map_among valued_of b.0 values c)),
      ))

pub hits_count : (source : TreeRows) (tree : Tree ℕ) (found_values values : List ValuedClass) (answer : List ClassHit)
    (nodes : List NodeNo) → map valued_of found_values ≡ map (class_at source tree) (map number nodes)
    → length values ≡ length found_values → answer ≡ map hits.valued_class values → length answer ≡ length nodes
hits_count source tree found_values values answer nodes e l is =
    ap length is ∙ length-map values hits.valued_class ∙ l ∙ sym (length-map found_values valued_of) ∙ ap length e
    ∙ length-map (map number nodes) (class_at source tree) ∙ length-map nodes number
