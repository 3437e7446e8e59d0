-- An index of classes stays one where its entries change as the classes do.
use Rattle.std.proofs.Common.{◌≡◌, ◌≢◌, ◌⊎◌, inl, inr, ℕ, zero, suc, ◌&&◌, ◌||◌, not, Bool, true, false, cond, Option, None, Some, List, []}
use Rattle.std.proofs.Common.{◌∷◌, ℤ, int_eq, refl, sym, ap, ap₂, subst, ◌∙◌, ◌+◌, ◌<◌, ◌≤◌, ◌++◌, arith, get_or, length, take, true≢false}
use Rattle.std.proofs.Common.{nat_eq, eqb-true}
use Rattle.std.specs.Prelude.{map, slice_get}
use Rattle.std.specs.List.{AllByRecursion, AllZip, IsDistinct}
use Rattle.std.specs.List.Sorted.{IsStrictlySortedBy}
use Rattle.std.specs.Ordering.{is_eq}
use Rattle.std.specs.Cmp.{tied_itself}
use Rattle.std.specs.declared.cmp.Ordering.TheVariants.{Less, Equal}
use Rattle.std.proofs.lemmas.Bool.{false_from_ne_true}
use Rattle.std.proofs.lemmas.List.{map-append, take_all, take_more}
use Rattle.std.proofs.lemmas.Map.Keys.{sorted_head, sorted_tail}
use Rattle.std.proofs.lemmas.Bool.Decides.{Decides-int_eq}
use Rattle.std.proofs.Math.Bool.{or-true}
use Rattle.cube_defs.specs.Rows as defs
use Rattle.cube_defs.specs.Answers.{value_of}
use Rattle.cube_laws.specs.Lists.{Among}
use Rattle.cube_laws.proofs.CallerLemmas.{is_equal, nat_or_not}
use Rattle.aggregates.specs.Views.{agg_in, kind_in, ratio_in, same_kind}
use Rattle.aggregates.specs.declared.agg.Agg.{Agg}
use Rattle.aggregates.specs.declared.kind.AggKind.{AggKind}
use Rattle.aggregates.specs.declared.kind.AggKind.TheVariants as kinds
use Rattle.cell_core.specs.declared.cell.NodeNo.{NodeNo}
use Rattle.qc_arena.specs.Changes.{AreNew}
use Rattle.measure_index.specs.declared.entry.IndexEntry.{IndexEntry}
use Rattle.measure_index.specs.Changes.{HasChanged, has, lists}
use Rattle.measure_index.specs.Entries.{AreEntries, IsEntry, entry_cmp, entry_total}
use Rattle.measure_index.specs.Index.{empty_ranking, ranking_of, scale_of, units}
use Rattle.measure_index.specs.Rankings.{IsIndex, IsRanking, Ranking, no_entries}
use Rattle.measure_index.proofs.EntryLemmas.{exact, same_entry}
use Rattle.measure_index.proofs.LowestTerms.{same_ratio}

-- ---- aggregates are one or not

int_or_not : (x y : ℤ) → (x ≡ y) ⊎ (x ≢ y)
int_or_not x y = go (int_eq x y) refl
  where
    go : (b : Bool) → int_eq x y ≡ b → (x ≡ y) ⊎ (x ≢ y)
    go true e = inl ((Decides-int_eq x y).0 e)
    go false e = inr (λ p. true≢false (sym ((Decides-int_eq x y).1 p) ∙ e))

part_or_not : (p q : defs.Part) → (p ≡ q) ⊎ (p ≢ q)
part_or_not p q = elim (int_or_not p.sum q.sum) [
  | inr n ↦ inr (λ e. n (ap (λ r. r.sum) e))
  | inl a ↦ elim (int_or_not p.least q.least) [
    | inr n ↦ inr (λ e. n (ap (λ r. r.least) e))
    | inl b ↦ elim (int_or_not p.greatest q.greatest) [
      | inr n ↦ inr (λ e. n (ap (λ r. r.greatest) e))
      | inl c ↦ inl (λ i. record { sum = a i; least = b i; greatest = c i })
    ]
  ]
]

parts_or_not : (ps qs : List defs.Part) → (ps ≡ qs) ⊎ (ps ≢ qs)
parts_or_not [] [] = inl refl
parts_or_not [] (q ∷ qs) = inr (λ e. cc)
parts_or_not (p ∷ ps) [] = inr (λ e. cc)
parts_or_not (p ∷ ps) (q ∷ qs) = elim (part_or_not p q) [
  | inr n ↦ inr (λ e. n cc)
  | inl a ↦ elim (parts_or_not ps qs) [
    | inr n ↦ inr (λ e. n cc)
    | inl b ↦ inl (λ i. a i ∷ b i)
  ]
]

agg_or_not : (a b : defs.Agg) → (a ≡ b) ⊎ (a ≢ b)
agg_or_not a b = elim (nat_or_not a.count b.count) [
  | inr n ↦ inr (λ e. n (ap (λ r. r.count) e))
  | inl p ↦ elim (parts_or_not a.parts b.parts) [
    | inr n ↦ inr (λ e. n (ap (λ r. r.parts) e))
    | inl q ↦ inl (λ i. record { count = p i; parts = q i })
  ]
]

-- a class is there with this aggregate or not
class_or_not : (o : Option defs.Agg) (a : defs.Agg) → (o ≡ Some a) ⊎ (o ≢ Some a)
class_or_not None a = inr (λ e. cc)
class_or_not (Some b) a = elim (agg_or_not b a) [ inl e ↦ inl (ap (λ x. Some x) e) | inr n ↦ inr (λ e. n cc) ]

-- ---- entries of a list

has_among : (kind : AggKind) (scale : ℕ) (es : List IndexEntry) (q : IndexEntry)
    → has (record { kind = kind; scale = scale; entries = es }) q ≡ true → Among q es
has_among kind scale [] q h = absurd (true≢false (sym h))
has_among kind scale (e ∷ es) q h = go (has_among kind scale es q) (is_eq (entry_cmp q e)) refl h
  where
    go : (has (record { kind = kind; scale = scale; entries = es }) q ≡ true → Among q es) → (b : Bool)
        → is_eq (entry_cmp q e) ≡ b → (b || has (record { kind = kind; scale = scale; entries = es }) q) ≡ true
        → Among q (e ∷ es)
    go more true t k = inl (exact q e (is_equal (entry_cmp q e) t))
    go more false t k = inr (more k)

among_has : (kind : AggKind) (scale : ℕ) (es : List IndexEntry) (q : IndexEntry) → Among q es
    → has (record { kind = kind; scale = scale; entries = es }) q ≡ true
among_has kind scale [] q h = absurd h
among_has kind scale (e ∷ es) q h = elim h [
  | inl k ↦ ap (λ (b : Bool). b || has (record { kind = kind; scale = scale; entries = es }) q)
      (ap (λ x. is_eq (entry_cmp q x)) (sym k) ∙ ap is_eq (tied_itself entry_total q))
  | inr k ↦ ap (λ (b : Bool). is_eq (entry_cmp q e) || b) (among_has kind scale es q k)
      ∙ or-true (is_eq (entry_cmp q e))
]

lists_among : (es : List IndexEntry) (q : IndexEntry) → lists es q ≡ true → Among q es
lists_among [] q h = absurd (true≢false (sym h))
lists_among (e ∷ es) q h = go (lists_among es q) (is_eq (entry_cmp e q)) refl h
  where
    go : (lists es q ≡ true → Among q es) → (b : Bool) → is_eq (entry_cmp e q) ≡ b → (b || lists es q) ≡ true
        → Among q (e ∷ es)
    go more true t k = inl (sym (exact e q (is_equal (entry_cmp e q) t)))
    go more false t k = inr (more k)

among_lists : (es : List IndexEntry) (q : IndexEntry) → Among q es → lists es q ≡ true
among_lists [] q h = absurd h
among_lists (e ∷ es) q h = elim h [
  | inl k ↦ ap (λ (b : Bool). b || lists es q) (ap (λ x. is_eq (entry_cmp x q)) (sym k)
      ∙ ap is_eq (tied_itself entry_total q))
  | inr k ↦ ap (λ (b : Bool). is_eq (entry_cmp e q) || b) (among_lists es q k) ∙ or-true (is_eq (entry_cmp e q))
]

-- ---- entries of classes

module _ (kind : AggKind) (scale : ℕ) where
  class_of_entry : (xs : List (NodeNo × Agg)) (es : List IndexEntry) → AreEntries kind scale xs es → (e : IndexEntry)
      → Among e es → (i : ℕ) × (x : NodeNo × Agg) × (slice_get xs i ≡ Some x) × IsEntry kind scale x e
  class_of_entry [] [] h e m = absurd m
  class_of_entry [] (f ∷ es) h e m = absurd h
  class_of_entry (x ∷ xs) [] h e m = absurd h
  class_of_entry (x ∷ xs) (f ∷ es) h e m = elim m [
    | inl k ↦ (0, x, refl, subst (λ g. IsEntry kind scale x g) (sym k) h.0)
    | inr k ↦ let r : (i : ℕ) × (y : NodeNo × Agg) × (slice_get xs i ≡ Some y) × IsEntry kind scale y e
        = class_of_entry xs es h.1 e k in (suc r.0, r.1, r.2, r.3)
  ]

  entry_of_class : (xs : List (NodeNo × Agg)) (es : List IndexEntry) → AreEntries kind scale xs es
      → (i : ℕ) (x : NodeNo × Agg) → slice_get xs i ≡ Some x → (e : IndexEntry) × Among e es × IsEntry kind scale x e
  entry_of_class [] [] h i x g = cc
  entry_of_class [] (f ∷ es) h i x g = absurd h
  entry_of_class (y ∷ xs) [] h i x g = absurd h
  entry_of_class (y ∷ xs) (f ∷ es) h zero x g = let same : y ≡ x = cc in
      (f, inl refl, subst (λ z. IsEntry kind scale z f) same h.0)
  entry_of_class (y ∷ xs) (f ∷ es) h (suc i) x g = let r : (e : IndexEntry) × Among e es × IsEntry kind scale x e
      = entry_of_class xs es h.1 i x g in (r.0, inr r.1, r.2)

one_entry : (x y : IndexEntry) → ratio_in x.value ≡ ratio_in y.value → x.node ≡ y.node → x ≡ y
one_entry x y v n = same_entry x y (same_ratio x.value y.value (ap (λ f. f.num) v) (ap (λ f. f.den) v)) n

-- a node has no two entries
pub nodes_once : (class : ℕ → Option defs.Agg) (r : Ranking) → IsRanking class r
    → IsDistinct nat_eq (map (λ e. e.node) r.entries)
unfolding IsDistinct IsStrictlySortedBy
nodes_once class r is = all r.entries (λ e m. m) is.rising
  where
    differ : (x y : IndexEntry) → Among x r.entries → Among y r.entries → entry_cmp x y ≡ Less
        → nat_eq x.node y.node ≡ false
    differ x y m n less = false_from_ne_true _ (λ e.
        let node : x.node ≡ y.node = eqb-true x.node y.node e in
        let a : (a : defs.Agg) × (class x.node ≡ Some a) × (ratio_in x.value ≡ value_of (kind_in r.kind) r.scale a)
        = is.classes x m in
        let b : (b : defs.Agg) × (class y.node ≡ Some b) × (ratio_in y.value ≡ value_of (kind_in r.kind) r.scale b)
        = is.classes y n in
        let told : Some a.0 ≡ Some b.0 = sym a.1 ∙ ap class node ∙ b.1 in
        let same : a.0 ≡ b.0 = cc in
        let one : x ≡ y = one_entry x y (a.2 ∙ ap (value_of (kind_in r.kind) r.scale) same ∙ sym b.2) node in
        let bad : Less ≡ Equal = sym less ∙ ap (entry_cmp x) (sym one) ∙ tied_itself entry_total x in
        cc)

    heads : (x : IndexEntry) → Among x r.entries → (ys : List IndexEntry)
        → ((e : IndexEntry) → Among e ys → Among e r.entries) → AllByRecursion (λ y. entry_cmp x y ≡ Less) ys
        → AllByRecursion (λ k. nat_eq x.node k ≡ false) (map (λ e. e.node) ys)
    heads x m [] within h = tt
    heads x m (y ∷ ys) within h = (differ x y m (within y (inl refl)) h.0, heads x m ys (λ e n. within e (inr n)) h.1)

    all : (es : List IndexEntry) → ((e : IndexEntry) → Among e es → Among e r.entries) → IsStrictlySortedBy entry_cmp es
        → IsDistinct nat_eq (map (λ e. e.node) es)
    all [] within h = tt
    all (x ∷ es) within h = (
      heads x (within x (inl refl)) es (λ e n. within e (inr n)) (sorted_head entry_cmp x es h),
      all es (λ e n. within e (inr n)) (sorted_tail entry_cmp x es h),
    )

both_true : (a b : Bool) → (a && not b) ≡ true → (a ≡ true) × (b ≡ false)
both_true true true h = absurd (true≢false (sym h))
both_true true false h = (refl, refl)
both_true false b h = absurd (true≢false (sym h))

-- ---- a change of classes

module _ (add remove : List (NodeNo × Agg)) (from to : ℕ → Option defs.Agg) (come : AreNew from to add)
    (go : AreNew to from remove) (old new : Ranking) (h : HasChanged add remove old new) (is : IsRanking from old) where
  abbrev Holds : IndexEntry → Type 0
  Holds e = (a : defs.Agg) × (to e.node ≡ Some a) × (ratio_in e.value ≡ value_of (kind_in old.kind) old.scale a)

  came : (e : IndexEntry) → lists h.added e ≡ true → Holds e
  came e t =
      let r : (i : ℕ) × (x : NodeNo × Agg) × (slice_get add i ≡ Some x) × IsEntry old.kind old.scale x e
      = class_of_entry old.kind old.scale add h.added h.adds e (lists_among h.added e t) in
      (agg_in r.1.1, ap to r.3.0 ∙ come.listed r.0 r.1 r.2, r.3.1)

  stayed : (e : IndexEntry) → has old e ≡ true → lists h.removed e ≡ false → Holds e
  stayed e t f =
      let r : (a : defs.Agg) × (from e.node ≡ Some a) × (ratio_in e.value ≡ value_of (kind_in old.kind) old.scale a)
      = is.classes e (has_among old.kind old.scale old.entries e t) in
      elim (class_or_not (to e.node) r.0) [
        | inl p ↦ (r.0, p, r.2)
        | inr n ↦
            let g : (i : ℕ) × (x : NodeNo × Agg) × (slice_get remove i ≡ Some x) × (x.0.0 ≡ e.node)
            = go.all e.node r.0 r.1 n in
            let k : (d : IndexEntry) × Among d h.removed × IsEntry old.kind old.scale g.1 d
            = entry_of_class old.kind old.scale remove h.removed h.removes g.0 g.1 g.2 in
            let told : Some r.0 ≡ Some (agg_in g.1.1) = sym r.1 ∙ ap from (sym g.3) ∙ go.listed g.0 g.1 g.2 in
            let same : r.0 ≡ agg_in g.1.1 = cc in
            let one : k.0 ≡ e = one_entry k.0 e (k.2.1 ∙ ap (value_of (kind_in old.kind) old.scale) (sym same)
            ∙ sym r.2) (k.2.0 ∙ g.3) in
            absurd (true≢false (sym (ap (λ d. lists h.removed d) (sym one) ∙ among_lists h.removed k.0 k.1) ∙ f))
      ]

  holds : (e : IndexEntry) → has new e ≡ true → Holds e
  holds e t = split (lists h.added e) refl (sym (h.entry e) ∙ t)
    where
      split : (b : Bool) → lists h.added e ≡ b → (b || (has old e && not (lists h.removed e))) ≡ true → Holds e
      split true p q = came e p
      split false p q = let r = both_true (has old e) (lists h.removed e) q in stayed e r.0 r.1

  finds : (k : ℕ) (a : defs.Agg) → to k ≡ Some a → (e : IndexEntry) × Among e new.entries × (e.node ≡ k)
  finds k a t = elim (class_or_not (from k) a) [
    | inl p ↦
        let r : (e : IndexEntry) × Among e old.entries × (e.node ≡ k) = is.all k a p in
        let kept : lists h.removed r.0 ≡ false = not_removed k a r.0 r.2 p t (lists h.removed r.0) refl in (
          r.0,
          has_among new.kind new.scale new.entries r.0 (h.entry r.0
              ∙ ap (λ (b : Bool). lists h.added r.0 || (b && not (lists h.removed r.0)))
              (among_has old.kind old.scale old.entries r.0 r.1)
              ∙ ap (λ (b : Bool). lists h.added r.0 || not b) kept ∙ or-true (lists h.added r.0)),
          r.2,
        )
    | inr n ↦
        let g : (i : ℕ) × (x : NodeNo × Agg) × (slice_get add i ≡ Some x) × (x.0.0 ≡ k) = come.all k a t n in
        let d : (e : IndexEntry) × Among e h.added × IsEntry old.kind old.scale g.1 e
        = entry_of_class old.kind old.scale add h.added h.adds g.0 g.1 g.2 in (
          d.0,
          has_among new.kind new.scale new.entries d.0 (h.entry d.0
              ∙ ap (λ (b : Bool). b || (has old d.0 && not (lists h.removed d.0))) (among_lists h.added d.0 d.1)),
          d.2.0
              ∙ g.3,
        )
  ]
    where
      not_removed : (k : ℕ) (a : defs.Agg) (e : IndexEntry) → e.node ≡ k → from k ≡ Some a → to k ≡ Some a → (b : Bool)
          → lists h.removed e ≡ b → lists h.removed e ≡ false
      not_removed k a e n p t false q = q
      not_removed k a e n p t true q =
          let g : (i : ℕ) × (x : NodeNo × Agg) × (slice_get remove i ≡ Some x) × IsEntry old.kind old.scale x e
          = class_of_entry old.kind old.scale remove h.removed h.removes e (lists_among h.removed e q) in
          let at : g.1.0.0 ≡ k = sym g.3.0 ∙ n in
          absurd (go.new g.0 g.1 g.2 (ap to at ∙ t ∙ sym p ∙ ap from (sym at)))

  pub ranking_changed : IsRanking to new
  ranking_changed = record {
    rising = h.alike.rising;
    classes = λ e m.
        let r : Holds e = holds e (among_has new.kind new.scale new.entries e m) in (
          r.0,
          r.1,
          r.2 ∙ ap (λ kind. value_of (kind_in kind) old.scale r.0) (sym h.alike.kind)
              ∙ ap (λ scale. value_of (kind_in new.kind) scale r.0) (sym h.alike.scale),
        );
    all = finds;
  }

pub index_changed : (add remove : List (NodeNo × Agg)) (from to : ℕ → Option defs.Agg) → AreNew from to add
    → AreNew to from remove → (olds news : List Ranking) → AllZip (HasChanged add remove) olds news → IsIndex from olds
    → IsIndex to news
index_changed add remove from to come go [] [] h is = λ k d l. absurd (omega (arith, l))
index_changed add remove from to come go [] (n ∷ news) h is = absurd h
index_changed add remove from to come go (o ∷ olds) [] h is = absurd h
index_changed add remove from to come go (o ∷ olds) (n ∷ news) h is =
    behind (ranking_changed add remove from to come go o n h.0 (is 0 o (omega arith)))
    (index_changed add remove from to come go olds news h.1 (λ k d l. is (suc k) d (omega (arith, l))))
  where
    behind : IsRanking to n → IsIndex to news → IsIndex to (n ∷ news)
    behind one more zero d l = one
    behind one more (suc k) d l = more k d (omega (arith, l))

none_rise : IsStrictlySortedBy entry_cmp []
unfolding IsStrictlySortedBy
none_rise = tt

-- a ranking without entries is that of no classes
pub no_classes : (kind : AggKind) (scale : ℕ) → IsRanking (λ _. None) (no_entries kind scale)
no_classes kind scale = record { rising = none_rise; classes = λ e m. absurd m; all = λ k a e. cc }

pub empty_index : (scales : List ℕ) (kinds : List AggKind) → IsIndex (λ _. None) (map (empty_ranking scales) kinds)
empty_index scales [] = λ k d l. absurd (omega (arith, l))
empty_index scales (kind ∷ kinds) = behind (empty_index scales kinds)
  where
    behind : IsIndex (λ _. None) (map (empty_ranking scales) kinds)
        → IsIndex (λ _. None) (map (empty_ranking scales) (kind ∷ kinds))
    behind more zero d l = no_classes kind (scale_of scales kind)
    behind more (suc k) d l = more k d (omega (arith, l))

pub same_kinds : (a b : AggKind) → same_kind a b ≡ true → a ≡ b
same_kinds kinds.Count kinds.Count h = refl
same_kinds kinds.Count (kinds.Sum n) h = absurd (true≢false (sym h))
same_kinds kinds.Count (kinds.Least n) h = absurd (true≢false (sym h))
same_kinds kinds.Count (kinds.Greatest n) h = absurd (true≢false (sym h))
same_kinds kinds.Count (kinds.Mean n) h = absurd (true≢false (sym h))
same_kinds (kinds.Sum m) kinds.Count h = absurd (true≢false (sym h))
same_kinds (kinds.Sum m) (kinds.Sum n) h = ap (λ (i : ℕ). kinds.Sum i) (eqb-true m n h)
same_kinds (kinds.Sum m) (kinds.Least n) h = absurd (true≢false (sym h))
same_kinds (kinds.Sum m) (kinds.Greatest n) h = absurd (true≢false (sym h))
same_kinds (kinds.Sum m) (kinds.Mean n) h = absurd (true≢false (sym h))
same_kinds (kinds.Least m) kinds.Count h = absurd (true≢false (sym h))
same_kinds (kinds.Least m) (kinds.Sum n) h = absurd (true≢false (sym h))
same_kinds (kinds.Least m) (kinds.Least n) h = ap (λ (i : ℕ). kinds.Least i) (eqb-true m n h)
same_kinds (kinds.Least m) (kinds.Greatest n) h = absurd (true≢false (sym h))
same_kinds (kinds.Least m) (kinds.Mean n) h = absurd (true≢false (sym h))
same_kinds (kinds.Greatest m) kinds.Count h = absurd (true≢false (sym h))
same_kinds (kinds.Greatest m) (kinds.Sum n) h = absurd (true≢false (sym h))
same_kinds (kinds.Greatest m) (kinds.Least n) h = absurd (true≢false (sym h))
same_kinds (kinds.Greatest m) (kinds.Greatest n) h = ap (λ (i : ℕ). kinds.Greatest i) (eqb-true m n h)
same_kinds (kinds.Greatest m) (kinds.Mean n) h = absurd (true≢false (sym h))
same_kinds (kinds.Mean m) kinds.Count h = absurd (true≢false (sym h))
same_kinds (kinds.Mean m) (kinds.Sum n) h = absurd (true≢false (sym h))
same_kinds (kinds.Mean m) (kinds.Least n) h = absurd (true≢false (sym h))
same_kinds (kinds.Mean m) (kinds.Greatest n) h = absurd (true≢false (sym h))
same_kinds (kinds.Mean m) (kinds.Mean n) h = ap (λ (i : ℕ). kinds.Mean i) (eqb-true m n h)

-- the ranking that is found for a kind
pub ranking_found : (class : ℕ → Option defs.Agg) (kind : AggKind) (index : List Ranking) (r : Ranking)
    → IsIndex class index → ranking_of kind index ≡ Some r → IsRanking class r × (kind ≡ r.kind)
ranking_found class kind [] r is e = cc
ranking_found class kind (x ∷ index) r is e
    = go (ranking_found class kind index r (λ k d l. is (suc k) d (omega (arith, l)))) (same_kind kind x.kind) refl e
  where
    go : (ranking_of kind index ≡ Some r → IsRanking class r × (kind ≡ r.kind)) → (b : Bool) → same_kind kind x.kind ≡ b
        → cond b (Some x) (ranking_of kind index) ≡ Some r → IsRanking class r × (kind ≡ r.kind)
    go more true same f = let one : x ≡ r = cc in
        (subst (IsRanking class) one (is 0 x (omega arith)), same_kinds kind x.kind same ∙ ap (λ y. y.kind) one)
    go more false other f = more f

-- classes that are told alike have the same index
pub index_alike : (from to : ℕ → Option defs.Agg) → ((k : ℕ) → from k ≡ to k) → (index : List Ranking)
    → IsIndex from index → IsIndex to index
index_alike from to same index is = subst (λ (class : ℕ → Option defs.Agg). IsIndex class index) (λ i k. same k i) is

-- the scale of a kind
pub scale_found : (scales : List ℕ) (kind : AggKind) (index : List Ranking) (named : List AggKind)
    → units index ≡ map (λ k. (k, scale_of scales k)) named → (r : Ranking) → ranking_of kind index ≡ Some r
    → r.scale ≡ scale_of scales kind
scale_found scales kind [] named e r f = cc
scale_found scales kind (x ∷ index) [] e r f = cc
scale_found scales kind (x ∷ index) (k ∷ named) e r f =
    let first : ◌≡◌ {A = AggKind × ℕ} (x.kind, x.scale) (k, scale_of scales k) = cc in
    let rest : units index ≡ map (λ k. (k, scale_of scales k)) named = cc in
    go (scale_found scales kind index named rest r) (ap (λ p. p.1) first
    ∙ ap (scale_of scales) (sym (ap (λ p. p.0) first))) (same_kind kind x.kind) refl f
  where
    go : (ranking_of kind index ≡ Some r → r.scale ≡ scale_of scales kind) → x.scale ≡ scale_of scales x.kind
        → (b : Bool) → same_kind kind x.kind ≡ b → cond b (Some x) (ranking_of kind index) ≡ Some r
        → r.scale ≡ scale_of scales kind
    go more own true same g = let one : x ≡ r = cc in
        ap (λ y. y.scale) (sym one) ∙ own ∙ ap (scale_of scales) (sym (same_kinds kind x.kind same))
    go more own false other g = more g

-- one ranking more without entries
pub empty_more : (scales : List ℕ) (kinds : List AggKind) (k : ℕ) (d : AggKind) (scale : ℕ) (made : Ranking)
    → k < length kinds → made ≡ no_entries (get_or kinds k d) scale → scale ≡ scale_of scales (get_or kinds k d)
    → (before now : List Ranking) → before ≡ map (empty_ranking scales) (take k kinds) → now ≡ before ++ made ∷ []
    → now ≡ map (empty_ranking scales) (take (k + 1) kinds)
empty_more scales kinds k d scale made lt is unit before now had more =
    more ∙ ap₂ (λ rs (r : Ranking). rs ++ r ∷ []) had (is ∙ ap (no_entries (get_or kinds k d)) unit)
    ∙ sym (map-append (empty_ranking scales) (take k kinds) (get_or kinds k d ∷ []))
    ∙ ap (map (empty_ranking scales)) (sym (take_more kinds k d lt))

pub empty_all : (scales : List ℕ) (kinds : List AggKind) (k : ℕ) → length kinds ≤ k → (now : List Ranking)
    → now ≡ map (empty_ranking scales) (take k kinds) → now ≡ map (empty_ranking scales) kinds
empty_all scales kinds k past now had = had ∙ ap (map (empty_ranking scales)) (take_all k kinds past)
