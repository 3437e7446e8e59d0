-- The classes of a tree, as nodes are gone through.
use Rattle.std.proofs.Common.{◌≡◌, ◌≢◌, ◌⊎◌, ◌∙◌, ℕ, ◌+◌, ◌<◌, ◌≤◌, false, Option, Some, None, List, [], ◌∷◌, ◌++◌, length}
use Rattle.std.proofs.Common.{take, get_or, nat_cmp, slice_get, is_some, nat_eq, eqb-true, refl, suc, sym, ap, subst, arith, inl, inr}
use Rattle.std.specs.Option.{option_map}
use Rattle.std.specs.List.{All, AllByRecursion, IsDistinct, sum_by, take-map}
use Rattle.std.proofs.lemmas.Bool.{false_from_ne_true}
use Rattle.std.proofs.lemmas.List.{length-append, length-map}
use Rattle.std.proofs.lemmas.List.Sums.{sum_by-append, sum_by-cons}
use Rattle.std.specs.Prelude.{IsSome, MatchOption}
use Rattle.std.proofs.lemmas.Option.{slice_get-map, slice_get_within}
use Rattle.std.specs.FinMap as finmap
use Rattle.aggregates.specs.Views.{agg_in}
use Rattle.aggregates.specs.declared.agg.Agg.{Agg}
use Rattle.cell_core.specs.declared.cell.NodeNo.{NodeNo}
use Rattle.cube_defs.specs.Rows as defs
use Rattle.cube_defs.specs.Tree.{Tree}
use Rattle.cube_laws.specs.Lists.{Among}
use Rattle.cube_laws.proofs.CallerLemmas.{among_append, get_among, map_among, take_all}
use Rattle.iceberg_query.specs.Subtree.{numbers}
use Rattle.iceberg_query.proofs.CallerLemmas.{each_once}
use Rattle.measure_index.specs.Builder.{AreKeysOf, GatheredKeys}
use Rattle.measure_index.specs.ColumnKeys.{IsKey}
use Rattle.std.proofs.lemmas.Slice.Zip.{AllZip-long}
use Rattle.tree_laws.specs.Counts.{classes_in}
use Rattle.qc_arena.specs.Changes.{AreClassNumbers, AreNew, class_in}
use Rattle.qc_arena.specs.RecordReaders.{number}
use Rattle.qc_arena.specs.Map.{Known}
use Rattle.qc_arena.proofs.CallerLemmas.{pushed, pushed_new, pushed_old}
use Rattle.warehouse.specs.NodeLists.{ListsClasses}
use Rattle.warehouse.proofs.NodeLists.{classes_within, few_there, mark_of, not_before, numbers_push, taken_next}

-- the pairs of the classes whose numbers were seen
pub record AreListed (class : ℕ → Option defs.Agg) (IsSeen : ℕ → Type 0) (pairs : List (NodeNo × Agg)) : Type 0 where
  pub listed : (i : ℕ) (x : NodeNo × Agg) → slice_get pairs i ≡ Some x → class x.0.0 ≡ Some (agg_in x.1)
  pub seen : (i : ℕ) (x : NodeNo × Agg) → slice_get pairs i ≡ Some x → IsSeen x.0.0
  pub all : (q : ℕ) (a : defs.Agg) → IsSeen q → class q ≡ Some a → (i : ℕ) × (x : NodeNo × Agg)
      × (slice_get pairs i ≡ Some x) × (x.0.0 ≡ q)
  pub once : (i j : ℕ) (x y : NodeNo × Agg) → i < j → slice_get pairs i ≡ Some x → slice_get pairs j ≡ Some y
      → x.0.0 ≢ y.0.0

-- how many of some nodes are classes
abbrev pub marks_of : Tree ℕ → List NodeNo → ℕ
marks_of tree nodes = sum_by (λ k. mark_of (class_in (finmap.get tree k))) (numbers nodes)

-- a number is seen that was not seen before
pub record IsNext (IsSeen IsSeen' : ℕ → Type 0) (n : ℕ) : Type 0 where
  pub new : IsSeen n → ⊥
  pub old : (q : ℕ) → IsSeen q → IsSeen' q
  pub only : (q : ℕ) → IsSeen' q → IsSeen q ⊎ (q ≡ n)
  pub here : IsSeen' n

module _ (class : ℕ → Option defs.Agg) where
  pub none_listed : (IsSeen : ℕ → Type 0) → ((q : ℕ) → IsSeen q → ⊥) → AreListed class IsSeen []
  none_listed IsSeen none = record {
    listed = λ i x e. cc;
    seen = λ i x e. cc;
    all = λ q a l e. absurd (none q l);
    once = λ i j x y l e. cc;
  }

  module _ (IsSeen IsSeen' : ℕ → Type 0) (n : ℕ) (next : IsNext IsSeen IsSeen' n) where
    -- a number without a class
    listed_same : (pairs : List (NodeNo × Agg)) → AreListed class IsSeen pairs → class n ≡ None
        → AreListed class IsSeen' pairs
    listed_same pairs was none = record {
      listed = was.listed;
      seen = λ i x e. next.old x.0.0 (was.seen i x e);
      all = λ q a l e. elim (next.only q l) [
        | inl s ↦ was.all q a s e
        | inr is ↦ (let bad : None ≡ Some a = sym none ∙ ap class (sym is) ∙ e in absurd (cc bad))
      ];
      once = was.once;
    }

    -- a number with one
    listed_more : (pairs : List (NodeNo × Agg)) (a : Agg) → AreListed class IsSeen pairs
        → class n ≡ Some (agg_in a) → AreListed class IsSeen' (pairs ++ (record { 0 = n }, a) ∷ [])
    listed_more pairs agg was is_class = record {
      listed = λ i x h. elim (pushed pairs own i x h) [
        | inl g ↦ was.listed i x g
        | inr g ↦ ap (λ (y : NodeNo × Agg). class y.0.0) g.1 ∙ is_class
            ∙ ap (λ (y : NodeNo × Agg). Some (agg_in y.1)) (sym g.1)
      ];
      seen = λ i x h. elim (pushed pairs own i x h) [
        | inl g ↦ next.old x.0.0 (was.seen i x g)
        | inr g ↦ subst IsSeen' (sym (ap (λ (y : NodeNo × Agg). y.0.0) g.1)) next.here
      ];
      all = λ q a l e. elim (next.only q l) [
        | inl s ↦ (let r = was.all q a s e in (r.0, r.1, pushed_old pairs own r.0 r.1 r.2, r.3))
        | inr is ↦ (length pairs, own, pushed_new pairs own, sym is)
      ];
      once = λ i j x y l h g. elim (pushed pairs own j y g) [
        | inl q ↦ was.once i j x y l
            (elim (pushed pairs own i x h) [
              | inl p ↦ p
              | inr p ↦ absurd (let w = slice_get_within pairs j y q in
                  omega (arith, p.0))
            ]) q
        | inr q ↦ λ s. let p : slice_get pairs i ≡ Some x
            = elim (pushed pairs own i x h) [ inl p ↦ p | inr p ↦ absurd (omega (arith, p.0, q.0)) ] in
            let at : y.0.0 ≡ n = ap (λ (z : NodeNo × Agg). z.0.0) q.1 in
            absurd (next.new (subst IsSeen (s ∙ at) (was.seen i x p)))
      ];
    }
      where
        own : NodeNo × Agg
        own = (record { 0 = n }, agg)

    -- the classes seen before, and that of the number
    pub next_class : (filling then : List GatheredKeys) (count : ℕ) → (pairs : List (NodeNo × Agg))
        × AreKeysOf pairs filling × AreListed class IsSeen pairs × (length pairs ≡ count) → (o : Option Agg)
        → option_map agg_in o ≡ class n
        → MatchOption o (then ≡ filling) (λ a. (before : List (NodeNo × Agg)) → AreKeysOf before filling
        → AreKeysOf (before ++ (record { 0 = n }, a) ∷ []) then)
        → (pairs : List (NodeNo × Agg)) × AreKeysOf pairs then × AreListed class IsSeen' pairs
        × (length pairs ≡ count + mark_of (class n))
    next_class filling then count was None e same =
        let none = ap mark_of e in (
          was.0,
          subst (AreKeysOf was.0) (sym same) was.1,
          listed_same was.0 was.2 (sym e),
          omega (arith, was.3, none),
        )
    next_class filling then count was (Some a) e more =
        let own : NodeNo × Agg = (record { 0 = n }, a) in
        let one = ap mark_of e in
        let longer = length-append was.0 (own ∷ []) in (
          was.0 ++ own ∷ [],
          more was.0 was.1,
          listed_more was.0 a was.2 (sym e),
          omega (arith, was.3, one, longer),
        )

  -- where no other number has a class, all are listed
  pub all_listed : (IsSeen : ℕ → Type 0) (pairs : List (NodeNo × Agg)) → AreListed class IsSeen pairs
      → ((q : ℕ) (a : defs.Agg) → class q ≡ Some a → IsSeen q) → AreNew (λ _. None) class pairs
  all_listed IsSeen pairs was whole = record {
    listed = was.listed;
    new = λ i x e h. let bad : None ≡ Some (agg_in x.1) = h ∙ was.listed i x e in cc;
    all = λ q a e apart. was.all q a (whole q a e) e;
    once = was.once;
  }

-- the first so many nodes of a list
abbrev pub IsBefore : List NodeNo → ℕ → ℕ → Type 0
IsBefore nodes place q = Among q (numbers (take place nodes))

pub none_before : (nodes : List NodeNo) (q : ℕ) → IsBefore nodes 0 q → ⊥
none_before nodes q m = m

pub next_before : (tree : Tree ℕ) (nodes : List NodeNo) (place : ℕ) (x : NodeNo) → ListsClasses tree (numbers nodes)
    → slice_get nodes place ≡ Some x → IsNext (IsBefore nodes place) (IsBefore nodes (place + 1)) x.0
next_before tree nodes place x are at = record {
  new = λ m. not_before (numbers nodes) place x.0 (each_once (numbers nodes) are.once)
      (slice_get-map (λ (y : NodeNo). y.0) nodes place ∙ ap (option_map (λ (y : NodeNo). y.0)) at)
      (subst (λ ks. Among x.0 ks) (sym (take-map (λ (y : NodeNo). y.0) place nodes)) m);
  old = λ q m. subst (λ ks. Among q ks) (sym longer) ((among_append q (numbers (take place nodes)) (x.0 ∷ [])).1 (inl m));
  only = λ q m. elim ((among_append q (numbers (take place nodes)) (x.0 ∷ [])).0 (subst (λ ks. Among q ks) longer m)) [
    | inl old ↦ inl old
    | inr new ↦ elim new [ inl e ↦ inr e | inr none ↦ absurd none ]
  ];
  here = subst (λ ks. Among x.0 ks) (sym longer)
      ((among_append x.0 (numbers (take place nodes)) (x.0 ∷ [])).1 (inr (inl refl)));
}
  where
    longer : numbers (take (place + 1) nodes) ≡ numbers (take place nodes) ++ x.0 ∷ []
    longer = ap numbers (taken_next nodes place x at) ∙ numbers_push (take place nodes) x

-- each class is that of a listed node
pub whole_before : (tree : Tree ℕ) (nodes : List NodeNo) (place : ℕ) → ListsClasses tree (numbers nodes)
    → length nodes ≤ place → (q : ℕ) (a : defs.Agg) → class_in (finmap.get tree q) ≡ Some a → IsBefore nodes place q
whole_before tree nodes place are all q a e
    = subst (λ (ns : List NodeNo). Among q (numbers ns)) (sym (take_all nodes place all))
    (are.all q (ap is_some e))

-- what holds of each item holds of each number
pub listed_there : (P : ℕ → Type 0) (xs : List NodeNo) → ((i : ℕ) (x : NodeNo) → slice_get xs i ≡ Some x → P x.0) → (k : ℕ)
    → Among k (numbers xs) → P k
listed_there P [] h k m = absurd m
listed_there P (x ∷ xs) h k (inl e) = subst P (sym e) (h 0 x refl)
listed_there P (x ∷ xs) h k (inr m) = listed_there P xs (λ i y e. h (suc i) y e) k m

apart_later : (x : ℕ) (xs : List NodeNo) → ((j : ℕ) (y : NodeNo) → slice_get xs j ≡ Some y → x ≢ y.0)
    → AllByRecursion (λ y. nat_eq x y ≡ false) (numbers xs)
apart_later x [] h = tt
apart_later x (y ∷ xs) h = (
  false_from_ne_true _ (λ e. h 0 y refl (eqb-true x y.0 e)),
  apart_later x xs (λ j z e. h (suc j) z e),
)

-- numbers of which no two are the same are distinct
pub apart_once : (xs : List NodeNo)
    → ((i j : ℕ) (x y : NodeNo) → i < j → slice_get xs i ≡ Some x → slice_get xs j ≡ Some y → x.0 ≢ y.0)
    → IsDistinct nat_eq (numbers xs)
unfolding IsDistinct
apart_once [] h = tt
apart_once (x ∷ xs) h = (
  apart_later x.0 xs (λ j y e. h 0 (suc j) x y (omega arith) refl e),
  apart_once xs (λ i j y z l e f. h (suc i) (suc j) y z (omega (arith, l)) e f),
)

-- class numbers rise, so no two are the same
pub classes_apart : (class : ℕ → Option defs.Agg) (xs : List NodeNo) → AreClassNumbers class xs
    → (i j : ℕ) (x y : NodeNo) → i < j → slice_get xs i ≡ Some x → slice_get xs j ≡ Some y → x.0 ≢ y.0
classes_apart class xs are i j x y l e f same
    = let less = are.rise i j x y l e f in absurd (omega (arith, less, same))

-- a list of the classes has each
pub from_classes : (tree : Tree ℕ) (nodes : List NodeNo)
    → AreClassNumbers (λ q. class_in (finmap.get tree q)) nodes → ListsClasses tree (numbers nodes)
from_classes tree nodes are = record {
  once = apart_once nodes (classes_apart (λ q. class_in (finmap.get tree q)) nodes are);
  there = listed_there (λ q. IsSome (finmap.get tree q)) nodes
      (λ i x e. there (finmap.get tree x.0) (are.there i x e));
  all = λ k h. let at = are.all k h in map_among number (record { 0 = k }) nodes (get_among nodes at.0 _ at.1);
}
  where
    there : (o : Option Known) → IsSome (class_in o) → IsSome o
    there None h = h
    there (Some n) h = refl

-- numbers with each class are no more than the nodes
pub lists_few : (tree : Tree ℕ) (nodes : List NodeNo) → ListsClasses tree (numbers nodes)
    → length nodes ≤ finmap.len tree
lists_few tree nodes are =
    let few = few_there tree (numbers nodes) (each_once (numbers nodes) are.once) are.there in
    let long = length-map nodes number in
    omega (arith, few, long)

-- and those of the classes no more than the classes
pub classes_few : (tree : Tree ℕ) (nodes : List NodeNo)
    → AreClassNumbers (λ q. class_in (finmap.get tree q)) nodes → length nodes ≤ classes_in nat_cmp tree
classes_few tree nodes are =
    let lists = from_classes tree nodes are in
    let most = classes_within tree (numbers nodes) (each_once (numbers nodes) lists.once) lists.there in
    let all = each nodes are.there in
    omega (arith, most, all)
  where
    one : (o : Option defs.Agg) → IsSome o → mark_of o ≡ 1
    one None h = cc
    one (Some a) h = refl

    each : (xs : List NodeNo) → ((i : ℕ) (x : NodeNo) → slice_get xs i ≡ Some x → IsSome (class_in (finmap.get tree x.0)))
        → marks_of tree xs ≡ length xs
    each [] h = refl
    each (x ∷ xs) h =
        let first = one (class_in (finmap.get tree x.0)) (h 0 x refl) in
        let rest = each xs (λ i y e. h (suc i) y e) in
        let sum = sum_by-cons (λ k. mark_of (class_in (finmap.get tree k))) x.0 (numbers xs) in
        omega (arith, first, rest, sum)

-- one node more of the first so many
pub marks_next : (tree : Tree ℕ) (nodes : List NodeNo) (place : ℕ) (x : NodeNo) → slice_get nodes place ≡ Some x
    → marks_of tree (take (place + 1) nodes) ≡ marks_of tree (take place nodes) + mark_of (class_in (finmap.get tree x.0))
marks_next tree nodes place x at =
    let mark : ℕ → ℕ = λ k. mark_of (class_in (finmap.get tree k)) in
    let longer = ap (λ (ns : List NodeNo). sum_by mark (numbers ns)) (taken_next nodes place x at)
    ∙ ap (sum_by mark) (numbers_push (take place nodes) x)
    ∙ sum_by-append mark (numbers (take place nodes)) (x.0 ∷ []) in
    let one = sum_by-cons mark x.0 [] in
    omega (arith, longer, one)

-- keys of no more classes than a tree has
pub keys_few : (tree : Tree ℕ) (nodes : List NodeNo) (place : ℕ) (filling : List GatheredKeys) (pairs : List (NodeNo × Agg))
    → ListsClasses tree (numbers nodes) → length nodes ≤ place → AreKeysOf pairs filling
    → length pairs ≡ marks_of tree (take place nodes) → classes_in nat_cmp tree < 4294967296
    → All (λ (c : GatheredKeys). length c.keys < 4294967296) filling
keys_few tree nodes place filling pairs are all keys len few = λ k d l.
    let long = AllZip-long (IsKey (get_or filling k d).kind) pairs (get_or filling k d).keys (keys k d l) in
    let whole = len ∙ ap (marks_of tree) (take_all nodes place all) in
    let most = classes_within tree (numbers nodes) (each_once (numbers nodes) are.once) are.there in
    omega (arith, long, whole, most, few)
