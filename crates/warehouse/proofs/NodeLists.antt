-- Numbers of nodes, each once: as the first so many are gone through, and no more than there are nodes.
use Rattle.std.proofs.Common.{◌≡◌, inl, inr, ℕ, zero, suc, ◌+◌, ◌-◌, ◌≤◌, Bool, true, false, cond, Option, Some, None, List}
use Rattle.std.proofs.Common.{[], ◌∷◌, ◌++◌, length, map, take, slice_get, refl, sym, ap, subst, ◌∙◌, arith, is_some, nat_cmp, true≢false}
use Rattle.std.specs.Prelude.{IsSome}
use Rattle.std.specs.FinMap as numbers
use Rattle.std.specs.Cmp.{nat_cmp_total, tied_itself}
use Rattle.std.specs.List.{sum_by}
use Rattle.std.specs.Ordering.{eq_by_cmp, is_eq}
use Rattle.std.proofs.lemmas.Bool.{cond-true, cond-false}
use Rattle.std.proofs.lemmas.List.{map-append, length-map}
use Rattle.cell_core.specs.declared.cell.NodeNo.{NodeNo}
use Rattle.cube_defs.specs.Rows as defs
use Rattle.cube_defs.specs.Tree.{Tree}
use Rattle.tree_laws.specs.Counts.{classes_in}
use Rattle.cube_laws.specs.Lists.{Among}
use Rattle.cube_laws.proofs.CallerLemmas.{get_among, map_among}
use Rattle.iceberg_query.specs.Subtree as seen
use Rattle.qc_arena.specs.Changes.{class_in}
use Rattle.qc_arena.specs.Map.{Known}
use Rattle.qc_arena.specs.RecordReaders.{number, record_at}
use Rattle.tree_laws.proofs.CallerLemmas.{EachOnce, entry_get, get_entry, some_same, sum_alike, sum_by-map, sum_ones}
use Rattle.tree_laws.proofs.CallerLemmas.{sum_within}
use Rattle.tree_search.proofs.CallerLemmas.{there_is}

-- an item isn't among those before it
pub not_before : (xs : List ℕ) (i k : ℕ) → EachOnce xs → slice_get xs i ≡ Some k → Among k (take i xs) → ⊥
not_before [] i k h e m = cc
not_before (x ∷ xs) zero k h e m = absurd m
not_before (x ∷ xs) (suc i) k h e m = elim m [
  | inl s ↦ h.0 (subst (λ y. Among y xs) s (get_among xs i k e))
  | inr r ↦ not_before xs i k h.1 e r
]

-- the first so many items and the next
pub taken_next : {X : Type 0} (xs : List X) (i : ℕ) (x : X) → slice_get xs i ≡ Some x
    → take (i + 1) xs ≡ take i xs ++ x ∷ []
taken_next {X} xs i x e = let next : i + 1 ≡ suc i = omega arith in ap (λ n. take n xs) next ∙ go xs i e
  where
    go : (xs : List X) (i : ℕ) → slice_get xs i ≡ Some x → take (suc i) xs ≡ take i xs ++ x ∷ []
    go [] i e = cc
    go (y ∷ ys) zero e = ap (λ z. z ∷ []) (some_same e)
    go (y ∷ ys) (suc i) e = ap (λ zs. y ∷ zs) (go ys i e)

pub numbers_push : (nodes : List NodeNo) (x : NodeNo) → seen.numbers (nodes ++ x ∷ []) ≡ seen.numbers nodes ++ x.0 ∷ []
numbers_push nodes x = map-append number nodes (x ∷ [])

-- 1 for a class, else 0
abbrev pub mark_of : Option defs.Agg → ℕ
mark_of None = 0
mark_of (Some a) = 1

module _ (tree : Tree ℕ) where
  keys : List ℕ
  keys = map (λ e. e.0) (numbers.entries tree)

  key_there : (k : ℕ) → IsSome (numbers.get tree k) → Among k keys
  unfolding keys
  key_there k t = map_among (λ (e : ℕ × Known). e.0) (k, record_at tree k) (numbers.entries tree)
      (get_entry tree k (record_at tree k) (there_is tree k t))

  -- of different numbers no more have a class than there are classes
  pub classes_within : (listed : List ℕ) → EachOnce listed → ((k : ℕ) → Among k listed → IsSome (numbers.get tree k))
      → sum_by (λ k. mark_of (class_in (numbers.get tree k))) listed ≤ classes_in nat_cmp tree
  unfolding keys
  classes_within listed once are_there =
      let mark : ℕ → ℕ = λ k. mark_of (class_in (numbers.get tree k)) in
      let has : Known → ℕ = λ n. cond (is_some n.class) 1 0 in
      let most = sum_within mark listed keys once (λ k m. key_there k (are_there k m)) in
      let all = sum_by-map mark (λ (e : ℕ × Known). e.0) (numbers.entries tree)
      ∙ sum_alike (λ (e : ℕ × Known). mark e.0) (λ (e : ℕ × Known). has e.1) (numbers.entries tree)
      (λ e m. ap (λ (o : Option Known). mark_of (class_in o)) (entry_get tree e m) ∙ marked e.1.class)
      ∙ sym (sum_by-map has (λ (e : ℕ × Known). e.1) (numbers.entries tree)) in
      omega (arith, most, all)
    where
      marked : (o : Option defs.Agg) → mark_of o ≡ cond (is_some o) 1 0
      marked None = refl
      marked (Some a) = refl

  -- different numbers of nodes are no more than the nodes
  pub few_there : (listed : List ℕ) → EachOnce listed → ((k : ℕ) → Among k listed → IsSome (numbers.get tree k))
      → length listed ≤ numbers.len tree
  unfolding keys
  few_there listed once are_there =
      let most = sum_within (λ k. 1) listed keys once (λ k m. key_there k (are_there k m)) in
      let ones = sum_ones listed in
      let all = sum_ones keys in
      let long = length-map (numbers.entries tree) (λ (e : ℕ × Known). e.0) in
      let size = numbers.len-entries tree in
      omega (arith, most, ones, all, long, size)

-- a tree has no more nodes than a list that has all of them
pub all_listed : (listed : List ℕ) (tree : Tree ℕ) → ((k : ℕ) → IsSome (numbers.get tree k) → Among k listed)
    → numbers.len tree ≤ length listed
all_listed [] tree all =
    let none : tree ≡ numbers.empty = numbers.same_map nat_cmp_total numbers.nat_cmp-IsAntisymmetric tree numbers.empty
    (λ q. no_record q (numbers.get tree q) refl ∙ sym (numbers.get-empty nat_cmp q)) in
    omega (arith, ap numbers.len none, numbers.len-empty nat_cmp Known)
  where
    no_record : (q : ℕ) (o : Option Known) → numbers.get tree q ≡ o → o ≡ None
    no_record q None e = refl
    no_record q (Some n) e = absurd (all q (subst (λ o. IsSome o) (sym e) refl))
all_listed (x ∷ xs) tree all =
    let less = all_listed xs (numbers.remove tree x) rest in
    let size = numbers.len-remove nat_cmp_total tree x in
    smaller (numbers.contains_key tree x) size less
  where
    rest : (k : ℕ) → IsSome (numbers.get (numbers.remove tree x) k) → Among k xs
    rest k t = by_tie (eq_by_cmp nat_cmp k x) refl
      where
        same_tie : k ≡ x → eq_by_cmp nat_cmp k x ≡ true
        same_tie s = ap is_eq (ap (λ y. nat_cmp k y) (sym s) ∙ tied_itself nat_cmp_total k)

        by_tie : (b : Bool) → eq_by_cmp nat_cmp k x ≡ b → Among k xs
        by_tie true e =
            let gone : numbers.get (numbers.remove tree x) k ≡ None = numbers.get-remove nat_cmp_total tree x k
            ∙ cond-true (eq_by_cmp nat_cmp k x) None (numbers.get tree k) e in
            absurd (true≢false (sym t ∙ ap is_some gone))
        by_tie false e =
            let kept : numbers.get (numbers.remove tree x) k ≡ numbers.get tree k
            = numbers.get-remove nat_cmp_total tree x k ∙ cond-false (eq_by_cmp nat_cmp k x) None (numbers.get tree k) e in
            elim (all k (subst (λ o. IsSome o) kept t)) [
              | inl s ↦ absurd (true≢false (sym (same_tie s) ∙ e))
              | inr m ↦ m
            ]

    smaller : (b : Bool) → numbers.len (numbers.remove tree x) ≡ cond b (numbers.len tree - 1) (numbers.len tree)
        → numbers.len (numbers.remove tree x) ≤ length xs → numbers.len tree ≤ length (x ∷ xs)
    smaller true e le = omega (arith, e, le)
    smaller false e le = omega (arith, e, le)

-- a tree has no more nodes than another that has each of its numbers
pub no_more : (tree wide : Tree ℕ) → ((q : ℕ) → IsSome (numbers.get wide q) → IsSome (numbers.get tree q))
    → numbers.len wide ≤ numbers.len tree
unfolding keys
no_more tree wide old =
    let few = all_listed (keys tree) wide (λ k t. key_there tree k (old k t)) in
    let long = length-map (numbers.entries tree) (λ (e : ℕ × Known). e.0) in
    omega (arith, few, long, numbers.len-entries tree)
