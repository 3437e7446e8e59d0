-- Images sorted by their numbers, and looked up.
use Rattle.std.proofs.Common.{is_some, length-append, ◌+◌, ◌≡◌, ◌≢◌, ◌∙◌, ℕ, zero, suc, ◌<◌, Bool, true, false, cond, Option, Some, None}
use Rattle.std.proofs.Common.{List, [], ◌∷◌, ◌++◌, Ok, Err, length, map, get_or, nat_eq, nat_cmp}
use Rattle.std.proofs.Common.{refl, sym, ap, ap₂, subst, arith, is_lt, inl, inr}
use Rattle.std.specs.FinMap as map
use Rattle.std.proofs.lemmas.List.{get_or-map, length-map}
use Rattle.std.specs.Cmp.{nat_cmp_total}
use Rattle.std.specs.List.{AllByRecursion, IsDistinct}
use Rattle.std.specs.List.Sorted.{IsBinarySearchResult, IsPermutation, IsSorted, IsSortedByKey}
use Rattle.std.specs.Map.{lookup}
use Rattle.std.specs.Option.{IfNone, IfSome}
use Rattle.std.proofs.lemmas.Bool.{cases_lt, cond-true, cond-false, eq-eqb, ne_eqb}
use Rattle.std.proofs.lemmas.List.Sorted.{Contains-permutation, IsPermutation-append, IsPermutation-map, IsPermutation-sym}
use Rattle.std.proofs.lemmas.List.Sorted.{searchable_from_sorted}
use Rattle.std.proofs.lemmas.Map.Keys.{IsDistinct-IsPermutation}
use Rattle.std.proofs.lemmas.Option.{slice_get-get_or, slice_get_read, slice_get_within}
use Rattle.cube_laws.proofs.CallerLemmas.{greater_above, less_below, nat_anti, nat_eq-turned}
use Rattle.tree_laws.proofs.CallerLemmas.{some_same}
use Rattle.qc_arena.specs.Entries.{IsOnce, all_new}
use Rattle.qc_arena.specs.Map.{ImageMap, Known}
use Rattle.qc_arena.proofs.Imaged.{get_images}
use Rattle.qc_arena.proofs.Pairs.{found_key, key_found}

-- what a binary search for a key says
module _ {X : Type 0} (key : X → ℕ) (k : ℕ) (xs : List X) where
  pub search_found : (at : ℕ) (d : X) → IsBinarySearchResult (λ x. nat_cmp (key x) k) xs (Ok at)
      → key (get_or xs at d) ≡ k
  search_found at d found = nat_anti (key (get_or xs at d)) k (found d)

  pub search_missed : (at : ℕ) → IsSortedByKey key nat_cmp xs
      → IsBinarySearchResult (λ x. nat_cmp (key x) k) xs (Err at) → (i : ℕ) (d : X) → i < length xs
      → key (get_or xs i d) ≢ k
  search_missed at sorted missed i d l same =
      let parted = missed (searchable_from_sorted nat_cmp_total key xs k sorted) in
      elim (cases_lt i at) [
        | inl h ↦ let less = less_below (key (get_or xs i d)) k (parted.0 i d (omega arith) h) in
            omega (arith, less, same)
        | inr h ↦ let more = greater_above (key (get_or xs i d)) k (parted.1 i d h l) in omega (arith, more, same)
      ]

module _ {X : Type 0} where
  pub none_at : (k : ℕ) (es : List (ℕ × X)) → ((i : ℕ) (d : ℕ × X) → i < length es → (get_or es i d).0 ≢ k)
      → lookup (nat_eq k) es ≡ None
  none_at k [] h = refl
  none_at k (e ∷ es) h = cond-false _ _ _ (ne_eqb k e.0 (λ s. h 0 e (omega arith) (sym s)))
      ∙ none_at k es (λ i d l. h (suc i) d (omega arith))

  -- the numbers of entries, side by side
  abbrev numbers : List (ℕ × X) → List ℕ
  numbers = map (λ e. e.0)

  pub sorted_numbers : (es : List (ℕ × X)) → IsSortedByKey (λ e. e.0) nat_cmp es → IsSorted nat_cmp (numbers es)
  sorted_numbers [] sorted i d low l = absurd (omega (arith, l))
  sorted_numbers (e ∷ es) sorted i d low l =
      let within : i + 1 < length (e ∷ es) = omega (arith, l, length-map (e ∷ es) (λ f. f.0)) in
      ap₂ (λ a b. is_lt (nat_cmp a b)) (get_or-map (λ f. f.0) (e ∷ es) (i + 1) e d within)
      (get_or-map (λ f. f.0) (e ∷ es) i e d (omega (arith, within)))
      ∙ sorted i e low within

  pub number_found : (k : ℕ) (es : List (ℕ × X)) (found : Option ℕ) → IfSome found (λ i. i < length (numbers es))
      → IfSome found (λ i. (d : ℕ) → get_or (numbers es) i d ≡ k) → IfSome found (λ i. (d : ℕ × X) → (get_or es i d).0 ≡ k)
  number_found k es None within is = tt
  number_found k es (Some i) within is
      = λ d. sym (get_or-map (λ f. f.0) es i d d.0 (omega (arith, within, length-map es (λ f. f.0)))) ∙ is d.0

  pub number_missed : (k : ℕ) (es : List (ℕ × X)) → ((i d : ℕ) → i < length (numbers es) → get_or (numbers es) i d ≢ k)
      → lookup (nat_eq k) es ≡ None
  number_missed k es h = none_at k es (λ i d l same.
      h i d.0 (omega (arith, l, length-map es (λ f. f.0))) (get_or-map (λ f. f.0) es i d d.0 l ∙ same))

  pub not_found : (k : ℕ) (es : List (ℕ × X)) (found : Option ℕ)
      → IfNone found ((i d : ℕ) → i < length (numbers es) → get_or (numbers es) i d ≢ k)
      → IfNone found (lookup (nat_eq k) es ≡ None)
  not_found k es None h = number_missed k es h
  not_found k es (Some i) h = tt

  pub one_at : (k : ℕ) (es : List (ℕ × X)) (i : ℕ) (e : ℕ × X) → IsOnce es → i < length es → e ≡ get_or es i e → e.0 ≡ k
      → lookup (nat_eq k) es ≡ Some e.1
  one_at k es i e once l is same
      = subst (λ q. lookup (nat_eq q) es ≡ Some e.1) same
      (key_found es i e once (slice_get_read es (length es) i e refl l is))

  pub look_before : (k : ℕ) (es fs : List (ℕ × X)) (v : X) → lookup (nat_eq k) es ≡ Some v
      → lookup (nat_eq k) (es ++ fs) ≡ Some v
  look_before k [] fs v h = cc
  look_before k (e ∷ es) fs v h = go (nat_eq k e.0) (look_before k es fs v) h
    where
      go : (b : Bool) → (lookup (nat_eq k) es ≡ Some v → lookup (nat_eq k) (es ++ fs) ≡ Some v)
          → cond b (Some e.1) (lookup (nat_eq k) es) ≡ Some v
          → cond b (Some e.1) (lookup (nat_eq k) (es ++ fs)) ≡ Some v
      go true more h = h
      go false more h = more h

  pub look_after : (k : ℕ) (es fs : List (ℕ × X)) → lookup (nat_eq k) es ≡ None
      → lookup (nat_eq k) (es ++ fs) ≡ lookup (nat_eq k) fs
  look_after k [] fs h = refl
  look_after k (e ∷ es) fs h = go (nat_eq k e.0) (look_after k es fs) h
    where
      go : (b : Bool) → (lookup (nat_eq k) es ≡ None → lookup (nat_eq k) (es ++ fs) ≡ lookup (nat_eq k) fs)
          → cond b (Some e.1) (lookup (nat_eq k) es) ≡ None
          → cond b (Some e.1) (lookup (nat_eq k) (es ++ fs)) ≡ lookup (nat_eq k) fs
      go true more h = cc
      go false more h = more h

  pub none_before : (k : ℕ) (es fs : List (ℕ × X)) → lookup (nat_eq k) (es ++ fs) ≡ None → lookup (nat_eq k) es ≡ None
  none_before k [] fs h = refl
  none_before k (e ∷ es) fs h = go (nat_eq k e.0) (none_before k es fs) h
    where
      go : (b : Bool) → (lookup (nat_eq k) (es ++ fs) ≡ None → lookup (nat_eq k) es ≡ None)
          → cond b (Some e.1) (lookup (nat_eq k) (es ++ fs)) ≡ None → cond b (Some e.1) (lookup (nat_eq k) es) ≡ None
      go true more h = cc
      go false more h = more h

  pub once_before : (es fs : List (ℕ × X)) → IsOnce (es ++ fs) → IsOnce es
  once_before [] fs h = tt
  once_before (e ∷ es) fs h = (none_before e.0 es fs h.0, once_before es fs h.1)

  -- numbers that stand once are distinct
  apart_keys : (k : ℕ) (es : List (ℕ × X)) → lookup (nat_eq k) es ≡ None
      → AllByRecursion (λ q. nat_eq k q ≡ false) (map (λ e. e.0) es)
  apart_keys k [] h = tt
  apart_keys k (e ∷ es) h = go (nat_eq k e.0) refl (apart_keys k es) h
    where
      go : (b : Bool) → nat_eq k e.0 ≡ b
          → (lookup (nat_eq k) es ≡ None → AllByRecursion (λ q. nat_eq k q ≡ false) (map (λ e. e.0) es))
          → cond b (Some e.1) (lookup (nat_eq k) es) ≡ None
          → AllByRecursion (λ q. nat_eq k q ≡ false) (e.0 ∷ map (λ e. e.0) es)
      go true t more h = cc
      go false t more h = (t, more h)

  keys_none : (k : ℕ) (es : List (ℕ × X)) → AllByRecursion (λ q. nat_eq k q ≡ false) (map (λ e. e.0) es)
      → lookup (nat_eq k) es ≡ None
  keys_none k [] h = refl
  keys_none k (e ∷ es) h = cond-false _ _ _ h.0 ∙ keys_none k es h.1

  once_distinct : (es : List (ℕ × X)) → IsOnce es → IsDistinct nat_eq (map (λ e. e.0) es)
  unfolding IsDistinct
  once_distinct [] h = tt
  once_distinct (e ∷ es) h = (apart_keys e.0 es h.0, once_distinct es h.1)

  distinct_once : (es : List (ℕ × X)) → IsDistinct nat_eq (map (λ e. e.0) es) → IsOnce es
  unfolding IsDistinct
  distinct_once [] h = tt
  distinct_once (e ∷ es) h = (keys_none e.0 es h.0, distinct_once es h.1)

  pub once_moved : (es fs : List (ℕ × X)) → IsPermutation es fs → IsOnce es → IsOnce fs
  once_moved es fs p once
      = distinct_once fs (IsDistinct-IsPermutation nat_eq nat_eq-turned (map (λ e. e.0) es) (map (λ e. e.0) fs)
      (IsPermutation-map (λ e. e.0) es fs p) (once_distinct es once))

  -- what is found is found in any order
  found_moved : (es fs : List (ℕ × X)) (q : ℕ) (v : X) → IsPermutation es fs → IsOnce es → lookup (nat_eq q) es ≡ Some v
      → lookup (nat_eq q) fs ≡ Some v
  found_moved es fs q v p once h =
      let f = found_key q es v h in
      let value : Some f.1.1 ≡ Some v = sym (key_found es f.0 f.1 once f.2) ∙ ap (λ n. lookup (nat_eq n) es) f.3 ∙ h in
      let within = slice_get_within es f.0 f.1 f.2 in
      let there = Contains-permutation es fs f.1 p (
        f.0,
        within,
        some_same (sym (slice_get-get_or es f.0 f.1 within) ∙ f.2),
      ) in
      one_at q fs there.0 f.1 (once_moved es fs p once) there.1 (sym there.2) f.3 ∙ value

  look_moved : (es fs : List (ℕ × X)) (q : ℕ) → IsPermutation es fs → IsOnce es
      → lookup (nat_eq q) fs ≡ lookup (nat_eq q) es
  look_moved es fs q p once = go (lookup (nat_eq q) es) (lookup (nat_eq q) fs) refl refl
    where
      go : (o r : Option X) → lookup (nat_eq q) es ≡ o → lookup (nat_eq q) fs ≡ r
          → lookup (nat_eq q) fs ≡ lookup (nat_eq q) es
      go (Some v) r e f = found_moved es fs q v p once e ∙ sym e
      go None None e f = f ∙ sym e
      go None (Some v) e f = let back = found_moved fs es q v (IsPermutation-sym es fs p) (once_moved es fs p once) f in
          let bad : None ≡ Some v = sym e ∙ back in cc

  pub map_moved : (es fs : List (ℕ × X)) → IsPermutation es fs → IsOnce es
      → map.from_entries {R = nat_cmp} fs ≡ map.from_entries es
  map_moved es fs p once =
      map.same_map nat_cmp_total nat_anti (map.from_entries fs) (map.from_entries es) (λ q. get_images fs q
      ∙ look_moved es fs q p once ∙ sym (get_images es q))

-- the same for nodes that are new
pub both_moved : (es fs : List (ℕ × Option Known)) (ks ls : List ℕ) → IsPermutation es fs → IsPermutation ks ls
    → IsPermutation (es ++ all_new ks) (fs ++ all_new ls)
both_moved es fs ks ls p q
    = IsPermutation-append es fs (all_new ks) (all_new ls) p (IsPermutation-map (λ k. (k, None)) ks ls q)

pub new_found : (k : ℕ) (ks : List ℕ) (i : ℕ) → i < length ks → get_or ks i 0 ≡ k
    → lookup (nat_eq k) (all_new ks) ≡ Some None
new_found k [] i l e = absurd (omega arith)
new_found k (n ∷ ks) zero l e = cond-true _ _ _ (eq-eqb k n (sym e))
new_found k (n ∷ ks) (suc i) l e = go (nat_eq k n) (new_found k ks i (omega arith) e)
  where
    go : (b : Bool) → lookup (nat_eq k) (all_new ks) ≡ Some None
        → cond b (Some None) (lookup (nat_eq k) (all_new ks)) ≡ Some None
    go true more = refl
    go false more = more

pub new_missed : (k : ℕ) (ks : List ℕ) → ((i d : ℕ) → i < length ks → get_or ks i d ≢ k)
    → lookup (nat_eq k) (all_new ks) ≡ None
new_missed k [] h = refl
new_missed k (n ∷ ks) h = cond-false _ _ _ (ne_eqb k n (λ s. h 0 n (omega arith) (sym s)))
    ∙ new_missed k ks (λ i d l. h (suc i) d (omega arith))

-- what is found is what the images say
pub looked : (images : ImageMap) (es : List (ℕ × Option Known)) (k : ℕ) (o : Option (Option Known))
    → map.from_entries es ≡ images → lookup (nat_eq k) es ≡ o → o ≡ map.get images k
looked images es k o view is = sym is ∙ sym (get_images es k) ∙ ap (λ m. map.get m k) view

-- how many there are
pub len_once : {X : Type 0} (es : List (ℕ × X)) → IsOnce es → map.len (map.from_entries {R = nat_cmp} es) ≡ length es
len_once {X = X} [] h = map.len-empty nat_cmp X
len_once (e ∷ es) h =
    let out : map.contains_key (map.from_entries {R = nat_cmp} es) e.0 ≡ false = ap is_some (get_images es e.0 ∙ h.0) in
    let more = map.len-insert nat_cmp_total (map.from_entries es) e.0 e.1 ∙ cond-false _ _ _ out in
    let rest = len_once es h.1 in
    omega (arith, more, rest)

pub counted : (images : ImageMap) (es : List (ℕ × Option Known)) (ks : List ℕ) → IsOnce (es ++ all_new ks)
    → map.from_entries (es ++ all_new ks) ≡ images → length es + length ks ≡ map.len images
counted images es ks once is =
    sym (ap map.len (sym is) ∙ len_once (es ++ all_new ks) once ∙ length-append es (all_new ks)
    ∙ ap (λ (n : ℕ). length es + n) (length-map ks (λ k. (k, None))))
