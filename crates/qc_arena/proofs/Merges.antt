-- Two lists of what is said, put together.
use Rattle.std.proofs.Common.{◌≡◌, ◌≢◌, ◌∙◌, ℕ, zero, suc, ◌+◌, ◌-◌, ◌<◌, ◌≤◌, Bool, true, false, cond, Option, Some, None, IsSome, is_some}
use Rattle.std.proofs.Common.{List, [], ◌∷◌, ◌++◌, length, length-append, get_or, nat_cmp, nat_eq, refl, sym, ap, ap₂, subst, arith, inl}
use Rattle.std.proofs.Common.{inr, true≢false}
use Rattle.std.proofs.lemmas.Bool.{cases_lt, cond-true, cond-false, eq-eqb}
use Rattle.std.proofs.lemmas.Bool.Decides.{eqb_tells}
use Rattle.std.proofs.lemmas.List.{append-nil, get_or-map, get_or_append_left, length-map, nil_from_length}
use Rattle.std.specs.Prelude.{if◌then◌else◌}
use Rattle.std.specs.List.Sorted.{IsNonDecreasingBy, IsSorted, IsSortedByKey}
use Rattle.std.proofs.lemmas.List.Sorted.{IsNonDecreasingBy-from_sort}
use Rattle.std.specs.Map.{lookup}
use Rattle.std.specs.Option.{option_map, option_or}
use Rattle.std.specs.FinMap as map
use Rattle.std.specs.Cmp.{nat_cmp_total}
use Rattle.cube_laws.proofs.CallerLemmas.{nat_anti}
use Rattle.qc_arena.specs.Entries.{IsOnce, all_new, entry_number}
use Rattle.qc_arena.specs.Map.{ImageMap, Known}
use Rattle.qc_arena.specs.Merges.{AreApart, IsEnd, IsMost, added_in, all_in, changed_in, count_in, entry_image}
use Rattle.qc_arena.specs.declared.sorted_images.Entry.{Entry}
use Rattle.qc_arena.specs.declared.sorted_images.SortedImages.{SortedImages}
use Rattle.std.proofs.Math.Seq.{get_or-append_seam}
use Rattle.qc_arena.proofs.Entries.{found_more, last_less, last_more, new_last, once_less, once_more, was_last}
use Rattle.qc_arena.proofs.Imaged.{get_images, last_found}
use Rattle.qc_arena.proofs.Looked.{look_after, looked, none_at, none_before}

module _ {X : Type 0} where
  -- what is found in two lists, of which the first is put over the other
  pub look_both : (q : ℕ) (es fs : List (ℕ × X))
      → lookup (nat_eq q) (es ++ fs) ≡ option_or (lookup (nat_eq q) es) (lookup (nat_eq q) fs)
  look_both q [] fs = refl
  look_both q (e ∷ es) fs = go (nat_eq q e.0) (look_both q es fs)
    where
      go : (b : Bool) → lookup (nat_eq q) (es ++ fs) ≡ option_or (lookup (nat_eq q) es) (lookup (nat_eq q) fs)
          → cond b (Some e.1) (lookup (nat_eq q) (es ++ fs)) ≡ option_or (cond b (Some e.1) (lookup (nat_eq q) es))
          (lookup (nat_eq q) fs)
      go true more = refl
      go false more = more

  -- each entry's number is found
  is_there : (es : List (ℕ × X)) (i : ℕ) (d : ℕ × X) → i < length es → IsSome (lookup (nat_eq (get_or es i d).0) es)
  is_there [] i d l = absurd (omega arith)
  is_there (e ∷ es) zero d l
      = ap is_some (cond-true (nat_eq e.0 e.0) (Some e.1) (lookup (nat_eq e.0) es) (eq-eqb e.0 e.0 refl))
  is_there (e ∷ es) (suc i) d l = go (nat_eq (get_or es i d).0 e.0) (is_there es i d (omega arith))
    where
      go : (b : Bool) → IsSome (lookup (nat_eq (get_or es i d).0) es)
          → IsSome (cond b (Some e.1) (lookup (nat_eq (get_or es i d).0) es))
      go true more = refl
      go false more = more

  -- without one of the entries
  first_none : (b : Bool) (x : X) (o : Option X) → cond b (Some x) o ≡ None → (b ≡ false) × (o ≡ None)
  first_none true x o h = cc
  first_none false x o h = (refl, h)

  apart_none : (b : Bool) (x : X) (o : Option X) → (if b then Some x else o) ≡ None → (b ≡ false) × (o ≡ None)
  apart_none true x o h = cc
  apart_none false x o h = (refl, h)

  pub once_without : (es fs : List (ℕ × X)) (k : ℕ) (v : X) → IsOnce (es ++ (k, v) ∷ fs) → IsOnce (es ++ fs)
      × (lookup (nat_eq k) (es ++ fs) ≡ None)
  once_without [] fs k v once = (once.1, once.0)
  once_without (e ∷ es) fs k v once =
      let rest = once_without es fs k v once.1 in
      let parts = apart_none (nat_eq k e.0) v (lookup (nat_eq e.0) (es ++ fs))
      (sym (found_more es fs k v e.0 rest.1) ∙ once.0) in
      ((parts.1, rest.0), cond-false _ _ _ parts.0 ∙ rest.1)

  pub found_less : (es fs : List (ℕ × X)) (k : ℕ) (v : X) (q : ℕ) → lookup (nat_eq k) (es ++ fs) ≡ None
      → lookup (nat_eq q) (es ++ fs) ≡ (if nat_eq k q then None else lookup (nat_eq q) (es ++ (k, v) ∷ fs))
  found_less es fs k v q none = elim (eqb_tells k q) [
    | inl s ↦ subst (λ (n : ℕ). lookup (nat_eq n) (es ++ fs) ≡ None) s.1 none ∙ sym (cond-true _ _ _ s.0)
    | inr s ↦ sym (cond-false _ _ _ s.0 ∙ found_more es fs k v q none ∙ cond-false _ _ _ s.0)
  ]

  -- the prefix of a list that rises
  pub rise_prefix : (n : X → ℕ) (xs ys : List X) → IsNonDecreasingBy n (xs ++ ys) → IsNonDecreasingBy n xs
  rise_prefix n xs ys rise = λ i j d l within.
      let a = get_or_append_left xs ys d i (omega arith) in
      let b = get_or_append_left xs ys d j within in
      subst (λ (x : X). n x ≤ n (get_or xs j d)) a
      (subst (λ (x : X). n (get_or (xs ++ ys) i d) ≤ n x) b (rise i j d l (omega (arith, length-append xs ys))))

module _ (es : List (ℕ × Option Known)) (end : ℕ) where
  -- no number is as large as the end
  pub end_most : IsNonDecreasingBy entry_number es → IsEnd es end → (q : ℕ) → end ≤ q → lookup (nat_eq q) es ≡ None
  end_most rise is q l = elim (cases_lt 0 end) [
    | inr none ↦ let empty = nil_from_length es (is.none (omega arith)) in ap (lookup (nat_eq q)) empty
    | inl some ↦ none_at q es (λ i d within same.
        let last = is.some d some in
        let below = rise i (length es - 1) d (omega arith) (omega arith) in
        omega (arith, last.1, below, same))
  ]

  -- and the number before is there
  pub end_there : IsEnd es end → 0 < end → IsSome (lookup (nat_eq (end - 1)) es)
  end_there is some =
      let d : ℕ × Option Known = (0, None) in
      let last = is.some d some in
      let before : (get_or es (length es - 1) d).0 ≡ end - 1 = omega (arith, last.1) in
      subst (λ (n : ℕ). IsSome (lookup (nat_eq n) es)) before (is_there es (length es - 1) d (omega (arith, last.0)))

  pub not_last : (node : ℕ) → IsNonDecreasingBy entry_number es → IsEnd es end → IsMost es node → end ≢ node + 1
      → lookup (nat_eq node) es ≡ None
  not_last node rise is most other = elim (cases_lt node end) [
    | inr past ↦ end_most rise is node past
    | inl within ↦ absurd (true≢false (sym (end_there is (omega arith))
        ∙ ap is_some (most (end - 1) (omega (arith, other)))))
  ]

-- the number of the last entry
last_number : (es fs : List (ℕ × Option Known)) (n : ℕ) (v : Option Known) (end : ℕ) → IsEnd es end → 0 < end
    → es ≡ fs ++ (n, v) ∷ [] → n + 1 ≡ end
last_number es fs n v end is some items =
    let at = (subst (λ (l : List (ℕ × Option Known)). IsEnd l end) items is).some (n, v) some in
    let place : length (fs ++ (n, v) ∷ []) - 1 ≡ length fs = omega (arith, length-append fs ((n, v) ∷ [])) in
    let here : get_or (fs ++ (n, v) ∷ []) (length (fs ++ (n, v) ∷ []) - 1) (n, v) ≡ (n, v)
    = ap (λ (k : ℕ). get_or (fs ++ (n, v) ∷ []) k (n, v)) place ∙ get_or-append_seam fs (n, v) [] (n, v) in
    ap (λ (e : ℕ × Option Known). e.0 + 1) (sym here) ∙ at.1

pub last_is : (es fs : List (ℕ × Option Known)) (n : ℕ) (v : Option Known) (node end : ℕ) → IsEnd es end
    → end ≡ node + 1 → es ≡ fs ++ (n, v) ∷ [] → es ≡ fs ++ (node, v) ∷ []
last_is es fs n v node end is e items =
    let number = last_number es fs n v end is (omega (arith, e)) items in
    let same : n ≡ node = omega (arith, number, e) in
    items ∙ ap (λ (m : ℕ). fs ++ (m, v) ∷ []) same

pub last_new : (ks ls : List ℕ) (n node end : ℕ) → IsEnd (all_new ks) end → end ≡ node + 1 → ks ≡ ls ++ n ∷ []
    → ks ≡ ls ++ node ∷ []
last_new ks ls n node end is e items =
    let number = last_number (all_new ks) (all_new ls) n None end is (omega (arith, e)) (ap all_new items
    ∙ new_last [] ls n) in
    let same : n ≡ node = omega (arith, number, e) in
    items ∙ ap (λ (m : ℕ). ls ++ m ∷ []) same

-- what is found in the second list alone
pub none_behind : {X : Type 0} (q : ℕ) (es fs : List (ℕ × X)) → lookup (nat_eq q) (es ++ fs) ≡ None
    → lookup (nat_eq q) fs ≡ None
none_behind q es fs none = sym (look_after q es fs (none_before q es fs none)) ∙ none

-- an entry of the first list is taken
module _ (es fs ns : List (ℕ × Option Known)) (node : ℕ) (v : Option Known) (once : IsOnce (es ++ ns))
    (items : es ≡ fs ++ (node, v) ∷ []) where
  is_first : es ++ ns ≡ fs ++ (node, v) ∷ ns
  is_first = ap (λ (l : List (ℕ × Option Known)). l ++ ns) items ∙ was_last fs node v ns

  without_first : IsOnce (fs ++ ns) × (lookup (nat_eq node) (fs ++ ns) ≡ None)
  without_first = once_without fs ns node v (subst (λ (l : List (ℕ × Option Known)). IsOnce l) is_first once)

  pub first_once : IsOnce (fs ++ ns)
  first_once = without_first.0

  pub first_rise : IsNonDecreasingBy entry_number es → IsNonDecreasingBy entry_number fs
  first_rise rise = rise_prefix entry_number fs ((node, v) ∷ [])
      (subst (λ (l : List (ℕ × Option Known)). IsNonDecreasingBy entry_number l) items rise)

  pub first_took : Some v ≡ lookup (nat_eq node) (es ++ ns)
  first_took = sym (ap (lookup (nat_eq node)) is_first ∙ found_more fs ns node v node without_first.1
      ∙ cond-true _ _ _ (eq-eqb node node refl))

  pub first_rest : (q : ℕ)
      → lookup (nat_eq q) (fs ++ ns) ≡ (if nat_eq node q then None else lookup (nat_eq q) (es ++ ns))
  first_rest q = found_less fs ns node v q without_first.1
      ∙ ap (λ (l : List (ℕ × Option Known)). if nat_eq node q then None else lookup (nat_eq q) l) (sym is_first)

-- one of the second list is taken
module _ (es fs : List (ℕ × Option Known)) (ks ls : List ℕ) (node : ℕ) (once : IsOnce (es ++ all_new ks))
    (same : fs ≡ es) (items : ks ≡ ls ++ node ∷ []) where
  is_second : es ++ all_new ks ≡ (fs ++ all_new ls) ++ (node, None) ∷ []
  is_second = ap (λ (l : List ℕ). es ++ all_new l) items ∙ new_last es ls node
      ∙ ap (λ (l : List (ℕ × Option Known)). (l ++ all_new ls) ++ (node, None) ∷ []) (sym same)

  without_second : IsOnce (fs ++ all_new ls) × (lookup (nat_eq node) (fs ++ all_new ls) ≡ None)
  without_second = once_less (fs ++ all_new ls) node None
      (subst (λ (l : List (ℕ × Option Known)). IsOnce l) is_second once)

  pub second_once : IsOnce (fs ++ all_new ls)
  second_once = without_second.0

  pub second_rise : IsNonDecreasingBy entry_number (all_new ks) → IsNonDecreasingBy entry_number (all_new ls)
  second_rise rise = rise_prefix entry_number (all_new ls) ((node, None) ∷ [])
      (subst (λ (l : List (ℕ × Option Known)). IsNonDecreasingBy entry_number l) (ap all_new items
      ∙ new_last [] ls node) rise)

  pub second_took : Some None ≡ lookup (nat_eq node) (es ++ all_new ks)
  second_took = sym (ap (lookup (nat_eq node)) is_second
      ∙ last_found (nat_eq node) (fs ++ all_new ls) node None without_second.1 (eq-eqb node node refl))

  pub second_rest : (q : ℕ)
      → lookup (nat_eq q) (fs ++ all_new ls) ≡ (if nat_eq node q then None else lookup (nat_eq q) (es ++ all_new ks))
  second_rest q = last_less (fs ++ all_new ls) node None q without_second.1
      ∙ ap (λ (l : List (ℕ × Option Known)). if nat_eq node q then None else lookup (nat_eq q) l) (sym is_second)

-- or none
pub none_took : {X : Type 0} (node : ℕ) (es fs : List (ℕ × X)) → lookup (nat_eq node) es ≡ None
    → lookup (nat_eq node) fs ≡ None → lookup (nat_eq node) (es ++ fs) ≡ None
none_took node es fs first second = look_after node es fs first ∙ second

pub none_rest : {X : Type 0} (node : ℕ) (es fs : List (ℕ × X)) → lookup (nat_eq node) es ≡ None → fs ≡ es → (q : ℕ)
    → lookup (nat_eq q) fs ≡ (if nat_eq node q then None else lookup (nat_eq q) es)
none_rest node es fs none same q = ap (lookup (nat_eq q)) same ∙ elim (eqb_tells node q) [
  | inl s ↦ subst (λ (n : ℕ). lookup (nat_eq n) es ≡ None) s.1 none ∙ sym (cond-true _ _ _ s.0)
  | inr s ↦ sym (cond-false _ _ _ s.0)
]

-- what either list says is said
pub some_first : {X : Type 0} (q : ℕ) (es fs : List (ℕ × X)) → IsSome (lookup (nat_eq q) es)
    → IsSome (lookup (nat_eq q) (es ++ fs))
some_first {X = X} q es fs some = ap is_some (look_both q es fs) ∙ either (lookup (nat_eq q) es) some
  where
    either : (o : Option X) → IsSome o → IsSome (option_or o (lookup (nat_eq q) fs))
    either None h = absurd (true≢false (sym h))
    either (Some x) h = refl

pub some_second : {X : Type 0} (q : ℕ) (es fs : List (ℕ × X)) → IsSome (lookup (nat_eq q) fs)
    → IsSome (lookup (nat_eq q) (es ++ fs))
some_second {X = X} q es fs some = ap is_some (look_both q es fs) ∙ either (lookup (nat_eq q) es)
  where
    either : (o : Option X) → IsSome (option_or o (lookup (nat_eq q) fs))
    either None = some
    either (Some x) = refl

-- an entry is put into the first list
module _ (es fs ns : List (ℕ × Option Known)) (node : ℕ) (v : Option Known)
    (none : lookup (nat_eq node) (es ++ ns) ≡ None) (items : fs ≡ es ++ (node, v) ∷ []) where
  is_put : fs ++ ns ≡ es ++ (node, v) ∷ ns
  is_put = ap (λ (l : List (ℕ × Option Known)). l ++ ns) items ∙ was_last es node v ns

  pub put_first : (q : ℕ)
      → lookup (nat_eq q) (fs ++ ns) ≡ (if nat_eq node q then Some v else lookup (nat_eq q) (es ++ ns))
  put_first q = ap (lookup (nat_eq q)) is_put ∙ found_more es ns node v q none

  pub put_first_once : IsOnce (es ++ ns) → IsOnce (fs ++ ns)
  put_first_once once = subst (λ (l : List (ℕ × Option Known)). IsOnce l) (sym is_put)
      (once_more es ns node v none once)

-- or into the second
module _ (es : List (ℕ × Option Known)) (ks ls : List ℕ) (node : ℕ)
    (none : lookup (nat_eq node) (es ++ all_new ks) ≡ None) (items : ls ≡ ks ++ node ∷ []) where
  is_put_new : es ++ all_new ls ≡ (es ++ all_new ks) ++ (node, None) ∷ []
  is_put_new = ap (λ (l : List ℕ). es ++ all_new l) items ∙ new_last es ks node

  none_yet : lookup (nat_eq node) ((es ++ all_new ks) ++ []) ≡ None
  none_yet = ap (lookup (nat_eq node)) (append-nil (es ++ all_new ks)) ∙ none

  pub put_second : (q : ℕ)
      → lookup (nat_eq q) (es ++ all_new ls) ≡ (if nat_eq node q then Some None
      else lookup (nat_eq q) (es ++ all_new ks))
  put_second q = ap (lookup (nat_eq q)) is_put_new ∙ last_more (es ++ all_new ks) node None q none

  pub put_second_once : IsOnce (es ++ all_new ks) → IsOnce (es ++ all_new ls)
  put_second_once once =
      let whole = subst (λ (l : List (ℕ × Option Known)). IsOnce l) (sym (append-nil (es ++ all_new ks))) once in
      subst (λ (l : List (ℕ × Option Known)). IsOnce l) (sym is_put_new)
      (once_more (es ++ all_new ks) [] node None none_yet whole)

-- the largest number that is left is merged
module _ (ms ns rs ss : List (ℕ × Option Known)) (node : ℕ) (v : Option Known)
    (put : (q : ℕ) → lookup (nat_eq q) ns ≡ (if nat_eq node q then Some v else lookup (nat_eq q) ms))
    (rest : (q : ℕ) → lookup (nat_eq q) ss ≡ (if nat_eq node q then None else lookup (nat_eq q) rs)) where
  pub step_apart : AreApart ms rs → AreApart ns ss
  step_apart apart q some = elim (eqb_tells node q) [
    | inl s ↦ rest q ∙ cond-true _ _ _ s.0
    | inr s ↦ rest q ∙ cond-false _ _ _ s.0 ∙ apart q (ap is_some (sym (put q ∙ cond-false _ _ _ s.0)) ∙ some)
  ]

  said_still : lookup (nat_eq node) rs ≡ Some v → lookup (nat_eq node) ms ≡ None → (q : ℕ)
      → option_or (lookup (nat_eq q) ns) (lookup (nat_eq q) ss) ≡ option_or (lookup (nat_eq q) ms)
      (lookup (nat_eq q) rs)
  said_still value none q = elim (eqb_tells node q) [
    | inl s ↦ ap (λ (x : Option (Option Known)). option_or x (lookup (nat_eq q) ss)) (put q ∙ cond-true _ _ _ s.0)
        ∙ sym (ap (λ (x : Option (Option Known)). option_or x (lookup (nat_eq q) rs))
        (subst (λ (n : ℕ). lookup (nat_eq n) ms ≡ None) s.1 none)
        ∙ subst (λ (n : ℕ). lookup (nat_eq n) rs ≡ Some v) s.1 value)
    | inr s ↦ ap (λ (x : Option (Option Known)). option_or x (lookup (nat_eq q) ss)) (put q ∙ cond-false _ _ _ s.0)
        ∙ ap (option_or (lookup (nat_eq q) ms)) (rest q ∙ cond-false _ _ _ s.0)
  ]

  pub step_same : lookup (nat_eq node) rs ≡ Some v → lookup (nat_eq node) ms ≡ None
      → map.from_entries {R = nat_cmp} (ns ++ ss) ≡ map.from_entries (ms ++ rs)
  step_same value none = map.same_map nat_cmp_total nat_anti (map.from_entries (ns ++ ss))
      (map.from_entries (ms ++ rs)) (λ q.
      get_images (ns ++ ss) q ∙ look_both q ns ss ∙ said_still value none q ∙ sym (look_both q ms rs)
      ∙ sym (get_images (ms ++ rs) q))

-- what is left of two lists without a number
pub rest_both : {X : Type 0} (es fs os ls : List (ℕ × X)) (node : ℕ)
    → ((q : ℕ) → lookup (nat_eq q) os ≡ (if nat_eq node q then None else lookup (nat_eq q) es))
    → ((q : ℕ) → lookup (nat_eq q) ls ≡ (if nat_eq node q then None else lookup (nat_eq q) fs)) → (q : ℕ)
    → lookup (nat_eq q) (os ++ ls) ≡ (if nat_eq node q then None else lookup (nat_eq q) (es ++ fs))
rest_both {X = X} es fs os ls node one other q = look_both q os ls
    ∙ ap (λ (x : Option X). option_or x (lookup (nat_eq q) ls)) (one q)
    ∙ ap (option_or (if nat_eq node q then None else lookup (nat_eq q) es)) (other q) ∙ go (nat_eq node q)
    ∙ ap (λ (x : Option X). if nat_eq node q then None else x) (sym (look_both q es fs))
  where
    go : (b : Bool) → option_or (if b then None else lookup (nat_eq q) es) (if b then None else lookup (nat_eq q) fs)
        ≡ (if b then None else option_or (lookup (nat_eq q) es) (lookup (nat_eq q) fs))
    go true = refl
    go false = refl

-- a number of which something is left is not merged
pub not_merged : (ms rs : List (ℕ × Option Known)) (node : ℕ) (v : Option Known) → AreApart ms rs
    → lookup (nat_eq node) rs ≡ Some v → lookup (nat_eq node) ms ≡ None
not_merged ms rs node v apart value = go (lookup (nat_eq node) ms) refl
  where
    go : (o : Option (Option Known)) → lookup (nat_eq node) ms ≡ o → o ≡ None
    go None is = refl
    go (Some x) is = let gone = apart node (ap is_some is) in let bad : None ≡ Some v = sym gone ∙ value in cc

-- the first of two entries says what is said
pub said_first : (older later : Option Entry) (entry : Entry) (es fs : List (ℕ × Option Known)) (node : ℕ)
    → option_or older later ≡ Some entry
    → option_map entry_image older ≡ lookup (nat_eq node) es → option_map entry_image later ≡ lookup (nat_eq node) fs
    → lookup (nat_eq node) (es ++ fs) ≡ Some (entry_image entry)
said_first older later entry es fs node is one other = look_both node es fs ∙ sym (ap₂ option_or one other)
    ∙ sym (mapped older) ∙ ap (option_map entry_image) is
  where
    mapped : (o : Option Entry)
        → option_map entry_image (option_or o later) ≡ option_or (option_map entry_image o)
        (option_map entry_image later)
    mapped None = refl
    mapped (Some e) = refl

pub few_changed : (older later : Option Entry)
    → changed_in (option_or older later) ≤ changed_in older + changed_in later
few_changed None later = omega arith
few_changed (Some e) later = omega arith

pub few_added : (older later : Option Entry) → added_in (option_or older later) ≤ added_in older + added_in later
few_added None later = omega arith
few_added (Some e) later = omega arith

-- nothing is left where nothing is said
nothing_in : {X : Type 0} (es : List (ℕ × X)) → ((q : ℕ) → lookup (nat_eq q) es ≡ None) → length es ≡ 0
nothing_in [] none = refl
nothing_in (e ∷ es) none = let there = is_there (e ∷ es) 0 e (omega arith) in
    absurd (true≢false (sym there ∙ ap is_some (none e.0)))

lengths_in : (lists : SortedImages) → length (all_in lists) ≡ count_in lists
lengths_in lists = length-append lists.changed.items (all_new lists.added.items)
    ∙ ap (λ (n : ℕ). length lists.changed.items + n) (length-map lists.added.items (λ k. (k, None)))

pub none_left : (lists : SortedImages) → ((q : ℕ) → lookup (nat_eq q) (all_in lists) ≡ None) → count_in lists ≡ 0
none_left lists none = sym (lengths_in lists) ∙ nothing_in (all_in lists) none

pub none_listed : (lists : SortedImages) → all_in lists ≡ [] → count_in lists ≡ 0
none_listed lists none = sym (lengths_in lists) ∙ ap length none

-- where nothing is left
pub all_merged : (merged older later : SortedImages) (images : ImageMap) → count_in older + count_in later ≡ 0
    → images ≡ map.from_entries (all_in merged)
    → images ≡ map.from_entries (all_in merged ++ (all_in older ++ all_in later))
all_merged merged older later images none is =
    let one : all_in older ≡ [] = nil_from_length (all_in older) (omega (arith, lengths_in older, none)) in
    let other : all_in later ≡ [] = nil_from_length (all_in later) (omega (arith, lengths_in later, none)) in
    let same : all_in merged ++ (all_in older ++ all_in later) ≡ all_in merged
    = ap₂ (λ (x y : List (ℕ × Option Known)). all_in merged ++ (x ++ y)) one other ∙ append-nil (all_in merged) in
    subst (λ (es : List (ℕ × Option Known)). images ≡ map.from_entries es) (sym same) is

-- the last of some numbers
pub new_end : (ks : List ℕ) (n : ℕ) → 0 < length ks → n ≡ get_or ks (length ks - 1) n → IsEnd (all_new ks) (n + 1)
new_end ks n some is =
    let entry : ℕ → ℕ × Option Known = λ k. (k, None) in
    let long : length (all_new ks) ≡ length ks = length-map ks entry in
    record {
      none = λ e. absurd (omega (arith, e));
      some = λ d l. (
        omega (arith, some, long),
        ap (λ (i : ℕ). entry_number (get_or (all_new ks) (i - 1) d) + 1) long
            ∙ ap (λ (e : ℕ × Option Known). e.0 + 1) (get_or-map entry ks (length ks - 1) n d (omega (arith, some)))
            ∙ ap (λ (k : ℕ). k + 1) (sym is),
      );
    }

-- lists that are sorted rise
new_number : (ks : List ℕ) (i : ℕ) (d : ℕ × Option Known) → entry_number (get_or (all_new ks) i d) ≡ get_or ks i d.0
new_number [] i d = refl
new_number (k ∷ ks) zero d = refl
new_number (k ∷ ks) (suc i) d = new_number ks i d

new_rise : (ks : List ℕ) → IsNonDecreasingBy (λ k. k) ks → IsNonDecreasingBy entry_number (all_new ks)
new_rise ks rise = λ i j d l within.
    subst (λ (n : ℕ). n ≤ entry_number (get_or (all_new ks) j d)) (sym (new_number ks i d))
    (subst (λ (n : ℕ). get_or ks i d.0 ≤ n) (sym (new_number ks j d))
    (rise i j d.0 l (subst (λ (n : ℕ). j < n) (length-map ks (λ k. (k, None))) within)))

pub sorted_rise : (changed : List (ℕ × Option Known)) (added : List ℕ) → IsSortedByKey entry_number nat_cmp changed
    → IsSorted nat_cmp added
    → IsNonDecreasingBy entry_number changed × IsNonDecreasingBy entry_number (all_new added)
sorted_rise changed added first second
    = (
      IsNonDecreasingBy-from_sort entry_number changed first,
      new_rise added (IsNonDecreasingBy-from_sort (λ k. k) added second),
    )

-- what images put over others say
pub taken_in : (older later both : ImageMap) (es fs : List (ℕ × Option Known)) (q : ℕ) → map.from_entries es ≡ older
    → map.from_entries fs ≡ later → both ≡ map.from_entries (es ++ fs)
    → map.get both q ≡ option_or (map.get older q) (map.get later q)
taken_in older later both es fs q one other is =
    ap (λ (m : ImageMap). map.get m q) is ∙ get_images (es ++ fs) q ∙ look_both q es fs
    ∙ ap₂ option_or (looked older es q (lookup (nat_eq q) es) one refl)
    (looked later fs q (lookup (nat_eq q) fs) other refl)
