-- A key comes into keys that rise, or goes out of them.
use Rattle.std.proofs.Common.{◌≡◌, ℕ, suc, ◌+◌, ◌-◌, ◌<◌, ◌≤◌, ◌++◌, Bool, true, false, refl, sym, ap, ap₂, ◌∙◌, ◌||◌, List, [], ◌∷◌, take}
use Rattle.std.proofs.Common.{drop, length, get_or, cond, arith, ltb-true, ltb-false}
use Rattle.std.specs.Prelude.{nat_lt}
use Rattle.std.specs.List.{insert, list_any, remove}
use Rattle.std.specs.List.Sorted.{IsSorted, IsStrictlySortedBy}
use Rattle.std.specs.declared.cmp.Ordering.{Ordering}
use Rattle.std.specs.declared.cmp.Ordering.TheVariants.{Less, Equal, Greater}
use Rattle.std.specs.Ordering.{eq_by_cmp, is_eq, is_gt, is_lt, ordering_reverse}
use Rattle.std.specs.Cmp.{IsTotalOrder, eq_by_cmp_equiv}
use Rattle.std.proofs.lemmas.Cmp.{alike_right}
use Rattle.std.proofs.lemmas.List.{drop_more, get_or_append_left, get_or-append-add, get_or-append_right, get_or_default, length-append}
use Rattle.std.proofs.lemmas.List.{take-append-drop}
use Rattle.std.proofs.lemmas.List.Edits.{get_or-insert_above, get_or-insert_at, get_or-insert_below, get_or-remove_above}
use Rattle.std.proofs.lemmas.List.Edits.{get_or-remove_below, length-insert, length-remove}
use Rattle.std.proofs.lemmas.List.Folds.{list_any_none, list_any-append}
use Rattle.std.proofs.lemmas.Map.Keys.{Less-from_sorted, sorted_from_all_adjacent}
use Rattle.measure_index.specs.Keys.{IsPlace, among}
use Rattle.measure_index.proofs.KeyLemmas.{at_place, greater, past_all}

is_less_back : (a : Ordering) → a ≡ Less → is_lt (ordering_reverse a) ≡ false
is_less_back a e = ap (λ r. is_lt (ordering_reverse r)) e

-- neither less nor equal, the other way round
turned_less : (a : Ordering) → is_lt a ≡ false → is_eq a ≡ false → ordering_reverse a ≡ Less
turned_less Less l e = cc
turned_less Equal l e = cc
turned_less Greater l e = refl

not_eq_less : (a : Ordering) → a ≡ Less → is_eq a ≡ false
not_eq_less a e = ap is_eq e

not_eq_back : (a : Ordering) → a ≡ Less → is_eq (ordering_reverse a) ≡ false
not_eq_back a e = ap (λ r. is_eq (ordering_reverse r)) e

module _ {K : Type 0} {cmp : K → K → Ordering} (o : IsTotalOrder cmp) where
  pub sorted_of : (xs : List K) → IsStrictlySortedBy cmp xs → IsSorted cmp xs
  sorted_of xs s k d low high =
      ap is_lt (o.antisymm (get_or xs (k + 1) d) (get_or xs k d))
      ∙ is_less_back (cmp (get_or xs k d) (get_or xs (k + 1) d)) (Less-from_sorted cmp xs k (k + 1) d s (omega arith) high)

  module _ (xs : List K) (g : ℕ) (q : K) (s : IsStrictlySortedBy cmp xs) (is : IsPlace cmp xs q g)
      (lacks : among cmp xs q ≡ false) where
    inserted_step : (k : ℕ) → k + 1 < length (insert xs g q)
        → cmp (get_or (insert xs g q) k q) (get_or (insert xs g q) (k + 1) q) ≡ Less
    inserted_step k l = split (nat_lt (k + 1) g) refl (nat_lt k g) refl (nat_lt g k) refl
      where
        within : g ≤ length xs
        within = is.within

        shorter : k < length xs
        shorter = let more = length-insert xs g q is.within in omega (arith, more, l)

        split : (a : Bool) → nat_lt (k + 1) g ≡ a → (b : Bool) → nat_lt k g ≡ b → (c : Bool) → nat_lt g k ≡ c
            → cmp (get_or (insert xs g q) k q) (get_or (insert xs g q) (k + 1) q) ≡ Less
        split true a b b' c c' =
            let before : k + 1 < g = ltb-true _ _ a in
            ap₂ cmp (get_or-insert_below xs g q q k (omega (arith, before)) within)
            (get_or-insert_below xs g q q (k + 1) before within)
            ∙ Less-from_sorted cmp xs k (k + 1) q s (omega arith) (omega (arith, before, within))
        split false a true b c c' =
            let after : g ≤ k + 1 = ltb-false _ _ a in
            let before : k < g = ltb-true _ _ b in
            let here : g ≡ k + 1 = omega (arith, after, before) in
            let last : k ≡ g - 1 = omega (arith, here) in
            ap₂ cmp (get_or-insert_below xs g q q k before within ∙ ap (λ (i : ℕ). get_or xs i q) last)
            (ap (λ (i : ℕ). get_or (insert xs g q) i q) (sym here) ∙ get_or-insert_at xs g q q within)
            ∙ is.less q (omega (arith, before))
        split false a false b true c =
            let after : g < k = ltb-true _ _ c in
            let one : (k - 1) + 1 ≡ k = omega (arith, after) in
            ap₂ cmp (ap (λ (i : ℕ). get_or (insert xs g q) i q) (sym one)
            ∙ get_or-insert_above xs g q q (k - 1) (omega (arith, after)) within)
            (get_or-insert_above xs g q q k (omega (arith, after)) within)
            ∙ Less-from_sorted cmp xs (k - 1) k q s (omega (arith, after)) shorter
        split false a false b false c =
            let here : g ≡ k = omega (arith, ltb-false _ _ b, ltb-false _ _ c) in
            let inside : g < length xs = omega (arith, here, shorter) in
            ap₂ cmp (ap (λ (i : ℕ). get_or (insert xs g q) i q) (sym here) ∙ get_or-insert_at xs g q q within)
            (get_or-insert_above xs g q q k (omega (arith, here)) within
            ∙ ap (λ (i : ℕ). get_or xs i q) (sym here))
            ∙ o.antisymm q (get_or xs g q)
            ∙ turned_less (cmp (get_or xs g q) q) (is.others q inside)
            (at_place o xs q g (sorted_of xs s) is q inside ∙ lacks)

    pub insert_rises : IsStrictlySortedBy cmp (insert xs g q)
    insert_rises = sorted_from_all_adjacent o (insert xs g q) q inserted_step

  pub has_inserted : (xs : List K) (g : ℕ) (k q : K)
      → list_any (eq_by_cmp cmp q) (insert xs g k) ≡ cond (eq_by_cmp cmp k q) true (list_any (eq_by_cmp cmp q) xs)
  has_inserted xs g k q =
      list_any-append (eq_by_cmp cmp q) (take g xs) (k ∷ drop g xs)
      ∙ ap (λ b. list_any (eq_by_cmp cmp q) (take g xs) || (b || list_any (eq_by_cmp cmp q) (drop g xs)))
      ((eq_by_cmp_equiv o).symm q k)
      ∙ table (eq_by_cmp cmp k q) (list_any (eq_by_cmp cmp q) (take g xs)) (list_any (eq_by_cmp cmp q) (drop g xs))
      ∙ ap (cond (eq_by_cmp cmp k q) true) (sym (list_any-append (eq_by_cmp cmp q) (take g xs) (drop g xs))
      ∙ ap (list_any (eq_by_cmp cmp q)) (take-append-drop g xs))
    where
      table : (e a b : Bool) → (a || (e || b)) ≡ cond e true (a || b)
      table true true b = refl
      table true false b = refl
      table false true b = refl
      table false false b = refl

  module _ (xs : List K) (g : ℕ) (s : IsStrictlySortedBy cmp xs) (within : g < length xs) where
    removed_step : (d : K) (k : ℕ) → k + 1 < length (remove xs g)
        → cmp (get_or (remove xs g) k d) (get_or (remove xs g) (k + 1) d) ≡ Less
    removed_step d k l = split (nat_lt (k + 1) g) refl (nat_lt k g) refl
      where
        longer : k + 2 < length xs
        longer = let more = length-remove xs g within in omega (arith, more, l)

        split : (a : Bool) → nat_lt (k + 1) g ≡ a → (b : Bool) → nat_lt k g ≡ b
            → cmp (get_or (remove xs g) k d) (get_or (remove xs g) (k + 1) d) ≡ Less
        split true a b b' =
            let before : k + 1 < g = ltb-true _ _ a in
            ap₂ cmp (get_or-remove_below xs g d k (omega (arith, before)) within)
            (get_or-remove_below xs g d (k + 1) before within)
            ∙ Less-from_sorted cmp xs k (k + 1) d s (omega arith) (omega (arith, longer))
        split false a true b =
            let after : g ≤ k + 1 = ltb-false _ _ a in
            let before : k < g = ltb-true _ _ b in
            ap₂ cmp (get_or-remove_below xs g d k before within) (get_or-remove_above xs g d (k + 1) after within)
            ∙ Less-from_sorted cmp xs k (k + 1 + 1) d s (omega arith) (omega (arith, longer))
        split false a false b =
            let after : g ≤ k = ltb-false _ _ b in
            ap₂ cmp (get_or-remove_above xs g d k after within)
            (get_or-remove_above xs g d (k + 1) (omega (arith, after)) within)
            ∙ Less-from_sorted cmp xs (k + 1) (k + 1 + 1) d s (omega arith) (omega (arith, longer))

    some_key : (ys : List K) → g < length ys → K
    some_key [] l = absurd (omega (arith, l))
    some_key (y ∷ ys) l = y

    pub remove_rises : IsStrictlySortedBy cmp (remove xs g)
    remove_rises = sorted_from_all_adjacent o (remove xs g) (some_key xs within) (removed_step (some_key xs within))

    module _ (k q : K) (here : eq_by_cmp cmp (get_or xs g k) k ≡ true) where
      -- no other key equals it
      apart : (j : ℕ) (d : K) → j < length (remove xs g) → eq_by_cmp cmp k q ≡ true
          → eq_by_cmp cmp q (get_or (remove xs g) j d) ≡ false
      apart j d l e =
          sym ((eq_by_cmp_equiv o).congr k q (get_or (remove xs g) j d) e)
          ∙ sym ((eq_by_cmp_equiv o).congr (get_or xs g k) k (get_or (remove xs g) j d) here)
          ∙ split (nat_lt j g) refl
        where
          longer : j + 1 < length xs
          longer = let more = length-remove xs g within in omega (arith, more, l)

          split : (a : Bool) → nat_lt j g ≡ a → eq_by_cmp cmp (get_or xs g k) (get_or (remove xs g) j d) ≡ false
          split true a =
              let before : j < g = ltb-true _ _ a in
              ap (eq_by_cmp cmp (get_or xs g k)) (get_or-remove_below xs g d j before within
              ∙ get_or_default xs j d k (omega (arith, longer)))
              ∙ ap is_eq (o.antisymm (get_or xs g k) (get_or xs j k))
              ∙ not_eq_back (cmp (get_or xs j k) (get_or xs g k)) (Less-from_sorted cmp xs j g k s before within)
          split false a =
              let after : g ≤ j = ltb-false _ _ a in
              ap (eq_by_cmp cmp (get_or xs g k)) (get_or-remove_above xs g d j after within
              ∙ get_or_default xs (j + 1) d k longer)
              ∙ not_eq_less (cmp (get_or xs g k) (get_or xs (j + 1) k))
              (Less-from_sorted cmp xs g (j + 1) k s (omega (arith, after)) longer)

      next : suc g ≡ g + 1
      next = omega arith

      pub has_removed : list_any (eq_by_cmp cmp q) (remove xs g)
          ≡ cond (eq_by_cmp cmp k q) false (list_any (eq_by_cmp cmp q) xs)
      has_removed = split (eq_by_cmp cmp k q) refl
        where
          split : (e : Bool) → eq_by_cmp cmp k q ≡ e
              → list_any (eq_by_cmp cmp q) (remove xs g) ≡ cond e false (list_any (eq_by_cmp cmp q) xs)
          split true e = list_any_none (eq_by_cmp cmp q) (remove xs g) (λ j d l. apart j d l e)
          split false e =
              let x = get_or xs g k in
              let other : eq_by_cmp cmp q x ≡ false = (eq_by_cmp_equiv o).symm q x
              ∙ (eq_by_cmp_equiv o).congr x k q here ∙ e in
              list_any-append (eq_by_cmp cmp q) (take g xs) (drop (suc g) xs)
              ∙ ap (λ b. list_any (eq_by_cmp cmp q) (take g xs)
              || (b || list_any (eq_by_cmp cmp q) (drop (suc g) xs))) (sym other)
              ∙ ap (λ ys. list_any (eq_by_cmp cmp q) (take g xs) || list_any (eq_by_cmp cmp q) ys)
              (ap (λ (i : ℕ). x ∷ drop i xs) next ∙ sym (drop_more xs g k within))
              ∙ sym (list_any-append (eq_by_cmp cmp q) (take g xs) (drop g xs))
              ∙ ap (list_any (eq_by_cmp cmp q)) (take-append-drop g xs)

  -- the place of a key in one of three parts, where it stands not before and not after that part
  module _ (pre part post : List K) (q : K) (p : ℕ) (s : IsStrictlySortedBy cmp (pre ++ (part ++ post)))
      (is : IsPlace cmp part q p) (some : 0 < length part)
      (least : (d : K) → 0 < length pre → is_gt (cmp (get_or part 0 d) q) ≡ false)
      (above : (d : K) → 0 < length post → is_gt (cmp (get_or post 0 d) q) ≡ true) where
    abbrev all : List K
    all = pre ++ (part ++ post)

    long : length all ≡ length pre + (length part + length post)
    long = length-append pre (part ++ post) ∙ ap (λ (n : ℕ). length pre + n) (length-append part post)

    in_part : (k : ℕ) (d : K) → k < length part → get_or all (length pre + k) d ≡ get_or part k d
    in_part k d l = get_or-append-add pre (part ++ post) k d ∙ get_or_append_left part post d k l

    after_part : (d : K) → get_or all (length pre + length part) d ≡ get_or post 0 d
    after_part d =
        let none : length part - length part ≡ 0 = omega arith in
        get_or-append-add pre (part ++ post) (length part) d
        ∙ get_or-append_right part post (length part) (length part) d refl (omega arith)
        ∙ ap (λ (n : ℕ). get_or post n d) none

    equal_first : (d : K) → p ≡ 0 → 0 < length pre → cmp (get_or part 0 d) q ≡ Equal
    equal_first d e l = neither (cmp (get_or part 0 d) q) (least d l)
        (ap (λ (k : ℕ). is_lt (cmp (get_or part k d) q)) (sym e) ∙ is.others d (omega (arith, e, some)))
      where
        neither : (a : Ordering) → is_gt a ≡ false → is_lt a ≡ false → a ≡ Equal
        neither Less g l = cc
        neither Equal g l = refl
        neither Greater g l = cc

    before : (d : K) → 0 < length pre + p → (b : Bool) → nat_lt 0 p ≡ b
        → cmp (get_or all ((length pre + p) - 1) d) q ≡ Less
    before d l true b =
        let some_before : 0 < p = ltb-true _ _ b in
        let one : (length pre + p) - 1 ≡ length pre + (p - 1) = omega (arith, some_before) in
        let inside : p ≤ length part = is.within in
        ap (λ (k : ℕ). cmp (get_or all k d) q) one
        ∙ ap (λ x. cmp x q) (in_part (p - 1) d (omega (arith, some_before, inside))) ∙ is.less d some_before
    before d l false b =
        let first : p ≡ 0 = omega (arith, ltb-false _ _ b) in
        let one : (length pre + p) - 1 ≡ length pre - 1 = omega (arith, first) in
        let here : length pre ≡ length pre + 0 = omega arith in
        let earlier : 0 < length pre = omega (arith, first, l) in
        ap (λ (k : ℕ). cmp (get_or all k d) q) one
        ∙ sym (alike_right o (get_or part 0 d) q (get_or all (length pre - 1) d) (equal_first d first earlier))
        ∙ ap (cmp (get_or all (length pre - 1) d)) (sym (ap (λ (k : ℕ). get_or all k d) here ∙ in_part 0 d some))
        ∙ Less-from_sorted cmp all (length pre - 1) (length pre) d s (omega (arith, earlier))
        (omega (arith, long, some))

    others : (d : K) → length pre + p < length all → (b : Bool) → nat_lt p (length part) ≡ b
        → is_lt (cmp (get_or all (length pre + p) d) q) ≡ false
    others d l true b =
        let inside : p < length part = ltb-true _ _ b in
        ap (λ x. is_lt (cmp x q)) (in_part p d inside) ∙ is.others d inside
    others d l false b =
        let inside : p ≤ length part = is.within in
        let end : p ≡ length part = omega (arith, inside, ltb-false _ _ b) in
        let more : 0 < length post = omega (arith, l, long, end) in
        ap (λ (k : ℕ). is_lt (cmp (get_or all (length pre + k) d) q)) end
        ∙ ap (λ x. is_lt (cmp x q)) (after_part d) ∙ not_less (cmp (get_or post 0 d) q) (above d more)
      where
        not_less : (a : Ordering) → is_gt a ≡ true → is_lt a ≡ false
        not_less Less g = cc
        not_less Equal g = refl
        not_less Greater g = refl

    pub placed : IsPlace cmp all q (length pre + p)
    placed = record {
      within = let inside : p ≤ length part = is.within in omega (arith, long, inside);
      less = λ d l. before d l (nat_lt 0 p) refl;
      others = λ d l. others d l (nat_lt p (length part)) refl;
    }

    pub found_in : (d : K) → p < length part → is_eq (cmp (get_or part p d) q) ≡ among cmp all q
    found_in d l = ap (λ x. is_eq (cmp x q)) (sym (in_part p d l))
        ∙ at_place o all q (length pre + p) (sorted_of all s) placed d (omega (arith, long, l))

    pub not_found : length part ≤ p → among cmp all q ≡ false
    not_found l = split (nat_lt 0 (length post)) refl
      where
        is_greater : (a : Ordering) → is_gt a ≡ true → a ≡ Greater
        is_greater Less g = cc
        is_greater Equal g = cc
        is_greater Greater g = refl

        split : (b : Bool) → nat_lt 0 (length post) ≡ b → among cmp all q ≡ false
        split true b =
            let inside : p ≤ length part = is.within in
            let end : p ≡ length part = omega (arith, inside, l) in
            greater o all q (length pre + p) (sorted_of all s) placed q
            (ap (λ (k : ℕ). cmp (get_or all (length pre + k) q) q) end ∙ ap (λ x. cmp x q) (after_part q)
            ∙ is_greater (cmp (get_or post 0 q) q) (above q (ltb-true _ _ b)))
        split false b = past_all o all q (length pre + p) (sorted_of all s) placed
            (omega (arith, long, l, ltb-false _ _ b))
