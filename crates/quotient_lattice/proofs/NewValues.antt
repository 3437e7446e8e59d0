-- A class that specializes another is a child of it just where each of its new values leads to it.
use Rattle.std.proofs.Common.{◌≡◌, ◌≢◌, ℕ, zero, suc, ◌+◌, ◌-◌, ◌<◌, Bool, true, Option, Some, None, List, [], ◌∷◌, filter, length, is_some}
use Rattle.std.proofs.Common.{refl, sym, ap, ap₂, ◌∙◌, subst, arith, true≢false, inl}
use Rattle.std.specs.Prelude.{slice_get}
use Rattle.std.proofs.lemmas.Bool.{and_parts}
use Rattle.std.proofs.lemmas.List.{length-map}
use Rattle.std.proofs.lemmas.Option.{slice_get_within}
use Rattle.std.specs.List.{range_with_len}
use Rattle.std.specs.Ordering.{nat_cmp, eq_by_cmp}
use Rattle.cube_defs.specs.Cell.{Cell, leq, with_value}
use Rattle.cube_defs.specs.Rows.{closure}
use Rattle.cube_laws.specs.Lists.{Among}
use Rattle.cube_laws.specs.Parts.{value_count}
use Rattle.cube_laws.proofs.CallerLemmas.{closure_idem, leq-closure, option_eq-is, all_at, all_from, all_passed, among_filter, filter_all}
use Rattle.cube_laws.proofs.CallerLemmas.{filter_among, filter_filter, filter_same, map-filter, code_equality, leq_with_any, leq_trans}
use Rattle.tree_laws.proofs.CallerLemmas.{among_range}
use Rattle.tree_search.specs.Found.{TreeRows}
use Rattle.cells_below.proofs.CallerLemmas.{closed, range-shift}
use Rattle.quotient_lattice.specs.ValuesLead.{AllValuesLead}
use Rattle.quotient_lattice.specs.Candidates.{lead_count, leads_by, leads_to, new_value}

-- a value that is new
new_is : (e f : Option (Option ℕ)) (v : ℕ) → new_value e f ≡ Some v → (e ≡ Some None) × (f ≡ Some (Some v))
new_is None f v h = cc
new_is (Some (Some w)) f v h = cc
new_is (Some None) None v h = cc
new_is (Some None) (Some e) v h = (refl, ap (λ x. Some x) h)

new_at : (u d : Cell ℕ) (i v : ℕ) → slice_get u i ≡ Some None → slice_get d i ≡ Some (Some v)
    → new_value (slice_get u i) (slice_get d i) ≡ Some v
new_at u d i v e f = ap₂ new_value e f

abbrev is_new : Cell ℕ → Cell ℕ → ℕ → Bool
is_new u d i = is_some (new_value (slice_get u i) (slice_get d i))

abbrev news : Cell ℕ → Cell ℕ → ℕ → ℕ
news u d n = length (filter (is_new u d) (range_with_len 0 n))

-- a test of a range at the numbers that are one less
count-shift : (p q : ℕ → Bool) (n : ℕ) → ((i : ℕ) → p (suc i) ≡ q i)
    → length (filter p (range_with_len (0 + 1) n)) ≡ length (filter q (range_with_len 0 n))
count-shift p q n same =
    let e : 0 + 1 ≡ 1 + 0 = omega arith in
    ap (λ a. length (filter p (range_with_len a n))) e
    ∙ ap (λ xs. length (filter p xs)) (range-shift 1 0 n)
    ∙ ap length (sym (map-filter (λ m. 1 + m) p (range_with_len 0 n)))
    ∙ length-map (filter (λ m. p (1 + m)) (range_with_len 0 n)) (λ m. 1 + m)
    ∙ ap length (filter_same (λ m. p (1 + m)) q (range_with_len 0 n)
    (all_from _ (range_with_len 0 n) (λ i m. let s : 1 + i ≡ suc i = omega arith in ap p s ∙ same i)))

-- a cell that specializes another has its values and the new ones
pub news_count : (u d : Cell ℕ) → leq (eq_by_cmp nat_cmp) u d ≡ true → length u ≡ length d
    → news u d (length u) + value_count u ≡ value_count d
news_count [] [] h l = refl
news_count [] (f ∷ d) h l = absurd (omega arith)
news_count (e ∷ u) [] h l = absurd (omega arith)
news_count (None ∷ u) (None ∷ d) h l
    = omega (
      arith,
      count-shift (is_new (None ∷ u) (None ∷ d)) (is_new u d) (length u) (λ i. refl),
      news_count u d h (omega arith),
    )
news_count (None ∷ u) (Some w ∷ d) h l
    = omega (
      arith,
      count-shift (is_new (None ∷ u) (Some w ∷ d)) (is_new u d) (length u) (λ i. refl),
      news_count u d h (omega arith),
    )
news_count (Some v ∷ u) (None ∷ d) h l = absurd (true≢false (sym h))
news_count (Some v ∷ u) (Some w ∷ d) h l =
    omega (
      arith,
      count-shift (is_new (Some v ∷ u) (Some w ∷ d)) (is_new u d) (length u) (λ i. refl),
      news_count u d (and_parts (eq_by_cmp nat_cmp v w) _ h).1 (omega arith),
    )

-- and with no new ones it is the same
pub only_same : (u d : Cell ℕ) → leq (eq_by_cmp nat_cmp) u d ≡ true → length u ≡ length d
    → value_count u ≡ value_count d → u ≡ d
only_same [] [] h l c = refl
only_same [] (f ∷ d) h l c = absurd (omega arith)
only_same (e ∷ u) [] h l c = absurd (omega arith)
only_same (None ∷ u) (None ∷ d) h l c = ap (λ x. None ∷ x) (only_same u d h (omega arith) c)
only_same (None ∷ u) (Some w ∷ d) h l c = let m = news_count u d h (omega arith) in absurd (omega arith)
only_same (Some v ∷ u) (None ∷ d) h l c = absurd (true≢false (sym h))
only_same (Some v ∷ u) (Some w ∷ d) h l c =
    let p = and_parts (eq_by_cmp nat_cmp v w) _ h in
    ap₂ (λ x y. Some x ∷ y) (code_equality.exact v w p.0) (only_same u d p.1 (omega arith) (omega arith))

module _ (source : TreeRows) (u d : Cell ℕ) where
  -- a value that leads, and back
  pub record Leads (i : ℕ) : Type 0 where
    pub value : ℕ
    pub any : slice_get u i ≡ Some None
    pub has : slice_get d i ≡ Some (Some value)
    pub home : closure (eq_by_cmp nat_cmp) source.rows (with_value u i value) ≡ Some d

  pub leads_is : (i : ℕ) → leads_to source u d i ≡ true → Leads i
  leads_is i h = go (new_value (slice_get u i) (slice_get d i)) refl h
    where
      go : (o : Option ℕ) → new_value (slice_get u i) (slice_get d i) ≡ o → leads_by source u d i o ≡ true → Leads i
      go None e h = absurd (true≢false (sym h))
      go (Some v) e h = let p = new_is (slice_get u i) (slice_get d i) v e in
          record { value = v; any = p.0; has = p.1; home = closed source d (with_value u i v) h }

  pub leads-from : (i v : ℕ) → slice_get u i ≡ Some None → slice_get d i ≡ Some (Some v)
      → closure (eq_by_cmp nat_cmp) source.rows (with_value u i v) ≡ Some d → leads_to source u d i ≡ true
  leads-from i v e f home = ap (leads_by source u d i) (new_at u d i v e f)
      ∙ (option_eq-is code_equality (closure (eq_by_cmp nat_cmp) source.rows (with_value u i v)) d).1 home

  leads_new : (i : ℕ) → leads_to source u d i ≡ true → is_new u d i ≡ true
  leads_new i h = let l = leads_is i h in ap is_some (new_at u d i l.value l.any l.has)

  -- where a value leads, the class is another that specializes it
  pub led_above : (i : ℕ) → Leads i → leq (eq_by_cmp nat_cmp) u d ≡ true
  led_above i l = leq_trans code_equality u (with_value u i l.value) d (leq_with_any code_equality u i l.value l.any)
      (leq-closure code_equality source.rows (with_value u i l.value) d l.home)

  pub led_other : (i : ℕ) → Leads i → u ≢ d
  led_other i l e = let q : Some None ≡ Some (Some l.value) = sym l.any ∙ ap (λ c. slice_get c i) e ∙ l.has in cc

  pub led_own : (i : ℕ) → Leads i → closure (eq_by_cmp nat_cmp) source.rows d ≡ Some d
  led_own i l = closure_idem code_equality source.rows (with_value u i l.value) d l.home

  module _ (n : ℕ) (long : length u ≡ n) where
    -- the count of all values that lead
    all_leads : (k : ℕ) → lead_count source u d 0 n ≡ length (filter (leads_to source u d) (range_with_len 0 n))
    all_leads k = let e : n - 0 ≡ n = omega arith in
        ap (λ m. length (filter (leads_to source u d) (range_with_len 0 m))) e

    pub one_leads : 0 < lead_count source u d 0 n → (i : ℕ) × Leads i
    one_leads h = go (filter (leads_to source u d) (range_with_len 0 (n - 0))) refl h
      where
        go : (xs : List ℕ) → filter (leads_to source u d) (range_with_len 0 (n - 0)) ≡ xs → 0 < length xs
            → (i : ℕ) × Leads i
        go [] e h = absurd (omega arith)
        go (i ∷ xs) e h =
            let m : Among i (filter (leads_to source u d) (range_with_len 0 (n - 0)))
            = subst (Among i) (sym e) (inl refl) in
            (i, leads_is i (filter_among (leads_to source u d) i (range_with_len 0 (n - 0)) m).1)

    module _ (low : leq (eq_by_cmp nat_cmp) u d ≡ true) (same : length d ≡ n) where
      new : news u d n + value_count u ≡ value_count d
      new = subst (λ m. news u d m + value_count u ≡ value_count d) long (news_count u d low (long ∙ sym same))

      chosen : filter (leads_to source u d) (filter (is_new u d) (range_with_len 0 n)) ≡ filter (leads_to source u d)
          (range_with_len 0 n)
      chosen = filter_filter (leads_to source u d) (is_new u d) (range_with_len 0 n) leads_new

      -- as many as there are new values: then each leads home
      pub count_home : lead_count source u d 0 n + value_count u ≡ value_count d → AllValuesLead source.rows u d
      count_home h i v none some =
          let full : length (filter (leads_to source u d) (filter (is_new u d) (range_with_len 0 n)))
          ≡ length (filter (is_new u d) (range_with_len 0 n))
          = ap length chosen ∙ omega (arith, all_leads 0, new, h) in
          let within = slice_get_within u i None none in
          let m : Among i (filter (is_new u d) (range_with_len 0 n))
          = among_filter (is_new u d) i (range_with_len 0 n)
          ((among_range i 0 n).1 (omega arith, omega (arith, long))) (ap is_some (new_at u d i v none some)) in
          let l : leads_to source u d i ≡ true
          = all_at (λ i. leads_to source u d i ≡ true) i (filter (is_new u d) (range_with_len 0 n))
          (all_passed (leads_to source u d) (filter (is_new u d) (range_with_len 0 n)) full) m in
          let r = leads_is i l in
          let own : Some (Some r.value) ≡ Some (Some v) = sym r.has ∙ some in
          let e : r.value ≡ v = cc in
          subst (λ w. closure (eq_by_cmp nat_cmp) source.rows (with_value u i w) ≡ Some d) e r.home

      pub home_count : AllValuesLead source.rows u d → lead_count source u d 0 n + value_count u ≡ value_count d
      home_count h =
          let every : filter (leads_to source u d) (filter (is_new u d) (range_with_len 0 n)) ≡ filter (is_new u d)
          (range_with_len 0 n)
          = filter_all (leads_to source u d) (filter (is_new u d) (range_with_len 0 n))
          (all_from _ (filter (is_new u d) (range_with_len 0 n))
          (λ i m. one i (filter_among (is_new u d) i (range_with_len 0 n) m).1)) in
          omega (arith, all_leads 0, new, ap length (sym chosen ∙ every))
        where
          one : (i : ℕ) → is_new u d i ≡ true → leads_to source u d i ≡ true
          one i e = go (new_value (slice_get u i) (slice_get d i)) refl e
            where
              go : (o : Option ℕ) → new_value (slice_get u i) (slice_get d i) ≡ o → is_some o ≡ true
                  → leads_to source u d i ≡ true
              go None q e = absurd (true≢false (sym e))
              go (Some v) q e = let p = new_is (slice_get u i) (slice_get d i) v q in
                  leads-from i v p.0 p.1 (h i v p.0 p.1)

      -- one value more, where there is another class
      pub some_new : AllValuesLead source.rows u d → u ≢ d → 0 < lead_count source u d 0 n
      some_new h ne = go (lead_count source u d 0 n) refl
        where
          go : (c : ℕ) → lead_count source u d 0 n ≡ c → 0 < lead_count source u d 0 n
          go (suc c) e = omega arith
          go zero e = absurd (ne (only_same u d low (long ∙ sym same) (omega (arith, home_count h, e))))
