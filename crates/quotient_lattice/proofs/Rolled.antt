-- The most general classes that are asked for are met on the way down, and those met that have no other met below are
-- just they.
use Rattle.std.proofs.Common.{◌≡◌, ◌≢◌, ◌⊎◌, ℕ, zero, suc, ◌+◌, ◌<◌, ◌≤◌, Bool, true, false, not, ◌&&◌, ◌||◌, List, [], ◌∷◌, length, refl}
use Rattle.std.proofs.Common.{sym, ap₂, ◌∙◌, subst, arith, true≢false, inl, inr}
use Rattle.std.specs.Cmp.{nat_cmp_total}
use Rattle.std.specs.FinMap as numbers
use Rattle.std.specs.List.{AllByRecursion, list_all}
use Rattle.std.specs.Ordering.{nat_cmp, eq_by_cmp}
use Rattle.std.proofs.lemmas.Bool.{and_parts, and_from}
use Rattle.cube_defs.specs.Answers as answers
use Rattle.cube_defs.specs.Cell.{Cell, cell_eq, leq}
use Rattle.cube_defs.specs.Rows.{Row, is_class}
use Rattle.cube_defs.specs.Tree.{classes}
use Rattle.cube_laws.specs.Lists.{Among}
use Rattle.cube_laws.specs.Parts.{value_count}
use Rattle.cube_laws.proofs.CallerLemmas.{cell_eq-exact, cell_eq-from, leq_refl, leq_trans, classes-is, covered-length, filter_among}
use Rattle.cube_laws.proofs.CallerLemmas.{code_equality}
use Rattle.quotient_lattice.specs.Neighbours.{is_apart, is_no_other, is_parent, is_rolled, qualifies}
use Rattle.quotient_lattice.proofs.Coded.{among_passes}
use Rattle.quotient_lattice.proofs.InOrder.{parent_above}
use Rattle.quotient_lattice.proofs.NewValues.{news_count, only_same}

-- a test that not all pass is failed by one
one_fails : {X : Type 0} (p : X → Bool) (xs : List X) → list_all p xs ≡ false → (x : X) × Among x xs × (p x ≡ false)
one_fails p [] h = absurd (true≢false h)
one_fails p (x ∷ xs) h = go (p x) refl h (one_fails p xs)
  where
    go : (b : Bool) → p x ≡ b → (b && list_all p xs) ≡ false
        → (list_all p xs ≡ false → (y : _) × Among y xs × (p y ≡ false)) → (y : _) × Among y (x ∷ xs) × (p y ≡ false)
    go true e h more = let r = more h in (r.0, inr r.1, r.2)
    go false e h more = (x, inl refl, e)

-- what fails not (a and b) or c
failed : (a b c : Bool) → (not (a && b) || c) ≡ false → (a ≡ true) × (b ≡ true) × (c ≡ false)
failed true true c h = (refl, refl, h)
failed true false c h = absurd (true≢false h)
failed false b c h = absurd (true≢false h)

neither : (a b : Bool) → (a || b) ≡ false → (a ≡ false) × (b ≡ false)
neither true b h = absurd (true≢false h)
neither false b h = (refl, h)

cases_le : (a b : ℕ) → (a ≤ b) ⊎ (b < a)
cases_le zero b = inl (omega arith)
cases_le (suc a) zero = inr (omega arith)
cases_le (suc a) (suc b) = elim (cases_le a b) [ inl l ↦ inl (omega arith) | inr l ↦ inr (omega arith) ]

module _ (dims : ℕ) (rows : List (Row ℕ)) (wide : AllByRecursion (λ row. length row.tuple ≡ dims) rows) where
  class_of : (c : Cell ℕ) → Among c (classes nat_cmp rows) → is_class (eq_by_cmp nat_cmp) rows c ≡ true
  class_of c = (classes-is nat_cmp_total numbers.nat_cmp-IsAntisymmetric rows dims wide c).0

  class_long : (c : Cell ℕ) → Among c (classes nat_cmp rows) → length c ≡ dims
  class_long c m = covered-length nat_cmp_total numbers.nat_cmp-IsAntisymmetric rows dims wide c
      (filter_among (is_class (eq_by_cmp nat_cmp) rows) c _ m).0

  -- another cell that generalizes it has fewer values
  pub fewer : (c d : Cell ℕ) → length c ≡ dims → length d ≡ dims → leq (eq_by_cmp nat_cmp) c d ≡ true → c ≢ d
      → value_count c < value_count d
  fewer c d k l low ne = go (cases_le (value_count d) (value_count c))
    where
      go : (value_count d ≤ value_count c) ⊎ (value_count c < value_count d) → value_count c < value_count d
      go (inl le) = let n = news_count c d low (k ∙ sym l) in
          absurd (ne (only_same c d low (k ∙ sym l) (omega (arith, n, le))))
      go (inr less) = less

  -- between a class and another that specializes it there is a child
  pub child_below : (fuel : ℕ) (c d : Cell ℕ) → Among c (classes nat_cmp rows) → Among d (classes nat_cmp rows)
      → leq (eq_by_cmp nat_cmp) c d ≡ true → c ≢ d → value_count d ≤ fuel
      → (e : Cell ℕ) × Among e (classes nat_cmp rows) × (is_parent nat_cmp rows c e ≡ true)
      × (leq (eq_by_cmp nat_cmp) e d ≡ true)
  child_below zero c d m n low ne le = let f = fewer c d (class_long c m) (class_long d n) low ne in
      absurd (omega arith)
  child_below (suc fuel) c d m n low ne le
      = go (child_below fuel c) (list_all (is_apart nat_cmp c d) (classes nat_cmp rows)) refl
    where
      other : (b : Bool) → cell_eq (eq_by_cmp nat_cmp) c d ≡ b → not b ≡ true
      other true e = absurd (ne (cell_eq-exact code_equality c d e))
      other false e = refl

      apart : (x y : Cell ℕ) → cell_eq (eq_by_cmp nat_cmp) x y ≡ false → x ≢ y
      apart x y f e = true≢false (sym (cell_eq-from code_equality x y e) ∙ f)

      go : ((d : Cell ℕ) → Among c (classes nat_cmp rows) → Among d (classes nat_cmp rows)
          → leq (eq_by_cmp nat_cmp) c d ≡ true → c ≢ d → value_count d ≤ fuel → (e : Cell ℕ)
          × Among e (classes nat_cmp rows) × (is_parent nat_cmp rows c e ≡ true) × (leq (eq_by_cmp nat_cmp) e d ≡ true))
          → (b : Bool) → list_all (is_apart nat_cmp c d) (classes nat_cmp rows) ≡ b → (e : Cell ℕ)
          × Among e (classes nat_cmp rows) × (is_parent nat_cmp rows c e ≡ true)
          × (leq (eq_by_cmp nat_cmp) e d ≡ true)
      go more true h = (
        d,
        n,
        and_from _ _ (and_from _ _ low (other (cell_eq (eq_by_cmp nat_cmp) c d) refl)) h,
        leq_refl code_equality d,
      )
      go more false h =
          let q : (q : Cell ℕ) × Among q (classes nat_cmp rows) × (is_apart nat_cmp c d q ≡ false)
          = one_fails (is_apart nat_cmp c d) (classes nat_cmp rows) h in
          let f = failed (leq (eq_by_cmp nat_cmp) c q.0) (leq (eq_by_cmp nat_cmp) q.0 d) _ q.2 in
          let t = neither (cell_eq (eq_by_cmp nat_cmp) q.0 c) (cell_eq (eq_by_cmp nat_cmp) q.0 d) f.2 in
          let less = fewer q.0 d (class_long q.0 q.1) (class_long d n) f.1 (apart q.0 d t.1) in
          let r : (e : Cell ℕ) × Among e (classes nat_cmp rows) × (is_parent nat_cmp rows c e ≡ true)
          × (leq (eq_by_cmp nat_cmp) e q.0 ≡ true)
          = more q.0 m q.1 f.0 (λ e. apart q.0 c t.0 (sym e)) (omega arith) in
          (r.0, r.1, r.2, leq_trans code_equality r.0 q.0 d r.3 f.1)

  module _ (measures : ℕ) (ask : answers.Ask) (u : Cell ℕ) where
    abbrev asks : Cell ℕ → Bool
    asks d = qualifies nat_cmp measures rows ask u d

    -- another class that generalizes it and qualifies, where there is one
    lower : (d : Cell ℕ) → list_all (is_no_other nat_cmp measures rows ask u d) (classes nat_cmp rows) ≡ false
        → (e : Cell ℕ) × Among e (classes nat_cmp rows) × (qualifies nat_cmp measures rows ask u e ≡ true)
        × (leq (eq_by_cmp nat_cmp) e d ≡ true) × (e ≢ d)
    lower d h =
        let e : (e : Cell ℕ) × Among e (classes nat_cmp rows) × (is_no_other nat_cmp measures rows ask u d e ≡ false)
        = one_fails (is_no_other nat_cmp measures rows ask u d) (classes nat_cmp rows) h in
        let f = failed (qualifies nat_cmp measures rows ask u e.0) (leq (eq_by_cmp nat_cmp) e.0 d) _ e.2 in
        (e.0, e.1, f.0, f.1, λ s. true≢false (sym (cell_eq-from code_equality e.0 d s) ∙ f.2))

    abbrev Below : Cell ℕ → Type 0
    Below d = (e : Cell ℕ) × Among e (classes nat_cmp rows) × (is_rolled nat_cmp measures rows ask u e ≡ true)
        × (leq (eq_by_cmp nat_cmp) e d ≡ true)

    -- each class that qualifies is generalized by a most general one
    pub most_general : (fuel : ℕ) (d : Cell ℕ) → Among d (classes nat_cmp rows)
        → qualifies nat_cmp measures rows ask u d ≡ true → value_count d ≤ fuel → Below d
    most_general zero d m q le = go (list_all (is_no_other nat_cmp measures rows ask u d) (classes nat_cmp rows)) refl
      where
        go : (b : Bool) → list_all (is_no_other nat_cmp measures rows ask u d) (classes nat_cmp rows) ≡ b → Below d
        go true h = (d, m, and_from _ _ q h, leq_refl code_equality d)
        go false h = let e = lower d h in let f = fewer e.0 d (class_long e.0 e.1) (class_long d m) e.3 e.4 in
            absurd (omega arith)
    most_general (suc fuel) d m q le
        = go (most_general fuel) (list_all (is_no_other nat_cmp measures rows ask u d) (classes nat_cmp rows)) refl
      where
        go : ((d : Cell ℕ) → Among d (classes nat_cmp rows) → qualifies nat_cmp measures rows ask u d ≡ true
            → value_count d ≤ fuel → Below d) → (b : Bool)
            → list_all (is_no_other nat_cmp measures rows ask u d) (classes nat_cmp rows) ≡ b → Below d
        go more true h = (d, m, and_from _ _ q h, leq_refl code_equality d)
        go more false h =
            let e = lower d h in
            let f = fewer e.0 d (class_long e.0 e.1) (class_long d m) e.3 e.4 in
            let r : Below e.0 = more e.0 e.1 e.2 (omega arith) in
            (r.0, r.1, r.2, leq_trans code_equality r.0 e.0 d r.3 e.3)

    -- what is seen: classes from u on, with the children of each that doesn't qualify
    module _ (Seen : Cell ℕ → Type 0) (above : (c : Cell ℕ) → Seen c → Among c (classes nat_cmp rows)
        × (leq (eq_by_cmp nat_cmp) u c ≡ true))
        (on : (c : Cell ℕ) → Seen c → qualifies nat_cmp measures rows ask u c ≡ false → (e : Cell ℕ)
        → Among e (classes nat_cmp rows) → is_parent nat_cmp rows c e ≡ true → Seen e) where
      abbrev Reaches : ℕ → Type 0
      Reaches fuel = (c d : Cell ℕ) → Seen c → Among d (classes nat_cmp rows)
          → is_rolled nat_cmp measures rows ask u d ≡ true → leq (eq_by_cmp nat_cmp) c d ≡ true
          → value_count d ≤ value_count c + fuel → Seen d

      -- a class that is seen and generalizes one of the most general, which is another, doesn't qualify
      out : (c d : Cell ℕ) → Seen c → is_rolled nat_cmp measures rows ask u d ≡ true
          → leq (eq_by_cmp nat_cmp) c d ≡ true → c ≢ d → (b : Bool)
          → qualifies nat_cmp measures rows ask u c ≡ b → b ≡ false
      out c d s r low ne false e = refl
      out c d s r low ne true e =
          let p = and_parts (qualifies nat_cmp measures rows ask u d) _ r in
          let t : is_no_other nat_cmp measures rows ask u d c ≡ true
          = among_passes (is_no_other nat_cmp measures rows ask u d) (classes nat_cmp rows) p.1 c (above c s).0 in
          let f : cell_eq (eq_by_cmp nat_cmp) c d ≡ true
          = sym (ap₂ (λ a b. not (a && b) || cell_eq (eq_by_cmp nat_cmp) c d) e low) ∙ t in
          absurd (ne (cell_eq-exact code_equality c d f))

      -- a most general class that specializes a class that is seen is seen
      pub reached : (fuel : ℕ) → Reaches fuel
      reached zero c d s m r low le = go (cell_eq (eq_by_cmp nat_cmp) c d) refl
        where
          go : (b : Bool) → cell_eq (eq_by_cmp nat_cmp) c d ≡ b → Seen d
          go true e = subst Seen (cell_eq-exact code_equality c d e) s
          go false e =
              let f = fewer c d (class_long c (above c s).0) (class_long d m) low
              (λ t. true≢false (sym (cell_eq-from code_equality c d t) ∙ e)) in
              absurd (omega arith)
      reached (suc fuel) c d s m r low le = go (reached fuel) (cell_eq (eq_by_cmp nat_cmp) c d) refl
        where
          go : Reaches fuel → (b : Bool) → cell_eq (eq_by_cmp nat_cmp) c d ≡ b → Seen d
          go more true e = subst Seen (cell_eq-exact code_equality c d e) s
          go more false e =
              let ne : c ≢ d = λ t. true≢false (sym (cell_eq-from code_equality c d t) ∙ e) in
              let child : (e : Cell ℕ) × Among e (classes nat_cmp rows) × (is_parent nat_cmp rows c e ≡ true)
              × (leq (eq_by_cmp nat_cmp) e d ≡ true)
              = child_below (value_count d) c d (above c s).0 m low ne (omega arith) in
              let up = parent_above dims rows wide c child.0 child.2 in
              let f = fewer c child.0 (class_long c (above c s).0) (class_long child.0 child.1) up.0 up.1 in
              more child.0 d (on c s (out c d s r low ne (qualifies nat_cmp measures rows ask u c) refl) child.0 child.1
              child.2) m r child.3 (omega arith)
