-- The numbers of a list in order that stand as often as their nodes want.
use Rattle.std.proofs.Common.{◌≡◌, ◌≢◌, ◌↔◌, ℕ, ◌+◌, ◌<◌, Bool, true, false, not, ◌||◌, cond, nat_eq, nat_lt, eqb-true, eq-eqb, lt-ltb}
use Rattle.std.proofs.Common.{ltb-true, List, [], ◌∷◌, ◌++◌, take, length, get_or, refl, sym, ap, ap₂, ◌∙◌, subst, arith, true≢false, inl}
use Rattle.std.proofs.Common.{inr}
use Rattle.std.specs.List.{AllByRecursion, IsDistinct}
use Rattle.std.specs.List.Sorted.{IsSorted}
use Rattle.std.specs.Ordering.{nat_cmp}
use Rattle.std.proofs.lemmas.Bool.{false_from_ne_true}
use Rattle.cube_defs.specs.Tree.{Tree}
use Rattle.cube_laws.specs.Parts.{value_count}
use Rattle.cube_laws.specs.Lists.{Among}
use Rattle.cube_laws.proofs.CallerLemmas.{among_append}
use Rattle.qc_arena.specs.RecordReaders.{record_at}
use Rattle.quotient_lattice.specs.Candidates.{times}
use Rattle.quotient_lattice.specs.NodeCells.{IsPicked, is_last}
use Rattle.quotient_lattice.proofs.Listing.{in_all, none_before, none_behind, one_more}

-- one item more that wasn't there
pub distinct_push : (xs : List ℕ) (k : ℕ) → IsDistinct nat_eq xs → (Among k xs → ⊥) → IsDistinct nat_eq (xs ++ k ∷ [])
unfolding IsDistinct
distinct_push [] k h lacks = (tt, tt)
distinct_push (x ∷ xs) k h lacks = (behind xs h.0, distinct_push xs k h.1 (λ m. lacks (inr m)))
  where
    behind : (ys : List ℕ) → AllByRecursion (λ y. nat_eq x y ≡ false) ys
        → AllByRecursion (λ y. nat_eq x y ≡ false) (ys ++ k ∷ [])
    behind [] a = (false_from_ne_true _ (λ e. lacks (inl (sym (eqb-true x k e)))), tt)
    behind (y ∷ ys) a = (a.0, behind ys a.1)

pub one_among : (b : Bool) (x k : ℕ) → Among k (cond b (x ∷ []) []) → (b ≡ true) × (k ≡ x)
one_among true x k m = (refl, elim m [ inl e ↦ e | inr n ↦ absurd n ])
one_among false x k m = absurd m

among_one : (b : Bool) (x : ℕ) → b ≡ true → Among x (cond b (x ∷ []) [])
among_one true x e = inl refl
among_one false x e = absurd (true≢false (sym e))

module _ (tree : Tree ℕ) (values : ℕ) (xs : List ℕ) (sorted : IsSorted nat_cmp xs) (i : ℕ) (l : i < length xs) where
  abbrev x : ℕ
  x = get_or xs i 0

  own : times x (take (i + 1) xs) ≡ times x (take i xs) + 1
  own = one_more xs sorted x i l ∙ ap (λ b. times x (take i xs) + cond b 1 0) (eq-eqb x x refl)

  other : (k : ℕ) → k ≢ x → times k (take (i + 1) xs) ≡ times k (take i xs)
  other k ne =
      let no : nat_eq k x ≡ false = false_from_ne_true _ (λ e. ne (eqb-true k x e)) in
      one_more xs sorted k i l ∙ ap (λ b. times k (take i xs) + cond b 1 0) no ∙ omega arith

  -- the last place of a number
  module _ (last : is_last xs i ≡ true) where
    apart : i + 1 < length xs → get_or xs (i + 1) 0 ≢ x
    apart more e = true≢false (sym last
        ∙ ap₂ (λ a b. not a || not b) (lt-ltb (i + 1) (length xs) more) (eq-eqb (get_or xs (i + 1) 0) x e))

    whole : times x xs ≡ times x (take (i + 1) xs)
    whole = none_behind xs sorted i l apart

    pub first_next : i + 1 < length xs → 0 ≡ times (get_or xs (i + 1) 0) (take (i + 1) xs)
    first_next more = sym (none_before xs sorted i more (apart more))

    module _ (times_here : ℕ) (is : times_here ≡ times x (take i xs)) (ps : List ℕ) (each : (k : ℕ) → Among k ps
        ↔ IsPicked tree values xs i k) where
      abbrev passes : Bool
      passes = nat_eq ((times_here + 1) + values) (value_count (record_at tree x).cell)

      not_there : Among x ps → ⊥
      not_there m = let p = (each x).0 m in omega (arith, p.done, own, in_all xs sorted x (i + 1))

      pub picked_last : (k : ℕ) → Among k (ps ++ cond passes (x ∷ []) []) ↔ IsPicked tree values xs (i + 1) k
      picked_last k = (
        λ m. elim ((among_append k ps (cond passes (x ∷ []) [])).0 m) [
          | inl a ↦ stays ((each k).0 a)
          | inr b ↦ new (one_among passes x k b)
        ],
        λ p. back p (nat_eq k x) refl,
      )
        where
          stays : IsPicked tree values xs i k → IsPicked tree values xs (i + 1) k
          stays p = record {
            some = p.some;
            done
                = omega (arith, p.done, one_more xs sorted k i l, in_all xs sorted k (i + 1));
            enough = p.enough;
          }

          new : (passes ≡ true) × (k ≡ x) → IsPicked tree values xs (i + 1) k
          new q =
              let e = eqb-true ((times_here + 1) + values) (value_count (record_at tree x).cell) q.0 in
              subst (IsPicked tree values xs (i + 1)) (sym q.1)
              (record {
                some = omega (arith, whole, own);
                done = sym whole;
                enough
                    = omega (arith, whole, own, is, e);
              })

          back : IsPicked tree values xs (i + 1) k → (b : Bool) → nat_eq k x ≡ b
              → Among k (ps ++ cond passes (x ∷ []) [])
          back p true e =
              let same : k ≡ x = eqb-true k x e in
              let q : IsPicked tree values xs (i + 1) x = subst (IsPicked tree values xs (i + 1)) same p in
              let full : passes ≡ true
              = eq-eqb ((times_here + 1) + values) (value_count (record_at tree x).cell)
              (omega (arith, is, own, whole, q.enough)) in
              subst (λ j. Among j (ps ++ cond passes (x ∷ []) [])) (sym same)
              ((among_append x ps (cond passes (x ∷ []) [])).1 (inr (among_one passes x full)))
          back p false e =
              let ne : k ≢ x = λ s. true≢false (sym (eq-eqb k x s) ∙ e) in
              (among_append k ps (cond passes (x ∷ []) [])).1
              (inl ((each k).1 (record { some = p.some; done = sym (other k ne) ∙ p.done; enough = p.enough })))

      pub once_last : IsDistinct nat_eq ps → IsDistinct nat_eq (ps ++ cond passes (x ∷ []) [])
      once_last h = go passes
        where
          go : (b : Bool) → IsDistinct nat_eq (ps ++ cond b (x ∷ []) [])
          go true = distinct_push ps x h not_there
          go false = subst (IsDistinct nat_eq) (sym (none ps)) h
            where
              none : (ys : List ℕ) → ys ++ [] ≡ ys
              none [] = refl
              none (y ∷ ys) = ap (λ zs. y ∷ zs) (none ys)

  -- and another place
  module _ (early : is_last xs i ≡ false) where
    parts : (a b : Bool) → (not a || not b) ≡ false → (a ≡ true) × (b ≡ true)
    parts true true e = (refl, refl)
    parts true false e = absurd (true≢false e)
    parts false b e = absurd (true≢false e)

    more : i + 1 < length xs
    more = ltb-true (i + 1) (length xs) (parts (nat_lt (i + 1) (length xs)) _ early).0

    again : get_or xs (i + 1) 0 ≡ x
    again = eqb-true (get_or xs (i + 1) 0) x (parts (nat_lt (i + 1) (length xs)) _ early).1

    pub same_next : (n : ℕ) → n ≡ times x (take i xs) → n + 1 ≡ times (get_or xs (i + 1) 0) (take (i + 1) xs)
    same_next n is = omega (arith, is, own) ∙ ap (λ y. times y (take (i + 1) xs)) (sym again)

    not_done : times x (take (i + 1) xs) < times x xs
    not_done =
        let twice : times x (take ((i + 1) + 1) xs) ≡ times x (take (i + 1) xs) + 1
        = one_more xs sorted x (i + 1) more
        ∙ ap (λ b. times x (take (i + 1) xs) + cond b 1 0) (eq-eqb x (get_or xs (i + 1) 0) (sym again)) in
        omega (arith, twice, in_all xs sorted x ((i + 1) + 1))

    pub picked_early : (ps : List ℕ) → ((k : ℕ) → Among k ps ↔ IsPicked tree values xs i k) → (k : ℕ) → Among k ps
        ↔ IsPicked tree values xs (i + 1) k
    picked_early ps each k = (λ m. on ((each k).0 m) (nat_eq k x) refl, λ p. (each k).1 (off p (nat_eq k x) refl))
      where
        on : IsPicked tree values xs i k → (b : Bool) → nat_eq k x ≡ b → IsPicked tree values xs (i + 1) k
        on p true e = let q : IsPicked tree values xs i x = subst (IsPicked tree values xs i) (eqb-true k x e) p in
            absurd (omega (arith, q.done, own, not_done))
        on p false e = let ne : k ≢ x = λ s. true≢false (sym (eq-eqb k x s) ∙ e) in
            record { some = p.some; done = other k ne ∙ p.done; enough = p.enough }

        off : IsPicked tree values xs (i + 1) k → (b : Bool) → nat_eq k x ≡ b → IsPicked tree values xs i k
        off p true e = let q : IsPicked tree values xs (i + 1) x
            = subst (IsPicked tree values xs (i + 1)) (eqb-true k x e) p in absurd (omega (arith, q.done, not_done))
        off p false e = let ne : k ≢ x = λ s. true≢false (sym (eq-eqb k x s) ∙ e) in
            record { some = p.some; done = sym (other k ne) ∙ p.done; enough = p.enough }
