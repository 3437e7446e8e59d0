-- Values read one after another, as a loop does.
use Rattle.std.proofs.Common.{◌≡◌, ℕ, suc, ◌-◌, ◌+◌, ◌≤◌, ◌<◌, List, [], ◌∷◌, ◌++◌, Option, Some, None, length, refl, sym, ap, ◌∙◌}
use Rattle.std.proofs.Common.{append_assoc, arith, subst, length-append}
use Rattle.std.proofs.lemmas.List.{append-nil, get_or_at}
use Rattle.std.specs.List.{All}
use Rattle.std.specs.Prelude.{Err, Result}
use Rattle.std.specs.Option.{option_map, option_and_then}
use Rattle.cube_snapshot.specs.Format.{Format, get_times}
use Rattle.cube_snapshot.specs.Readers.{Refuses}
use Rattle.cube_snapshot.specs.declared.refused.PartRefused.{PartRefused}
use Rattle.cube_snapshot.specs.declared.refused.PartRefused.TheVariants.{Form, Memory}

abbrev pub some : {A : Type 0} → A → Option A
some x = Some x

pub some_is : {A : Type 0} (x y : A) → some x ≡ some y → x ≡ y
some_is x y e = cc

module _ {X : Type 0} (a : Format X) where
  -- what was read before, and what is still read
  abbrev pub with_prefix : List X → Option (List X × List ℕ) → Option (List X × List ℕ)
  with_prefix front read = option_map (λ x. (front ++ x.0, x.1)) read

  regroup : (front : List X) (n : X) (read : Option (List X × List ℕ))
      → with_prefix front (option_map (λ x. (n ∷ x.0, x.1)) read) ≡ with_prefix (front ++ n ∷ []) read
  regroup front n (Some x) = ap (λ (ns : List X). Some (ns, x.1)) (sym (append_assoc front (n ∷ []) x.0))
  regroup front n None = refl

  -- nothing was read before
  pub begins : (read : Option (List X × List ℕ)) → with_prefix [] read ≡ read
  begins (Some x) = refl
  begins None = refl

  module _ (front : List X) (count i : ℕ) (bytes : List ℕ) (total : Option (List X × List ℕ)) where
    unrolled : i < count → with_prefix front (get_times a (count - i) bytes) ≡ total
        → with_prefix front (option_and_then
        (λ p. option_map (λ q. (p.0 ∷ q.0, q.1)) (get_times a (count - (i + 1)) p.1)) (a.get bytes)) ≡ total
    unrolled lt so_far =
        let k : count - i ≡ suc (count - (i + 1)) = omega arith in
        sym (ap (λ c. with_prefix front (get_times a c bytes)) k) ∙ so_far

    pub goes_on : (n : X) (after : List ℕ) → i < count → a.get bytes ≡ Some (n, after)
        → with_prefix front (get_times a (count - i) bytes) ≡ total
        → with_prefix (front ++ n ∷ []) (get_times a (count - (i + 1)) after) ≡ total
    goes_on n after lt h so_far =
        sym (ap (λ o. with_prefix front
        (option_and_then (λ p. option_map (λ q. (p.0 ∷ q.0, q.1)) (get_times a (count - (i + 1)) p.1)) o)) h
        ∙ regroup front n (get_times a (count - (i + 1)) after)) ∙ unrolled lt so_far

    -- where nothing that is allowed is read, the whole isn't allowed either
    pub stops : (Q : List X → Type 0) → i < count
        → ((y : X × List ℕ) → a.get bytes ≡ Some y → (more : List X) → Q (front ++ y.0 ∷ more) → ⊥)
        → with_prefix front (get_times a (count - i) bytes) ≡ total → (y : List X × List ℕ) → total ≡ Some y → Q y.0 → ⊥
    stops Q lt refused so_far y is allowed = go (a.get bytes) refl
      where
        go : (o : Option (X × List ℕ)) → a.get bytes ≡ o → ⊥
        go None e =
            let none : None ≡ total
            = sym (ap (λ o. with_prefix front
            (option_and_then (λ p. option_map (λ q. (p.0 ∷ q.0, q.1)) (get_times a (count - (i + 1)) p.1)) o)) e)
            ∙ unrolled lt so_far in
            let bad = none ∙ is in cc
        go (Some p) e = at (get_times a (count - (i + 1)) p.1)
            (sym (ap (λ o. with_prefix front
            (option_and_then (λ p. option_map (λ q. (p.0 ∷ q.0, q.1)) (get_times a (count - (i + 1)) p.1)) o)) e)
            ∙ unrolled lt so_far)
          where
            at : (o : Option (List X × List ℕ)) → with_prefix front (option_map (λ q. (p.0 ∷ q.0, q.1)) o) ≡ total → ⊥
            at None f = let bad = f ∙ is in cc
            at (Some q) f =
                let same : (front ++ p.0 ∷ q.0, q.1) ≡ y = some_is (front ++ p.0 ∷ q.0, q.1) y (f ∙ is) in
                refused p e q.0 (subst (λ (z : List X × List ℕ). Q z.0) (sym same) allowed)

    -- where no value is read, nothing is
    pub fails : i < count → a.get bytes ≡ None → with_prefix front (get_times a (count - i) bytes) ≡ total
        → None ≡ total
    fails lt none so_far = sym (ap
        (λ o. with_prefix front
        (option_and_then (λ p. option_map (λ q. (p.0 ∷ q.0, q.1)) (get_times a (count - (i + 1)) p.1)) o)) none)
        ∙ unrolled lt so_far

    pub is_done : count ≤ i → with_prefix front (get_times a (count - i) bytes) ≡ total → total ≡ Some (front, bytes)
    is_done le so_far =
        let k : count - i ≡ 0 = omega arith in
        sym so_far ∙ ap (λ c. with_prefix front (get_times a c bytes)) k
        ∙ ap (λ (ns : List X). Some (ns, bytes)) (append-nil front)

  -- where the next value is refused, so are all together
  pub stop_reads : (P : X → Type 0) (Q : List X → Type 0) (front : List X) (count i : ℕ) (bytes : List ℕ)
      (total : Option (List X × List ℕ)) (e : PartRefused)
      → i < count → Refuses (λ y. P y.0) e (a.get bytes) → ((x : X) (more : List X) → Q (front ++ x ∷ more) → P x)
      → with_prefix front (get_times a (count - i) bytes) ≡ total → Refuses (λ y. Q y.0) e total
  stop_reads P Q front count i bytes total Form lt refused of so_far
      = stops front count i bytes total Q lt (λ y e more q. refused y e (of y.0 more q)) so_far
  stop_reads P Q front count i bytes total Memory lt refused of so_far = tt

-- what holds of all holds of one among them
pub of_all : {X : Type 0} (P : X → Type 0) (front : List X) (x : X) (more : List X) → All P (front ++ x ∷ more) → P x
of_all P front x more all
    = subst P (get_or_at front x more x (length front) refl)
    (all (length front) x (omega (arith, length-append front (x ∷ more))))

-- a refusal whose form is said apart
pub as_reads : {Z Y : Type 0} (P : Y → Type 0) (read : Option Y) (e : PartRefused)
    → ((let r : Result Z PartRefused = Err e in r) ≡ Err Form → (y : Y) → read ≡ Some y → P y → ⊥) → Refuses P e read
as_reads P read Form h = h refl
as_reads P read Memory h = tt
