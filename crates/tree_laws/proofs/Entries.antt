-- The entries of a map from numbers are what `get` answers, each number once.
use Rattle.std.proofs.Common.{◌≡◌, inl, inr, ℕ, Bool, true, false, cond, ◌&&◌, T, Some, List, [], ◌∷◌, map, refl, sym, ap, subst, ◌∙◌}
use Rattle.std.proofs.Common.{nat_cmp, true≢false}
use Rattle.std.specs.declared.cmp.Ordering.{Ordering}
use Rattle.std.specs.declared.cmp.Ordering.TheVariants.{Less, Equal, Greater}
use Rattle.std.specs.Ordering.{eq_by_cmp, is_lt, is_eq}
use Rattle.std.specs.Cmp.{nat_cmp_total, tied_itself}
use Rattle.std.specs.FinMap as numbers
use Rattle.cube_laws.specs.Lists.{Among}
use Rattle.cube_laws.proofs.CallerLemmas.{among_map, is_equal}
use Rattle.tree_laws.proofs.Sums.{EachOnce}

first_part : (a b c : Bool) → T ((a && b) && c) → T a
first_part true b c h = tt
first_part false b c h = absurd h

pub last_part : (a b : Bool) → T (a && b) → T b
last_part true b h = h
last_part false b h = absurd h

less : (o : Ordering) → T (is_lt o) → o ≡ Less
less Less h = refl
less Equal h = absurd h
less Greater h = absurd h

pub at_tie : (q k : ℕ) → eq_by_cmp nat_cmp q k ≡ true → q ≡ k
at_tie q k h = numbers.nat_cmp-IsAntisymmetric q k (is_equal (nat_cmp q k) h)

not_itself : (k : ℕ) → nat_cmp k k ≡ Less → ⊥
not_itself k h = let e : nat_cmp k k ≡ Equal = tied_itself nat_cmp_total k in let bad : Less ≡ Equal = sym h ∙ e in cc

module _ {X : Type 0} where
  found_entry : (q : ℕ) (x : X) (es : List (ℕ × X)) → numbers.find nat_cmp q es ≡ Some x → Among (q, x) es
  found_entry q x [] h = cc
  found_entry q x (e ∷ es) h = go (found_entry q x es) (eq_by_cmp nat_cmp q e.0) refl h
    where
      pair : q ≡ e.0 → x ≡ e.1 → ◌≡◌ {A = ℕ × X} (q, x) e
      pair a b = λ i. (a i, b i)

      go : (numbers.find nat_cmp q es ≡ Some x → Among (q, x) es) → (b : Bool) → eq_by_cmp nat_cmp q e.0 ≡ b
          → cond b (Some e.1) (numbers.find nat_cmp q es) ≡ Some x → Among (q, x) (e ∷ es)
      go more true t k = inl (pair (at_tie q e.0 t) (cc))
      go more false t k = inr (more k)

  rest_sorted : (e : ℕ × X) (es : List (ℕ × X)) → T (numbers.is_sorted nat_cmp (e ∷ es))
      → T (numbers.is_sorted nat_cmp es)
  rest_sorted e es h = last_part _ (numbers.is_sorted nat_cmp es) h

  -- each later key is greater
  key_later : (d e : ℕ × X) (es : List (ℕ × X)) → T (numbers.is_sorted nat_cmp (d ∷ es)) → Among e es
      → nat_cmp d.0 e.0 ≡ Less
  key_later d e [] h m = absurd m
  key_later d e (f ∷ es) h m =
      let next : nat_cmp d.0 f.0 ≡ Less = less (nat_cmp d.0 f.0) (first_part (is_lt (nat_cmp d.0 f.0)) _ _ h) in
      elim m [
        | inl s ↦ ap (λ x. nat_cmp d.0 x.0) s ∙ next
        | inr n ↦ nat_cmp_total.trans d.0 f.0 e.0 next (key_later f e es (rest_sorted d (f ∷ es) h) n)
      ]

  entry_found : (e : ℕ × X) (es : List (ℕ × X)) → T (numbers.is_sorted nat_cmp es) → Among e es
      → numbers.find nat_cmp e.0 es ≡ Some e.1
  entry_found e [] h m = absurd m
  entry_found e (f ∷ es) h m = go (entry_found e es (rest_sorted f es h)) (eq_by_cmp nat_cmp e.0 f.0) refl m
    where
      go : (Among e es → numbers.find nat_cmp e.0 es ≡ Some e.1) → (b : Bool) → eq_by_cmp nat_cmp e.0 f.0 ≡ b
          → Among e (f ∷ es) → cond b (Some f.1) (numbers.find nat_cmp e.0 es) ≡ Some e.1
      go more true t (inl s) = ap (λ x. Some x.1) (sym s)
      go more true t (inr n) =
          absurd (not_itself f.0 (subst (λ k. nat_cmp f.0 k ≡ Less) (at_tie e.0 f.0 t) (key_later f e es h n)))
      go more false t (inl s)
          = absurd (true≢false (sym (ap is_eq (tied_itself nat_cmp_total f.0))
          ∙ ap (λ x. eq_by_cmp nat_cmp x.0 f.0) (sym s) ∙ t))
      go more false t (inr n) = more n

  -- what is told of entries, each once
  told_once : {Y : Type 0} (f : ℕ × X → Y) (es : List (ℕ × X)) → T (numbers.is_sorted nat_cmp es)
      → ((d e : ℕ × X) → Among d es → Among e es → f d ≡ f e → d.0 ≡ e.0) → EachOnce (map f es)
  told_once f [] h apart = tt
  told_once f (e ∷ es) h apart = (
    λ m. let r : (d : ℕ × X) × Among d es × (f e ≡ f d) = among_map f (f e) es m in
        not_itself e.0 (ap (nat_cmp e.0) (apart e r.0 (inl refl) (inr r.1) r.2) ∙ key_later e r.0 es h r.1),
    told_once f es (rest_sorted e es h) (λ d c m n. apart d c (inr m) (inr n)),
  )

  module _ (tree : numbers.FinMap nat_cmp X) where
    pub entry_get : (e : ℕ × X) → Among e (numbers.entries tree) → numbers.get tree e.0 ≡ Some e.1
    entry_get e m = numbers.get-entries tree e.0 ∙ entry_found e (numbers.entries tree) (numbers.entries_sorted tree) m

    pub get_entry : (k : ℕ) (x : X) → numbers.get tree k ≡ Some x → Among (k, x) (numbers.entries tree)
    get_entry k x h = found_entry k x (numbers.entries tree) (sym (numbers.get-entries tree k) ∙ h)

    pub entries_once : {Y : Type 0} (f : X → Y)
        → ((k l : ℕ) (x y : X) → numbers.get tree k ≡ Some x → numbers.get tree l ≡ Some y → f x ≡ f y → k ≡ l)
        → EachOnce (map (λ e. f e.1) (numbers.entries tree))
    entries_once f apart = told_once (λ e. f e.1) (numbers.entries tree) (numbers.entries_sorted tree)
        (λ d e m n s. apart d.0 e.0 d.1 e.1 (entry_get d m) (entry_get e n) s)
