-- Entries from a place on.
use Rattle.std.proofs.Common.{◌≡◌, ℕ, zero, suc, ◌+◌, ◌<◌, ◌≤◌, Bool, false, List, [], ◌∷◌, Option, Some, None, is_some, length, get_or}
use Rattle.std.proofs.Common.{slice_get, nat_eq, refl, sym, ap, subst, ◌∙◌, arith, inl, inr}
use Rattle.std.specs.Prelude.{IfSome, if◌then◌else◌}
use Rattle.std.proofs.lemmas.Bool.{cond-true, cond-false}
use Rattle.std.proofs.lemmas.Bool.Decides.{eqb_tells}
use Rattle.std.specs.Map.{lookup}
use Rattle.cube_laws.proofs.CallerLemmas.{item_at, some_of}
use Rattle.qc_arena.specs.Entries.{IsMarked, IsOnce, all_new}
use Rattle.qc_arena.specs.Map.{Known}

abbrev pub suffix_from : {X : Type 0} → ℕ → List X → List X
suffix_from zero es = es
suffix_from (suc k) [] = []
suffix_from (suc k) (e ∷ es) = suffix_from k es

next_behind : {X : Type 0} (es : List X) (k : ℕ) (e : X) → slice_get es k ≡ Some e
    → suffix_from k es ≡ e ∷ suffix_from (suc k) es
next_behind [] k e h = cc
next_behind (x ∷ es) zero e h = let is : x ≡ e = cc in ap (λ y. y ∷ es) is
next_behind (x ∷ es) (suc k) e h = next_behind es k e h

one_more : (k : ℕ) → suc k ≡ k + 1
one_more k = omega arith

here_after : {X : Type 0} (es : List X) (k : ℕ) (e : X) → slice_get es k ≡ Some e
    → suffix_from k es ≡ e ∷ suffix_from (k + 1) es
here_after es k e h = next_behind es k e h ∙ ap (λ n. e ∷ suffix_from n es) (one_more k)

pub none_behind : {X : Type 0} (es : List X) (k : ℕ) → length es ≤ k → suffix_from k es ≡ []
none_behind [] zero h = refl
none_behind [] (suc k) h = refl
none_behind (x ∷ es) zero h = absurd (omega arith)
none_behind (x ∷ es) (suc k) h = none_behind es k (omega arith)

once_after : {X : Type 0} (k : ℕ) (es : List (ℕ × X)) → IsOnce es → IsOnce (suffix_from k es)
once_after zero es h = h
once_after (suc k) [] h = h
once_after (suc k) (e ∷ es) h = once_after k es h.1

-- one entry less
pub look_less : {X : Type 0} (es : List (ℕ × X)) (k : ℕ) (e : ℕ × X) (q : ℕ) → slice_get es k ≡ Some e
    → lookup (nat_eq q) (suffix_from k es) ≡ (if nat_eq q e.0 then Some e.1
    else lookup (nat_eq q) (suffix_from (k + 1) es))
look_less es k e q h = ap (lookup (nat_eq q)) (here_after es k e h)

pub look_gone : {X : Type 0} (es : List (ℕ × X)) (k : ℕ) (e : ℕ × X) → IsOnce es → slice_get es k ≡ Some e
    → lookup (nat_eq e.0) (suffix_from (k + 1) es) ≡ None
look_gone es k e once h = (subst IsOnce (here_after es k e h) (once_after k es once)).0

-- the entry at a place whose number is told
pub numbered : {X : Type 0} (es : List (ℕ × X)) (k n : ℕ) → k < length es → IfSome (slice_get es k) (λ e. n ≡ e.0)
    → (e : ℕ × X) × (slice_get es k ≡ Some e) × (n ≡ e.0)
numbered es k n l told = let e = item_at es k l in (e.0, e.1, some_of (λ e. n ≡ e.0) _ e.0 e.1 told)

pub length-all_new : (ks : List ℕ) → length (all_new ks) ≡ length ks
length-all_new [] = refl
length-all_new (k ∷ ks) = ap suc (length-all_new ks)

-- the marks without that of an entry
pub marked_after : (es : List (ℕ × Option Known)) (touched after : List Bool) (k n : ℕ) (e : ℕ × Option Known)
    → slice_get es k ≡ Some e → n ≡ e.0 → IsMarked (suffix_from k es) touched
    → ((q : ℕ) → get_or after q false ≡ (if nat_eq n q then false else get_or touched q false))
    → IsMarked (suffix_from (k + 1) es) after
marked_after es touched after k n e h is was marks =
    let once = subst IsOnce (here_after es k e h) was.once in
    record {
      once = once.1;
      marked = λ q. elim (eqb_tells n q) [
        | inl s ↦ marks q ∙ cond-true (nat_eq n q) _ _ s.0
            ∙ sym (ap is_some (ap (λ x. lookup (nat_eq x) (suffix_from (k + 1) es)) (sym s.1 ∙ is) ∙ once.0))
        | inr s ↦ marks q ∙ cond-false (nat_eq n q) _ _ s.0 ∙ was.marked q
            ∙ ap is_some (look_less es k e q h ∙ cond-false (nat_eq q e.0) _ _ (apart q (λ t. s.1 (is ∙ sym t))))
      ];
    }
  where
    apart : (q : ℕ) → (q ≡ e.0 → ⊥) → nat_eq q e.0 ≡ false
    apart q f = grind (arith, f)
