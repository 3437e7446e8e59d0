-- The first dimension in which a cell has a value that one that generalizes it misses.
use Rattle.std.proofs.Common.{◌≡◌, ℕ, zero, suc, ◌<◌, Bool, true, false, Option, Some, None, length, nat_eq, refl, sym, ap, ◌∙◌, arith}
use Rattle.std.proofs.Common.{true≢false}
use Rattle.cube_defs.specs.Cell.{Cell, leq, cell_prefix, cell_eq}
use Rattle.cube_laws.proofs.CallerLemmas.{nat_equality, cell_eq-exact, cell_eq-same, entry}
use Rattle.build_trace.proofs.Prefixes.{cell_prefix_next, leq_entry, zero_prefix}

-- the first dimension in which w has a value that u misses
pub record Differs (k : ℕ) (u w : Cell ℕ) : Type 0 where
  pub at : ℕ
  pub below : at < k
  pub same : cell_prefix at w ≡ cell_prefix at u
  pub none : entry u at ≡ None
  pub value : ℕ
  pub some : entry w at ≡ Some value

pub first_difference : (k : ℕ) (u w : Cell ℕ) → leq nat_eq u w ≡ true → length w ≡ length u
    → (cell_prefix k w ≡ cell_prefix k u → ⊥) → Differs k u w
first_difference zero u w l e h = absurd (h (zero_prefix w u e))
first_difference (suc k) u w l e h
    = go (first_difference k u w l e) (cell_eq nat_eq (cell_prefix k w) (cell_prefix k u)) refl
  where
    here : cell_prefix k w ≡ cell_prefix k u → (o p : Option ℕ) → entry u k ≡ o → entry w k ≡ p → Differs (suc k) u w
    here s (Some x) p f g = absurd (h (cell_prefix_next k w u e s (leq_entry k x u w l f ∙ sym f)))
    here s None None f g = absurd (h (cell_prefix_next k w u e s (g ∙ sym f)))
    here s None (Some x) f g = record { at = k; below = omega arith; same = s; none = f; value = x; some = g }

    go : ((cell_prefix k w ≡ cell_prefix k u → ⊥) → Differs k u w) → (b : Bool)
        → cell_eq nat_eq (cell_prefix k w) (cell_prefix k u) ≡ b → Differs (suc k) u w
    go less true t = here (cell_eq-exact nat_equality _ _ t) (entry u k) (entry w k) refl refl
    go less false t =
        let d : Differs k u w =
        less (λ s. true≢false (sym (ap (λ c. cell_eq nat_eq c (cell_prefix k u)) s
        ∙ cell_eq-same nat_equality (cell_prefix k u)) ∙ t)) in
        let b : d.at < k = d.below in
        record { at = d.at; below = omega arith; same = d.same; none = d.none; value = d.value; some = d.some }
