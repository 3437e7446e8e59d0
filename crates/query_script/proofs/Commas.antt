-- A text cut at its first comma.
use Rattle.std.proofs.Common.{◌≡◌, ◌≢◌, ◌<◌, ℕ, zero, suc, List, [], ◌∷◌, length, get_or, take, drop, refl, arith}
use Rattle.std.proofs.lemmas.Bool.{eq-eqb, ne_eqb}
use Rattle.text_lines.specs.Cuts.{cut_at}

pub cut_first : (at : ℕ) (text : List ℕ) (end : ℕ) → end < length text
    → ((i : ℕ) → i < end → get_or text i 0 ≢ at) → get_or text end 0 ≡ at
    → cut_at at text ≡ take end text ∷ cut_at at (drop (suc end) text)
cut_first at [] end lt none here = absurd (omega (arith, lt))
cut_first at (b ∷ bs) zero lt none here = rw (eq-eqb b at here) refl
cut_first at (b ∷ bs) (suc end) lt none here =
    rw (
      ne_eqb b at (none 0 (omega arith)),
      cut_first at bs end (omega (arith, lt)) (λ i l. none (suc i) (omega arith)) here,
    ) refl

pub cut_nowhere : (at : ℕ) (text : List ℕ) → ((i : ℕ) → i < length text → get_or text i 0 ≢ at)
    → cut_at at text ≡ text ∷ []
cut_nowhere at [] none = refl
cut_nowhere at (b ∷ bs) none
    = rw (ne_eqb b at (none 0 (omega arith)), cut_nowhere at bs (λ i l. none (suc i) (omega arith))) refl
