-- Texts cut at `~`.
use Rattle.std.proofs.Common.{◌≡◌, ℕ, List, [], ◌∷◌, refl, sym, Option, Some, None, true, false, Bool, cond, arith, ap, eqb-true}
use Rattle.std.specs.Borrow.{Bor}
use Rattle.std.specs.Prelude.{◌==◌, is_some}
use Rattle.std.proofs.lemmas.Str.Pattern.{IsSplitOnceResult}
use Rattle.cube_defs.specs.Text.{Text}
use Rattle.cell_core.specs.declared.fields.Field.TheVariants as asks
use Rattle.text_lines.specs.Cuts.{cut_at}
use Rattle.text_lines.specs.Lines.{with_first}
use Rattle.text_lines.proofs.CallerLemmas.{split-cut}
use Rattle.query_script.specs.Fields.{between_of, several_of}

-- more than two texts bound nothing
more-than-two : (low high rest : List ℕ) → between_of (low ∷ high ∷ cut_at 126 rest) ≡ None
more-than-two low high [] = refl
more-than-two low high (b ∷ bs) = by (b == 126) (cut_at 126 bs)
  where
    by : (tilde : Bool) (more : List Text) → between_of (low ∷ high ∷ cond tilde ([] ∷ more) (with_first b more)) ≡ None
    by true more = refl
    by false [] = refl
    by false (piece ∷ more) = refl

module _ (ends low high : List ℕ) (first : cut_at 126 ends ≡ low ∷ cut_at 126 high) where
  pub interval-long : (r : Option (Bor (List ℕ) × Bor (List ℕ))) → IsSplitOnceResult 126 high r → is_some r ≡ true
      → None ≡ between_of (cut_at 126 ends)
  interval-long None h e = absurd (cc e)
  interval-long (Some x) h e
      = rw (first, split-cut 126 high (Some x) h (omega arith)) (sym (more-than-two low x.0.now x.1.now))

  pub interval-two : (r : Option (Bor (List ℕ) × Bor (List ℕ))) → IsSplitOnceResult 126 high r → is_some r ≡ false
      → Some (asks.Between low high) ≡ between_of (cut_at 126 ends)
  interval-two None h e = rw (first, split-cut 126 high None h (omega arith)) refl
  interval-two (Some x) h e = absurd (cc e)

-- what begins with neither `|` nor `~` asks each value
pub each-value : (field : List ℕ) → ((rest : List ℕ) → field ≡ 124 ∷ rest → ⊥)
    → ((rest : List ℕ) → field ≡ 126 ∷ rest → ⊥) → Some asks.All ≡ several_of field
each-value [] bar tilde = refl
each-value (b ∷ bs) bar tilde = by (b == 124) (b == 126) refl refl
  where
    by : (m n : Bool) → (b == 124) ≡ m → (b == 126) ≡ n
        → Some asks.All ≡ cond m (Some (asks.Among (cut_at 124 bs)))
        (cond n (between_of (cut_at 126 bs)) (Some asks.All))
    by true n e f = absurd (bar bs (ap (λ (x : ℕ). x ∷ bs) (eqb-true b 124 e)))
    by false true e f = absurd (tilde bs (ap (λ (x : ℕ). x ∷ bs) (eqb-true b 126 f)))
    by false false e f = refl
