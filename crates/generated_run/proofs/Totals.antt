-- What all rows come to, by the codes of their texts and by the texts.
use Rattle.std.proofs.Common.{◌≡◌, ◌∙◌, ℕ, zero, suc, Bool, None, List, [], ◌∷◌, map, replicate, refl, sym, ap}
use Rattle.std.specs.Ordering.{eq_by_cmp, nat_cmp}
use Rattle.cube_defs.specs.Cell.{Cell}
use Rattle.cube_defs.specs.Rows.{Row}
use Rattle.cube_defs.specs.Text.{Text, text_eq}
use Rattle.cube_laws.specs.Recoding.{AreKnown, RowsAreKnown, coded_cell, coded_row}
use Rattle.cube_laws.specs.Total.{agg_at}
use Rattle.value_dict.proofs.CallerLemmas.{total-coded}
use Rattle.value_dict.specs.Decoded.{has_text, place_in}

any-coded : (codes : ℕ → Text → ℕ) (k n : ℕ) → coded_cell codes k (replicate n None) ≡ replicate n None
any-coded codes k zero = refl
any-coded codes k (suc n) = ap (λ (c : Cell ℕ). None ∷ c) (any-coded codes (suc k) n)

any-known : (known : ℕ → Text → Bool) (k n : ℕ) → AreKnown known k (replicate n None)
any-known known k zero = tt
any-known known k (suc n) = any-known known (suc k) n

pub total-of-all : (texts : List (List Text)) (measures : ℕ) (rows : List (Row Text)) (n : ℕ)
    → RowsAreKnown (has_text texts) rows
    → agg_at (eq_by_cmp nat_cmp) measures (map (coded_row (place_in texts)) rows) (replicate n None)
    ≡ agg_at text_eq measures rows (replicate n None)
total-of-all texts measures rows n h =
    ap (agg_at (eq_by_cmp nat_cmp) measures (map (coded_row (place_in texts)) rows))
    (sym (any-coded (place_in texts) 0 n))
    ∙ total-coded texts measures rows (replicate n None) h (any-known (has_text texts) 0 n)
