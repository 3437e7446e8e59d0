use Rattle.std.proofs.Common.{List, [], ◌∷◌, ◌≡◌, ◌<◌, ◌≤◌, ℕ, ap₂, arith, get_or, length, map, refl, suc, take}
use Rattle.qc_schema.proofs.CallerLemmas.{measures-few}
use Rattle.qc_schema.specs.Schema.{Measure, no_measure}
use Rattle.warehouse.proofs.indexing.scales.Goals as goal

-- the first numbers of a list are the scales of the measures
same-scales : (scales : List ℕ) (measures : List Measure) → length measures ≤ length scales
    → ((k : ℕ) → k < length measures → get_or scales k 0 ≡ (get_or measures k no_measure).scale)
    → take (length measures) scales ≡ map (λ (m : Measure). m.scale) measures
same-scales scales [] le same = refl
same-scales [] (m ∷ measures) le same = absurd (omega (arith, le))
same-scales (s ∷ scales) (m ∷ measures) le same =
    ap₂ (λ (n : ℕ) (ns : List ℕ). n ∷ ns) (same 0 (omega arith))
    (same-scales scales measures (omega (arith, le)) (λ k lt. same (suc k) (omega (arith, lt))))

pub returns-clause-value : goal.returns-clause-value
returns-clause-value c =
    let schema = c.args.schema.now in
    same-scales c.measures.scales schema.measures (omega (
      arith,
      c.measures.invariant.len,
      measures-few schema c.dims-dims.ensures.layout,
    )) (λ k lt. c.measures.invariant.done k (omega (
      arith,
      lt,
      c.measures-test.false,
      c.measures-measure-end.ensures,
    )))
