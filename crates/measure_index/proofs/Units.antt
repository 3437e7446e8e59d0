-- The units of the kinds of an index before it has a class.
use Rattle.std.proofs.Common.{◌≡◌, ℕ, List, [], ◌∷◌, map, refl, ap}
use Rattle.aggregates.specs.declared.kind.AggKind.{AggKind}
use Rattle.measure_index.specs.Index.{empty_ranking, scale_of, units}

pub units-empty : (scales : List ℕ) (kinds : List AggKind)
    → units (map (empty_ranking scales) kinds) ≡ map (λ kind. (kind, scale_of scales kind)) kinds
units-empty scales [] = refl
units-empty scales (kind ∷ kinds) = ap (λ us. (kind, scale_of scales kind) ∷ us) (units-empty scales kinds)
