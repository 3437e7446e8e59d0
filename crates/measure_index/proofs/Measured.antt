-- A change keeps the kinds.
use Rattle.std.proofs.Common.{List, [], ◌∷◌, zero, suc, subst, sym, arith}
use Rattle.std.specs.List.{All, AllZip}
use Rattle.aggregates.specs.Views.{IsThere}
use Rattle.aggregates.specs.declared.agg.Agg.{Agg}
use Rattle.cell_core.specs.declared.cell.NodeNo.{NodeNo}
use Rattle.measure_index.specs.Changes.{HasChanged}
use Rattle.measure_index.specs.Rankings.{Ranking}

pub kinds_kept : (add remove : List (NodeNo × Agg)) (olds news : List Ranking)
    → AllZip (HasChanged add remove) olds news → All (λ r. IsThere 1 r.kind) olds → All (λ r. IsThere 1 r.kind) news
kinds_kept add remove [] [] h a = a
kinds_kept add remove [] (n ∷ news) h a = absurd h
kinds_kept add remove (o ∷ olds) [] h a = λ k d l. absurd (omega (arith, l))
kinds_kept add remove (o ∷ olds) (n ∷ news) h a
    = go (kinds_kept add remove olds news h.1 (λ k d l. a (suc k) d (omega (arith, l))))
  where
    go : All (λ r. IsThere 1 r.kind) news → All (λ r. IsThere 1 r.kind) (n ∷ news)
    go more zero d l = subst (IsThere 1) (sym h.0.alike.kind) (a 0 o (omega arith))
    go more (suc k) d l = more k d (omega (arith, l))
