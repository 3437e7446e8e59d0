-- Classes on their way into an index.
use Rattle.std.specs.Prelude.{◌≡◌, ℕ, List, [], ◌∷◌, ◌++◌, map}
use Rattle.std.specs.List.{All, AllZip}
use Rattle.aggregates.specs.declared.agg.Agg.{Agg}
use Rattle.aggregates.specs.declared.kind.AggKind.{AggKind}
use Rattle.cell_core.specs.declared.cell.NodeNo.{NodeNo}
use Rattle.measure_index.specs.declared.key.Key.{Key}
use Rattle.measure_index.specs.Changes.{HasChanged}
use Rattle.measure_index.specs.ColumnKeys.{IsKey}
use Rattle.measure_index.specs.Rankings.{Ranking, no_entries}

-- for a kind, in the unit of its measure's scale, the keys of the classes so far
pub record GatheredKeys : Type 0 where
  pub kind : AggKind
  pub scale : ℕ
  pub keys : List Key

-- the kinds with the scales of their measures
abbrev pub gathered_units : List GatheredKeys → List (AggKind × ℕ)
gathered_units comings = map (λ c. (c.kind, c.scale)) comings

-- the keys are those of the classes, in their order
abbrev pub AreKeysOf : List (NodeNo × Agg) → List GatheredKeys → Type 0
AreKeysOf classes comings = All (λ c. AllZip (IsKey c.kind) classes c.keys) comings

-- a key of one class more
abbrev pub HasOneMore : NodeNo × Agg → GatheredKeys → GatheredKeys → Type 0
HasOneMore class old new = (key : Key) × IsKey old.kind class key
    × (new ≡ record { kind = old.kind; scale = old.scale; keys = old.keys ++ key ∷ [] })

-- the ranking of the classes whose keys these are
pub record IsRankingOf (coming : GatheredKeys) (ranking : Ranking) : Type 0 where
  pub kind : ranking.kind ≡ coming.kind
  pub scale : ranking.scale ≡ coming.scale
  pub classes : (classes : List (NodeNo × Agg)) → AllZip (IsKey coming.kind) classes coming.keys
      → HasChanged classes [] (no_entries coming.kind coming.scale) ranking
