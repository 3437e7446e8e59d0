use Rattle.std.proofs.Common.{subst}
use Rattle.measure_index.specs.Rankings.{IsRising}
use Rattle.measure_index.proofs.Keyed.{rising}
use Rattle.measure_index.proofs.column.Column.walk.Goals as goal

pub returns-clause-rising : goal.returns-clause-rising
returns-clause-rising c
    = subst (λ r. IsRising r.entries) c.self.view_is
    (rising c.self.inside.kind c.self.inside.scale c.self.inside.keys.keys c.self.invariant.rising)
