use Rattle.measure_index.specs.ColumnKeys.{entries_at}
use Rattle.measure_index.proofs.Keyed.{rising}
use Rattle.measure_index.proofs.WalkLemmas.{all_qualifying}
use Rattle.measure_index.proofs.walk.Walk.new.Goals as goal

pub returns-clause-left : goal.returns-clause-left
returns-clause-left c =
    all_qualifying c.args.bound.now c.args.direction (entries_at c.args.kind c.args.scale c.args.keys)
    (rising c.args.kind c.args.scale c.args.keys c.requires.rising)
