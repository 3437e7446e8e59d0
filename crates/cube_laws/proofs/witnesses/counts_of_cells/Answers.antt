use Rattle.cube_laws.proofs.Counts.{count_decides, count_mono, same_count}
use Rattle.cube_laws.proofs.Orders.{equality_of}
use Rattle.cube_laws.proofs.witnesses.counts_of_cells.Goals as goal

pub returns-clause-fewer : goal.returns-clause-fewer
returns-clause-fewer g c = let law = equality_of g.met.V.Ord.total g.met.V.Value.apart g.met.V.Ord.matches_eq in
    count_mono law

pub returns-clause-same_rows : goal.returns-clause-same_rows
returns-clause-same_rows g c = let law = equality_of g.met.V.Ord.total g.met.V.Value.apart g.met.V.Ord.matches_eq in
    same_count law

pub returns-clause-values : goal.returns-clause-values
returns-clause-values g c = let law = equality_of g.met.V.Ord.total g.met.V.Value.apart g.met.V.Ord.matches_eq in
    count_decides law
