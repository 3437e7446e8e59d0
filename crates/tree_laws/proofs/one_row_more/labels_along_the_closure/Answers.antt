use Rattle.cube_laws.proofs.CallerLemmas.{equality_by, length-cell_prefix}
use Rattle.std.proofs.Common.{arith}
use Rattle.tree_laws.proofs.Leads.{lead_chain}
use Rattle.tree_laws.proofs.OneRow.{chain_label, chain_own}
use Rattle.tree_laws.proofs.one_row_more.labels_along_the_closure.Goals as goal

pub returns-clause-same : goal.returns-clause-same
returns-clause-same g c =
    λ rows p u i v e d l m. lead_chain (equality_by g.met.V.Ord.total g.met.V.Value.apart) rows p u i v e d l
    (omega (arith, length-cell_prefix i u))

pub returns-clause-record : goal.returns-clause-record
returns-clause-record g c =
    λ measures rows p u x e d l. chain_label g.met.V.Ord.total g.met.V.Value.apart measures rows p u x e d l

pub returns-clause-own : goal.returns-clause-own
returns-clause-own g c =
    λ xs ys r p u i e f d l k. chain_own g.met.V.Ord.total g.met.V.Value.apart xs r ys p u i e f d l k
