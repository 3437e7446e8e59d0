use Rattle.std.proofs.Common.{◌≡◌, ◌+◌, ◌≤◌, ℕ, ap, arith, get_or}
use Rattle.qc_arena.specs.declared.edge.StoredEdge.{StoredEdge}
use Rattle.qc_arena.specs.Edges.{edge_in, edge_to, rank}
use Rattle.qc_arena.proofs.Halving.{from_gap, from_place}
use Rattle.qc_arena.proofs.edges.last_place.Goals as goal

pub returns-then-gap-len-clause-later : goal.returns-then-gap-len-clause-later
returns-then-gap-len-clause-later c = λ k d q l.
    let m : ℕ = c.saturating_sub-gap.result in
    let x = c.index-edges-0.result in
    let first : rank (edge_to x) ≡ rank (edge_to (get_or c.args.edges.now 0 x))
    = ap (λ (y : StoredEdge). rank (edge_to y)) c.index-edges-0.is in
    let few : rank (edge_in c.args.edge) ≤ m + rank (edge_to (get_or c.args.edges.now 0 x))
    = omega (arith, first, c.rank.ensures, c.rank-2.ensures, c.saturating_sub-gap.ensures) in
    from_place c.args.edges.now (edge_in c.args.edge) m x c.requires
    (from_gap c.args.edges.now (edge_in c.args.edge) m x c.requires (omega (arith, q, l)) few) k d q l
