use Rattle.std.proofs.Common.{◌≡◌, ℕ, ◌-◌, ◌<◌, ◌∙◌, arith, length, subst, sym, true}
use Rattle.qc_arena.specs.declared.edge.StoredEdge.{StoredEdge}
use Rattle.qc_arena.specs.Edges.{edge_in, edge_to}
use Rattle.qc_arena.specs.RecordReaders.{label_lt}
use Rattle.qc_arena.proofs.Halving.{up_to}
use Rattle.qc_arena.proofs.edges.comes_last.Goals as goal

-- the last edge comes before, and so do all
pub returns-else-len-eq0 : goal.returns-else-len-eq0
returns-else-len-eq0 c = λ before k d l.
    let n : ℕ = length c.args.edges.now in
    let some : 0 < n = omega (arith, l) in
    up_to c.args.edges.now (edge_in c.args.edge) (n - 1) c.index-edges-len.result c.requires (omega (arith, some))
    (subst (λ (y : StoredEdge). label_lt (edge_to y) (edge_in c.args.edge) ≡ true) c.index-edges-len.is
    (sym c.comes_before.ensures ∙ before)) k d (omega (arith, l))
