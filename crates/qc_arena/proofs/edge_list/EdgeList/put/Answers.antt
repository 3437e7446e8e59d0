use Rattle.std.proofs.Common.{◌<◌, arith, length, rules}
use Rattle.std.proofs.lemmas.List.{length-map}
use Rattle.qc_arena.specs.Edges.{edge_to, edges_to}
use Rattle.qc_arena.proofs.EdgeCounts.{few_stored}
use Rattle.qc_arena.proofs.edge_list.EdgeList.put.Goals as goal

pub returns-clause-fits : goal.returns-clause-fits
returns-clause-fits c =
    let few = few_stored c.put.new.edges.items c.put.ensures.rising in
    let long = length-map c.put.new.edges.items edge_to in
    let fits : length (edges_to c.put.new.edges.items) < 4294967296 = omega (arith, few, long) in
    search (rules, fits)
