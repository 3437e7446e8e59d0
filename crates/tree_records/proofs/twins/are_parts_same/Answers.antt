use Rattle.std.proofs.Common.{arith}
use Rattle.std.proofs.lemmas.Option.{slice_get-get_or}
use Rattle.aggregates.specs.Views.{part_in}
use Rattle.tree_records.proofs.Lists.{alike_next}
use Rattle.tree_records.proofs.twins.are_parts_same.Goals as goal

pub measures-preserved : goal.measures-preserved
measures-preserved c =
    let parts = c.args.parts.now in
    let own = c.args.own.now in
    alike_next part_in part_in parts own c.measures.k _ _
    (slice_get-get_or parts c.measures.k _ (omega (arith, c.told-parts, c.measures-test.true)))
    (slice_get-get_or own c.measures.k _ (omega (arith, c.told-own, c.measures-test.true)))
    (c.is_part_same.ensures c.if-not-is_part_same.false) c.measures.invariant
