use Rattle.std.proofs.Common.{◌∙◌, [], false, sym, ℕ}
use Rattle.std.proofs.lemmas.List.{get_or_default}
use Rattle.cube_defs.specs.Rows.{Row}
use Rattle.base_table.proofs.group.with_place.Goals as goal

pub with_row-requires-clause-few : goal.with_row-requires-clause-few
with_row-requires-clause-few c =
    let d : Row ℕ = record { id = 0; tuple = []; amounts = [] } in
    c.requires.few (get_or_default c.args.here.now.items c.args.place false c.index.result.now c.requires.place
    ∙ sym c.index.ensures ∙ c.if-not-index.false) d (sym (c.has_tuple.ensures d) ∙ c.if-not-has_tuple.false)
