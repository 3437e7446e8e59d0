use Rattle.base_table.specs.Places.{named}
use Rattle.std.specs.Mem.{manually_drop_value}
use Rattle.cell_closure.proofs.Copies.{amounts_fit, amounts_are, amounts_small}
use Rattle.cell_closure.proofs.sorted_rows.SortedRows.amounts.Goals as goal

pub line-requires : goal.line-requires
line-requires c =
    let s = c.self.inside in
    amounts_fit s.dims s.measures s.count s.codes.items s.amounts.items
    (named (manually_drop_value s.table).value (manually_drop_value s.numbers).value.items) c.self.invariant
    c.args.self.now c.self.view_is c.args.row.0 c.requires.row

pub returns-clause-value : goal.returns-clause-value
returns-clause-value c =
    let s = c.self.inside in
    amounts_are s.dims s.measures s.count s.codes.items s.amounts.items
    (named (manually_drop_value s.table).value (manually_drop_value s.numbers).value.items) c.self.invariant
    c.args.self.now c.self.view_is c.args.row.0 c.requires.row c.line.result.now c.line.ensures.value

pub returns-clause-small : goal.returns-clause-small
returns-clause-small c =
    let s = c.self.inside in
    amounts_small s.dims s.measures s.count s.codes.items s.amounts.items
    (named (manually_drop_value s.table).value (manually_drop_value s.numbers).value.items) c.self.invariant
    c.args.self.now c.self.view_is c.args.row.0 c.requires.row c.line.result.now c.line.ensures.value
