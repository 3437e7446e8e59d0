use Rattle.std.proofs.Common.{◌∙◌, ◌+◌, drop, length, sym}
use Rattle.std.proofs.lemmas.Bool.{not-false}
use Rattle.csv_load.specs.FileRows.{needed_of}
use Rattle.csv_load.proofs.Amounts.{amounts-are}
use Rattle.csv_load.proofs.Changing.{makes-insertion}
use Rattle.csv_load.proofs.reading.push_amounts_or_zeros.Goals as goal

pub returns-clause-ok : goal.returns-clause-ok
returns-clause-ok c =
    let layout = c.args.row.now.schema.now in
    let fields = needed_of c.args.row.now in
    let e = c.in_ok-push_amounts.ensures.ok in
    let are = amounts-are layout.measures (drop (1 + length layout.dims) fields) e.0 e.1 in (
      e.0,
      are.0,
      e.2,
      makes-insertion layout c.args.row.now.number fields c.args.operation.deletes e.0 c.if-operation.false e.1
          (sym c.requires ∙ not-false c.args.operation.are_short c.if-not-operation.false),
    )
