use Rattle.std.proofs.Common.{◌∙◌, ◌<◌, ap, ap₂, arith, length, sym}
use Rattle.std.proofs.lemmas.Bool.{eqb-false}
use Rattle.aggregates.specs.Views.{kind_in}
use Rattle.iceberg_query.specs.Asked.{bound_in}
use Rattle.qc_schema.proofs.CallerLemmas.{dims-few}
use Rattle.query_script.specs.Faults.{line_fault_in}
use Rattle.query_script.specs.Records.{record_in}
use Rattle.query_script.specs.Rollups.{value_at, with_record, with_value}
use Rattle.query_script.specs.declared.record.Shape.TheVariants as shapes
use Rattle.query_script.proofs.LowFaults.{low-cause, record-low, value-there}
use Rattle.query_script.proofs.rollup.read_value.Goals as goal

pub shift_field-requires-clause-low : goal.shift_field-requires-clause-low
shift_field-requires-clause-low c =
    let dims = length c.args.schema.now.dims in
    low-cause (line_fault_in c.in-Err.cause) (record_in shapes.Cell dims c.split.result.1.text.now)
    (λ fault e. record-low shapes.Cell dims c.split.result.1.text.now fault
    (omega (arith, dims-few c.args.schema.now c.dims-dims.ensures.layout)) e) c.in-Err.ensures

pub returns-in-Some : goal.returns-in-Some
returns-in-Some c =
    let kind = kind_in c.args.kind in
    let bound = bound_in c.args.bound in
    let word = c.split.result.0.now in
    let some : 0 < length word = omega (arith, eqb-false (length word) 0 (sym c.if-is_empty.ensures)) in
    ap₂ (value_at (length c.args.schema.now.dims) kind bound c.args.place) (sym c.split.ensures.word)
    (sym c.split.ensures.rest)
    ∙ value-there (length c.args.schema.now.dims) kind bound c.args.place word c.split.result.1.text.now some
    ∙ ap (with_record kind bound c.args.place word) c.in-Ok.ensures
    ∙ ap (with_value kind bound c.in-Ok.fields) (rw c.as_bytes.ensures.value at (sym c.in-Some.ensures))
