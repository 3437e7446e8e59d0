use Rattle.std.proofs.Common.{◌∙◌, sym, ap, arith, length}
use Rattle.query_script.proofs.Asked.{record-asks, rows-text}
use Rattle.query_script.proofs.record.read_records.Goals as goal

pub push_records-pushed-requires : goal.push_records-pushed-requires
push_records-pushed-requires c = record {
  text = rows-text c.as_bytes.result.now c.new-rows.result c.as_bytes.ensures.utf8 c.new-rows.ensures.records;
  size = omega (arith, c.new-rows.ensures.size, ap length c.as_bytes.ensures.value, c.args.rest.now.short);
}

pub returns-in-Ok : goal.returns-in-Ok
returns-in-Ok c =
    let so_far = rw (c.in-Ok.is, c.new.ensures) at c.push_records-pushed.ensures.ok in
    let whole = record-asks c.args.shape c.args.dims c.args.rest.now.text.now c.as_bytes.result.now c.new-rows.result
    c.as_bytes.ensures.value c.requires c.new-rows.ensures.records ∙ sym so_far in
    rw whole c.check_count.ensures

pub returns-in-Err : goal.returns-in-Err
returns-in-Err c =
    let whole = record-asks c.args.shape c.args.dims c.args.rest.now.text.now c.as_bytes.result.now c.new-rows.result
    c.as_bytes.ensures.value c.requires c.new-rows.ensures.records in
    rw whole (rw (c.in-Err.is, c.new.ensures) at c.push_records-pushed.ensures.err)
