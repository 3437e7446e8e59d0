use Rattle.std.proofs.Common.{◌≤◌, ap, arith, length}
use Rattle.text_lines.proofs.CallerLemmas.{no_longer}
use Rattle.csv_load.proofs.files.read_file.Goals as goal

pub read_records-requires-clause-few : goal.read_records-requires-clause-few
read_records-requires-clause-few c =
    let size : length c.trim_byte_order_mark.result.now ≤ length c.args.bytes.now
    = omega (arith, ap length c.trim_byte_order_mark.ensures, no_longer c.args.bytes.now) in
    omega (arith, c.requires, c.new-rows.ensures.few, size)

pub read_records-requires-clause-room : goal.read_records-requires-clause-room
read_records-requires-clause-room c =
    let size : length c.trim_byte_order_mark.result.now ≤ length c.args.bytes.now
    = omega (arith, ap length c.trim_byte_order_mark.ensures, no_longer c.args.bytes.now) in
    omega (arith, c.requires, c.new-rows.ensures.size, size)
