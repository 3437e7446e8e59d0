use Rattle.std.proofs.Common.{◌≡◌, ◌∷◌, ap, arith, length}
use Rattle.csv.specs.Records.{fields_of}
use Rattle.text_lines.specs.Records.{bytes_in_all}
use Rattle.csv_load.proofs.files.read_records.Goals as goal

pub read_changes-requires-clause-few : goal.read_changes-requires-clause-few
read_changes-requires-clause-few c =
    let left : c.args.rows.now ≡ fields_of c.next.new.row ∷ c.next.new.self
    = rw c.if-not-branch.false at c.in_ok-next.ensures.next in
    omega (arith, c.requires.few, ap length left)

pub read_changes-requires-clause-room : goal.read_changes-requires-clause-room
read_changes-requires-clause-room c =
    let left : c.args.rows.now ≡ fields_of c.next.new.row ∷ c.next.new.self
    = rw c.if-not-branch.false at c.in_ok-next.ensures.next in
    omega (arith, c.requires.room, ap bytes_in_all left)
