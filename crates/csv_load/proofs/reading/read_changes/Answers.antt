use Rattle.std.proofs.Common.{◌∙◌, ◌≡◌, ◌<◌, ◌∷◌, List, sym, ap, arith, length, ◌+◌, ◌^◌, Ok}
use Rattle.std.specs.Prelude.{Err, IfSome}
use Rattle.std.proofs.lemmas.List.{length_push}
use Rattle.std.proofs.lemmas.Result.{err_from_is_err_and}
use Rattle.csv.specs.Records.{fields_of}
use Rattle.cube_defs.specs.Text.{Text}
use Rattle.csv_load.specs.Batch.{Change, change_with}
use Rattle.csv_load.specs.Faults.{fault_in}
use Rattle.csv_load.specs.Files.{change_in, changes_from}
use Rattle.text_lines.specs.Records.{bytes_in_all}
use Rattle.csv_load.proofs.Changing.{good-change, with-more}
use Rattle.csv_load.proofs.Columnar.{all-push, all_in, are-push}
use Rattle.csv_load.proofs.Names.{needed-some}
use Rattle.csv_load.proofs.Refusals.{fails-cons, fails-with, ok_with}
use Rattle.csv_load.proofs.reading.read_changes.Goals as goal

pub push_change-requires-clause-room : goal.push_change-requires-clause-room
push_change-requires-clause-room c =
    let left : c.records.rows ≡ fields_of c.next.new.row ∷ c.next.new.self
    = rw c.if-branch.true at c.in_ok-next.ensures.next in
    omega (arith, c.records.invariant.room, ap bytes_in_all left, c.requires.columns.size (fields_of c.next.new.row))

pub records-preserved : goal.records-preserved
records-preserved c =
    let inv = c.records.invariant in
    let layout = c.args.schema.now in
    let columns = c.args.columns.now in
    let dims = length layout.dims in
    let measures = length layout.measures in
    let fields = fields_of c.next.new.row in
    let e = c.in_ok-push_change.ensures.ok in
    let change = change_with e.0 e.1 in
    let left : c.records.rows ≡ fields ∷ c.next.new.self = rw c.if-branch.true at c.in_ok-next.ensures.next in
    let number : c.len.result + 1 ≡ 1 + length c.records.changes.ids.items = omega (arith, c.len.ensures) in
    let made : change_in columns.has_op layout columns.width columns.places.items
    (1 + length c.records.changes.ids.items) fields ≡ Ok change = rw number at e.2 in
    let more : length c.push_change.new.changes.ids.items ≡ length c.records.changes.ids.items + 1
    = ap length e.5.with_id ∙ length_push c.records.changes.ids.items e.1.id in
    let next : 1 + length c.push_change.new.changes.ids.items ≡ 1 + length c.records.changes.ids.items + 1
    = omega (arith, more) in
    let all = all-push dims measures e.0 e.1 c.records.changes c.push_change.new.changes inv.columns e.3 e.4 e.5 in
    let good = good-change columns.has_op layout columns.width columns.places.items
    (1 + length c.records.changes.ids.items) fields change
    (omega (arith, c.requires.columns.all, needed-some columns.has_op layout)) made in
    let room : length c.records.changes.ids.items + 1 < 2 ^ 32
    = omega (arith, inv.count, ap length left, c.requires.few) in
    record {
      changes = rw next
          (ap (λ (changes : List (Change Text)). ok_with changes
          (changes_from columns.has_op layout columns.width columns.places.items
          (1 + length c.records.changes.ids.items + 1) c.next.new.self)) all
          ∙ sym (with-more columns.has_op layout columns.width columns.places.items
          (1 + length c.records.changes.ids.items) (all_in dims measures c.records.changes) fields c.next.new.self
          change made) ∙ rw left at inv.changes);
      count = omega (arith, inv.count, ap length left, more);
      columns = are-push dims measures e.0 e.1 c.records.changes c.push_change.new.changes inv.columns e.3 e.4
          e.5 good room;
      room = omega (
        arith,
        inv.room,
        ap bytes_in_all left,
        c.in_ok-push_change.ensures.size,
        c.requires.columns.size fields,
      );
    }

pub returns-in_err-push_change-clause-gives : goal.returns-in_err-push_change-clause-gives
returns-in_err-push_change-clause-gives c =
    let layout = c.args.schema.now in
    let columns = c.args.columns.now in
    let named = fault_in c.in_err-push_change.field-0.0 in
    let before = all_in (length layout.dims) (length layout.measures) c.records.changes in
    let fields = fields_of c.next.new.row in
    let left : c.records.rows ≡ fields ∷ c.next.new.self = rw c.if-branch.true at c.in_ok-next.ensures.next in
    let number : c.len.result + 1 ≡ 1 + length c.records.changes.ids.items = omega (arith, c.len.ensures) in
    let first : IfSome named (λ fault. change_in columns.has_op layout columns.width columns.places.items
    (1 + length c.records.changes.ids.items) fields ≡ Err fault) = rw number at c.in_err-push_change.ensures.err in
    let whole = rw left at c.records.invariant.changes in
    let gives : IfSome named
    (λ fault. changes_from columns.has_op layout columns.width columns.places.items 1 c.args.rows.now ≡ Err fault)
    = rw (← whole)
    (fails-with named before
    (changes_from columns.has_op layout columns.width columns.places.items (1 + length c.records.changes.ids.items)
    (fields ∷ c.next.new.self))
    (fails-cons named (change_in columns.has_op layout columns.width columns.places.items
    (1 + length c.records.changes.ids.items) fields)
    (changes_from columns.has_op layout columns.width columns.places.items
    (1 + length c.records.changes.ids.items + 1) c.next.new.self) first)) in
    let p = err_from_is_err_and c.from_residual-in_err-push_change.result
    c.from_residual-in_err-push_change.ensures.1 in
    rw (p.1, p.2) gives
