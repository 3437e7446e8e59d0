use Rattle.std.proofs.Common.{◌∙◌, ◌≡◌, ◌≤◌, ◌+◌, sym, ap, ap₂, arith, length, Some, Err, get_or, [], Bool, ℕ, Result, subst}
use Rattle.std.specs.Prelude.{Option, IfSome}
use Rattle.std.proofs.lemmas.Result.{err_from_is_err_and}
use Rattle.cube_defs.specs.Text.{Text}
use Rattle.csv_load.specs.Batch.{Change}
use Rattle.csv_load.specs.Faults.{Fault, fault_in}
use Rattle.csv.specs.Records.{fields_of}
use Rattle.aggregates.specs.Numbers.{id_in}
use Rattle.csv_load.specs.Columns.{fields_at}
use Rattle.csv_load.specs.Files.{amounts_of, change_in, change_with_id, deletion_of, tuple_of}
use Rattle.text_lines.specs.Records.{bytes_in}
use Rattle.csv_load.proofs.Changing.{change-text}
use Rattle.csv_load.proofs.Names.{length-at, needed-some}
use Rattle.csv_load.proofs.Ranges.{length-range}
use Rattle.csv_load.proofs.Sizes.{room-all}
use Rattle.csv_load.proofs.reading.push_change.Goals as goal

pub returns-clause-ok : goal.returns-clause-ok
returns-clause-ok c =
    let layout = c.args.schema.now in
    let columns = c.args.columns.now in
    let fields = fields_at columns.places.items (fields_of c.args.fields.now) in
    let amounts = c.in_ok-push_amounts_or_zeros.ensures.ok in
    let width : length (fields_of c.args.fields.now) ≡ columns.width
    = omega (arith, c.len.ensures, c.if-len-columns.false) in
    let kind : deletion_of columns.has_op layout fields ≡ Some c.in-Some.deletes = sym c.in-Some.ensures in
    let id : id_in (get_or fields 0 []) ≡ Some c.in-Some-read_id.id
    = rw c.needed.ensures at (sym c.in-Some-read_id.ensures) in
    let many : 1 + length layout.dims ≤ length fields
    = omega (
      arith,
      c.requires.columns.all,
      needed-some columns.has_op layout,
      length-at columns.places.items (fields_of c.args.fields.now),
    ) in (
      c.in-Some.deletes,
      record { id = c.in-Some-read_id.id; tuple = tuple_of layout fields; amounts = amounts.0 },
      change-text columns.has_op layout columns.width columns.places.items c.args.number
          (fields_of c.args.fields.now) width c.in_ok-are_short.ensures.utf8
          ∙ ap₂ (λ (k : Option Bool) (i : Option ℕ). change_with_id c.args.number k i (tuple_of layout fields)
          (amounts_of layout fields)) kind id
          ∙ amounts.3 c.in-Some-read_id.id,
      length-range fields 1 (1 + length layout.dims) (omega arith) many ∙ omega arith,
      amounts.1,
      record {
        with_id = c.in_ok-push_id.ensures.ids;
        with_kind = c.in_ok-push_id.ensures.deletes;
        with_texts
            = c.in_ok-push_id.ensures.texts ∙ c.in_ok-are_short.ensures.ok;
        with_amounts = c.in_ok-push_id.ensures.amounts
            ∙ amounts.2;
      },
    )

pub returns-clause-size : goal.returns-clause-size
returns-clause-size c =
    omega (
      arith,
      ap bytes_in c.in_ok-push_id.ensures.texts,
      room-all c.push_texts.new.texts c.args.changes.now.texts
          (fields_at c.args.columns.now.places.items (fields_of c.args.fields.now)) 1 (1 + length c.args.schema.now.dims)
          c.in_ok-are_short.ensures.ok,
    )

pub returns-in_err-push_amounts_or_zeros-clause-err : goal.returns-in_err-push_amounts_or_zeros-clause-err
returns-in_err-push_amounts_or_zeros-clause-err c =
    let layout = c.args.schema.now in
    let columns = c.args.columns.now in
    let fields = fields_at columns.places.items (fields_of c.args.fields.now) in
    let width : length (fields_of c.args.fields.now) ≡ columns.width
    = omega (arith, c.len.ensures, c.if-len-columns.false) in
    let kind : deletion_of columns.has_op layout fields ≡ Some c.in-Some.deletes = sym c.in-Some.ensures in
    let id : id_in (get_or fields 0 []) ≡ Some c.in-Some-read_id.id
    = rw c.needed.ensures at (sym c.in-Some-read_id.ensures) in
    let same : change_in columns.has_op layout columns.width columns.places.items c.args.number
    (fields_of c.args.fields.now) ≡ change_with_id c.args.number (Some c.in-Some.deletes) (Some c.in-Some-read_id.id)
    (tuple_of layout fields) (amounts_of layout fields) =
    change-text columns.has_op layout columns.width columns.places.items c.args.number
    (fields_of c.args.fields.now) width c.in_ok-are_short.ensures.utf8
    ∙ ap₂ (λ (k : Option Bool) (i : Option ℕ). change_with_id c.args.number k i (tuple_of layout fields)
    (amounts_of layout fields)) kind id in
    let Names : Result (Change Text) Fault → Type 0
    = λ read. IfSome (fault_in c.in_err-push_amounts_or_zeros.field-0.0) (λ fault. read ≡ Err fault) in
    let names : Names (change_in columns.has_op layout columns.width columns.places.items c.args.number
    (fields_of c.args.fields.now))
    = subst Names (sym same) (c.in_err-push_amounts_or_zeros.ensures.err c.in-Some-read_id.id) in
    let p = err_from_is_err_and c.from_residual-in_err-push_amounts_or_zeros.result
    c.from_residual-in_err-push_amounts_or_zeros.ensures.1 in
    rw (p.1, p.2) names
