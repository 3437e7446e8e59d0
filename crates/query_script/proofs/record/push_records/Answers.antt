use Rattle.std.proofs.Common.{◌∙◌, ◌≡◌, ◌∷◌, All, IsUtf8, sym, ap, arith}
use Rattle.std.specs.List.{flat_map}
use Rattle.std.proofs.lemmas.List.Elements.{All-head, All-rest, All-same}
use Rattle.std.proofs.lemmas.Result.{err_from_is_err_and}
use Rattle.csv.specs.Records.{fields_of}
use Rattle.text_lines.specs.Records.{bytes_in_all}
use Rattle.query_script.proofs.record.push_records.Goals as goal

pub push_fields-requires : goal.push_fields-requires
push_fields-requires c =
    let left : c.records.rows ≡ fields_of c.next.new.row ∷ c.next.new.self
    = rw c.if-branch.true at c.in_ok-next.ensures.next in
    record {
      text = All-head (All IsUtf8) (fields_of c.next.new.row) c.next.new.self
          (All-same (All IsUtf8) (fields_of c.next.new.row ∷ c.next.new.self) c.records.rows
          (sym left) c.records.invariant.text);
      size = omega (arith, ap bytes_in_all left, c.records.invariant.size);
    }

pub records-preserved : goal.records-preserved
records-preserved c =
    let left : c.records.rows ≡ fields_of c.next.new.row ∷ c.next.new.self
    = rw c.if-branch.true at c.in_ok-next.ensures.next in
    record {
      asked = c.in_ok-push_fields.ensures.ok (flat_map (λ fields. fields) c.next.new.self)
          ∙ rw left at c.records.invariant.asked;
      text = All-rest (All IsUtf8) (fields_of c.next.new.row) c.next.new.self c.records.rows left
          c.records.invariant.text;
      size = omega (arith, ap bytes_in_all left, c.records.invariant.size);
    }

pub returns-in_err-push_fields-clause-err : goal.returns-in_err-push_fields-clause-err
returns-in_err-push_fields-clause-err c =
    let left : c.records.rows ≡ fields_of c.next.new.row ∷ c.next.new.self
    = rw c.if-branch.true at c.in_ok-next.ensures.next in
    let so_far = rw left at c.records.invariant.asked in
    let fails = c.in_err-push_fields.ensures.err (flat_map (λ fields. fields) c.next.new.self) in
    let p = err_from_is_err_and c.from_residual-in_err-push_fields.result
    c.from_residual-in_err-push_fields.ensures.1 in
    rw (p.1, p.2, sym so_far) fails

pub returns-clause-ok : goal.returns-clause-ok
returns-clause-ok c =
    let none = rw c.if-branch.false at c.in_ok-next.ensures.next in
    rw none.0 at c.records.invariant.asked
