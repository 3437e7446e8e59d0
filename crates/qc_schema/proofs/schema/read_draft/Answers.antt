use Rattle.std.proofs.Common.{◌≡◌, ◌∙◌, length, map, ap, sym, subst, arith, List, ℕ, Ok, Err, Result}
use Rattle.std.specs.Prelude.{IfSome}
use Rattle.std.proofs.lemmas.Bool.{eqb-true}
use Rattle.std.proofs.lemmas.List.{length-map}
use Rattle.qc_schema.specs.Grammar.{read_lines, start, take_line}
use Rattle.text_lines.specs.Lines.{lines_of, without_cr}
use Rattle.qc_schema.specs.Schema.{Layout}
use Rattle.qc_schema.specs.Progress.{Fault, Progress, cause_in, measure_in, refused_at, schema_fault_in, progress_in}
use Rattle.qc_schema.proofs.Keeping.{few-kept, line-kept, start-kept}
use Rattle.qc_schema.proofs.Reading.{read-end, read-fails, read-more, read-short}
use Rattle.qc_schema.proofs.schema.read_draft.Goals as goal

pub lines-init : goal.lines-init
lines-init c =
    let same : progress_in c.new-reader.result ≡ start = c.new-reader.ensures in
    record {
      read = ap (λ (s : Progress). read_lines (map without_cr (lines_of c.args.text.now)) 1 s) same;
      keeps = rw same start-kept;
      small = omega arith;
    }

pub read_line-requires : goal.read_line-requires
read_line-requires c = omega (
  arith,
  length-map c.lines.reader.draft.measures.items measure_in,
  few-kept (progress_in c.lines.reader) c.lines.invariant.keeps,
)

pub returns-in-Err : goal.returns-in-Err
returns-in-Err c =
    let P : List ℕ → Type 0
    = λ line. IfSome (cause_in c.in-Err.refused) (λ cause. take_line (progress_in c.lines.reader) line
    ≡ Err cause) in
    let Q : Result Layout Fault → Type 0
    = λ read. IfSome (schema_fault_in (refused_at c.lines.line c.in-Err.refused)) (λ fault. read ≡ Err fault) in
    rw c.at.ensures (subst Q c.lines.invariant.read
    (read-fails c.lines.rest.now c.split_line.result.0.now c.split_line.result.1.now c.lines.line
    (progress_in c.lines.reader) c.in-Err.refused c.split_line.ensures.lines
    (subst P c.trim_cr.ensures.value c.in-Err.ensures)))

pub lines-preserved : goal.lines-preserved
lines-preserved c =
    let taken : take_line (progress_in c.lines.reader) (without_cr c.split_line.result.0.now)
    ≡ Ok (progress_in c.read_line.new.self) =
    ap (take_line (progress_in c.lines.reader)) (sym c.trim_cr.ensures.value) ∙ c.in_default.ensures in
    record {
      read = sym (read-more c.lines.rest.now c.split_line.result.0.now c.split_line.result.1.now c.lines.line
          (progress_in c.lines.reader) (progress_in c.read_line.new.self) c.split_line.ensures.lines taken)
          ∙ c.lines.invariant.read;
      keeps = line-kept (progress_in c.lines.reader) (progress_in c.read_line.new.self)
          (without_cr c.split_line.result.0.now) c.lines.invariant.keeps taken;
      small = omega (arith, c.split_line.ensures.shorter, c.lines.invariant.small);
    }

pub returns-then-not-may_end : goal.returns-then-not-may_end
returns-then-not-may_end c =
    let none : length c.lines.rest.now ≡ 0 = eqb-true (length c.lines.rest.now) 0 (sym c.lines-test.ensures) in
    sym c.lines.invariant.read ∙ read-short c.lines.rest.now c.lines.line (progress_in c.lines.reader) none
    (sym c.if-not-may_end.ensures)

pub returns : goal.returns
returns c =
    let none : length c.lines.rest.now ≡ 0 = eqb-true (length c.lines.rest.now) 0 (sym c.lines-test.ensures) in
    sym c.lines.invariant.read ∙ read-end c.lines.rest.now c.lines.line (progress_in c.lines.reader) none
    (sym c.if-not-may_end.ensures)
