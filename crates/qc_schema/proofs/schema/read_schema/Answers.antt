use Rattle.std.proofs.Common.{◌≡◌, ◌∙◌, map, ap, sym, List, ℕ}
use Rattle.std.proofs.lemmas.Result.{err_from_is_err_and}
use Rattle.qc_schema.specs.Grammar.{read_lines, schema_in, start}
use Rattle.qc_schema.specs.Lines.{schema_lines}
use Rattle.text_lines.specs.Lines.{lines_of, without_cr, without_mark}
use Rattle.qc_schema.proofs.Keeping.{read-layout, start-kept}
use Rattle.qc_schema.proofs.Reading.{schema-bytes, schema-text}
use Rattle.qc_schema.proofs.schema.read_schema.Goals as goal

pub returns-in_default : goal.returns-in_default
returns-in_default c = schema-bytes c.args.bytes.now c.in_default.ensures.cases.0

pub invariant_of-result : goal.invariant_of-result
invariant_of-result c = read-layout _ _ _ _ start-kept c.in_ok-draft.ensures

pub returns : goal.returns
returns c =
    let same : schema_lines c.args.bytes.now ≡ map without_cr (lines_of c.trim_byte_order_mark.result.now)
    = ap (λ (bs : List ℕ). map without_cr (lines_of bs))
    (ap without_mark (sym c.in-Ok.ensures.cases.0 ∙ sym c.as_bytes.ensures.value)
    ∙ sym c.trim_byte_order_mark.ensures) in
    schema-text c.args.bytes.now c.in-Ok.ensures.cases.1 ∙ ap (λ (ls : List (List ℕ)). read_lines ls 1 start) same
    ∙ c.in_ok-draft.ensures

pub returns-in_err-draft : goal.returns-in_err-draft
returns-in_err-draft c =
    let same : schema_lines c.args.bytes.now ≡ map without_cr (lines_of c.trim_byte_order_mark.result.now)
    = ap (λ (bs : List ℕ). map without_cr (lines_of bs))
    (ap without_mark (sym c.in-Ok.ensures.cases.0 ∙ sym c.as_bytes.ensures.value)
    ∙ sym c.trim_byte_order_mark.ensures) in
    let whole : schema_in c.args.bytes.now
    ≡ read_lines (map without_cr (lines_of c.trim_byte_order_mark.result.now)) 1 start =
    schema-text c.args.bytes.now c.in-Ok.ensures.cases.1 ∙ ap (λ (ls : List (List ℕ)). read_lines ls 1 start) same in
    let p = err_from_is_err_and c.from_residual.result c.from_residual.ensures.1 in
    rw (p.1, p.2, whole) c.in_err-draft.ensures
