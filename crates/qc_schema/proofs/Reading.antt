-- The lines of a text, one after the other.
use Rattle.std.proofs.Common.{◌≡◌, ◌+◌, ℕ, List, ◌∷◌, length, map, refl, true, false, Ok, Err, inl, inr}
use Rattle.std.specs.Prelude.{IfSome, IsUtf8}
use Rattle.std.specs.Str.{is_utf8}
use Rattle.std.proofs.lemmas.Bool.{cases_Bool}
use Rattle.std.proofs.lemmas.List.{nil_from_length}
use Rattle.std.proofs.lemmas.Str.{is_utf8-from_IsUtf8, IsUtf8-from_is_utf8}
use Rattle.qc_schema.specs.Grammar.{may_end, read_lines, schema_in, start, take_line}
use Rattle.qc_schema.specs.Lines.{schema_lines}
use Rattle.text_lines.specs.Lines.{lines_of, without_cr}
use Rattle.qc_schema.specs.Progress.{Line, NotUtf8, Progress, cause_in, refused_at, schema_fault_in}
use Rattle.qc_schema.specs.declared.refusal.SchemaLineRefused.{SchemaLineRefused}
use Rattle.qc_schema.specs.declared.refusal.SchemaLineRefused.TheVariants as faults
use Rattle.qc_schema.specs.declared.refusal.SchemaCause.{SchemaCause}
use Rattle.qc_schema.specs.declared.refusal.SchemaCause.TheVariants.{End}

pub read-more : (text first behind : List ℕ) (n : ℕ) (s t : Progress) → lines_of text ≡ first ∷ lines_of behind
    → take_line s (without_cr first) ≡ Ok t
    → read_lines (map without_cr (lines_of text)) n s ≡ read_lines (map without_cr (lines_of behind)) (n + 1) t
unfolding read_lines
read-more text first behind n s t e h = rw (e, h) refl

read-fault : (text first behind : List ℕ) (n : ℕ) (s : Progress) (cause : SchemaCause)
    → lines_of text ≡ first ∷ lines_of behind → take_line s (without_cr first) ≡ Err cause
    → read_lines (map without_cr (lines_of text)) n s ≡ Err (Line n cause)
unfolding read_lines
read-fault text first behind n s cause e h = rw (e, h) refl

pub read-fails : (text first behind : List ℕ) (n : ℕ) (s : Progress) (refused : SchemaLineRefused)
    → lines_of text ≡ first ∷ lines_of behind
    → IfSome (cause_in refused) (λ cause. take_line s (without_cr first) ≡ Err cause)
    → IfSome (schema_fault_in (refused_at n refused))
    (λ fault. read_lines (map without_cr (lines_of text)) n s ≡ Err fault)
read-fails text first behind n s faults.Memory e h = tt
read-fails text first behind n s (faults.Cause cause) e h = read-fault text first behind n s cause e h

pub read-end : (text : List ℕ) (n : ℕ) (s : Progress) → length text ≡ 0 → may_end s.stage ≡ true
    → read_lines (map without_cr (lines_of text)) n s ≡ Ok s.layout
unfolding read_lines
read-end text n s none may = rw (nil_from_length text none, may) refl

pub read-short : (text : List ℕ) (n : ℕ) (s : Progress) → length text ≡ 0 → may_end s.stage ≡ false
    → read_lines (map without_cr (lines_of text)) n s ≡ Err (Line n End)
unfolding read_lines
read-short text n s none may = rw (nil_from_length text none, may) refl

pub schema-text : (bytes : List ℕ) → IsUtf8 bytes → schema_in bytes ≡ read_lines (schema_lines bytes) 1 start
schema-text bytes utf8 = rw (is_utf8-from_IsUtf8 bytes utf8) refl

pub schema-bytes : (bytes : List ℕ) → ¬ (IsUtf8 bytes) → schema_in bytes ≡ Err NotUtf8
schema-bytes bytes h = elim (cases_Bool (is_utf8 bytes)) [
  | inl e ↦ absurd (h (IsUtf8-from_is_utf8 bytes e))
  | inr e ↦ rw e refl
]
