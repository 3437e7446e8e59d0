use Rattle.std.proofs.Common.{◌≡◌, ◌∙◌, ◌++◌, ◌∷◌, [], ap, List, ℕ}
use Rattle.std.specs.Prelude.{codes}
use Rattle.qc_schema.specs.Grammar.{schema_in}
use Rattle.qc_schema.specs.Schema.{version_word}
use Rattle.qc_schema.specs.Spelling.{layout_text, line_text}
use Rattle.qc_schema.proofs.Returning.{read-again}
use Rattle.qc_schema.proofs.Spelled.{text-spelled}
use Rattle.qc_schema.proofs.spelling.schema_text.Goals as goal

spelled : (c : goal.In_ok-push_limits) → c.push_limits.new.text.items ≡ layout_text c.args.schema.now
spelled c =
    let version_line : List ℕ = line_text (codes "qcube" ∷ version_word c.args.schema.now.version ∷ []) in
    text-spelled c.args.schema.now _ _ _ _ _ _
    (c.in_ok-push_version.ensures ∙ ap (λ (xs : List ℕ). xs ++ version_line) c.in_ok-text.ensures.items)
    (c.in_ok-push_pair.ensures ∙ ap (λ (x : List ℕ). c.push_version.new.text.items ++ line_text (codes "id" ∷ x ∷ []))
    (c.as_bytes.ensures.value ∙ c.id_name.ensures))
    (c.in_ok-push_dims.ensures)
    (c.in_ok-push_measures.ensures)
    (c.in_ok-push_indexes.ensures)
    (c.in_ok-push_limits.ensures)

pub returns-clause-text : goal.returns-clause-text
returns-clause-text c = spelled c

pub returns-clause-again : goal.returns-clause-again
returns-clause-again c = ap schema_in (spelled c) ∙ read-again c.args.schema.now c.dims-dims.ensures.layout
