use Rattle.std.proofs.Common.{◌≡◌, ◌∙◌, ap, ℕ, ◌+◌, ◌*◌, List, ◌++◌}
use Rattle.std.specs.Prelude.{codes}
use Rattle.row_generator.specs.Generator.{batch_text, deletions_text}
use Rattle.row_generator.proofs.files.write_batch.Goals as goal

pub returns-clause-text : goal.returns-clause-text
unfolding batch_text
returns-clause-text c =
    let header = codes "op,id,a,b,c,d,e,amount\n" in
    let count = c.rows_of_batch-count.result in
    let gone = deletions_text count (c.args.before * count + 1) in
    let begun : c.extend_from_slice.new.self.items ≡ header = c.in_ok-extend_from_slice.ensures.items
    ∙ ap (λ (z : List ℕ). z ++ header) c.clear.ensures.items in
    let deleted : c.push_deletions.new.out.items ≡ header ++ gone = c.in_ok-push_deletions.ensures.text
    ∙ ap (λ (z : List ℕ). z ++ gone) begun in
    rw (← c.rows_of_batch-count.ensures.rows) (rw deleted at c.push_rows.ensures.text)
