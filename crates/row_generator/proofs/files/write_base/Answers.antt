use Rattle.std.proofs.Common.{◌≡◌, ◌∙◌, ap, ℕ, List, ◌++◌}
use Rattle.std.specs.Prelude.{codes}
use Rattle.row_generator.specs.Generator.{base_text}
use Rattle.row_generator.proofs.files.write_base.Goals as goal

pub returns-clause-text : goal.returns-clause-text
unfolding base_text
returns-clause-text c =
    let header = codes "id,a,b,c,d,e,amount\n" in
    let begun : c.extend_from_slice.new.self.items ≡ header = c.in_ok-extend_from_slice.ensures.items
    ∙ ap (λ (z : List ℕ). z ++ header) c.clear.ensures.items in
    rw begun at c.push_rows.ensures.text
