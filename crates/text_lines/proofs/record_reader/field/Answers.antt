use Rattle.std.proofs.Common.{◌∙◌, ◌≡◌, get_or, [], Some, Bor, List, ℕ}
use Rattle.csv.specs.Records.{fields_of}
use Rattle.text_lines.proofs.Fields.{field-at, mapped-some}
use Rattle.text_lines.proofs.record_reader.field.Goals as goal

pub unwrap-requires : goal.unwrap-requires
unwrap-requires c = mapped-some (λ (s : Bor (List ℕ)). s.now) c.get.result
    (get_or (fields_of c.args.row.now) c.args.at []) (c.get.ensures.value
    ∙ field-at (fields_of c.args.row.now) c.args.at c.requires)

pub returns : goal.returns
returns c =
    let e : Some c.unwrap.result.now ≡ Some (get_or (fields_of c.args.row.now) c.args.at [])
    = rw c.unwrap.ensures at (c.get.ensures.value ∙ field-at (fields_of c.args.row.now) c.args.at c.requires) in
    cc
