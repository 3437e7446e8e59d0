use Rattle.std.proofs.Common.{◌≡◌, ◌∙◌, ap, length, sym}
use Rattle.std.proofs.lemmas.List.{length-map}
use Rattle.aggregates.specs.Views.{fraction_in, kind_in}
use Rattle.iceberg_query.specs.Asked.{bound_in}
use Rattle.warehouse.specs.State.{with_rows}
use Rattle.query_answers.specs.Queries.{classes_of}
use Rattle.query_answers.proofs.iceberg.answer_iceberg.Goals as goal

pub returns-clause-steps : goal.returns-clause-steps
returns-clause-steps g c = λ is rows has.
    let asked = classes_of (with_rows c.args.source.now.warehouse.now.state rows) (kind_in c.args.condition.kind)
    (bound_in c.args.condition.bound) (fraction_in c.args.condition.value) in
    let count : length asked ≡ length c.in_ok-classes.classes.items
    = ap length (sym (c.in_ok-classes.ensures.classes rows has)) ∙ length-map c.in_ok-classes.classes.items _ in
    rw count (c.in_ok-classes.ensures.steps is)

pub returns-clause-walked : goal.returns-clause-walked
returns-clause-walked g c = λ rows has.
    let asked = classes_of (with_rows c.args.source.now.warehouse.now.state rows) (kind_in c.args.condition.kind)
    (bound_in c.args.condition.bound) (fraction_in c.args.condition.value) in
    let count : length asked ≡ length c.in_ok-classes.classes.items
    = ap length (sym (c.in_ok-classes.ensures.classes rows has)) ∙ length-map c.in_ok-classes.classes.items _ in
    rw count (c.in_ok-classes.ensures.walked rows has)
