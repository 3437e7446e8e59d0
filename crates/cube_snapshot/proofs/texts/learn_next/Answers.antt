use Rattle.std.proofs.Common.{◌≡◌, ◌≤◌, ◌∙◌, ◌++◌, ◌∷◌, [], ap, arith, length}
use Rattle.cube_defs.specs.Text.{Text}
use Rattle.std.specs.Prelude.{List}
use Rattle.value_dict.specs.TextLists.{TextLists, learnt_in, list_at}
use Rattle.cube_snapshot.proofs.NextText.{allowed_more, known_again, learnt_code, learnt_list, learnt_new, was_known, was_new}
use Rattle.cube_snapshot.proofs.texts.learn_next.Goals as goal

pub returns-then-code-place-clause-allowed : goal.returns-then-code-place-clause-allowed
returns-then-code-place-clause-allowed c =
    let d = c.args.dict.now in
    let d' = c.learn.new.self in
    let dim = c.args.dim in
    let list = list_at d dim in
    let text = c.args.bytes.now in
    let is : list_at d' dim ≡ learnt_in list text
    = learnt_list d d' dim c.in-Ok.value.now text c.requires.dim c.in-Ok-learn.ensures.ok c.in-Ok.ensures.cases.0 in
    let code = learnt_code d d' dim c.in-Ok.value.now text c.in-Ok-learn.code c.requires.dim c.in-Ok-learn.ensures.ok
    c.in-Ok.ensures.cases.0 c.in-Ok-learn.ensures.code in
    let new = was_new list text c.in-Ok-learn.code code (omega (arith, c.if-code-place.true, c.requires.place)) in
    let within : length (list_at d' dim) ≤ d'.max
    = c.in-Ok-learn.ensures.dictionary.within dim [] (omega (arith, c.requires.dim, c.in-Ok-learn.ensures.dims)) in
    let max : d'.max ≡ d.max = ap (λ (n : TextLists). n.max) c.in-Ok-learn.ensures.ok in
    let long : length (list_at d' dim) ≡ length (list ++ text ∷ [])
    = ap (λ (l : List Text). length l) (is ∙ learnt_new list text new) in
    allowed_more list text d.max c.requires.allowed c.in-Ok.ensures.cases.1 c.requires.short new
    (omega (arith, within, max, long))

pub returns-else-code-place-clause-form : goal.returns-else-code-place-clause-form
returns-else-code-place-clause-form c = λ _ more allowed.
    let d = c.args.dict.now in
    let d' = c.learn.new.self in
    let dim = c.args.dim in
    let list = list_at d dim in
    let text = c.args.bytes.now in
    let code = learnt_code d d' dim c.in-Ok.value.now text c.in-Ok-learn.code c.requires.dim c.in-Ok-learn.ensures.ok
    c.in-Ok.ensures.cases.0 c.in-Ok-learn.ensures.code in
    let known = was_known list text c.in-Ok-learn.code code
    (λ e. c.if-code-place.false (omega (arith, e, c.requires.place))) in
    known_again list text d.max known.0 known.1 more allowed
