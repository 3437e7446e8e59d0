use Rattle.std.proofs.Common.{◌∙◌, sym, ap, ◌++◌, ℕ, List, Some, append_assoc, take}
use Rattle.std.specs.List.{flat_map}
use Rattle.std.proofs.lemmas.List.{take_all}
use Rattle.std.proofs.lemmas.Option.{slice_get-get_or}
use Rattle.iceberg_query.specs.Hits.{decoded_classes}
use Rattle.lower_bounds.specs.Classes.{hit_in}
use Rattle.lower_bounds.specs.declared.class.ClassHit.{ClassHit}
use Rattle.value_dict.specs.Decoded.{decoded_class}
use Rattle.reply_text.specs.Replies.{class_text}
use Rattle.reply_text.proofs.DecodedCells.{item-after}
use Rattle.reply_text.proofs.classes.push_classes.Goals as goal

pub classes-preserved : goal.classes-preserved
classes-preserved c =
    let lists = c.args.dict.now.lists in
    let classes = c.args.classes.now in
    let k = c.classes.class-index in
    let class = c.class-item.result in
    let text = class_text c.args.line c.args.schema.now.measures in
    let at = slice_get-get_or classes k class c.classes-test.true ∙ ap (λ (x : ClassHit). Some x) (sym c.class-item.is) in
    c.in_ok-push_class.ensures
    ∙ ap (λ (z : List ℕ). z ++ text (decoded_class lists (hit_in class))) c.classes.invariant
    ∙ append_assoc c.args.out.now.items (flat_map text (decoded_classes lists (take k classes)))
    (text (decoded_class lists (hit_in class)))
    ∙ ap (λ (z : List ℕ). c.args.out.now.items ++ z)
    (sym (item-after text (λ (x : ClassHit). decoded_class lists (hit_in x)) classes k class at))

pub returns : goal.returns
returns c =
    c.classes.invariant
    ∙ ap (λ (classes : List ClassHit). c.args.out.now.items ++ flat_map (class_text c.args.line c.args.schema.now.measures)
    (decoded_classes c.args.dict.now.lists classes))
    (take_all c.classes.class-index c.args.classes.now c.classes-test.false)
