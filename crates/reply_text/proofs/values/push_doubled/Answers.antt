use Rattle.std.proofs.Common.{◌∙◌, ◌++◌, List, ap, arith, get_or, sym, take, ℕ}
use Rattle.std.specs.List.{flat_map}
use Rattle.std.proofs.lemmas.List.{flat_map_more, take_all, take_more}
use Rattle.reply_text.specs.Replies.{doubled}
use Rattle.reply_text.proofs.values.push_doubled.Goals as goal

pub loop-b-preserved : goal.loop-b-preserved
loop-b-preserved c =
    let value = c.args.value.now in
    let out = c.args.out.now.items in
    let k = c.loop-b.b-index in
    let b = get_or value k 0 in
    c.in_ok-push_byte.ensures
    ∙ ap (λ (z : List ℕ). z ++ doubled b) c.loop-b.invariant
    ∙ flat_map_more doubled out (take k value) b
    ∙ ap (λ (z : List ℕ). out ++ flat_map doubled z) (sym (take_more value k 0 (omega arith)))

pub returns : goal.returns
returns c = c.loop-b.invariant
    ∙ ap (λ (z : List ℕ). c.args.out.now.items ++ flat_map doubled z)
    (take_all c.loop-b.b-index c.args.value.now (omega arith))
