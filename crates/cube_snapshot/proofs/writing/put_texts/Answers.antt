use Rattle.std.proofs.Common.{◌≡◌, ◌∙◌, ◌<◌, ◌≤◌, ◌++◌, [], append_assoc, arith, ap, get_or, length, subst, sym}
use Rattle.std.proofs.lemmas.Option.{get_or_from_slice_get}
use Rattle.std.specs.Int.{w32}
use Rattle.std.specs.List.{flat_map}
use Rattle.cube_defs.specs.Text.{Text}
use Rattle.cube_defs.specs.declared.limits.TheConstants.{MAX_TEXT}
use Rattle.value_dict.specs.TextLists.{list_at}
use Rattle.cube_snapshot.specs.Format.{number}
use Rattle.cube_snapshot.specs.Parts.{text}
use Rattle.cube_snapshot.proofs.Putting.{put_all, put_next}
use Rattle.cube_snapshot.proofs.writing.put_texts.Goals as goal

pub texts-preserved : goal.texts-preserved
texts-preserved c =
    let list = list_at c.args.contents.now.dict.now c.args.dim in
    let k = c.texts.code in
    let lt : k < length list = omega (arith, c.texts-test.true, c.len-code-end.ensures.value) in
    let is : get_or list k [] ≡ c.text.result.now
    = get_or_from_slice_get list k c.text.result.now [] c.text.ensures.value in
    put_next text.put c.texts.out.items c.put_text.new.out.items
    (c.args.out.now.items ++ (number w32).put (length list)) list k [] lt c.texts.invariant
    (c.in_ok-put_text.ensures ∙ ap (λ t. c.texts.out.items ++ text.put t) (sym is))

pub put_text-requires : goal.put_text-requires
put_text-requires c =
    let list = list_at c.args.contents.now.dict.now c.args.dim in
    let lt : c.texts.code < length list = omega (arith, c.texts-test.true, c.len-code-end.ensures.value) in
    subst (λ (t : Text). length t ≤ MAX_TEXT)
    (get_or_from_slice_get list c.texts.code c.text.result.now [] c.text.ensures.value)
    (c.args.contents.now.short c.args.dim [] c.requires c.texts.code [] lt)

pub returns : goal.returns
returns c =
    let list = list_at c.args.contents.now.dict.now c.args.dim in
    let count = (number w32).put (length list) in
    put_all text.put c.texts.out.items (c.args.out.now.items ++ count) list c.texts.code
    (omega (arith, c.texts-test.false, c.len-code-end.ensures.value)) c.texts.invariant
    ∙ append_assoc c.args.out.now.items count (flat_map text.put list)
