use Rattle.std.proofs.Common.{◌≡◌, ◌<◌, ◌≤◌, ◌+◌, suc, [], arith, ap, get_or, length, refl}
use Rattle.std.proofs.lemmas.Option.{get_or_from_slice_get}
use Rattle.cube_defs.specs.declared.limits.TheConstants.{MAX_TEXT}
use Rattle.value_dict.specs.TextLists.{list_at}
use Rattle.cube_snapshot.specs.Parts.{text}
use Rattle.cube_snapshot.proofs.Putting.{len_next}
use Rattle.cube_snapshot.proofs.sizes.texts_len.Goals as goal

pub texts-preserved : goal.texts-preserved
texts-preserved c =
    let list = list_at c.args.contents.now.dict.now c.args.dim in
    let k = c.texts.code in
    let lt : k < length list = omega (arith, c.texts-test.true, c.len-code-end.ensures.value) in
    let is : get_or list k [] ≡ c.text.result.now
    = get_or_from_slice_get list k c.text.result.now [] c.text.ensures.value in
    let short : length (get_or list k []) ≤ MAX_TEXT = c.args.contents.now.short c.args.dim [] c.requires k [] lt in
    let step : 1 + length c.text.result.now ≡ suc (length (get_or list k [])) = omega (arith, ap length is) in
    record {
      value = len_next text.put c.texts.len (c.texts.len + (1 + length c.text.result.now))
          (1 + length c.text.result.now) list k [] lt c.texts.invariant.value step refl;
      small = omega (arith, c.texts.invariant.small, ap length is, short);
    }
