use Rattle.std.proofs.Common.{[], sym}
use Rattle.std.proofs.lemmas.Option.{get_or_from_slice_get}
use Rattle.value_dict.specs.TextLists.{list_at}
use Rattle.value_dict.proofs.order.text_or_none.Goals as goal

pub returns : goal.returns
returns c = sym (get_or_from_slice_get (list_at c.args.dict.now c.args.dim) c.args.code c.text.result.now
    [] c.text.ensures.value)
