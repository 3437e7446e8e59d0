use Rattle.std.proofs.Common.{◌≡◌, ◌++◌, map, take}
use Rattle.std.specs.List.{flat_map}
use Rattle.value_dict.specs.Decoded.{decoded_cell}
use Rattle.reply_text.specs.Replies.{lower_text}
use Rattle.reply_text.proofs.classes.push_lowers.Given as goal

abbrev pub invariant-cells : goal.invariant-cells
invariant-cells l = l.out.items ≡ l.fn.out.items
    ++ flat_map (lower_text l.line) (map (decoded_cell l.dict.lists) (take l.k l.cells))
