use Rattle.std.proofs.Common.{◌≡◌, ◌++◌, take}
use Rattle.std.specs.List.{flat_map}
use Rattle.iceberg_query.specs.Hits.{decoded_classes}
use Rattle.reply_text.specs.Replies.{class_text}
use Rattle.reply_text.proofs.classes.push_classes.Given as goal

abbrev pub invariant-classes : goal.invariant-classes
invariant-classes l = l.out.items ≡ l.fn.out.items ++ flat_map (class_text l.line l.schema.measures)
    (decoded_classes l.dict.lists (take l.class-index l.classes))
