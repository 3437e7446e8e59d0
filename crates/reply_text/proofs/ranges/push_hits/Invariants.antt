use Rattle.std.proofs.Common.{◌≡◌, ◌++◌, take}
use Rattle.std.specs.List.{flat_map}
use Rattle.range_query.specs.DecodedHits.{decoded_hits}
use Rattle.reply_text.specs.Replies.{hit_text}
use Rattle.reply_text.proofs.ranges.push_hits.Given as goal

abbrev pub invariant-hits : goal.invariant-hits
invariant-hits l = l.out.items ≡ l.fn.out.items ++ flat_map (hit_text l.line l.schema.measures)
    (decoded_hits l.dict.lists (take l.hit-index l.hits))
