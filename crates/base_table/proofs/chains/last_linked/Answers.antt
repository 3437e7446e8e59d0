use Rattle.std.proofs.Common.{◌∙◌, ap, length, take}
use Rattle.std.proofs.lemmas.List.{get_or_read}
use Rattle.std.proofs.Math.Seq.{take-length}
use Rattle.base_table.specs.Last.{bucket_in, last_of}
use Rattle.base_table.proofs.Chain.{IsOnWay, from_head}
use Rattle.base_table.proofs.chains.last_linked.Goals as goal
use Rattle.base_table.proofs.chains.last_linked.Given as given

-- the walk begins at the last key of the bucket among those with links
way : (g : given.Over) (c : goal.After-row_known-1 g) → IsOnWay g.K.PartialEq.eq
    (bucket_in g.K.Numbered.number c.args.links.now.multiplier (length c.args.links.now.heads.items)) c.args.key.now
    (take (length c.args.links.now.before.items) c.args.links.now.keys.items)
    (length (take (length c.args.links.now.before.items) c.args.links.now.keys.items)) c.index.result.now
way g c =
    let l = c.args.links.now in
    from_head g.K.PartialEq.eq g.K.Numbered.number g.met.K.Numbered.respects_eq l.multiplier l.heads.items
    (take (length l.before.items) l.keys.items) l.before.items c.requires c.args.key.now c.index.result.now
    c.bucket-at.result c.bucket-at.ensures.within c.bucket-at.ensures.bucket
    (get_or_read l.heads.items c.bucket-at.result c.index.result.now c.bucket-at.ensures.within c.index.ensures 0)

pub find_from-requires-clause-within : goal.find_from-requires-clause-within
find_from-requires-clause-within g c = (way g c).within

pub find_from-requires-clause-last : goal.find_from-requires-clause-last
find_from-requires-clause-last g c = (way g c).last

pub returns : goal.returns
returns g c =
    c.find_from.ensures ∙ (way g c.before).same
    ∙ ap (last_of (g.K.PartialEq.eq c.args.key.now))
    (take-length (take (length c.args.links.now.before.items) c.args.links.now.keys.items))
