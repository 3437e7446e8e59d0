use Rattle.batch_insert.proofs.Costed.{spot_more}
use Rattle.std.proofs.Common.{◌++◌, ◌≡◌, [], ◌∷◌, refl}
use Rattle.std.proofs.lemmas.Slice.{pushed}
use Rattle.batch_insert.proofs.Pushed.{here_among, spot_pushed}
use Rattle.batch_insert.proofs.walk.plan_node.Goals as goal

pub returns-in-Ok : goal.returns-in-Ok
returns-in-Ok c =
    let e : c.push.new.self.items ≡ c.args.plan.now.planned_nodes.items ++ c.args.spot ∷ []
    = pushed (c.args.spot ∷ []) refl c.in-Ok.is c.push.ensures.items in
    record {
      grown = spot_pushed c.args.insertion.now.tuple.now c.args.insertion.now.arena.now c.args.plan.now _
          c.args.spot c.requires.spot c.requires.right c.requires.parent refl refl refl e;
      cost = spot_more c.args.plan.now.planned_nodes.items c.push.new.self.items c.args.spot _ _ _ e;
      here = here_among c.args.spot c.args.plan.now.planned_nodes.items c.push.new.self.items e;
    }
