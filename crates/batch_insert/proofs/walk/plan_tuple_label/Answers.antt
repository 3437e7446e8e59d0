use Rattle.batch_insert.proofs.Costed.{own_more}
use Rattle.std.proofs.Common.{◌++◌, ◌≡◌, [], ◌∷◌, refl}
use Rattle.std.proofs.lemmas.Slice.{pushed}
use Rattle.batch_insert.proofs.Pushed.{here_among, own_pushed}
use Rattle.batch_insert.proofs.walk.plan_tuple_label.Goals as goal

pub returns-in-Ok : goal.returns-in-Ok
returns-in-Ok c =
    let e : c.push.new.self.items ≡ c.args.plan.now.tuple_labels.items ++ c.args.own ∷ []
    = pushed (c.args.own ∷ []) refl c.in-Ok.is c.push.ensures.items in
    record {
      grown = own_pushed c.args.insertion.now.tuple.now c.args.insertion.now.arena.now c.args.plan.now _
          c.args.own c.requires.own c.requires.right refl refl refl e;
      cost = own_more c.args.plan.now.tuple_labels.items c.push.new.self.items c.args.own _ _ _ e;
      here = here_among c.args.own c.args.plan.now.tuple_labels.items c.push.new.self.items e;
    }
