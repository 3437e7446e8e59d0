use Rattle.std.proofs.Common.{subst}
use Rattle.pinned_view.specs.Views.{CountedTree, SaysOf}
use Rattle.pinned_view.proofs.FirstImages.{says_of}
use Rattle.pinned_view.proofs.view.PinnedView.look.Goals as goal

pub returns-clause-says : goal.returns-clause-says
returns-clause-says g c =
    let v = c.self.inside in
    subst (λ (t : CountedTree). SaysOf t.tree c.args.node.0 c.look_in.result) c.self.view_is
    (says_of v.over.now v.tree.now.now c.args.node.0 c.look_in.result c.look_in.ensures.value)
