use Rattle.std.proofs.Common.{subst}
use Rattle.pinned_view.specs.Versions.{AreVersions}
use Rattle.pinned_view.proofs.Staying.{are_versions}
use Rattle.pinned_view.proofs.pinned.Pinned.now.Goals as goal

pub returns-clause-versions : goal.returns-clause-versions
returns-clause-versions c =
    let m = c.self.inside in
    subst AreVersions c.self.view_is (are_versions m.warehouse m.kept.items m.pins.items c.self.invariant.0)
