use Rattle.std.proofs.Common.{◌∙◌, ap, arith, nat_eq}
use Rattle.base_table.specs.Last.{last_of}
use Rattle.base_table.proofs.LastPlaces.{none_above}
use Rattle.base_table.proofs.ids.Ids.last.Goals as goal

pub returns-then-id-self : goal.returns-then-id-self
returns-then-id-self c =
    none_above c.args.id c.self.inside.top c.self.inside.chains (omega (arith, c.if-id-self.true)) c.self.invariant
    ∙ ap (last_of (nat_eq c.args.id)) c.self.view_is
