use Rattle.std.proofs.Common.{ap, ◌∙◌}
use Rattle.qc_arena.proofs.Merges.{all_merged}
use Rattle.qc_arena.proofs.merge.Merge.finish.Goals as goal

pub of-requires : goal.of-requires
of-requires c = c.self.invariant.once

pub returns : goal.returns
returns c =
    let m = c.self.inside in
    all_merged m.merged m.older m.later c.sorted.result (ap (λ p. p.1) c.self.view_is ∙ c.requires)
    (c.sorted.ensures ∙ c.of.ensures)
    ∙ ap (λ p. p.0) c.self.view_is
