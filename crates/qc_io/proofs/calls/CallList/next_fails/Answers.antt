use Rattle.std.proofs.Common.{◌∙◌, ◌≤◌, arith}
use Rattle.qc_io.proofs.Counts.{all_below-free, all_below-later}
use Rattle.qc_io.proofs.calls.CallList.next_fails.Goals as goal

pub returns-clause-steady : goal.returns-clause-steady
returns-clause-steady c h =
    let later : c.self.inside.number ≤ c.saturating_add-self-inside.result = omega arith in
    all_below-later c.self.inside.fails.items c.self.inside.number c.saturating_add-self-inside.result later
    (rw (← c.self.view_is) at h)

pub returns-clause-free : goal.returns-clause-free
returns-clause-free c h =
    c.contains.ensures.value
    ∙ rw c.deref.ensures.value
    (all_below-free c.self.inside.fails.items c.self.inside.number (rw (← c.self.view_is) at h))
