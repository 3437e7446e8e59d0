use Rattle.std.proofs.Common.{◌≡◌, ◌≤◌, List, Option, Some, arith, length, slice_get, subst, sym, ℕ}
use Rattle.qc_arena.specs.Map.{Known}
use Rattle.qc_arena.proofs.Entries.{new_after}
use Rattle.qc_arena.proofs.touched.Touched.old_len.Goals as goal

pub returns-clause-new : goal.returns-clause-new
returns-clause-new c = λ k e l h.
    let changed = c.self.inside.changed.items in
    let long = c.self.inside.changed.ok.0 in
    let behind : length changed ≤ k = omega (arith, long, l) in
    new_after changed c.self.inside.added.items k e behind
    (subst (λ (es : List (ℕ × Option Known)). slice_get es k ≡ Some e) (sym c.self.view_is) h)
