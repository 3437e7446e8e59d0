use Rattle.std.proofs.Common.{◌≡◌, ◌<◌, length, subst, sym, true}
use Rattle.qc_schema.specs.Grammar.{is_new_name}
use Rattle.qc_schema.specs.Progress.{layout_in}
use Rattle.qc_schema.specs.Schema.{IsLayout, Layout, max_dims}
use Rattle.qc_schema.proofs.Widening.{wider}
use Rattle.qc_schema.proofs.schema.Schema.with_dim.Goals as goal

pub invariant_of-result : goal.invariant_of-result
invariant_of-result c =
    let same = sym c.self.view_is in
    subst IsLayout (sym c.in_ok-draft.ensures)
    (wider (layout_in c.self.inside.draft) c.args.name.now c.self.invariant
    (subst (λ (l : Layout). length l.dims < max_dims l.version) same c.requires.few)
    (subst (λ (l : Layout). is_new_name l c.args.name.now ≡ true) same c.requires.new))
