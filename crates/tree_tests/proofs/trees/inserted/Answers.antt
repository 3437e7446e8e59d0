use Rattle.std.proofs.Common.{ap, subst, sym}
use Rattle.qc_arena.specs.Map.{Arena, is_open}
use Rattle.tree_tests.specs.Rows.{HasRows}
use Rattle.tree_tests.proofs.Added.{none_yet}
use Rattle.tree_tests.proofs.trees.inserted.Goals as goal

pub rows-init : goal.rows-init
rows-init g c = record {
  closed = ap is_open c.in-Ok.ensures;
  width = ap (λ (a : Arena). a.width) c.in-Ok.ensures;
  rows = subst (HasRows 0) (sym c.in-Ok.ensures) (none_yet c.args.dims c.args.max);
}
