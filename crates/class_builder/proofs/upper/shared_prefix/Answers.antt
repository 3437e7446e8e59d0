use Rattle.std.proofs.Common.{◌∙◌, sym, ap, suc, arith}
use Rattle.cube_laws.proofs.CallerLemmas.{entry}
use Rattle.cell_closure.proofs.CallerLemmas.{there, shared_long}
use Rattle.class_builder.proofs.Prefixes.{prefix_from_points}
use Rattle.class_builder.proofs.Uppers.{prefix_at}
use Rattle.class_builder.proofs.upper.shared_prefix.Goals as goal

pub dims-init : goal.dims-init
dims-init c = record {
  long = c.copy-front.ensures.dims ∙ c.args.group.now.is.under.long;
  done = λ j l. ap (λ d. entry d j) c.copy-front.ensures.value
      ∙ sym (prefix_at c.args.at j _ c.args.group.now.upper.now c.requires.front l);
}

pub returns : goal.returns
returns c = record {
  front = prefix_from_points (suc c.args.group.now.dim) c.dims.front _ (c.dims.invariant.long
      ∙ sym (shared_long c.args.group.now.table.now c.args.group.now.is.under.table c.args.group.now.rows.now
      (there c.args.group.now.table.now c.args.group.now.rows.now c.args.group.now.is.under.there) c.args.group.now.is.under.some))
      (λ j l. c.dims.invariant.done j (omega arith));
  dims = c.dims.invariant.long;
}
