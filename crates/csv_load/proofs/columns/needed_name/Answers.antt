use Rattle.std.proofs.Common.{◌-◌, ◌∙◌, ℕ, ap, arith, get_or}
use Rattle.qc_schema.specs.Schema.{no_measure}
use Rattle.csv_load.proofs.Names.{name-of-dim, name-of-measure, name-of-op, names-all}
use Rattle.csv_load.proofs.columns.needed_name.Goals as goal

pub returns-then-column-dims : goal.returns-then-column-dims
returns-then-column-dims c = c.dim_name.ensures
    ∙ name-of-dim c.args.schema.now c.args.column (omega arith) (omega (arith, c.dims-dims.ensures.count))

pub returns-then-column-dims-2 : goal.returns-then-column-dims-2
returns-then-column-dims-2 c =
    c.measure_name.ensures ∙ ap (λ (n : ℕ). (get_or c.args.schema.now.measures (c.args.column - 1 - n) no_measure).name)
    c.dims-dims.ensures.count
    ∙ name-of-measure c.args.schema.now c.args.column (omega (arith, c.dims-dims.ensures.count))
    (omega (arith, c.dims-dims.ensures.count, c.measures-measures.ensures))

pub returns-else-column-dims-2 : goal.returns-else-column-dims-2
returns-else-column-dims-2 c
    = name-of-op c.args.schema.now c.args.column
    (omega (arith, c.requires, c.dims-dims.ensures.count, c.measures-measures.ensures, names-all c.args.schema.now))
