use Rattle.std.proofs.Common.{◌≡◌, take}
use Rattle.cube_defs.specs.Rows.{agg_of}
use Rattle.base_table.specs.Places.{named}
use Rattle.aggregates.specs.Views.{agg_in}
use Rattle.class_builder.proofs.total.total.Given as goal

abbrev pub invariant-rows : goal.invariant-rows
invariant-rows l = record {
  is : agg_in l.agg ≡ agg_of l.table.measures (named l.table (take l.i l.rows));
  measures : l.agg.measures ≡ l.table.measures;
}
