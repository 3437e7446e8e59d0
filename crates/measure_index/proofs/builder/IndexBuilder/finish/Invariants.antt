use Rattle.std.specs.List.{AllZip}
use Rattle.measure_index.specs.Builder.{IsRankingOf}
use Rattle.measure_index.proofs.builder.IndexBuilder.finish.Given as goal

abbrev pub invariant-kinds : goal.invariant-kinds
invariant-kinds l = AllZip IsRankingOf l.yielded l.columns.items
