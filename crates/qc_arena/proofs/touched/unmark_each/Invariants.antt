use Rattle.std.proofs.Common.{◌++◌}
use Rattle.qc_arena.specs.Entries.{IsMarked, all_new}
use Rattle.qc_arena.proofs.Suffixes.{suffix_from}
use Rattle.qc_arena.proofs.touched.unmark_each.Given as goal

abbrev pub invariant-entries : goal.invariant-entries
invariant-entries l = IsMarked (suffix_from l.k (l.changed.items ++ all_new l.added.items)) l.touched.items
