use Rattle.std.proofs.Common.{◌++◌, ◌∙◌, List, Option, ap, arith, is_some, length-append, nat_eq, ℕ}
use Rattle.std.specs.Map.{lookup}
use Rattle.qc_arena.specs.Entries.{all_new}
use Rattle.qc_arena.specs.Map.{Known}
use Rattle.qc_arena.proofs.Suffixes.{length-all_new, marked_after, none_behind, numbered}
use Rattle.qc_arena.proofs.touched.unmark_each.Goals as goal

pub entries-preserved : goal.entries-preserved
entries-preserved c =
    let es : List (ℕ × Option Known) = c.args.changed.now.items ++ all_new c.args.added.now.items in
    let e = numbered es c.entries.k c.number_at.result
    (omega (
      arith,
      length-append c.args.changed.now.items (all_new c.args.added.now.items),
      length-all_new c.args.added.now.items,
      c.entries-test.true,
    )) c.number_at.ensures in
    marked_after es c.entries.touched.items c.unmark.new.touched.items c.entries.k c.number_at.result e.0 e.1
    e.2 c.entries.invariant c.unmark.ensures

pub returns : goal.returns
returns c =
    let es : List (ℕ × Option Known) = c.args.changed.now.items ++ all_new c.args.added.now.items in
    λ q. c.entries.invariant.marked q
    ∙ ap (λ (l : List (ℕ × Option Known)). is_some (lookup (nat_eq q) l))
    (none_behind es c.entries.k
    (omega (
      arith,
      length-append c.args.changed.now.items (all_new c.args.added.now.items),
      length-all_new c.args.added.now.items,
      c.entries-test.false,
    )))
