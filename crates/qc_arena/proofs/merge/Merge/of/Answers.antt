use Rattle.std.proofs.Common.{List, ap, arith, is_some, nat_eq, subst, sym, true≢false, ℕ, ◌∙◌, ◌≡◌}
use Rattle.std.specs.Map.{lookup}
use Rattle.std.specs.Prelude.{Option}
use Rattle.qc_arena.specs.Entries.{IsOnce}
use Rattle.qc_arena.specs.Map.{Known}
use Rattle.qc_arena.specs.Merges.{count_in}
use Rattle.qc_arena.proofs.Merges.{none_listed}
use Rattle.qc_arena.proofs.merge.Merge.of.Goals as goal

pub invariant_of-result : goal.invariant_of-result
invariant_of-result c =
    let empty : count_in c.args.merged ≡ 0 = none_listed c.args.merged c.requires.none in
    record {
      older_rise = c.requires.older;
      later_rise = c.requires.later;
      once = subst (λ (l : List (ℕ × Option Known)). IsOnce l) (sym c.requires.none) tt;
      apart = λ q some. absurd (true≢false (sym some ∙ ap (λ l. is_some (lookup (nat_eq q) l)) c.requires.none));
      changed = omega (arith, empty, c.requires.changed);
      added = omega (arith, empty, c.requires.added);
    }
