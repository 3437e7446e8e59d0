use Rattle.std.proofs.Common.{ap, cond, false, ◌∙◌}
use Rattle.std.specs.BTreeSet.{contains}
use Rattle.std.specs.Ordering.{eq_by_cmp}
use Rattle.measure_index.specs.ColumnKeys.{key_cmp}
use Rattle.measure_index.proofs.sorted_keys.SortedKeys.remove.Goals as goal

pub returns-then-remove_key-clause-has : goal.returns-then-remove_key-clause-has
returns-then-remove_key-clause-has c = λ q.
    c.remove_key.ensures.gone.has q
    ∙ ap (λ s. cond (eq_by_cmp key_cmp c.args.key.now q) false (contains key_cmp s q)) c.self.view_is

pub returns-else-remove_key-clause-has : goal.returns-else-remove_key-clause-has
returns-else-remove_key-clause-has c = λ q.
    c.remove_key.ensures.gone.has q
    ∙ ap (λ s. cond (eq_by_cmp key_cmp c.args.key.now q) false (contains key_cmp s q)) c.self.view_is
