use Rattle.std.proofs.Common.{subst}
use Rattle.measure_index.specs.Blocks.{HasCome, joined}
use Rattle.measure_index.proofs.sorted_keys.SortedKeys.insert.Goals as goal

pub returns-clause-come : goal.returns-clause-come
returns-clause-come c =
    subst (λ s. HasCome c.args.key s.keys (joined c.insert_key.new.blocks.items) c.in_ok-added.added) c.self.view_is
    c.in_ok-added.ensures.come
