use Rattle.std.proofs.lemmas.Result.{on_ok_weaker}
use Rattle.measure_index.proofs.CallerLemmas.{kinds_kept}
use Rattle.tree_tests.proofs.indexes.change.Goals as goal

pub returns : goal.returns
returns c = on_ok_weaker c.change.result (λ zip. kinds_kept _ _ c.args.index.now c.change.new.self zip c.requires.kinds)
    c.change.ensures.entries
