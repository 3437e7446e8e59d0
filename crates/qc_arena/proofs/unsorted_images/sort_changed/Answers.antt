use Rattle.std.proofs.Common.{rules}
use Rattle.std.proofs.lemmas.List.Sorted.{answers_always}
use Rattle.qc_arena.specs.Entries.{entry_number}
use Rattle.qc_arena.proofs.unsorted_images.sort_changed.Goals as goal

pub returns-clause-rising : goal.returns-clause-rising
returns-clause-rising c
    = c.sort_unstable_by_key.ensures.sorted entry_number (answers_always _ _ _ (λ f a r g h. search rules))
