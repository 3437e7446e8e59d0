use Rattle.std.proofs.Common.{◌≡◌, ◌<◌, ◌≤◌, ℕ, None, [], get_or, length}
use Rattle.csv_load.specs.Batch.{text_at}
use Rattle.value_dict.specs.TextLists.{IsDictionary}
use Rattle.warehouse.specs.Steps.{AreLonger}
use Rattle.warehouse.proofs.Texts.{IsTextLearnt}
use Rattle.warehouse.proofs.learning.learn_tuple.Given as goal

abbrev pub invariant-dims : goal.invariant-dims
invariant-dims l = record {
  cell : length l.cell ≡ length l.initial.cell;
  max : l.dict.max ≡ l.initial.dict.max;
  dictionary : IsDictionary l.dict;
  longer : AreLonger l.initial.dict.lists l.dict.lists;
  done : (k : ℕ) → k < l.dim
      → IsTextLearnt (get_or l.initial.dict.lists k []) (get_or l.dict.lists k []) (text_at l.batch.changes l.k k)
      (get_or l.cell k None);
  left : (k : ℕ) → l.dim ≤ k → get_or l.dict.lists k [] ≡ get_or l.initial.dict.lists k [];
}
