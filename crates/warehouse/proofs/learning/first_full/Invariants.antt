use Rattle.std.proofs.Common.{◌≡◌, ◌<◌, ◌≤◌, ℕ, [], get_or, length}
use Rattle.value_dict.specs.TextLists.{IsDictionary, list_at}
use Rattle.warehouse.specs.Steps.{AreLonger, column_after}
use Rattle.warehouse.proofs.learning.first_full.Given as goal

abbrev pub invariant-columns : goal.invariant-columns
invariant-columns l = record {
  max : l.dict.max ≡ l.initial.dict.max;
  dictionary : IsDictionary l.dict;
  longer : AreLonger l.initial.dict.lists l.dict.lists;
  left : (k : ℕ) → l.dim ≤ k → get_or l.dict.lists k [] ≡ get_or l.initial.dict.lists k [];
  within : (k : ℕ) → k < l.dim
      → length (column_after (list_at l.initial.dict k) k l.batch.changes) ≤ l.initial.dict.max;
}
