use Rattle.std.proofs.Common.{◌≡◌, take}
use Rattle.std.specs.Prelude.{slice_set}
use Rattle.value_dict.specs.TextLists.{IsDictionary, list_at}
use Rattle.warehouse.specs.Steps.{AreLonger, column_after}
use Rattle.warehouse.proofs.learning.learn_column.Given as goal

abbrev pub invariant-changes : goal.invariant-changes
invariant-changes l = record {
  lists : l.dict.lists ≡ slice_set l.initial.dict.lists l.dim
      (column_after (list_at l.initial.dict l.dim) l.dim (take l.before l.batch.changes));
  max : l.dict.max ≡ l.initial.dict.max;
  dictionary : IsDictionary l.dict;
  longer : AreLonger l.initial.dict.lists l.dict.lists;
}
