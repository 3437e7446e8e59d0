use Rattle.std.proofs.Common.{◌≡◌, ◌<◌, ℕ, None, get_or, length}
use Rattle.cell_core.specs.declared.fields.Field.TheVariants as fields
use Rattle.value_dict.specs.Boxes.{AreFieldCodes}
use Rattle.value_dict.proofs.Dict.box_of.Given as goal

abbrev pub invariant-dims : goal.invariant-dims
invariant-dims l = record {
  long : length l.cells ≡ l.dim;
  asked : (i : ℕ) → i < l.dim → AreFieldCodes l.self.lists i (get_or l.fields i fields.Any) (get_or l.cells i None);
}
