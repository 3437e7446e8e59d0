use Rattle.std.proofs.Common.{◌≡◌, ◌≤◌, ◌*◌, ◌+◌, length, take}
use Rattle.std.specs.List.{flat_map}
use Rattle.cube_defs.specs.declared.limits.TheConstants.{MAX_TEXT}
use Rattle.value_dict.specs.TextLists.{list_at}
use Rattle.cube_snapshot.specs.Parts.{text}
use Rattle.cube_snapshot.proofs.sizes.texts_len.Given as goal

abbrev pub invariant-texts : goal.invariant-texts
invariant-texts l = record {
  value : l.len ≡ length (flat_map text.put (take l.code (list_at l.contents.dict.now l.dim)));
  small : l.len ≤ (1 + MAX_TEXT) * l.code;
}
