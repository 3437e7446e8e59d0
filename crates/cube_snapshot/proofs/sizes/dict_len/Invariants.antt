use Rattle.std.proofs.Common.{◌≡◌, ◌≤◌, ◌*◌, ◌+◌, length, take}
use Rattle.std.specs.List.{flat_map}
use Rattle.cube_defs.specs.declared.limits.TheConstants.{MAX_CODES, MAX_TEXT}
use Rattle.cube_snapshot.specs.Parts.{texts}
use Rattle.cube_snapshot.proofs.sizes.dict_len.Given as goal

abbrev pub invariant-dims : goal.invariant-dims
invariant-dims l = record {
  value : l.len ≡ length (flat_map texts.put (take l.dim l.contents.dict.now.lists));
  small : l.len ≤ l.dim * (4 + (1 + MAX_TEXT) * MAX_CODES);
}
