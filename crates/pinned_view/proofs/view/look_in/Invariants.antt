use Rattle.std.proofs.Common.{◌+◌, ◌≡◌, ◌≤◌, drop}
use Rattle.pinned_view.specs.Past.{first_image}
use Rattle.pinned_view.proofs.view.look_in.Given as goal

abbrev pub invariant-images : goal.invariant-images
invariant-images _ l = record {
  value : first_image l.over l.node.0 ≡ first_image (drop l.images-index l.over) l.node.0;
  looks : l.looks ≤ l.initial.looks + l.images-index;
}
