use Rattle.std.proofs.Common.{◌≡◌, ◌≤◌, ◌++◌, List, length}
use denote.Shadow.{shadow}
use denote.Text.{Utf8}
use Rattle.cube_defs.specs.Text.{Text}
use Rattle.text_lines.specs.Plain.{pieces}
use Rattle.query_script.specs.Progress.{asks}
use Rattle.cube_defs.specs.declared.limits.TheConstants.{MAX_FILE}
use Rattle.query_script.proofs.plain.push_pieces.Given as goal

abbrev pub invariant-pieces : goal.invariant-pieces
invariant-pieces l = record {
  asked : (more : List Text) → asks l.so_far (pieces l.left ++ more)
      ≡ asks l.initial.so_far (pieces l.part.text.now ++ more);
  size : length l.left ≤ MAX_FILE;
  text : shadow (Utf8 l.left);
}

abbrev pub decreases-pieces : goal.decreases-pieces
decreases-pieces l = length l.left
