use Rattle.std.proofs.Common.{◌≡◌, ◌≤◌, ◌+◌, ◌++◌, length}
use denote.Shadow.{shadow}
use denote.Text.{Utf8}
use Rattle.text_lines.specs.Cuts.{cut_at}
use Rattle.query_script.proofs.values.read_list.Given as goal

abbrev pub invariant-pieces : goal.invariant-pieces
invariant-pieces l = record {
  cut : l.texts ++ cut_at 124 l.left ≡ cut_at 124 l.list.text.now;
  room : length l.texts + length l.left ≤ length l.list.text.now;
  text : shadow (Utf8 l.left);
}

abbrev pub decreases-pieces : goal.decreases-pieces
decreases-pieces l = length l.left
