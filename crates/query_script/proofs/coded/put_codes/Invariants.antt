use Rattle.std.proofs.Common.{◌≡◌, length}
use denote.Shadow.{shadow}
use denote.Text.{Utf8}
use Rattle.text_lines.specs.Plain.{pieces}
use Rattle.query_script.specs.Coded.{pieces_left}
use Rattle.query_script.proofs.CodedFields.{AreRead}
use Rattle.query_script.proofs.coded.put_codes.Given as goal

abbrev pub invariant-dims : goal.invariant-dims
invariant-dims l = record {
  dims : length l.cell ≡ length l.dict.lists;
  read : AreRead l.dict.lists (pieces l.text) (pieces_left l.more l.left) l.dim l.known l.cell;
  text : shadow (Utf8 l.left);
}
