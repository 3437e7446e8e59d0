use Rattle.std.proofs.Common.{◌∙◌, sym, ap, ◌++◌, ℕ, List, append_assoc, append-nil, arith, take, map, subst}
use Rattle.std.specs.List.{flat_map}
use Rattle.std.proofs.lemmas.List.{take_all}
use Rattle.std.proofs.lemmas.List.Elements.{All-get_or}
use Rattle.std.proofs.lemmas.Option.{get_or_from_slice_get}
use Rattle.cube_defs.specs.Cell.{Cell}
use Rattle.value_dict.specs.Decoded.{HasTexts, decoded_cell}
use Rattle.reply_text.specs.Replies.{lower_text}
use Rattle.reply_text.proofs.DecodedCells.{item-after}
use Rattle.reply_text.proofs.classes.push_lowers.Goals as goal

pub cells-preserved : goal.cells-preserved
cells-preserved c =
    let lists = c.args.dict.now.lists in
    let line = c.args.line in
    c.in_ok-push_lower.ensures
    ∙ ap (λ (z : List ℕ). z ++ lower_text line (decoded_cell lists c.get.result.now)) c.cells.invariant
    ∙ append_assoc c.args.out.now.items
    (flat_map (lower_text line) (map (decoded_cell lists) (take c.cells.k c.args.cells.now)))
    (lower_text line (decoded_cell lists c.get.result.now))
    ∙ ap (λ (z : List ℕ). c.args.out.now.items ++ z)
    (sym (item-after (lower_text line) (decoded_cell lists) c.args.cells.now c.cells.k c.get.result.now
    c.get.ensures))

pub cells-init : goal.cells-init
cells-init c = sym (append-nil c.args.out.now.items)

pub get-requires : goal.get-requires
get-requires c = omega (arith, c.len-k-end.ensures)

pub returns : goal.returns
returns c =
    c.cells.invariant
    ∙ ap (λ (z : List (Cell ℕ)). c.args.out.now.items
    ++ flat_map (lower_text c.args.line) (map (decoded_cell c.args.dict.now.lists) z))
    (take_all c.cells.k c.args.cells.now (omega (arith, c.len-k-end.ensures)))

pub invariant_of-lower : goal.invariant_of-lower
invariant_of-lower c =
    let lists = c.args.dict.now.lists in
    let cell = c.get.result.now in
    record {
      texts = subst (HasTexts lists) (get_or_from_slice_get c.args.cells.now c.cells.k cell cell c.get.ensures)
          (All-get_or (HasTexts lists) c.args.cells.now c.cells.k cell (omega (arith, c.len-k-end.ensures)) c.requires);
    }
