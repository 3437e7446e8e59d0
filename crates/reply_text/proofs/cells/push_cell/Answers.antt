use Rattle.std.proofs.Common.{◌∙◌, sym, ap, arith, ◌++◌, ◌∷◌, [], ℕ, List, append_assoc, take, map, slice_index_or, None}
use Rattle.std.specs.Prelude.{option_map}
use Rattle.value_dict.specs.Decoded.{text_of, decoded_cell}
use Rattle.reply_text.specs.Replies.{entry_text, fields_text}
use Rattle.reply_text.proofs.DecodedCells.{told-after}
use Rattle.reply_text.proofs.cells.push_cell.Goals as goal

pub dims-preserved : goal.dims-preserved
dims-preserved c =
    let lists = c.args.coded.now.dict.now.lists in
    let cell = c.args.coded.now.cell.now in
    let k = c.dims.dim in
    let next = 44 ∷ entry_text (option_map (text_of (slice_index_or lists k [])) (slice_index_or cell k None)) in
    c.in_ok-push_entry.ensures
    ∙ ap (λ (z : List ℕ). z ++ next) c.dims.invariant
    ∙ append_assoc c.args.out.now.items (fields_text (map entry_text (decoded_cell lists (take k cell)))) next
    ∙ ap (λ (z : List ℕ). c.args.out.now.items ++ z) (sym (told-after lists cell k (omega arith) c.args.coded.now.texts))
