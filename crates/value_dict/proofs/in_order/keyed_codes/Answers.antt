use Rattle.std.proofs.Common.{◌∙◌, ◌+◌, ◌++◌, ℕ, ◌∷◌, [], All, List, ap, get_or, map, subst, sym}
use Rattle.std.proofs.lemmas.List.{map-append, take_more}
use Rattle.std.proofs.lemmas.List.Elements.{All-push}
use Rattle.cube_defs.specs.Text.{Text}
use Rattle.value_dict.specs.declared.in_order.Keyed.{Keyed}
use Rattle.value_dict.specs.Recoded.{text_in}
use Rattle.value_dict.specs.Starts.{HasStart}
use Rattle.value_dict.proofs.in_order.keyed_codes.Goals as goal

pub codes-preserved : goal.codes-preserved
codes-preserved c =
    let lists = c.args.dict.now.lists in
    let codes = c.args.codes.now in
    let start = c.start_of-start in
    let item : Keyed = record { start = start.result; code = get_or codes c.codes.k 0 } in
    let items = c.push_reserved.ensures.items in
    let has = subst (λ (text : Text). HasStart text start.result) (c.as_bytes.ensures.value ∙ c.text_or_none.ensures)
    (record { is = start.ensures.start; bytes = start.ensures.bytes }) in
    let P = λ (k : Keyed). HasStart (text_in lists c.args.dim k.code) k.start in
    record {
      codes = ap (map (λ k. k.code)) items
          ∙ map-append (λ k. k.code) c.codes.keyed.items (item ∷ [])
          ∙ ap (λ (xs : List ℕ). xs ++ item.code ∷ []) c.codes.invariant.codes
          ∙ sym (take_more codes c.codes.k 0 c.codes-test.true);
      starts = subst (All P) (sym items) (All-push P c.codes.keyed.items item c.codes.invariant.starts has);
      len = c.push_reserved.ensures.len ∙ ap (λ (n : ℕ). n + 1) c.codes.invariant.len;
      room = rw (c.push_reserved.ensures.capacity) c.codes.invariant.room;
    }
