use Rattle.std.proofs.Common.{◌∷◌, suc, Err, ◌≡◌, ◌<◌, ◌+◌, ◌∙◌, ℕ, List, [], ap, ap₂, arith, false, get_or, length, refl, set, sym}
use Rattle.std.proofs.Common.{take, true}
use Rattle.std.proofs.lemmas.List.{get_or-set_same}
use Rattle.cube_defs.specs.Text.{Text}
use Rattle.csv_load.specs.Batch.{change_at, is_deletion, text_at}
use Rattle.value_dict.specs.declared.Learn.TheVariants.{Full}
use Rattle.value_dict.specs.TextLists.{TextLists, code_in, learnt_in}
use Rattle.warehouse.specs.Steps.{column_after}
use Rattle.warehouse.proofs.Texts.{column-more, column-over, column-same, column-set, longer-longer, longer-same, longer-set}
use Rattle.warehouse.proofs.learning.learn_column.Goals as goal
use Rattle.warehouse.proofs.learning.learn_column.Goals.{then-not-is_delete+in-Ok, else-not-is_delete}

set-get_or : (lists : List (List Text)) (k : ℕ) → set lists k (get_or lists k []) ≡ lists
set-get_or (texts ∷ lists) (suc k) = ap (λ (ls : List (List Text)). texts ∷ ls) (set-get_or lists k)
set-get_or _ k = refl

pub changes-init : goal.changes-init
changes-init c = record {
  lists = sym (set-get_or c.args.dict.now.lists c.args.dim);
  max = refl;
  dictionary = c.requires.can.dictionary;
  longer = longer-same c.args.dict.now.lists;
}

pub returns-in-Err-clause-full : goal.returns-in-Err-clause-full
returns-in-Err-clause-full c = λ e.
    let changes = c.args.batch.now.changes in
    let lists = c.args.dict.now.lists in
    let dim = c.args.dim in
    let k = c.changes.before in
    let lt : k < length changes = omega (arith, c.changes-test.true, c.len-before-end.ensures.count) in
    let is : is_deletion (change_at changes (k + 1)) ≡ false
    = grind (arith, c.is_delete.ensures, c.if-not-is_delete.true) in
    let texts = column_after (get_or lists dim []) dim (take k changes) in
    let there : dim < length lists = omega (arith, c.requires.dim, c.requires.can.lists) in
    let here : get_or c.changes.dict.lists dim [] ≡ texts
    = ap (λ (ls : List (List Text)). get_or ls dim []) c.changes.invariant.lists
    ∙ get_or-set_same lists dim texts [] there in
    let same : c.in-Err.refused ≡ Full = cc in
    let both = c.in-Err.ensures.full.0 (ap Err same) in
    column-over (get_or lists dim []) dim changes k c.args.dict.now.max lt is
    (ap₂ code_in (sym here) (sym c.text.ensures) ∙ both.0) (ap (λ (ts : List Text). length ts) (sym here) ∙ both.1
    ∙ c.changes.invariant.max)

pub changes-preserved : goal.changes-preserved
changes-preserved c =
    let inv = c.changes.invariant in
    let changes = c.args.batch.now.changes in
    let lists = c.args.dict.now.lists in
    let dim = c.args.dim in
    let k = c.changes.before in
    let lt : k < length changes = omega (arith, c.changes-test.true, c.len-before-end.ensures.count) in
    let texts = column_after (get_or lists dim []) dim (take k changes) in
    let there : dim < length lists = omega (arith, c.requires.dim, c.requires.can.lists) in
    elim c.if-not-is_delete.branch [
      | then-not-is_delete+in-Ok w ↦
          let is : is_deletion (change_at changes (k + 1)) ≡ false
          = grind (arith, c.is_delete.ensures, w.if-not-is_delete.true) in
          let one : w.learn.new.self.lists ≡ set c.changes.dict.lists dim
          (learnt_in (get_or c.changes.dict.lists dim []) (text_at changes (k + 1) dim)) =
          ap (λ (d : TextLists). d.lists) w.in-Ok.ensures.ok
          ∙ ap (λ (text : Text). set c.changes.dict.lists dim (learnt_in (get_or c.changes.dict.lists dim []) text))
          w.text.ensures in
          record {
            lists = ap (λ (d : TextLists). d.lists) w.dict-is ∙ one
                ∙ ap (λ (ls : List (List Text)). set ls dim
                (learnt_in (get_or ls dim []) (text_at changes (k + 1) dim))) inv.lists
                ∙ column-set lists texts dim (text_at changes (k + 1) dim) there
                ∙ ap (set lists dim) (sym (column-more (get_or lists dim []) dim changes k lt is));
            max = ap (λ (d : TextLists). d.max) (w.dict-is ∙ w.in-Ok.ensures.ok) ∙ inv.max;
            dictionary = rw w.dict-is w.in-Ok.ensures.dictionary;
            longer = rw w.dict-is (longer-longer lists c.changes.dict.lists w.learn.new.self.lists inv.longer
                (rw one (longer-set c.changes.dict.lists dim (text_at changes (k + 1) dim))));
          }
      | else-not-is_delete w ↦
          let is : is_deletion (change_at changes (k + 1)) ≡ true
          = grind (arith, c.is_delete.ensures, w.if-not-is_delete.false) in
          record {
            lists = ap (λ (d : TextLists). d.lists) w.dict-is ∙ inv.lists
                ∙ ap (set lists dim) (sym (column-same (get_or lists dim []) dim changes k lt is));
            max = ap (λ (d : TextLists). d.max) w.dict-is ∙ inv.max;
            dictionary = rw w.dict-is inv.dictionary;
            longer = rw w.dict-is inv.longer;
          }
    ]
