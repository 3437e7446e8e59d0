use Rattle.std.proofs.Common.{Err, ◌≡◌, ◌<◌, ◌∙◌, List, [], Some, ap, ap₂, arith, get_or, length, refl, set, sym}
use Rattle.cube_defs.specs.Text.{Text}
use Rattle.csv_load.specs.Batch.{change_at, text_at}
use Rattle.value_dict.specs.declared.Learn.TheVariants.{Full}
use Rattle.value_dict.specs.TextLists.{TextLists, code_in, learnt_in}
use Rattle.std.proofs.lemmas.List.{get_or-set_other}
use Rattle.warehouse.proofs.Changes.{tuple_of}
use Rattle.warehouse.proofs.Texts.{insertion-wide, learnt-all, learnt-more, loaded-at, longer-longer, longer-same, longer-set, over-tuple}
use Rattle.warehouse.proofs.learning.learn_tuple.Goals as goal

pub dims-init : goal.dims-init
dims-init c = record {
  cell = refl;
  max = refl;
  dictionary = c.requires.can.dictionary;
  longer = longer-same c.args.dict.now.lists;
  done = λ k lt. absurd (omega arith);
  left = λ k le. refl;
}

pub returns-in-Err-clause-full : goal.returns-in-Err-clause-full
returns-in-Err-clause-full c = λ e.
    let batch = c.args.batch.now in
    let lists = c.args.dict.now.lists in
    let dim = c.dims.dim in
    let tuple = tuple_of (change_at batch.changes c.args.k) in
    let wide : length tuple ≡ batch.dims
    = insertion-wide batch.dims batch.measures (change_at batch.changes c.args.k) c.requires.insertion.inserts
    (loaded-at batch c.args.k c.requires.can.valid c.requires.insertion.there.first c.requires.insertion.there.last) in
    let lt : dim < length lists
    = omega (arith, c.dims-test.true, c.dims-dim-end.ensures.value, c.requires.can.lists, c.requires.cell_dims) in
    let same : c.in-Err.refused ≡ Full = cc in
    let both = c.in-Err.ensures.full.0 (ap Err same) in
    let here : get_or c.dims.dict.lists dim [] ≡ get_or lists dim [] = c.dims.invariant.left dim (omega arith) in
    over-tuple lists tuple dim c.args.dict.now.max lt (omega (arith, lt, wide, c.requires.can.lists))
    (ap₂ code_in (sym here) (sym c.text.ensures) ∙ both.0) (ap (λ (ts : List Text). length ts) (sym here) ∙ both.1
    ∙ c.dims.invariant.max)

pub dims-preserved : goal.dims-preserved
dims-preserved c =
    let inv = c.dims.invariant in
    let changes = c.args.batch.now.changes in
    let first = c.args.dict.now.lists in
    let lists = c.dims.dict.lists in
    let dim = c.dims.dim in
    let lt : dim < length lists
    = omega (
      arith,
      c.dims-test.true,
      c.dims-dim-end.ensures.value,
      c.requires.can.lists,
      c.requires.cell_dims,
      inv.longer.dims,
    ) in
    let in_cell : dim < length c.dims.cell = omega (arith, c.dims-test.true, c.dims-dim-end.ensures.value, inv.cell) in
    let more : c.learn.new.self.lists ≡ set lists dim (learnt_in (get_or lists dim []) (text_at changes c.args.k dim)) =
    ap (λ (d : TextLists). d.lists) c.in-Ok.ensures.ok
    ∙ ap (λ (text : Text). set lists dim (learnt_in (get_or lists dim []) text)) c.text.ensures in
    let code : code_in (get_or c.learn.new.self.lists dim []) (text_at changes c.args.k dim) ≡ Some c.in-Ok.code
    = ap (code_in (get_or c.learn.new.self.lists dim [])) (sym c.text.ensures) ∙ c.in-Ok.ensures.code in
    record {
      cell = c.set.ensures.dims ∙ inv.cell;
      max = ap (λ (d : TextLists). d.max) c.in-Ok.ensures.ok ∙ inv.max;
      dictionary = c.in-Ok.ensures.dictionary;
      longer = longer-longer first lists c.learn.new.self.lists inv.longer
          (rw more (longer-set lists dim (text_at changes c.args.k dim)));
      done = learnt-more first lists c.learn.new.self.lists c.dims.cell c.set.new.self
          (text_at changes c.args.k) dim c.in-Ok.code lt in_cell (inv.left dim (omega arith)) more code
          c.set.ensures.value inv.done;
      left = λ k le. ap (λ (ls : List (List Text)). get_or ls k []) more
          ∙ get_or-set_other lists dim k _ [] (omega arith) ∙ inv.left k (omega arith);
    }

pub returns-clause-learnt : goal.returns-clause-learnt
returns-clause-learnt c =
    let batch = c.args.batch.now in
    let inv = c.dims.invariant in
    let wide : length (tuple_of (change_at batch.changes c.args.k)) ≡ batch.dims
    = insertion-wide batch.dims batch.measures (change_at batch.changes c.args.k) c.requires.insertion.inserts
    (loaded-at batch c.args.k c.requires.can.valid c.requires.insertion.there.first c.requires.insertion.there.last) in
    learnt-all c.args.dict.now.lists c.dims.dict.lists (tuple_of (change_at batch.changes c.args.k)) c.dims.cell
    inv.longer.dims
    (omega (arith, wide, c.requires.can.lists)) (omega (arith, inv.cell, c.requires.can.lists, c.requires.cell_dims))
    (λ k lt. inv.done k (omega (
      arith,
      lt,
      c.dims-test.false,
      c.dims-dim-end.ensures.value,
      c.requires.can.lists,
      c.requires.cell_dims,
    )))
