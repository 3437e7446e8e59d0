use Rattle.std.proofs.Common.{below_more, ◌≡◌, ◌<◌, ◌≤◌, ◌∙◌, ℕ, List, [], Err, None, ap, arith, get_or, length, refl}
use Rattle.std.proofs.lemmas.List.{get_or-set_other, get_or-set_same}
use Rattle.std.proofs.lemmas.List.Elements.{All-from_get_or}
use Rattle.std.specs.List.{All}
use Rattle.cube_defs.specs.Text.{Text}
use Rattle.warehouse.specs.Batch.{full_dim, texts_after}
use Rattle.warehouse.specs.Steps.{column_after}
use Rattle.warehouse.proofs.Texts.{full-first, full-none, length-after, longer-longer, longer-same, texts-at}
use Rattle.warehouse.proofs.learning.first_full.Goals as goal

pub columns-init : goal.columns-init
columns-init c = record {
  max = refl;
  dictionary = c.requires.can.dictionary;
  longer = longer-same c.args.dict.now.lists;
  left = λ k le. refl;
  within = λ k lt. absurd (omega arith);
}

pub returns-in-Err-Full-clause-longer : goal.returns-in-Err-Full-clause-longer
returns-in-Err-Full-clause-longer c
    = longer-longer c.args.dict.now.lists c.columns.dict.lists c.learn_column.new.dict.lists c.columns.invariant.longer
    c.in-Err-Full.ensures.longer

pub returns-in-Err-Memory-clause-longer : goal.returns-in-Err-Memory-clause-longer
returns-in-Err-Memory-clause-longer c
    = longer-longer c.args.dict.now.lists c.columns.dict.lists c.learn_column.new.dict.lists c.columns.invariant.longer
    c.in-Err-Memory.ensures.longer

pub returns-in-Err-Full-clause-first : goal.returns-in-Err-Full-clause-first
returns-in-Err-Full-clause-first c =
    let inv = c.columns.invariant in
    let batch = c.args.batch.now in
    let lists = c.args.dict.now.lists in
    let dim = c.columns.dim in
    let max = c.args.dict.now.max in
    let lt : dim < batch.dims = omega (arith, c.columns-test.true, c.requires.dims) in
    let over = c.learn_column.ensures.full (c.in-Err-Full.is ∙ ap Err c.in-Err-Full.field-0-is) in
    let here : get_or c.columns.dict.lists dim [] ≡ get_or lists dim [] = inv.left dim (omega arith) in
    let at = λ (k : ℕ) (below : k < batch.dims). texts-at batch lists k c.requires.can.valid c.requires.can.lists below in
    full-first max (texts_after lists batch.changes) dim
    (omega (arith, lt, length-after lists batch.changes, c.requires.can.lists))
    (λ k below. omega (arith, inv.within k below, ap (λ (texts : List Text). length texts) (at k (omega arith))))
    (omega (
      arith,
      over,
      inv.max,
      ap (λ (texts : List Text). length (column_after texts dim batch.changes)) here,
      ap (λ (texts : List Text). length texts) (at dim lt),
    ))

pub columns-preserved : goal.columns-preserved
columns-preserved c =
    let inv = c.columns.invariant in
    let batch = c.args.batch.now in
    let lists = c.args.dict.now.lists in
    let dim = c.columns.dim in
    let here : get_or c.columns.dict.lists dim [] ≡ get_or lists dim [] = inv.left dim (omega arith) in
    let there : dim < length c.columns.dict.lists
    = omega (arith, c.columns-test.true, c.requires.dims, c.requires.can.lists, inv.longer.dims) in
    let learnt : get_or c.learn_column.new.dict.lists dim [] ≡ column_after (get_or lists dim []) dim batch.changes =
    ap (λ (ls : List (List Text)). get_or ls dim []) c.in-Ok.ensures.ok
    ∙ get_or-set_same c.columns.dict.lists dim
    (column_after (get_or c.columns.dict.lists dim []) dim batch.changes) [] there
    ∙ ap (λ (texts : List Text). column_after texts dim batch.changes) here in
    let last : length (column_after (get_or lists dim []) dim batch.changes) ≤ c.args.dict.now.max =
    omega (
      arith,
      c.in-Ok.ensures.dictionary.within dim [] (omega (arith, there, c.in-Ok.ensures.longer.dims)),
      ap (λ (texts : List Text). length texts) learnt,
      c.learn_column.ensures.max,
      inv.max,
    ) in
    record {
      max = c.learn_column.ensures.max ∙ inv.max;
      dictionary = c.in-Ok.ensures.dictionary;
      longer = longer-longer lists c.columns.dict.lists c.learn_column.new.dict.lists inv.longer c.in-Ok.ensures.longer;
      left = λ k le. ap (λ (ls : List (List Text)). get_or ls k []) c.in-Ok.ensures.ok
          ∙ get_or-set_other c.columns.dict.lists dim k _ [] (omega arith) ∙ inv.left k (omega arith);
      within = below_more (λ (k : ℕ). length (column_after (get_or lists k []) k batch.changes) ≤ c.args.dict.now.max)
          dim inv.within last;
    }

pub unreachable-requires : goal.unreachable-requires
unreachable-requires c =
    let inv = c.columns.invariant in
    let batch = c.args.batch.now in
    let lists = c.args.dict.now.lists in
    let max = c.args.dict.now.max in
    let after = texts_after lists batch.changes in
    let within : All (λ (texts : List Text). length texts ≤ max) after =
    All-from_get_or (λ (texts : List Text). length texts ≤ max) after [] (λ k lt.
    let below : k < batch.dims = omega (arith, lt, length-after lists batch.changes, c.requires.can.lists) in
    omega (
      arith,
      inv.within k (omega (arith, below, c.columns-test.false, c.requires.dims)),
      ap (λ (texts : List Text). length texts) (texts-at batch lists k c.requires.can.valid c.requires.can.lists below),
    ))
    in
    let none : full_dim max after ≡ None = full-none max after within in
    let over = rw none at c.requires.over in
    cc
