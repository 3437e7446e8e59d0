use Rattle.std.proofs.Common.{◌∙◌, None, Some}
use Rattle.warehouse.specs.State.{source_of}
use Rattle.query_script.specs.declared.coded.CellQuery.TheVariants as queries
use Rattle.query_answers.proofs.ReadCells.{answered, bounds-known, cell-texts, cell-wants, class-is, on-err, point-known}
use Rattle.query_answers.proofs.ReadCells.{point-parts, unknown}
use Rattle.query_answers.proofs.plain.answer_plain_cell.Goals as goal
use Rattle.tree_search.proofs.CallerLemmas.{total-at}

pub returns-in-Unknown-clause-answered : goal.returns-in-Unknown-clause-answered
returns-in-Unknown-clause-answered g c =
    let p = rw (c.schema.ensures.value, c.dict-dict.ensures.texts) at c.in-Unknown.ensures.coded in
    unknown c.args.warehouse.now.state c.dict-dict.ensures.valid.state c.args.line.now c.args.number c.in-Unknown.field-0
    p c.put_none.result c.put_none.new.reply.items c.args.steps.now c.put_none.ensures

pub returns-in-Unknown-clause-memory : goal.returns-in-Unknown-clause-memory
returns-in-Unknown-clause-memory g c =
    let p = rw (c.schema.ensures.value, c.dict-dict.ensures.texts) at c.in-Unknown.ensures.coded in
    on-err c.put_none.result (cell-wants c.in-Unknown.field-0 c.args.warehouse.now.state c.args.line.now None p)

-- ---- a point

pub put_total-requires : goal.put_total-requires
put_total-requires g c =
    let s = c.args.warehouse.now.state in
    let is = c.dict-dict.ensures.valid.state in
    let cell = c.read_cell_codes.new.cell in
    let p = rw (c.schema.ensures.value, c.dict-dict.ensures.texts, c.in-Known-Point.field-0-is)
    at c.in-Known-Point.ensures.coded in
    let at = c.in-Some.ensures.value (source_of s)
    (rw (c.tree-tree.ensures.width, c.tree-tree.ensures.value) c.tree-tree.ensures.valid.tree)
    ∙ total-at (source_of s) cell in
    record {
      texts = cell-texts s is c.args.line.now c.args.number queries.Point cell p;
      parts = point-parts s is c.args.line.now c.args.number cell (Some c.in-Some.total) at p;
    }

pub returns-in-Some-clause-answered : goal.returns-in-Some-clause-answered
returns-in-Some-clause-answered g c =
    let s = c.args.warehouse.now.state in
    let is = c.dict-dict.ensures.valid.state in
    let cell = c.read_cell_codes.new.cell in
    let p = rw (c.schema.ensures.value, c.dict-dict.ensures.texts, c.in-Known-Point.field-0-is)
    at c.in-Known-Point.ensures.coded in
    let at = c.in-Some.ensures.value (source_of s)
    (rw (c.tree-tree.ensures.width, c.tree-tree.ensures.value) c.tree-tree.ensures.valid.tree)
    ∙ total-at (source_of s) cell in
    point-known s is c.args.line.now c.args.number cell (Some c.in-Some.total) at p c.put_total.result
    c.put_total.new.reply.items c.args.steps.now c.total_at.new.steps c.put_total.ensures c.total_at.ensures.steps

pub returns-in-Some-clause-memory : goal.returns-in-Some-clause-memory
returns-in-Some-clause-memory g c =
    let p = rw (c.schema.ensures.value, c.dict-dict.ensures.texts) at c.in-Known-Point.ensures.coded in
    on-err c.put_total.result (cell-wants _ c.args.warehouse.now.state c.args.line.now _ p)

pub returns-in-None-clause-answered : goal.returns-in-None-clause-answered
returns-in-None-clause-answered g c =
    let s = c.args.warehouse.now.state in
    let is = c.dict-dict.ensures.valid.state in
    let cell = c.read_cell_codes.new.cell in
    let p = rw (c.schema.ensures.value, c.dict-dict.ensures.texts, c.in-Known-Point.field-0-is)
    at c.in-Known-Point.ensures.coded in
    let at = c.in-None.ensures.value (source_of s)
    (rw (c.tree-tree.ensures.width, c.tree-tree.ensures.value) c.tree-tree.ensures.valid.tree)
    ∙ total-at (source_of s) cell in
    point-known s is c.args.line.now c.args.number cell None at p c.put_none-in-None.result
    c.put_none-in-None.new.reply.items c.args.steps.now c.total_at.new.steps c.put_none-in-None.ensures
    c.total_at.ensures.steps

pub returns-in-None-clause-memory : goal.returns-in-None-clause-memory
returns-in-None-clause-memory g c =
    let p = rw (c.schema.ensures.value, c.dict-dict.ensures.texts) at c.in-Known-Point.ensures.coded in
    on-err c.put_none-in-None.result (cell-wants _ c.args.warehouse.now.state c.args.line.now _ p)

-- ---- `bounds`

pub put_class-requires : goal.put_class-requires
put_class-requires g c =
    let s = c.args.warehouse.now.state in
    let cell = c.read_cell_codes.new.cell in
    let p = rw (c.schema.ensures.value, c.dict-dict.ensures.texts, c.in-Known-Bounds.field-0-is)
    at c.in-Known-Bounds.ensures.coded in
    let at = rw c.in-Ok-Some.field-0-is at (c.in-Ok-Some.ensures.class (source_of s)
    (rw (c.tree-tree.ensures.width, c.tree-tree.ensures.value) c.tree-tree.ensures.valid.tree)) in
    (class-is s c.dict-dict.ensures.valid.state c.args.line.now c.args.number cell (Some c.in-Ok-Some.class) at p).told

pub returns-in-Ok-Some-clause-answered : goal.returns-in-Ok-Some-clause-answered
returns-in-Ok-Some-clause-answered g c =
    let s = c.args.warehouse.now.state in
    let cell = c.read_cell_codes.new.cell in
    let p = rw (c.schema.ensures.value, c.dict-dict.ensures.texts, c.in-Known-Bounds.field-0-is)
    at c.in-Known-Bounds.ensures.coded in
    let at = rw c.in-Ok-Some.field-0-is at (c.in-Ok-Some.ensures.class (source_of s)
    (rw (c.tree-tree.ensures.width, c.tree-tree.ensures.value) c.tree-tree.ensures.valid.tree)) in
    bounds-known s c.dict-dict.ensures.valid.state c.args.line.now c.args.number cell (Some c.in-Ok-Some.class) at p
    c.put_class.result c.put_class.new.reply.items c.args.steps.now c.find_class.new.steps c.put_class.ensures
    (rw c.tree-tree.ensures.width at c.find_class.ensures.steps)

pub returns-in-Ok-Some-clause-memory : goal.returns-in-Ok-Some-clause-memory
returns-in-Ok-Some-clause-memory g c =
    let p = rw (c.schema.ensures.value, c.dict-dict.ensures.texts) at c.in-Known-Bounds.ensures.coded in
    on-err c.put_class.result (cell-wants _ c.args.warehouse.now.state c.args.line.now _ p)

pub returns-in-Ok-None-clause-answered : goal.returns-in-Ok-None-clause-answered
returns-in-Ok-None-clause-answered g c =
    let s = c.args.warehouse.now.state in
    let cell = c.read_cell_codes.new.cell in
    let p = rw (c.schema.ensures.value, c.dict-dict.ensures.texts, c.in-Known-Bounds.field-0-is)
    at c.in-Known-Bounds.ensures.coded in
    let at = rw c.in-Ok-None.field-0-is at (c.in-Ok-None.ensures.class (source_of s)
    (rw (c.tree-tree.ensures.width, c.tree-tree.ensures.value) c.tree-tree.ensures.valid.tree)) in
    bounds-known s c.dict-dict.ensures.valid.state c.args.line.now c.args.number cell None at p
    c.put_none-in-Ok-None.result c.put_none-in-Ok-None.new.reply.items c.args.steps.now c.find_class.new.steps
    c.put_none-in-Ok-None.ensures (rw c.tree-tree.ensures.width at c.find_class.ensures.steps)

pub returns-in-Ok-None-clause-memory : goal.returns-in-Ok-None-clause-memory
returns-in-Ok-None-clause-memory g c =
    let p = rw (c.schema.ensures.value, c.dict-dict.ensures.texts) at c.in-Known-Bounds.ensures.coded in
    on-err c.put_none-in-Ok-None.result (cell-wants _ c.args.warehouse.now.state c.args.line.now _ p)

pub returns-in-Err-clause-answered : goal.returns-in-Err-clause-answered
returns-in-Err-clause-answered g c =
    let s = c.args.warehouse.now.state in
    let p = rw (c.schema.ensures.value, c.dict-dict.ensures.texts, c.in-Known-Bounds.field-0-is)
    at c.in-Known-Bounds.ensures.coded in
    answered queries.Bounds s c.args.line.now c.args.number (Some c.read_cell_codes.new.cell) p _
    c.args.reply.now.items c.args.steps.now c.find_class.new.steps tt
    (rw c.tree-tree.ensures.width at c.find_class.ensures.steps)

pub returns-in-Err-clause-memory : goal.returns-in-Err-clause-memory
returns-in-Err-clause-memory g c =
    let p = rw (c.schema.ensures.value, c.dict-dict.ensures.texts) at c.in-Known-Bounds.ensures.coded in
    cell-wants _ c.args.warehouse.now.state c.args.line.now _ p
