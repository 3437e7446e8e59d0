use Rattle.std.proofs.Common.{◌≡◌, ◌<◌, ◌∙◌, arith, length}
use Rattle.cell_closure.proofs.CallerLemmas.{there, zeroth}
use Rattle.class_builder.proofs.Adding.{first_total, next_total, count_is}
use Rattle.class_builder.proofs.total.total.Goals as goal

pub rows-init : goal.rows-init
rows-init c =
    let part = c.args.part.now.is in
    let table = c.args.part.now.table.now in
    let nos = c.args.part.now.rows.now in
    record {
      is = c.restart.ensures.aggregate
          ∙ first_total table table.measures nos c.amounts.result.now part.some
          (part.there 0 zeroth part.some) c.amounts.ensures.value c.amounts.ensures.measures;
      measures = c.restart.ensures.measures ∙ c.requires;
    }

pub add_row-requires-clause-few : goal.add_row-requires-clause-few
add_row-requires-clause-few c =
    let part = c.args.part.now.is in
    let table = c.args.part.now.table.now in
    let nos = c.args.part.now.rows.now in
    let lt : c.rows.i < length nos = c.rows-test.true in
    let e : c.rows.agg.count ≡ c.rows.i
    = count_is table table.measures c.rows.i nos _ (omega arith)
    (there table nos part.there) c.rows.invariant.is in
    omega (arith, part.few)

pub rows-preserved : goal.rows-preserved
rows-preserved c =
    let part = c.args.part.now.is in
    let table = c.args.part.now.table.now in
    let nos = c.args.part.now.rows.now in
    record {
      is = next_total table table.measures c.rows.i nos c.amounts-in-rows.result.now _ _
          (omega arith) c.rows-test.true (there table nos part.there)
          (part.there c.rows.i zeroth c.rows-test.true) c.amounts-in-rows.ensures.value
          c.amounts-in-rows.ensures.measures c.rows.invariant.is c.add_row.ensures.aggregate;
      measures = c.add_row.ensures.measures ∙ c.rows.invariant.measures;
    }
