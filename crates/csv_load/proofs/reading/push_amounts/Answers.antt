use Rattle.std.proofs.Common.{◌∙◌, ◌≡◌, ◌<◌, ◌≤◌, ◌+◌, ◌++◌, ◌∷◌, sym, ap, arith, length, get_or, drop, [], Some, None, ℤ, w64, refl}
use Rattle.std.proofs.lemmas.Int.{to_z-of_z}
use Rattle.std.proofs.lemmas.List.{append-nil, drop_all}
use Rattle.std.proofs.lemmas.List.Elements.{All-from_recursion}
use Rattle.aggregates.specs.Numbers.{amount_in}
use Rattle.cube_defs.specs.declared.limits.TheConstants.{MAX_SCALE}
use Rattle.qc_schema.specs.Schema.{Measure, no_measure}
use Rattle.csv_load.specs.Files.{amounts_in, amounts_of}
use Rattle.csv_load.specs.FileRows.{needed_of}
use Rattle.csv_load.proofs.Amounts.{abs-fits, amount-small, amounts-none, amounts-step, amounts_with, none-with, some-with}
use Rattle.csv_load.proofs.Names.{needed-some, row-within}
use Rattle.csv_load.proofs.reading.push_amounts.Goals as goal

pub loop-measure-preserved : goal.loop-measure-preserved
loop-measure-preserved c =
    let fields = needed_of c.args.row.now in
    let first : 1 + c.dims.result + c.loop-measure.measure ≡ 1 + length c.args.row.now.schema.now.dims + c.loop-measure.measure
    = omega (arith, c.dims.ensures.count) in
    let place : 1 + length c.args.row.now.schema.now.dims + (c.loop-measure.measure + 1) ≡ 1 + length c.args.row.now.schema.now.dims
    + c.loop-measure.measure + 1 = omega arith in
    let here : amount_in (get_or c.args.row.now.schema.now.measures c.loop-measure.measure no_measure).scale
    (get_or fields (1 + length c.args.row.now.schema.now.dims + c.loop-measure.measure) []) ≡ Some c.in-Some.amount
    = rw (c.needed-field.ensures, c.scale.ensures, first) at (sym c.in-Some.ensures) in
    let fits = abs-fits c.in-Some.amount
    (amount-small (get_or c.args.row.now.schema.now.measures c.loop-measure.measure no_measure).scale
    (get_or fields (1 + length c.args.row.now.schema.now.dims + c.loop-measure.measure) []) c.in-Some.amount here) in
    let lt : c.loop-measure.measure < length c.args.row.now.schema.now.measures
    = omega (arith, c.measures-measure-end.ensures) in
    let within : 1 + length c.args.row.now.schema.now.dims + c.loop-measure.measure < length fields
    = omega (arith, lt, row-within c.args.row.now) in
    let pushed : c.push.new.self.items ≡ c.loop-measure.amounts.items ++ c.in-Some.amount ∷ []
    = c.in_ok-push.ensures.items
    ∙ ap (λ (z : ℤ). c.loop-measure.amounts.items ++ z ∷ []) (to_z-of_z w64 c.in-Some.amount fits) in
    rw (pushed, place) (sym
    (amounts-step c.args.row.now.schema.now.measures fields c.loop-measure.amounts.items c.loop-measure.measure
    (1 + length c.args.row.now.schema.now.dims + c.loop-measure.measure) c.in-Some.amount lt within here)
    ∙ c.loop-measure.invariant)

pub returns-clause-ok : goal.returns-clause-ok
returns-clause-ok c =
    let fields = needed_of c.args.row.now in
    let end : drop c.loop-measure.measure c.args.row.now.schema.now.measures ≡ []
    = drop_all c.loop-measure.measure c.args.row.now.schema.now.measures (omega (arith, c.measures-measure-end.ensures)) in
    let done : Some (c.loop-measure.amounts.items ++ []) ≡ amounts_with c.args.amounts.now.items
    (amounts_in c.args.row.now.schema.now.measures (drop (1 + length c.args.row.now.schema.now.dims) fields))
    = rw end at c.loop-measure.invariant in
    let s = some-with c.args.amounts.now.items (c.loop-measure.amounts.items ++ [])
    (amounts_in c.args.row.now.schema.now.measures (drop (1 + length c.args.row.now.schema.now.dims) fields)) (sym done) in
    (s.0, s.1, sym (append-nil c.loop-measure.amounts.items) ∙ s.2)

pub returns-in_default-clause-err : goal.returns-in_default-clause-err
returns-in_default-clause-err c =
    let fields = needed_of c.args.row.now in
    let first : 1 + c.dims.result + c.loop-measure.measure ≡ 1 + length c.args.row.now.schema.now.dims + c.loop-measure.measure
    = omega (arith, c.dims.ensures.count) in
    let none : amount_in (get_or c.args.row.now.schema.now.measures c.loop-measure.measure no_measure).scale
    (get_or fields (1 + length c.args.row.now.schema.now.dims + c.loop-measure.measure) []) ≡ None
    = rw (c.needed-field.ensures, c.scale.ensures, first) at (sym c.in_default.ensures) in
    let lt : c.loop-measure.measure < length c.args.row.now.schema.now.measures
    = omega (arith, c.measures-measure-end.ensures) in
    let within : 1 + length c.args.row.now.schema.now.dims + c.loop-measure.measure < length fields
    = omega (arith, lt, row-within c.args.row.now) in (
      refl,
      none-with c.args.amounts.now.items (amounts_of c.args.row.now.schema.now fields)
          (sym c.loop-measure.invariant
          ∙ amounts-none c.args.row.now.schema.now.measures fields c.loop-measure.amounts.items c.loop-measure.measure
          (1 + length c.args.row.now.schema.now.dims + c.loop-measure.measure) lt within none),
    )

pub needed-field-requires : goal.needed-field-requires
needed-field-requires c
    = omega (
      arith,
      c.args.row.now.are.all,
      needed-some c.args.row.now.columns.now.has_op c.args.row.now.schema.now,
      c.dims.ensures.count,
      c.measures-measure-end.ensures,
    )

pub scale-requires : goal.scale-requires
scale-requires c = rw c.measures-measure-end.ensures at c.loop-measure-test.true

pub read_amount-requires : goal.read_amount-requires
read_amount-requires c =
    let lt : c.loop-measure.measure < length c.args.row.now.schema.now.measures
    = rw c.measures-measure-end.ensures at c.loop-measure-test.true in
    rw c.scale.ensures (All-from_recursion (λ (m : Measure). m.scale ≤ MAX_SCALE) c.args.row.now.schema.now.measures
    c.dims.ensures.layout.scales c.loop-measure.measure no_measure lt)

pub loop-measure-init : goal.loop-measure-init
loop-measure-init c =
    let first : 1 + length c.args.row.now.schema.now.dims + 0 ≡ 1 + length c.args.row.now.schema.now.dims = omega arith in
    rw first refl
