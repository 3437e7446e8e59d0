use Rattle.std.proofs.Common.{ap, ap₂, subst, sym, ◌∙◌, ◌∷◌, rules}
use Rattle.std.specs.List.{AllZip}
use Rattle.measure_index.specs.Changes.{HasChanged}
use Rattle.measure_index.specs.Index.{units}
use Rattle.measure_index.specs.Entries.{HaveMeasure}
use Rattle.measure_index.specs.ColumnKeys.{entries_at}
use Rattle.measure_index.proofs.Changed.{has_changed, has_gone_back, kept_units, on_err}
use Rattle.measure_index.proofs.Keyed.{same_entries_of}
use Rattle.measure_index.proofs.Zips.{head_and_rest}
use Rattle.measure_index.proofs.index.+change_columns.Goals as goal

pub plan-requires-clause-add : goal.plan-requires-clause-add
plan-requires-clause-add t c
    = (head_and_rest (λ r. HaveMeasure r.kind c.args.add.now) c.args.columns.now c.in-Some.first.now c.in-Some.rest.now
    c.in-Some.ensures.cases.0 c.requires.add).0

pub plan-requires-clause-remove : goal.plan-requires-clause-remove
plan-requires-clause-remove t c
    = (head_and_rest (λ r. HaveMeasure r.kind c.args.remove.now) c.args.columns.now c.in-Some.first.now
    c.in-Some.rest.now c.in-Some.ensures.cases.0 c.requires.remove).0

pub change_columns-requires : goal.change_columns-requires
change_columns-requires t c = (
  search rules,
  (
    (head_and_rest (λ r. HaveMeasure r.kind c.args.add.now) c.args.columns.now c.in-Some.first.now c.in-Some.rest.now
        c.in-Some.ensures.cases.0 c.requires.add).1,
    (head_and_rest (λ r. HaveMeasure r.kind c.args.remove.now) c.args.columns.now c.in-Some.first.now c.in-Some.rest.now
        c.in-Some.ensures.cases.0 c.requires.remove).1,
  ),
)

pub returns-in-Ok-clause-ok : goal.returns-in-Ok-clause-ok
returns-in-Ok-clause-ok t c =
    subst (λ xs. AllZip (HasChanged c.args.add.now c.args.remove.now) xs
    (c.take.new.self ∷ c.change_columns.new.columns)) (sym c.in-Some.ensures.cases.0) (
      has_changed c.args.add.now c.args.remove.now c.in-Some.first.now c.put.new.self c.take.new.self
          (entries_at c.in-Some.first.now.kind c.in-Some.first.now.scale c.in_ok-plan.plan.added.items)
          (entries_at c.in-Some.first.now.kind c.in-Some.first.now.scale c.in_ok-plan.plan.going.items) _ _
          c.in_ok-plan.ensures
          (ap (entries_at c.in-Some.first.now.kind c.in-Some.first.now.scale) c.deref.ensures.value)
          (same_entries_of c.in_ok-came.ensures.came.alike.kind c.in_ok-came.ensures.came.alike.scale
          c.deref-in-Ok.ensures.value) c.in_ok-came.ensures.came c.take.ensures,
      c.in-Ok.ensures.ok,
    )

pub returns-clause-err : goal.returns-clause-err
returns-clause-err t c =
    ap₂ (λ x xs. x ∷ xs)
    (has_gone_back c.in-Some.first.now c.put.new.self c.take-in-Err.new.self _
    (entries_at c.in-Some.first.now.kind c.in-Some.first.now.scale c.in_ok-came.came.items) _
    c.in_ok-came.ensures.fresh
    (same_entries_of c.in_ok-came.ensures.came.alike.kind c.in_ok-came.ensures.came.alike.scale
    c.deref-in-Err.ensures.value) c.in_ok-came.ensures.came c.take-in-Err.ensures)
    c.in-Err.ensures.err
    ∙ sym c.in-Some.ensures.cases.0

pub returns-in-Ok-clause-units : goal.returns-in-Ok-clause-units
returns-in-Ok-clause-units t c =
    let came = c.in_ok-came.ensures.came.alike in
    kept_units c.in-Some.first.now c.take.new.self c.in-Some.rest.now c.change_columns.new.columns c.args.columns.now
    c.in-Some.ensures.cases.0
    (c.take.ensures.alike.kind ∙ came.kind) (c.take.ensures.alike.scale ∙ came.scale) c.in-Ok.ensures.units

pub returns-clause-units : goal.returns-clause-units
returns-clause-units t c =
    let came = c.in_ok-came.ensures.came.alike in
    kept_units c.in-Some.first.now c.take-in-Err.new.self c.in-Some.rest.now c.change_columns.new.columns
    c.args.columns.now c.in-Some.ensures.cases.0
    (c.take-in-Err.ensures.alike.kind ∙ came.kind) (c.take-in-Err.ensures.alike.scale
    ∙ came.scale) c.in-Err.ensures.units

pub returns-in_err-came-clause-units : goal.returns-in_err-came-clause-units
returns-in_err-came-clause-units t c = ap (λ r. units (r ∷ c.in-Some.rest.now)) c.in_err-came.ensures.err
    ∙ sym (ap units c.in-Some.ensures.cases.0)

pub returns-in_err-came-clause-err : goal.returns-in_err-came-clause-err
returns-in_err-came-clause-err t c
    = on_err _ (ap (λ r. r ∷ c.in-Some.rest.now) c.in_err-came.ensures.err ∙ sym c.in-Some.ensures.cases.0)
