use Rattle.std.proofs.Common.{◌≤◌, ◌+◌, ℕ, Option, Some, None, arith, rules, subst}
use Rattle.std.specs.Prelude.{◌≢◌, ⊤, Err, IfOk, IsSome, Ok, OnErr, OnOk, Result, if◌then◌else◌, is_some}
use Rattle.query_script.specs.Queries as queries
use Rattle.query_answers.proofs.Taken.{named-in}
use Rattle.query_answers.proofs.query.answer_query.Goals as goal

on-ok : {T E : Type 0} (r : Result T E) (P : Type 0) → P → OnOk r P
on-ok (Ok x) P p = p
on-ok (Err e) P p = tt

on-err : {T E P : Type 0} (r : Result T E) → P → OnErr r P
on-err (Ok x) p = tt
on-err (Err e) p = p

none-more : (n : ℕ) → n ≤ n + 0
none-more n = omega arith

-- a query of another kind
abbrev IsOther : queries.Query → Type 0
IsOther (queries.Point fields) = ⊤
IsOther (queries.Range fields) = ⊤
IsOther (queries.Bounds fields) = ⊤
IsOther (queries.Iceberg kind bound value) = ⊤
IsOther queries.Stats = ⊥
IsOther (queries.Parents fields) = ⊤
IsOther (queries.Children fields) = ⊤
IsOther (queries.Rollup kind bound value fields) = ⊤

other-than-stats : (q : queries.Query) → IsOther q → q ≢ queries.Stats
other-than-stats q other = λ same. subst IsOther same other

-- what holds where there is a ranking, and where there is none
either : {T E X : Type 0} (r : Result T E) (o : Option X) (from to each walk : ℕ)
    → (IsSome o → IfOk r (λ _. to ≤ from + each)) → IfOk r (λ _. to ≤ from + (each + walk))
    → OnOk r (to ≤ from + (each + (if is_some o then 0 else walk)))
either (Ok x) None from to each walk ranked walked = walked
either (Ok x) (Some y) from to each walk ranked walked = let within = ranked (search rules) in omega (arith, within)
either (Err e) o from to each walk ranked walked = tt

pub returns-in-Point : goal.returns-in-Point
returns-in-Point g c = rw c.in-Point.is (record {
  reply = λ rows has counted. c.answer_point.ensures.reply rows has;
  steps = λ rows has. on-ok c.answer_point.result _ c.answer_point.ensures.steps;
  memory = on-err c.answer_point.result (other-than-stats _ tt);
})

pub returns-in-Range : goal.returns-in-Range
returns-in-Range g c = rw c.in-Range.is (record {
  reply = λ rows has counted. c.answer_range.ensures.reply rows has;
  steps = λ rows has. on-ok c.answer_range.result _ (c.answer_range.ensures.steps rows has);
  memory = on-err c.answer_range.result (other-than-stats _ tt);
})

pub returns-in-Bounds : goal.returns-in-Bounds
returns-in-Bounds g c = rw c.in-Bounds.is (record {
  reply = λ rows has counted. c.answer_bounds.ensures.reply rows has;
  steps = λ rows has. on-ok c.answer_bounds.result _ c.answer_bounds.ensures.steps;
  memory = on-err c.answer_bounds.result (other-than-stats _ tt);
})

pub returns-in-Iceberg : goal.returns-in-Iceberg
returns-in-Iceberg g c = rw c.in-Iceberg.is (record {
  reply = λ rows has counted. c.answer_iceberg.ensures.reply rows has;
  steps = λ rows has. rw (named-in c.in-Iceberg.kind) (either c.answer_iceberg.result _ _ _ _ _
      (λ there. c.answer_iceberg.ensures.steps there rows has) (c.answer_iceberg.ensures.walked rows has));
  memory = on-err c.answer_iceberg.result (other-than-stats _ tt);
})

pub returns-in-Stats-clause-steps : goal.returns-in-Stats-clause-steps
returns-in-Stats-clause-steps g c = rw c.in-Stats.is (λ rows has. none-more c.args.steps.now)

pub returns-in-Parents : goal.returns-in-Parents
returns-in-Parents g c = rw c.in-Parents.is (record {
  reply = λ rows has counted. c.answer_parents.ensures.reply rows has;
  steps = λ rows has. on-ok c.answer_parents.result _ (c.answer_parents.ensures.steps rows has);
  memory = on-err c.answer_parents.result (other-than-stats _ tt);
})

pub returns-in-Children : goal.returns-in-Children
returns-in-Children g c = rw c.in-Children.is (record {
  reply = λ rows has counted. c.answer_children.ensures.reply rows has;
  steps = λ rows has. on-ok c.answer_children.result _ (c.answer_children.ensures.steps rows has);
  memory = on-err c.answer_children.result (other-than-stats _ tt);
})

pub returns-in-Rollup : goal.returns-in-Rollup
returns-in-Rollup g c = rw c.in-Rollup.is (record {
  reply = λ rows has counted. c.answer_rollup.ensures.reply rows has;
  steps = λ rows has. on-ok c.answer_rollup.result _ (c.answer_rollup.ensures.steps rows has);
  memory = on-err c.answer_rollup.result (other-than-stats _ tt);
})

pub answer_point-requires : goal.answer_point-requires
answer_point-requires g c = let asked = rw c.in-Point.is at c.requires.query in
    record { dims = asked.0; point = asked.1; source = c.requires.source }

pub answer_bounds-requires : goal.answer_bounds-requires
answer_bounds-requires g c = let asked = rw c.in-Bounds.is at c.requires.query in
    record { dims = asked.0; point = asked.1; source = c.requires.source }

pub answer_parents-requires : goal.answer_parents-requires
answer_parents-requires g c = let asked = rw c.in-Parents.is at c.requires.query in
    record { dims = asked.0; point = asked.1; source = c.requires.source }

pub answer_children-requires : goal.answer_children-requires
answer_children-requires g c = let asked = rw c.in-Children.is at c.requires.query in
    record { dims = asked.0; point = asked.1; source = c.requires.source }

pub answer_range-requires-clause-dims : goal.answer_range-requires-clause-dims
answer_range-requires-clause-dims g c = rw c.in-Range.is at c.requires.query

pub answer_iceberg-requires-clause-measured : goal.answer_iceberg-requires-clause-measured
answer_iceberg-requires-clause-measured g c = rw c.in-Iceberg.is at c.requires.query

pub answer_rollup-requires-clause-measured : goal.answer_rollup-requires-clause-measured
answer_rollup-requires-clause-measured g c = let asked = rw c.in-Rollup.is at c.requires.query in asked.0

pub answer_rollup-requires-clause-asked : goal.answer_rollup-requires-clause-asked
answer_rollup-requires-clause-asked g c = let asked = rw c.in-Rollup.is at c.requires.query in
    record { dims = asked.1; point = asked.2; source = c.requires.source }
