use Rattle.std.proofs.Common.{◌∙◌, ap, arith, sym, ℕ, ◌∷◌, [], refl, Option, Some}
use Rattle.cube_defs.specs.Rows.{Row}
use Rattle.base_table.specs.Places.{rows_of, row_of}
use Rattle.base_table.proofs.Holding.{count-view, max-view}
use Rattle.base_table.proofs.table.Table.insert.Goals as goal
use Rattle.std.proofs.lemmas.List.Elements.{filter_map-append}

pub put-requires-clause-room : goal.put-requires-clause-room
put-requires-clause-room c =
    omega (
      arith,
      count-view c.self.invariant c.args.self.now c.self.view_is,
      max-view c.self.invariant c.args.self.now c.self.view_is,
    )

pub returns-then-self-clause-full : goal.returns-then-self-clause-full
returns-then-self-clause-full c =
    let m = c.self.inside in (
      λ e. (
        sym c.has.ensures ∙ c.if-has.false,
        omega (
          arith,
          count-view c.self.invariant c.args.self.now c.self.view_is,
          max-view c.self.invariant c.args.self.now c.self.view_is,
          c.self.invariant.is_now.few,
        ),
      ),
      λ e. refl,
    )

pub returns-in-Ok-clause-rows : goal.returns-in-Ok-clause-rows
returns-in-Ok-clause-rows c =
    ap rows_of c.in-Ok.ensures.ok ∙ filter_map-append (λ (place : Option (Row ℕ)). place) c.args.self.now.places
    (Some (row_of c.args.id c.args.tuple.now c.args.amounts.now) ∷ [])

pub returns-in-Ok-clause-full : goal.returns-in-Ok-clause-full
returns-in-Ok-clause-full c =
    let m = c.self.inside in (
      λ e. cc,
      λ e. absurd (omega (
        arith,
        e.1,
        count-view c.self.invariant c.args.self.now c.self.view_is,
        max-view c.self.invariant c.args.self.now c.self.view_is,
      )),
    )

pub returns-in-Err-clause-full : goal.returns-in-Err-clause-full
returns-in-Err-clause-full c =
    let m = c.self.inside in (
      λ e. cc,
      λ e. absurd (omega (
        arith,
        e.1,
        count-view c.self.invariant c.args.self.now c.self.view_is,
        max-view c.self.invariant c.args.self.now c.self.view_is,
      )),
    )
