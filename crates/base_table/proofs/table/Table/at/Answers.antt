use Rattle.std.proofs.Common.{◌∙◌, ap, arith, ℕ, ◌<◌, Bool, [], refl, length, get_or, Some, None, cond, is_some}
use Rattle.cube_defs.specs.Rows.{Row}
use Rattle.base_table.specs.Places.{Places}
use Rattle.base_table.proofs.Holding.{length-view, mark_read}
use Rattle.base_table.proofs.table.Table.at.Goals as goal

pub index-requires : goal.index-requires
index-requires c =
    omega (
      arith,
      length-view c.self.invariant c.args.self.now c.self.view_is,
    )

pub returns-then-index : goal.returns-then-index
returns-then-index c =
    let m = c.self.inside in
    let d : Row ℕ = record { id = 0; tuple = []; amounts = [] } in
    let lt : c.args.place < length m.here.items
    = omega (
      arith,
      length-view c.self.invariant c.args.self.now c.self.view_is,
    ) in
    record {
      some = (
        refl,
        ap is_some
            (mark_read m.here.items m.store.rows c.args.place d c.index.result.now c.args.self.now lt
            c.self.invariant.places (ap (λ (t : Places). t.places) c.self.view_is) c.index.ensures
            ∙ ap (λ (b : Bool). cond b (Some (get_or m.store.rows c.args.place d)) None) c.if-index.true),
      );
      none = λ e. cc;
    }

pub returns-else-index : goal.returns-else-index
returns-else-index c =
    let m = c.self.inside in
    let d : Row ℕ = record { id = 0; tuple = []; amounts = [] } in
    let lt : c.args.place < length m.here.items
    = omega (
      arith,
      length-view c.self.invariant c.args.self.now c.self.view_is,
    ) in
    record {
      some = tt;
      none
          = λ e. mark_read m.here.items m.store.rows c.args.place d c.index.result.now c.args.self.now lt
          c.self.invariant.places (ap (λ (t : Places). t.places) c.self.view_is) c.index.ensures
          ∙ ap (λ (b : Bool). cond b (Some (get_or m.store.rows c.args.place d)) None) c.if-index.false;
    }
