use Rattle.std.proofs.Common.{false, ◌≡◌, ◌≤◌, ◌+◌, ◌∙◌, ℕ, Err, List, [], Ok, Result, ap, arith, length, map, nat_eq, refl, subst}
use Rattle.std.proofs.Common.{sym, true}
use Rattle.std.proofs.lemmas.List.{nil_from_length}
use Rattle.std.proofs.lemmas.Result.{on_ok_weaker}
use Rattle.std.specs.Prelude.{IfSome}
use Rattle.base_table.specs.Places.{rows_of}
use Rattle.cell_core.specs.Gives.{Gives}
use Rattle.csv_load.specs.Batch.{Change}
use Rattle.csv_load.specs.Faults.{Fault}
use Rattle.csv_load.specs.Files.{base_in}
use Rattle.cube_defs.specs.Rows.{Row}
use Rattle.cube_defs.specs.Text.{Text}
use Rattle.value_dict.specs.Decoded.{decoded_row}
use Rattle.warehouse.specs.Batch.{Load, result, result_of}
use Rattle.warehouse.specs.Changing.{state_in}
use Rattle.warehouse.specs.Loading.{IsLoad, cost_of_load}
use Rattle.warehouse.specs.State.{Contents, State}
use Rattle.warehouse.specs.Stored.{applied_in, decoded_rows, refusal_in}
use Rattle.warehouse.specs.declared.changing.Building.TheVariants as buildings
use Rattle.warehouse.proofs.Decoding.{length-rows}
use Rattle.warehouse.proofs.Images.{err-same, over-none}
use Rattle.warehouse.proofs.Loads.{none-deleted}
use Rattle.warehouse.proofs.store.Warehouse.load.Goals as goal

pub returns-in-Err-clause-gives : goal.returns-in-Err-clause-gives
returns-in-Err-clause-gives g c =
    let inside = c.self.inside in
    let state = ap (λ (w : Contents). w.state) (c.self.view_is ∙ c.drop_images.ensures.rest) in
    let empty : nat_eq (length (decoded_rows inside.cube.dict.lists inside.cube.table)) 0 ≡ true
    = grind (
      arith,
      length-rows inside.cube.dict.lists (rows_of inside.cube.table),
      c.count.ensures.value,
      c.if-count-ne0.false,
    ) in
    subst (λ (s : State). IfSome (refusal_in c.refused_file.result)
    (λ refusal. result s Load c.args.bytes.now ≡ Err refusal)) state
    (rw empty (c.refused_file.ensures (state_in inside.schema inside.cube) (base_in inside.schema c.args.bytes.now)
    c.in-Err.ensures.gives))

pub returns-in-Err-clause-images : goal.returns-in-Err-clause-images
returns-in-Err-clause-images g c = rw (c.drop_images.ensures.rest) (over-none c.args.self.now.tree)

pub returns-in-Ok : goal.returns-in-Ok
returns-in-Ok g c =
    let inside = c.self.inside in
    let was = c.args.self.now in
    let now = c.make_changes.new.self in
    let before = c.drop_images.new.self.state in
    let made = c.make_changes.result in
    let rest = c.drop_images.ensures.rest in
    let same = c.make_changes.ensures.same in
    let bytes = c.args.bytes.now in
    let changes = c.in-Ok.batch.changes in
    let state = ap (λ (w : Contents). w.state) (c.self.view_is ∙ rest) in
    let empty : rows_of inside.cube.table ≡ []
    = nil_from_length (rows_of inside.cube.table) (omega (arith, c.count.ensures.value, c.if-count-ne0.false)) in
    let none : nat_eq (length was.state.rows) 0 ≡ true
    = subst (λ (s : State). nat_eq (length s.rows) 0 ≡ true) state
    (ap (λ (rows : List (Row ℕ)). nat_eq (length (map (decoded_row inside.cube.dict.lists) rows)) 0) empty) in
    let read : base_in was.state.schema bytes ≡ Ok changes
    = subst (λ (s : State). base_in s.schema bytes ≡ Ok changes) state c.in-Ok.ensures.gives in
    let load : IsLoad buildings.FromScratch before changes = record {
      scratch = refl;
      none = ap (λ (w : Contents). w.state.rows) (sym c.self.view_is)
          ∙ ap (map (decoded_row inside.cube.dict.lists)) empty;
      inserts = none-deleted changes c.in-Ok.ensures.insertions;
    } in
    record {
      gives =
          rw none
          (subst (λ (r : Result (List (Change Text)) Fault). Gives refusal_in (applied_in now.state) made
          (result_of was.state r)) (sym read)
          (subst (λ (s : State). Gives refusal_in (applied_in now.state) made (result_of s (Ok changes)))
          (ap (λ (w : Contents). w.state) rest) c.make_changes.ensures.gives));
      steps = on_ok_weaker made (λ (within : IsLoad buildings.FromScratch before changes
          → c.make_changes.new.steps ≤ c.args.steps.now + cost_of_load now.state). within load)
          c.make_changes.ensures.loaded;
      valid = c.make_changes.ensures.valid;
      state = err-same made (λ (w : Contents). w.state) _ _ _ rest same;
      tree = err-same made (λ (w : Contents). w.tree) _ _ _ rest same;
      index = err-same made (λ (w : Contents). w.index) _ _ _ rest same;
      images = c.make_changes.ensures.images ∙ ap (λ (w : Contents). w.tree) rest;
      no_images = err-same made (λ (w : Contents). w.images) _ _ _ rest same;
    }

pub returns-then-count-ne0-clause-gives : goal.returns-then-count-ne0-clause-gives
returns-then-count-ne0-clause-gives g c =
    let inside = c.self.inside in
    let state = ap (λ (w : Contents). w.state) (c.self.view_is ∙ c.drop_images.ensures.rest) in
    let some : nat_eq (length (decoded_rows inside.cube.dict.lists inside.cube.table)) 0 ≡ false
    = grind (
      arith,
      length-rows inside.cube.dict.lists (rows_of inside.cube.table),
      c.count.ensures.value,
      c.if-count-ne0.true,
    ) in
    let there : nat_eq (length c.args.self.now.state.rows) 0 ≡ false
    = subst (λ (s : State). nat_eq (length s.rows) 0 ≡ false) state some in
    rw there refl

pub returns-then-count-ne0-clause-images : goal.returns-then-count-ne0-clause-images
returns-then-count-ne0-clause-images g c = rw (c.drop_images.ensures.rest) (over-none c.args.self.now.tree)
