use Rattle.std.proofs.Common.{◌∙◌, ◌≡◌, ◌<◌, ◌≤◌, ◌-◌, ◌+◌, ◌*◌, sym, ap, arith, length, get_or, pos, w64, false}
use Rattle.std.proofs.lemmas.Int.{to_z-of_z}
use Rattle.std.proofs.lemmas.List.{get_or_read}
use Rattle.csv_load.specs.Batch.{Batch, Delete, amount_at, change_at, is_deletion}
use Rattle.csv_load.proofs.Amounts.{abs-fits}
use Rattle.csv_load.proofs.Columnar.{all_in, amount-at, amount-small, below-all, change-within}
use Rattle.csv_load.proofs.batch.RawBatch.amount.Goals as goal

pub index-requires : goal.index-requires
index-requires c =
    let inside = c.self.inside in
    let lt = change-within inside.changes c.self.view_is c.requires.insertion.there in
    let measure : c.args.measure + 1 ≤ inside.measures
    = omega (arith, c.requires.measure, ap (λ (b : Batch). b.measures) c.self.view_is) in
    omega (
      arith,
      c.self.invariant.amounts_fit,
      below-all inside.measures (length inside.changes.ids.items) (c.args.k - 1) (c.args.measure + 1) lt measure,
    )

pub returns : goal.returns
returns c =
    let inside = c.self.inside in
    let lt = change-within inside.changes c.self.view_is c.requires.insertion.there in
    let measure : c.args.measure < inside.measures
    = omega (arith, c.requires.measure, ap (λ (b : Batch). b.measures) c.self.view_is) in
    let is : is_deletion (change_at (all_in inside.dims inside.measures inside.changes) c.args.k) ≡ false
    = ap (λ (b : Batch). is_deletion (change_at b.changes c.args.k)) c.self.view_is ∙ c.requires.insertion.inserts in
    let within : (c.args.k - 1) * inside.measures + c.args.measure < length inside.changes.amounts.items
    = omega (
      arith,
      c.self.invariant.amounts_fit,
      below-all inside.measures (length inside.changes.ids.items) (c.args.k - 1) (c.args.measure + 1) lt
          (omega (arith, measure)),
    ) in
    let here : c.index.result.now ≡ get_or inside.changes.amounts.items
    ((c.args.k - 1) * inside.measures + c.args.measure) (pos 0)
    = get_or_read inside.changes.amounts.items ((c.args.k - 1) * inside.measures + c.args.measure) c.index.result.now
    within c.index.ensures (pos 0) in
    let fits = abs-fits (get_or inside.changes.amounts.items
    ((c.args.k - 1) * inside.measures + c.args.measure) (pos 0))
    (amount-small inside.dims inside.measures inside.changes (c.args.k - 1) c.args.measure
    (Delete 0) c.self.invariant lt is measure) in
    rw here (to_z-of_z w64 (get_or inside.changes.amounts.items ((c.args.k - 1) * inside.measures + c.args.measure)
    (pos 0)) fits)
    ∙ sym (amount-at inside.dims inside.measures inside.changes (c.args.k - 1) c.args.measure (Delete 0) lt is measure)
    ∙ ap (λ (b : Batch). amount_at b.changes c.args.k c.args.measure) c.self.view_is
