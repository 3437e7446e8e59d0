use Rattle.std.proofs.Common.{◌∙◌, ◌<◌, ap, arith, length, Vec, Global}
use Rattle.base_table.specs.declared.table.RowNo.{RowNo}
use Rattle.base_table.proofs.Numbers.{number_more, number_less}
use Rattle.base_table.proofs.presence.numbers_in.Goals as goal
use Rattle.base_table.proofs.presence.numbers_in.Goals.{then-index+in_ok-push, else-index}

pub places-preserved : goal.places-preserved
places-preserved c =
    let items = λ (v : Vec RowNo Global). v.items in
    let lt : c.places.place < length c.args.here.now.items = omega arith in
    elim c.if-index.branch [
      | then-index+in_ok-push w ↦ number_more c.args.here.now.items c.places.place c.index.result.now c.places.nos.items
          c.if-index.nos.items c.index.ensures w.if-index.true (ap items w.nos-is
          ∙ w.in_ok-push.ensures.items) lt c.places.invariant
      | else-index w ↦ number_less c.args.here.now.items c.places.place c.index.result.now c.places.nos.items
          c.if-index.nos.items c.index.ensures w.if-index.false (ap items w.nos-is) lt c.places.invariant
    ]
