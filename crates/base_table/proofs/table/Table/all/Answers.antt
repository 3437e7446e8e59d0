use Rattle.std.proofs.Common.{ap}
use Rattle.base_table.specs.Places.{Places}
use Rattle.base_table.proofs.Holding.{length-view}
use Rattle.base_table.proofs.table.Table.all.Goals as goal
use Rattle.std.proofs.lemmas.Result.{IfOk-weaker}
use Rattle.base_table.proofs.Numbers.{named-view, numbers-view, there-view}

pub returns-clause-numbers : goal.returns-clause-numbers
returns-clause-numbers c =
    let m = c.self.inside in
    IfOk-weaker c.numbers_in.result _ _
    (λ nos are. numbers-view c.args.self.now m.here.items m.store.rows c.self.invariant.places
    (ap (λ (t : Places). t.places) c.self.view_is)
    (length-view c.self.invariant c.args.self.now c.self.view_is) nos.items are) c.numbers_in.ensures

pub returns-clause-rows : goal.returns-clause-rows
returns-clause-rows c =
    let m = c.self.inside in
    IfOk-weaker c.numbers_in.result _ _
    (λ nos are. named-view c.args.self.now m.here.items m.store.rows c.self.invariant.places
    (ap (λ (t : Places). t.places) c.self.view_is)
    (length-view c.self.invariant c.args.self.now c.self.view_is) nos.items are) c.numbers_in.ensures

pub returns-clause-there : goal.returns-clause-there
returns-clause-there c =
    let m = c.self.inside in
    IfOk-weaker c.numbers_in.result _ _
    (λ nos are. there-view c.args.self.now m.here.items m.store.rows c.self.invariant.places
    (ap (λ (t : Places). t.places) c.self.view_is)
    (length-view c.self.invariant c.args.self.now c.self.view_is) nos.items are) c.numbers_in.ensures
