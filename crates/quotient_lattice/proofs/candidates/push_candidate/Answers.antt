use Rattle.std.proofs.Common.{◌+◌, None, arith, set, subst, sym, ap, ◌∙◌}
use Rattle.std.specs.FinMap as map
use Rattle.std.specs.Prelude.{IsSome}
use Rattle.std.proofs.lemmas.List.Elements.{All-push}
use Rattle.cells_below.specs.Closed.{has_closure_in}
use Rattle.qc_arena.specs.RecordReaders.{record_at}
use Rattle.quotient_lattice.specs.Candidates.{AreThere, times}
use Rattle.quotient_lattice.proofs.Listing.{times-push}
use Rattle.quotient_lattice.proofs.OnWay.{found_some, one_if, put_back}
use Rattle.quotient_lattice.proofs.candidates.push_candidate.Goals as goal

pub returns-in-Err-clause-same : goal.returns-in-Err-clause-same
returns-in-Err-clause-same g c = c.set-2.ensures.value ∙ ap (λ x. set x c.args.dim None) c.set.ensures.value
    ∙ put_back c.args.u.now c.args.dim c.args.code c.requires.any

pub returns-in-Ok-clause-same : goal.returns-in-Ok-clause-same
returns-in-Ok-clause-same g c = c.set-2.ensures.value ∙ ap (λ x. set x c.args.dim None) c.set.ensures.value
    ∙ put_back c.args.u.now c.args.dim c.args.code c.requires.any

pub returns-in_default-clause-same : goal.returns-in_default-clause-same
returns-in_default-clause-same g c = c.set-2.ensures.value ∙ ap (λ x. set x c.args.dim None) c.set.ensures.value
    ∙ put_back c.args.u.now c.args.dim c.args.code c.requires.any

pub returns-in-Ok-clause-led : goal.returns-in-Ok-clause-led
returns-in-Ok-clause-led g c = λ source h k t.
    let tree = c.args.tree.now.tree in
    ap (times k) c.in-Ok.ensures.items ∙ times-push k c.in-Some.node.0 c.args.led.now.items
    ∙ ap (λ n. times k c.args.led.now.items + n)
    (found_some _ tree source h c.set.new.self k t c.in-Some.node.0 (c.in-Some.ensures.found source h)
    ∙ ap (λ x. one_if (has_closure_in source (record_at tree k).cell x)) c.set.ensures.value)

pub returns-in-Ok-clause-there : goal.returns-in-Ok-clause-there
returns-in-Ok-clause-there g c = λ there.
    subst (AreThere c.args.tree.now.tree) (sym c.in-Ok.ensures.items)
    (All-push (λ k. IsSome (map.get c.args.tree.now.tree k)) c.args.led.now.items c.in-Some.node.0 there
    c.in-Some.ensures.there)

pub returns-in-Ok-clause-steps : goal.returns-in-Ok-clause-steps
returns-in-Ok-clause-steps g c = omega (arith, c.find-found.ensures.steps, c.set.ensures.dims)

pub returns-in-Err-clause-steps : goal.returns-in-Err-clause-steps
returns-in-Err-clause-steps g c = omega (arith, c.find-found.ensures.steps, c.set.ensures.dims)

pub returns-in_default-clause-steps : goal.returns-in_default-clause-steps
returns-in_default-clause-steps g c = omega (arith, c.find-found.ensures.steps, c.set.ensures.dims)
