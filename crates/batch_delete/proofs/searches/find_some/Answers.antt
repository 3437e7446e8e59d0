use Rattle.std.proofs.Common.{◌≡◌, ◌+◌, ◌-◌, ◌*◌, ◌∙◌, suc, None, ap, arith, get_or, length}
use Rattle.std.specs.Option.{option_map}
use Rattle.cube_laws.proofs.CallerLemmas.{get_among, times_mono}
use Rattle.qc_arena.specs.RecordReaders.{number, record_at}
use Rattle.tree_laws.proofs.CallerLemmas.{there}
use Rattle.batch_delete.specs.Searching.{stepped}
use Rattle.batch_delete.proofs.Others.{times_add}
use Rattle.batch_delete.proofs.Searching.{come_first, come_found, come_on, come_there, all_steps, edge_in}
use Rattle.batch_delete.proofs.searches.find_some.Goals as goal

pub targets-nodes-requires : goal.targets-nodes-requires
targets-nodes-requires g c =
    let a = c.args.class.now.row.now.arena.now in
    record {
      front = there a.now c.args.front.0 _ c.requires.1.0.front;
      until = c.requires.1.1.0;
      from = c.requires.1.1.1.0;
      many = c.requires.1.1.1.1;
    }

pub dims-init : goal.dims-init
dims-init g c =
    let a = c.args.class.now.row.now.arena.now in
    let at = c.requires.1.0 in
    let next : suc c.args.dim ≡ c.args.dim + 1 = omega arith in
    record {
      come = λ j x l has. rw (← next) (come_first a.width a.now g.d at.known.gone.tree
          c.args.class.now.cell.now at.known.long c.args.dim x
          c.args.front.0 at.dim at.front (get_among (record_at a.now c.args.front.0).edges (c.args.from + j) x has) _
          (c.targets-nodes.ensures.targets j x l has));
      after = omega arith;
      steps = omega (arith, c.targets-nodes.ensures.steps);
    }

pub step_all-requires : goal.step_all-requires
step_all-requires g c =
    let a = c.args.class.now.row.now.arena.now in
    let u = c.args.class.now.cell.now in
    let at = c.requires.1.0 in
    let within = c.requires.1.1.0 in
    record {
      many = omega (arith, c.requires.1.1.1.1);
      there = λ k q l has.
          let x = edge_in (record_at a.now c.args.front.0).edges (c.args.from + k) (omega arith) in
          come_there a.width a.now g.d at.known.gone.tree u at.known.long c.args.dim x.0 c.dims.next q.0
          (rw (ap (option_map number) has) at (c.dims.invariant.come k x.0 (omega arith) x.1));
    }

pub dims-preserved : goal.dims-preserved
dims-preserved g c =
    let a = c.args.class.now.row.now.arena.now in
    let u = c.args.class.now.cell.now in
    let at = c.requires.1.0 in
    let test = c.dims-test.true in
    let dims = c.dims-dims.ensures.value in
    let long = at.known.long in
    let after = c.dims.invariant.after in
    let next : suc c.dims.next ≡ c.dims.next + 1 = omega arith in
    let many = c.args.until - c.args.from in
    let split = times_add many (2 * (c.dims.next - c.args.dim - 1)) 2 in
    let more : 2 * (c.dims.next - c.args.dim - 1) + 2 ≡ 2 * (c.dims.next + 1 - c.args.dim - 1) = omega arith in
    let same = ap (λ n. many * n) more in
    record {
      come = λ j x l has. rw (← next) (come_on a.width a.now g.d at.known.gone.tree u long c.args.dim x c.dims.next _ _ after (omega arith)
          (c.dims.invariant.come j x l has)
          (c.step_all.ensures.stepped j (omega arith)
          ∙ ap (λ v. stepped a.now c.dims.next v (option_map number (get_or c.dims.nodes j None))) c.get.ensures.value));
      after = omega arith;
      steps = omega (arith, c.dims.invariant.steps, c.step_all.ensures.steps, split, same);
    }

pub returns-clause-found : goal.returns-clause-found
returns-clause-found g c =
    let a = c.args.class.now.row.now.arena.now in
    let at = c.requires.1.0 in
    λ j x l has same. come_found a.width a.now g.d at.known.gone.tree c.args.class.now.cell.now at.known.long c.args.dim x
    c.dims.next _ (omega (arith, at.known.long, c.dims-test.false, c.dims-dims.ensures.value)) same (c.dims.invariant.come j x l has)

pub returns-clause-steps : goal.returns-clause-steps
returns-clause-steps g c =
    let n = length c.args.class.now.cell.now in
    let many = c.args.until - c.args.from in
    let up = times_mono many (2 * (c.dims.next - c.args.dim - 1)) (2 * (n - 1))
    (omega (arith, c.dims-dims.ensures.value, c.dims.auto.next-end, c.requires.1.0.dim)) in
    omega (arith, up, c.dims.invariant.steps, all_steps n many (omega (arith, c.requires.1.0.dim)))
