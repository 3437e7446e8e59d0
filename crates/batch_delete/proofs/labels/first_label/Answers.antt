use Rattle.std.proofs.Common.{ℕ, ◌+◌, ◌-◌, ◌/◌, arith}
use Rattle.cube_defs.specs.Tree.{Edge}
use Rattle.qc_arena.specs.RecordReaders.{record_at}
use Rattle.batch_delete.proofs.Dims.{from_on, up_to}
use Rattle.batch_delete.proofs.labels.first_label.Goals as goal

pub halves-preserved-then-at-dim : goal.halves-preserved-then-at-dim
halves-preserved-then-at-dim g c =
    let es = (record_at c.args.arena.now.now c.args.node.0).edges in
    let m : ℕ = c.halves.first + (c.halves.end - c.halves.first) / 2 in
    let y : Edge ℕ ℕ = record {
      dim = c.edge_at-at.result.0;
      value = c.edge_at-at.result.1;
      target
          = c.edge_at-at.result.2.0;
    } in
    record {
      from = omega arith;
      within = c.halves.invariant.within;
      meets = omega arith;
      before = λ k x l e. let low
          = up_to es c.edge_count-end.ensures.rising m y c.edge_at-at.ensures.value k x (omega arith) e in omega arith;
      behind = c.halves.invariant.behind;
      steps = omega arith;
    }

pub halves-preserved : goal.halves-preserved
halves-preserved g c =
    let es = (record_at c.args.arena.now.now c.args.node.0).edges in
    let m : ℕ = c.halves.first + (c.halves.end - c.halves.first) / 2 in
    let y : Edge ℕ ℕ = record {
      dim = c.edge_at-at.result.0;
      value = c.edge_at-at.result.1;
      target
          = c.edge_at-at.result.2.0;
    } in
    record {
      from = c.halves.invariant.from;
      within = omega arith;
      meets = omega arith;
      before = c.halves.invariant.before;
      behind = λ k x l e. let high
          = from_on es c.edge_count-end.ensures.rising m y c.edge_at-at.ensures.value k x (omega arith) e in
          omega arith;
      steps = omega arith;
    }
