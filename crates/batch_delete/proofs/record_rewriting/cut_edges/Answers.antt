use Rattle.std.proofs.Common.{◌≡◌, ◌∙◌, ◌+◌, ◌-◌, ℕ, suc, Option, Some, ap, arith, length, refl, slice_get, sym}
use Rattle.std.proofs.lemmas.Bool.{cond-true}
use Rattle.std.specs.Option.{option_map}
use Rattle.cube_defs.specs.Tree.{Edge}
use Rattle.qc_arena.specs.Map.{Known, is_open}
use Rattle.qc_arena.specs.RecordReaders.{record_at, record_or}
use Rattle.tree_search.proofs.CallerLemmas.{there_is}
use Rattle.batch_delete.specs.Plan.{left_to, with_target, with_mixed}
use Rattle.batch_delete.proofs.Rewriting.{all_mixed, looked, mended_more, mixed_long, more_changes, no_change, rises_from}
use Rattle.batch_delete.proofs.OwnLabels.{mixed_kept}
use Rattle.batch_delete.proofs.record_rewriting.cut_edges.Goals as goal

pub edges-init : goal.edges-init
edges-init g c =
    let t = c.args.arena.now.now in
    let n = record_at t c.args.node.0 in
    let f = left_to c.args.next in
    let here = there_is t c.args.node.0 c.requires.there in
    let many = c.edge_count-many.ensures.value in
    let one = c.edge_count-many.ensures.steps in
    let first = c.left_count-left.ensures.steps in
    record {
      here = here ∙ ap (λ (x : Known). Some x) (sym (all_mixed f n (c.edge_count-many.result - 0) (omega arith)))
          ∙ ap (option_map (with_mixed f (c.edge_count-many.result - 0))) (sym here);
      only = no_change c.args.node.0 c.args.arena.now;
      opened = c.requires.opened;
      steps = omega arith;
    }

pub edge_at-edge-requires-clause-k : goal.edge_at-edge-requires-clause-k
edge_at-edge-requires-clause-k g c =
    let f = left_to c.args.next in
    let n = record_at c.args.arena.now.now c.args.node.0 in
    let j = c.edge_count-many.result - 1 - c.edges.k in
    let many = c.edge_count-many.ensures.value in
    let same : c.edge_count-many.result - c.edges.k ≡ suc j = omega arith in
    let is = c.edges.invariant.here
    ∙ ap (option_map (with_mixed f (c.edge_count-many.result - c.edges.k)))
    (there_is c.args.arena.now.now c.args.node.0 c.requires.there) ∙ ap (λ j. Some (with_mixed f j n)) same in
    let long = mixed_long f n.edges j (omega arith) in
    let at = ap (λ (o : Option Known). length (record_or o).edges) is in
    omega arith

pub edges-preserved : goal.edges-preserved
edges-preserved g c =
    let f = left_to c.args.next in
    let n = record_at c.args.arena.now.now c.args.node.0 in
    let j = c.edge_count-many.result - 1 - c.edges.k in
    let many = c.edge_count-many.ensures.value in
    let same : c.edge_count-many.result - c.edges.k ≡ suc j = omega arith in
    let next : j ≡ c.edge_count-many.result - (c.edges.k + 1) = omega arith in
    let old = there_is c.args.arena.now.now c.args.node.0 c.requires.there in
    let is = c.edges.invariant.here ∙ ap (option_map (with_mixed f (c.edge_count-many.result - c.edges.k))) old
    ∙ ap (λ j. Some (with_mixed f j n)) same in
    let x : Edge ℕ ℕ = record {
      dim = c.edge_at-edge.result.0;
      value = c.edge_at-edge.result.1;
      target
          = c.edge_at-edge.result.2.0;
    } in
    let at : slice_get n.edges j ≡ Some x
    = looked f n.edges j x (omega arith) (ap (λ (o : Option Known). slice_get (record_or o).edges j) (sym is)
    ∙ c.edge_at-edge.ensures.value) in
    let had = c.edges.invariant.steps in
    let read = c.edge_at-edge.ensures.steps in
    let wrote = c.cut_edge.ensures.steps in
    record {
      here = c.cut_edge.ensures.here ∙ ap (option_map (with_target x (f x))) is
          ∙ ap (λ (y : Known). Some y)
          (mended_more f j n x (f x) (rises_from n.edges c.edge_count-many.ensures.rising) at refl)
          ∙ ap (λ j. Some (with_mixed f j n)) next
          ∙ sym (ap (option_map (with_mixed f (c.edge_count-many.result - (c.edges.k + 1)))) old);
      only = more_changes c.args.node.0 _ _ _ c.edges.invariant.only c.cut_edge.ensures.only;
      opened = ap is_open c.cut_edge.ensures.only.frame ∙ c.edges.invariant.opened;
      steps = omega arith;
    }

pub returns-clause-here : goal.returns-clause-here
returns-clause-here g c =
    let f = left_to c.args.next in
    let n = record_at c.args.arena.now.now c.args.node.0 in
    let old = there_is c.args.arena.now.now c.args.node.0 c.requires.there in
    let many = c.edge_count-many.ensures.value in
    let within = c.left_count-left.ensures.within in
    let past = c.edges-test.false in
    let ends = c.edges.auto.k-end in
    let left = mixed_kept f (c.edge_count-many.result - c.edges.k) n.edges
    (λ k x l e. cond-true _ _ _ (c.left_count-left.ensures.left k x (omega arith) e)) in
    c.edges.invariant.here ∙ ap (option_map (with_mixed f (c.edge_count-many.result - c.edges.k))) old
    ∙ ap (λ (l : _). Some (let m : Known = record n { edges = l } in m)) left
    ∙ sym (ap (option_map (with_mixed f 0)) old)

pub returns-clause-rises : goal.returns-clause-rises
returns-clause-rises g c
    = rises_from (record_at c.args.arena.now.now c.args.node.0).edges c.edge_count-many.ensures.rising
