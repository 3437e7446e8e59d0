use Rattle.std.proofs.Common.{◌≡◌, ◌+◌, ◌*◌, ◌≤◌, filter, length, take, sym, ap, subst, ◌∙◌, arith}
use Rattle.std.specs.Prelude.{slice_get}
use Rattle.cube_defs.specs.Cell.{depth, with_value}
use Rattle.cube_defs.specs.Tree.{Edge}
use Rattle.cube_laws.proofs.CallerLemmas.{get_among, take_all}
use Rattle.cells_below.specs.Closed.{has_closure_in}
use Rattle.cells_below.proofs.CallerLemmas.{closed}
use Rattle.qc_arena.specs.RecordReaders.{record_at}
use Rattle.quotient_lattice.specs.Candidates.{AreThere, label_leads, lead_count, times}
use Rattle.quotient_lattice.proofs.LabelsLead.{any_between, count_on, edge_after, labels_count}
use Rattle.quotient_lattice.proofs.OnWay.{before_end, behind_end, edges_more, one_if}
use Rattle.quotient_lattice.proofs.candidates.push_labels.Goals as goal
use Rattle.quotient_lattice.proofs.candidates.push_labels.Goals.{then-dim-end+in-Ok, else-dim-end}

pub push_candidate-requires-clause-any : goal.push_candidate-requires-clause-any
push_candidate-requires-clause-any g c =
    let tree = c.args.tree.now.tree in
    let u = c.args.u.now in
    let x : Edge _ _ = record {
      dim = c.edge_at-dim.result.0;
      value = c.edge_at-dim.result.1;
      target
          = c.edge_at-dim.result.2.0;
    } in
    let behind = edge_after _ tree c.dims-dims.ensures.rows.0 c.dims-dims.ensures.rows.1 c.args.at.0 c.requires.at x
    (get_among (record_at tree c.args.at.0).edges c.edges.k x c.edge_at-dim.ensures.value) in
    ap (λ z. slice_get z c.edge_at-dim.result.0) c.edges.invariant.same
    ∙ any_between u c.args.end c.edge_at-dim.result.0
    (subst (λ p. depth p ≤ c.edge_at-dim.result.0) c.requires.front behind) c.if-dim-end.true
    (omega (arith, c.if-dim-end.true, c.requires.end, c.requires.dims))

pub edges-preserved : goal.edges-preserved
edges-preserved g c =
    let tree = c.args.tree.now.tree in
    let u = c.args.u.now in
    let edges = (record_at tree c.args.at.0).edges in
    let x : Edge _ _ = record {
      dim = c.edge_at-dim.result.0;
      value = c.edge_at-dim.result.1;
      target
          = c.edge_at-dim.result.2.0;
    } in
    elim c.if-dim-end.branch [
      | then-dim-end+in-Ok w ↦ record {
        same = w.u-is ∙ w.in-Ok.ensures.same ∙ c.edges.invariant.same;
        led = λ source h k t.
            let d = (record_at tree k).cell in
            let pushed = ap (λ v. times k v.items) w.led-is ∙ w.in-Ok.ensures.led source h k t in
            let lead = ap (λ z. one_if (has_closure_in source d (with_value z x.dim x.value))) c.edges.invariant.same
            ∙ sym (before_end source u d c.args.end x w.if-dim-end.true) in
            let more = edges_more (label_leads source u d c.args.end) edges c.edges.k x c.edge_at-dim.ensures.value in
            omega (arith, pushed, c.edges.invariant.led source h k t, lead, more);
        there = subst (λ v. AreThere tree v.items) (sym w.led-is) (w.in-Ok.ensures.there c.edges.invariant.there);
        few = omega (arith, ap (λ v. length v.items) w.led-is, w.in-Ok.ensures.few, c.edges.invariant.few);
        steps =
            let s = subst (λ z. w.push_candidate.new.steps ≤ c.edge_at-dim.new.steps + (2 * length z + 2))
            c.edges.invariant.same w.in-Ok.ensures.steps in
            omega (arith, s, w.steps-is, c.edge_at-dim.ensures.steps, c.edges.invariant.steps);
      }
      | else-dim-end w ↦ record {
        same = w.u-is ∙ c.edges.invariant.same;
        led = λ source h k t.
            let d = (record_at tree k).cell in
            let kept = ap (λ v. times k v.items) w.led-is in
            let lead = behind_end source u d c.args.end x w.if-dim-end.false in
            let more = edges_more (label_leads source u d c.args.end) edges c.edges.k x c.edge_at-dim.ensures.value in
            omega (arith, kept, c.edges.invariant.led source h k t, lead, more);
        there = subst (λ v. AreThere tree v.items) (sym w.led-is) c.edges.invariant.there;
        few = omega (arith, ap (λ v. length v.items) w.led-is, c.edges.invariant.few);
        steps = omega (arith, w.steps-is, c.edge_at-dim.ensures.steps, c.edges.invariant.steps);
      }
    ]

pub returns-clause-led : goal.returns-clause-led
returns-clause-led g c = λ source h k t.
    let tree = c.args.tree.now.tree in
    let u = c.args.u.now in
    let n = c.args.tree.now.width in
    let d = (record_at tree k).cell in
    let edges = (record_at tree c.args.at.0).edges in
    let own = closed source u u (c.requires.own source h) in
    let all : take c.edges.k edges ≡ edges
    = take_all edges c.edges.k (omega (arith, c.edges-test.false, c.edge_count-k-end.ensures.value)) in
    let labels = labels_count _ tree source h u own c.requires.dims c.args.at.0 c.requires.at c.args.end c.requires.end
    c.requires.front d in
    c.edges.invariant.led source h k t
    ∙ ap (λ m. m + lead_count source u d c.args.end n)
    (ap (λ es. length (filter (label_leads source u d c.args.end) es)) all ∙ labels)
    ∙ count_on _ tree source h u own c.requires.dims c.args.at.0 c.requires.at c.args.end c.requires.end
    c.requires.front d
