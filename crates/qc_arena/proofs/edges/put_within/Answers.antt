use Rattle.std.proofs.Common.{◌≡◌, ◌<◌, ◌≤◌, ℕ, ap, ◌∙◌, arith, sym, get_or, length, true, false, set, length-set, List, subst, rules}
use Rattle.cube_defs.specs.Tree.{Edge}
use Rattle.std.proofs.lemmas.Grind.{common_steps}
use Rattle.smallvec.proofs.SmallVecLemmas.{items-with_items}
use Rattle.qc_arena.specs.declared.edge.StoredEdge.{StoredEdge}
use Rattle.qc_arena.specs.Edges.{edge_in, edge_to, edges_to, rises, same_label}
use Rattle.qc_arena.specs.RecordReaders.{label_lt}
use Rattle.qc_arena.proofs.Halving.{blank}
use Rattle.qc_arena.proofs.Labels.{put_insert, put_set, rises-put}
use Rattle.qc_arena.proofs.edges.put_within.Goals as goal

pub returns-then-is_at : goal.returns-then-is_at
returns-then-is_at c =
    let xs = c.args.edges.now.items in
    let k = c.place_of-place.result in
    let e = c.args.edge in
    let s = c.of-stored.result in
    let at : k < length xs = grind (arith, common_steps, c.is_at.ensures.within) in
    let wrote = ap (λ (l : List StoredEdge). set l k s) c.as_mut_slice-items.ensures.value in
    let passed = subst (λ (l : List StoredEdge). (j : ℕ) (d : StoredEdge) → j < k
    → label_lt (edge_to (get_or l j d)) (edge_in e) ≡ true) c.as_slice.ensures
    c.place_of-place.ensures.passed in
    let stops = subst (λ (l : List StoredEdge). (d : StoredEdge) → k < length l
    → label_lt (edge_to (get_or l k d)) (edge_in e) ≡ false) c.as_slice.ensures
    c.place_of-place.ensures.stops in
    let is = subst (λ (l : List StoredEdge). (d : StoredEdge) → k < length l
    → same_label (edge_to (get_or l k d)) (edge_in e) ≡ c.is_at.result) c.as_slice-2.ensures c.is_at.ensures.is in
    let written = items-with_items c.args.edges.now _ (ap length wrote ∙ length-set xs k s) ∙ wrote in
    let put =
    ap edges_to written
    ∙ sym (put_set (edge_in e) s xs k blank c.of-stored.ensures at passed (stops blank at)
    (is blank at ∙ c.if-is_at.true)) in
    record {
      ok = put;
      rising = subst (λ (l : List (Edge ℕ ℕ)). rises l ≡ true) (sym put)
          (rises-put (edge_in e) (edges_to xs) c.requires);
      more = let long = ap length written ∙ length-set xs k s in omega (arith, long);
      err = search rules;
    }

pub returns-in-Ok : goal.returns-in-Ok
returns-in-Ok c =
    let xs = c.args.edges.now.items in
    let k = c.place_of-place.result in
    let e = c.args.edge in
    let s = c.of-stored.result in
    let passed = subst (λ (l : List StoredEdge). (j : ℕ) (d : StoredEdge) → j < k
    → label_lt (edge_to (get_or l j d)) (edge_in e) ≡ true) c.as_slice.ensures
    c.place_of-place.ensures.passed in
    let stops = subst (λ (l : List StoredEdge). (d : StoredEdge) → k < length l
    → label_lt (edge_to (get_or l k d)) (edge_in e) ≡ false) c.as_slice.ensures
    c.place_of-place.ensures.stops in
    let is = subst (λ (l : List StoredEdge). (d : StoredEdge) → k < length l
    → same_label (edge_to (get_or l k d)) (edge_in e) ≡ c.is_at.result) c.as_slice-2.ensures c.is_at.ensures.is in
    let within = subst (λ (l : List StoredEdge). k ≤ length l) c.as_slice.ensures
    c.place_of-place.ensures.within in
    let put =
    ap edges_to c.in-Ok.ensures.ok
    ∙ sym (put_insert (edge_in e) s xs k blank c.of-stored.ensures within passed (stops blank)
    (λ l. is blank l ∙ c.if-is_at.false)) in
    record {
      ok = put;
      rising = subst (λ (l : List (Edge ℕ ℕ)). rises l ≡ true) (sym put)
          (rises-put (edge_in e) (edges_to xs) c.requires);
      more = omega (arith, c.in-Ok.ensures.len);
      err = search rules;
    }
