-- What holds of an arena whose node handed its class down, or got it back, while no batch is open.
use Rattle.std.proofs.Common.{◌≡◌, ◌≢◌, ℕ, ◌+◌, ◌<◌, ◌≤◌, Bool, true, cond, Option, Some, None, IsSome, is_some, List}
use Rattle.std.proofs.Common.{[], length, refl, sym, ap}
use Rattle.std.proofs.Common.{subst, ◌∙◌, arith, true≢false, inl, inr}
use Rattle.std.proofs.lemmas.Bool.Decides.{eqb_tells}
use Rattle.std.specs.FinMap as map
use Rattle.std.specs.Option.{option_map}
use Rattle.std.specs.Prelude.{if◌then◌else◌}
use Rattle.slab.specs.Slab as slots
use Rattle.cell_core.specs.declared.cell.NodeNo.{NodeNo}
use Rattle.cube_defs.specs.Cell.{depth}
use Rattle.cube_defs.specs.Tree.{Tree}
use Rattle.cube_defs.specs.declared.limits.TheConstants.{MAX_DIMS, MAX_NODES}
use Rattle.qc_arena.specs.declared.tree_totals.TreeTotals.{TreeTotals}
use Rattle.qc_arena.specs.Inside.{AreTotals, IsArena, join, now_of}
use Rattle.qc_arena.specs.Lowered.{HandsDown, IsChildOf, TakesBack, heir_of, with_class_back, with_forced_child}
use Rattle.qc_arena.specs.Map.{IsPlace, Known, new_record}
use Rattle.qc_arena.specs.Counted.{root_after, root_without}
use Rattle.qc_arena.specs.RecordReaders.{number, record_at, record_or}
use Rattle.tree_laws.proofs.CallerLemmas.{some_same}
use Rattle.qc_arena.proofs.ArenaSteps.{closed_slots, nothing_was}
use Rattle.qc_arena.proofs.SlotMaps.{get_now, map_is}
use Rattle.qc_arena.proofs.TotalsSteps.{at_added, at_removed, has_class, is_record, kept_add, kept_change, kept_gone}
use Rattle.qc_arena.proofs.TotalsSteps.{off_added, off_removed}
use Rattle.qc_arena.proofs.TotalsSteps.{width_of}

-- while no batch is open, what was at its begin is what is now
pub closed_arena : (w m : ℕ) (t : slots.Slab (Option Known)) (images : List (ℕ × Option Known)) (b : Bool)
    (kept : TreeTotals) → w ≤ MAX_DIMS → m ≤ MAX_NODES → ((q : ℕ) → slots.get t q ≢ Some None) → images ≡ []
    → AreTotals w m (now_of t) kept → IsArena w m t images b kept kept
closed_arena w m t images b kept dims nodes none nothing is = record {
  few_dims = dims;
  few_nodes = nodes;
  in_slots = closed_slots t images b none nothing;
  is_kept = is;
  was_kept = subst (λ (x : Tree ℕ). AreTotals w m x kept) (sym (nothing_was (now_of t) images nothing)) is;
}

-- no node is killed where two places are written
pub none_killed_still : (s t : slots.Slab (Option Known)) (a b : ℕ) → ((q : ℕ) → slots.get s q ≢ Some None)
    → slots.get t a ≢ Some None → slots.get t b ≢ Some None
    → ((q : ℕ) → q ≢ a → q ≢ b → slots.get t q ≡ slots.get s q) → (q : ℕ) → slots.get t q ≢ Some None
none_killed_still s t a b none at_a at_b others q e = elim (eqb_tells q a) [
  | inl i ↦ at_a (sym (ap (slots.get t) i.1) ∙ e)
  | inr i ↦ elim (eqb_tells q b) [
    | inl j ↦ at_b (sym (ap (slots.get t) j.1) ∙ e)
    | inr j ↦ none q (sym (others q i.1 j.1) ∙ e)
  ]
]

-- a record that is there is not that of a killed node
pub not_killed_there : (o : Option (Option Known)) (n : Known) → o ≡ Some (Some n) → o ≢ Some None
not_killed_there o n is e = true≢false (sym (ap (λ (x : Option (Option Known)). is_some (join x)) is)
    ∙ ap (λ (x : Option (Option Known)). is_some (join x)) e)

pub not_killed_gone : (o : Option (Option Known)) → o ≡ None → o ≢ Some None
not_killed_gone o is e = true≢false (sym (sym (ap (λ (x : Option (Option Known)). is_some x) is)
    ∙ ap (λ (x : Option (Option Known)). is_some x) e))

-- the record of a number is that of its place
pub record_there : (s : slots.Slab (Option Known)) (q : ℕ) → IsSome (join (slots.get s q))
    → map.get (now_of s) q ≡ Some (record_or (join (slots.get s q)))
record_there s q h = get_now s q ∙ is_record (join (slots.get s q)) h

record_same : (s : slots.Slab (Option Known)) (q : ℕ) → record_or (join (slots.get s q)) ≡ record_at (now_of s) q
record_same s q = sym (ap record_or (get_now s q))

-- a class was handed down in the places, so it was in the map
pub hands_down : (s t : slots.Slab (Option Known)) (dim node to : ℕ) → IsSome (join (slots.get s node))
    → slots.get t node ≡ Some (Some (with_forced_child dim to (record_or (join (slots.get s node)))))
    → slots.get t to ≡ Some (Some (heir_of dim node (record_or (join (slots.get s node)))))
    → slots.get s to ≡ None → ((q : ℕ) → q ≢ node → q ≢ to → slots.get t q ≡ slots.get s q)
    → HandsDown dim node (now_of s) (now_of t) to
hands_down s t dim node to there here child free others = record {
  here = get_now t node ∙ ap join here
      ∙ sym (ap (option_map (with_forced_child dim to)) (record_there s node there));
  child = get_now t to ∙ ap join child ∙ ap (λ n. Some (heir_of dim node n)) (record_same s node);
  free = get_now s to ∙ ap join free;
  others = λ q a b. get_now t q ∙ ap join (others q a b) ∙ sym (get_now s q);
}

-- and so where it was taken back
pub takes_back : (s t : slots.Slab (Option Known)) (dim node from : ℕ) → IsSome (join (slots.get s node))
    → slots.get t node ≡ Some (Some (with_class_back dim (record_or (join (slots.get s from))).class
    (record_or (join (slots.get s node)))))
    → slots.get t from ≡ None → ((q : ℕ) → q ≢ node → q ≢ from → slots.get t q ≡ slots.get s q)
    → TakesBack dim node (now_of s) (now_of t) from
takes_back s t dim node from there here gone others = record {
  here = get_now t node ∙ ap join here
      ∙ ap (λ n. Some (with_class_back dim n.class (record_or (join (slots.get s node))))) (record_same s from)
      ∙ sym (ap (option_map (with_class_back dim (record_at (now_of s) from).class)) (record_there s node there));
  gone = get_now t from ∙ ap join gone;
  others = λ q a b. get_now t q ∙ ap join (others q a b) ∙ sym (get_now s q);
}

-- a map in which two numbers are written, number by number
two_written : (t t' u : Tree ℕ) (a b : ℕ) → map.get t' a ≡ map.get u a → map.get t' b ≡ map.get u b
    → ((q : ℕ) → q ≢ a → q ≢ b → map.get t' q ≡ map.get t q) → ((q : ℕ) → q ≢ a → q ≢ b → map.get u q ≡ map.get t q)
    → t' ≡ u
two_written t t' u a b at_a at_b others others' = map_is t' u (λ q. elim (eqb_tells q a) [
  | inl i ↦ ap (map.get t') i.1 ∙ at_a ∙ sym (ap (map.get u) i.1)
  | inr i ↦ elim (eqb_tells q b) [
    | inl j ↦ ap (map.get t') j.1 ∙ at_b ∙ sym (ap (map.get u) j.1)
    | inr j ↦ others q i.1 j.1 ∙ sym (others' q i.1 j.1)
  ]
])

module _ (w m : ℕ) (t t' : Tree ℕ) (kept kept' : TreeTotals) (is : AreTotals w m t kept) (dim node : ℕ) (n : Known)
    (at : map.get t node ≡ Some n) where
  -- what is kept of a map is right after a class is handed down
  pub handed_totals : (to : ℕ) → is_some n.class ≡ true → depth n.cell ≤ dim → dim < w → kept.nodes < m
      → to < 4294967296 → HandsDown dim node t t' to
      → kept'.root ≡ root_after kept.root (Some (record { 0 = node }, dim, 0)) to → kept'.nodes ≡ kept.nodes + 1
      → kept'.classes ≡ kept.classes → kept'.edges + width_of n ≡ kept.edges + width_of (with_forced_child dim to n)
      → width_of (with_forced_child dim to n) < 4294967296 → AreTotals w m t' kept'
  handed_totals to class low within room small hands root nodes classes edges fits =
      let same : record_at t node ≡ n = ap record_or at in
      let u : Option (NodeNo × ℕ × ℕ) = Some (record { 0 = node }, dim, 0) in
      let bare = new_record w t u in
      let heir = heir_of dim node (record_at t node) in
      let place : IsPlace w t u = (
        ap is_some at,
        subst (λ (r : Known). depth r.cell ≤ dim) (sym same) low,
        within,
        omega arith,
      ) in
      let kept1 : TreeTotals = record { root = kept'.root; nodes = kept'.nodes; classes = kept.classes; edges = kept.edges } in
      let kept2 : TreeTotals
      = record { root = kept'.root; nodes = kept'.nodes; classes = kept.classes + 1; edges = kept.edges } in
      let t1 = map.insert t to bare in
      let t2 = map.insert t1 to heir in
      let t3 = map.insert t2 node (with_forced_child dim to n) in
      let is1 : AreTotals w m t1 kept1 = kept_add w m t kept is kept1 u to hands.free place room small root nodes refl refl in
      let one : has_class heir ≡ 1 = ap has_class (ap (heir_of dim node) same) ∙ ap (λ b. cond b 1 0) class in
      let is2 : AreTotals w m t2 kept2 = kept_change w m t1 kept1 kept2 to bare heir is1 (at_added t to bare) refl refl refl
      (omega (arith, one)) refl (omega arith) in
      let apart : node ≢ to = λ e. true≢false (sym (ap is_some (sym (ap (map.get t) e) ∙ at)) ∙ ap is_some hands.free) in
      let there : map.get t2 node ≡ Some n = off_added t1 to heir node apart ∙ off_added t to bare node apart ∙ at in
      let had : has_class n ≡ 1 = ap (λ b. cond b 1 0) class in
      let is3 : AreTotals w m t3 kept' = kept_change w m t2 kept2 kept' node n (with_forced_child dim to n) is2 there refl
      refl refl (omega (arith, classes, had)) edges fits in
      let all : t' ≡ t3 = two_written t t' t3 node to
      (hands.here ∙ ap (option_map (with_forced_child dim to)) at ∙ sym (at_added t2 node (with_forced_child dim to n)))
      (hands.child ∙ sym (off_added t2 node (with_forced_child dim to n) to (λ e. apart (sym e)) ∙ at_added t1 to heir))
      hands.others (λ q a b. off_added t2 node (with_forced_child dim to n) q a ∙ off_added t1 to heir q b
      ∙ off_added t to bare q b) in
      subst (λ (x : Tree ℕ). AreTotals w m x kept') (sym all) is3

-- the parent that a record names is the one that is there
pub named_parent : (tree : Tree ℕ) (child : ℕ) (p : Option NodeNo) (node : NodeNo) (r : Known) → p ≡ Some node
    → option_map number p ≡ r.parent → r ≡ record_at tree child → (k : ℕ) × IsChildOf tree k child
    → IsChildOf tree node.0 child
named_parent tree child p node r is from same w =
    subst (λ k. IsChildOf tree k child)
    (some_same (sym w.1.parent ∙ ap (λ (x : Known). x.parent) (sym same) ∙ sym from ∙ ap (option_map number) is)) w.1

-- what is kept of a map is right after a node is gone, by what is known of it
pub gone_totals : (w m : ℕ) (t : Tree ℕ) (kept less : TreeTotals) → AreTotals w m t kept → (k : ℕ) (n : Known)
    → map.get t k ≡ Some n → (is_class : Bool) (edges : ℕ) → is_class ≡ is_some n.class → edges ≡ length n.edges
    → less.root ≡ root_without kept.root k → less.nodes + 1 ≡ kept.nodes
    → less.classes + (if is_class then 1 else 0) ≡ kept.classes → less.edges + edges ≡ kept.edges
    → AreTotals w m (map.remove t k) less
gone_totals w m t kept less is k n at is_class edges class long root nodes fewer rest =
    let one : (if is_class then 1 else 0) ≡ has_class n = ap (λ (b : Bool). if b then 1 else 0) class in
    kept_gone w m t kept is less k n at root nodes (omega (arith, one, fewer)) (omega (arith, long, rest))

-- and after its parent has its class
pub back_totals : (w m : ℕ) (t t' : Tree ℕ) (less kept : TreeTotals) (dim node from : ℕ) (n heir : Known)
    → map.get t node ≡ Some n → map.get t from ≡ Some heir → node ≢ from → AreTotals w m (map.remove t from) less
    → TakesBack dim node t t' from → kept.root ≡ less.root → kept.nodes ≡ less.nodes
    → kept.classes + has_class n ≡ less.classes + has_class heir
    → kept.edges + width_of n ≡ less.edges + width_of (with_class_back dim heir.class n)
    → width_of (with_class_back dim heir.class n) < 4294967296 → AreTotals w m t' kept
back_totals w m t t' less kept dim node from n heir at at_heir apart is takes root nodes classes edges fits =
    let n' = with_class_back dim heir.class n in
    let t1 = map.remove t from in
    let t2 = map.insert t1 node n' in
    let is2 : AreTotals w m t2 kept = kept_change w m t1 less kept node n n' is (off_removed t from node apart ∙ at) refl root
    nodes classes edges fits in
    let class : (record_at t from).class ≡ heir.class = ap (λ o. (record_or o).class) at_heir in
    let all : t' ≡ t2 = two_written t t' t2 node from
    (takes.here ∙ ap (option_map (with_class_back dim (record_at t from).class)) at
    ∙ ap (λ c. Some (with_class_back dim c n)) class ∙ sym (at_added t1 node n'))
    (takes.gone ∙ sym (off_added t1 node n' from (λ e. apart (sym e)) ∙ at_removed t from)) takes.others
    (λ q a b. off_added t1 node n' q a ∙ off_removed t from q b) in
    subst (λ (x : Tree ℕ). AreTotals w m x kept) (sym all) is2
