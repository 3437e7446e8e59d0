-- The labels of the node of a prefix of the old closure are labels of the node with the row, but for those with its
-- value.
use Rattle.std.proofs.Common.{cond, ◌≡◌, ◌⊎◌, inl, inr, ℕ, zero, suc, ◌≤◌, ◌<◌, Bool, true, false, Option, Some, None, List, [], ◌∷◌, ◌++◌}
use Rattle.std.proofs.Common.{map, length, nat_cmp, slice_get, slice_index_or, refl, sym, ap, ap₂, ◌∙◌, arith}
use Rattle.std.proofs.lemmas.Bool.{cond-true, cond-false, and_from}
use Rattle.std.specs.List.{list_all}
use Rattle.std.specs.Cmp.{nat_cmp_total}
use Rattle.std.specs.Ordering.{eq_by_cmp}
use Rattle.std.specs.Option.{option_map}
use Rattle.std.specs.FinMap as finmap
use Rattle.cube_defs.specs.Cell.{Cell, cell_of, depth, cell_prefix, leq, meet}
use Rattle.cube_defs.specs.Rows as defs
use Rattle.cube_defs.specs.Tree.{Edge, cell_at, parent_cell_of, next_value, renamed, renamed_edge}
use Rattle.cube_laws.specs.Lists.{Among}
use Rattle.cube_laws.proofs.CallerLemmas.{cell_prefix-depth_cell_prefix, length-cell_prefix, meet_comm, one_value, one_value-leq, among_map}
use Rattle.cube_laws.proofs.CallerLemmas.{map_among, code_equality}
use Rattle.tree_laws.specs.Labels.{target_of_label, target_after_row, record_of}
use Rattle.tree_laws.proofs.CallerLemmas.{edges-are, edges_rise, depth-cell_prefix-le, cell_prefix-meet, lead_chain, lead-insert, some_same}
use Rattle.tree_laws.proofs.CallerLemmas.{cell_prefix-between, next-chain, chain_node, record_read, Ascends, IsBefore}
use Rattle.qc_arena.specs.Edges.{rises}
use Rattle.qc_arena.specs.Map.{Arena, Known}
use Rattle.qc_arena.specs.RecordReaders.{label_lt}
use Rattle.batch_insert.specs.Cases.{Case, IsPrefix, new_closure, old_closure, old_lead}
use Rattle.batch_insert.specs.Stages.{HasLabel, new_lead}
use Rattle.batch_insert.proofs.Prefixes.{prefix_deep, prefix_leq, prefix_long, old_long}
use Rattle.batch_insert.proofs.Naming.{entry_is}
use Rattle.batch_insert.proofs.Records.{rises_ascends}

pub entry_at : (t : Cell ℕ) (i v : ℕ) → slice_get t i ≡ Some (Some v) → slice_index_or t i None ≡ Some v
entry_at [] i v h = cc
entry_at (e ∷ t) zero v h = some_same h
entry_at (e ∷ t) (suc i) v h = entry_at t i v h

-- edges whose labels are those of a list that ascends rise
less_label : (x y : Edge ℕ ℕ) → IsBefore x y → label_lt x y ≡ true
less_label x y b = go b.less
  where
    go : (x.dim < y.dim) ⊎ ((x.dim ≡ y.dim) × (x.value < y.value)) → label_lt x y ≡ true
    go (inl l) = grind (arith, l)
    go (inr l) = grind (arith, l.0, l.1)

module _ (name : ℕ → Option (Cell ℕ)) where
  all_before : (x : Edge ℕ ℕ) (y : Edge ℕ (Cell ℕ)) (xs : List (Edge ℕ ℕ)) (ys : List (Edge ℕ (Cell ℕ))) → x.dim ≡ y.dim
      → x.value ≡ y.value
      → map (renamed_edge name) xs ≡ map (renamed_edge (λ c. Some c)) ys
      → ((z : Edge ℕ (Cell ℕ)) → Among z ys → IsBefore y z) → list_all (label_lt x) xs ≡ true
  all_before x y [] ys d v e h = refl
  all_before x y (w ∷ xs) [] d v e h = cc
  all_before x y (w ∷ xs) (z ∷ ys) d v e h =
      let s : renamed_edge name w ≡ renamed_edge (λ c. Some c) z = cc in
      let b : IsBefore x w = record { less = go (h z (inl refl)).less (ap (λ u. u.dim) s) (ap (λ u. u.value) s) } in
      and_from _ _ (less_label x w b) (all_before x y xs ys d v (cc) (λ u m. h u (inr m)))
    where
      go : (y.dim < z.dim) ⊎ ((y.dim ≡ z.dim) × (y.value < z.value)) → w.dim ≡ z.dim → w.value ≡ z.value
          → (x.dim < w.dim) ⊎ ((x.dim ≡ w.dim) × (x.value < w.value))
      go (inl l) f g = inl (omega (arith, l, d, f))
      go (inr l) f g = inr (omega (arith, l.0, d, f), omega (arith, l.1, v, g))

pub rises_named : (name : ℕ → Option (Cell ℕ)) (xs : List (Edge ℕ ℕ)) (ys : List (Edge ℕ (Cell ℕ)))
    → map (renamed_edge name) xs ≡ map (renamed_edge (λ c. Some c)) ys → Ascends ys → rises xs ≡ true
rises_named name [] ys e h = refl
rises_named name (x ∷ xs) [] e h = cc
rises_named name (x ∷ xs) (y ∷ ys) e h =
    let s : renamed_edge name x ≡ renamed_edge (λ c. Some c) y = cc in
    and_from _ _
    (all_before name x y xs ys (ap (λ u. u.dim) s) (ap (λ u. u.value) s) (cc) h.0) (rises_named name xs ys (cc) h.1)

module _ {t : Cell ℕ} {a : Arena} (c : Case t a) where
  pub covered : (p : Cell ℕ) (i : ℕ) → IsPrefix c p i → defs.covers (eq_by_cmp nat_cmp) p c.row ≡ true
  covered p i f = ap (leq (eq_by_cmp nat_cmp) p) c.tuple ∙ prefix_leq c p i f

  -- a label leads where it led, or has t's value and leads to what the old target and t share
  led : (p : Cell ℕ) (i v : ℕ) → IsPrefix c p i → i < length t
      → ((leq (eq_by_cmp nat_cmp) (one_value i v) (cell_of c.row.tuple) ≡ false)
      × (new_lead c p i v ≡ old_lead c p i v))
      ⊎ ((leq (eq_by_cmp nat_cmp) (one_value i v) (cell_of c.row.tuple) ≡ true)
      × (new_lead c p i v ≡ Some (target_after_row (eq_by_cmp nat_cmp) (old_lead c p i v) (cell_of c.row.tuple) i)))
  led p i v f l = go _ refl
    where
      whole : new_lead c p i v ≡ cond (leq (eq_by_cmp nat_cmp) (one_value i v) (cell_of c.row.tuple))
          (Some (target_after_row (eq_by_cmp nat_cmp) (old_lead c p i v) (cell_of c.row.tuple) i)) (old_lead c p i v)
      whole = lead-insert code_equality c.xs c.row c.ys p i v (covered p i f) (prefix_deep c p i f)
          (omega (arith, l, prefix_long c p i f))

      go : (b : Bool) → leq (eq_by_cmp nat_cmp) (one_value i v) (cell_of c.row.tuple) ≡ b
          → ((leq (eq_by_cmp nat_cmp) (one_value i v) (cell_of c.row.tuple) ≡ false)
          × (new_lead c p i v ≡ old_lead c p i v))
          ⊎ ((leq (eq_by_cmp nat_cmp) (one_value i v) (cell_of c.row.tuple) ≡ true)
          × (new_lead c p i v ≡ Some
          (target_after_row (eq_by_cmp nat_cmp) (old_lead c p i v) (cell_of c.row.tuple) i)))
      go true e = inr (e, whole ∙ cond-true _ _ _ e)
      go false e = inl (e, whole ∙ cond-false _ _ _ e)

  own_value : (i v : ℕ) → leq (eq_by_cmp nat_cmp) (one_value i v) (cell_of c.row.tuple) ≡ true
      → slice_index_or t i None ≡ Some v
  own_value i v h = entry_at t i v (ap (λ x. slice_get x i) (sym c.tuple) ∙ (one_value-leq code_equality i v _).0 h)

  pub led_or_own : (p : Cell ℕ) (i v : ℕ) → IsPrefix c p i → i < length t → (new_lead c p i v ≡ old_lead c p i v)
      ⊎ (slice_index_or t i None ≡ Some v)
  led_or_own p i v f l = elim (led p i v f l) [ inl h ↦ inl h.1 | inr h ↦ inr (own_value i v h.0) ]

  pub led_own : (p : Cell ℕ) (i v : ℕ) → IsPrefix c p i → i < length t → slice_index_or t i None ≡ Some v
      → new_lead c p i v ≡ Some (target_after_row (eq_by_cmp nat_cmp) (old_lead c p i v) t i)
  led_own p i v f l e = elim (led p i v f l) [
    | inl h ↦ absurd (bad (sym h.0
        ∙ (one_value-leq code_equality i v _).1 (ap (λ x. slice_get x i) c.tuple ∙ entry_is t i v e)))
    | inr h ↦ h.1 ∙ ap (λ x. Some (target_after_row (eq_by_cmp nat_cmp) (old_lead c p i v) x i)) c.tuple
  ]
    where
      bad : false ≡ true → ⊥
      bad z = cc

  -- the node of a prefix of p's old closure
  module _ (p u : Cell ℕ) (i : ℕ) (front : IsPrefix c p i) (e : old_closure c p ≡ Some u) where
    is : defs.closure (eq_by_cmp nat_cmp) (c.xs ++ c.ys) (cell_prefix i u) ≡ Some u
    is = (chain_node nat_cmp_total finmap.nat_cmp-IsAntisymmetric c.measures (c.xs ++ c.ys) p u i e
        (prefix_deep c p i front)).0

    long : length (cell_prefix i u) ≡ length t
    long = length-cell_prefix i u ∙ old_long c p u e

    pub cut : (j : ℕ) → cell_prefix j (new_closure c p) ≡ meet (eq_by_cmp nat_cmp) (cell_prefix j u) t
    cut j = ap (λ o. cell_prefix j (defs.meet_after (eq_by_cmp nat_cmp) t o)) e
        ∙ ap (cell_prefix j) (meet_comm code_equality t u) ∙ cell_prefix-meet code_equality j u t

    -- what a label of its record is to p
    pub source_place : (j : ℕ) → depth (cell_prefix i u) ≤ j → j ≤ next_value nat_cmp (depth (cell_prefix i u)) u
        → IsPrefix c p j
    source_place j d l =
        let same : cell_prefix j u ≡ cell_prefix i u = cell_prefix-between nat_cmp (depth (cell_prefix i u)) j u d l
        ∙ cell_prefix-depth_cell_prefix i u in
        cut j ∙ ap (λ w. meet (eq_by_cmp nat_cmp) w t) same ∙ sym (cut i) ∙ front

    source_lead : (j v : ℕ) → depth (cell_prefix i u) ≤ j → j ≤ next_value nat_cmp (depth (cell_prefix i u)) u
        → j < length t → target_of_label (eq_by_cmp nat_cmp) (c.xs ++ c.ys) (cell_prefix i u) j v ≡ old_lead c p j v
    source_lead j v d l w =
        let same : cell_prefix j u ≡ cell_prefix i u = cell_prefix-between nat_cmp _ j u d l
        ∙ cell_prefix-depth_cell_prefix i u in
        let f = source_place j d l in
        ap (λ q. target_of_label (eq_by_cmp nat_cmp) (c.xs ++ c.ys) q j v) (sym same)
        ∙ sym (lead_chain code_equality (c.xs ++ c.ys) p u j v e (prefix_deep c p j f)
        (omega (arith, w, prefix_long c p j f)) (omega (arith, w, length-cell_prefix j u, old_long c p u e)))

    module _ (k : ℕ) (n : Known) (g : finmap.get a.now k ≡ Some n) (cell : n.cell ≡ cell_prefix i u) where
      pub read : renamed (cell_at a.now) n ≡ renamed (λ x. Some x)
          (record_of nat_cmp c.measures (c.xs ++ c.ys) (cell_prefix i u) u)
      read =
          rw (← cell) (record_read nat_cmp_total finmap.nat_cmp-IsAntisymmetric a.width c.measures
          (c.xs ++ c.ys) c.from.wide a.now c.from.canonical k n u g (ap (defs.closure _ (c.xs ++ c.ys)) cell ∙ is))

      pub source_rises : rises n.edges ≡ true
      source_rises =
          rises_named _ n.edges (record_of nat_cmp c.measures (c.xs ++ c.ys) (cell_prefix i u) u).edges
          (ap (λ m. m.edges) read)
          (rises_ascends _ (edges_rise nat_cmp_total finmap.nat_cmp-IsAntisymmetric c.measures (c.xs ++ c.ys)
          (cell_prefix i u) u (next_value nat_cmp (depth (cell_prefix i u)) u)))

      pub source_parent : option_map (cell_at a.now) n.parent ≡ option_map (λ x. Some x)
          (parent_cell_of nat_cmp (cell_prefix i u))
      source_parent = ap (λ m. m.parent) read

      pub source_label : (x : Edge ℕ ℕ) → Among x n.edges → (x.dim < length t) × IsPrefix c p x.dim × (q : Cell ℕ)
          × (cell_at a.now x.target ≡ Some q) × (old_lead c p x.dim x.value ≡ Some q)
      source_label x h =
          let m = record_of nat_cmp c.measures (c.xs ++ c.ys) (cell_prefix i u) u in
          let y : (y : Edge ℕ (Cell ℕ)) × Among y m.edges
          × (renamed_edge (cell_at a.now) x ≡ renamed_edge (λ c. Some c) y)
          = among_map (renamed_edge (λ c. Some c)) (renamed_edge (cell_at a.now) x) m.edges
          (rw (← (ap (λ z. z.edges) read)) (map_among (renamed_edge (cell_at a.now)) x n.edges h)) in
          let l = (edges-are nat_cmp_total finmap.nat_cmp-IsAntisymmetric c.measures (c.xs ++ c.ys)
          (cell_prefix i u) u is (cell_prefix-depth_cell_prefix i u) y.0).0 y.1 in
          let d : x.dim ≡ y.0.dim = ap (λ z. z.dim) y.2 in
          let v : x.value ≡ y.0.value = ap (λ z. z.value) y.2 in
          let w : y.0.dim < length t = omega (arith, l.place.within, long) in (
            omega (arith, d, w),
            rw d (source_place y.0.dim l.place.behind l.place.before),
            y.0.target,
            ap (λ z. z.target) y.2,
            ap₂ (old_lead c p) d v ∙ sym (source_lead y.0.dim y.0.value l.place.behind l.place.before w) ∙ l.leads,
          )

      -- each old label of p in the dimension i is there
      pub source_has : (v : ℕ) (q : Cell ℕ) → i < length t → old_lead c p i v ≡ Some q → HasLabel i v n.edges
      source_has v q l h =
          let d = depth-cell_prefix-le i u in
          let b = next-chain nat_cmp i u (omega (arith, l, old_long c p u e)) in
          let m = record_of nat_cmp c.measures (c.xs ++ c.ys) (cell_prefix i u) u in
          let there : Among (record { dim = i; value = v; target = q }) m.edges =
          (edges-are nat_cmp_total finmap.nat_cmp-IsAntisymmetric c.measures (c.xs ++ c.ys) (cell_prefix i u) u is
          (cell_prefix-depth_cell_prefix i u) (record { dim = i; value = v; target = q })).1
          (record {
            place = record { behind = d; before = b; within = omega (arith, l, long) };
            leads
                = source_lead i v d b l ∙ h;
          }) in
          let y : (y : Edge ℕ ℕ) × Among y n.edges
          × (renamed_edge (λ c. Some c) (record { dim = i; value = v; target = q })
          ≡ renamed_edge (cell_at a.now) y)
          = among_map (renamed_edge (cell_at a.now))
          _ n.edges (rw (ap (λ z. z.edges) read) (map_among _ _ m.edges there)) in
          (y.0, y.1, ap (λ z. z.dim) (sym y.2), ap (λ z. z.value) (sym y.2))
