-- The records when all is settled: the tree is that of the rows that are left.
use Rattle.std.proofs.Common.{◌≡◌, ◌≢◌, ◌∙◌, inl, inr, ℕ, ◌-◌, ◌==◌, Bool, true, false, Option, Some, None, List, [], ◌∷◌, flat_map, length}
use Rattle.std.proofs.Common.{map, slice_get, get_or, nat_eq, nat_cmp, refl, sym, ap, ap₂, subst, true≢false}
use Rattle.std.proofs.lemmas.Bool.{cond-true, cond-false, cond_both, false_from_ne_true}
use Rattle.std.specs.Cmp.{nat_cmp_total}
use Rattle.std.specs.FinMap as fin
use Rattle.std.specs.List.{range_with_len}
use Rattle.std.specs.Option.{option_and_then, option_map}
use Rattle.std.specs.Ordering.{eq_by_cmp}
use Rattle.std.specs.Prelude.{if◌then◌else◌}
use Rattle.aggregates.specs.Views.{agg_in}
use Rattle.cube_defs.specs.Cell.{Cell, cell_eq, cell_of, depth, leq, with_value}
use Rattle.cube_defs.specs.Rows.{agg, closure, covers, is_node}
use Rattle.cube_defs.specs.Tree.{Edge, Node, Tree, as_list, cell_at, parent_cell_of, edges_in, forced_child, next_value, node_of, renamed}
use Rattle.cube_defs.specs.Tree.{renamed_edge}
use Rattle.cube_laws.specs.Lists.{Among}
use Rattle.cube_laws.proofs.CallerLemmas.{cell_eq-exact, cell_eq-from, leq_antisymm, leq_refl, leq-closure, all-insert, among_append}
use Rattle.cube_laws.proofs.CallerLemmas.{none_some, node-insert, node_stays, leq_is}
use Rattle.qc_arena.specs.Map.{Known}
use Rattle.qc_arena.specs.RecordReaders.{record_at, record_or}
use Rattle.tree_laws.specs.Labels.{IsLabel, record_of}
use Rattle.tree_laws.specs.Walk.{target_at}
use Rattle.tree_laws.proofs.CallerLemmas.{record_stays, node_prefixes, some_same, record_closure, record_with, target_node}
use Rattle.tree_search.specs.Found.{IsTreeOf}
use Rattle.batch_delete.specs.declared.generalizing.NodeCell.{NodeCell}
use Rattle.batch_delete.specs.declared.parts.Rest.{Rest}
use Rattle.batch_delete.specs.declared.plan.NodePlan.{NodePlan}
use Rattle.batch_delete.specs.Generalizing.{AreGeneralizing}
use Rattle.batch_delete.specs.Gone.{source_after}
use Rattle.batch_delete.specs.Plan.{class_by, forced_by, heir_in, rewritten, next_entry, outcome, rest_if_stays_in}
use Rattle.batch_delete.specs.Rests.{ArePlanned, Deletion, IsRest, rows_after, rows_before, source_before}
use Rattle.batch_delete.proofs.Entries.{entry_some}
use Rattle.batch_delete.proofs.Labelled.{among_found, found_among, law, made}
use Rattle.batch_delete.proofs.Redirected.{edge_sound, edge_whole, edges_now, labels_are, left_edges}
use Rattle.batch_delete.proofs.Outcomes.{apart, covered, covered_low, goes_if, place, staying_rest}
use Rattle.batch_delete.proofs.Resting.{total_agg}

-- the names of a record that leads to what keeps its name
module _ (f g : ℕ → Option (Cell ℕ)) (P : Cell ℕ → Type 0) (same : (j : ℕ) (c : Cell ℕ) → f j ≡ Some c → P c
    → g j ≡ Some c) where
  edge_again : (x : Edge ℕ ℕ) (y : Edge ℕ (Cell ℕ)) → renamed_edge f x ≡ renamed_edge (λ c. Some c) y → P y.target
      → renamed_edge g x ≡ renamed_edge (λ c. Some c) y
  edge_again x y q p =
      let t : g x.target ≡ Some y.target = same x.target y.target (ap (λ z. z.target) q) p in
      λ i. record { dim = ap (λ z. z.dim) q i; value = ap (λ z. z.value) q i; target = t i }

  edges_again : (xs : List (Edge ℕ ℕ)) (ys : List (Edge ℕ (Cell ℕ)))
      → map (renamed_edge f) xs ≡ map (renamed_edge (λ c. Some c)) ys
      → ((y : Edge ℕ (Cell ℕ)) → Among y ys → P y.target)
      → map (renamed_edge g) xs ≡ map (renamed_edge (λ c. Some c)) ys
  edges_again [] [] q p = refl
  edges_again [] (y ∷ ys) q p = cc
  edges_again (x ∷ xs) [] q p = cc
  edges_again (x ∷ xs) (y ∷ ys) q p
      = ap₂ (λ z zs. z ∷ zs) (edge_again x y (cc) (p y (inl refl))) (edges_again xs ys (cc) (λ z m. p z (inr m)))

  forced_again : (x : Option (Edge ℕ ℕ)) (y : Option (Edge ℕ (Cell ℕ)))
      → option_map (renamed_edge f) x ≡ option_map (renamed_edge (λ c. Some c)) y
      → ((z : Edge ℕ (Cell ℕ)) → y ≡ Some z → P z.target)
      → option_map (renamed_edge g) x ≡ option_map (renamed_edge (λ c. Some c)) y
  forced_again None None q p = refl
  forced_again None (Some y) q p = cc
  forced_again (Some x) None q p = cc
  forced_again (Some x) (Some y) q p = ap (λ z. Some z) (edge_again x y (some_same q) (p y refl))

  pub parent_again : (x : Option ℕ) (y : Option (Cell ℕ)) → option_map f x ≡ option_map (λ c. Some c) y
      → ((c : Cell ℕ) → y ≡ Some c → P c) → option_map g x ≡ option_map (λ c. Some c) y
  parent_again None None q p = refl
  parent_again None (Some y) q p = cc
  parent_again (Some x) None q p = cc
  parent_again (Some x) (Some y) q p = ap (λ z. Some z) (same x y (some_same q) (p y refl))

  pub record_again : (n : Node ℕ ℕ) (m : Node ℕ (Cell ℕ)) → renamed f n ≡ renamed (λ c. Some c) m
      → ((c : Cell ℕ) → m.parent ≡ Some c → P c) → ((x : Edge ℕ (Cell ℕ)) → m.forced ≡ Some x → P x.target)
      → ((y : Edge ℕ (Cell ℕ)) → Among y m.edges → P y.target)
      → renamed g n ≡ renamed (λ c. Some c) m
  record_again n m q parent forced edges =
      let a = parent_again n.parent m.parent (ap (λ z. z.parent) q) parent in
      let b = forced_again n.forced m.forced (ap (λ z. z.forced) q) forced in
      let c = edges_again n.edges m.edges (ap (λ z. z.edges) q) edges in
      λ i. record {
        cell = ap (λ z. z.cell) q i;
        parent = a i;
        class = ap (λ z. z.class) q i;
        forced
            = b i;
        edges = c i;
      }

-- the forced child is one of the edges
forced_among : (measures : ℕ) (rows : List _) (p u : Cell ℕ) (x : Edge ℕ (Cell ℕ))
    → forced_child nat_cmp p u (next_value nat_cmp (depth p) u) ≡ Some x
    → Among x (record_of nat_cmp measures rows p u).edges
forced_among measures rows p u x e =
    (among_append x (flat_map (edges_in nat_cmp rows p)
    (range_with_len (depth p) (next_value nat_cmp (depth p) u - depth p)))
    (as_list nat_cmp (forced_child nat_cmp p u (next_value nat_cmp (depth p) u)))).1
    (inr (rw e (inl refl)))

-- the node without its last value
parent_node : (rows : List _) (p c : Cell ℕ) → is_node (eq_by_cmp nat_cmp) rows p ≡ true
    → parent_cell_of nat_cmp p ≡ Some c → is_node (eq_by_cmp nat_cmp) rows c ≡ true
parent_node rows p c node e = cond_both (depth p == 0) _ _ (λ o. o ≡ Some c → is_node (eq_by_cmp nat_cmp) rows c ≡ true)
    (λ _ k. cc)
    (λ _ k. subst (λ x. is_node (eq_by_cmp nat_cmp) rows x ≡ true) (some_same k)
    (node_prefixes law rows p (depth p - 1) node))
    e

module _ (width : ℕ) (old new : Tree ℕ) (tuple : Cell ℕ) (d : Deletion) (h : IsTreeOf width old (source_before d))
    (long : length tuple ≡ width) (is : tuple ≡ cell_of d.r.tuple)
    (plan : List (ℕ × NodePlan)) (list : List NodeCell) (below : AreGeneralizing old tuple (length tuple) list)
    (planned : ArePlanned d old plan list 0)
    (here : (k : ℕ) (b : NodeCell) → slice_get list k ≡ Some b
    → fin.get new b.node.0 ≡ option_and_then (outcome tuple plan b) (fin.get old b.node.0))
    (others : (q : ℕ) → ((k : ℕ) (b : NodeCell) → slice_get list k ≡ Some b → b.node.0 ≢ q)
    → fin.get new q ≡ fin.get old q) where
  -- what stands at a number, by what stood there
  pub data Now (q : ℕ) (n : Known) : Type 0 where
    Apart : covers (eq_by_cmp nat_cmp) n.cell d.r ≡ false → fin.get new q ≡ Some n → Now q n
    Gone : is_node (eq_by_cmp nat_cmp) (rows_after d) n.cell ≡ false → fin.get new q ≡ None → Now q n
    Mended : covers (eq_by_cmp nat_cmp) n.cell d.r ≡ true → is_node (eq_by_cmp nat_cmp) (rows_after d) n.cell ≡ true
        → (rest : Rest) → IsRest d.measures (rows_after d) n.cell (Some rest)
        → fin.get new q ≡ Some (rewritten tuple (heir_in plan) n.cell rest n) → Now q n

  cell_known : (tree : Tree ℕ) (q : ℕ) (n : Known) → fin.get tree q ≡ Some n → cell_at tree q ≡ Some n.cell
  cell_known tree q n e = ap (option_map (λ (m : Known). m.cell)) e

  pub now_at : (q : ℕ) (n : Known) → fin.get old q ≡ Some n → Now q n
  now_at q n e = by_cover (covers (eq_by_cmp nat_cmp) n.cell d.r) refl
    where
      off : covers (eq_by_cmp nat_cmp) n.cell d.r ≡ false → leq nat_eq n.cell tuple ≡ false
      off k = false_from_ne_true _ (λ low. true≢false (sym (covered width old tuple d h long is n.cell low) ∙ k))

      settled : leq nat_eq n.cell tuple ≡ true
          → fin.get new q ≡ option_map (λ rest. rewritten tuple (heir_in plan) n.cell rest n) (rest_if_stays_in plan q)
      settled low =
          let x = place width old tuple d h long is plan list below planned q n.cell (cell_known old q n e) low in
          ap (fin.get new) (sym x.3) ∙ here x.0 x.1 x.2
          ∙ ap (λ k. option_and_then (outcome tuple plan x.1) (fin.get old k)) x.3
          ∙ ap (option_and_then (outcome tuple plan x.1)) e
          ∙ ap₂ (λ (k : ℕ) (c : Cell ℕ). option_map (λ rest. rewritten tuple (heir_in plan) c rest n)
          (rest_if_stays_in plan k)) x.3 x.4

      by_node : leq nat_eq n.cell tuple ≡ true → covers (eq_by_cmp nat_cmp) n.cell d.r ≡ true → (b : Bool)
          → is_node (eq_by_cmp nat_cmp) (rows_after d) n.cell ≡ b → Now q n
      by_node low over true node =
          let r = staying_rest width old tuple d h long is plan list below planned q n.cell
          (cell_known old q n e) low node in
          Mended over node r.0 r.2 (settled low
          ∙ ap (option_map (λ rest. rewritten tuple (heir_in plan) n.cell rest n)) r.1)
      by_node low over false node
          = Gone node (settled low ∙ ap (option_map (λ rest. rewritten tuple (heir_in plan) n.cell rest n))
          (goes_if width old tuple d h long is plan list below planned q n.cell (cell_known old q n e) low node))

      by_cover : (b : Bool) → covers (eq_by_cmp nat_cmp) n.cell d.r ≡ b → Now q n
      by_cover true k = let low = covered_low width old tuple d h long is n.cell k in
          by_node low k (is_node (eq_by_cmp nat_cmp) (rows_after d) n.cell) refl
      by_cover false k = Apart k (apart width old tuple d h long is plan list below planned new others q n e (off k))

  some_known : (o : Option Known) (c : Cell ℕ) → option_map (λ (m : Known). m.cell) o ≡ Some c → (n : Known)
      × (o ≡ Some n) × (n.cell ≡ c)
  some_known None c e = cc
  some_known (Some n) c e = (n, refl, some_same e)

  -- a cell that is a node afterwards keeps its number
  pub still : (q : ℕ) (c : Cell ℕ) → cell_at old q ≡ Some c → is_node (eq_by_cmp nat_cmp) (rows_after d) c ≡ true
      → cell_at new q ≡ Some c
  still q c e node = go (some_known (fin.get old q) c e)
    where
      go : (n : Known) × (fin.get old q ≡ Some n) × (n.cell ≡ c) → cell_at new q ≡ Some c
      go (n, at, cell) = by (now_at q n at)
        where
          by : Now q n → cell_at new q ≡ Some c
          by (Apart k m) = cell_known new q n m ∙ ap (λ x. Some x) cell
          by (Gone k m) = absurd (true≢false (sym node
              ∙ ap (is_node (eq_by_cmp nat_cmp) (rows_after d)) (sym cell) ∙ k))
          by (Mended k l rest r m) = cell_known new q (rewritten tuple (heir_in plan) n.cell rest n) m
              ∙ ap (λ x. Some x) cell

  -- nothing stands where nothing stood
  pub was : (q : ℕ) (m : Known) → fin.get new q ≡ Some m → (n : Known) × (fin.get old q ≡ Some n)
  was q m e = go (fin.get old q) refl
    where
      none : fin.get old q ≡ None → fin.get new q ≡ None
      none k = others q (λ j b at same. absurd
          (none_some (sym (sym (below.cells j b at) ∙ ap (cell_at old) same
          ∙ ap (option_map (λ (m : Known). m.cell)) k)))) ∙ k

      go : (o : Option Known) → fin.get old q ≡ o → (n : Known) × (fin.get old q ≡ Some n)
      go None k = absurd (none_some (sym (none k) ∙ e))
      go (Some n) k = (n, k)

  -- and what stands there is a node afterwards
  pub comes : (q : ℕ) (c : Cell ℕ) → cell_at new q ≡ Some c → (cell_at old q ≡ Some c)
      × (is_node (eq_by_cmp nat_cmp) (rows_after d) c ≡ true)
  comes q c e = go (some_known (fin.get new q) c e)
    where
      go : (m : Known) × (fin.get new q ≡ Some m) × (m.cell ≡ c) → (cell_at old q ≡ Some c)
          × (is_node (eq_by_cmp nat_cmp) (rows_after d) c ≡ true)
      go (m, at, cell) = by (was q m at)
        where
          by : (n : Known) × (fin.get old q ≡ Some n) → (cell_at old q ≡ Some c)
              × (is_node (eq_by_cmp nat_cmp) (rows_after d) c ≡ true)
          by (n, before) = at_now (now_at q n before)
            where
              with_cell : n.cell ≡ m.cell → is_node (eq_by_cmp nat_cmp) (rows_after d) n.cell ≡ true
                  → (cell_at old q ≡ Some c) × (is_node (eq_by_cmp nat_cmp) (rows_after d) c ≡ true)
              with_cell same node = (
                cell_known old q n before ∙ ap (λ x. Some x) (same ∙ cell),
                subst (λ x. is_node (eq_by_cmp nat_cmp) (rows_after d) x ≡ true) (same ∙ cell) node,
              )

              at_now : Now q n → (cell_at old q ≡ Some c) × (is_node (eq_by_cmp nat_cmp) (rows_after d) c ≡ true)
              at_now (Apart k f) = with_cell (ap (λ (x : Known). x.cell) (some_same (sym f ∙ at)))
                  (sym (node_stays law d.xs d.r d.ys n.cell k) ∙ (h.canonical.each q n before).0)
              at_now (Gone k f) = absurd (none_some (sym f ∙ at))
              at_now (Mended k l rest r f) = with_cell (ap (λ (x : Known). x.cell) (some_same (sym f ∙ at))) l

  -- the record of a node that doesn't generalize the tuple
  apart_right : (q : ℕ) (n : Known) → fin.get old q ≡ Some n → covers (eq_by_cmp nat_cmp) n.cell d.r ≡ false
      → Some (renamed (cell_at new) n) ≡ option_map (renamed (λ c. Some c))
      (node_of nat_cmp d.measures (rows_after d) n.cell)
  apart_right q n e off = go (node_of nat_cmp d.measures (rows_after d) n.cell) refl
    where
      node : is_node (eq_by_cmp nat_cmp) (rows_after d) n.cell ≡ true
      node = sym (node_stays law d.xs d.r d.ys n.cell off) ∙ (h.canonical.each q n e).0

      old_is : Some (renamed (cell_at old) n) ≡ option_map (renamed (λ c. Some c))
          (node_of nat_cmp d.measures (rows_after d) n.cell)
      old_is = (h.canonical.each q n e).1
          ∙ ap (option_map (renamed (λ c. Some c))) (record_stays nat_cmp law d.measures d.xs d.r d.ys n.cell off)

      go : (o : Option (Node ℕ (Cell ℕ))) → node_of nat_cmp d.measures (rows_after d) n.cell ≡ o
          → Some (renamed (cell_at new) n) ≡ option_map (renamed (λ c. Some c))
          (node_of nat_cmp d.measures (rows_after d) n.cell)
      go None k = absurd (none_some (sym (old_is ∙ ap (option_map (renamed (λ c. Some c))) k)))
      go (Some m) k =
          let u = record_closure nat_cmp_total fin.nat_cmp-IsAntisymmetric d.measures (rows_after d) n.cell m k in
          let form = record_with nat_cmp_total fin.nat_cmp-IsAntisymmetric d.measures
          (rows_after d) n.cell m k u.0 u.1 in
          let to = target_node nat_cmp_total fin.nat_cmp-IsAntisymmetric d.measures (rows_after d) n.cell m node k in
          ap (λ x. Some x) (record_again (cell_at old) (cell_at new)
          (λ c. is_node (eq_by_cmp nat_cmp) (rows_after d) c ≡ true) still n m
          (some_same (old_is ∙ ap (option_map (renamed (λ c. Some c))) k))
          (λ c f. parent_node (rows_after d) n.cell c node (sym (ap (λ (x : Node ℕ (Cell ℕ)). x.parent) form) ∙ f))
          (λ x f. to x (rw form (forced_among d.measures (rows_after d) n.cell u.0 x
          (sym (ap (λ (y : Node ℕ (Cell ℕ)). y.forced) form) ∙ f))))
          (λ y f. to y f))
          ∙ ap (option_map (renamed (λ c. Some c))) (sym k)

  -- the record of a node that generalizes it that stays
  module _ (q : ℕ) (n : Known) (e : fin.get old q ≡ Some n) (over : covers (eq_by_cmp nat_cmp) n.cell d.r ≡ true)
      (node : is_node (eq_by_cmp nat_cmp) (rows_after d) n.cell ≡ true) (rest : Rest)
      (r : IsRest d.measures (rows_after d) n.cell (Some rest)) where
    closed : closure (eq_by_cmp nat_cmp) (rows_after d) n.cell ≡ Some rest.shared
    closed = sym r.cells

    low : leq nat_eq n.cell tuple ≡ true
    low = covered_low width old tuple d h long is n.cell over

    at : cell_at old q ≡ Some n.cell
    at = cell_known old q n e

    record_is : record_at old q ≡ n
    record_is = ap record_or e

    abbrev es : List (Edge ℕ ℕ)
    es = left_edges width old tuple d h long is plan list below planned (cell_at new) still q n.cell rest.shared at
        low node closed

    abbrev after : Node ℕ (Cell ℕ)
    after = record_of nat_cmp d.measures (rows_after d) n.cell rest.shared

    class_is : class_by rest n.cell ≡ after.class
    class_is = go (leq nat_eq rest.shared n.cell) refl
      where
        sum : agg_in rest.agg ≡ agg (eq_by_cmp nat_cmp) d.measures (rows_after d) n.cell
        sum = some_same (r.aggs ∙ sym (total_agg d.measures (rows_after d) n.cell)
            ∙ ap (option_map (λ _. agg (eq_by_cmp nat_cmp) d.measures (rows_after d) n.cell)) closed)

        go : (b : Bool) → leq nat_eq rest.shared n.cell ≡ b
            → (if b then Some (agg_in rest.agg) else None) ≡ (if cell_eq (eq_by_cmp nat_cmp) rest.shared n.cell
            then Some (agg (eq_by_cmp nat_cmp) d.measures (rows_after d) n.cell) else None)
        go true k =
            let same : rest.shared ≡ n.cell
            = leq_antisymm law rest.shared n.cell (leq_is rest.shared n.cell ∙ k)
            (leq-closure law (rows_after d) n.cell rest.shared closed) in
            ap (λ x. Some x) sum ∙ sym (cond-true _ _ _ (cell_eq-from law rest.shared n.cell same))
        go false k = sym (cond-false _ _ _ (false_from_ne_true _ (λ f.
            let same : rest.shared ≡ n.cell = cell_eq-exact law rest.shared n.cell f in
            true≢false (sym (leq_refl law rest.shared) ∙ ap (leq (eq_by_cmp nat_cmp) rest.shared) same
            ∙ leq_is rest.shared n.cell ∙ k))))

    forced_is : option_map (renamed_edge (cell_at new))
        (forced_by (next_entry (depth n.cell) rest.shared) (record n { edges = es }))
        ≡ option_map (renamed_edge (λ c. Some c)) after.forced
    forced_is = go (get_or rest.shared (next_value nat_cmp (depth n.cell) rest.shared) None) refl
      where
        made_child : Option (Option ℕ) → Option (Edge ℕ (Cell ℕ))
        made_child o = option_and_then
            (λ entry. option_map (λ v. record {
              dim = next_value nat_cmp (depth n.cell) rest.shared;
              value = v;
              target
                  = with_value n.cell (next_value nat_cmp (depth n.cell) rest.shared) v;
            }) entry) o

        no_child : (o : Option (Option ℕ)) → slice_get rest.shared (next_value nat_cmp (depth n.cell) rest.shared) ≡ o
            → get_or rest.shared (next_value nat_cmp (depth n.cell) rest.shared) None ≡ None → made_child o ≡ None
        no_child None k f = refl
        no_child (Some None) k f = refl
        no_child (Some (Some v)) k f
            = absurd (none_some (sym f
            ∙ Rattle.batch_delete.proofs.Entries.entry_is rest.shared
            (next_value nat_cmp (depth n.cell) rest.shared) (Some v) k))

        go : (o : Option ℕ) → get_or rest.shared (next_value nat_cmp (depth n.cell) rest.shared) None ≡ o
            → option_map (renamed_edge (cell_at new))
            (forced_by (option_map (λ v. (next_value nat_cmp (depth n.cell) rest.shared, v)) o)
            (record n { edges = es })) ≡ option_map (renamed_edge (λ c. Some c)) after.forced
        go None k = sym (ap (option_map (renamed_edge (λ c. Some c)))
            (no_child (slice_get rest.shared (next_value nat_cmp (depth n.cell) rest.shared)) refl k))
        go (Some v) k =
            let x : Edge ℕ (Cell ℕ) = record {
              dim = next_value nat_cmp (depth n.cell) rest.shared;
              value = v;
              target
                  = with_value n.cell (next_value nat_cmp (depth n.cell) rest.shared) v;
            } in
            let child : after.forced ≡ Some x
            = ap made_child (entry_some rest.shared (next_value nat_cmp (depth n.cell) rest.shared) v k) in
            let label = labels_are width old tuple d h long is plan list below planned
            (cell_at new) still q n.cell rest.shared at low node closed x
            (forced_among d.measures (rows_after d) n.cell rest.shared x child) in
            let edge = edge_whole width old tuple d h long is plan list below planned
            (cell_at new) still q n.cell rest.shared at low node closed x label in
            found x label (target_at (eq_by_cmp nat_cmp) x.dim x.value es) refl
            (among_found x.dim x.value edge.0 es edge.2 edge.3 edge.1)
            ∙ sym (ap (option_map (renamed_edge (λ c. Some c))) child)
          where
            found : (x : Edge ℕ (Cell ℕ))
                → IsLabel nat_cmp (rows_after d) n.cell (next_value nat_cmp (depth n.cell) rest.shared) x
                → (o : Option ℕ) → target_at (eq_by_cmp nat_cmp) x.dim x.value es ≡ o
                → Rattle.std.specs.Prelude.IsSome o
                → option_map (renamed_edge (cell_at new))
                (option_map (λ t. record { dim = x.dim; value = x.value; target = t })
                (target_at (eq_by_cmp nat_cmp) x.dim x.value es)) ≡ Some (renamed_edge (λ c. Some c) x)
            found x label None f some = cc
            found x label (Some t) f some =
                let s = edge_sound width old tuple d h long is plan list below planned
                (cell_at new) still q n.cell rest.shared at low node closed
                (record { dim = x.dim; value = x.value; target = t }) (found_among x.dim x.value t es f) in
                let same : Some s.0 ≡ Some x.target = sym s.2.leads ∙ label.leads in
                ap (λ o. option_map (renamed_edge (cell_at new))
                (option_map (λ t. record { dim = x.dim; value = x.value; target = t }) o)) f
                ∙ ap (λ c. Some (record { dim = x.dim; value = x.value; target = c })) (s.1 ∙ same)

    parent_is : option_map (cell_at new) n.parent ≡ option_map (λ c. Some c) after.parent
    parent_is =
        let m = made width old (source_before d) h q n.cell at in
        let form = record_with nat_cmp_total fin.nat_cmp-IsAntisymmetric d.measures (rows_before d) n.cell m.0 m.1 in
        let u = record_closure nat_cmp_total fin.nat_cmp-IsAntisymmetric d.measures (rows_before d) n.cell m.0 m.1 in
        let old_parent : option_map (cell_at old) n.parent ≡ option_map (λ c. Some c) (parent_cell_of nat_cmp n.cell) =
        ap (λ (x : Known). option_map (cell_at old) x.parent) (sym record_is) ∙ ap (λ x. x.parent) m.2
        ∙ ap (λ (x : Node ℕ (Cell ℕ)). option_map (λ c. Some c) x.parent) (form u.0 u.1) in
        parent_again (cell_at old) (cell_at new) (λ c. is_node (eq_by_cmp nat_cmp) (rows_after d) c ≡ true) still
        n.parent (parent_cell_of nat_cmp n.cell) old_parent (λ c f. parent_node (rows_after d) n.cell c node f)

    mended_right : Some (renamed (cell_at new) (rewritten tuple (heir_in plan) n.cell rest n))
        ≡ option_map (renamed (λ c. Some c)) (node_of nat_cmp d.measures (rows_after d) n.cell)
    mended_right =
        let edges : map (renamed_edge (cell_at new)) es ≡ map (renamed_edge (λ c. Some c)) after.edges
        = edges_now width old tuple d h long is plan list below planned (cell_at new) still q n.cell rest.shared at
        low node closed in
        let whole : renamed (cell_at new) (record {
          cell = n.cell;
          parent = n.parent;
          class = class_by rest n.cell;
          forced = forced_by (next_entry (depth n.cell) rest.shared) (record n { edges = es });
          edges = es;
        })
        ≡ renamed (λ c. Some c) after =
        λ i. record {
          cell = n.cell;
          parent = parent_is i;
          class = class_is i;
          forced = forced_is i;
          edges
              = edges i;
        } in
        ap (λ (m : Known). Some
        (renamed (cell_at new) (rewritten tuple (heir_in plan) n.cell rest (record n { edges = m.edges }))))
        (sym record_is)
        ∙ ap (λ x. Some x) whole
        ∙ sym (ap (λ o. option_map (renamed (λ c. Some c))
        (option_map (λ u. record_of nat_cmp d.measures (rows_after d) n.cell u) o)) closed)

  right : (q : ℕ) (m : Known) → fin.get new q ≡ Some m → (is_node (eq_by_cmp nat_cmp) (rows_after d) m.cell ≡ true)
      × (Some (renamed (cell_at new) m) ≡ option_map (renamed (λ c. Some c))
      (node_of nat_cmp d.measures (rows_after d) m.cell))
  right q m e = (node_is, go (was q m e))
    where
      node_is : is_node (eq_by_cmp nat_cmp) (rows_after d) m.cell ≡ true
      node_is = (comes q m.cell (cell_known new q m e)).1

      go : (n : Known) × (fin.get old q ≡ Some n)
          → Some (renamed (cell_at new) m) ≡ option_map (renamed (λ c. Some c))
          (node_of nat_cmp d.measures (rows_after d) m.cell)
      go (n, before) = by (now_at q n before)
        where
          target_after_row : (x : Known) → x ≡ m
              → Some (renamed (cell_at new) x) ≡ option_map (renamed (λ c. Some c))
              (node_of nat_cmp d.measures (rows_after d) x.cell)
              → Some (renamed (cell_at new) m) ≡ option_map (renamed (λ c. Some c))
              (node_of nat_cmp d.measures (rows_after d) m.cell)
          target_after_row x same y
              = rw (← same) y

          by : Now q n → Some (renamed (cell_at new) m) ≡ option_map (renamed (λ c. Some c))
              (node_of nat_cmp d.measures (rows_after d) m.cell)
          by (Apart k f) = target_after_row n (some_same (sym f ∙ e)) (apart_right q n before k)
          by (Gone k f) = absurd (none_some (sym f ∙ e))
          by (Mended k l rest r f)
              = target_after_row (rewritten tuple (heir_in plan) n.cell rest n) (some_same (sym f ∙ e))
              (mended_right q n before k l rest r)

  pub renewed : IsTreeOf width new (source_after d)
  renewed = record {
    wide = (all-insert (λ row. length row.tuple ≡ width) d.xs d.r d.ys h.wide).0;
    canonical = record {
      each = right;
      once = λ k l c e f. h.canonical.once k l c (comes k c e).0 (comes l c f).0;
      all = λ c node. let k = h.canonical.all c (node-insert law d.xs d.r d.ys c node) in (k.0, still k.0 c k.1 node);
    };
  }
