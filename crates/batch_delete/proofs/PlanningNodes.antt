-- What is planned for a node, from what is planned for nodes with more values.
use Rattle.std.proofs.Common.{◌≡◌, ◌∙◌, ℕ, ◌<◌, ◌≤◌, Bool, true, false, Option, Some, None, List, ap, arith, get_or, length, ltb-false}
use Rattle.std.proofs.Common.{ltb-true, nat_cmp, nat_eq, nat_lt, refl, slice_get, sym}
use Rattle.std.proofs.lemmas.Bool.{false_from_ne_true}
use Rattle.std.specs.Cmp.{nat_cmp_total}
use Rattle.std.specs.FinMap as fin
use Rattle.std.specs.Option.{option_and_then, option_map}
use Rattle.std.specs.Ordering.{eq_by_cmp}
use Rattle.std.proofs.lemmas.Option.{slice_get_within}
use Rattle.cube_defs.specs.Cell.{Cell, cell_of, depth, cell_prefix, leq, with_value}
use Rattle.cube_defs.specs.Rows.{closure, covers}
use Rattle.cube_defs.specs.Tree.{Edge, Node, Tree, cell_at, forced_child, next_value, renamed_edge}
use Rattle.cube_laws.proofs.CallerLemmas.{cell_prefix_mono, length-cell_prefix, leq_antisymm, leq_trans, closure_idem, is_class-is}
use Rattle.cube_laws.proofs.CallerLemmas.{leq-closure, one_value, one_value-leq, slice_get-cell_of, closure_length, agg_after}
use Rattle.cube_laws.proofs.CallerLemmas.{closure_after, step_above, all-insert, class_prefixes, prefix_of_class, below_row, node-insert}
use Rattle.cube_laws.proofs.CallerLemmas.{has_same, leq_with_any, one_test}
use Rattle.qc_arena.specs.RecordReaders.{record_at}
use Rattle.tree_laws.proofs.CallerLemmas.{forced_lead, any_after, cell_prefix-beyond, leq-with_value, with_value-there, some_same}
use Rattle.tree_laws.proofs.CallerLemmas.{cell_prefix-next, next-entry, next-ge, record_with}
use Rattle.tree_search.specs.Found.{IsTreeOf, closure_in}
use Rattle.batch_delete.specs.declared.parts.Rest.{Rest}
use Rattle.batch_delete.specs.Rests.{Deletion, IsRest, rows_after, rows_before, shared_of, source_before}
use Rattle.batch_delete.proofs.Entries.{entry_some, cell_prefix_all}
use Rattle.batch_delete.proofs.Labelled.{closed_at, law, made, node_there}

-- cells with the same rows before have the same afterwards
pub same_rest : (d : Deletion) (c w u : Cell ℕ) (o : Option Rest)
    → closure (eq_by_cmp nat_cmp) (rows_before d) c ≡ Some u → closure (eq_by_cmp nat_cmp) (rows_before d) w ≡ Some u
    → IsRest d.measures (rows_after d) w o → IsRest d.measures (rows_after d) c o
same_rest d c w u o a b rest = record {
  cells = rest.cells ∙ closure_after law d.xs d.r d.ys w u b ∙ sym (closure_after law d.xs d.r d.ys c u a);
  aggs = rest.aggs ∙ agg_after law d.xs d.r d.ys d.measures w u b ∙ sym (agg_after law d.xs d.r d.ys d.measures c u a);
}

module _ (dims : ℕ) (tree : Tree ℕ) (d : Deletion) (h : IsTreeOf dims tree (source_before d)) (k : ℕ) (p : Cell ℕ)
    (at : cell_at tree k ≡ Some p) where
  pub shut : (u : Cell ℕ) × (closure (eq_by_cmp nat_cmp) (rows_before d) p ≡ Some u)
  shut = closed_at dims tree (source_before d) h k p at

  abbrev pub next : ℕ
  next = next_value nat_cmp (depth p) shut.0

  front : cell_prefix (depth p) shut.0 ≡ p
  front = (prefix_of_class law (rows_before d) p shut.0 shut.1 (node_there dims tree (source_before d) h k p at)).1

  long : length shut.0 ≡ length p
  long = sym (length-cell_prefix (depth p) shut.0) ∙ ap length front

  forced_is : option_map (renamed_edge (cell_at tree)) (record_at tree k).forced
      ≡ option_map (renamed_edge (λ c. Some c)) (forced_child nat_cmp p shut.0 next)
  forced_is =
      let m = made dims tree (source_before d) h k p at in
      ap (λ (n : Node ℕ (Option (Cell ℕ))). n.forced) m.2
      ∙ ap (λ (n : Node ℕ (Cell ℕ)). option_map (renamed_edge (λ c. Some c)) n.forced)
      (record_with nat_cmp_total fin.nat_cmp-IsAntisymmetric d.measures (rows_before d) p m.0 m.1 shut.0 shut.1)

  -- a node without forced child is its own closure
  pub unforced : (record_at tree k).forced ≡ None → closure_in (source_before d) p ≡ Some p
  unforced none = by (nat_lt next (length shut.0)) refl
    where
      nothing : None ≡ option_map (renamed_edge (λ c. Some c)) (forced_child nat_cmp p shut.0 next)
      nothing = sym (ap (option_map (renamed_edge (cell_at tree))) none) ∙ forced_is

      by : (b : Bool) → nat_lt next (length shut.0) ≡ b → closure_in (source_before d) p ≡ Some p
      by true t =
          let n = next-entry nat_cmp (depth p) shut.0 (ltb-true _ _ t) in
          let bad : None ≡ Some (renamed_edge (λ c. Some c)
          (record { dim = next; value = n.0; target = with_value p next n.0 })) =
          nothing ∙ ap (λ o. option_map (renamed_edge (λ c. Some c))
          (option_and_then (λ entry. option_map
          (λ v. record { dim = next; value = v; target = with_value p next v }) entry) o)) n.1 in
          cc
      by false t =
          let past : length shut.0 ≤ next = ltb-false _ _ t in
          let same : shut.0 ≡ p = sym (cell_prefix_all shut.0 next past)
          ∙ cell_prefix-next nat_cmp (depth p) shut.0 ∙ front in
          shut.1 ∙ ap (λ c. Some c) same

  -- the forced child has the node's rows
  pub forced_to : (f : Edge ℕ ℕ) → (record_at tree k).forced ≡ Some f → (v : ℕ)
      × (cell_at tree f.target ≡ Some (with_value p next v))
      × (closure (eq_by_cmp nat_cmp) (rows_before d) (with_value p next v) ≡ Some shut.0) × (next < length p)
  forced_to f is = by (slice_get shut.0 next) refl
    where
      child : Some (renamed_edge (cell_at tree) f) ≡ option_map (renamed_edge (λ c. Some c))
          (forced_child nat_cmp p shut.0 next)
      child = sym (ap (option_map (renamed_edge (cell_at tree))) is) ∙ forced_is

      from : (o : Option (Option ℕ)) → slice_get shut.0 next ≡ o
          → Some (renamed_edge (cell_at tree) f) ≡ option_map (renamed_edge (λ c. Some c))
          (option_and_then (λ entry. option_map
          (λ v. record { dim = next; value = v; target = with_value p next v }) entry) o)
      from o e = child ∙ ap (λ o. option_map (renamed_edge (λ c. Some c))
          (option_and_then (λ entry. option_map
          (λ v. record { dim = next; value = v; target = with_value p next v }) entry) o)) e

      by : (o : Option (Option ℕ)) → slice_get shut.0 next ≡ o → (v : ℕ)
          × (cell_at tree f.target ≡ Some (with_value p next v))
          × (closure (eq_by_cmp nat_cmp) (rows_before d) (with_value p next v) ≡ Some shut.0) × (next < length p)
      by None e = let bad = from None e in cc
      by (Some None) e = let bad = from (Some None) e in cc
      by (Some (Some v)) e =
          let within : next < length p = omega (arith, long, slice_get_within shut.0 next (Some v) e) in (
            v,
            ap (λ (x : Edge ℕ (Option (Cell ℕ))). x.target) (some_same (from (Some (Some v)) e)),
            forced_lead nat_cmp_total fin.nat_cmp-IsAntisymmetric (rows_before d) p shut.0 next v shut.1
                (next-ge nat_cmp (depth p) shut.0) within e,
            within,
          )

  module _ (tuple : Cell ℕ) (row : tuple ≡ cell_of d.r.tuple) (low : leq nat_eq p tuple ≡ true) where
    pub covered : covers (eq_by_cmp nat_cmp) p d.r ≡ true
    covered = rw (← row) (rw one_test low)

    by_numbers : (c w : Cell ℕ) → leq (eq_by_cmp nat_cmp) c w ≡ true → leq nat_eq c w ≡ true
    by_numbers c w e = rw (← one_test) e

    -- a greater cell with a value where p has none doesn't generalize p
    apart : (w : Cell ℕ) (i v : ℕ) → slice_get p i ≡ Some None → leq (eq_by_cmp nat_cmp) (one_value i v) w ≡ true
        → leq nat_eq w p ≡ false
    apart w i v any one = false_from_ne_true _ (λ e.
        let there : slice_get p i ≡ Some (Some v)
        = (one_value-leq law i v p).0
        (leq_trans law (one_value i v) w p one (rw one_test e)) in
        let bad : Some (Some v) ≡ Some None = sym there ∙ any in cc)

    module _ (plan : ℕ → Option Rest)
        (planned : (q : ℕ) (w : Cell ℕ) → cell_at tree q ≡ Some w → leq nat_eq w tuple ≡ true → leq nat_eq p w ≡ true
        → leq nat_eq w p ≡ false → IsRest d.measures (rows_after d) w (plan q)) where
      -- by the forced child
      pub forced_rest : (f : Edge ℕ ℕ) → (record_at tree k).forced ≡ Some f
          → IsRest d.measures (rows_after d) p (plan f.target)
      forced_rest f is =
          let c = forced_to f is in
          let child = with_value p next c.0 in
          let deep : depth p ≤ next = next-ge nat_cmp (depth p) shut.0 in
          let up : leq (eq_by_cmp nat_cmp) child shut.0 ≡ true = leq-closure law (rows_before d) child shut.0 c.2 in
          let under : leq (eq_by_cmp nat_cmp) shut.0 (cell_of d.r.tuple) ≡ true
          = below_row law d.xs d.r d.ys p shut.0 covered shut.1 in
          let down : leq nat_eq child tuple ≡ true
          = by_numbers child tuple
          (rw row (leq_trans law child shut.0 (cell_of d.r.tuple) up under)) in
          let above : leq nat_eq p child ≡ true = by_numbers p child (leq-with_value law p next c.0 deep) in
          let one = (one_value-leq law next c.0 child).1 (with_value-there p next c.0 c.3) in
          same_rest d p child shut.0 (plan f.target) shut.1 c.2
          (planned f.target child c.1 down above (apart child next c.0 (any_after p next deep c.3) one))

      -- by the parts of a class
      pub part_planned : (i v q : ℕ) (w : Cell ℕ) → slice_get p i ≡ Some None → (has : slice_get d.r.tuple i ≡ Some v)
          → closure_in (source_before d) (with_value p i v) ≡ Some w → cell_at tree q ≡ Some w
          → IsRest d.measures (rows_after d) w (plan q)
      part_planned i v q w any has closes there =
          let covers : covers (eq_by_cmp nat_cmp) w d.r ≡ true
          = step_above law d.xs d.r d.ys p i v any covered (has_same law i v d.r has) w closes in
          let down : leq nat_eq w tuple ≡ true
          = by_numbers w tuple (rw row covers) in
          let up : leq (eq_by_cmp nat_cmp) (with_value p i v) w ≡ true
          = leq-closure law (rows_before d) (with_value p i v) w closes in
          let both = parts p w i v any up in
          planned q w there down (by_numbers p w both.0) (apart w i v any both.1)
        where
          -- a value more than p has
          parts : (p w : Cell ℕ) (i v : ℕ) → slice_get p i ≡ Some None
              → leq (eq_by_cmp nat_cmp) (with_value p i v) w ≡ true → (leq (eq_by_cmp nat_cmp) p w ≡ true)
              × (leq (eq_by_cmp nat_cmp) (one_value i v) w ≡ true)
          parts p w i v any e = (
            leq_trans law p (with_value p i v) w (leq_with_any law p i v any) e,
            leq_trans law (one_value i v) (with_value p i v) w
                ((one_value-leq law i v (with_value p i v)).1 (with_value-there p i v (slice_get_within p i None any)))
                e,
          )

-- the heir's cell was a node
pub heir_there : (dims : ℕ) (tree : Tree ℕ) (d : Deletion) (h : IsTreeOf dims tree (source_before d))
    (p shared : Cell ℕ) (n : ℕ) → closure (eq_by_cmp nat_cmp) (rows_after d) p ≡ Some shared → (k : ℕ)
    × (cell_at tree k ≡ Some (cell_prefix n shared))
heir_there dims tree d h p shared n closes =
    let class = (is_class-is law (rows_after d) shared).1 (closure_idem law (rows_after d) p shared closes) in
    h.canonical.all (cell_prefix n shared)
    (node-insert law d.xs d.r d.ys (cell_prefix n shared) (class_prefixes law (rows_after d) n shared class))

-- the tuple's value in a dimension is the row's
pub row_value : (c : Cell ℕ) (t : List ℕ) (i v : ℕ) → c ≡ cell_of t → get_or c i None ≡ Some v → slice_get t i ≡ Some v
row_value c t i v row has = (slice_get-cell_of t i v).0 (ap (λ c. slice_get c i) (sym row) ∙ entry_some c i v has)

-- what the rows of a cell share, where there are any
pub shared_closes : (d : Deletion) (c : Cell ℕ) (o : Option Rest) (rest : Rest) → IsRest d.measures (rows_after d) c o
    → o ≡ Some rest → closure (eq_by_cmp nat_cmp) (rows_after d) c ≡ Some rest.shared
shared_closes d c o rest is some = sym is.cells ∙ ap shared_of some

pub shared_long : (dims : ℕ) (tree : Tree ℕ) (d : Deletion) (h : IsTreeOf dims tree (source_before d)) (c : Cell ℕ)
    (rest : Rest) → closure (eq_by_cmp nat_cmp) (rows_after d) c ≡ Some rest.shared → length rest.shared ≡ dims
shared_long dims tree d h c rest closes
    = closure_length (eq_by_cmp nat_cmp) dims c rest.shared (rows_after d)
    (all-insert (λ row. length row.tuple ≡ dims) d.xs d.r d.ys h.wide).0 closes

-- where the prefix of what a cell's rows share, as long as the cell, doesn't specialize the cell, it is the cell
pub own_prefix : (d : Deletion) (c shared front : Cell ℕ) → closure (eq_by_cmp nat_cmp) (rows_after d) c ≡ Some shared
    → front ≡ cell_prefix (depth c) shared → leq nat_eq front c ≡ true → cell_prefix (depth c) shared ≡ c
own_prefix d c shared front closes is low =
    let up : leq (eq_by_cmp nat_cmp) c (cell_prefix (depth c) shared) ≡ true =
    rw (cell_prefix-beyond (depth c) c (omega arith)) at (cell_prefix_mono law (depth c) c shared
    (leq-closure law (rows_after d) c shared closes)) in
    let down : leq (eq_by_cmp nat_cmp) front c ≡ true = rw one_test low in
    leq_antisymm law (cell_prefix (depth c) shared) c (rw (← is) down) up

-- so is the prefix of what the rows share, where they share no more than the cell
pub whole_prefix : (d : Deletion) (c shared : Cell ℕ) → closure (eq_by_cmp nat_cmp) (rows_after d) c ≡ Some shared
    → leq nat_eq shared c ≡ true → cell_prefix (depth c) shared ≡ c
whole_prefix d c shared closes low =
    let down : leq (eq_by_cmp nat_cmp) shared c ≡ true = rw one_test low in
    ap (cell_prefix (depth c)) (leq_antisymm law shared c down (leq-closure law (rows_after d) c shared closes))
    ∙ cell_prefix-beyond (depth c) c (omega arith)
