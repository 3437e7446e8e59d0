-- A label comes after those that its node has.
use Rattle.cube_laws.proofs.CallerLemmas.{all-insert, all_prefix, among_left, nat_equality, cell_eq-same, all_map, nat_total, nat_anti}
use Rattle.cube_laws.proofs.CallerLemmas.{less_below, IsShared, HaveDims, node_closed}
use Rattle.std.proofs.Common.{◌≡◌, ◌⊎◌, inl, inr, ℕ, ◌<◌, Bool, true, Some, List, [], ◌∷◌, ◌++◌, map, nat_eq, nat_cmp, refl, sym, ap, subst}
use Rattle.std.proofs.Common.{◌∙◌}
use Rattle.std.specs.List.Sorted.{IsStrictlySortedBy}
use Rattle.std.proofs.lemmas.Bool.{cond-true}
use Rattle.std.specs.List.{AllByRecursion}
use Rattle.cube_defs.specs.Cell.{Cell, cell_prefix, depth, cell_eq}
use Rattle.cube_defs.specs.Rows.{Row, closure, is_node}
use Rattle.cube_defs.specs.Tree.{Edge, next_value}
use Rattle.std.specs.declared.cmp.Ordering.{Ordering}
use Rattle.std.specs.declared.cmp.Ordering.TheVariants.{Less, Equal, Greater}
use Rattle.std.specs.Ordering.{ordering_then}
use Rattle.cube_laws.specs.Lists.{Among}
use Rattle.tree_laws.specs.Edges.{edge_cmp}
use Rattle.cube_laws.specs.Parting.{shared_by}
use Rattle.build_trace.specs.Trace.{Act, Act.{Add, Label}, trace, labels_of}
use Rattle.build_trace.proofs.Steps.{labels_append}
use Rattle.build_trace.proofs.Record.{labels_are_edges}
use Rattle.build_trace.proofs.Canonical.{adds_are}
use Rattle.build_trace.proofs.Fresh.{act_node}
use Rattle.tree_laws.proofs.CallerLemmas.{edges_rise}

-- lists in order

module _ {X : Type 0} (cmp : X → X → Ordering) where
  behind : (xs : List X) (x : X) (ys : List X) → IsStrictlySortedBy cmp (xs ++ x ∷ ys)
      → AllByRecursion (λ y. cmp y x ≡ Less) xs
  unfolding IsStrictlySortedBy
  behind [] x ys h = tt
  behind (y ∷ xs) x ys h = ((all-insert (λ z. cmp y z ≡ Less) xs x ys h.0).1, behind xs x ys h.1)

  rises_prefix : (xs ys : List X) → IsStrictlySortedBy cmp (xs ++ ys) → IsStrictlySortedBy cmp xs
  unfolding IsStrictlySortedBy
  rises_prefix [] ys h = tt
  rises_prefix (x ∷ xs) ys h = (all_prefix (λ y. cmp x y ≡ Less) xs ys h.0, rises_prefix xs ys h.1)

-- the edge's label comes before the label (i, v)
abbrev pub IsBefore : {T : Type 0} → ℕ → ℕ → Edge ℕ T → Type 0
IsBefore i v e = (e.dim < i) ⊎ ((e.dim ≡ i) × (e.value < v))

before_label : {T : Type 0} (i v : ℕ) (t : T) (e : Edge ℕ T)
    → edge_cmp nat_cmp e (record { dim = i; value = v; target = t }) ≡ Less → IsBefore i v e
before_label i v t e h = go (nat_cmp e.dim i) refl h
  where
    go : (o : Ordering) → nat_cmp e.dim i ≡ o → ordering_then o (nat_cmp e.value v) ≡ Less → IsBefore i v e
    go Less o h = inl (less_below e.dim i o)
    go Equal o h = inr (nat_anti e.dim i o, less_below e.value v h)
    go Greater o h = cc

module _ (measures n : ℕ) (table : List (Row ℕ)) (all_long : HaveDims n table)
    (shared : IsShared table (shared_by table)) where
  all_ascend : (q : Cell ℕ) → is_node nat_eq table q ≡ true
      → IsStrictlySortedBy (edge_cmp nat_cmp) (labels_of q (trace measures n table))
  unfolding IsStrictlySortedBy
  all_ascend q h =
      let p : (c : Cell ℕ) × (closure nat_eq table q ≡ Some c) × (cell_prefix (depth q) c ≡ q)
      = node_closed nat_equality table q h in
      subst (IsStrictlySortedBy (edge_cmp nat_cmp))
      (sym (labels_are_edges measures n table all_long shared q p.0 p.1 p.2))
      (edges_rise nat_total nat_anti measures table q p.0 (next_value nat_cmp (depth q) p.0))

  -- at each place of the trace a node's labels rise
  pub labels_rise : (xs ys : List Act) (q : Cell ℕ) → is_node nat_eq table q ≡ true → trace measures n table ≡ xs ++ ys
      → IsStrictlySortedBy (edge_cmp nat_cmp) (labels_of q xs)
  unfolding IsStrictlySortedBy
  labels_rise xs ys q h e
      = rises_prefix (edge_cmp nat_cmp) (labels_of q xs) (labels_of q ys)
      (subst (IsStrictlySortedBy (edge_cmp nat_cmp)) (ap (labels_of q) e ∙ labels_append q xs ys) (all_ascend q h))

  -- where a label is set, the node is one and the label comes after its others
  pub label_node : (xs ys : List Act) (b : Bool) (f : Cell ℕ) (i v : ℕ) (t : Cell ℕ)
      → trace measures n table ≡ xs ++ Label b f i v t ∷ ys → is_node nat_eq table f ≡ true
  label_node xs ys b f i v t e
      = (adds_are measures n table all_long shared f).0
      (subst (Among (Add f)) (sym e)
      (among_left (Add f) xs (Label b f i v t ∷ ys) (act_node measures n table all_long shared xs ys b f i v t e)))

  pub label_after : (xs ys : List Act) (b : Bool) (f : Cell ℕ) (i v : ℕ) (t : Cell ℕ)
      → trace measures n table ≡ xs ++ Label b f i v t ∷ ys → AllByRecursion (IsBefore i v) (labels_of f xs)
  label_after xs ys b f i v t e =
      all_map (λ y. edge_cmp nat_cmp y (record { dim = i; value = v; target = t }) ≡ Less) (IsBefore i v)
      (labels_of f xs) (before_label i v t)
      (behind (edge_cmp nat_cmp) (labels_of f xs) (record { dim = i; value = v; target = t }) (labels_of f ys)
      (subst (IsStrictlySortedBy (edge_cmp nat_cmp)) (ap (labels_of f) e ∙ labels_append f xs (Label b f i v t ∷ ys)
      ∙ ap (λ l. labels_of f xs ++ map (λ s. s.edge) l)
      (cond-true (cell_eq nat_eq f f) _ _ (cell_eq-same nat_equality f)))
      (all_ascend f (label_node xs ys b f i v t e))))
