-- In a map that follows the acts the edges of a record rise, and the label of a cell's next value leads down to its
-- next prefix.
use Rattle.cube_defs.specs.Cell.{cell_eq, Cell, cell_prefix}
use Rattle.tree_laws.proofs.CallerLemmas.{at_tie}
use Rattle.std.proofs.Common.{◌≡◌, ◌⊎◌, inl, inr, ℕ, suc, Bool, true, false, ◌&&◌, cond, Option, Some, None, List, [], ◌∷◌, ◌++◌, map}
use Rattle.std.proofs.Common.{nat_eq, nat_cmp, refl, sym, ap, ap₂, subst, ◌∙◌, true≢false, eqb-true, eq-eqb}
use Rattle.std.specs.List.Sorted.{IsStrictlySortedBy}
use Rattle.std.proofs.lemmas.Bool.{cond-true, cond-false, false_from_ne_true, and_parts, and_from}
use Rattle.std.specs.declared.cmp.Ordering.TheVariants.{Less, Equal, Less, Equal}
use Rattle.std.specs.Cmp.{tied_itself}
use Rattle.std.specs.List.{AllByRecursion}
use Rattle.cube_defs.specs.Rows.{Row}
use Rattle.cube_defs.specs.Tree.{Edge, Node, renamed_edge}
use Rattle.std.specs.Ordering.{eq_by_cmp, ordering_then, is_eq}
use Rattle.std.specs.Prelude.{slice_index_or}
use Rattle.cube_laws.specs.Lists.{Among}
use Rattle.cube_laws.proofs.CallerLemmas.{nat_equality, cell_eq-same, all_at, map_among, among_map, among_left, nat_total, IsShared}
use Rattle.cube_laws.proofs.CallerLemmas.{HaveDims}
use Rattle.tree_laws.specs.Walk.{target_at}
use Rattle.tree_laws.specs.Edges.{edge_cmp}
use Rattle.cube_laws.specs.Parting.{shared_by}
use Rattle.build_trace.specs.Trace.{Act, Act.{Add, Label, Mark}, put_of, trace, puts_of, labels_of}
use Rattle.build_trace.specs.Follows.{RecordLookup, Follows, cell_by}
use Rattle.build_trace.specs.Ready.{HasPath}
use Rattle.build_trace.proofs.Canonical.{adds_are}
use Rattle.build_trace.proofs.Ready.{path_labels}
use Rattle.build_trace.proofs.Descending.{labels_rise}

-- a label that was set is among its node's
label_among : (b : Bool) (f : Cell ℕ) (i v : ℕ) (t : Cell ℕ) (es : List Act) → Among (Label b f i v t) es
    → Among (record { dim = i; value = v; target = t }) (labels_of f es)
label_among b f i v t [] h = absurd h
label_among b f i v t (Add p ∷ es) h = elim h [ inl e ↦ absurd (cc) | inr k ↦ label_among b f i v t es k ]
label_among b f i v t (Mark w a ∷ es) h = elim h [ inl e ↦ absurd (cc) | inr k ↦ label_among b f i v t es k ]
label_among b f i v t (Label d g j x s ∷ es) h = go (label_among b f i v t es) (cell_eq nat_eq g f) refl h
  where
    go : (Among (Label b f i v t) es → Among (record { dim = i; value = v; target = t }) (labels_of f es)) → (c : Bool)
        → cell_eq nat_eq g f ≡ c → (Label b f i v t ≡ Label d g j x s) ⊎ Among (Label b f i v t) es
        → Among (record { dim = i; value = v; target = t })
        (map (λ s. s.edge) (cond c (put_of d j x s ∷ puts_of f es) (puts_of f es)))
    go more true e (inl k) = let a : i ≡ j = cc in let y : v ≡ x = cc in let z : t ≡ s = cc in
        inl (λ m. record { dim = a m; value = y m; target = z m })
    go more false e (inl k) = let g_is : f ≡ g = cc in
        absurd (true≢false (sym (ap (λ c. cell_eq nat_eq c f) (sym g_is) ∙ cell_eq-same nat_equality f) ∙ e))
    go more true e (inr k) = inr (more k)
    go more false e (inr k) = more k

-- of edges in order the first with a label is the only one
target_found : {T : Type 0} (i v : ℕ) (t : T) (es : List (Edge ℕ T)) → IsStrictlySortedBy (edge_cmp nat_cmp) es
    → Among (record { dim = i; value = v; target = t }) es → target_at (eq_by_cmp nat_cmp) i v es ≡ Some t
unfolding IsStrictlySortedBy
target_found i v t [] a h = absurd h
target_found i v t (e ∷ es) a h = elim h [
  | inl s ↦ subst (λ x. target_at (eq_by_cmp nat_cmp) i v (x ∷ es) ≡ Some t) s
      (cond-true (nat_eq i i && eq_by_cmp nat_cmp v v) (Some t) _
      (and_from _ _ (eq-eqb i i refl) (ap is_eq (tied_itself nat_total v))))
  | inr k ↦ cond-false (nat_eq e.dim i && eq_by_cmp nat_cmp e.value v) _ _ (false_from_ne_true _ (other k))
      ∙ target_found i v t es a.1 k
]
  where
    other : Among (record { dim = i; value = v; target = t }) es
        → (nat_eq e.dim i && eq_by_cmp nat_cmp e.value v) ≡ true → ⊥
    other k m =
        let p = and_parts (nat_eq e.dim i) (eq_by_cmp nat_cmp e.value v) m in
        let less : edge_cmp nat_cmp e (record { dim = i; value = v; target = t }) ≡ Less
        = all_at (λ y. edge_cmp nat_cmp e y ≡ Less) (record { dim = i; value = v; target = t }) es a.0 k in
        let same : edge_cmp nat_cmp e (record { dim = i; value = v; target = t }) ≡ Equal
        = ap₂ ordering_then (ap (λ x. nat_cmp x i) (eqb-true e.dim i p.0) ∙ tied_itself nat_total i)
        (ap (λ x. nat_cmp x v) (at_tie e.value v p.1) ∙ tied_itself nat_total v) in
        let bad : Less ≡ Equal = sym less ∙ same in
        cc

-- the order looks at the labels alone
edge_order : {S T : Type 0} (g : S → Option (Cell ℕ)) (h : T → Option (Cell ℕ)) (a b : Edge ℕ S) (x y : Edge ℕ T)
    → renamed_edge g a ≡ renamed_edge h x → renamed_edge g b ≡ renamed_edge h y
    → edge_cmp nat_cmp a b ≡ edge_cmp nat_cmp x y
edge_order g h a b x y e f = ap₂ (edge_cmp nat_cmp) e f

rise_renamed : (g : ℕ → Option (Cell ℕ)) (es : List (Edge ℕ ℕ)) (ds : List (Edge ℕ (Cell ℕ)))
    → map (renamed_edge g) es ≡ map (renamed_edge (λ c. Some c)) ds → IsStrictlySortedBy (edge_cmp nat_cmp) ds
    → IsStrictlySortedBy (edge_cmp nat_cmp) es
unfolding IsStrictlySortedBy
rise_renamed g [] ds s h = tt
rise_renamed g (y ∷ es) [] s h = cc
rise_renamed g (y ∷ es) (z ∷ ds) s h = (all es ds (cc) h.0, rise_renamed g es ds (cc) h.1)
  where
    first : renamed_edge g y ≡ renamed_edge (λ c. Some c) z
    first = cc

    all : (es : List (Edge ℕ ℕ)) (ds : List (Edge ℕ (Cell ℕ)))
        → map (renamed_edge g) es ≡ map (renamed_edge (λ c. Some c)) ds
        → AllByRecursion (λ d. edge_cmp nat_cmp z d ≡ Less) ds → AllByRecursion (λ e. edge_cmp nat_cmp y e ≡ Less) es
    all [] ds s h = tt
    all (a ∷ es) [] s h = cc
    all (a ∷ es) (b ∷ ds) s h = (edge_order g (λ c. Some c) y a z b first (cc) ∙ h.0, all es ds (cc) h.1)

module _ (measures n : ℕ) (table : List (Row ℕ)) (all_long : HaveDims n table)
    (shared : IsShared table (shared_by table)) where
  -- in a map that follows a first part of the trace each record's edges rise
  pub edges_rise : (xs ys : List Act) (look : RecordLookup) (k : ℕ) (x : Node ℕ ℕ) → trace measures n table ≡ xs ++ ys
      → Follows xs look → look k ≡ Some x → IsStrictlySortedBy (edge_cmp nat_cmp) x.edges
  unfolding IsStrictlySortedBy
  edges_rise xs ys look k x e f was =
      rise_renamed (cell_by look) x.edges (labels_of x.cell xs) (ap (λ m. m.edges) (f.each k x was).1)
      (labels_rise measures n table all_long shared xs ys x.cell
      ((adds_are measures n table all_long shared x.cell).0
      (subst (Among (Add x.cell)) (sym e) (among_left (Add x.cell) xs ys (f.each k x was).0))) e)

  -- one step down in a map that follows a first part: the record has the label of t's next value, and it leads to t's
  -- next prefix
  pub go_down : (xs ys : List Act) (look : RecordLookup) (t : Cell ℕ) (j v k : ℕ) (x : Node ℕ ℕ)
      → trace measures n table ≡ xs ++ ys → Follows xs look → HasPath xs t → slice_index_or t j None ≡ Some v
      → look k ≡ Some x → x.cell ≡ cell_prefix j t
      → (l : ℕ) × (target_at (eq_by_cmp nat_cmp) j v x.edges ≡ Some l) × (cell_by look l ≡ Some (cell_prefix (suc j) t))
  go_down xs ys look t j v k x e f p o was is
      = (
        a.0.target,
        target_found j v a.0.target x.edges (edges_rise xs ys look k x e f was)
            (subst (λ y. Among y x.edges) edge a.1),
        target,
      )
    where
      label : (b : Bool) × Among (Label b (cell_prefix j t) j v (cell_prefix (suc j) t)) xs
      label = path_labels xs t p j v o

      named : Among (renamed_edge (λ c. Some c) (record { dim = j; value = v; target = cell_prefix (suc j) t }))
          (map (renamed_edge (cell_by look)) x.edges)
      named = subst (Among (renamed_edge (λ c. Some c) (record { dim = j; value = v; target = cell_prefix (suc j) t })))
          (ap (λ c. map (renamed_edge (λ c. Some c)) (labels_of c xs)) (sym is)
          ∙ sym (ap (λ m. m.edges) (f.each k x was).1))
          (map_among (renamed_edge (λ c. Some c)) (record { dim = j; value = v; target = cell_prefix (suc j) t })
          (labels_of (cell_prefix j t) xs)
          (label_among label.0 (cell_prefix j t) j v (cell_prefix (suc j) t) xs label.1))

      a : (y : Edge ℕ ℕ) × Among y x.edges
          × (renamed_edge (λ c. Some c) (record { dim = j; value = v; target = cell_prefix (suc j) t })
          ≡ renamed_edge (cell_by look) y)
      a = among_map (renamed_edge (cell_by look)) _ x.edges named

      target : cell_by look a.0.target ≡ Some (cell_prefix (suc j) t)
      target = sym (ap (λ y. y.target) a.2)

      edge : a.0 ≡ record { dim = j; value = v; target = a.0.target }
      edge = λ m. record {
        dim = ap (λ y. y.dim) (sym a.2) m;
        value = ap (λ y. y.value) (sym a.2) m;
        target
            = a.0.target;
      }
