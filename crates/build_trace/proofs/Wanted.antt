-- What the code that builds a tree asks of the acts.
use Rattle.std.proofs.Common.{Option, ◌≡◌, ◌⊎◌, inl, inr, ℕ, ◌<◌, Bool, Some, List, [], ◌∷◌, ◌++◌, map, sym, ap, subst, ◌∙◌}
use Rattle.std.specs.List.{AllByRecursion}
use Rattle.cube_defs.specs.Cell.{Cell, cell_prefix}
use Rattle.cube_defs.specs.Rows.{Row}
use Rattle.cube_defs.specs.Tree.{Edge, Node, renamed_edge}
use Rattle.cube_laws.specs.Parting.{shared_by}
use Rattle.cube_laws.proofs.CallerLemmas.{IsShared, HaveDims}
use Rattle.build_trace.specs.Trace.{Act, Act.{Label}, trace, labels_of}
use Rattle.build_trace.specs.Follows.{RecordLookup, Follows, cell_by}
use Rattle.build_trace.specs.Ready.{HasPath}
use Rattle.build_trace.proofs.Ready.{label_ok}
use Rattle.build_trace.proofs.Descending.{IsBefore, label_after}
pub use Rattle.build_trace.proofs.Fresh.{act_node, mark_node}
pub use Rattle.build_trace.proofs.Down.{go_down}
pub use Rattle.build_trace.proofs.Canonical.{followed}
pub use Rattle.build_trace.proofs.Counting.{adds_count, more_nodes}

-- edges with the same labels, under other names
before_renamed : (g : ℕ → Option (Cell ℕ)) (i v : ℕ) (es : List (Edge ℕ ℕ)) (ds : List (Edge ℕ (Cell ℕ)))
    → map (renamed_edge g) es ≡ map (renamed_edge (λ c. Some c)) ds → AllByRecursion (IsBefore i v) ds
    → AllByRecursion (IsBefore i v) es
before_renamed g i v [] ds s h = tt
before_renamed g i v (y ∷ es) [] s h = cc
before_renamed g i v (y ∷ es) (z ∷ ds) s h = (one h.0, before_renamed g i v es ds (cc) h.1)
  where
    first : renamed_edge g y ≡ renamed_edge (λ c. Some c) z
    first = cc

    one : IsBefore i v z → IsBefore i v y
    one b = subst (λ x. IsBefore i v x) (sym first) b

module _ (measures n : ℕ) (table : List (Row ℕ)) (all_long : HaveDims n table)
    (shared : IsShared table (shared_by table)) where
  -- a label that doesn't lead on from its own node leads to one that can be gone down to
  pub link_ready : (xs ys : List Act) (b : Bool) (f : Cell ℕ) (i v : ℕ) (t : Cell ℕ)
      → trace measures n table ≡ xs ++ Label b f i v t ∷ ys → (cell_prefix i t ≡ f → ⊥) → HasPath xs t
  link_ready xs ys b f i v t e other
      = elim (label_ok measures n table all_long shared xs ys b f i v t e).1 [
        | inr p ↦ p
        | inl new ↦ absurd (other new.front)
      ]

  -- the edges of a record that gets a label come before it: inserting in order is appending
  pub put_last : (xs ys : List Act) (b : Bool) (f : Cell ℕ) (i v : ℕ) (t : Cell ℕ) (look : RecordLookup) (k : ℕ)
      (x : Node ℕ ℕ) → trace measures n table ≡ xs ++ Label b f i v t ∷ ys → Follows xs look
      → look k ≡ Some x → x.cell ≡ f
      → AllByRecursion (λ e. (e.dim < i) ⊎ ((e.dim ≡ i) × (e.value < v))) x.edges
  put_last xs ys b f i v t look k x e follows was is =
      before_renamed (cell_by look) i v x.edges (labels_of f xs)
      (ap (λ m. m.edges) (follows.each k x was).1 ∙ ap (λ c. map (renamed_edge (λ c. Some c)) (labels_of c xs)) is)
      (label_after measures n table all_long shared xs ys b f i v t e)
