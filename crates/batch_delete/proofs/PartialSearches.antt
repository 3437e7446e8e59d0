-- Searches that begin at a node near by: after a label, and up from a class to its prefix.
use Rattle.std.proofs.Common.{◌≡◌, ◌∙◌, ℕ, zero, suc, ◌<◌, ◌≤◌, Option, Some, None, [], ◌∷◌, get_or, length, nat_cmp, refl, slice_get, sym}
use Rattle.std.proofs.Common.{ap, arith}
use Rattle.std.specs.Cmp.{nat_cmp_total}
use Rattle.std.specs.FinMap as fin
use Rattle.std.specs.Option.{option_map}
use Rattle.std.specs.Ordering.{eq_by_cmp}
use Rattle.std.specs.Prelude.{IsSome}
use Rattle.std.proofs.lemmas.Option.{slice_get_within}
use Rattle.cell_core.specs.declared.cell.NodeNo.{NodeNo}
use Rattle.cube_defs.specs.Cell.{Cell, depth, cell_prefix, with_value}
use Rattle.cube_defs.specs.Rows.{closure}
use Rattle.cube_defs.specs.Tree.{Edge, Tree, cell_at}
use Rattle.cube_laws.proofs.CallerLemmas.{none_some, depth-le, cell_prefix-leq, length-cell_prefix, closure_some, closure_length}
use Rattle.cube_laws.specs.Lists.{Among}
use Rattle.cube_laws.specs.Parts.{IsLastAny}
use Rattle.qc_arena.specs.RecordReaders.{number, record_at}
use Rattle.tree_laws.specs.Walk.{closure_prefix, walk_on}
use Rattle.tree_laws.proofs.CallerLemmas.{parent_is, depth-cell_prefix-le, depth-with_value, cell_prefix-beyond, upto-entry}
use Rattle.tree_laws.proofs.CallerLemmas.{with_value-there, cell_prefix-with_value, some_same, walk_step}
use Rattle.tree_search.specs.Found.{IsTreeOf, IsNumberOfCell, TreeRows, closure_in}
use Rattle.batch_delete.proofs.Labelled.{at_cell, closed_at, edge_label, law}

cell_prefix_with : (p : Cell ℕ) (i v : ℕ) → cell_prefix i (with_value p i v) ≡ cell_prefix i p
cell_prefix_with [] i v = refl
cell_prefix_with (e ∷ p) zero v = refl
cell_prefix_with (e ∷ p) (suc i) v = ap (λ c. e ∷ c) (cell_prefix_with p i v)

-- the prefix of a cell with a value more
prefix_with : (u : Cell ℕ) (i v : ℕ) → i < length u
    → cell_prefix (suc i) (with_value u i v) ≡ with_value (cell_prefix i u) i v
prefix_with u i v l = upto-entry (with_value u i v) i v (with_value-there u i v l)
    ∙ ap (λ c. with_value c i v) (cell_prefix_with u i v)

module _ (dims : ℕ) (tree : Tree ℕ) (source : TreeRows) (h : IsTreeOf dims tree source) where
  module _ (c : Cell ℕ) (long : length c ≡ dims) where
    -- one dimension on
    pub goes_on : (k i : ℕ) (a o : Option ℕ) → i < dims → slice_get c i ≡ Some a
        → IsNumberOfCell tree (Some k) (closure_prefix (eq_by_cmp nat_cmp) source.rows c i)
        → walk_on (eq_by_cmp nat_cmp) k (record_at tree k) i a ≡ o
        → IsNumberOfCell tree o (closure_prefix (eq_by_cmp nat_cmp) source.rows c (suc i))
    goes_on k i a o l at names is = by (closure_prefix (eq_by_cmp nat_cmp) source.rows c i) refl names
      where
        by : (p : Option (Cell ℕ)) → closure_prefix (eq_by_cmp nat_cmp) source.rows c i ≡ p
            → Some (cell_at tree k) ≡ option_map (λ c. Some c) p
            → IsNumberOfCell tree o (closure_prefix (eq_by_cmp nat_cmp) source.rows c (suc i))
        by None e n = cc
        by (Some p) e n =
            let g = at_cell dims tree source h k p (some_same n) in
            ap (option_map (cell_at tree)) (sym is)
            ∙ walk_step nat_cmp_total fin.nat_cmp-IsAntisymmetric dims source.measures source.rows h.wide tree
            h.canonical k (record_at tree k) c i a long at l g.0 (ap (λ x. Some x) g.1 ∙ sym e)

    -- where a prefix covers nothing, the cell covers nothing
    pub stops : (i : ℕ) → IsNumberOfCell tree None (closure_prefix (eq_by_cmp nat_cmp) source.rows c i)
        → IsNumberOfCell tree None (closure_in source c)
    stops i names = by (closure (eq_by_cmp nat_cmp) source.rows c) refl
      where
        by : (o : Option (Cell ℕ)) → closure (eq_by_cmp nat_cmp) source.rows c ≡ o
            → None ≡ option_map (λ c. Some c) (closure (eq_by_cmp nat_cmp) source.rows c)
        by None q = sym (ap (option_map (λ c. Some c)) q)
        by (Some u) q =
            let r : (w : Cell ℕ) × (closure (eq_by_cmp nat_cmp) source.rows (cell_prefix i c) ≡ Some w)
            = closure_some law source.rows (cell_prefix i c) c u (cell_prefix-leq law i c) q in
            let bad : None ≡ Some (Some (cell_prefix i r.0))
            = names ∙ ap (λ o. option_map (λ c. Some c) (option_map (cell_prefix i) o)) r.1 in
            cc

    -- at the end the prefix is all
    pub ends : (o : Option ℕ) (i : ℕ) → dims ≤ i
        → IsNumberOfCell tree o (closure_prefix (eq_by_cmp nat_cmp) source.rows c i)
        → IsNumberOfCell tree o (closure_in source c)
    ends o i l names =
        names ∙ ap (option_map (λ c. Some c))
        (ap (λ d. option_map (cell_prefix i) (closure (eq_by_cmp nat_cmp) source.rows d))
        (cell_prefix-beyond i c (omega (arith, depth-le c, long)))
        ∙ by (closure (eq_by_cmp nat_cmp) source.rows c) refl)
      where
        by : (p : Option (Cell ℕ)) → closure (eq_by_cmp nat_cmp) source.rows c ≡ p → option_map (cell_prefix i) p ≡ p
        by None e = refl
        by (Some u) e = let wide : length u ≡ dims = closure_length (eq_by_cmp nat_cmp) dims c u source.rows h.wide e in
            ap (λ x. Some x) (cell_prefix-beyond i u (omega (arith, depth-le u)))

  -- an edge of a cell's prefix leads to where a search for the cell with the edge's label goes on
  pub label_goes_on : (k : ℕ) (u : Cell ℕ) (x : Edge ℕ ℕ) → x.dim < length u
      → cell_at tree k ≡ Some (cell_prefix x.dim u) → Among x (record_at tree k).edges
      → IsNumberOfCell tree (Some x.target)
      (closure_prefix (eq_by_cmp nat_cmp) source.rows (with_value u x.dim x.value) (suc x.dim))
  label_goes_on k u x l at m =
      let p = closed_at dims tree source h k (cell_prefix x.dim u) at in
      let t = edge_label dims tree source h k (cell_prefix x.dim u) at x m p.0 p.1 in
      ap (λ y. Some y) t.1 ∙ sym (ap
      (λ c. option_map (λ c. Some c)
      (option_map (cell_prefix (suc x.dim)) (closure (eq_by_cmp nat_cmp) source.rows c)))
      (prefix_with u x.dim x.value l) ∙ ap (option_map (λ c. Some c)) t.2.leads)

  -- up from a prefix to that before its last value
  pub one_up : (k : ℕ) (c : Cell ℕ) (i v : ℕ) → cell_at tree k ≡ Some (cell_prefix (suc i) c)
      → slice_get c i ≡ Some (Some v)
      → option_map (cell_at tree) (record_at tree k).parent ≡ Some (Some (cell_prefix i c))
  one_up k c i v at has =
      let a = at_cell dims tree source h k (cell_prefix (suc i) c) at in
      let is : cell_prefix (suc i) c ≡ with_value (cell_prefix i c) i v = upto-entry c i v has in
      let inside : i < length (cell_prefix i c)
      = omega (arith, length-cell_prefix i c, slice_get_within c i (Some v) has) in
      let deep : depth (cell_prefix (suc i) c) ≡ suc i
      = ap depth is ∙ depth-with_value (cell_prefix i c) i v (depth-cell_prefix-le i c) inside in
      parent_is nat_cmp_total fin.nat_cmp-IsAntisymmetric dims source.measures source.rows h.wide tree h.canonical k
      (record_at tree k) a.0 i (ap depth a.1 ∙ deep)
      ∙ ap (λ c. Some (Some (cell_prefix i c))) (a.1 ∙ is)
      ∙ ap (λ c. Some (Some c)) (cell_prefix-with_value (cell_prefix i c) i v (depth-cell_prefix-le i c))

  pub up_there : (k : ℕ) (c : Cell ℕ) (i v : ℕ) → cell_at tree k ≡ Some (cell_prefix (suc i) c)
      → slice_get c i ≡ Some (Some v) → (o : Option NodeNo) → option_map number o ≡ (record_at tree k).parent → IsSome o
  up_there k c i v at has None is = absurd (none_some (ap (option_map (cell_at tree)) is ∙ one_up k c i v at has))
  up_there k c i v at has (Some m) is = refl

  pub up_to : (k : ℕ) (c : Cell ℕ) (i v : ℕ) → cell_at tree k ≡ Some (cell_prefix (suc i) c)
      → slice_get c i ≡ Some (Some v) → (o : Option NodeNo) (m : NodeNo)
      → option_map number o ≡ (record_at tree k).parent → o ≡ Some m → cell_at tree m.0 ≡ Some (cell_prefix i c)
  up_to k c i v at has o m is got
      = some_same (ap (option_map (cell_at tree)) (ap (option_map number) (sym got) ∙ is) ∙ one_up k c i v at has)

-- after the last dimension of Any there are values alone
pub value_after : (c : Cell ℕ) (dim i : ℕ) → IsLastAny c dim → dim < i → i < length c → (v : ℕ)
    × (slice_get c i ≡ Some (Some v))
value_after c dim i last l within = by c i within (last.last i l)
  where
    by : (c : Cell ℕ) (i : ℕ) → i < length c → (slice_get c i ≡ Some None → ⊥) → (v : ℕ)
        × (slice_get c i ≡ Some (Some v))
    by [] i w none = absurd (omega arith)
    by (None ∷ c) zero w none = absurd (none refl)
    by (Some v ∷ c) zero w none = (v, refl)
    by (e ∷ c) (suc i) w none = by c i (omega arith) none

pub entry_at : (c : Cell ℕ) (i : ℕ) → i < length c → slice_get c i ≡ Some (get_or c i None)
entry_at [] i l = absurd (omega arith)
entry_at (e ∷ c) zero l = refl
entry_at (e ∷ c) (suc i) l = entry_at c i (omega arith)

-- an entry after a dimension is what it was before the cell got a value there
pub entry_after : (c : Cell ℕ) (i v k : ℕ) → i < k → k < length c → slice_get (with_value c i v) k ≡ Some (get_or c k None)
entry_after [] i v k l w = absurd (omega arith)
entry_after (e ∷ c) i v zero l w = absurd (omega arith)
entry_after (e ∷ c) zero v (suc k) l w = entry_at c k (omega arith)
entry_after (e ∷ c) (suc i) v (suc k) l w = entry_after c i v k (omega arith) (omega arith)
