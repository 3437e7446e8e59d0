-- What holds of the nodes with the row while their labels, forced children and classes are set.
use Rattle.std.specs.Prelude.{◌≡◌, ◌⊎◌, ℕ, ℤ, true, false, ◌<◌, Option, None, Some, IsSome, List, ◌∷◌, ◌++◌, length, nat_eq, slice_get}
use Rattle.std.specs.Prelude.{slice_index_or}
use Rattle.std.specs.Ordering.{nat_cmp, eq_by_cmp}
use Rattle.std.specs.Option.{option_map}
use Rattle.std.specs.FinMap as map
use Rattle.cube_defs.specs.Cell.{Cell, depth, leq, mask, with_value}
use Rattle.cube_defs.specs.Rows as defs
use Rattle.cube_defs.specs.Tree.{Edge, Tree, cell_at, parent_cell_of}
use Rattle.cube_laws.specs.Lists.{Among}
use Rattle.qc_arena.specs.Edges.{rises}
use Rattle.qc_arena.specs.Map.{Arena, Known}
use Rattle.qc_arena.specs.RecordReaders.{record_at}
use Rattle.tree_laws.specs.Labels.{target_of_label}
use Rattle.batch_insert.specs.declared.plan.LabelCopy.{LabelCopy}
use Rattle.batch_insert.specs.declared.plan.TupleLabel.{TupleLabel}
use Rattle.batch_insert.specs.declared.plan.NodeKind.{NodeKind}
use Rattle.batch_insert.specs.declared.plan.Plan.{Plan}
use Rattle.batch_insert.specs.Cases.{Case, IsPrefix, new_closure}
use Rattle.batch_insert.specs.Whole.{IsCopyOf, IsEndFor, IsTupleLabelOf}

-- an edge has this label
abbrev pub HasLabel : ℕ → ℕ → List (Edge ℕ ℕ) → Type 0
HasLabel i v es = (x : Edge ℕ ℕ) × Among x es × (x.dim ≡ i) × (x.value ≡ v)

-- no label goes
abbrev pub LabelsStay : Tree ℕ → Tree ℕ → Type 0
LabelsStay b d = (k i v : ℕ) → HasLabel i v (record_at b k).edges → HasLabel i v (record_at d k).edges

-- no edge changes
abbrev pub EdgesStay : Tree ℕ → Tree ℕ → Type 0
EdgesStay b d = (k : ℕ) → (record_at d k).edges ≡ (record_at b k).edges

module _ {t : Cell ℕ} {a : Arena} (c : Case t a) where
  abbrev pub new_lead : Cell ℕ → ℕ → ℕ → Option (Cell ℕ)
  new_lead p i v = target_of_label (eq_by_cmp nat_cmp) (c.xs ++ c.row ∷ c.ys) p i v

  -- a record that generalizes t: each edge leads where it is to lead with the row, or it has t's value; there is no class but
  -- where the node is its own closure
  pub record IsSound (name : ℕ → Option (Cell ℕ)) (n : Known) : Type 0 where
    pub parent : option_map name n.parent ≡ option_map (λ x. Some x) (parent_cell_of nat_cmp n.cell)
    pub rises : rises n.edges ≡ true
    pub place : (x : Edge ℕ ℕ) → Among x n.edges → (x.dim < length t) × IsPrefix c n.cell x.dim
    pub leads : (x : Edge ℕ ℕ) → Among x n.edges → (new_lead n.cell x.dim x.value ≡ name x.target)
        ⊎ (slice_index_or t x.dim None ≡ Some x.value)
    pub class : (n.class ≡ None) ⊎ (new_closure c n.cell ≡ n.cell)

  -- the nodes that generalize t are those with the row, each with its number and a sound record; the others are as they were
  pub record IsStage (b : Tree ℕ) (numbers : ℕ → Option ℕ) : Type 0 where
    pub nodes : (m k : ℕ) → numbers m ≡ Some k → (p : Cell ℕ) × (cell_at b k ≡ Some p) × (mask p ≡ m)
        × IsPrefix c p (depth p)
    pub below : (k : ℕ) (n : Known) → map.get b k ≡ Some n → leq nat_eq n.cell t ≡ true
        → IsPrefix c n.cell (depth n.cell) × (numbers (mask n.cell) ≡ Some k)
    pub all : (q : Cell ℕ) → IsPrefix c q (depth q) → IsSome (numbers (mask q))
    pub cells : (k : ℕ) (p : Cell ℕ) → cell_at a.now k ≡ Some p → cell_at b k ≡ Some p
    pub apart : (k : ℕ) (n : Known) → map.get a.now k ≡ Some n → leq nat_eq n.cell t ≡ false → map.get b k ≡ Some n
    pub stays : LabelsStay a.now b
    pub sound : (k : ℕ) (n : Known) → map.get b k ≡ Some n → IsPrefix c n.cell (depth n.cell) → IsSound (cell_at b) n

  -- the forced child or the class of the node p, as it is with the row
  abbrev pub HasEndOf : (ℕ → Option (Cell ℕ)) → Cell ℕ → Known → Type 0
  HasEndOf name p n =
      (IsPrefix c p (length t) × (n.forced ≡ None)
      × (n.class ≡ Some (defs.agg (eq_by_cmp nat_cmp) c.measures (c.xs ++ c.row ∷ c.ys) p)))
      ⊎ ((i : ℕ) × (v : ℕ) × (l : ℕ) × IsPrefix c p i × (i < length t) × (slice_get (new_closure c p) i ≡ Some (Some v))
      × (n.forced ≡ Some (record { dim = i; value = v; target = l })) × (name l ≡ Some (with_value p i v))
      × (n.class ≡ None))

  -- what a part of the plan has done
  abbrev pub IsCopied : Tree ℕ → (ℕ → Option ℕ) → LabelCopy → Type 0
  IsCopied b numbers x = (k : ℕ) × (numbers x.mask ≡ Some k)
      × ((i v : ℕ) → HasLabel i v (record_at a.now x.from.0).edges → HasLabel i v (record_at b k).edges)

  abbrev pub IsEnded : Tree ℕ → (ℕ → Option ℕ) → NodeKind → Type 0
  IsEnded b numbers x = (k : ℕ) × (n : Known) × (numbers x.mask ≡ Some k) × (map.get b k ≡ Some n)
      × HasEndOf (cell_at b) n.cell n

-- the label with t's value leads to the node with the target's mask
abbrev pub IsSet : Cell ℕ → Tree ℕ → (ℕ → Option ℕ) → TupleLabel → Type 0
IsSet t b numbers x = (k : ℕ) × (l : ℕ) × (v : ℕ) × (numbers x.mask ≡ Some k) × (numbers x.target ≡ Some l)
    × (slice_index_or t x.dim None ≡ Some v)
    × Among (record { dim = x.dim; value = v; target = l }) (record_at b k).edges

-- what parts of a plan have done from the map b to the map d, whatever rows and row there are
abbrev pub HaveCopied : Cell ℕ → (ℕ → Option ℕ) → List LabelCopy → Tree ℕ → Tree ℕ → Type 0
HaveCopied t numbers xs b d = (a : Arena) (c : Case t a) → IsStage c b numbers
    → ((x : LabelCopy) → Among x xs → IsCopyOf c x)
    → IsStage c d numbers × LabelsStay b d × ((x : LabelCopy) → Among x xs → IsCopied c d numbers x)

abbrev pub HaveSet : Cell ℕ → (ℕ → Option ℕ) → List TupleLabel → Tree ℕ → Tree ℕ → Type 0
HaveSet t numbers xs b d = (a : Arena) (c : Case t a) → IsStage c b numbers
    → ((x : TupleLabel) → Among x xs → IsTupleLabelOf c x)
    → IsStage c d numbers × LabelsStay b d × ((x : TupleLabel) → Among x xs → IsSet t d numbers x)
    × ((y : TupleLabel) → IsTupleLabelOf c y → IsSet t b numbers y → IsSet t d numbers y)

abbrev pub HaveEnded : Cell ℕ → List ℤ → (ℕ → Option ℕ) → List NodeKind → Tree ℕ → Tree ℕ → Type 0
HaveEnded t amounts numbers xs b d = (a : Arena) (c : Case t a) → c.row.amounts ≡ amounts
    → c.measures ≡ length amounts → IsStage c b numbers → ((x : NodeKind) → Among x xs → IsEndFor c x)
    → IsStage c d numbers × EdgesStay b d × ((x : NodeKind) → Among x xs → IsEnded c d numbers x)
    × ((y : NodeKind) → IsEnded c b numbers y → IsEnded c d numbers y)

-- all of a plan but its nodes
abbrev pub IsDone : Cell ℕ → List ℤ → (ℕ → Option ℕ) → Plan → Tree ℕ → Tree ℕ → Type 0
IsDone t amounts numbers plan b d = (labels : Tree ℕ) × (tuple_labels : Tree ℕ)
    × HaveCopied t numbers plan.copies.items b labels × HaveSet t numbers plan.tuple_labels.items labels tuple_labels
    × HaveEnded t amounts numbers plan.ends.items tuple_labels d
