-- At each act all that it needs is there: the node that the walk stands at, and where a label leads, can be found by
-- going down from the root.
use Rattle.std.specs.Prelude.{◌≡◌, ℕ, suc, Bool, Some, None, List, [], ◌∷◌, ◌++◌, slice_index_or, ◌⊎◌}
use Rattle.std.specs.Bool.{⊤}
use Rattle.cube_defs.specs.Cell.{Cell, cell_prefix, depth}
use Rattle.cube_laws.specs.Lists.{Among}
use Rattle.build_trace.specs.Trace.{Act, Act.{Add, Label, Mark}}

-- q was added, and the label of its last value was set at its parent
pub record IsLabelled (done : List Act) (q : Cell ℕ) : Type 0 where
  pub added : Among (Add q) done
  pub at : ℕ
  pub value : ℕ
  pub forced : Bool
  pub deep : depth q ≡ suc at
  pub entry : slice_index_or q at None ≡ Some value
  pub label : Among (Label forced (cell_prefix at q) at value q) done

-- the root was added, and so was each prefix of t that ends with a value, with its label
pub record HasPath (done : List Act) (t : Cell ℕ) : Type 0 where
  pub root : Among (Add (cell_prefix 0 t)) done
  pub there : (j v : ℕ) → slice_index_or t j None ≡ Some v → IsLabelled done (cell_prefix (suc j) t)

-- t was just added as a child of f
pub record IsNew (done : List Act) (f : Cell ℕ) (i v : ℕ) (t : Cell ℕ) : Type 0 where
  pub added : Among (Add t) done
  pub deep : depth t ≡ suc i
  pub entry : slice_index_or t i None ≡ Some v
  pub front : cell_prefix i t ≡ f

pub record HasParentPath (done : List Act) (p : Cell ℕ) : Type 0 where
  pub at : ℕ
  pub deep : depth p ≡ suc at
  pub parent : HasPath done (cell_prefix at p)

abbrev pub MayFollow : List Act → Act → Type 0
MayFollow done (Add p) = HasParentPath done p
MayFollow done (Label b f i v t) = HasPath done f × (IsNew done f i v t ⊎ HasPath done t)
MayFollow done (Mark w a) = HasPath done w

abbrev pub Ready : List Act → List Act → Type 0
Ready done [] = ⊤
Ready done (e ∷ es) = MayFollow done e × Ready (done ++ e ∷ []) es
