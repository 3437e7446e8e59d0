-- Records of nodes by number, and the lists of their edges.
use Rattle.std.specs.Prelude.{◌≡◌, ℕ, ◌≤◌, List, Bool, false, Option, Some, None, is_some, map, count_by, if◌then◌else◌}
use Rattle.std.specs.Option.{option_map}
use Rattle.slab.specs.Slab as slots
use Rattle.cube_defs.specs.Tree.{Edge}
use Rattle.qc_arena.specs.EdgeLists.{list_at}
use Rattle.qc_arena.specs.KeptSlot.{Kept, with_edges}
use Rattle.qc_arena.specs.Map.{Known}

-- the edges of a record: those in its list, if it has one
abbrev pub edges_from : slots.Slab (List (Edge ℕ ℕ)) → Option ℕ → List (Edge ℕ ℕ) → List (Edge ℕ ℕ)
edges_from lists None own = own
edges_from lists (Some place) own = list_at lists place

abbrev pub edges_of : slots.Slab (List (Edge ℕ ℕ)) → Kept → List (Edge ℕ ℕ)
edges_of lists h = edges_from lists h.place h.node.edges

-- the node of a record, and nothing if it was killed
abbrev pub node_of : slots.Slab (List (Edge ℕ ℕ)) → Kept → Option Known
node_of lists h = if h.is_killed then None else Some (with_edges (edges_of lists h) h.node)

-- the nodes by number
abbrev pub nodes_of : slots.Slab Kept → slots.Slab (List (Edge ℕ ℕ)) → slots.Slab (Option Known)
nodes_of s lists = record {
  slots = map (option_map (node_of lists)) s.slots;
  vacant_key = s.vacant_key;
  capacity = s.capacity;
}

abbrev pub has_list : Option Kept → Bool
has_list None = false
has_list (Some h) = is_some h.place

-- each list is that of one record, and there is room for a list for each record
pub record AreListed (s : slots.Slab Kept) (lists : slots.Slab (List (Edge ℕ ℕ))) : Type 0 where
  pub there : (q p : ℕ) (h : Kept) → slots.get s q ≡ Some h → h.place ≡ Some p → slots.ContainsKey lists p
  pub apart : (q r p : ℕ) (g h : Kept) → slots.get s q ≡ Some g → slots.get s r ≡ Some h → g.place ≡ Some p
      → h.place ≡ Some p → q ≡ r
  pub few : slots.slab_len lists ≤ count_by has_list s.slots
  pub room : slots.slab_len s ≤ lists.capacity
  pub small : slots.slab_len s ≤ 4000000000
