-- What a place holds in memory.
use Rattle.std.specs.Prelude.{◌≡◌, ◌≢◌, ℕ, List, [], ◌∷◌, Bool, Option, IfSome, refl}
use Rattle.std.specs.Coded.{Coded, code_by, coded×, coded_bool, coded_option, coded_ℕ}
use Rattle.cube_defs.specs.Tree.{Edge, Node}
use Rattle.qc_arena.specs.Codes.{node_code}
use Rattle.qc_arena.specs.Map.{Known}
use Rattle.qc_arena.specs.RecordReaders.{edge_of}
use Rattle.qc_arena.specs.declared.nodes.Forced.{Forced}

-- a record with the edges that lie in itself, where its other edges are if they lie in a list, and whether its node was
-- killed
pub record Kept : Type 0 where
  pub node : Node ℕ ℕ
  pub place : Option ℕ
  pub is_killed : Bool

abbrev pub kept_code : Coded Kept
kept_code = code_by (Node ℕ ℕ × (Option ℕ × Bool)) (coded× node_code (coded× (coded_option coded_ℕ) coded_bool))
    (λ h. (h.node, (h.place, h.is_killed))) (λ p. record { node = p.0; place = p.1.0; is_killed = p.1.1 }) (λ _. refl)

-- a record with these edges
abbrev pub with_edges : List (Edge ℕ ℕ) → Known → Known
with_edges es n = record n { edges = es }

-- a record whose edges don't keep it from having this forced child
abbrev pub CanForce : Kept → Option Forced → Type 0
CanForce h forced = IfSome forced (λ f. (h.node.edges ≢ []) → h.node.edges ≡ edge_of f ∷ [])
