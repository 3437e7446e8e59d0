-- Maps that are not the canonical tree of the shop's rows.
use Rattle.std.proofs.Common.{◌≡◌, ℕ, Bool, true, false, Option, Some, None, List, [], ◌∷◌, refl, ap, ◌∙◌, true≢false, nat_cmp}
use Rattle.std.specs.Cmp.{nat_cmp_total}
use Rattle.std.specs.Option.{option_map}
use Rattle.std.specs.FinMap.{find, get, get-empty, get-from_entries}
use Rattle.cube_defs.specs.Cell.{Cell}
use Rattle.cube_defs.specs.Tree.{Node, Edge, cell_at, IsCanonical}
use Rattle.cube_examples.specs.Shop.{base}
use Rattle.cube_examples.specs.Codes.{shop_codes, code_cell, bare_root, entries, no_tree, doubled_table, altered_table}

root : Cell ℕ
root = code_cell None None None

pub lacks_nodes : IsCanonical nat_cmp 1 (base shop_codes) no_tree → ⊥
unfolding no_tree root
lacks_nodes w = go (w.all root refl)
  where
    go : (k : ℕ) × (cell_at no_tree k ≡ Some root) → ⊥
    go (k, e) = let none : get no_tree k ≡ None = get-empty nat_cmp k in cc

pub has_a_node_twice : IsCanonical nat_cmp 1 (base shop_codes) doubled_table → ⊥
unfolding doubled_table root
has_a_node_twice w = cc (w.once 0 11 root (there 0 refl) (there 11 refl))
  where
    there : (k : ℕ) → option_map (λ n. n.cell) (find nat_cmp k ((11, bare_root) ∷ entries)) ≡ Some root
        → cell_at doubled_table k ≡ Some root
    there k e = ap (option_map (λ n. n.cell)) (get-from_entries nat_cmp_total ((11, bare_root) ∷ entries) k) ∙ e

none_in : {S : Type 0} → List (Edge ℕ S) → Bool
none_in [] = true
none_in (e ∷ es) = false

lacks_edges : {S : Type 0} → Option (Node ℕ S) → Bool
lacks_edges None = false
lacks_edges (Some n) = none_in n.edges

pub has_a_wrong_record : IsCanonical nat_cmp 1 (base shop_codes) altered_table → ⊥
unfolding altered_table lacks_edges none_in
has_a_wrong_record w = true≢false
    (ap lacks_edges (w.each 0 bare_root (get-from_entries nat_cmp_total ((0, bare_root) ∷ entries) 0)).1)
