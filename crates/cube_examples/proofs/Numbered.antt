-- The table of the shop's rows, with a number for each node, is their canonical tree.
use Rattle.std.proofs.Common.{◌≡◌, ℕ, Bool, true, false, cond, Option, Some, None, List, [], ◌∷◌, refl, sym, ap, ◌∙◌, subst, nat_cmp}
use Rattle.std.specs.List.{AllByRecursion}
use Rattle.std.specs.Cmp.{nat_cmp_total}
use Rattle.std.specs.Option.{option_map}
use Rattle.std.specs.Ordering.{eq_by_cmp}
use Rattle.std.specs.FinMap.{nat_cmp-IsAntisymmetric, find, get-from_entries}
use Rattle.cube_defs.specs.Cell.{Cell}
use Rattle.cube_defs.specs.Rows.{is_node}
use Rattle.cube_defs.specs.Tree.{Node, node_of, nodes, renamed, cell_at, IsCanonical}
use Rattle.cube_laws.proofs.CallerLemmas.{equality_by, all_at, nodes-is}
use Rattle.cube_examples.specs.Shop.{base}
use Rattle.cube_examples.specs.Codes.{shop_codes, table, place_from, entries, numbered_table}

-- the node is one of the rows, and its record is right where the look-up gives the cells of its targets
abbrev IsRight : (ℕ → Option (Cell ℕ)) → Node ℕ ℕ → Type 0
IsRight look n = (is_node (eq_by_cmp nat_cmp) (base shop_codes) n.cell ≡ true)
    × (Some (renamed look n) ≡ option_map (renamed (λ c. Some c)) (node_of nat_cmp 1 (base shop_codes) n.cell))

each_is : AllByRecursion (λ e. IsRight (λ l. option_map (λ n. n.cell) (find nat_cmp l entries)) e.1) entries
each_is = (
  (refl, refl),
  (
    (refl, refl),
    (
      (refl, refl),
      (
        (refl, refl),
        (
          (refl, refl),
          ((refl, refl), ((refl, refl), ((refl, refl), ((refl, refl), ((refl, refl), ((refl, refl), tt)))))),
        ),
      ),
    ),
  ),
)

-- the number of a node, by its cell
own_place : AllByRecursion (λ e. place_from 0 table e.1.cell ≡ e.0) entries
own_place = (refl, (refl, (refl, (refl, (refl, (refl, (refl, (refl, (refl, (refl, (refl, tt)))))))))))

same_cell : (k : ℕ) → cell_at numbered_table k ≡ option_map (λ n. n.cell) (find nat_cmp k entries)
unfolding numbered_table
same_cell k = ap (option_map (λ n. n.cell)) (get-from_entries nat_cmp_total entries k)

-- what holds of each number and its node
find_at : {X : Type 0} (P : ℕ → X → Type 0) (k : ℕ) (x : X) (es : List (ℕ × X)) → AllByRecursion (λ e. P e.0 e.1) es
    → find nat_cmp k es ≡ Some x → P k x
find_at P k x [] h e = cc
find_at P k x (f ∷ es) h e = go (find_at P k x es h.1) (eq_by_cmp nat_cmp k f.0) refl e
  where
    go : (find nat_cmp k es ≡ Some x → P k x) → (b : Bool) → eq_by_cmp nat_cmp k f.0 ≡ b
        → cond b (Some f.1) (find nat_cmp k es) ≡ Some x → P k x
    go more true is q = subst (λ z. P z x) (sym ((equality_by nat_cmp_total nat_cmp-IsAntisymmetric).exact k f.0 is))
        (subst (P f.0) (cc) h.0)
    go more false is q = more q

number_is : (k : ℕ) (c : Cell ℕ) → cell_at numbered_table k ≡ Some c → place_from 0 table c ≡ k
number_is k c h = go (find nat_cmp k entries) refl (sym (same_cell k) ∙ h)
  where
    go : (o : Option (Node ℕ ℕ)) → find nat_cmp k entries ≡ o → option_map (λ n. n.cell) o ≡ Some c
        → place_from 0 table c ≡ k
    go None e q = cc
    go (Some n) e q = let is : n.cell ≡ c = cc in
        subst (λ x. place_from 0 table x ≡ k) is
        (find_at (λ l m. place_from 0 table m.cell ≡ l) k n entries own_place e)

-- each of the nodes has a number
all_numbered : AllByRecursion (λ c. cell_at numbered_table (place_from 0 table c) ≡ Some c)
    (nodes nat_cmp (base shop_codes))
all_numbered = (
  same_cell 0,
  (
    same_cell 1,
    (
      same_cell 2,
      (
        same_cell 3,
        (
          same_cell 4,
          (same_cell 5, (same_cell 6, (same_cell 7, (same_cell 8, (same_cell 9, (same_cell 10, tt)))))),
        ),
      ),
    ),
  ),
)

pub numbered_is_canonical : IsCanonical nat_cmp 1 (base shop_codes) numbered_table
unfolding numbered_table
numbered_is_canonical = record {
  each = λ k n h. find_at (λ l m. IsRight (cell_at numbered_table) m) k n entries
      (subst (λ f. AllByRecursion (λ e. IsRight f e.1) entries) (λ i l. sym (same_cell l) i) each_is)
      (sym (get-from_entries nat_cmp_total entries k) ∙ h);
  once = λ k l c h g. sym (number_is k c h) ∙ number_is l c g;
  all = λ c h. (
    place_from 0 table c,
    all_at (λ x. cell_at numbered_table (place_from 0 table x) ≡ Some x) c
        (nodes nat_cmp (base shop_codes)) all_numbered
        ((nodes-is nat_cmp_total nat_cmp-IsAntisymmetric 3 (base shop_codes) (refl, (refl, (refl, tt))) c).1 h),
  );
}
