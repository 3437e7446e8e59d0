-- A load begins without nodes, and its steps are within what it may cost.
use Rattle.std.proofs.Common.{◌≡◌, ◌∙◌, ℕ, ◌+◌, ◌*◌, ◌≤◌, Option, Some, None, List, [], ◌∷◌, length, map, false, nat_cmp}
use Rattle.std.proofs.Common.{refl, sym, ap, ap₂, subst, arith, true≢false}
use Rattle.std.specs.FinMap as finmap
use Rattle.std.specs.Cmp.{nat_cmp_total}
use Rattle.std.proofs.lemmas.List.Elements.{All-head, All-tail}
use Rattle.std.proofs.lemmas.Nat.{mul-le}
use Rattle.std.proofs.Math.Nat.{add-mul}
use Rattle.csv_load.specs.Batch.{AreInsertions, Change, Delete, Insert, deleted, is_deletion}
use Rattle.cube_defs.specs.Rows.{Row}
use Rattle.cube_defs.specs.Text.{Text}
use Rattle.cube_defs.specs.Tree.{IsCanonical, Tree}
use Rattle.measure_index.specs.Rankings.{Ranking}
use Rattle.qc_arena.specs.Map.{Known, edges_in}
use Rattle.qc_schema.specs.Schema.{Layout}
use Rattle.value_dict.specs.Decoded.{decoded_row}
use Rattle.warehouse.specs.Changing.{AreParts, contents_of, state_in}
use Rattle.warehouse.specs.Loading.{cost_of_load, cost_of_tree}
use Rattle.warehouse.specs.declared.cube.Cube.{Cube}
use Rattle.warehouse.proofs.Sizes.{tree-sized}
use Rattle.warehouse.proofs.Trees.{is-held}

-- a tree of no rows has no nodes
pub tree-none : (measures : ℕ) (rows : List (Row ℕ)) (tree : Tree ℕ) → rows ≡ []
    → IsCanonical nat_cmp measures rows tree → tree ≡ finmap.empty
tree-none measures rows tree none canonical =
    finmap.same_map nat_cmp_total finmap.nat_cmp-IsAntisymmetric tree finmap.empty
    (λ k. go k (finmap.get tree k) refl ∙ sym (finmap.get-empty nat_cmp k))
  where
    is : IsCanonical nat_cmp measures [] tree
    is = subst (λ (rs : List (Row ℕ)). IsCanonical nat_cmp measures rs tree) none canonical

    go : (k : ℕ) (o : Option Known) → finmap.get tree k ≡ o → finmap.get tree k ≡ None
    go k None e = e
    go k (Some n) e = absurd (true≢false (sym (is.each k n e).0))

-- codes of no rows are none
pub rows-none : (lists : List (List Text)) (rows : List (Row ℕ)) → map (decoded_row lists) rows ≡ [] → rows ≡ []
rows-none lists [] e = refl
rows-none lists (row ∷ rows) e = cc

-- insertions delete nothing
pub none-deleted : (changes : List (Change Text)) → AreInsertions changes → deleted changes ≡ []
none-deleted [] h = refl
none-deleted (Delete id ∷ changes) h
    = absurd (true≢false (All-head (λ change. is_deletion change ≡ false) (Delete id) changes h))
none-deleted (Insert row ∷ changes) h
    = none-deleted changes (All-tail (λ change. is_deletion change ≡ false) (Insert row) changes h)

twice-within : (d n e s from to : ℕ) → 1 ≤ d → n + e + 1 ≡ s → to ≤ from + ((d + 1) * (n + e + 1) + 2 * n)
    → to ≤ from + 2 * (d + 1) * s
twice-within d n e s from to some size within =
    let two = mul-le 2 (n + e + 1) (d + 1) (n + e + 1) (omega (arith, some)) (omega arith) in
    let both : 2 * (d + 1) ≡ (d + 1) + (d + 1) = omega arith in
    let twice : 2 * (d + 1) * s ≡ (d + 1) * (n + e + 1) + (d + 1) * (n + e + 1)
    = ap₂ (λ a b. a * b) both (sym size) ∙ add-mul (d + 1) (d + 1) (n + e + 1) in
    omega (arith, within, two, twice)

-- a tree that is built from no nodes, and its index, are within what a load may cost
pub load-within : (schema : Layout) (cube : Cube) (index : List Ranking) → AreParts schema cube index → (from to : ℕ)
    → to ≤ from + cost_of_tree (length schema.dims) cube.tree.now → to ≤ from + cost_of_load (state_in schema cube)
load-within schema cube index parts from to within =
    let tree = cube.tree.now in
    let sized = tree-sized (contents_of schema cube index) (is-held schema cube index parts) in
    twice-within (length schema.dims) (finmap.len tree) (edges_in tree) _ from to parts.stored.layout.some_dims
    (ap (λ n. n + 1) sized) within
