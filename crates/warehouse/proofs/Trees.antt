-- The tree that is kept beside the rows.
use Rattle.std.proofs.Common.{◌≡◌, ◌∙◌, ◌≤◌, ℕ, List, [], false, None, Some, arith, length, true≢false, refl, sym, ap, subst}
use Rattle.std.specs.FinMap as finmap
use Rattle.std.specs.Ordering.{nat_cmp}
use Rattle.std.specs.Prelude.{option_map}
use Rattle.std.specs.List.{AllByRecursion}
use Rattle.cube_defs.specs.Rows.{Row}
use Rattle.cube_defs.specs.Tree.{IsCanonical, Node, Tree, nodes}
use Rattle.base_table.specs.Places.{IsRow, IsTable, Places, rows_of}
use Rattle.cell_closure.proofs.CallerLemmas.{all_recursion}
use Rattle.cube_laws.proofs.CallerLemmas.{all_map}
use Rattle.measure_index.specs.Rankings.{Ranking}
use Rattle.qc_arena.specs.Codes.{Shape}
use Rattle.qc_arena.specs.Map.{Arena, is_open, no_nodes, shape_of}
use Rattle.qc_schema.specs.Schema.{Layout}
use Rattle.tree_search.specs.Found.{IsTreeOf}
use Rattle.warehouse.specs.Changing.{AreParts, contents_of}
use Rattle.warehouse.specs.State.{AreContents}
use Rattle.warehouse.specs.Stored.{IsTreeOfTable}
use Rattle.warehouse.specs.declared.cube.Cube.{Cube}
use Rattle.warehouse.proofs.Decoding.{rows-back}
use Rattle.warehouse.proofs.States.{is-state, no_rows}
use Rattle.tree_laws.proofs.CallerLemmas.{some_same}

-- a tree without nodes is that of no rows
none-from : (dims measures : ℕ) → IsTreeOf dims finmap.empty (record { measures = measures; rows = [] })
none-from dims measures = record {
  wide = tt;
  canonical = record {
    each = λ k n h. let bad : None ≡ Some n = sym (finmap.get-empty nat_cmp k) ∙ h in cc;
    once = λ k l c h g. let bad : None ≡ Some c
        = sym (ap (option_map (λ (n : Node ℕ ℕ). n.cell)) (finmap.get-empty nat_cmp k)) ∙ h in cc;
    all = λ c h. absurd (true≢false (sym h));
  };
}

-- each row of a table has a code in each dimension
pub rows-wide : (table : Places) → IsTable table
    → AllByRecursion (λ (row : Row ℕ). length row.tuple ≡ table.dims) (rows_of table)
rows-wide table is = all_map (IsRow table.dims table.measures) (λ row. length row.tuple ≡ table.dims) (rows_of table)
    (λ row is. is.tuple) (all_recursion (IsRow table.dims table.measures) (rows_of table) is.rows.each)

pub kept-empty : (schema : Layout)
    → IsTreeOfTable schema (no_rows (length schema.dims) (length schema.measures) schema.rows)
    (no_nodes (length schema.dims) schema.nodes)
kept-empty schema = record {
  closed = refl;
  width = refl;
  max = refl;
  few = let none : 0 ≤ schema.nodes = omega arith in
      none;
  from = none-from (length schema.dims) (length schema.measures);
}

-- a canonical tree of the table's rows is a tree of rows that fit the schema
pub tree-from : (schema : Layout) (table : Places) (tree : Tree ℕ) → IsTable table → table.dims ≡ length schema.dims
    → table.measures ≡ length schema.measures → IsCanonical nat_cmp table.measures (rows_of table) tree
    → IsTreeOf (length schema.dims) tree (record { measures = length schema.measures; rows = rows_of table })
tree-from schema table tree is dims measures canonical = record {
  wide = subst (λ (n : ℕ). AllByRecursion (λ (row : Row ℕ). length row.tuple ≡ n) (rows_of table)) dims
      (rows-wide table is);
  canonical = subst (λ (n : ℕ). IsCanonical nat_cmp n (rows_of table) tree) measures canonical;
}

pub kept-canonical : (schema : Layout) (table : Places) (tree : Arena) → IsTable table → table.dims ≡ length schema.dims
    → table.measures ≡ length schema.measures
    → is_open tree ≡ false → tree.width ≡ length schema.dims → tree.max ≡ schema.nodes
    → length (nodes nat_cmp (rows_of table)) ≤ schema.nodes
    → IsCanonical nat_cmp table.measures (rows_of table) tree.now → IsTreeOfTable schema table tree
kept-canonical schema table tree is dims measures closed width max few canonical = record {
  closed = closed;
  width = width;
  max = max;
  few = few;
  from = tree-from schema table tree.now is dims measures canonical;
}

-- the rows and the tree are those of before
pub kept-back : (schema : Layout) (table table' : Places) (tree tree' : Arena) → IsTreeOfTable schema table tree
    → Some (rows_of table') ≡ Some (rows_of table) → Some (shape_of tree') ≡ Some (shape_of tree)
    → is_open tree' ≡ false → tree'.max ≡ tree.max → IsTreeOfTable schema table' tree'
kept-back schema table table' tree tree' is same back closed max =
    let rows : rows_of table' ≡ rows_of table = some_same same in
    let shape : shape_of tree' ≡ shape_of tree = some_same back in
    record {
      closed = closed;
      width = ap (λ (s : Shape). s.width) shape ∙ is.width;
      max = max ∙ is.max;
      few = subst (λ (rs : List (Row ℕ)). length (nodes nat_cmp rs) ≤ schema.nodes) (sym rows) is.few;
      from =
          subst (λ (t : Tree ℕ). IsTreeOf (length schema.dims) t
          (record { measures = length schema.measures; rows = rows_of table' }))
          (sym (ap (λ (s : Shape). s.tree) shape))
          (subst (λ (rs : List (Row ℕ)). IsTreeOf (length schema.dims) tree.now
          (record { measures = length schema.measures; rows = rs })) (sym rows) is.from);
    }

pub is-held : (schema : Layout) (cube : Cube) (index : List Ranking) → AreParts schema cube index
    → AreContents (contents_of schema cube index)
is-held schema cube index parts = record {
  state = is-state schema cube.dict cube.table parts.stored parts.kept.few;
  tree =
      subst (λ (rows : List (Row ℕ)). IsTreeOf (length schema.dims) cube.tree.now
      (record { measures = length schema.measures; rows = rows }))
      (sym (rows-back cube.dict.lists (rows_of cube.table) parts.stored.known parts.stored.dictionary.distinct))
      parts.kept.from;
  index = parts.indexed;
}
