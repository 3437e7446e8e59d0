-- The acts for all rows, from an arena without nodes to the canonical tree.
use Rattle.std.proofs.Common.{◌≡◌, ℕ, ◌-◌, ◌<◌, ◌≤◌, true, Some, None, List, [], ◌∷◌, length, replicate, nat_cmp}
use Rattle.std.proofs.Common.{append-nil, length-append, refl, sym, ap, ap₂, subst, ◌∙◌, arith, is_some, true≢false}
use Rattle.std.specs.FinMap as map
use Rattle.std.specs.Option.{option_map}
use Rattle.cube_defs.specs.Cell.{Cell, cell_prefix}
use Rattle.cube_defs.specs.Rows.{Row}
use Rattle.cube_defs.specs.Tree.{IsCanonical, Node, Tree, cell_at, nodes}
use Rattle.cube_laws.specs.Lists.{Reordered}
use Rattle.cube_laws.specs.Tuples.{TuplesAmong}
use Rattle.cube_laws.proofs.CallerLemmas.{among-reordered, cell_prefix_zero, all_map, HaveDims, length-shared, shared_some}
use Rattle.cube_defs.specs.declared.limits.TheConstants.{MAX_ROWS}
use Rattle.base_table.specs.Places.{IsRow, IsTable, Places, named, rows_of}
use Rattle.base_table.specs.declared.table.RowNo.{RowNo}
use Rattle.cube_laws.specs.Parting.{shared_by}
use Rattle.cell_closure.proofs.CallerLemmas.{There, length-named, all_recursion}
use Rattle.qc_arena.specs.Map.{Arena, is_open}
use Rattle.build_trace.specs.Trace.{Act, Act.{Add}, acts, trace, adds_of}
use Rattle.build_trace.specs.Follows.{Follows}
use Rattle.build_trace.proofs.CallerLemmas.{follow_none, none_canonical, followed, adds_count}
use Rattle.class_builder.specs.Building.{IsBuilding, ActsComeNext, PerformsActs}
use Rattle.class_builder.specs.Walk.{IsOnPath, acts_from, node_on}
use Rattle.class_builder.specs.declared.path.Path.{Path}

pub no_node : (tree : Tree ℕ) → tree ≡ map.empty → (k : ℕ) → map.get tree k ≡ None
no_node tree e k = ap (λ t. map.get t k) e ∙ map.get-empty nat_cmp k

pub no_cell : (tree : Tree ℕ) (c : Cell ℕ) → tree ≡ map.empty → (k : ℕ) → cell_at tree k ≡ Some c → ⊥
no_cell tree c e k h = true≢false (sym (ap is_some (sym (ap (option_map (λ n. n.cell)) (no_node tree e k)) ∙ h)))

pub rows_long : (t : Places) → IsTable t → HaveDims t.dims (rows_of t)
rows_long t valid = all_map (IsRow t.dims t.measures) (λ row. length row.tuple ≡ t.dims) (rows_of t)
    (λ row is. is.tuple) (all_recursion (IsRow t.dims t.measures) (rows_of t) valid.rows.each)

pub rows_few : (t : Places) → IsTable t → (nos : List RowNo) → There t nos → named t nos ≡ rows_of t
    → length nos ≤ MAX_ROWS
rows_few t valid nos there all =
    let few : length (rows_of t) ≤ t.max = valid.rows.few in
    let most : t.max ≤ 1000000 = valid.few_rows in
    let e : length nos ≡ length (rows_of t) = sym (length-named t nos there) ∙ ap length all in
    let all_few : length nos ≤ 1000000 = omega arith in
    all_few

-- nothing is done yet
pub going_none : (measures : ℕ) (rows : List (Row ℕ)) (a : Arena) → HaveDims a.width rows → 0 < length rows
    → is_open a ≡ true → a.now ≡ map.empty → IsBuilding measures rows [] (trace measures a.width rows) a
going_none measures rows a long some opened none = record {
  wide = long;
  some = some;
  whole = refl;
  opened = opened;
  follows = follow_none (λ k. map.get a.now k) (no_node a.now none);
  count = ap map.len none ∙ map.len-empty nat_cmp (Node ℕ ℕ);
  touched = λ k h. absurd (true≢false (sym h ∙ ap is_some (no_node a.now none k)));
}

-- the root comes first
pub root_going : (t : Places) (nos : List RowNo) (a : Arena) → There t nos → named t nos ≡ rows_of t → IsTable t
    → 0 < length nos → a.width ≡ t.dims → is_open a ≡ true → a.now ≡ map.empty
    → IsBuilding t.measures (rows_of t) [] (Add (replicate a.width None) ∷ acts_from t 0 (named t nos)) a
root_going t nos a there all valid some width opened none =
    let n : t.dims - 0 ≡ t.dims = omega arith in
    let s : 0 < length (rows_of t) = subst (λ m. 0 < m) (sym (length-named t nos there) ∙ ap length all) some in
    let long : HaveDims a.width (rows_of t) = subst (λ w. HaveDims w (rows_of t)) (sym width) (rows_long t valid) in
    let front : cell_prefix 0 (shared_by (rows_of t)) ≡ replicate a.width None
    = cell_prefix_zero (shared_by (rows_of t))
    ∙ ap (λ m. replicate m None)
    (length-shared a.width (rows_of t) (shared_by (rows_of t)) long (shared_some (rows_of t) s)) in
    subst (λ es. IsBuilding t.measures (rows_of t) [] es a)
    (ap₂ (λ c es. Add c ∷ es) front (ap (λ m. acts t.measures m 0 (rows_of t)) (width ∙ sym n)
    ∙ ap (λ rs. acts_from t 0 rs) (sym all)))
    (going_none t.measures (rows_of t) a long s opened none)

pub first_next : (measures : ℕ) (rows : List (Row ℕ)) (es : List Act) (a : Arena) → IsBuilding measures rows [] es a
    → ActsComeNext measures rows es a
first_next measures rows es a g
    = record { done = []; rest = []; going = subst (λ xs. IsBuilding measures rows [] xs a) (sym (append-nil es)) g }

pub root_path : (a : Arena) (path : Path) (c : Cell ℕ) (n : ℕ) → length c ≡ n
    → cell_at a.now (node_on path 0) ≡ Some (replicate n None) → IsOnPath a path c 0
root_path a path c n l h = record {
  each = λ j m. let e : j ≡ 0 = omega arith in
      subst (λ x. cell_at a.now (node_on path x) ≡ Some (cell_prefix x c)) (sym e) (h
      ∙ ap (λ x. Some (replicate x None)) (sym l) ∙ ap (λ d. Some d) (sym (cell_prefix_zero c)));
}

-- all is done
module _ (measures : ℕ) (rows : List (Row ℕ)) (es : List Act) (a b : Arena) (going : IsBuilding measures rows [] es a)
    (does : PerformsActs measures rows es a b) where
  pub all_done : IsBuilding measures rows es [] b
  all_done = does.acts [] [] (subst (λ xs. IsBuilding measures rows [] xs a) (sym (append-nil es)) going)

  done_is : trace measures b.width rows ≡ es
  done_is = all_done.whole ∙ append-nil es

  pub tree_built : IsCanonical nat_cmp measures rows b.now
  tree_built = followed measures b.width rows all_done.wide (shared_some rows all_done.some) b.now
      (subst (λ ds. Follows ds (λ k. map.get b.now k)) (sym done_is) all_done.follows)

  pub nodes_counted : map.len b.now ≡ length (nodes nat_cmp rows)
  nodes_counted = all_done.count ∙ ap (λ ds. length (adds_of ds)) (sym done_is)
      ∙ adds_count measures b.width rows all_done.wide (shared_some rows all_done.some)

-- no rows
pub none_built : (measures : ℕ) (rows : List (Row ℕ)) (tree : Tree ℕ) → length rows ≡ 0 → tree ≡ map.empty
    → IsCanonical nat_cmp measures rows tree
none_built measures [] tree h e = none_canonical measures tree (no_node tree e)
none_built measures (r ∷ rows) tree h e = absurd (omega arith)

-- rows in another order are no fewer
pub some_left : (rows more : List (Row ℕ)) → Reordered rows more → 0 < length rows → 0 < length more
some_left [] more h l = absurd (omega arith)
some_left (r ∷ rows) more (front, back, e, rest) l
    = subst (λ rs. 0 < length rs) (sym e) (omega (arith, length-append front (r ∷ back)))

module _ (rows more : List (Row ℕ)) (h : Reordered rows more) where
  pub tuples_there : TuplesAmong rows more
  tuples_there r m = (r, (among-reordered rows more h r).1 m, refl)

  pub tuples_back : TuplesAmong more rows
  tuples_back r m = (r, (among-reordered rows more h r).0 m, refl)
