-- The rows with a code, and what they share.
use Rattle.std.proofs.Common.{◌≡◌, ℕ, zero, suc, ◌<◌, Bool, true, Some, List, [], ◌∷◌, ◌==◌, map, filter, length, nat_eq, slice_index_or}
use Rattle.std.proofs.Common.{slice_get, refl, sym, ap, subst, ◌∙◌, arith, eqb-true, eq-eqb}
use Rattle.std.specs.List.{AllByRecursion}
use Rattle.cube_defs.specs.Cell.{Cell, leq, cell_of}
use Rattle.cube_defs.specs.Rows.{Row, covers, cov, closure, meet_all}
use Rattle.cube_laws.specs.Lists.{Among}
use Rattle.cube_laws.specs.Tuples.{cells_of}
use Rattle.cube_laws.proofs.CallerLemmas.{all_map, to_filter, filter_filter, filter_all, map_among, among_map, among_filter, among_distinct}
use Rattle.cube_laws.proofs.CallerLemmas.{rises_distinct, nat_equality, leq_trans, all_cells, closure-cells, meet_all_above, meet_all_below}
use Rattle.cube_laws.proofs.CallerLemmas.{closure-entry, nat_total, nat_anti, IsShared, HaveDims, entry, got_entry, shared_covers}
use Rattle.tree_laws.proofs.CallerLemmas.{EachOnce, rises_once}
use Rattle.cube_laws.specs.Parting.{code_in, shared_by, part_at, codes_in}
use Rattle.build_trace.proofs.Prefixes.{covers_code}

abbrev pub has_code : ℕ → ℕ → Row ℕ → Bool
has_code k v row = code_in k row == v

below : (rows : List (Row ℕ)) (u : Cell ℕ) → IsShared rows u
    → AllByRecursion (λ d. leq nat_eq u d ≡ true) (cells_of rows)
below rows u e = meet_all_below nat_equality (cells_of rows) u e

pub dims_filter : (n : ℕ) (p : Row ℕ → Bool) (rows : List (Row ℕ)) → HaveDims n rows → HaveDims n (filter p rows)
dims_filter n p rows h = to_filter (λ row. length row.tuple ≡ n) p rows (all_map _ _ rows (λ r e _. e) h)

pub cov-part : (k v : ℕ) (rows : List (Row ℕ)) (w : Cell ℕ) → entry w k ≡ Some v
    → cov nat_eq (part_at k rows v) w ≡ cov nat_eq rows w
cov-part k v rows w e =
    filter_filter (covers nat_eq w) (has_code k v) rows (λ r h. eq-eqb (code_in k r) v (covers_code k v w r.tuple h e))

pub closure-part : (k v : ℕ) (rows : List (Row ℕ)) (w : Cell ℕ) → entry w k ≡ Some v
    → closure nat_eq (part_at k rows v) w ≡ closure nat_eq rows w
closure-part k v rows w e = ap (λ covered. meet_all nat_eq (cells_of covered)) (cov-part k v rows w e)

get_code : (n k : ℕ) (t : List ℕ) (v : ℕ) → length t ≡ n → k < n → slice_index_or t k 0 ≡ v → slice_get t k ≡ Some v
get_code n k [] v l h e = absurd (omega arith)
get_code n zero (x ∷ t) v l h e = ap (λ y. Some y) e
get_code n (suc k) (x ∷ t) v l h e = get_code (length t) k t v refl (omega arith) e

-- a closure in a part has the part's code
pub part_entry : (n k v : ℕ) (rows : List (Row ℕ)) (c u : Cell ℕ) → HaveDims n rows → k < n
    → closure nat_eq (part_at k rows v) c ≡ Some u → entry u k ≡ Some v
part_entry n k v rows c u d h e =
    got_entry u k v ((closure-entry nat_equality (part_at k rows v) c u k v e).1
    (to_filter (λ (r : Row ℕ). slice_get r.tuple k ≡ Some v) (covers nat_eq c) (part_at k rows v)
    (all_map (λ (r : Row ℕ). slice_get r.tuple k ≡ Some v) _ (part_at k rows v) (λ r g _. g)
    (to_filter (λ (r : Row ℕ). slice_get r.tuple k ≡ Some v) (has_code k v) rows
    (all_map (λ (r : Row ℕ). length r.tuple ≡ n) _ rows
    (λ r l t. get_code n k r.tuple v l h (eqb-true (code_in k r) v t)) d)))))

-- what the rows share generalizes what some of them share
pub shared_below : (rows : List (Row ℕ)) (u c w : Cell ℕ) → IsShared rows u → closure nat_eq rows c ≡ Some w
    → leq nat_eq u w ≡ true
shared_below rows u c w e f =
    meet_all_above nat_equality u _ w
    (to_filter (λ d. leq nat_eq u d ≡ true) (leq nat_eq c) (cells_of rows)
    (all_map (λ d. leq nat_eq u d ≡ true) _ (cells_of rows) (λ d g _. g) (below rows u e)))
    (sym (closure-cells nat_eq rows c) ∙ f)

pub shared_part : (k v : ℕ) (rows : List (Row ℕ)) (u w : Cell ℕ) → IsShared rows u → IsShared (part_at k rows v) w
    → leq nat_eq u w ≡ true
shared_part k v rows u w e f =
    meet_all_above nat_equality u _ w
    ((all_cells (λ d. leq nat_eq u d ≡ true) (part_at k rows v)).1
    (to_filter (λ r. covers nat_eq u r ≡ true) (has_code k v) rows
    (all_map (λ r. covers nat_eq u r ≡ true) _ rows (λ r g _. g) (shared_covers rows u e)))) f

pub closure_low : (rows : List (Row ℕ)) (u p : Cell ℕ) → IsShared rows u → leq nat_eq p u ≡ true
    → closure nat_eq rows p ≡ Some u
closure_low rows u p e l =
    ap (λ covered. meet_all nat_eq (cells_of covered))
    (filter_all (covers nat_eq p) rows (all_map (λ r. covers nat_eq u r ≡ true) (λ r. covers nat_eq p r ≡ true) rows
    (λ r g. leq_trans nat_equality p u (cell_of r.tuple) l g) (shared_covers rows u e))) ∙ e

pub shared_among : (rows : List (Row ℕ)) (r : Row ℕ) → Among r rows → IsShared rows (shared_by rows)
shared_among [] r h = absurd h
shared_among (x ∷ rows) r h = refl

-- the codes of some rows in a dimension, each once
pub among_codes : (k v : ℕ) (rows : List (Row ℕ)) (r : Row ℕ) → Among r rows → code_in k r ≡ v
    → Among v (codes_in k rows)
among_codes k v rows r h e
    = subst (λ x. Among x (codes_in k rows)) e
    ((among_distinct nat_total nat_anti (code_in k r) (map (code_in k) rows)).1 (map_among (code_in k) r rows h))

pub code_among : (k v : ℕ) (rows : List (Row ℕ)) → Among v (codes_in k rows) → (r : Row ℕ) × Among r (part_at k rows v)
code_among k v rows h =
    let r : (r : Row ℕ) × Among r rows × (v ≡ code_in k r)
    = among_map (code_in k) v rows ((among_distinct nat_total nat_anti v (map (code_in k) rows)).0 h) in
    (r.0, among_filter (has_code k v) r.0 rows r.1 (eq-eqb (code_in k r.0) v (sym r.2)))

pub once_codes : (k : ℕ) (rows : List (Row ℕ)) → EachOnce (codes_in k rows)
once_codes k rows = rises_once nat_total nat_anti _ (rises_distinct nat_total nat_anti (map (code_in k) rows))
