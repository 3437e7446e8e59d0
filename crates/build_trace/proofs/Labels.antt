-- The labels of a node's record in a dimension are those of the walk.
use Rattle.std.proofs.Common.{◌≡◌, ℕ, zero, suc, ◌<◌, true, Option, Some, None, List, [], ◌∷◌, map, filter, filter_map, length, nat_eq}
use Rattle.std.proofs.Common.{nat_cmp, slice_get, slice_index_or, refl, sym, ap, ap₂, subst, ◌∙◌, arith, eqb-true, eq-eqb}
use Rattle.std.specs.Option.{option_map}
use Rattle.std.specs.List.{AllByRecursion, cons_option}
use Rattle.std.proofs.lemmas.Bool.{and_parts, and_from}
use Rattle.cube_defs.specs.Cell.{Cell, leq, entry_leq, cell_prefix, upto, with_value, cell_of}
use Rattle.cube_defs.specs.Rows.{Row, covers, cov, closure, meet_all}
use Rattle.cube_defs.specs.Tree.{Edge, distinct, edges_in}
use Rattle.cube_laws.specs.Lists.{Among}
use Rattle.cube_laws.specs.Tuples.{cells_of}
use Rattle.cube_laws.proofs.CallerLemmas.{nat_equality, leq_trans, leq_refl, all_map, all_from, HaveDims, entry, one_test}
use Rattle.cube_laws.specs.Parting.{code_in, shared_by, part_at, codes_in}
use Rattle.build_trace.proofs.Prefixes.{covers_code}
use Rattle.build_trace.proofs.Parting.{has_code, dims_filter, shared_among, code_among}
use Rattle.build_trace.proofs.Links.{filter_pair, long}

-- the label of the walk
abbrev pub label : ℕ → List (Row ℕ) → ℕ → Edge ℕ (Cell ℕ)
label k rows v = record { dim = k; value = v; target = cell_prefix (suc k) (shared_by (part_at k rows v)) }

set_entry : (k v : ℕ) (c : Cell ℕ) → k < length c → entry (with_value c k v) k ≡ Some v
set_entry k v [] h = absurd (omega arith)
set_entry zero v (x ∷ c) h = refl
set_entry (suc k) v (x ∷ c) h = set_entry k v c (omega arith)

set_above : (k v : ℕ) (c : Cell ℕ) → entry c k ≡ None → leq nat_eq c (with_value c k v) ≡ true
set_above k v [] e = refl
set_above zero v (None ∷ c) e = leq_refl nat_equality c
set_above zero v (Some x ∷ c) e = cc
set_above (suc k) v (x ∷ c) e
    = and_from _ _ (and_parts (entry_leq nat_eq x x) (leq nat_eq c c) (leq_refl nat_equality (x ∷ c))).0
    (set_above k v c e)

set_covers : (k v : ℕ) (c : Cell ℕ) (t : List ℕ) → leq nat_eq c (cell_of t) ≡ true → slice_index_or t k 0 ≡ v
    → k < length t → leq nat_eq (with_value c k v) (cell_of t) ≡ true
set_covers k v [] t l e h = refl
set_covers k v (x ∷ c) [] l e h = absurd (omega arith)
set_covers zero v (x ∷ c) (y ∷ t) l e h
    = and_from _ _ (eq-eqb v y (sym e)) (and_parts (entry_leq nat_eq x (Some y)) (leq nat_eq c (cell_of t)) l).1
set_covers (suc k) v (x ∷ c) (y ∷ t) l e h = let p
    = and_parts (entry_leq nat_eq x (Some y)) (leq nat_eq c (cell_of t)) l in
    and_from _ _ p.0 (set_covers k v c t p.1 e (omega arith))

codes_got : (k n : ℕ) (rows : List (Row ℕ)) → HaveDims n rows → k < n
    → filter_map (λ row. slice_get row.tuple k) rows ≡ map (code_in k) rows
codes_got k n [] h l = refl
codes_got k n (r ∷ rows) h l
    = ap₂ cons_option (got k r.tuple (subst (λ m. k < m) (sym h.0) l)) (codes_got k n rows h.1 l)
  where
    got : (k : ℕ) (t : List ℕ) → k < length t → slice_get t k ≡ Some (slice_index_or t k 0)
    got k [] h = absurd (omega arith)
    got zero (x ∷ t) h = refl
    got (suc k) (x ∷ t) h = got k t (omega arith)

filter_map_some : {X Y : Type 0} (f : X → Option Y) (g : X → Y) (xs : List X)
    → AllByRecursion (λ x. f x ≡ Some (g x)) xs → filter_map f xs ≡ map g xs
filter_map_some f g [] h = refl
filter_map_some f g (x ∷ xs) h = ap₂ cons_option h.0 (filter_map_some f g xs h.1)

-- for a node p with no value from k on, whose covered rows are known
pub labels_are : (n k : ℕ) (table rows : List (Row ℕ)) (p : Cell ℕ) → HaveDims n table → length p ≡ n → k < n
    → entry p k ≡ None → cov nat_eq table p ≡ rows
    → edges_in nat_cmp table p k ≡ map (label k rows) (codes_in k rows)
labels_are n k table rows p long len lt none whole =
    ap (λ eq. filter_map (λ v. option_map (λ u. record { dim = k; value = v; target = upto u k })
    (closure eq table (with_value p k v)))
    (distinct nat_cmp (filter_map (λ row. slice_get row.tuple k) (cov eq table p)))) one_test
    ∙ ap (λ rs. filter_map (λ v. option_map (λ u. record { dim = k; value = v; target = upto u k })
    (closure nat_eq table (with_value p k v))) (distinct nat_cmp (filter_map (λ row. slice_get row.tuple k) rs)))
    whole
    ∙ ap (λ vs. filter_map (λ v. option_map (λ u. record { dim = k; value = v; target = upto u k })
    (closure nat_eq table (with_value p k v))) (distinct nat_cmp vs)) (codes_got k n rows rows_long lt)
    ∙ filter_map_some (λ v. option_map (λ u. record { dim = k; value = v; target = upto u k })
    (closure nat_eq table (with_value p k v))) (label k rows) (codes_in k rows) (all_from _ (codes_in k rows) each)
  where
    rows_long : HaveDims n rows
    rows_long = subst (HaveDims n) whole (dims_filter n (covers nat_eq p) table long)

    covered : (v : ℕ) → cov nat_eq table (with_value p k v) ≡ part_at k rows v
    covered v =
        filter_pair (covers nat_eq (with_value p k v)) (covers nat_eq p) (has_code k v) table
        (λ r h. (
          leq_trans nat_equality p (with_value p k v) (cell_of r.tuple) (set_above k v p none) h,
          eq-eqb (code_in k r) v (covers_code k v (with_value p k v) r.tuple h (set_entry k v p (omega arith))),
        ))
        (all_map (λ (r : Row ℕ). length r.tuple ≡ n) _ table
        (λ r l g h. set_covers k v p r.tuple g (eqb-true (code_in k r) v h) (omega arith)) long)
        ∙ ap (filter (has_code k v)) whole

    each : (v : ℕ) → Among v (codes_in k rows)
        → option_map (λ u. record { dim = k; value = v; target = upto u k }) (closure nat_eq table (with_value p k v))
        ≡ Some (label k rows v)
    each v a =
        let r : (r : Row ℕ) × Among r (part_at k rows v) = code_among k v rows a in
        ap (option_map (λ u. record { dim = k; value = v; target = upto u k }))
        (ap (λ rs. meet_all nat_eq (cells_of rs)) (covered v) ∙ shared_among (part_at k rows v) r.0 r.1)
