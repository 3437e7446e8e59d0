-- The records of the nodes of rows with one value more.
use Rattle.std.proofs.Common.{◌≡◌, ℕ, zero, suc, ◌+◌, ◌-◌, ◌<◌, ◌≤◌, Bool, true, false, cond, List, [], ◌∷◌, ◌++◌, Option, Some, None}
use Rattle.std.proofs.Common.{IfSome, length, map, filter_map, flat_map, slice_get, is_some, refl, ap, ap₂, sym, ◌∙◌, subst, arith}
use Rattle.std.proofs.Common.{length-append, pos, true≢false, inl, inr}
use Rattle.std.specs.List.{cons_option, range_with_len}
use Rattle.std.specs.Option.{option_and_then, option_map}
use Rattle.std.specs.Cmp.{IsTotalOrder}
use Rattle.std.specs.FinMap.{IsAntisymmetric}
use Rattle.std.specs.Ordering.{eq_by_cmp}
use Rattle.std.specs.declared.cmp.Ordering.{Ordering}
use Rattle.std.specs.Prelude.{◌&&◌, ◌==◌, if◌then◌else◌, slice_index_or}
use Rattle.std.proofs.lemmas.Bool.{cases_lt}
use Rattle.std.proofs.lemmas.Bool.Decides.{nat_tests}
use Rattle.std.proofs.lemmas.List.{append-nil, length-map, length-set, map-append}
use Rattle.cube_defs.specs.Cell.{Cell, cell_eq, cell_prefix, depth, depth_with, upto, with_value}
use Rattle.cube_defs.specs.Rows.{Agg, Row, agg, agg_of, amounts_of, closure, cov, part_of}
use Rattle.cube_defs.specs.Tree.{Edge, Node, as_list, parent_cell_of, distinct, edges_in, forced_child, next_value, node_of, node_with}
use Rattle.cube_defs.specs.Tree.{renamed_edge, values_at}
use Rattle.cube_laws.proofs.CallerLemmas.{IsEquality, cell_eq-exact, cell_eq-from, cell_eq-same, depth-le, equality_by}
use Rattle.tree_laws.proofs.CallerLemmas.{cell_prefix-next, next-entry, next-ge, next-le, next-none, next-suc}
use Rattle.widen_laws.specs.Widened.{all_longer, and_any, and_value, child_of, edge_to_value, with_forced_value, with_any, longer, widened}
use Rattle.widen_laws.proofs.LongerCells.{cell_eq-longer, depth-any_after, depth-value_after, prefix-any, prefix_whole, value-before}
use Rattle.widen_laws.proofs.LongerCells.{value_after}
use Rattle.widen_laws.proofs.LongerRows.{HaveWidth, closure-longer, closure_wide, cov-longer, cov_wide}

not_zero : (n : ℕ) → (suc n == 0) ≡ false
not_zero n = grind (arith, nat_tests)

-- an entry that is there, one more, and none
pub get-before : {X : Type 0} (xs : List X) (i : ℕ) (x : X) → i < length xs
    → slice_get (xs ++ x ∷ []) i ≡ slice_get xs i
get-before [] i x h = absurd (omega arith)
get-before (y ∷ xs) zero x h = refl
get-before (y ∷ xs) (suc i) x h = get-before xs i x (omega arith)

get_after : {X : Type 0} (xs : List X) (x : X) → slice_get (xs ++ x ∷ []) (length xs) ≡ Some x
get_after [] x = refl
get_after (y ∷ xs) x = get_after xs x

get_past : {X : Type 0} (xs : List X) (i : ℕ) → length xs ≤ i → slice_get xs i ≡ None
get_past [] i h = refl
get_past (x ∷ xs) zero h = absurd (omega arith)
get_past (x ∷ xs) (suc i) h = get_past xs i (omega arith)

none_deeper : (A : Type 0) (n i : ℕ) → i < n → suc i < depth_with {A = A} None n
none_deeper A zero i h = absurd (omega arith)
none_deeper A (suc n) i h = omega arith

before_depth : {A : Type 0} (u : Cell A) (i : ℕ) (w : A) → slice_get u i ≡ Some (Some w) → i < depth u
before_depth [] i w h = absurd (cc h)
before_depth (None ∷ u) zero w h = absurd (cc h)
before_depth (Some x ∷ u) zero w h = omega arith
before_depth {A} (None ∷ u) (suc i) w h = none_deeper A (depth u) i (before_depth u i w h)
before_depth (Some x ∷ u) (suc i) w h = omega (arith, before_depth u i w h)

-- lists that are read off others
filter_map-out : {X Y Z : Type 0} (h : Y → Z) (f : X → Option Y) (g : X → Option Z) (xs : List X)
    → ((x : X) → g x ≡ option_map h (f x)) → filter_map g xs ≡ map h (filter_map f xs)
filter_map-out h f g [] e = refl
filter_map-out {X} {Y} {Z} h f g (x ∷ xs) e = ap₂ cons_option (e x) (filter_map-out h f g xs e)
    ∙ out (f x) (filter_map f xs)
  where
    out : (o : Option Y) (l : List Y) → cons_option (option_map h o) (map h l) ≡ map h (cons_option o l)
    out None l = refl
    out (Some y) l = refl

flat_map-out : {Y Z : Type 0} (h : Y → Z) (f : ℕ → List Y) (g : ℕ → List Z) (a m : ℕ)
    → ((i : ℕ) → i < a + m → g i ≡ map h (f i))
    → flat_map g (range_with_len a m) ≡ map h (flat_map f (range_with_len a m))
flat_map-out h f g a zero e = refl
flat_map-out h f g a (suc m) e =
    ap₂ (λ l k. l ++ k) (e a (omega arith)) (flat_map-out h f g (a + 1) m (λ i lt. e i (omega arith)))
    ∙ sym (map-append h (f a) (flat_map f (range_with_len (a + 1) m)))

-- what rows come to doesn't turn on their tuples
amounts-longer : {A : Type 0} (v : A) (m : ℕ) (rows : List (Row A))
    → amounts_of m (all_longer v rows) ≡ amounts_of m rows
amounts-longer v m [] = refl
amounts-longer v m (row ∷ rows) = ap (λ l. slice_index_or row.amounts m (pos 0) ∷ l) (amounts-longer v m rows)

parts-longer : {A : Type 0} (v : A) (rows : List (Row A)) (ms : List ℕ)
    → map (λ m. part_of (amounts_of m (all_longer v rows))) ms ≡ map (λ m. part_of (amounts_of m rows)) ms
parts-longer v rows [] = refl
parts-longer v rows (m ∷ ms) = ap₂ (λ a l. part_of a ∷ l) (amounts-longer v m rows) (parts-longer v rows ms)

agg-longer : {A : Type 0} (v : A) (measures : ℕ) (rows : List (Row A))
    → agg_of measures (all_longer v rows) ≡ agg_of measures rows
agg-longer v measures rows
    = λ j. record { count = length-map rows (longer v) j; parts = parts-longer v rows (range_with_len 0 measures) j }

module _ {A : Type 0} {cmp : A → A → Ordering} (total : IsTotalOrder cmp) (anti : IsAntisymmetric cmp) (v : A) (n : ℕ)
    (rows : List (Row A)) (wide : HaveWidth n rows) where
  eq : A → A → Bool
  eq = eq_by_cmp cmp

  equality : IsEquality (eq_by_cmp cmp)
  equality = equality_by total anti

  as_list-out : {Y Z : Type 0} (h : Y → Z) (o : Option Y) → as_list cmp (option_map h o) ≡ map h (as_list cmp o)
  as_list-out h None = refl
  as_list-out h (Some y) = refl

  next-longer : (d : ℕ) (u : Cell A) → d ≤ length u → next_value cmp d (and_value v u) ≡ next_value cmp d u
  next-longer zero [] h = refl
  next-longer (suc d) [] h = absurd (omega arith)
  next-longer zero (None ∷ u) h = next-none cmp (and_value v u) ∙ ap suc (next-longer zero u (omega arith))
      ∙ sym (next-none cmp u)
  next-longer zero (Some w ∷ u) h = refl
  next-longer (suc d) (e ∷ u) h = next-suc cmp d e (and_value v u) ∙ ap suc (next-longer d u (omega arith))
      ∙ sym (next-suc cmp d e u)

  entries : (i : ℕ) → i < n → (rs : List (Row A)) → HaveWidth n rs
      → filter_map (λ row. slice_get row.tuple i) (all_longer v rs) ≡ filter_map (λ row. slice_get row.tuple i) rs
  entries i h [] w = refl
  entries i h (row ∷ rs) w = ap₂ cons_option (get-before row.tuple i v (omega (arith, w.0))) (entries i h rs w.1)

  values-longer : (p : Cell A) (i : ℕ) → length p ≡ n → i < n
      → values_at cmp (all_longer v rows) (and_any p) i ≡ values_at cmp rows p i
  values-longer p i long h =
      ap (λ (rs : List (Row A)). distinct cmp (filter_map (λ row. slice_get row.tuple i) rs))
      (cov-longer equality v n rows p None refl wide long)
      ∙ ap (distinct cmp) (entries i h (cov (eq_by_cmp cmp) rows p) (cov_wide equality v n rows p wide))

  length-with_value : (p : Cell A) (i : ℕ) (w : A) → length (with_value p i w) ≡ length p
  length-with_value p i w = length-set p i (Some w)

  edge-longer : (p : Cell A) (i : ℕ) → length p ≡ n → i < n → (w : A)
      → option_map (λ u. let x : Edge A (Cell A) = record { dim = i; value = w; target = upto u i } in
      x) (closure (eq_by_cmp cmp) (all_longer v rows) (with_value (and_any p) i w))
      ≡ option_map (renamed_edge and_any)
      (option_map (λ u. let x : Edge A (Cell A) = record { dim = i; value = w; target = upto u i } in
      x) (closure (eq_by_cmp cmp) rows (with_value p i w)))
  edge-longer p i long h w =
      ap (option_map (λ u. let x : Edge A (Cell A) = record { dim = i; value = w; target = upto u i } in x))
      (ap (closure (eq_by_cmp cmp) (all_longer v rows)) (value-before p i w None (omega (arith, long)))
      ∙ closure-longer equality v n rows (with_value p i w) None refl wide (length-with_value p i w ∙ long))
      ∙ by (closure (eq_by_cmp cmp) rows (with_value p i w)) (closure_wide equality v n rows (with_value p i w) wide)
    where
      by : (o : Option (Cell A)) → IfSome o (λ u. length u ≡ n)
          → option_map (λ u. let x : Edge A (Cell A) = record { dim = i; value = w; target = upto u i } in
          x) (option_map (and_value v) o)
          ≡ option_map (renamed_edge and_any)
          (option_map (λ u. let x : Edge A (Cell A) = record { dim = i; value = w; target = upto u i } in x) o)
      by None k = refl
      by (Some u) k = ap (λ (t : Cell A). let x : Edge A (Cell A) = record { dim = i; value = w; target = t } in
          Some x) (prefix-any (suc i) u (Some v) (omega (arith, k)))

  edges-longer : (p : Cell A) (i : ℕ) → length p ≡ n → i < n
      → edges_in cmp (all_longer v rows) (and_any p) i ≡ map (renamed_edge and_any) (edges_in cmp rows p i)
  edges-longer p i long h =
      ap (filter_map (λ w. option_map (λ u. let x : Edge A (Cell A)
      = record { dim = i; value = w; target = upto u i } in
      x) (closure (eq_by_cmp cmp) (all_longer v rows) (with_value (and_any p) i w)))) (values-longer p i long h)
      ∙ filter_map-out (renamed_edge and_any) _ _ (values_at cmp rows p i) (λ w. edge-longer p i long h w)

  parent-longer : (p : Cell A) → parent_cell_of cmp (and_any p) ≡ option_map and_any (parent_cell_of cmp p)
  parent-longer p = ap (λ k. cond (k == 0) None (Some (cell_prefix (k - 1) (and_any p)))) (depth-any_after p)
      ∙ by (depth p == 0)
    where
      by : (b : Bool) → cond b None (Some (cell_prefix (depth p - 1) (and_any p))) ≡ option_map and_any
          (cond b None (Some (cell_prefix (depth p - 1) p)))
      by true = refl
      by false = ap (λ (c : Cell A). Some c) (prefix-any (depth p - 1) p None (omega (arith, depth-le p)))

  abbrev edge_of : Cell A → ℕ → A → Edge A (Cell A)
  edge_of t i w = record { dim = i; value = w; target = t }

  -- the forced child where there is one already, and where there comes one
  forced-longer : (p u : Cell A) (e : ℕ) → length p ≡ n → length u ≡ n → e < n
      → forced_child cmp (and_any p) (and_value v u) e ≡ option_map (renamed_edge and_any) (forced_child cmp p u e)
  forced-longer p u e long longu h =
      ap (λ (o : Option (Option A)). option_and_then
      (λ entry. option_map (λ w. edge_of (with_value (and_any p) e w) e w) entry) o)
      (get-before u e (Some v) (omega (arith, longu))) ∙ by (slice_get u e)
    where
      by : (o : Option (Option A))
          → option_and_then (λ entry. option_map (λ w. edge_of (with_value (and_any p) e w) e w) entry) o
          ≡ option_map (renamed_edge and_any)
          (option_and_then (λ entry. option_map (λ w. edge_of (with_value p e w) e w) entry) o)
      by None = refl
      by (Some None) = refl
      by (Some (Some w)) = ap (λ (t : Cell A). Some (edge_of t e w)) (value-before p e w None (omega (arith, long)))

  forced_new : (p : Cell A) → length p ≡ n → forced_child cmp (and_any p) (and_value v p) n ≡ Some (edge_to_value n v p)
  forced_new p long =
      ap (λ (o : Option (Option A)). option_and_then
      (λ entry. option_map (λ w. edge_of (with_value (and_any p) n w) n w) entry) o)
      (subst (λ k. slice_get (and_value v p) k ≡ Some (Some v)) long (get_after p (Some v)))
      ∙ ap (λ (t : Cell A). Some (edge_of t n v))
      (subst (λ k. with_value (and_any p) k v ≡ and_value v p) long (value_after p v None))

  forced_old : (p : Cell A) → length p ≡ n → forced_child cmp p p n ≡ None
  forced_old p long = ap (λ (o : Option (Option A)). option_and_then
      (λ entry. option_map (λ w. edge_of (with_value p n w) n w) entry) o) (get_past p n (omega (arith, long)))

  -- the labels before the next value
  abbrev labels : Cell A → ℕ → List (Edge A (Cell A))
  labels p e = flat_map (edges_in cmp rows p) (range_with_len (depth p) (e - depth p))

  labels-longer : (p : Cell A) (e : ℕ) → length p ≡ n → depth p ≤ e → e ≤ n
      → flat_map (edges_in cmp (all_longer v rows) (and_any p)) (range_with_len (depth p) (e - depth p))
      ≡ map (renamed_edge and_any) (labels p e)
  labels-longer p e long le within =
      flat_map-out (renamed_edge and_any) (edges_in cmp rows p) (edges_in cmp (all_longer v rows) (and_any p)) (depth p)
      (e - depth p) (λ i lt. edges-longer p i long (omega arith))

  not_both : (a : Bool) → (a && false) ≡ false
  not_both true = refl
  not_both false = refl

  -- Any isn't the value
  no_class : (u p : Cell A) → length u ≡ length p → cell_eq (eq_by_cmp cmp) (and_value v u) (and_any p) ≡ false
  no_class u p h = cell_eq-longer (eq_by_cmp cmp) u p (Some v) None h ∙ not_both (cell_eq (eq_by_cmp cmp) u p)

  class_gone : (measures : ℕ) (u p : Cell A) → length u ≡ length p
      → (if cell_eq (eq_by_cmp cmp) (and_value v u) (and_any p)
      then Some (agg (eq_by_cmp cmp) measures (all_longer v rows) (and_any p)) else None) ≡ None
  class_gone measures u p h
      = ap (λ b. if b then Some (agg (eq_by_cmp cmp) measures (all_longer v rows) (and_any p)) else None)
      (no_class u p h)

  edges_with : (p u : Cell A) (e : ℕ) (forced : Option (Edge A (Cell A))) → length p ≡ n → depth p ≤ e → e ≤ n
      → forced_child cmp (and_any p) (and_value v u) e ≡ forced
      → flat_map (edges_in cmp (all_longer v rows) (and_any p))
      (range_with_len (depth (and_any p)) (e - depth (and_any p)))
      ++ as_list cmp (forced_child cmp (and_any p) (and_value v u) e)
      ≡ map (renamed_edge and_any) (labels p e) ++ as_list cmp forced
  edges_with p u e forced long le within is =
      ap₂ (λ (d : ℕ) (f : Option (Edge A (Cell A))). flat_map (edges_in cmp (all_longer v rows) (and_any p))
      (range_with_len d (e - d)) ++ as_list cmp f) (depth-any_after p) is
      ∙ ap (λ (l : List (Edge A (Cell A))). l ++ as_list cmp forced) (labels-longer p e long le within)

  kept_with : (measures : ℕ) (p u : Cell A) (e : ℕ) → length p ≡ n → length u ≡ n → depth p ≤ e → e < n
      → cell_eq (eq_by_cmp cmp) u p ≡ false
      → node_with cmp measures (all_longer v rows) (and_any p) (and_value v u) e
      ≡ with_any (node_with cmp measures rows p u e)
  kept_with measures p u e long longu le h apart =
      let forced = forced-longer p u e long longu h in
      λ j. record {
        cell = and_any p;
        parent = parent-longer p j;
        class = (class_gone measures u p (longu ∙ sym long)
            ∙ sym (ap (λ b. if b then Some (agg (eq_by_cmp cmp) measures rows p) else None) apart)) j;
        forced = forced j;
        edges = (edges_with p u e _ long le (omega arith) forced
            ∙ ap (λ (l : List (Edge A (Cell A))). map (renamed_edge and_any) (labels p e) ++ l)
            (as_list-out (renamed_edge and_any) (forced_child cmp p u e))
            ∙ sym (map-append (renamed_edge and_any) (labels p e) (as_list cmp (forced_child cmp p u e)))) j;
      }

  handed_with : (measures : ℕ) (p : Cell A) → length p ≡ n
      → node_with cmp measures (all_longer v rows) (and_any p) (and_value v p) n ≡ with_forced_value n v
      (node_with cmp measures rows p p n)
  handed_with measures p long =
      let le : depth p ≤ n = omega (arith, depth-le p, long) in
      λ j. record {
        cell = and_any p;
        parent = parent-longer p j;
        class = class_gone measures p p refl j;
        forced = forced_new p long j;
        edges = (edges_with p p n _ long le (omega arith) (forced_new p long)
            ∙ sym (ap (λ (l : List (Edge A (Cell A))). map (renamed_edge and_any) l ++ edge_to_value n v p ∷ [])
            (ap (λ (f : Option (Edge A (Cell A))). labels p n ++ as_list cmp f) (forced_old p long)
            ∙ append-nil (labels p n)))) j;
      }

  -- a class has no value after its own
  next_past : (u : Cell A) → length u ≤ next_value cmp (depth u) u
  next_past u = elim (cases_lt (next_value cmp (depth u) u) (length u)) [
    | inl lt ↦ let r = next-entry cmp (depth u) u lt in
        absurd (omega (arith, before_depth u (next_value cmp (depth u) u) r.0 r.1, next-ge cmp (depth u) u))
    | inr ge ↦ ge
  ]

  -- a node that is no class has one
  node_before : (p u : Cell A) → length u ≡ n → cell_prefix (depth p) u ≡ p → cell_eq (eq_by_cmp cmp) u p ≡ false
      → next_value cmp (depth p) u < n
  node_before p u long node apart = elim (cases_lt (next_value cmp (depth p) u) n) [
    | inl lt ↦ lt
    | inr ge ↦
        let same : u ≡ p = sym (prefix_whole (next_value cmp (depth p) u) u (omega (arith, long)))
        ∙ cell_prefix-next cmp (depth p) u ∙ node in
        absurd (true≢false (sym (cell_eq-from equality u p same) ∙ apart))
  ]

  -- the record with Any in the new dimension
  core : (measures : ℕ) (p u : Cell A) → length p ≡ n → length u ≡ n → cell_prefix (depth p) u ≡ p → (b : Bool)
      → cell_eq (eq_by_cmp cmp) u p ≡ b
      → node_with cmp measures (all_longer v rows) (and_any p) (and_value v u) (next_value cmp (depth p) u)
      ≡ widened n v (node_with cmp measures rows p u (next_value cmp (depth p) u))
  core measures p u long longu node true h =
      let same : u ≡ p = cell_eq-exact equality u p h in
      let behind : n ≤ next_value cmp (depth p) u
      = subst (λ (w : Cell A). n ≤ next_value cmp (depth p) w) (sym same) (omega (arith, next_past p, long)) in
      let last : next_value cmp (depth p) u ≡ n
      = omega (arith, next-le cmp (depth p) u (omega (arith, depth-le p, long, longu)), longu, behind) in
      ap₂ (λ (w : Cell A) k. node_with cmp measures (all_longer v rows) (and_any p) (and_value v w) k) same last
      ∙ handed_with measures p long
      ∙ ap₂ (λ (w : Cell A) k. with_forced_value n v (node_with cmp measures rows p w k)) (sym same) (sym last)
      ∙ sym (ap (λ b. if is_some (if b then Some (agg (eq_by_cmp cmp) measures rows p) else None)
      then with_forced_value n v (node_with cmp measures rows p u (next_value cmp (depth p) u))
      else with_any (node_with cmp measures rows p u (next_value cmp (depth p) u))) h)
  core measures p u long longu node false h =
      kept_with measures p u (next_value cmp (depth p) u) long longu (next-ge cmp (depth p) u)
      (node_before p u longu node h) h
      ∙ sym (ap (λ b. if is_some (if b then Some (agg (eq_by_cmp cmp) measures rows p) else None)
      then with_forced_value n v (node_with cmp measures rows p u (next_value cmp (depth p) u))
      else with_any (node_with cmp measures rows p u (next_value cmp (depth p) u))) h)

  pub record-any : (measures : ℕ) (p u : Cell A) → length p ≡ n → closure (eq_by_cmp cmp) rows p ≡ Some u
      → cell_prefix (depth p) u ≡ p
      → node_of cmp measures (all_longer v rows) (and_any p) ≡ option_map (widened n v) (node_of cmp measures rows p)
  record-any measures p u long is node =
      let longu : length u ≡ n
      = subst (λ (o : Option (Cell A)). IfSome o (λ w. length w ≡ n)) is (closure_wide equality v n rows p wide) in
      let next : next_value cmp (depth (and_any p)) (and_value v u) ≡ next_value cmp (depth p) u
      = ap (λ d. next_value cmp d (and_value v u)) (depth-any_after p)
      ∙ next-longer (depth p) u (omega (arith, depth-le p, long, longu)) in
      ap (option_map (λ w. node_with cmp measures (all_longer v rows) (and_any p) w
      (next_value cmp (depth (and_any p)) w))) (closure-longer equality v n rows p None refl wide long
      ∙ ap (option_map (and_value v)) is)
      ∙ ap (λ k. Some (node_with cmp measures (all_longer v rows) (and_any p) (and_value v u) k)) next
      ∙ ap (λ (x : Node A (Cell A)). Some x) (core measures p u long longu node (cell_eq (eq_by_cmp cmp) u p) refl)
      ∙ sym (ap (λ (o : Option (Cell A)). option_map (widened n v)
      (option_map (λ w. node_with cmp measures rows p w (next_value cmp (depth p) w)) o)) is)

  -- the record of a class with the value
  child_with : (measures : ℕ) (u : Cell A) → length u ≡ n → (e : ℕ) → e ≡ suc n → (k : ℕ)
      → node_with cmp measures (all_longer v rows) (and_value v u) (and_value v u) e
      ≡ child_of v (node_with cmp measures rows u u k)
  child_with measures u long e is k =
      λ j. record {
        cell = and_value v u;
        parent = parent j;
        class = (ap (λ b. if b then Some (agg (eq_by_cmp cmp) measures (all_longer v rows) (and_value v u)) else None)
            (cell_eq-same equality (and_value v u))
            ∙ ap (λ (a : Agg). Some a)
            (ap (agg_of measures) (cov-longer equality v n rows u (Some v) (equality.same v) wide long)
            ∙ agg-longer v measures (cov (eq_by_cmp cmp) rows u))
            ∙ sym (ap (λ b. if b then Some (agg (eq_by_cmp cmp) measures rows u) else None) (cell_eq-same equality u)))
            j;
        forced = none j;
        edges = (ap₂ (λ (m : ℕ) (f : Option (Edge A (Cell A))). flat_map
            (edges_in cmp (all_longer v rows) (and_value v u)) (range_with_len (depth (and_value v u)) m)
            ++ as_list cmp f) no_label none) j;
      }
    where
      deep : depth (and_value v u) ≡ suc n
      deep = depth-value_after u v ∙ ap suc long

      no_label : e - depth (and_value v u) ≡ 0
      no_label = omega (arith, is, deep)

      none : forced_child cmp (and_value v u) (and_value v u) e ≡ None
      none = ap (λ (o : Option (Option A)). option_and_then
          (λ entry. option_map (λ w. edge_of (with_value (and_value v u) e w) e w) entry) o)
          (get_past (and_value v u) e (omega (arith, is, length-append u (Some v ∷ []), long)))

      before : suc (length u) - 1 ≡ length u
      before = omega arith

      parent : parent_cell_of cmp (and_value v u) ≡ Some (and_any u)
      parent =
          ap (λ k. cond (k == 0) None (Some (cell_prefix (k - 1) (and_value v u)))) (depth-value_after u v)
          ∙ ap₂ (λ b k. cond b None (Some (cell_prefix k (and_value v u)))) (not_zero (length u)) before
          ∙ ap (λ (c : Cell A). Some c) (prefix-any (length u) u (Some v) (omega arith)
          ∙ ap and_any (prefix_whole (length u) u (omega arith)))

  pub record-value : (measures : ℕ) (u : Cell A) → length u ≡ n → closure (eq_by_cmp cmp) rows u ≡ Some u
      → node_of cmp measures (all_longer v rows) (and_value v u) ≡ option_map (child_of v) (node_of cmp measures rows u)
  record-value measures u long is =
      let deep : depth (and_value v u) ≡ suc n = depth-value_after u v ∙ ap suc long in
      let whole : length (and_value v u) ≡ suc n = omega (arith, length-append u (Some v ∷ []), long) in
      let next : next_value cmp (depth (and_value v u)) (and_value v u) ≡ suc n
      = omega (
        arith,
        next-le cmp (depth (and_value v u)) (and_value v u) (omega (arith, deep, whole)),
        next-ge cmp (depth (and_value v u)) (and_value v u),
        deep,
        whole,
      ) in
      ap (option_map (λ w. node_with cmp measures (all_longer v rows) (and_value v u) w
      (next_value cmp (depth (and_value v u)) w)))
      (closure-longer equality v n rows u (Some v) (equality.same v) wide long ∙ ap (option_map (and_value v)) is)
      ∙ ap (λ (x : Node A (Cell A)). Some x)
      (child_with measures u long (next_value cmp (depth (and_value v u)) (and_value v u)) next
      (next_value cmp (depth u) u))
      ∙ sym (ap (λ (o : Option (Cell A)). option_map (child_of v)
      (option_map (λ w. node_with cmp measures rows u w (next_value cmp (depth u) w)) o)) is)
