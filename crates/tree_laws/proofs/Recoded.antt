-- The records of coded rows are the codes of the records.
use Rattle.std.proofs.Common.{◌≡◌, ◌↔◌, ℕ, zero, suc, ◌+◌, ◌-◌, ◌==◌, ◌≤◌, ◌<◌, Bool, true, false, cond, Option, Some, None, List, [], ◌∷◌}
use Rattle.std.proofs.Common.{map, length, slice_get, refl, sym, ap, ap₂, subst, ◌∙◌, arith}
use Rattle.std.proofs.lemmas.Bool.{and_parts}
use Rattle.std.specs.declared.cmp.Ordering.{Ordering}
use Rattle.std.specs.Ordering.{eq_by_cmp}
use Rattle.std.specs.Cmp.{IsTotalOrder}
use Rattle.std.specs.FinMap.{IsAntisymmetric}
use Rattle.std.specs.Option.{option_map, option_and_then}
use Rattle.cube_defs.specs.Cell.{Cell, leq, cell_of, depth, cell_prefix, upto, with_value, cell_eq}
use Rattle.cube_defs.specs.Rows.{Row, covers, closure, agg, is_node}
use Rattle.cube_defs.specs.Tree.{Edge, Node, node_of, next_value, forced_child, parent_cell_of}
use Rattle.cube_laws.specs.Lists.{Among}
use Rattle.cube_laws.specs.Recoding.{coded_cell, coded_tuple, coded_row, TellsApart, AreKnown, RowsAreKnown}
use Rattle.cube_laws.proofs.CallerLemmas.{all_at, among_map, IsEquality, some_covered, one_value, one_value-leq, slice_get-cell_of}
use Rattle.cube_laws.proofs.CallerLemmas.{equality_by, closure-coded, known-closure, cell_eq-coded, length-coded, depth-coded}
use Rattle.cube_laws.proofs.CallerLemmas.{cell_prefix-coded, known-cell_prefix, agg-coded, is_node-coded, known-closed}
use Rattle.tree_laws.specs.Labels.{target_of_label, IsLabel, record_of}
use Rattle.tree_laws.specs.Edges.{coded_edge, IsCodedNode}
use Rattle.tree_laws.proofs.Lists.{some_same}
use Rattle.tree_laws.proofs.Prefixes.{with_value-leq}
use Rattle.tree_laws.proofs.Nexts.{next-nil, next-suc, next-none}
use Rattle.tree_laws.proofs.Records.{record_with, record_closure, record_edges}

module _ {A B : Type 0} (codes : ℕ → A → B) where
  pub with_value-coded : (k : ℕ) (c : Cell A) (i j : ℕ) (v : A) → j ≡ k + i
      → with_value (coded_cell codes k c) i (codes j v) ≡ coded_cell codes k (with_value c i v)
  with_value-coded k [] i j v e = refl
  with_value-coded k (f ∷ c) zero j v e = ap (λ n. Some (codes n v) ∷ coded_cell codes (suc k) c) (let s : j ≡ k
      = omega arith in s)
  with_value-coded k (f ∷ c) (suc i) j v e
      = ap (λ x. option_map (codes k) f ∷ x) (with_value-coded (suc k) c i j v (omega arith))

  entry-coded : (k : ℕ) (c : Cell A) (i j : ℕ) → j ≡ k + i
      → slice_get (coded_cell codes k c) i ≡ option_map (option_map (codes j)) (slice_get c i)
  entry-coded k [] i j e = refl
  entry-coded k (f ∷ c) zero j e = ap (λ n. Some (option_map (codes n) f)) (let s : k ≡ j = omega arith in s)
  entry-coded k (f ∷ c) (suc i) j e = entry-coded (suc k) c i j (omega arith)

  value-coded : (k : ℕ) (t : List A) (i j : ℕ) → j ≡ k + i
      → slice_get (coded_tuple codes k t) i ≡ option_map (codes j) (slice_get t i)
  value-coded k [] i j e = refl
  value-coded k (v ∷ t) zero j e = ap (λ n. Some (codes n v)) (let s : k ≡ j = omega arith in s)
  value-coded k (v ∷ t) (suc i) j e = value-coded (suc k) t i j (omega arith)

  next-coded : (cmp : A → A → Ordering) (cmp' : B → B → Ordering) (d k : ℕ) (u : Cell A)
      → next_value cmp' d (coded_cell codes k u) ≡ next_value cmp d u
  next-coded cmp cmp' d k [] = next-nil cmp' d ∙ sym (next-nil cmp d)
  next-coded cmp cmp' zero k (None ∷ u) = next-none cmp' (coded_cell codes (suc k) u)
      ∙ ap suc (next-coded cmp cmp' zero (suc k) u) ∙ sym (next-none cmp u)
  next-coded cmp cmp' zero k (Some v ∷ u) = refl
  next-coded cmp cmp' (suc d) k (f ∷ u) = next-suc cmp' d (option_map (codes k) f) (coded_cell codes (suc k) u)
      ∙ ap suc (next-coded cmp cmp' d (suc k) u) ∙ sym (next-suc cmp d f u)

module _ {A : Type 0} (known : ℕ → A → Bool) where
  known-value : (k : ℕ) (t : List A) (i : ℕ) (v : A) → AreKnown known k (cell_of t) → slice_get t i ≡ Some v
      → known (k + i) v ≡ true
  known-value k [] i v h e = cc
  known-value k (w ∷ t) zero v h e
      = subst (λ x. known (k + 0) x ≡ true) (some_same e)
      (ap (λ n. known n w) (let s : k + 0 ≡ k = omega arith in s) ∙ h.0)
  known-value k (w ∷ t) (suc i) v h e = ap (λ n. known n v) (let s : k + suc i ≡ suc k + i = omega arith in s)
      ∙ known-value (suc k) t i v h.1 e

  known-with : (k : ℕ) (c : Cell A) (i : ℕ) (v : A) → AreKnown known k c → known (k + i) v ≡ true
      → AreKnown known k (with_value c i v)
  known-with k [] i v h e = tt
  known-with k (None ∷ c) zero v h e = (ap (λ n. known n v) (let s : k ≡ k + 0 = omega arith in s) ∙ e, h)
  known-with k (Some w ∷ c) zero v h e = (ap (λ n. known n v) (let s : k ≡ k + 0 = omega arith in s) ∙ e, h.1)
  known-with k (None ∷ c) (suc i) v h e
      = known-with (suc k) c i v h (ap (λ n. known n v) (let s : suc k + i ≡ k + suc i = omega arith in s) ∙ e)
  known-with k (Some w ∷ c) (suc i) v h e
      = (h.0, known-with (suc k) c i v h.1 (ap (λ n. known n v) (let s : suc k + i ≡ k + suc i = omega arith in s) ∙ e))

module _ {A B : Type 0} {cmp : A → A → Ordering} {cmp' : B → B → Ordering} (total : IsTotalOrder cmp)
    (anti : IsAntisymmetric cmp) (total' : IsTotalOrder cmp') (anti' : IsAntisymmetric cmp') {known : ℕ → A
    → Bool} {codes : ℕ → A → B} (tells : TellsApart known codes) (rows : List (Row A))
    (h : RowsAreKnown known rows) where
  law : IsEquality (eq_by_cmp cmp)
  law = equality_by total anti

  law' : IsEquality (eq_by_cmp cmp')
  law' = equality_by total' anti'

  lead-with : (p : Cell A) (i : ℕ) (v : A) → AreKnown known 0 (with_value p i v)
      → target_of_label (eq_by_cmp cmp') (map (coded_row codes) rows) (coded_cell codes 0 p) i (codes i v)
      ≡ option_map (coded_cell codes 0) (target_of_label (eq_by_cmp cmp) rows p i v)
  lead-with p i v k =
      ap (λ c. option_map (λ w. upto w i) (closure (eq_by_cmp cmp') (map (coded_row codes) rows) c))
      (with_value-coded codes 0 p i i v (omega arith))
      ∙ ap (option_map (λ w. upto w i)) (closure-coded law law' tells rows (with_value p i v) h k)
      ∙ cut (closure (eq_by_cmp cmp) rows (with_value p i v))
    where
      cut : (o : Option (Cell A))
          → option_map (λ w. upto w i) (option_map (coded_cell codes 0) o) ≡ option_map (coded_cell codes 0)
          (option_map (λ w. upto w i) o)
      cut None = refl
      cut (Some w) = ap (λ x. Some x) (cell_prefix-coded codes (suc i) 0 w)

  -- where a label leads is known
  pub known-target : (p : Cell A) (i : ℕ) (v : A) (c : Cell A) → target_of_label (eq_by_cmp cmp) rows p i v ≡ Some c
      → AreKnown known 0 c
  known-target p i v c e = go (closure (eq_by_cmp cmp) rows (with_value p i v)) refl e
    where
      go : (o : Option (Cell A)) → closure (eq_by_cmp cmp) rows (with_value p i v) ≡ o
          → option_map (λ w. upto w i) o ≡ Some c → AreKnown known 0 c
      go None q k = cc
      go (Some w) q k = subst (AreKnown known 0) (some_same k)
          (known-cell_prefix known (suc i) 0 w (known-closure law law' tells rows (with_value p i v) w h q))

  -- what leads somewhere is known
  pub known-label : (p : Cell A) (i : ℕ) (v : A) (c : Cell A) → target_of_label (eq_by_cmp cmp) rows p i v ≡ Some c
      → AreKnown known 0 (with_value p i v)
  known-label p i v c e = go (closure (eq_by_cmp cmp) rows (with_value p i v)) refl e
    where
      go : (o : Option (Cell A)) → closure (eq_by_cmp cmp) rows (with_value p i v) ≡ o
          → option_map (λ w. upto w i) o ≡ Some c → AreKnown known 0 (with_value p i v)
      go None q k = cc
      go (Some w) q k = known-closed law known rows (with_value p i v) w h q

  -- and what leads somewhere among the codes is the code of a value
  value-of : (p : Cell A) (i : ℕ) (w : B) (d : Cell B) → AreKnown known 0 p → depth p ≤ i → i < length p
      → target_of_label (eq_by_cmp cmp') (map (coded_row codes) rows) (coded_cell codes 0 p) i w ≡ Some d → (v : A)
      × (w ≡ codes i v) × (known i v ≡ true)
  value-of p i w d kp l m e
      = go (closure (eq_by_cmp cmp') (map (coded_row codes) rows) (with_value (coded_cell codes 0 p) i w)) refl e
    where
      go : (o : Option (Cell B))
          → closure (eq_by_cmp cmp') (map (coded_row codes) rows) (with_value (coded_cell codes 0 p) i w) ≡ o
          → option_map (λ x. upto x i) o ≡ Some d → (v : A) × (w ≡ codes i v) × (known i v ≡ true)
      go None q k = cc
      go (Some z) q k =
          let s : (s : Row B) × Among s (map (coded_row codes) rows)
          × (covers (eq_by_cmp cmp') (with_value (coded_cell codes 0 p) i w) s ≡ true)
          = some_covered (eq_by_cmp cmp') 0 (with_value (coded_cell codes 0 p) i w) z
          (map (coded_row codes) rows) q in
          let r : (r : Row A) × Among r rows × (s.0 ≡ coded_row codes r) = among_map (coded_row codes) s.0 rows s.1 in
          let long : i < length (coded_cell codes 0 p) = omega (arith, length-coded codes 0 p) in
          let short : depth (coded_cell codes 0 p) ≤ i = omega (arith, depth-coded codes 0 p) in
          let both = sym (with_value-leq law' (coded_cell codes 0 p) (cell_of s.0.tuple) i w short long) ∙ s.2 in
          let value : slice_get s.0.tuple i ≡ Some w
          = (slice_get-cell_of s.0.tuple i w).0
          ((one_value-leq law' i w (cell_of s.0.tuple)).0
          (and_parts (leq (eq_by_cmp cmp') (coded_cell codes 0 p) (cell_of s.0.tuple))
          (leq (eq_by_cmp cmp') (one_value i w) (cell_of s.0.tuple)) both).1) in
          by r.0 r.1 (slice_get r.0.tuple i) refl (sym (value-coded codes 0 r.0.tuple i i (omega arith))
          ∙ ap (λ (x : Row B). slice_get x.tuple i) (sym r.2) ∙ value)
        where
          by : (r : Row A) → Among r rows → (o : Option A) → slice_get r.tuple i ≡ o → option_map (codes i) o ≡ Some w
              → (v : A) × (w ≡ codes i v) × (known i v ≡ true)
          by r m None q k = cc
          by r m (Some v) q k = (
            v,
            sym (some_same k),
            ap (λ n. known n v) (let s : i ≡ 0 + i = omega arith in s)
                ∙ known-value known 0 r.tuple i v (all_at (λ row. AreKnown known 0 (cell_of row.tuple)) r rows h m) q,
          )

  pub parent-coded : (p : Cell A)
      → parent_cell_of cmp' (coded_cell codes 0 p) ≡ option_map (coded_cell codes 0) (parent_cell_of cmp p)
  parent-coded p = ap (λ d. cond (d == 0) None (Some (cell_prefix (d - 1) (coded_cell codes 0 p))))
      (depth-coded codes 0 p) ∙ go (depth p == 0)
    where
      go : (b : Bool) → cond b None (Some (cell_prefix (depth p - 1) (coded_cell codes 0 p)))
          ≡ option_map (coded_cell codes 0) (cond b None (Some (cell_prefix (depth p - 1) p)))
      go true = refl
      go false = ap (λ x. Some x) (cell_prefix-coded codes (depth p - 1) 0 p)

  module _ (measures : ℕ) (p : Cell A) (kp : AreKnown known 0 p) (n : Node A (Cell A))
      (node : is_node (eq_by_cmp cmp) rows p ≡ true) (is : node_of cmp measures rows p ≡ Some n) where
    closed : (u : Cell A) × (closure (eq_by_cmp cmp) rows p ≡ Some u)
    closed = record_closure total anti measures rows p n is

    u_known : AreKnown known 0 closed.0
    u_known = known-closure law law' tells rows p closed.0 h closed.1

    closed' : closure (eq_by_cmp cmp') (map (coded_row codes) rows) (coded_cell codes 0 p)
        ≡ Some (coded_cell codes 0 closed.0)
    closed' = closure-coded law law' tells rows p h kp ∙ ap (option_map (coded_cell codes 0)) closed.1

    -- the codes' record
    abbrev coded_record : Node B (Cell B)
    coded_record = record_of cmp' measures (map (coded_row codes) rows) (coded_cell codes 0 p)
        (coded_cell codes 0 closed.0)

    record_there : node_of cmp' measures (map (coded_row codes) rows) (coded_cell codes 0 p) ≡ Some coded_record
    record_there = ap (option_map (λ w. record_of cmp' measures (map (coded_row codes) rows) (coded_cell codes 0 p) w))
        closed'

    same_next : next_value cmp' (depth (coded_cell codes 0 p)) (coded_cell codes 0 closed.0)
        ≡ next_value cmp (depth p) closed.0
    same_next = ap (λ d. next_value cmp' d (coded_cell codes 0 closed.0)) (depth-coded codes 0 p)
        ∙ next-coded codes cmp cmp' (depth p) 0 closed.0

    class-coded : cond (cell_eq (eq_by_cmp cmp') (coded_cell codes 0 closed.0) (coded_cell codes 0 p))
        (Some (agg (eq_by_cmp cmp') measures (map (coded_row codes) rows) (coded_cell codes 0 p))) None
        ≡ cond (cell_eq (eq_by_cmp cmp) closed.0 p) (Some (agg (eq_by_cmp cmp) measures rows p)) None
    class-coded = ap₂ (λ b a. cond b (Some a) None) (cell_eq-coded law law' tells closed.0 p u_known kp)
        (agg-coded law law' tells rows h measures p kp)

    forced-coded : (e : ℕ) → forced_child cmp' (coded_cell codes 0 p) (coded_cell codes 0 closed.0) e
        ≡ option_map (coded_edge codes) (forced_child cmp p closed.0 e)
    forced-coded e = ap (λ o. made o) (entry-coded codes 0 closed.0 e e (omega arith)) ∙ go (slice_get closed.0 e)
      where
        made : Option (Option B) → Option (Edge B (Cell B))
        made o = option_and_then
            (λ entry. option_map (λ v. record {
              dim = e;
              value = v;
              target
                  = with_value (coded_cell codes 0 p) e v;
            }) entry) o

        go : (o : Option (Option A))
            → option_and_then (λ entry. option_map
            (λ v. record { dim = e; value = v; target = with_value (coded_cell codes 0 p) e v }) entry)
            (option_map (option_map (codes e)) o)
            ≡ option_map (coded_edge codes)
            (option_and_then (λ entry. option_map
            (λ v. record { dim = e; value = v; target = with_value p e v }) entry) o)
        go None = refl
        go (Some None) = refl
        go (Some (Some v)) = ap (λ d. Some (record { dim = e; value = codes e v; target = d }))
            (with_value-coded codes 0 p e e v (omega arith))

    labels : (x : Edge A (Cell A)) → Among x n.edges ↔ IsLabel cmp rows p (next_value cmp (depth p) closed.0) x
    labels x = record_edges total anti measures rows p n node is closed.0 x closed.1

    labels' : (y : Edge B (Cell B)) → Among y coded_record.edges
        ↔ IsLabel cmp' (map (coded_row codes) rows) (coded_cell codes 0 p)
        (next_value cmp' (depth (coded_cell codes 0 p)) (coded_cell codes 0 closed.0)) y
    labels' y = record_edges total' anti' measures (map (coded_row codes) rows) (coded_cell codes 0 p) coded_record
        (is_node-coded law law' tells rows h p kp ∙ node) record_there (coded_cell codes 0 closed.0) y closed'

    to_codes : (x : Edge A (Cell A)) → Among x n.edges → Among (coded_edge codes x) coded_record.edges
    to_codes x m =
        let l = (labels x).0 m in
        (labels' (coded_edge codes x)).1 (record {
          place = record {
            behind = omega (arith, depth-coded codes 0 p, l.place.behind);
            before = omega (arith, same_next, l.place.before);
            within = omega (arith, length-coded codes 0 p, l.place.within);
          };
          leads = lead-with p x.dim x.value (known-label p x.dim x.value x.target l.leads)
              ∙ ap (option_map (coded_cell codes 0)) l.leads;
        })

    from_codes : (y : Edge B (Cell B)) → Among y coded_record.edges → (x : Edge A (Cell A)) × Among x n.edges
        × (y ≡ coded_edge codes x)
    from_codes y m = go (target_of_label (eq_by_cmp cmp) rows p y.dim v.0) refl there
      where
        l : IsLabel cmp' (map (coded_row codes) rows) (coded_cell codes 0 p)
            (next_value cmp' (depth (coded_cell codes 0 p)) (coded_cell codes 0 closed.0)) y
        l = (labels' y).0 m

        behind : depth p ≤ y.dim
        behind = omega (arith, depth-coded codes 0 p, l.place.behind)

        within : y.dim < length p
        within = omega (arith, length-coded codes 0 p, l.place.within)

        v : (v : A) × (y.value ≡ codes y.dim v) × (known y.dim v ≡ true)
        v = value-of p y.dim y.value y.target kp behind within l.leads

        there : option_map (coded_cell codes 0) (target_of_label (eq_by_cmp cmp) rows p y.dim v.0) ≡ Some y.target
        there =
            sym (lead-with p y.dim v.0
            (known-with known 0 p y.dim v.0 kp
            (ap (λ n. known n v.0) (let s : 0 + y.dim ≡ y.dim = omega arith in s) ∙ v.2)))
            ∙ ap (target_of_label (eq_by_cmp cmp') (map (coded_row codes) rows) (coded_cell codes 0 p) y.dim) (sym v.1)
            ∙ l.leads

        go : (o : Option (Cell A)) → target_of_label (eq_by_cmp cmp) rows p y.dim v.0 ≡ o
            → option_map (coded_cell codes 0) o ≡ Some y.target → (x : Edge A (Cell A)) × Among x n.edges
            × (y ≡ coded_edge codes x)
        go None q k = cc
        go (Some c) q k = (
          record { dim = y.dim; value = v.0; target = c },
          (labels (record { dim = y.dim; value = v.0; target = c })).1
              (record {
                place = record {
                  behind = behind;
                  before = omega (arith, same_next, l.place.before);
                  within
                      = within;
                };
                leads = q;
              }),
          same v.1 (sym (some_same k)),
        )
          where
            same : y.value ≡ codes y.dim v.0 → y.target ≡ coded_cell codes 0 c
                → y ≡ record { dim = y.dim; value = codes y.dim v.0; target = coded_cell codes 0 c }
            same a b = λ i. record { dim = y.dim; value = a i; target = b i }

    pub record-coded : (m : Node B (Cell B))
        × (node_of cmp' measures (map (coded_row codes) rows) (coded_cell codes 0 p) ≡ Some m) × IsCodedNode codes n m
    record-coded = (
      coded_record,
      record_there,
      subst (λ x. IsCodedNode codes x coded_record)
          (sym (record_with total anti measures rows p n is closed.0 closed.1)) (record {
            cell = refl;
            parent = parent-coded p;
            class = class-coded;
            forced = ap (forced_child cmp' (coded_cell codes 0 p) (coded_cell codes 0 closed.0)) same_next
                ∙ forced-coded (next_value cmp (depth p) closed.0);
            edges = λ y. (
              λ m. let r = from_codes y m in (
                r.0,
                subst (λ x. Among r.0 x.edges) (record_with total anti measures rows p n is closed.0 closed.1) r.1,
                r.2,
              ),
              λ r. subst (λ z. Among z coded_record.edges) (sym r.2)
                  (to_codes r.0 (subst (λ x. Among r.0 x.edges)
                  (sym (record_with total anti measures rows p n is closed.0 closed.1)) r.1)),
            );
          }),
    )
