-- A tree that is widened is the canonical tree of the rows with one value more.
use Rattle.std.proofs.Common.{◌≡◌, ◌⊎◌, inl, inr, ℕ, Bool, true, false, List, [], ◌∷◌, ◌++◌, Option, Some, None, length, map, is_some, refl}
use Rattle.std.proofs.Common.{ap, ap₂, sym, ◌∙◌, subst, true≢false}
use Rattle.std.specs.Prelude.{if◌then◌else◌}
use Rattle.std.specs.Option.{option_map}
use Rattle.std.specs.Cmp.{IsTotalOrder}
use Rattle.std.specs.FinMap.{IsAntisymmetric}
use Rattle.std.specs.FinMap as maps
use Rattle.std.specs.Ordering.{eq_by_cmp}
use Rattle.std.specs.declared.cmp.Ordering.{Ordering}
use Rattle.std.proofs.lemmas.List.{map-append}
use Rattle.cube_defs.specs.Cell.{Cell, cell_eq, cell_prefix, depth}
use Rattle.cube_defs.specs.Rows.{Row, agg, closure, is_node}
use Rattle.cube_defs.specs.Tree.{Edge, IsCanonical, Node, Tree, cell_at, next_value, node_of, node_with, renamed, renamed_edge}
use Rattle.cube_laws.proofs.CallerLemmas.{IsEquality, cell_eq-exact, cell_eq-same, cell_prefix-depth, is_class-is, is_node-is, node_closed}
use Rattle.cube_laws.proofs.CallerLemmas.{equality_by}
use Rattle.tree_laws.proofs.CallerLemmas.{cell_record, some_same}
use Rattle.widen_laws.specs.Widened.{IsWidened, all_longer, and_any, and_value, child_by_number, child_of, with_forced_value}
use Rattle.widen_laws.specs.Widened.{with_forced_value_by_number, with_any, with_any_by_number, widened}
use Rattle.widen_laws.proofs.LongerRows.{HaveWidth, node-any, node-value}
use Rattle.widen_laws.proofs.LongerRecords.{record-any, record-value}
use Rattle.widen_laws.proofs.LongerNodes.{each-node, node_length}

head_same : {X : Type 0} {x y : X} {xs ys : List X} → x ∷ xs ≡ y ∷ ys → x ≡ y
head_same e = cc

tail_same : {X : Type 0} {x y : X} {xs ys : List X} → x ∷ xs ≡ y ∷ ys → xs ≡ ys
tail_same e = cc

-- where the last entries differ, or are the same
last_apart : {A : Type 0} (c d : Cell A) (v : A) → c ++ None ∷ [] ≡ d ++ Some v ∷ [] → ⊥
last_apart [] [] v e = cc
last_apart [] (y ∷ []) v e = cc
last_apart [] (y ∷ z ∷ d) v e = cc
last_apart (x ∷ []) [] v e = cc
last_apart (x ∷ z ∷ c) [] v e = cc
last_apart (x ∷ c) (y ∷ d) v e = last_apart c d v (tail_same e)

same_front : {A : Type 0} (c d : Cell A) (e : Option A) → c ++ e ∷ [] ≡ d ++ e ∷ [] → c ≡ d
same_front [] [] e h = refl
same_front [] (y ∷ []) e h = absurd (cc h)
same_front [] (y ∷ z ∷ d) e h = absurd (cc h)
same_front (x ∷ []) [] e h = absurd (cc h)
same_front (x ∷ z ∷ c) [] e h = absurd (cc h)
same_front (x ∷ c) (y ∷ d) e h = ap₂ (λ a l. a ∷ l) (head_same h) (same_front c d e (tail_same h))

-- what leads to cells leads to the same with Any in the new dimension
module _ {A : Type 0} (f g : ℕ → Option (Cell A)) (moves : (k : ℕ) (c : Cell A) → f k ≡ Some c
    → g k ≡ Some (and_any c)) where
  moved-parent : (o : Option ℕ) (p : Option (Cell A)) → option_map f o ≡ option_map (λ c. Some c) p
      → option_map g o ≡ option_map (λ c. Some c) (option_map and_any p)
  moved-parent None None e = refl
  moved-parent None (Some c) e = absurd (cc e)
  moved-parent (Some k) None e = absurd (cc e)
  moved-parent (Some k) (Some c) e = ap (λ x. Some x) (moves k c (some_same e))

  moved-edge : (x : Edge A ℕ) (y : Edge A (Cell A)) → renamed_edge f x ≡ renamed_edge (λ c. Some c) y
      → renamed_edge g x ≡ renamed_edge (λ c. Some c) (renamed_edge and_any y)
  moved-edge x y e = λ j. record {
    dim = ap (λ (z : Edge A (Option (Cell A))). z.dim) e j;
    value = ap (λ (z : Edge A (Option (Cell A))). z.value) e j;
    target = moves x.target y.target (ap (λ (z : Edge A (Option (Cell A))). z.target) e) j;
  }

  moved-forced : (o : Option (Edge A ℕ)) (p : Option (Edge A (Cell A)))
      → option_map (renamed_edge f) o ≡ option_map (renamed_edge (λ c. Some c)) p
      → option_map (renamed_edge g) o ≡ option_map (renamed_edge (λ c. Some c)) (option_map (renamed_edge and_any) p)
  moved-forced None None e = refl
  moved-forced None (Some y) e = absurd (cc e)
  moved-forced (Some x) None e = absurd (cc e)
  moved-forced (Some x) (Some y) e = ap (λ z. Some z) (moved-edge x y (some_same e))

  moved-edges : (xs : List (Edge A ℕ)) (ys : List (Edge A (Cell A)))
      → map (renamed_edge f) xs ≡ map (renamed_edge (λ c. Some c)) ys
      → map (renamed_edge g) xs ≡ map (renamed_edge (λ c. Some c)) (map (renamed_edge and_any) ys)
  moved-edges [] [] e = refl
  moved-edges [] (y ∷ ys) e = absurd (cc e)
  moved-edges (x ∷ xs) [] e = absurd (cc e)
  moved-edges (x ∷ xs) (y ∷ ys) e = ap₂ (λ z l. z ∷ l) (moved-edge x y (head_same e)) (moved-edges xs ys (tail_same e))

module _ {A : Type 0} {cmp : A → A → Ordering} (total : IsTotalOrder cmp) (anti : IsAntisymmetric cmp) (v : A)
    (n measures : ℕ) (rows : List (Row A)) (wide : HaveWidth n rows)
    (tree after : Tree A) (child : ℕ → ℕ) (canonical : IsCanonical cmp measures rows tree)
    (is : IsWidened n v child tree after) where
  equality : IsEquality (eq_by_cmp cmp)
  equality = equality_by total anti

  -- an old record, and what it says
  record IsOld (r : Node A ℕ) (x : Node A (Cell A)) : Type 0 where
    here : node_of cmp measures rows r.cell ≡ Some x
    same : renamed (cell_at tree) r ≡ renamed (λ c. Some c) x
    node : is_node (eq_by_cmp cmp) rows r.cell ≡ true
    long : length r.cell ≡ n

  old : (k : ℕ) (r : Node A ℕ) → maps.get tree k ≡ Some r → (x : Node A (Cell A)) × IsOld r x
  old k r at = by (node_of cmp measures rows r.cell) refl (canonical.each k r at).1
    where
      node : is_node (eq_by_cmp cmp) rows r.cell ≡ true
      node = (canonical.each k r at).0

      by : (o : Option (Node A (Cell A))) → node_of cmp measures rows r.cell ≡ o
          → Some (renamed (cell_at tree) r) ≡ option_map (renamed (λ c. Some c)) o → (x : Node A (Cell A)) × IsOld r x
      by None here e = absurd (cc e)
      by (Some x) here e = (
        x,
        record {
          here = here;
          same = some_same e;
          node = node;
          long
              = node_length equality v n rows r.cell wide node;
        },
      )

  -- a record has a class where the cell is one
  class_closed : (p : Cell A) (x : Node A (Cell A)) → node_of cmp measures rows p ≡ Some x → is_some x.class ≡ true
      → closure (eq_by_cmp cmp) rows p ≡ Some p
  class_closed p x here some = by (closure (eq_by_cmp cmp) rows p) refl here
    where
      by : (o : Option (Cell A)) → closure (eq_by_cmp cmp) rows p ≡ o
          → option_map (λ u. node_with cmp measures rows p u (next_value cmp (depth p) u)) o ≡ Some x
          → closure (eq_by_cmp cmp) rows p ≡ Some p
      by None e h = absurd (cc h)
      by (Some u) e h =
          let class : is_some (if cell_eq (eq_by_cmp cmp) u p then Some (agg (eq_by_cmp cmp) measures rows p) else None)
          ≡ true = ap (λ (y : Node A (Cell A)). is_some y.class) (some_same h) ∙ some in
          inner (cell_eq (eq_by_cmp cmp) u p) refl class
        where
          inner : (b : Bool) → cell_eq (eq_by_cmp cmp) u p ≡ b
              → is_some (if b then Some (agg (eq_by_cmp cmp) measures rows p) else None) ≡ true
              → closure (eq_by_cmp cmp) rows p ≡ Some p
          inner true same class = e ∙ ap (λ (c : Cell A). Some c) (cell_eq-exact equality u p same)
          inner false same class = absurd (true≢false (sym class))

  class_there : (p : Cell A) (x : Node A (Cell A)) → node_of cmp measures rows p ≡ Some x
      → closure (eq_by_cmp cmp) rows p ≡ Some p → is_some x.class ≡ true
  class_there p x here closed =
      let made : Some (node_with cmp measures rows p p (next_value cmp (depth p) p)) ≡ Some x
      = sym (ap (option_map (λ u. node_with cmp measures rows p u (next_value cmp (depth p) u))) closed) ∙ here in
      sym (ap (λ (y : Node A (Cell A)). is_some y.class) (some_same made))
      ∙ ap (λ b. is_some (if b then Some (agg (eq_by_cmp cmp) measures rows p) else None)) (cell_eq-same equality p)

  -- an old number has the old cell with Any
  cell_moved : (k : ℕ) (r : Node A ℕ) → maps.get tree k ≡ Some r → cell_at after k ≡ Some (and_any r.cell)
  cell_moved k r at = by (is_some r.class) refl
    where
      by : (b : Bool) → is_some r.class ≡ b → cell_at after k ≡ Some (and_any r.cell)
      by true some = ap (option_map (λ (m : Node A ℕ). m.cell)) (is.classes k r at some)
      by false none = ap (option_map (λ (m : Node A ℕ). m.cell)) (is.others k r at none)

  moves : (k : ℕ) (c : Cell A) → cell_at tree k ≡ Some c → cell_at after k ≡ Some (and_any c)
  moves k c e = let r = cell_record tree k c e in cell_moved k r.0 r.1 ∙ ap (λ (c : Cell A). Some (and_any c)) r.2

  -- what is to be shown of a record
  abbrev IsRight : Node A ℕ → Type 0
  IsRight m = (is_node (eq_by_cmp cmp) (all_longer v rows) m.cell ≡ true)
      × (Some (renamed (cell_at after) m) ≡ option_map (renamed (λ c. Some c))
      (node_of cmp measures (all_longer v rows) m.cell))

  record_of_old : (r : Node A ℕ) (x : Node A (Cell A)) → IsOld r x
      → node_of cmp measures (all_longer v rows) (and_any r.cell) ≡ Some (widened n v x)
  record_of_old r x h =
      let u = node_closed equality rows r.cell h.node in
      record-any total anti v n rows wide measures r.cell u.0 h.long u.1 u.2 ∙ ap (option_map (widened n v)) h.here

  kept_right : (r : Node A ℕ) (x : Node A (Cell A)) → IsOld r x → is_some r.class ≡ false
      → IsRight (with_any_by_number r)
  kept_right r x h none = (
    node-any equality v n rows r.cell wide h.long ∙ h.node,
    ap (λ (y : Node A (Option (Cell A))). Some y) parts
        ∙ sym (ap (λ b. Some (renamed (λ c. Some c) (if b then with_forced_value n v x else with_any x)))
        (sym (ap (λ (y : Node A (Option (Cell A))). is_some y.class) h.same) ∙ none))
        ∙ sym (ap (option_map (renamed (λ c. Some c))) (record_of_old r x h)),
  )
    where
      parts : renamed (cell_at after) (with_any_by_number r) ≡ renamed (λ c. Some c) (with_any x)
      parts = λ j. record {
        cell = and_any (ap (λ (y : Node A (Option (Cell A))). y.cell) h.same j);
        parent = moved-parent (cell_at tree) (cell_at after) moves r.parent x.parent
            (ap (λ (y : Node A (Option (Cell A))). y.parent) h.same) j;
        class = ap (λ (y : Node A (Option (Cell A))). y.class) h.same j;
        forced = moved-forced (cell_at tree) (cell_at after) moves r.forced x.forced
            (ap (λ (y : Node A (Option (Cell A))). y.forced) h.same) j;
        edges = moved-edges (cell_at tree) (cell_at after) moves r.edges x.edges
            (ap (λ (y : Node A (Option (Cell A))). y.edges) h.same) j;
      }

  handed_right : (k : ℕ) (r : Node A ℕ) (x : Node A (Cell A)) → maps.get tree k ≡ Some r → IsOld r x
      → is_some r.class ≡ true → IsRight (with_forced_value_by_number n v (child k) r)
  handed_right k r x at h some = (
    node-any equality v n rows r.cell wide h.long ∙ h.node,
    ap (λ (y : Node A (Option (Cell A))). Some y) parts
        ∙ sym (ap (λ b. Some (renamed (λ c. Some c) (if b then with_forced_value n v x else with_any x)))
        (sym (ap (λ (y : Node A (Option (Cell A))). is_some y.class) h.same) ∙ some))
        ∙ sym (ap (option_map (renamed (λ c. Some c))) (record_of_old r x h)),
  )
    where
      cell : r.cell ≡ x.cell
      cell = ap (λ (y : Node A (Option (Cell A))). y.cell) h.same

      target : cell_at after (child k) ≡ Some (and_value v x.cell)
      target = ap (option_map (λ (m : Node A ℕ). m.cell)) (is.children k r at some)
          ∙ ap (λ (c : Cell A). Some (and_value v c)) cell

      parts : renamed (cell_at after) (with_forced_value_by_number n v (child k) r) ≡ renamed (λ c. Some c)
          (with_forced_value n v x)
      parts = λ j. record {
        cell = and_any (cell j);
        parent = moved-parent (cell_at tree) (cell_at after) moves r.parent x.parent
            (ap (λ (y : Node A (Option (Cell A))). y.parent) h.same) j;
        class = None;
        forced = Some (record { dim = n; value = v; target = target j });
        edges = (map-append (renamed_edge (cell_at after)) r.edges
            (record { dim = n; value = v; target = child k } ∷ [])
            ∙ (λ i. moved-edges (cell_at tree) (cell_at after) moves r.edges x.edges
            (ap (λ (y : Node A (Option (Cell A))). y.edges) h.same) i ++ record {
              dim = n;
              value = v;
              target
                  = target i;
            } ∷ [])
            ∙ sym (map-append (renamed_edge (λ c. Some c)) (map (renamed_edge and_any) x.edges)
            (record { dim = n; value = v; target = and_value v x.cell } ∷ []))) j;
      }

  child_right : (k : ℕ) (r : Node A ℕ) (x : Node A (Cell A)) → maps.get tree k ≡ Some r → IsOld r x
      → is_some r.class ≡ true → IsRight (child_by_number v k r)
  child_right k r x at h some =
      let closed = class_closed r.cell x h.here
      (sym (ap (λ (y : Node A (Option (Cell A))). is_some y.class) h.same) ∙ some) in (
        node-value equality v n rows r.cell wide h.long ∙ (is_class-is equality rows r.cell).1 closed,
        ap (λ (y : Node A (Option (Cell A))). Some y) parts
            ∙ sym (ap (option_map (renamed (λ c. Some c)))
            (record-value total anti v n rows wide measures r.cell h.long closed
            ∙ ap (option_map (child_of v)) h.here)),
      )
    where
      cell : r.cell ≡ x.cell
      cell = ap (λ (y : Node A (Option (Cell A))). y.cell) h.same

      parts : renamed (cell_at after) (child_by_number v k r) ≡ renamed (λ c. Some c) (child_of v x)
      parts = λ j. record {
        cell = and_value v (cell j);
        parent = Some ((cell_moved k r at ∙ ap (λ (c : Cell A). Some (and_any c)) cell) j);
        class = ap (λ (y : Node A (Option (Cell A))). y.class) h.same j;
        forced = None;
        edges = [];
      }

  each_right : (q : ℕ) (m : Node A ℕ) → maps.get after q ≡ Some m → IsRight m
  each_right q m at = elim (is.only q m at) [
    | inl old_one ↦ by_class old_one.0 old_one.1 (is_some old_one.0.class) refl
    | inr new_one ↦
        let x = old new_one.0 new_one.1 new_one.2 in
        subst IsRight (some_same (sym (is.children new_one.0 new_one.1 new_one.2 new_one.3)
        ∙ ap (maps.get after) (sym new_one.4) ∙ at)) (child_right new_one.0 new_one.1 x.0 new_one.2 x.1 new_one.3)
  ]
    where
      by_class : (r : Node A ℕ) → maps.get tree q ≡ Some r → (b : Bool) → is_some r.class ≡ b → IsRight m
      by_class r there true some = let x = old q r there in
          subst IsRight (some_same (sym (is.classes q r there some) ∙ at)) (handed_right q r x.0 there x.1 some)
      by_class r there false none = let x = old q r there in
          subst IsRight (some_same (sym (is.others q r there none) ∙ at)) (kept_right r x.0 x.1 none)

  -- a number of the widened tree is an old one, or that of a class's child
  abbrev Kind : ℕ → Cell A → Type 0
  Kind k c = ((d : Cell A) × (c ≡ and_any d) × (cell_at tree k ≡ Some d))
      ⊎ ((d : Cell A) × (c ≡ and_value v d) × ((i : ℕ) × (cell_at tree i ≡ Some d) × (k ≡ child i)))

  kind : (k : ℕ) (c : Cell A) → cell_at after k ≡ Some c → Kind k c
  kind k c e =
      let m = cell_record after k c e in
      elim (is.only k m.0 m.1) [
        | inl one ↦ inl (
          one.0.cell,
          some_same (sym e ∙ cell_moved k one.0 one.1),
          ap (option_map (λ (r : Node A ℕ). r.cell)) one.1,
        )
        | inr one ↦ inr (
          one.1.cell,
          some_same (sym e ∙ ap (cell_at after) one.4
              ∙ ap (option_map (λ (r : Node A ℕ). r.cell)) (is.children one.0 one.1 one.2 one.3)),
          (one.0, ap (option_map (λ (r : Node A ℕ). r.cell)) one.2, one.4),
        )
      ]

  once : (k l : ℕ) (c : Cell A) → cell_at after k ≡ Some c → cell_at after l ≡ Some c → k ≡ l
  once k l c e f = by (kind k c e) (kind l c f)
    where
      by : Kind k c → Kind l c → k ≡ l
      by (inl a) (inl b) =
          let same : a.0 ≡ b.0 = same_front a.0 b.0 None (sym a.1 ∙ b.1) in
          canonical.once k l a.0 a.2 (b.2 ∙ ap (λ (d : Cell A). Some d) (sym same))
      by (inl a) (inr b) = absurd (last_apart a.0 b.0 v (sym a.1 ∙ b.1))
      by (inr a) (inl b) = absurd (last_apart b.0 a.0 v (sym b.1 ∙ a.1))
      by (inr a) (inr b) =
          let same : a.0 ≡ b.0 = same_front a.0 b.0 (Some v) (sym a.1 ∙ b.1) in
          let number : a.2.0 ≡ b.2.0
          = canonical.once a.2.0 b.2.0 a.0 a.2.1 (b.2.1 ∙ ap (λ (d : Cell A). Some d) (sym same)) in
          a.2.2 ∙ ap child number ∙ sym b.2.2

  all : (c : Cell A) → is_node (eq_by_cmp cmp) (all_longer v rows) c ≡ true → (k : ℕ) × (cell_at after k ≡ Some c)
  all c h =
      let p = each-node equality v n rows c wide h in
      elim p.2 [
        | inl one ↦ let k = canonical.all p.0 one.1 in
            (k.0, moves k.0 p.0 k.1 ∙ ap (λ (d : Cell A). Some d) (sym one.0))
        | inr one ↦ of_class p.0 one.0 ((is_class-is equality rows p.0).0 one.1)
      ]
    where
      of_class : (p : Cell A) → c ≡ and_value v p → closure (eq_by_cmp cmp) rows p ≡ Some p → (k : ℕ)
          × (cell_at after k ≡ Some c)
      of_class p same closed =
          let node : is_node (eq_by_cmp cmp) rows p ≡ true
          = (is_node-is equality rows p).1 (ap (option_map (cell_prefix (depth p))) closed
          ∙ ap (λ (d : Cell A). Some d) (cell_prefix-depth p)) in
          let k = canonical.all p node in
          let r = cell_record tree k.0 p k.1 in
          let x = old k.0 r.0 r.1 in
          let some : is_some r.0.class ≡ true =
          ap (λ (y : Node A (Option (Cell A))). is_some y.class) x.1.same
          ∙ class_there r.0.cell x.0 x.1.here
          (subst (λ (d : Cell A). closure (eq_by_cmp cmp) rows d ≡ Some d) (sym r.2) closed) in (
            child k.0,
            ap (option_map (λ (m : Node A ℕ). m.cell)) (is.children k.0 r.0 r.1 some)
                ∙ ap (λ (d : Cell A). Some (and_value v d)) r.2 ∙ ap (λ (d : Cell A). Some d) (sym same),
          )

  pub widened_canonical : IsCanonical cmp measures (all_longer v rows) after
  widened_canonical = record { each = each_right; once = once; all = all }
