-- Nodes that are noted for rows.
use Rattle.std.proofs.Common.{◌≡◌, ◌≢◌, ℕ, zero, suc, ◌+◌, ◌*◌, ◌<◌, ◌≤◌, true, Option, Some, None, List, [], ◌∷◌, length, get_or, is_some}
use Rattle.std.proofs.Common.{nat_eq, refl, sym, ap, subst, ◌∙◌, arith, inl, inr, ◌⊎◌, Bool, false, ◌==◌, eqb-true, eq-eqb, true≢false}
use Rattle.std.proofs.Common.{get_or-set_other}
use Rattle.std.specs.Prelude.{IfSome}
use Rattle.std.specs.List.{AllByRecursion, cons_option}
use Rattle.std.specs.Vec.{with_item}
use Rattle.std.proofs.lemmas.Grind.{get_or-set_at}
use Rattle.std.proofs.lemmas.List.{length-map}
use Rattle.std.proofs.Math.Nat.{mul-le-mul_left}
use Rattle.cube_defs.specs.Cell.{Cell, cell_of, cell_prefix, leq}
use Rattle.cube_defs.specs.Rows.{Row, covers}
use Rattle.cube_defs.specs.Tree.{cell_at}
use Rattle.cube_laws.proofs.CallerLemmas.{IsShared, entry, length-shared, shared_covers}
use Rattle.cube_laws.specs.Parting.{shared_by}
use Rattle.cell_closure.proofs.CallerLemmas.{There, is_row, named_dims, shared_there}
use Rattle.base_table.specs.Places.{Places, IsTable, named, row_at}
use Rattle.base_table.specs.declared.table.RowNo.{RowNo}
use Rattle.build_trace.proofs.CallerLemmas.{leq_entry}
use Rattle.qc_arena.specs.Map.{Arena}
use Rattle.class_builder.specs.PrefixNodes.{ArePrefixNodes, IsFull, unset_node, prefix_node}
use Rattle.cell_core.specs.declared.cell.NodeNo.{NodeNo}
use Rattle.class_builder.specs.declared.prefix_nodes.PrefixNodes.{PrefixNodes}
use Rattle.class_builder.proofs.Prefixes.{prefix_from_points, prefix_points}

-- what is true of each row is true of the one at a place
pub each_named : (t : Places) (P : Row ℕ → Type 0) (nos : List RowNo) (i : ℕ) (d : RowNo) → i < length nos
    → AllByRecursion P (named t nos) → IfSome (row_at t (get_or nos i d).0) P
each_named t P [] i d lt h = absurd (omega arith)
each_named t P (x ∷ nos) zero d lt h = go (row_at t x.0) h
  where
    go : (o : Option (Row ℕ)) → AllByRecursion P (cons_option o (named t nos)) → IfSome o P
    go None h = tt
    go (Some r) h = h.0
each_named t P (x ∷ nos) (suc i) d lt h = each_named t P nos i d (omega arith) (go (row_at t x.0) h)
  where
    go : (o : Option (Row ℕ)) → AllByRecursion P (cons_option o (named t nos)) → AllByRecursion P (named t nos)
    go None h = h
    go (Some r) h = h.1

-- a cell that covers a tuple and has a value in each dimension up to d has the tuple's prefix
pub full_prefix : (d : ℕ) (c : Cell ℕ) (tuple : List ℕ) → length c ≡ length (cell_of tuple)
    → leq nat_eq c (cell_of tuple) ≡ true → IsFull c d → cell_prefix (suc d) c ≡ cell_prefix (suc d) (cell_of tuple)
full_prefix d c tuple l h full
    = prefix_from_points (suc d) c (cell_of tuple) l (λ j m. go j (entry c j) refl (full j (omega arith)))
  where
    go : (j : ℕ) (o : Option ℕ) → entry c j ≡ o → is_some o ≡ true → entry c j ≡ entry (cell_of tuple) j
    go j None e s = absurd (true≢false (sym s))
    go j (Some v) e s = e ∙ sym (leq_entry j v c (cell_of tuple) h e)

order : (k j : ℕ) → (k < j) ⊎ ((j < k) ⊎ (k ≡ j))
order zero zero = inr (inr refl)
order zero (suc j) = inl (omega arith)
order (suc k) zero = inr (inl (omega arith))
order (suc k) (suc j) =
    elim (order k j) [
      | inl l ↦ inl (omega arith)
      | inr r ↦ elim r [ inl l ↦ inr (inl (omega arith)) | inr e ↦ inr (inr (omega arith)) ]
    ]

-- places of lines of one width are the same just for the same line
same_line : (w k d j e : ℕ) → d < w → e < w → k * w + d ≡ j * w + e → k ≡ j
same_line w k d j e l m h = go (order k j)
  where
    go : (k < j) ⊎ ((j < k) ⊎ (k ≡ j)) → k ≡ j
    go (inl b) = let s : suc k ≤ j = omega arith in absurd (omega (arith, mul-le-mul_left w s))
    go (inr (inl b)) = let s : suc j ≤ k = omega arith in absurd (omega (arith, mul-le-mul_left w s))
    go (inr (inr e)) = e

-- a node that is noted for one row more
pub noted_more : (t : Places) (a : Arena) (f : PrefixNodes) (k d place : ℕ) (node : NodeNo) → d < t.dims
    → place ≡ k * f.dims + d → place < length f.nodes.items
    → IfSome (row_at t k) (λ row. cell_at a.now node.0 ≡ Some (cell_prefix (suc d) (cell_of row.tuple)))
    → ArePrefixNodes t a f → ArePrefixNodes t a (record { nodes = with_item f.nodes place node; dims = f.dims })
noted_more t a f k d place node within at lt here old = record {
  dims = old.dims;
  each = λ j e m some. go j e m some (place == j * f.dims + e) refl;
}
  where
    new : PrefixNodes
    new = record { nodes = with_item f.nodes place node; dims = f.dims }

    go : (j e : ℕ) → e < t.dims → prefix_node new j e ≢ unset_node → (b : Bool) → (place == j * f.dims + e) ≡ b
        → IfSome (row_at t j) (λ row. cell_at a.now (prefix_node new j e)
        ≡ Some (cell_prefix (suc e) (cell_of row.tuple)))
    go j e m some true h =
        let same : place ≡ j * f.dims + e = eqb-true place (j * f.dims + e) h in
        let w : f.dims ≡ t.dims = old.dims in
        let l : d < f.dims = omega arith in
        let n : e < f.dims = omega arith in
        let line : k ≡ j = same_line f.dims k d j e l n (sym at ∙ same) in
        let dim : d ≡ e = let times : k * f.dims ≡ j * f.dims = ap (λ x. x * f.dims) line in omega arith in
        let is : prefix_node new j e ≡ node.0
        = ap (λ x. x.0) (get_or-set_at f.nodes.items place (j * f.dims + e) node (record { 0 = unset_node })
        (sym same) lt) in
        subst (λ x. IfSome (row_at t j) (λ row. cell_at a.now x ≡ Some (cell_prefix (suc e) (cell_of row.tuple))))
        (sym is)
        (subst (λ x. IfSome (row_at t j) (λ row. cell_at a.now node.0 ≡ Some (cell_prefix (suc x) (cell_of row.tuple))))
        dim
        (subst (λ x. IfSome (row_at t x) (λ row. cell_at a.now node.0 ≡ Some (cell_prefix (suc d) (cell_of row.tuple))))
        line here))
    go j e m some false h =
        let other : j * f.dims + e ≢ place = λ same. true≢false (sym (eq-eqb place (j * f.dims + e) (sym same)) ∙ h) in
        let is : prefix_node new j e ≡ prefix_node f j e
        = ap (λ x. x.0) (get_or-set_other f.nodes.items place (j * f.dims + e) node
        (record { 0 = unset_node }) other) in
        subst (λ x. IfSome (row_at t j) (λ row. cell_at a.now x ≡ Some (cell_prefix (suc e) (cell_of row.tuple))))
        (sym is) (old.each j e m (λ n. some (is ∙ n)))

-- a node of the prefix of what rows share has the prefix of each of them, where they share a value in each dimension up
-- to d
pub prefix_of_row : (t : Places) (a : Arena) (nos : List RowNo) (u : Cell ℕ) (i d node : ℕ) (x : RowNo) → IsTable t
    → There t nos → 0 < length nos → u ≡ shared_by (named t nos) → IsFull u d → i < length nos
    → cell_at a.now node ≡ Some (cell_prefix (suc d) u)
    → IfSome (row_at t (get_or nos i x).0) (λ row. cell_at a.now node ≡ Some (cell_prefix (suc d) (cell_of row.tuple)))
prefix_of_row t a nos u i d node x valid there some is full lt at =
    let shared : IsShared (named t nos) u = shared_there t valid nos there some ∙ ap (λ c. Some c) (sym is) in
    let long : length u ≡ t.dims = length-shared t.dims (named t nos) u (named_dims t valid nos) shared in
    go (row_at t (get_or nos i x).0) refl long
    (each_named t (λ row. covers nat_eq u row ≡ true) nos i x lt (shared_covers (named t nos) u shared))
  where
    go : (o : Option (Row ℕ)) → row_at t (get_or nos i x).0 ≡ o → length u ≡ t.dims
        → IfSome o (λ row. covers nat_eq u row ≡ true)
        → IfSome o (λ row. cell_at a.now node ≡ Some (cell_prefix (suc d) (cell_of row.tuple)))
    go None e long h = tt
    go (Some row) e long h =
        let tuple : length row.tuple ≡ t.dims = (is_row t valid (get_or nos i x).0 row e).tuple in
        at ∙ ap (λ c. Some c) (full_prefix d u row.tuple (long ∙ sym tuple
        ∙ sym (length-map row.tuple (λ v. Some v))) h full)

-- where nodes keep their cells
pub noted_stay : (t : Places) (a b : Arena) (f : PrefixNodes)
    → ((q : ℕ) (x : Cell ℕ) → cell_at a.now q ≡ Some x → cell_at b.now q ≡ Some x) → ArePrefixNodes t a f
    → ArePrefixNodes t b f
noted_stay t a b f cells old = record {
  dims = old.dims;
  each = λ k d lt some. go k d (row_at t k) (old.each k d lt some);
}
  where
    go : (k d : ℕ) (o : Option (Row ℕ))
        → IfSome o (λ row. cell_at a.now (prefix_node f k d) ≡ Some (cell_prefix (suc d) (cell_of row.tuple)))
        → IfSome o (λ row. cell_at b.now (prefix_node f k d) ≡ Some (cell_prefix (suc d) (cell_of row.tuple)))
    go k d None h = tt
    go k d (Some row) h = cells (prefix_node f k d) (cell_prefix (suc d) (cell_of row.tuple)) h

-- what is noted for a row of some is the node of the prefix of what they share, where they share a value in each
-- dimension up to d
pub found_prefix : (t : Places) (a : Arena) (f : PrefixNodes) (nos : List RowNo) (c : Cell ℕ) (i d node : ℕ) (x : RowNo)
    → IsTable t → There t nos → 0 < length nos → d < t.dims
    → cell_prefix (suc d) c ≡ cell_prefix (suc d) (shared_by (named t nos)) → IsFull c d → i < length nos
    → ArePrefixNodes t a f → prefix_node f (get_or nos i x).0 d ≡ node → node ≢ unset_node
    → cell_at a.now node ≡ Some (cell_prefix (suc d) (shared_by (named t nos)))
found_prefix t a f nos c i d node x valid there some within front full lt noted_are is ne =
    go (row_at t (get_or nos i x).0) refl
    (noted_are.each (get_or nos i x).0 d within (λ n. ne (sym is ∙ n)))
    (each_named t (λ row. covers nat_eq u row ≡ true) nos i x lt (shared_covers (named t nos) u shared))
    (each_there nos i lt there)
  where
    u : Cell ℕ
    u = shared_by (named t nos)

    shared : IsShared (named t nos) u
    shared = shared_there t valid nos there some

    long : length u ≡ t.dims
    long = length-shared t.dims (named t nos) u (named_dims t valid nos) shared

    u_full : IsFull u d
    u_full = λ k l. subst (λ o. is_some o ≡ true) (prefix_points (suc d) k c u front (omega arith)) (full k l)

    each_there : (ns : List RowNo) (j : ℕ) → j < length ns → There t ns → is_some (row_at t (get_or ns j x).0) ≡ true
    each_there [] j l h = absurd (omega arith)
    each_there (n ∷ ns) zero l h = h.0
    each_there (n ∷ ns) (suc j) l h = each_there ns j (omega arith) h.1

    go : (o : Option (Row ℕ)) → row_at t (get_or nos i x).0 ≡ o
        → IfSome o (λ row. cell_at a.now (prefix_node f (get_or nos i x).0 d)
        ≡ Some (cell_prefix (suc d) (cell_of row.tuple))) → IfSome o (λ row. covers nat_eq u row ≡ true)
        → is_some o ≡ true
        → cell_at a.now node ≡ Some (cell_prefix (suc d) u)
    go None e at h s = absurd (true≢false (sym s))
    go (Some row) e at h s =
        let tuple : length row.tuple ≡ t.dims = (is_row t valid (get_or nos i x).0 row e).tuple in
        ap (λ n. cell_at a.now n) (sym is) ∙ at
        ∙ ap (λ b. Some b) (sym
        (full_prefix d u row.tuple (long ∙ sym tuple ∙ sym (length-map row.tuple (λ v. Some v))) h u_full))
