-- The nodes numbered by their places in cell order are a canonical tree.
use Rattle.std.proofs.Common.{◌≡◌, ℕ, zero, suc, ◌+◌, ◌-◌, ◌==◌, Bool, true, false, cond, Option, Some, None, List, [], ◌∷◌, map, flat_map}
use Rattle.std.proofs.Common.{length, slice_get, refl, sym, ap, ap₂, subst, ◌∙◌, inl, inr, arith, true≢false, nat_cmp}
use Rattle.std.specs.declared.cmp.Ordering.{Ordering}
use Rattle.std.specs.Ordering.{eq_by_cmp, is_eq}
use Rattle.std.specs.Cmp.{IsTotalOrder, nat_cmp_total, tied_itself}
use Rattle.std.specs.FinMap as numbers
use Rattle.std.specs.List.{AllByRecursion, range_with_len}
use Rattle.std.specs.Option.{option_map}
use Rattle.std.proofs.lemmas.Option.{slice_get-map}
use Rattle.cube_defs.specs.Cell.{Cell, cell_eq, depth, cell_prefix}
use Rattle.cube_defs.specs.Rows.{Row, closure, is_node}
use Rattle.cube_defs.specs.Tree.{Edge, Node, Tree, IsCanonical, node_of, next_value, edges_in, forced_child, as_list, parent_cell_of, nodes}
use Rattle.cube_defs.specs.Tree.{covered, cell_at, renamed, renamed_edge}
use Rattle.cube_laws.specs.Lists.{Among}
use Rattle.cube_laws.proofs.CallerLemmas.{among_append, get_among, IsEquality, cell_eq-exact, cell_eq-same, node_closed, nodes-is}
use Rattle.cube_laws.proofs.CallerLemmas.{equality_by}
use Rattle.tree_laws.specs.Labels.{record_of}
use Rattle.tree_laws.proofs.Lists.{some_same}
use Rattle.tree_laws.proofs.Sums.{EachOnce, once_filter, covered_once}
use Rattle.tree_laws.proofs.Entries.{at_tie}
use Rattle.tree_laws.proofs.Children.{node_prefixes}
use Rattle.tree_laws.proofs.Records.{target_node}

module _ {X : Type 0} where
  -- an item that stands once has one place
  one_place : (xs : List X) (k l : ℕ) (x : X) → EachOnce xs → slice_get xs k ≡ Some x → slice_get xs l ≡ Some x → k ≡ l
  one_place [] k l x o g h = cc
  one_place (y ∷ xs) zero zero x o g h = refl
  one_place (y ∷ xs) zero (suc l) x o g h
      = absurd (o.0 (subst (λ z. Among z xs) (sym (some_same g)) (get_among xs l x h)))
  one_place (y ∷ xs) (suc k) zero x o g h
      = absurd (o.0 (subst (λ z. Among z xs) (sym (some_same h)) (get_among xs k x g)))
  one_place (y ∷ xs) (suc k) (suc l) x o g h = ap suc (one_place xs k l x o.1 g h)

module _ {Y : Type 0} where
  -- a list with numbers from j on
  numbered : ℕ → List Y → List (ℕ × Y)
  numbered j [] = []
  numbered j (y ∷ ys) = (j, y) ∷ numbered (suc j) ys

  find-later : (j k : ℕ) (ys : List Y) → numbers.find nat_cmp (suc j + k) (numbered (suc j) ys) ≡ slice_get ys k
      → (y : Y) → numbers.find nat_cmp (j + suc k) (numbered j (y ∷ ys)) ≡ slice_get ys k
  unfolding numbered
  find-later j k ys more y = go (eq_by_cmp nat_cmp (j + suc k) j) refl
    where
      go : (b : Bool) → eq_by_cmp nat_cmp (j + suc k) j ≡ b
          → cond b (Some y) (numbers.find nat_cmp (j + suc k) (numbered (suc j) ys)) ≡ slice_get ys k
      go true t = let e = at_tie (j + suc k) j t in absurd (omega arith)
      go false t = ap (λ n. numbers.find nat_cmp n (numbered (suc j) ys)) (let e : j + suc k ≡ suc j + k
          = omega arith in e) ∙ more

  find-numbered : (j k : ℕ) (ys : List Y) → numbers.find nat_cmp (j + k) (numbered j ys) ≡ slice_get ys k
  unfolding numbered
  find-numbered j k [] = refl
  find-numbered j zero (y ∷ ys)
      = ap (λ b. cond b (Some y) (numbers.find nat_cmp (j + 0) (numbered (suc j) ys))) (tied (j + 0) j (omega arith))
    where
      tied : (a b : ℕ) → a ≡ b → eq_by_cmp nat_cmp a b ≡ true
      tied a b e = subst (λ n. eq_by_cmp nat_cmp a n ≡ true) e (ap (λ o. is_eq o) (tied_itself nat_cmp_total a))
  find-numbered j (suc k) (y ∷ ys) = find-later j k ys (find-numbered (suc j) k ys) y

-- numbers that lead back to the cells
module _ {A : Type 0} (place : Cell A → ℕ) (back : ℕ → Option (Cell A)) where
  edge_back : (x : Edge A (Cell A)) → back (place x.target) ≡ Some x.target
      → renamed_edge back (renamed_edge place x) ≡ renamed_edge (λ c. Some c) x
  edge_back x h = λ i. record { dim = x.dim; value = x.value; target = h i }

  edges_back : (xs : List (Edge A (Cell A)))
      → ((x : Edge A (Cell A)) → Among x xs → back (place x.target) ≡ Some x.target)
      → map (renamed_edge back) (map (renamed_edge place) xs) ≡ map (renamed_edge (λ c. Some c)) xs
  edges_back [] h = refl
  edges_back (x ∷ xs) h = ap₂ (λ y ys. y ∷ ys) (edge_back x (h x (inl refl))) (edges_back xs (λ y m. h y (inr m)))

  record_back : (n : Node A (Cell A)) → ((t : Cell A) → n.parent ≡ Some t → back (place t) ≡ Some t)
      → ((x : Edge A (Cell A)) → n.forced ≡ Some x → Among x n.edges)
      → ((x : Edge A (Cell A)) → Among x n.edges → back (place x.target) ≡ Some x.target)
      → renamed back (renamed place n) ≡ renamed (λ c. Some c) n
  record_back n up first h =
      let parent : option_map back (option_map place n.parent) ≡ option_map (λ c. Some c) n.parent = over n.parent up in
      let forced : option_map (renamed_edge back) (option_map (renamed_edge place) n.forced)
      ≡ option_map (renamed_edge (λ c. Some c)) n.forced = on n.forced first in
      let edges : map (renamed_edge back) (map (renamed_edge place) n.edges) ≡ map (renamed_edge (λ c. Some c)) n.edges
      = edges_back n.edges h in
      λ i. record { cell = n.cell; parent = parent i; class = n.class; forced = forced i; edges = edges i }
    where
      over : (o : Option (Cell A)) → ((t : Cell A) → o ≡ Some t → back (place t) ≡ Some t)
          → option_map back (option_map place o) ≡ option_map (λ c. Some c) o
      over None f = refl
      over (Some t) f = ap (λ x. Some x) (f t refl)

      on : (o : Option (Edge A (Cell A))) → ((x : Edge A (Cell A)) → o ≡ Some x → Among x n.edges)
          → option_map (renamed_edge back) (option_map (renamed_edge place) o)
          ≡ option_map (renamed_edge (λ c. Some c)) o
      on None f = refl
      on (Some x) f = ap (λ y. Some y) (edge_back x (h x (f x refl)))

module _ {A : Type 0} {cmp : A → A → Ordering} (total : IsTotalOrder cmp) (anti : numbers.IsAntisymmetric cmp)
    (measures : ℕ) (rows : List (Row A)) where
  law : IsEquality (eq_by_cmp cmp)
  law = equality_by total anti

  -- the place of a cell in a list
  place_in : List (Cell A) → Cell A → ℕ
  place_in [] c = 0
  place_in (d ∷ ds) c = cond (cell_eq (eq_by_cmp cmp) d c) 0 (suc (place_in ds c))

  at_place : (ds : List (Cell A)) (c : Cell A) → Among c ds → slice_get ds (place_in ds c) ≡ Some c
  unfolding place_in
  at_place [] c m = absurd m
  at_place (d ∷ ds) c m = go (at_place ds c) (cell_eq (eq_by_cmp cmp) d c) refl m
    where
      go : (Among c ds → slice_get ds (place_in ds c) ≡ Some c) → (b : Bool) → cell_eq (eq_by_cmp cmp) d c ≡ b
          → Among c (d ∷ ds) → slice_get (d ∷ ds) (cond b 0 (suc (place_in ds c))) ≡ Some c
      go more true e m = ap (λ x. Some x) (cell_eq-exact law d c e)
      go more false e (inl s)
          = absurd (true≢false (sym (cell_eq-same law c) ∙ ap (λ x. cell_eq (eq_by_cmp cmp) x c) s ∙ e))
      go more false e (inr k) = more k

  place : Cell A → ℕ
  place = place_in (nodes cmp rows)

  -- the record of a cell, by places
  numbered_by : Cell A → Option (Node A (Cell A)) → Node A ℕ
  numbered_by c None = record { cell = c; parent = None; class = None; forced = None; edges = [] }
  numbered_by c (Some n) = renamed place n

  record_at : Cell A → Node A ℕ
  record_at c = numbered_by c (node_of cmp measures rows c)

  record_cell : (c : Cell A) → (record_at c).cell ≡ c
  unfolding record_at numbered_by
  record_cell c = go (closure (eq_by_cmp cmp) rows c)
    where
      go : (o : Option (Cell A)) → (numbered_by c (option_map (λ u. record_of cmp measures rows c u) o)).cell ≡ c
      go None = refl
      go (Some u) = refl

  pub made : Tree A
  made = numbers.from_entries (numbered 0 (map record_at (nodes cmp rows)))

  get_made : (k : ℕ) → numbers.get made k ≡ option_map record_at (slice_get (nodes cmp rows) k)
  unfolding made
  get_made k =
      numbers.get-from_entries nat_cmp_total (numbered 0 (map record_at (nodes cmp rows))) k
      ∙ ap (λ n. numbers.find nat_cmp n (numbered 0 (map record_at (nodes cmp rows)))) (let e : k ≡ 0 + k
      = omega arith in e)
      ∙ find-numbered 0 k (map record_at (nodes cmp rows)) ∙ slice_get-map record_at (nodes cmp rows) k

  cell_made : (k : ℕ) → cell_at made k ≡ slice_get (nodes cmp rows) k
  cell_made k = ap (option_map (λ n. n.cell)) (get_made k) ∙ go (slice_get (nodes cmp rows) k)
    where
      go : (o : Option (Cell A)) → option_map (λ n. n.cell) (option_map record_at o) ≡ o
      go None = refl
      go (Some c) = ap (λ x. Some x) (record_cell c)

  module _ (dims : ℕ) (wide : AllByRecursion (λ row. length row.tuple ≡ dims) rows) where
    there : (c : Cell A) → is_node (eq_by_cmp cmp) rows c ≡ true → cell_at made (place c) ≡ Some c
    unfolding place
    there c h = cell_made (place_in (nodes cmp rows) c)
        ∙ at_place (nodes cmp rows) c ((nodes-is total anti dims rows wide c).1 h)

    right_record : (c : Cell A) → is_node (eq_by_cmp cmp) rows c ≡ true
        → Some (renamed (cell_at made) (record_at c)) ≡ option_map (renamed (λ d. Some d)) (node_of cmp measures rows c)
    unfolding record_at numbered_by
    right_record c h = let u = node_closed law rows c h in go u.0 u.1
      where
        up : (t : Cell A) → parent_cell_of cmp c ≡ Some t → cell_at made (place t) ≡ Some t
        up t e = there t (by (depth c == 0) e)
          where
            by : (b : Bool) → cond b None (Some (cell_prefix (depth c - 1) c)) ≡ Some t
                → is_node (eq_by_cmp cmp) rows t ≡ true
            by true e = cc
            by false e = subst (λ x. is_node (eq_by_cmp cmp) rows x ≡ true) (some_same e)
                (node_prefixes law rows c (depth c - 1) h)

        go : (u : Cell A) → closure (eq_by_cmp cmp) rows c ≡ Some u
            → Some (renamed (cell_at made) (numbered_by c (node_of cmp measures rows c)))
            ≡ option_map (renamed (λ d. Some d)) (node_of cmp measures rows c)
        go u e = subst (λ o. Some (renamed (cell_at made) (numbered_by c o)) ≡ option_map (renamed (λ d. Some d)) o)
            (sym is) (ap (λ x. Some x)
            (record_back place (cell_at made) n up first
            (λ x m. there x.target (target_node total anti measures rows c n h is x m))))
          where
            n : Node A (Cell A)
            n = record_of cmp measures rows c u

            is : node_of cmp measures rows c ≡ Some (record_of cmp measures rows c u)
            is = ap (option_map (λ u. record_of cmp measures rows c u)) e

            first : (x : Edge A (Cell A)) → forced_child cmp c u (next_value cmp (depth c) u) ≡ Some x
                → Among x (record_of cmp measures rows c u).edges
            first x q = (among_append x
                (flat_map (edges_in cmp rows c) (range_with_len (depth c) (next_value cmp (depth c) u - depth c)))
                (as_list cmp (forced_child cmp c u (next_value cmp (depth c) u)))).1
                (inr (subst (λ o. Among x (as_list cmp o)) (sym q) (inl refl)))

    pub made_canonical : IsCanonical cmp measures rows made
    made_canonical = record {
      each = λ k n g. by k n g (slice_get (nodes cmp rows) k) refl;
      once = λ k l c g h. one_place (nodes cmp rows) k l c
          (once_filter (is_node (eq_by_cmp cmp) rows) (covered cmp rows) (covered_once total anti rows))
          (sym (cell_made k) ∙ g) (sym (cell_made l) ∙ h);
      all = λ c h. (place c, there c h);
    }
      where
        by : (k : ℕ) (n : Node A ℕ) → numbers.get made k ≡ Some n → (o : Option (Cell A))
            → slice_get (nodes cmp rows) k ≡ o → (is_node (eq_by_cmp cmp) rows n.cell ≡ true)
            × (Some (renamed (cell_at made) n) ≡ option_map (renamed (λ c. Some c)) (node_of cmp measures rows n.cell))
        by k n g None e = let none : numbers.get made k ≡ None = get_made k ∙ ap (option_map record_at) e in cc
        by k n g (Some c) e =
            let is : record_at c ≡ n = some_same (sym (get_made k ∙ ap (option_map record_at) e) ∙ g) in
            let node : is_node (eq_by_cmp cmp) rows c ≡ true
            = (nodes-is total anti dims rows wide c).0 (get_among (nodes cmp rows) k c e) in
            subst (λ m. (is_node (eq_by_cmp cmp) rows m.cell ≡ true)
            × (Some (renamed (cell_at made) m) ≡ option_map (renamed (λ c. Some c))
            (node_of cmp measures rows m.cell))) is
            (subst (λ d. (is_node (eq_by_cmp cmp) rows d ≡ true)
            × (Some (renamed (cell_at made) (record_at c)) ≡ option_map (renamed (λ c. Some c))
            (node_of cmp measures rows d))) (sym (record_cell c)) (node, right_record c node))
