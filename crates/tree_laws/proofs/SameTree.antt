-- Two canonical trees of the same rows are equal up to the numbers of their nodes.
use Rattle.std.proofs.Common.{◌≡◌, ℕ, Option, Some, None, List, [], ◌∷◌, map, refl, sym, ap, ap₂, ◌∙◌}
use Rattle.std.specs.declared.cmp.Ordering.{Ordering}
use Rattle.std.specs.FinMap as numbers
use Rattle.std.specs.Option.{option_map}
use Rattle.cube_defs.specs.Cell.{Cell}
use Rattle.cube_defs.specs.Rows.{Row}
use Rattle.cube_defs.specs.Tree.{Edge, Node, Tree, IsCanonical, node_of, cell_at, renamed, renamed_edge}
use Rattle.tree_laws.specs.Renaming.{IsRenaming}
use Rattle.tree_laws.proofs.Lists.{cell_record, some_same}

-- what one value says of two, if it is there
one_option : {X Y Z : Type 0} (f g : X → Z) (h : X → X) (r : Y → Z)
    → ((x z : X) (y : Y) → f x ≡ r y → g z ≡ r y → x ≡ h z) → (o q : Option X) (y : Option Y)
    → option_map f o ≡ option_map r y → option_map g q ≡ option_map r y → o ≡ option_map h q
one_option f g h r one None None None a b = refl
one_option f g h r one None None (Some y) a b = cc
one_option f g h r one None (Some z) None a b = cc
one_option f g h r one None (Some z) (Some y) a b = cc
one_option f g h r one (Some x) None None a b = cc
one_option f g h r one (Some x) None (Some y) a b = cc
one_option f g h r one (Some x) (Some z) None a b = cc
one_option f g h r one (Some x) (Some z) (Some y) a b = ap (λ x. Some x) (one x z y (some_same a) (some_same b))

module _ {A : Type 0} {cmp : A → A → Ordering} {measures : ℕ} {rows : List (Row A)} (s t : Tree A)
    (a : IsCanonical cmp measures rows s) (b : IsCanonical cmp measures rows t) where
  -- the other number of the same cell
  other : (k : ℕ) (o : Option (Node A ℕ)) → numbers.get s k ≡ o → (l : ℕ)
      × ((n : Node A ℕ) → o ≡ Some n → cell_at t l ≡ Some n.cell)
  other k None g = (0, λ n e. cc)
  other k (Some m) g =
      let r : (l : ℕ) × (cell_at t l ≡ Some m.cell) = b.all m.cell (a.each k m g).0 in
      (r.0, λ n e. r.1 ∙ ap (λ x. Some x) (ap (λ x. x.cell) (some_same e)))

  pub name : ℕ → ℕ
  name k = (other k (numbers.get s k) refl).0

  at_name : (k : ℕ) (n : Node A ℕ) → numbers.get s k ≡ Some n → cell_at t (name k) ≡ Some n.cell
  unfolding name
  at_name k n g = (other k (numbers.get s k) refl).1 n g

  one_target : (l k : ℕ) (c : Cell A) → cell_at t l ≡ Some c → cell_at s k ≡ Some c → l ≡ name k
  one_target l k c e f = let n : (n : Node A ℕ) × (numbers.get s k ≡ Some n) × (n.cell ≡ c) = cell_record s k c f in
      b.once l (name k) c e (at_name k n.0 n.1 ∙ ap (λ x. Some x) n.2)

  one_edge : (x z : Edge A ℕ) (y : Edge A (Cell A)) → renamed_edge (cell_at t) x ≡ renamed_edge (λ c. Some c) y
      → renamed_edge (cell_at s) z ≡ renamed_edge (λ c. Some c) y → x ≡ renamed_edge name z
  one_edge x z y e f =
      let dim : x.dim ≡ z.dim = ap (λ w. w.dim) e ∙ sym (ap (λ w. w.dim) f) in
      let value : x.value ≡ z.value = ap (λ w. w.value) e ∙ sym (ap (λ w. w.value) f) in
      let target : x.target ≡ name z.target
      = one_target x.target z.target y.target (ap (λ w. w.target) e) (ap (λ w. w.target) f) in
      λ i. record { dim = dim i; value = value i; target = target i }

  one_list : (xs zs : List (Edge A ℕ)) (ys : List (Edge A (Cell A)))
      → map (renamed_edge (cell_at t)) xs ≡ map (renamed_edge (λ c. Some c)) ys
      → map (renamed_edge (cell_at s)) zs ≡ map (renamed_edge (λ c. Some c)) ys → xs ≡ map (renamed_edge name) zs
  one_list [] [] [] e f = refl
  one_list [] [] (y ∷ ys) e f = cc
  one_list [] (z ∷ zs) [] e f = cc
  one_list [] (z ∷ zs) (y ∷ ys) e f = cc
  one_list (x ∷ xs) [] [] e f = cc
  one_list (x ∷ xs) [] (y ∷ ys) e f = cc
  one_list (x ∷ xs) (z ∷ zs) [] e f = cc
  one_list (x ∷ xs) (z ∷ zs) (y ∷ ys) e f
      = ap₂ (λ w ws. w ∷ ws) (one_edge x z y (cc) (cc)) (one_list xs zs ys (cc) (cc))

  one_record : (m n : Node A ℕ) (y : Node A (Cell A)) → renamed (cell_at t) m ≡ renamed (λ c. Some c) y
      → renamed (cell_at s) n ≡ renamed (λ c. Some c) y → m ≡ renamed name n
  one_record m n y e f =
      let cell : m.cell ≡ n.cell = ap (λ w. w.cell) e ∙ sym (ap (λ w. w.cell) f) in
      let parent : m.parent ≡ option_map name n.parent
      = one_option (cell_at t) (cell_at s) name (λ c. Some c) one_target m.parent n.parent y.parent
      (ap (λ w. w.parent) e) (ap (λ w. w.parent) f) in
      let class : m.class ≡ n.class = ap (λ w. w.class) e ∙ sym (ap (λ w. w.class) f) in
      let forced : m.forced ≡ option_map (renamed_edge name) n.forced
      = one_option (renamed_edge (cell_at t)) (renamed_edge (cell_at s)) (renamed_edge name)
      (renamed_edge (λ c. Some c)) one_edge m.forced n.forced y.forced (ap (λ w. w.forced) e)
      (ap (λ w. w.forced) f) in
      let edges : m.edges ≡ map (renamed_edge name) n.edges
      = one_list m.edges n.edges y.edges (ap (λ w. w.edges) e) (ap (λ w. w.edges) f) in
      λ i. record { cell = cell i; parent = parent i; class = class i; forced = forced i; edges = edges i }

  same_record : (k : ℕ) (n : Node A ℕ) → numbers.get s k ≡ Some n → numbers.get t (name k) ≡ Some (renamed name n)
  same_record k n g = go (numbers.get t (name k)) refl (at_name k n g)
    where
      by : (m : Node A ℕ) → numbers.get t (name k) ≡ Some m → m.cell ≡ n.cell → (o : Option (Node A (Cell A)))
          → node_of cmp measures rows n.cell ≡ o → m ≡ renamed name n
      by m h c None q =
          let bad : Some (renamed (cell_at s) n) ≡ None = (a.each k n g).1
          ∙ ap (option_map (renamed (λ c. Some c))) q in cc
      by m h c (Some y) q =
          one_record m n y
          (some_same ((b.each (name k) m h).1
          ∙ ap (λ p. option_map (renamed (λ c. Some c)) (node_of cmp measures rows p)) c
          ∙ ap (option_map (renamed (λ c. Some c))) q))
          (some_same ((a.each k n g).1 ∙ ap (option_map (renamed (λ c. Some c))) q))

      go : (o : Option (Node A ℕ)) → numbers.get t (name k) ≡ o → option_map (λ n. n.cell) o ≡ Some n.cell
          → numbers.get t (name k) ≡ Some (renamed name n)
      go None h e = cc
      go (Some m) h e = h ∙ ap (λ x. Some x) (by m h (some_same e) (node_of cmp measures rows n.cell) refl)

  pub same_tree : IsRenaming name s t
  same_tree = record {
    records = same_record;
    apart = λ k l n m g h e.
        a.once k l n.cell (ap (option_map (λ x. x.cell)) g)
        (ap (option_map (λ x. x.cell)) h ∙ sym (at_name l m h) ∙ ap (cell_at t) (sym e) ∙ at_name k n g);
    all = λ l m h.
        let r : (k : ℕ) × (cell_at s k ≡ Some m.cell) = a.all m.cell (b.each l m h).0 in
        let n : (n : Node A ℕ) × (numbers.get s r.0 ≡ Some n) × (n.cell ≡ m.cell) = cell_record s r.0 m.cell r.1 in (
          r.0,
          n.0,
          n.1,
          b.once (name r.0) l m.cell (at_name r.0 n.0 n.1 ∙ ap (λ x. Some x) n.2)
              (ap (option_map (λ x. x.cell)) h),
        );
  }
