-- Records under more names.
use Rattle.std.proofs.Common.{◌≡◌, ℕ, Option, Some, None, List, [], ◌∷◌, map, ap, ap₂, refl}
use Rattle.std.specs.Option.{option_map}
use Rattle.cube_defs.specs.Cell.{Cell}
use Rattle.cube_defs.specs.Tree.{Edge, Node, renamed, renamed_edge}
use Rattle.tree_laws.proofs.CallerLemmas.{some_same}

module _ {A : Type 0} where
  -- more names leave the named targets
  edge_more : (g h : ℕ → Option (Cell A)) → ((l : ℕ) (c : Cell A) → g l ≡ Some c → h l ≡ Some c)
      → (x : Edge A ℕ) (y : Edge A (Cell A)) → renamed_edge g x ≡ renamed_edge (λ c. Some c) y
      → renamed_edge h x ≡ renamed_edge (λ c. Some c) y
  edge_more g h more x y e =
      let t : h x.target ≡ Some y.target = more x.target y.target (ap (λ z. z.target) e) in
      λ i. record { dim = ap (λ z. z.dim) e i; value = ap (λ z. z.value) e i; target = t i }

  edges_more : (g h : ℕ → Option (Cell A)) → ((l : ℕ) (c : Cell A) → g l ≡ Some c → h l ≡ Some c)
      → (xs : List (Edge A ℕ)) (ys : List (Edge A (Cell A)))
      → map (renamed_edge g) xs ≡ map (renamed_edge (λ c. Some c)) ys
      → map (renamed_edge h) xs ≡ map (renamed_edge (λ c. Some c)) ys
  edges_more g h more [] [] e = refl
  edges_more g h more [] (y ∷ ys) e = cc
  edges_more g h more (x ∷ xs) [] e = cc
  edges_more g h more (x ∷ xs) (y ∷ ys) e
      = ap₂ (λ z zs. z ∷ zs) (edge_more g h more x y (cc)) (edges_more g h more xs ys (cc))

  forced_more : (g h : ℕ → Option (Cell A)) → ((l : ℕ) (c : Cell A) → g l ≡ Some c → h l ≡ Some c)
      → (x : Option (Edge A ℕ)) (y : Option (Edge A (Cell A)))
      → option_map (renamed_edge g) x ≡ option_map (renamed_edge (λ c. Some c)) y
      → option_map (renamed_edge h) x ≡ option_map (renamed_edge (λ c. Some c)) y
  forced_more g h more None None e = refl
  forced_more g h more None (Some y) e = cc
  forced_more g h more (Some x) None e = cc
  forced_more g h more (Some x) (Some y) e = ap (λ z. Some z) (edge_more g h more x y (some_same e))

  parent_more : (g h : ℕ → Option (Cell A)) → ((l : ℕ) (c : Cell A) → g l ≡ Some c → h l ≡ Some c)
      → (x : Option ℕ) (y : Option (Cell A)) → option_map g x ≡ option_map (λ c. Some c) y
      → option_map h x ≡ option_map (λ c. Some c) y
  parent_more g h more None None e = refl
  parent_more g h more None (Some y) e = cc
  parent_more g h more (Some x) None e = cc
  parent_more g h more (Some x) (Some y) e = ap (λ z. Some z) (more x y (some_same e))

  pub renamed_more : (g h : ℕ → Option (Cell A)) → ((l : ℕ) (c : Cell A) → g l ≡ Some c → h l ≡ Some c)
      → (n : Node A ℕ) (m : Node A (Cell A)) → renamed g n ≡ renamed (λ c. Some c) m
      → renamed h n ≡ renamed (λ c. Some c) m
  renamed_more g h more n m e =
      let a = parent_more g h more n.parent m.parent (ap (λ z. z.parent) e) in
      let b = forced_more g h more n.forced m.forced (ap (λ z. z.forced) e) in
      let c = edges_more g h more n.edges m.edges (ap (λ z. z.edges) e) in
      λ i. record {
        cell = ap (λ z. z.cell) e i;
        parent = a i;
        class = ap (λ z. z.class) e i;
        forced
            = b i;
        edges = c i;
      }
