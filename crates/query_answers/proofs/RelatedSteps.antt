-- What the questions about the neighbours of a class may take.
use Rattle.std.proofs.Common.{◌≡◌, ◌≤◌, ◌+◌, ◌*◌, ℕ, Option, Some, None, List, length, subst, arith}
use Rattle.std.specs.Option.{option_map}
use Rattle.std.proofs.Math.Nat.{mul-le-mul_right}
use Rattle.cube_defs.specs.Cell.{Cell}
use Rattle.cube_defs.specs.Text.{Text}
use Rattle.tree_laws.proofs.CallerLemmas.{some_same}
use Rattle.warehouse.specs.State.{State}
use Rattle.query_answers.specs.Lattice.{code_of, steps_of_related}

-- a search alone
search-within : (n more from to : ℕ) → to ≤ from + (2 * n + 2) → to ≤ from + 17 * (n + 1) * (1 + more)
search-within n more from to h =
    let split : 17 * (n + 1) * (1 + more) ≡ 17 * (n + 1) * more + 17 * (n + 1) = grind arith in
    omega (arith, h, split)

-- a search, what is asked of the class, and the classes of the answer
all-within : (n size count most start found asked end : ℕ) → count ≤ most → found ≤ start + (2 * n + 2)
    → asked ≤ found + 17 * (n + 1) * size → end ≤ asked + count * (2 * n + 3)
    → end ≤ start + 17 * (n + 1) * (1 + (size + most))
all-within n size count most start found asked end few h k l =
    let some : count * (2 * n + 3) ≤ most * (2 * n + 3) = mul-le-mul_right (2 * n + 3) few in
    let split : 17 * (n + 1) * (1 + (size + most)) ≡ 17 * (n + 1) + 17 * (n + 1) * size + 17 * (n + 1) * most
    = grind arith in
    let more : 17 * (n + 1) * most ≡ most * (2 * n + 3) + (15 * (n * most) + 14 * most) = grind arith in
    omega (arith, some, h, k, l, split, more)

-- the bounds of the lattice's questions, by the width of the tree
pub sixteen-within : (width n size from to : ℕ) → width ≡ n → to ≤ from + 16 * (width + 1) * size
    → to ≤ from + 17 * (n + 1) * size
sixteen-within width n size from to same h =
    let more : 17 * (n + 1) * size ≡ 16 * (n + 1) * size + (n + 1) * size = grind arith in
    let here : to ≤ from + 16 * (n + 1) * size = subst (λ m. to ≤ from + 16 * (m + 1) * size) same h in
    omega (arith, here, more)

module _ (s : State) (relation : Cell Text → List (Cell Text)) (size : Cell ℕ → ℕ) where
  -- where the cell covers no row
  pub none-within : (upper : Option (Cell Text)) (from to : ℕ) → to ≤ from + (2 * length s.schema.dims + 2)
      → to ≤ from + steps_of_related s relation size upper
  none-within upper from to h = search-within (length s.schema.dims) _ from to h

  -- where it has a class
  pub related-within : (upper : Option (Cell Text)) (cell : Cell ℕ) (told : Cell Text)
      (count start found asked end : ℕ) → Some cell ≡ option_map (code_of s) upper → Some told ≡ upper
      → count ≤ length (relation told) → found ≤ start + (2 * length s.schema.dims + 2)
      → asked ≤ found + 17 * (length s.schema.dims + 1) * size cell
      → end ≤ asked + count * (2 * length s.schema.dims + 3) → end ≤ start + steps_of_related s relation size upper
  related-within None cell told count start found asked end code is few h k l = cc
  related-within (Some upper) cell told count start found asked end code is few h k l =
      let few' : count ≤ length (relation upper) = subst (λ u. count ≤ length (relation u)) (some_same is) few in
      let k' : asked ≤ found + 17 * (length s.schema.dims + 1) * size (code_of s upper)
      = subst (λ c. asked ≤ found + 17 * (length s.schema.dims + 1) * size c) (some_same code) k in
      all-within (length s.schema.dims) (size (code_of s upper)) count (length (relation upper)) start found asked end
      few' h k' l
