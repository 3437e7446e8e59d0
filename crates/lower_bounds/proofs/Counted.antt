-- How many steps the class of a cell takes.
use Rattle.std.proofs.Common.{◌≡◌, ℕ, zero, suc, ◌+◌, ◌*◌, ◌^◌, ◌≤◌, Some, None, [], ◌∷◌, length, arith, pow-suc}
use Rattle.std.proofs.Math.Pow.{pow_mono}
use Rattle.std.proofs.Math.Nat.{mul-le-mul_right}
use Rattle.cube_defs.specs.Cell.{Cell}
use Rattle.cube_laws.specs.Parts.{value_count}
use Rattle.cube_laws.proofs.CallerLemmas.{square}

-- a cell has no more values than dimensions
pub few_values : (u : Cell ℕ) → value_count u ≤ length u
few_values [] = omega arith
few_values (None ∷ u) = omega (arith, few_values u)
few_values (Some v ∷ u) = omega (arith, few_values u)

more_than : (n : ℕ) → n + 1 ≤ 2 ^ n
more_than zero = omega arith
more_than (suc n) = omega (arith, more_than n, pow-suc 2 n)

-- a search, the way up, a look and the lower bounds: no more than seven times a search
pub steps_in_all : (n d : ℕ) → d ≤ n → (2 * n + 2) + (2 * n + 2) + 1 + (d + 2 ^ d) * (2 * n + 2) ≤ 7 * (n + 1) * 2 ^ n
steps_in_all n d le =
    let low : d + 2 ^ d ≤ n + 2 ^ n = omega (arith, le, pow_mono le) in
    let all : (d + 2 ^ d) * (2 * n + 2) ≤ (n + 2 ^ n) * (2 * n + 2) = mul-le-mul_right (2 * n + 2) low in
    let some : (n + 1) * (5 * (n + 1)) ≤ 2 ^ n * (5 * (n + 1)) = mul-le-mul_right (5 * (n + 1)) (more_than n) in
    let split : 7 * (n + 1) * 2 ^ n ≡ 2 ^ n * (5 * (n + 1)) + 2 ^ n * (2 * n + 2) = grind arith in
    let parts : (n + 2 ^ n) * (2 * n + 2) ≡ n * (2 * n + 2) + 2 ^ n * (2 * n + 2) = grind arith in
    let wide : (2 * n + 2) + (2 * n + 2) + 1 + n * (2 * n + 2) ≤ (n + 1) * (5 * (n + 1)) = fits n in
    omega (arith, all, some, split, parts, wide)
  where
    fits : (n : ℕ) → (2 * n + 2) + (2 * n + 2) + 1 + n * (2 * n + 2) ≤ (n + 1) * (5 * (n + 1))
    fits n =
        let left : (2 * n + 2) + (2 * n + 2) + 1 + n * (2 * n + 2) ≡ 2 * (n * n) + 6 * n + 5 = grind arith in
        let right : (n + 1) * (5 * (n + 1)) ≡ 5 * (n * n) + 10 * n + 5 = grind arith in
        omega (arith, left, right)

-- the way up and the lower bounds
pub steps_of_bounds : (n d : ℕ) → d ≤ n → (2 * n + 2) + (d + 2 ^ d) * (2 * n + 2) ≤ 16 * (n + 1) ^ 2 * 2 ^ d
steps_of_bounds n d le =
    let more : d + 1 ≤ 2 ^ d = more_than d in
    let twice : (1 + (d + 2 ^ d)) * (2 * n + 2) ≤ (2 * 2 ^ d) * (2 * n + 2)
    = mul-le-mul_right (2 * n + 2) (omega (arith, more)) in
    let one : 1 * (4 * ((n + 1) * 2 ^ d)) ≤ (n + 1) * (4 * ((n + 1) * 2 ^ d))
    = mul-le-mul_right (4 * ((n + 1) * 2 ^ d)) (omega arith) in
    let split : (1 + (d + 2 ^ d)) * (2 * n + 2) ≡ (2 * n + 2) + (d + 2 ^ d) * (2 * n + 2) = grind arith in
    let small : (2 * 2 ^ d) * (2 * n + 2) ≡ 1 * (4 * ((n + 1) * 2 ^ d)) = grind arith in
    let large : 4 * ((n + 1) * (4 * ((n + 1) * 2 ^ d))) ≡ 16 * ((n + 1) * (n + 1)) * 2 ^ d = grind arith in
    rw (square (n + 1)) (omega (arith, twice, one, split, small, large))
