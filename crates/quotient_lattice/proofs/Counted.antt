-- How many steps the neighbours of a class take.
use Rattle.std.proofs.Common.{◌≡◌, ℕ, zero, suc, ◌+◌, ◌*◌, ◌^◌, ◌≤◌, arith, pow-suc, subst, sym}
use Rattle.std.proofs.Math.Nat.{mul-le-mul_right}

more_than : (n : ℕ) → n + 1 ≤ 2 ^ n
more_than zero = omega arith
more_than (suc n) = omega (arith, more_than n, pow-suc 2 n)

-- the way up, and the searches of the cells that generalize it
pub steps_of_parents : (n d : ℕ) → (2 * n + 2) + (d + 2 * 2 ^ d) * (2 * n + 2) ≤ 16 * (n + 1) * 2 ^ d
steps_of_parents n d =
    let more : d + 1 ≤ 2 ^ d = more_than d in
    let all : (1 + (d + 2 * 2 ^ d)) * (2 * n + 2) ≤ (8 * 2 ^ d) * (2 * n + 2)
    = mul-le-mul_right (2 * n + 2) (omega (arith, more)) in
    let split : (1 + (d + 2 * 2 ^ d)) * (2 * n + 2) ≡ (2 * n + 2) + (d + 2 * 2 ^ d) * (2 * n + 2) = grind arith in
    let whole : (8 * 2 ^ d) * (2 * n + 2) ≡ 16 * (n + 1) * 2 ^ d = grind arith in
    omega (arith, all, split, whole)

pub times_more : (n a b : ℕ) → a ≤ b → a * (2 * n + 3) ≤ (2 * n + 3) * b
times_more n a b le =
    let all : a * (2 * n + 3) ≤ b * (2 * n + 3) = mul-le-mul_right (2 * n + 3) le in
    let turn : b * (2 * n + 3) ≡ (2 * n + 3) * b = grind arith in
    omega (arith, all, turn)

-- the steps on the way up: what is left of the bound at a node, and then at its parent
pub steps_up : (m old start own rest way all new on values : ℕ)
    → old + (2 * m + 3) * (own + rest) + 3 * suc values ≤ start + (2 * m + 3) * (way + own) + 3 * all + 1
    → new ≤ old + 2 + (1 + on * (2 * m + 3))
    → new + (2 * m + 3) * rest + 3 * values ≤ start + (2 * m + 3) * (way + on) + 3 * all + 1
steps_up m old start own rest way all new on values h l =
    let a : (2 * m + 3) * (own + rest) ≡ (2 * m + 3) * own + (2 * m + 3) * rest = grind arith in
    let b : (2 * m + 3) * (way + own) ≡ (2 * m + 3) * way + (2 * m + 3) * own = grind arith in
    let c : (2 * m + 3) * (way + on) ≡ (2 * m + 3) * way + on * (2 * m + 3) = grind arith in
    let h' : old + ((2 * m + 3) * own + (2 * m + 3) * rest) + 3 * suc values ≤ start
    + ((2 * m + 3) * way + (2 * m + 3) * own) + 3 * all + 1
    = subst (λ y. old + ((2 * m + 3) * own + (2 * m + 3) * rest) + 3 * suc values ≤ start + y + 3 * all + 1) b
    (subst (λ x. old + x + 3 * suc values ≤ start + (2 * m + 3) * (way + own) + 3 * all + 1) a h) in
    subst (λ y. new + (2 * m + 3) * rest + 3 * values ≤ start + y + 3 * all + 1) (sym c)
    (total new old start ((2 * m + 3) * own) ((2 * m + 3) * rest) ((2 * m + 3) * way)
    (on * (2 * m + 3)) values all h' l)
  where
    total : (new old start o r w e values all : ℕ) → old + (o + r) + 3 * suc values ≤ start + (w + o) + 3 * all + 1
        → new ≤ old + 2 + (1 + e) → new + r + 3 * values ≤ start + (w + e) + 3 * all + 1
    total new old start o r w e values all h l = omega arith

-- at the root, or where memory ran out
pub steps_end : (m n start rest way all new on values : ℕ) → m ≡ n → all ≤ m → on ≤ rest
    → new + (2 * m + 3) * rest + 3 * values ≤ start + (2 * m + 3) * (way + on) + 3 * all + 1
    → new + 1 ≤ start + ((2 * n + 3) * way + 3 * n + 2)
steps_end m n start rest way all new on values same few le h =
    let c : (2 * m + 3) * (way + on) ≡ (2 * m + 3) * way + on * (2 * m + 3) = grind arith in
    let h' : new + (2 * m + 3) * rest + 3 * values ≤ start + ((2 * m + 3) * way + on * (2 * m + 3)) + 3 * all + 1
    = subst (λ y. new + (2 * m + 3) * rest + 3 * values ≤ start + y + 3 * all + 1) c h in
    subst (λ k. new + 1 ≤ start + ((2 * k + 3) * way + 3 * k + 2)) same
    (total new start ((2 * m + 3) * rest) ((2 * m + 3) * way) (on * (2 * m + 3)) values all m few
    (times_more m on rest le) h')
  where
    total : (new start r w e values all m : ℕ) → all ≤ m → e ≤ r → new + r + 3 * values ≤ start + (w + e) + 3 * all + 1
        → new + 1 ≤ start + (w + 3 * m + 2)
    total new start r w e values all m a b h = omega arith

-- one class more, of those that are visited
pub steps_more : (each counted one all start old new : ℕ) → old ≤ start + each * counted → new ≤ old + each * one
    → counted + one ≤ all → new ≤ start + each * all
steps_more each counted one all start old new h l le =
    let split : (counted + one) * each ≡ each * counted + each * one = grind arith in
    let some : (counted + one) * each ≤ all * each = mul-le-mul_right each le in
    let turn : all * each ≡ each * all = grind arith in
    omega (arith, h, l, split, some, turn)

-- no more classes than all
pub steps_most : (each counted all start now : ℕ) → now ≤ start + each * counted → counted ≤ all
    → now ≤ start + each * all
steps_most each counted all start now h le =
    let some : counted * each ≤ all * each = mul-le-mul_right each le in
    let turn : counted * each ≡ each * counted = grind arith in
    let turned : all * each ≡ each * all = grind arith in
    omega (arith, h, some, turn, turned)

-- a class that is asked for is counted once, and its cell is read
pub steps_of_met : (n edges : ℕ) → 1 + (2 * n + 2) ≤ 17 * (n + 1) * (edges + 1)
steps_of_met n edges =
    let some : 17 * (n + 1) * (edges + 1) ≡ 17 * (n + 1) * edges + 17 * (n + 1) = grind arith in
    omega (arith, some)

-- of another the children are found
pub steps_of_seen : (n edges : ℕ) → 1 + 16 * (n + 1) * (edges + 1) ≤ 17 * (n + 1) * (edges + 1)
steps_of_seen n edges =
    let split : 17 * (n + 1) * (edges + 1) ≡ 16 * (n + 1) * (edges + 1) + ((n + 1) * edges + n + 1) = grind arith in
    omega (arith, split)
