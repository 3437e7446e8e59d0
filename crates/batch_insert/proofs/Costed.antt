-- The steps of a plan and of its writes, part by part.
use Rattle.std.proofs.Common.{◌≡◌, inl, inr, ℕ, zero, suc, ◌+◌, ◌*◌, ◌^◌, ◌<◌, ◌≤◌, List, [], ◌∷◌, ◌++◌, length, take, get_or, refl, ap}
use Rattle.std.proofs.Common.{◌∙◌, arith, length-append}
use Rattle.std.proofs.lemmas.List.Sums.{sum_by-append, sum_by-cons, sum_by_more}
use Rattle.std.proofs.Math.Nat.{add-mul, mul-le-mul_right, one-le-pow}
use Rattle.std.specs.List.{sum_by}
use Rattle.std.proofs.lemmas.List.{take_more}
use Rattle.cube_defs.specs.Cell.{Cell, mask}
use Rattle.cube_defs.specs.Tree.{Tree}
use Rattle.cube_laws.specs.Lists.{Among}
use Rattle.qc_arena.specs.Map.{Arena}
use Rattle.batch_insert.specs.declared.plan.PlannedNode.{PlannedNode}
use Rattle.batch_insert.specs.declared.plan.LabelCopy.{LabelCopy}
use Rattle.batch_insert.specs.declared.plan.TupleLabel.{TupleLabel}
use Rattle.batch_insert.specs.declared.plan.NodeKind.{NodeKind}
use Rattle.batch_insert.specs.Cases.{Case, IsPrefix}
use Rattle.batch_insert.specs.Costs.{copy_cost, edges_at}
use Rattle.batch_insert.specs.Whole.{IsCopyOf}
use Rattle.batch_insert.proofs.Coming.{prefix_told}
use Rattle.batch_insert.proofs.Costing.{copy_within}
use Rattle.batch_insert.proofs.Prefixes.{prefix_before, prefix_deep}

-- one part more
pub spot_more : (xs ys : List PlannedNode) (x : PlannedNode) (k o e : ℕ) → ys ≡ xs ++ x ∷ []
    → length ys + (k + (o + 2 * e)) ≡ length xs + (k + (o + 2 * e)) + 1
spot_more xs ys x k o e h = omega (arith, ap length h, length-append xs (x ∷ []))

pub own_more : (xs ys : List TupleLabel) (x : TupleLabel) (s k e : ℕ) → ys ≡ xs ++ x ∷ []
    → s + (k + (length ys + 2 * e)) ≡ s + (k + (length xs + 2 * e)) + 1
own_more xs ys x s k e h = omega (arith, ap length h, length-append xs (x ∷ []))

pub end_more : (xs ys : List NodeKind) (x : NodeKind) (s k o : ℕ) → ys ≡ xs ++ x ∷ []
    → s + (k + (o + 2 * length ys)) ≡ s + (k + (o + 2 * length xs)) + 2
end_more xs ys x s k o h = omega (arith, ap length h, length-append xs (x ∷ []))

pub copying_more : (tree : Tree ℕ) (xs ys : List LabelCopy) (x : LabelCopy) (s o e w : ℕ) → ys ≡ xs ++ x ∷ []
    → copy_cost tree x ≤ w
    → s + (sum_by (copy_cost tree) ys + (o + 2 * e)) ≤ s + (sum_by (copy_cost tree) xs + (o + 2 * e)) + w
copying_more tree xs ys x s o e w h le
    = omega (
      arith,
      le,
      ap (sum_by (copy_cost tree)) h,
      sum_by-append (copy_cost tree) xs (x ∷ []),
      sum_by-cons (copy_cost tree) x [],
    )

-- the copied labels of p's prefix are within its edges
pub copying_within : {t : Cell ℕ} {a : Arena} (c : Case t a) (x : LabelCopy) → IsCopyOf c x
    → (p : Cell ℕ) (i : ℕ) → IsPrefix c p i → x.mask ≡ mask p → copy_cost a.now x ≤ 1 + 2 * edges_at c p
copying_within {a = a} c x is p i front dims =
    rw (← (prefix_told c is.node p (prefix_before c is.node _ is.dim (prefix_deep c is.node is.dim is.front)
    (omega arith) is.front)
    (prefix_before c p _ i (prefix_deep c p i front) (omega arith) front) (is.dims ∙ dims))) (copy_within c x is)

-- sums over the first parts
pub taken_length : {X : Type 0} (xs : List X) (k : ℕ) (d : X) → k < length xs
    → length (take (k + 1) xs) ≡ length (take k xs) + 1
taken_length xs k d h = ap length (take_more xs k d h) ∙ length-append _ (get_or xs k d ∷ [])

-- one dimension of a node's plan: its weight is so many for each
module _ (n e : ℕ) where
  abbrev each_dim : ℕ
  each_dim = 2 * n + 7 + 2 * e

  next_times : (i : ℕ) → (i + 1) * each_dim ≡ i * each_dim + each_dim
  next_times i = let h = add-mul i 1 each_dim in omega (arith, h)

  pub turn_start : (s k b m i : ℕ) → m ≤ k + (1 + 2 * e) → s + m + b ≤ s + k + b + (1 + 2 * e) + i * each_dim
  turn_start s k b m i h = omega (arith, h)

  pub turn_costs : (s k b start i : ℕ) (s1 k1 b1 more s2 k2 : ℕ)
      → s + k + b ≤ start + (1 + 2 * e) + i * each_dim → s1 + k1 ≤ s + k + (2 * n + 5) + more → b1 + more ≤ b
      → s2 ≤ s1 + 1 → k2 ≤ k1 + (1 + 2 * e)
      → s2 + k2 + b1 ≤ start + (1 + 2 * e) + (i + 1) * each_dim
  turn_costs s k b start i s1 k1 b1 more s2 k2 h l m o p = omega (arith, h, l, m, o, p, next_times i)

  -- the forced child ends it
  pub forced_costs : (s k b start i : ℕ) (s1 k1 b1 more s2 k2 : ℕ)
      → s + k + b ≤ start + (1 + 2 * e) + i * each_dim → s1 + k1 ≤ s + k + (2 * n + 5) + more → b1 + more ≤ b
      → s2 ≤ s1 + 1 → k2 ≤ k1 + 2
      → i < n → 6 + 2 * e + n * each_dim ≤ b1 → s2 + k2 + 1 ≤ start
  forced_costs s k b start i s1 k1 b1 more s2 k2 h l m o p before own =
      let all : (i + 1) * each_dim ≤ n * each_dim
      = mul-le-mul_right each_dim (omega (arith, before)) in
      omega (arith, h, l, m, o, p, own, next_times i, all)

  -- the class ends it
  pub class_costs : (s k b start i : ℕ) (s2 k2 : ℕ) → s + k + b ≤ start + (1 + 2 * e) + i * each_dim
      → s2 ≤ s + 1 → k2 ≤ k + 2
      → i ≤ n → 6 + 2 * e + n * each_dim ≤ b → s2 + k2 + 1 ≤ start
  class_costs s k b start i s2 k2 h o p before own =
      let all : i * each_dim ≤ n * each_dim = mul-le-mul_right each_dim before in
      omega (arith, h, o, p, own, all)

-- a label, and the child that it may lead to
pub label_costs : (n s s1 s2 k k1 more : ℕ) → s1 ≤ s + 1 → s2 ≤ s1 + (2 * n + 2) → k1 ≡ k + 1
    → s2 + k1 ≤ s + k + (2 * n + 5) + more
label_costs n s s1 s2 k k1 more a b c = omega (arith, a, b, c)

pub child_costs : (n s s1 s2 s3 k k1 k2 k3 below more : ℕ) → s1 ≤ s + 1 → s2 ≤ s1 + (2 * n + 2) → k1 ≡ k + 1
    → k2 ≡ k1 + 1 → s3 + k3 + 1 ≤ s2 + k2 + below → below ≡ more → s3 + k3 ≤ s + k + (2 * n + 5) + more
child_costs n s s1 s2 s3 k k1 k2 k3 below more a b c d e f = omega (arith, a, b, c, d, e, f)

-- all together
pub all_steps : (n below before after s0 s1 s2 s3 s4 planned_nodes writes : ℕ) → below ≤ 128 * (n + 1) ^ 2 * after
    → s1 ≤ s0 + 1 → s2 + (planned_nodes + writes) + 1 ≤ s1 + below → s3 ≤ s2 + 1 + planned_nodes → s4 ≤ s3 + writes
    → s4 ≤ s0 + 256 * (n + 1) ^ 2 * (before + after + 1)
all_steps n below before after s0 s1 s2 s3 s4 planned_nodes writes b one two three four =
    go ((n + 1) ^ 2) (one-le-pow 2 (n + 1) (omega arith)) b
  where
    go : (k : ℕ) → 1 ≤ k → below ≤ 128 * k * after → s4 ≤ s0 + 256 * k * (before + after + 1)
    go k pos b = grind (arith, pos, b, one, two, three, four)

pub taken_le : {X : Type 0} (xs : List X) (k : ℕ) → length (take k xs) ≤ length xs
taken_le [] zero = omega arith
taken_le [] _ = omega arith
taken_le (x ∷ xs) zero = omega arith
taken_le (x ∷ xs) (suc k) = let h = taken_le xs k in omega (arith, h)

pub taken_more : {X : Type 0} (f : X → ℕ) (xs : List X) (k : ℕ) (d : X) → k < length xs → (s s1 s2 : ℕ)
    → s1 ≤ s + sum_by f (take k xs) → s2 ≤ s1 + f (get_or xs k d) → s2 ≤ s + sum_by f (take (k + 1) xs)
taken_more f xs k d h s s1 s2 a b = let e = sum_by_more f xs k d h in omega (arith, a, b, e)

pub among_taken : {X : Type 0} (x : X) (xs : List X) (k : ℕ) → Among x (take k xs) → Among x xs
among_taken x [] zero m = absurd m
among_taken x [] _ m = absurd m
among_taken x (y ∷ xs) zero m = absurd m
among_taken x (y ∷ xs) (suc k) (inl m) = inl m
among_taken x (y ∷ xs) (suc k) (inr m) = inr (among_taken x xs k m)

pub among_here : {X : Type 0} (xs : List X) (k : ℕ) (d : X) → k < length xs → Among (get_or xs k d) xs
among_here [] k d h = absurd (omega (arith, h))
among_here (x ∷ xs) zero d h = inl refl
among_here (x ∷ xs) (suc k) d h = inr (among_here xs k d (omega (arith, h)))
