-- The steps for one class, and the classes of nodes.
use Rattle.std.proofs.Common.{◌≡◌, ℕ, suc, ◌+◌, ◌*◌, ◌^◌, ◌<◌, ◌≤◌, List, [], ◌∷◌, ◌++◌, length, map, take, get_or, refl, sym, ap, ap₂}
use Rattle.std.proofs.Common.{subst, ◌∙◌, arith}
use Rattle.std.specs.Prelude.{IsSome}
use Rattle.std.specs.List.{All}
use Rattle.std.proofs.lemmas.List.{get_or-map, map-append}
use Rattle.std.proofs.Math.Seq.{take-suc}
use Rattle.std.proofs.lemmas.List.Elements.{All-get_or, All-push}
use Rattle.std.proofs.Math.Nat.{mul-le-mul, mul-le-mul_left, one-le-pow, pow-le-pow_right}
use Rattle.cube_defs.specs.Tree.{Tree}
use Rattle.cell_core.specs.declared.cell.NodeNo.{NodeNo}
use Rattle.qc_arena.specs.RecordReaders.{number, record_at}
use Rattle.tree_search.specs.Found.{IsTreeOf, TreeRows}
use Rattle.iceberg_query.specs.Subtree as seen
use Rattle.iceberg_query.specs.declared.ask.Ask.{Ask}
use Rattle.iceberg_query.specs.declared.hits.ValuedClass.{ValuedClass}
use Rattle.iceberg_query.specs.Hits.{AreClasses, IsValued, class_at, valued_of}
use Rattle.iceberg_query.proofs.Reached.{wide}
use Rattle.lower_bounds.proofs.CallerLemmas.{few_values}
use Rattle.cube_laws.specs.Parts.{value_count}
use Rattle.cube_laws.proofs.CallerLemmas.{square}
pub use Rattle.lower_bounds.proofs.CallerLemmas.{class_there}

above_square : (n : ℕ) → n + 1 ≤ (n + 1) ^ 2
above_square n = let m = mul-le-mul_left {m = 1} {n = n + 1} (n + 1) (omega arith) in omega (arith, square (n + 1), m)

-- an upper bound, a class and its lower bounds
class_steps : (n v : ℕ) → v ≤ n → (2 * n + 2) + 1 + 16 * (n + 1) ^ 2 * 2 ^ v ≤ 32 * (n + 1) ^ 2 * 2 ^ n
class_steps n v l =
    let s = above_square n in
    let p = one-le-pow n 2 (omega arith) in
    let r : 2 ^ v ≤ 2 ^ n = pow-le-pow_right {n = 2} (omega arith) l in
    let a : 16 * (n + 1) ^ 2 * 2 ^ v ≤ 16 * (n + 1) ^ 2 * 2 ^ n = mul-le-mul_left (16 * (n + 1) ^ 2) r in
    let b : (n + 1) * 1 ≤ (n + 1) ^ 2 * 2 ^ n = mul-le-mul s p in
    let c : 16 * (n + 1) ^ 2 * 2 ^ n ≡ 16 * ((n + 1) ^ 2 * 2 ^ n) = grind arith in
    let d : 32 * (n + 1) ^ 2 * 2 ^ n ≡ 32 * ((n + 1) ^ 2 * 2 ^ n) = grind arith in
    omega (arith, a, b, c, d)

pub steps_within : (dims : ℕ) (tree : Tree ℕ) (source : TreeRows) (h : IsTreeOf dims tree source) (k : ℕ)
    (old up read new long : ℕ) → IsSome (record_at tree k).class → long ≡ dims → up ≤ old + (2 * long + 2)
    → read ≡ up + 1
    → new ≤ read + 16 * (dims + 1) ^ 2 * 2 ^ value_count (record_at tree k).cell
    → new ≤ old + 32 * (dims + 1) ^ 2 * 2 ^ dims
steps_within dims tree source h k old up read new long t same a b c =
    let few : value_count (record_at tree k).cell ≤ dims
    = (let v = few_values (record_at tree k).cell in let w = wide dims tree source h k (class_there tree k t) in
    omega (arith, v, w)) in
    let s = class_steps dims (value_count (record_at tree k).cell) few in
    omega (arith, s, same, a, b, c)

pub class_of_item : (tree : Tree ℕ) (nodes : List NodeNo) (i : ℕ) (d : NodeNo) → i < length nodes
    → AreClasses tree (seen.numbers nodes) → IsSome (record_at tree (get_or nodes i d).0).class
class_of_item tree nodes i d l are =
    subst (λ k. IsSome (record_at tree k).class) (get_or-map number nodes i d 0 l)
    (All-get_or (λ k. IsSome (record_at tree k).class) (seen.numbers nodes) i 0
    (omega (arith, l, length-numbers nodes)) are)
  where
    length-numbers : (xs : List NodeNo) → length (map number xs) ≡ length xs
    length-numbers [] = refl
    length-numbers (x ∷ xs) = ap suc (length-numbers xs)

numbers-append : (xs ys : List NodeNo) → seen.numbers (xs ++ ys) ≡ seen.numbers xs ++ seen.numbers ys
numbers-append [] ys = refl
numbers-append (x ∷ xs) ys = ap (λ ks. x.0 ∷ ks) (numbers-append xs ys)

-- one class more
pub hits_more : (source : TreeRows) (tree : Tree ℕ) (before now : List ValuedClass) (v : ValuedClass)
    (nodes : List NodeNo) (i : ℕ) (d : NodeNo) → i < length nodes → now ≡ before ++ v ∷ []
    → map valued_of before ≡ map (class_at source tree) (seen.numbers (take i nodes))
    → valued_of v ≡ class_at source tree (get_or nodes i d).0
    → map valued_of now ≡ map (class_at source tree) (seen.numbers (take (i + 1) nodes))
hits_more source tree before now v nodes i d l e is one =
    let next : suc i ≡ i + 1 = omega arith in
    ap (map valued_of) e
    ∙ map-append valued_of before (v ∷ [])
    ∙ ap₂ (λ xs x. xs ++ x ∷ []) is one
    ∙ sym (map-append (class_at source tree) (seen.numbers (take i nodes)) ((get_or nodes i d).0 ∷ []))
    ∙ ap (map (class_at source tree)) (sym (numbers-append (take i nodes) (get_or nodes i d ∷ []))
    ∙ ap seen.numbers (sym (take-suc nodes i d l) ∙ ap (λ n. take n nodes) next))

pub values_more : (ask : Ask) (before now : List ValuedClass) (v : ValuedClass) → now ≡ before ++ v ∷ []
    → All (IsValued ask) before → IsValued ask v → All (IsValued ask) now
values_more ask before now v e are one = subst (All (IsValued ask)) (sym e) (All-push (IsValued ask) before v are one)

pub steps_more : (i one before now start : ℕ) → before ≤ start + i * one → now ≤ before + one
    → now ≤ start + (i + 1) * one
steps_more i one before now start a b = let e : (i + 1) * one ≡ i * one + one = grind arith in omega (arith, a, b, e)

-- the steps for so many classes are within those for all
pub steps_all : (i n one now start : ℕ) → i ≤ n → now ≤ start + i * one → now ≤ start + n * one
steps_all i n one now start l a = let m : i * one ≤ n * one = mul-le-mul l (omega arith) in omega (arith, a, m)

pub steps_cut : (i n one before now start : ℕ) → i < n → before ≤ start + i * one → now ≤ before + one
    → now ≤ start + n * one
steps_cut i n one before now start l a b
    = steps_all (i + 1) n one now start (omega (arith, l)) (steps_more i one before now start a b)
