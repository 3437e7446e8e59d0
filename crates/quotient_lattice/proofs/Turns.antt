-- Loops over lists, element by element.
use Rattle.std.proofs.Common.{◌≡◌, ℕ, suc, ◌+◌, ◌*◌, ◌<◌, ◌≤◌, List, [], ◌∷◌, ◌++◌, length, map, take, get_or, sym, ap, ap₂, ◌∙◌, arith}
use Rattle.std.proofs.lemmas.List.{map-append}
use Rattle.std.proofs.Math.Nat.{mul-le-mul}
use Rattle.std.proofs.Math.Seq.{take-suc}

-- what some turns cost is within what all cost
pub steps_all : (i n one now start : ℕ) → i ≤ n → now ≤ start + i * one → now ≤ start + n * one
steps_all i n one now start l a = let m : i * one ≤ n * one = mul-le-mul l (omega arith) in omega (arith, a, m)

-- one element more of each of two lists
pub map_more : {A B C : Type 0} (f : A → C) (g : B → C) (before now : List A) (x : A) (ys : List B) (i : ℕ) (d : B)
    → i < length ys → now ≡ before ++ x ∷ [] → map f before ≡ map g (take i ys) → f x ≡ g (get_or ys i d)
    → map f now ≡ map g (take (i + 1) ys)
map_more f g before now x ys i d l e is one =
    let next : suc i ≡ i + 1 = omega arith in
    ap (map f) e
    ∙ map-append f before (x ∷ [])
    ∙ ap₂ (λ xs y. xs ++ y ∷ []) is one
    ∙ sym (map-append g (take i ys) (get_or ys i d ∷ []))
    ∙ ap (map g) (sym (take-suc ys i d l) ∙ ap (λ n. take n ys) next)
