-- Lists place by place.
use Rattle.std.proofs.Common.{suc, ◌≡◌, ℕ, ◌+◌, ◌<◌, List, [], ◌∷◌, ◌++◌, ap, drop, get_or, length, refl, sym, subst, take, ◌∙◌, arith}
use Rattle.std.proofs.Math.Seq.{take-suc}
use Rattle.std.specs.List.{All, AllZip}

pub zip_more : {A B : Type 0} (R : A → B → Type 0) (xs : List A) (ys : List B) (x : A) (y : B) → AllZip R xs ys → R x y
    → AllZip R (xs ++ x ∷ []) (ys ++ y ∷ [])
zip_more R [] [] x y h r = (r, tt)
zip_more R [] (b ∷ ys) x y h r = absurd h
zip_more R (a ∷ xs) [] x y h r = absurd h
zip_more R (a ∷ xs) (b ∷ ys) x y h r = (h.0, zip_more R xs ys x y h.1 r)

pub head_and_rest : {A : Type 0} (P : A → Type 0) (xs : List A) (x : A) (rest : List A) → xs ≡ x ∷ rest → All P xs
    → P x × All P rest
head_and_rest P xs x rest e h =
    let all : All P (x ∷ rest) = subst (All P) e h in
    (all 0 x (omega arith), λ k d l. all (suc k) d (omega (arith, l)))

-- a whole list written over another of its length
pub written_over : {A : Type 0} (xs ys : List A) → length xs ≡ length ys
    → take (length xs) (xs ++ drop (length xs) ys) ≡ xs
written_over [] [] e = refl
written_over [] (y ∷ ys) e = absurd (omega (arith, e))
written_over (x ∷ xs) [] e = absurd (omega (arith, e))
written_over (x ∷ xs) (y ∷ ys) e = ap (λ zs. x ∷ zs) (written_over xs ys (omega (arith, e)))

-- one more place of two lists
pub zip_next : {A B : Type 0} (R : A → B → Type 0) (xs : List A) (i : ℕ) (d x : A) (before now : List B) (y : B)
    → i < length xs → x ≡ get_or xs i d → AllZip R (take i xs) before → now ≡ before ++ y ∷ [] → R x y
    → AllZip R (take (i + 1) xs) now
zip_next R xs i d x before now y l is are n one =
    let next : suc i ≡ i + 1 = omega arith in
    let front : take (i + 1) xs ≡ take i xs ++ get_or xs i d ∷ [] = ap (λ (m : ℕ). take m xs) (sym next)
    ∙ take-suc xs i d l in
    subst (λ ys. AllZip R (take (i + 1) xs) ys) (sym n)
    (subst (λ zs. AllZip R zs (before ++ y ∷ [])) (sym front)
    (zip_more R (take i xs) before (get_or xs i d) y are (subst (λ z. R z y) is one)))
