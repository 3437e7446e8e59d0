-- Marked places are moved to the prefix, and the others taken away.
use Rattle.std.proofs.Common.{◌≡◌, ℕ, ◌+◌, ◌<◌, ◌≤◌, length, List, [], ◌∷◌, ◌++◌, Bool, true, false, cond, refl, ap, sym, ◌∙◌, arith, take}
use Rattle.std.proofs.Common.{get_or, set, zero, suc}
use Rattle.std.proofs.lemmas.List.{get_or-set_other}
use Rattle.std.proofs.Math.Seq.{take-suc-set}
use Rattle.base_table.specs.Last.{picked}

one : (n : ℕ) → n + 1 ≡ suc n
one n = omega arith

-- one more place is looked at
pub pick_step : {A : Type 0} (bs : List Bool) (xs : List A) (i : ℕ) (d : A) → i < length bs → i < length xs
    → picked (take (suc i) bs) xs ≡ picked (take i bs) xs ++ cond (get_or bs i false) (get_or xs i d ∷ []) []
pick_step [] xs i d h l = absurd (omega arith)
pick_step (b ∷ bs) [] i d h l = absurd (omega arith)
pick_step (b ∷ bs) (x ∷ xs) zero d h l = refl
pick_step (true ∷ bs) (x ∷ xs) (suc i) d h l = ap (λ r. x ∷ r) (pick_step bs xs i d (omega arith) (omega arith))
pick_step (false ∷ bs) (x ∷ xs) (suc i) d h l = pick_step bs xs i d (omega arith) (omega arith)

pub pick_skip : {A : Type 0} (bs : List Bool) (xs : List A) (i : ℕ) → i < length bs → get_or bs i false ≡ false
    → picked (take (suc i) bs) xs ≡ picked (take i bs) xs
pick_skip [] xs i h e = absurd (omega arith)
pick_skip (b ∷ bs) [] zero h e = refl
pick_skip (b ∷ bs) [] (suc i) h e = refl
pick_skip (b ∷ bs) (x ∷ xs) zero h e = ap (λ c. cond c (x ∷ []) []) e
pick_skip (true ∷ bs) (x ∷ xs) (suc i) h e = ap (λ r. x ∷ r) (pick_skip bs xs i (omega arith) e)
pick_skip (false ∷ bs) (x ∷ xs) (suc i) h e = pick_skip bs xs i (omega arith) e

-- the first `len` keys are those kept of the first i, and the others stand where they stood
pub record IsPacked {K : Type 0} (keys : List K) (kept : List Bool) (was : List K) (i len : ℕ) : Type 0 where
  pub within : len ≤ i
  pub front : take len keys ≡ picked (take i kept) was
  pub rest : (m : ℕ) (d : K) → i ≤ m → get_or keys m d ≡ get_or was m d

pub skip_pack : {K : Type 0} (keys : List K) (kept : List Bool) (was : List K) (i len : ℕ) → i < length kept
    → get_or kept i false ≡ false
    → IsPacked keys kept was i len → IsPacked keys kept was (i + 1) len
skip_pack keys kept was i len lk unmarked r = record {
  within = omega (arith, r.within);
  front = r.front ∙ sym (pick_skip kept was i lk unmarked) ∙ ap (λ n. picked (take n kept) was) (sym (one i));
  rest = λ m d l. r.rest m d (omega arith);
}

pub step_pack : {K : Type 0} (keys : List K) (kept : List Bool) (was : List K) (i len : ℕ) (key : K)
    → i < length kept → length kept ≡ length was → length keys ≡ length was → get_or kept i false ≡ true
    → key ≡ get_or keys i key
    → IsPacked keys kept was i len → IsPacked (set keys len key) kept was (i + 1) (len + 1)
step_pack {K = K} keys kept was i len key lk ek eks marked is r =
    let in_keys : len < length keys = omega (arith, r.within) in
    let keys_are : take (len + 1) (set keys len key) ≡ take len keys ++ key ∷ []
    = ap (λ n. take n (set keys len key)) (one len) ∙ take-suc-set keys len key in_keys in
    let more : picked (take (i + 1) kept) was ≡ picked (take i kept) was ++ key ∷ [] =
    ap (λ n. picked (take n kept) was) (one i) ∙ pick_step kept was i key lk (omega arith)
    ∙ ap (λ (b : Bool). picked (take i kept) was ++ cond b (get_or was i key ∷ []) []) marked
    ∙ ap (λ (k : K). picked (take i kept) was ++ k ∷ []) (sym (r.rest i key (omega arith)) ∙ sym is) in
    record {
      within = omega (arith, r.within);
      front = keys_are ∙ ap (λ (l : List K). l ++ key ∷ []) r.front ∙ sym more;
      rest = λ m d l. get_or-set_other keys len m key d (omega (arith, r.within)) ∙ r.rest m d (omega arith);
    }
