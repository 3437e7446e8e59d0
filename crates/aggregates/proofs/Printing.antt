-- Texts that are written one after another, and digits that are written from the last.
use Rattle.std.proofs.Common.{◌≡◌, ℕ, suc, ◌+◌, ◌-◌, ◌/◌, ◌%◌, ◌^◌, ◌<◌, ◌≤◌, List, [], ◌∷◌, ◌++◌, length, take, drop, get_or, sym, ap, ◌∙◌}
use Rattle.std.proofs.Common.{append_assoc, arith}
use Rattle.std.specs.Prelude.{slice_set as set}
use Rattle.std.proofs.lemmas.List.{take_at, take_more, set_at, length-take-le}
use Rattle.std.proofs.lemmas.Slice.{drop-append-drop}
use Rattle.std.proofs.Math.Nat.{div-div-eq-div-mul, pow-suc}
use Rattle.aggregates.specs.Texts.{last_digits}

-- a text after the one that stands at the beginning
pub put-on : (old front more mid out : List ℕ) (a e : ℕ) → mid ≡ front ++ drop a old → a ≡ length front → a ≤ e
    → out ≡ take a mid ++ more ++ drop e mid → out ≡ front ++ more ++ drop e old
put-on old front more mid out a e m l h o =
    let t : take a mid ≡ front = ap (take a) m ∙ take_at front (drop a old) a (sym l) in
    let d : drop e mid ≡ drop e old = ap (drop e) m ∙ drop-append-drop a old front e h (sym l) in
    o ∙ ap (λ x. x ++ more ++ drop e mid) t ∙ ap (λ x. front ++ more ++ x) d

pub between-texts : (front more : List ℕ) (b : ℕ) → (front ++ b ∷ []) ++ more ≡ front ++ b ∷ more
between-texts front more b = append_assoc front (b ∷ []) more

digit-put : (xs digits more out : List ℕ) (p d : ℕ) → p < length xs → out ≡ take (p + 1) xs ++ digits ++ more
    → set out p d ≡ take p xs ++ d ∷ digits ++ more
digit-put xs digits more out p d h e =
    let regrouped : out ≡ take p xs ++ get_or xs p 0 ∷ (digits ++ more) =
    e ∙ ap (λ x. x ++ digits ++ more) (take_more xs p 0 h)
    ∙ append_assoc (take p xs ++ get_or xs p 0 ∷ []) digits more
    ∙ append_assoc (take p xs) (get_or xs p 0 ∷ []) (digits ++ more)
    in
    ap (λ l. set l p d) regrouped
    ∙ set_at (take p xs) (get_or xs p 0) (digits ++ more) d p (length-take-le p xs (omega arith))
    ∙ sym (append_assoc (take p xs) (d ∷ digits) more)

digits-more : (v k left m : ℕ) → m ≡ suc k → left ≡ v / 10 ^ k → (48 + left % 10) ∷ last_digits k v ≡ last_digits m v
digits-more v k left m e f = ap (λ n. (48 + n % 10) ∷ last_digits k v) f ∙ ap (λ n. last_digits n v) (sym e)

pub digit-left : (v k left m : ℕ) → m ≡ suc k → left ≡ v / 10 ^ k → left / 10 ≡ v / 10 ^ m
digit-left v k left m e f =
    ap (λ n. n / 10) f ∙ div-div-eq-div-mul v (10 ^ k) 10
    ∙ ap (λ n. v / n) (sym (pow-suc 10 k) ∙ ap (λ n. 10 ^ n) (sym e))

-- the next digit, before those that are there
pub digit-out : (xs out more : List ℕ) (v left place k m : ℕ) → 0 < place → place ≤ length xs → m ≡ suc k
    → left ≡ v / 10 ^ k → out ≡ take place xs ++ last_digits k v ++ more
    → set out (place - 1) (48 + left % 10) ≡ take (place - 1) xs ++ last_digits m v ++ more
digit-out xs out more v left place k m h l e f o =
    let p : place ≡ place - 1 + 1 = omega arith in
    digit-put xs (last_digits k v) more out (place - 1) (48 + left % 10) (omega arith) (o
    ∙ ap (λ n. take n xs ++ last_digits k v ++ more) p)
    ∙ ap (λ x. take (place - 1) xs ++ x ++ more) (digits-more v k left m e f)
