-- The digits after a point, one after another.
use Rattle.std.proofs.Common.{◌≡◌, ◌≢◌, ℕ, zero, suc, ◌+◌, ◌-◌, ◌*◌, ◌/◌, ◌^◌, ◌<◌, ◌≤◌, Bool, true, false, List, [], ◌∷◌, Some, None}
use Rattle.std.proofs.Common.{length, drop, get_or, refl, sym, ap, ◌∙◌, arith}
use Rattle.std.specs.Prelude.{◌==◌, ◌&&◌}
use Rattle.std.specs.Char.{is_ascii_digit}
use Rattle.std.specs.List.{list_all}
use Rattle.std.specs.Str.{all_ascii_digits}
use Rattle.std.proofs.lemmas.Bool.Decides.{nat_tests}
use Rattle.std.proofs.lemmas.List.{drop_more}
use Rattle.std.proofs.Math.Seq.{drop-length}
use Rattle.std.proofs.Math.Nat.{pow-suc, mul-le-mul_right}
use Rattle.aggregates.specs.Numbers.{places, places_in, is_number}
use Rattle.aggregates.proofs.Digits.{is_number-all, ten-pos}

abbrev are_zeros : List ℕ → Bool
are_zeros text = list_all (λ c. c == 48) text

-- before the i-th digit: what was taken and what is to come are the whole
pub record AtPlace (scale : ℕ) (text : List ℕ) (i value unit : ℕ) : Type 0 where
  pub digits : all_ascii_digits (drop i text) ≡ all_ascii_digits text
  pub zeros : are_zeros (drop (scale - i) (drop i text)) ≡ are_zeros (drop scale text)
  pub sum : value + places (scale - i) (drop i text) ≡ places scale text
  pub unit_before : i ≤ scale → unit ≡ 10 ^ (scale - i)
  pub unit_behind : scale ≤ i → unit ≤ 1
  pub room : value + unit ≤ 10 ^ scale

drop-none : (k : ℕ) → drop {A = ℕ} k [] ≡ []
drop-none zero = refl
drop-none (suc k) = refl

places-none : (k : ℕ) → places k [] ≡ 0
places-none zero = refl
places-none (suc k) = refl

pub place-start : (scale unit : ℕ) (text : List ℕ) → unit ≡ 10 ^ scale → AtPlace scale text 0 0 unit
place-start scale unit text e =
    let z : scale - 0 ≡ scale = omega arith in
    record {
      digits = refl;
      zeros = ap (λ k. are_zeros (drop k text)) z;
      sum = let f = ap (λ k. places k text) z in omega (arith, f);
      unit_before = λ h. e ∙ ap (λ k. 10 ^ k) (sym z);
      unit_behind = λ h. let g : scale ≡ 0 = omega arith in let f = ap (λ k. 10 ^ k) g in omega (arith, e, f);
      room = omega arith;
    }

pub place-end : (scale : ℕ) (text : List ℕ) (i value unit : ℕ) → i ≡ length text → 0 < length text
    → AtPlace scale text i value unit → places_in scale text ≡ Some value
place-end scale text i value unit e h at =
    let none : drop i text ≡ [] = ap (λ k. drop k text) e ∙ drop-length text in
    let digits : is_number text ≡ true = is_number-all text h ∙ sym at.digits ∙ ap all_ascii_digits none in
    let zeros : are_zeros (drop scale text) ≡ true = sym at.zeros ∙ ap (λ t. are_zeros (drop (scale - i) t)) none
    ∙ ap are_zeros (drop-none (scale - i)) in
    let sum = ap (places (scale - i)) none ∙ places-none (scale - i) in
    rw digits (rw zeros (ap (λ n. Some n) (omega (arith, sum, at.sum))))

module _ (scale : ℕ) (text : List ℕ) (i value unit : ℕ) (h : i < length text) where
  abbrev c : ℕ
  c = get_or text i 0

  abbrev rest : List ℕ
  rest = drop (i + 1) text

  split : drop i text ≡ c ∷ rest
  split = drop_more text i 0 h

  pub place-bad : AtPlace scale text i value unit → is_ascii_digit c ≡ false → places_in scale text ≡ None
  place-bad at d =
      let e : all_ascii_digits text ≡ false = sym at.digits ∙ ap all_ascii_digits split ∙ rw d refl in
      rw (is_number-all text (omega arith) ∙ e) refl

  behind : AtPlace scale text i value unit → unit / 10 ≡ 0 → scale - i ≡ 0
  behind at u = go (scale - i) refl
    where
      go : (k : ℕ) → scale - i ≡ k → scale - i ≡ 0
      go zero e = e
      go (suc k) e =
          let f : unit ≡ 10 ^ suc k = at.unit_before (omega arith) ∙ ap (λ n. 10 ^ n) e in
          let g = pow-suc 10 k in
          let p = ten-pos k in
          absurd (omega (arith, u, f, g, p))

  -- what stands at the place where no digit counts any more
  last : AtPlace scale text i value unit → scale - i ≡ 0 → ((c == 48) && are_zeros rest) ≡ are_zeros (drop scale text)
  last at e = sym (ap (λ k. are_zeros (drop k (drop i text))) e ∙ ap (λ t. are_zeros (drop 0 t)) split) ∙ at.zeros

  pub place-nonzero : AtPlace scale text i value unit → unit / 10 ≡ 0 → c ≢ 48 → places_in scale text ≡ None
  place-nonzero at u n =
      let other : (c == 48) ≡ false = grind (arith, nat_tests) in
      let zeros : are_zeros (drop scale text) ≡ false = sym (last at (behind at u)) ∙ rw other refl in
      go zeros (is_number text) refl
    where
      go : are_zeros (drop scale text) ≡ false → (b : Bool) → is_number text ≡ b → places_in scale text ≡ None
      go zeros true e = rw e (rw zeros refl)
      go zeros false e = rw e refl

  pub place-room : AtPlace scale text i value unit → c ≤ 57 → value + (c - 48) * (unit / 10) + unit / 10 ≤ 10 ^ scale
  place-room at d =
      let p = mul-le-mul_right (unit / 10) (let q : c - 48 ≤ 9 = omega arith in q) in
      omega (arith, p, at.room)

  pub place-step : AtPlace scale text i value unit → is_ascii_digit c ≡ true → c ≤ 57 → (unit / 10 ≡ 0 → c ≡ 48)
      → AtPlace scale text (i + 1) (value + (c - 48) * (unit / 10)) (unit / 10)
  place-step at d low zero_if = record {
    digits = sym (ap all_ascii_digits split ∙ rw d refl) ∙ at.digits;
    zeros = zeros (scale - i) refl;
    sum = sum (scale - i) refl;
    unit_before = λ l. before l (scale - i) refl;
    unit_behind = λ l. after_one l (scale - i) refl;
    room = place-room at low;
  }
    where
      nothing : scale - i ≡ 0 → unit / 10 ≡ 0
      nothing e = let l : unit ≤ 1 = at.unit_behind (omega arith) in omega arith

      tenth : (k : ℕ) → scale - i ≡ suc k → unit / 10 ≡ 10 ^ k
      tenth k e =
          let f : unit ≡ 10 ^ suc k = at.unit_before (omega arith) ∙ ap (λ n. 10 ^ n) e in
          let g = pow-suc 10 k in
          omega (arith, f, g)

      zeros : (k : ℕ) → scale - i ≡ k → are_zeros (drop (scale - (i + 1)) rest) ≡ are_zeros (drop scale text)
      zeros zero e =
          let f : scale - (i + 1) ≡ 0 = omega arith in
          let one : (c == 48) ≡ true = ap (λ n. n == 48) (zero_if (nothing e)) in
          let g : ((c == 48) && are_zeros rest) ≡ are_zeros rest = rw one refl in
          ap (λ k. are_zeros (drop k rest)) f ∙ sym g ∙ last at e
      zeros (suc k) e =
          let f : scale - (i + 1) ≡ k = omega arith in
          ap (λ n. are_zeros (drop n rest)) f
          ∙ sym (ap (λ n. are_zeros (drop n (drop i text))) e ∙ ap (λ t. are_zeros (drop (suc k) t)) split)
          ∙ at.zeros

      sum : (k : ℕ) → scale - i ≡ k → value + (c - 48) * (unit / 10) + places (scale - (i + 1)) rest ≡ places scale text
      sum zero e =
          let f : scale - (i + 1) ≡ 0 = omega arith in
          let p = ap (λ n. (c - 48) * n) (nothing e) in
          let q : places (scale - (i + 1)) rest ≡ 0 = ap (λ n. places n rest) f in
          let r : places (scale - i) (drop i text) ≡ 0 = ap (λ n. places n (drop i text)) e in
          omega (arith, p, q, r, at.sum)
      sum (suc k) e =
          let f : scale - (i + 1) ≡ k = omega arith in
          let p = ap (λ n. (c - 48) * n) (tenth k e) in
          let q = ap (λ n. places n rest) f in
          let r : places (scale - i) (drop i text) ≡ (c - 48) * 10 ^ k + places k rest
          = ap (λ n. places n (drop i text)) e ∙ ap (places (suc k)) split in
          omega (arith, p, q, r, at.sum)

      before : i + 1 ≤ scale → (k : ℕ) → scale - i ≡ k → unit / 10 ≡ 10 ^ (scale - (i + 1))
      before l zero e = absurd (omega arith)
      before l (suc k) e = let f : k ≡ scale - (i + 1) = omega arith in tenth k e ∙ ap (λ n. 10 ^ n) f

      after_one : scale ≤ i + 1 → (k : ℕ) → scale - i ≡ k → unit / 10 ≤ 1
      after_one l zero e = omega (arith, nothing e)
      after_one l (suc k) e = let f : k ≡ 0 = omega arith in let g = tenth k e ∙ ap (λ n. 10 ^ n) f in omega (arith, g)
