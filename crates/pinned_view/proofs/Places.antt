-- The places from which pins read, and the least of them.
use Rattle.std.proofs.Common.{◌≡◌, ◌⊎◌, ℕ, suc, ◌+◌, ◌-◌, ◌<◌, ◌≤◌, refl, sym, ap, ◌∙◌, cond, List, [], ◌∷◌, ◌++◌, length, map, min}
use Rattle.std.proofs.Common.{inl, inr, arith, false, true, true≢false, ◌||◌, length-append}
use Rattle.std.specs.Prelude.{nat_lt, ◌==◌}
use Rattle.std.proofs.Math.Nat.{min-eq_left, min-eq_right}
use Rattle.std.proofs.lemmas.Bool.{cases_lt, le-ltb, lt-ltb}
use Rattle.std.proofs.lemmas.Bool.Decides.{eqb_tells}
use Rattle.qc_arena.specs.Map.{ImageMap}
use Rattle.pinned_view.specs.Pins.{AreWithin, kept_after, least_place, moved_back, moved_over, place_without, reads_from}
use Rattle.pinned_view.specs.declared.pins.Pin.{Pin}

min_is : (a b : ℕ) → ((min a b ≡ a) × (a ≤ b)) ⊎ ((min a b ≡ b) × (b ≤ a))
min_is a b = elim (cases_lt a b) [
  | inl lt ↦ inl (min-eq_left (omega (arith, lt)), omega (arith, lt))
  | inr le ↦ inr (min-eq_right le, le)
]

min_less : (a b c d : ℕ) → a ≤ c → b ≤ d → min a b ≤ min c d
min_less a b c d p q = elim (min_is a b) [
  | inl l ↦ elim (min_is c d) [
    | inl r ↦ omega (arith, l.0, r.0, p)
    | inr r ↦ omega (arith, l.0, l.1, r.0, q)
  ]
  | inr l ↦ elim (min_is c d) [
    | inl r ↦ omega (arith, l.0, l.1, r.0, p)
    | inr r ↦ omega (arith, l.0, r.0, q)
  ]
]

min_back : (a b by : ℕ) → min (a - by) (b - by) ≡ min a b - by
min_back a b by = elim (min_is a b) [
  | inl l ↦ min-eq_left (omega (arith, l.1)) ∙ ap (λ n. n - by) (sym l.0)
  | inr l ↦ min-eq_right (omega (arith, l.1)) ∙ ap (λ n. n - by) (sym l.0)
]

pub without_less : (gone n : ℕ) → place_without gone n ≤ n
without_less gone n = elim (cases_lt gone n) [
  | inl lt ↦ let e = ap (λ b. cond b (n - 1) n) (lt-ltb gone n lt) in omega (arith, e)
  | inr le ↦ let e = ap (λ b. cond b (n - 1) n) (le-ltb gone n le) in omega (arith, e)
]

pub without_within : (gone n len : ℕ) → gone ≤ len → n ≤ suc len → place_without gone n ≤ len
without_within gone n len g w = elim (cases_lt gone n) [
  | inl lt ↦ let e = ap (λ b. cond b (n - 1) n) (lt-ltb gone n lt) in omega (arith, e, w)
  | inr le ↦ let e = ap (λ b. cond b (n - 1) n) (le-ltb gone n le) in omega (arith, e, le, g)
]

pub least_over : (gone e e' : ℕ) (pins : List Pin) → e' ≤ e
    → least_place e' (map (moved_over gone) pins) ≤ least_place e pins
least_over gone e e' [] w = w
least_over gone e e' (pin ∷ pins) w =
    least_over gone (min e pin.from) (min e' (place_without gone pin.from)) pins
    (min_less e' (place_without gone pin.from) e pin.from w (without_less gone pin.from))

pub least_back : (by e : ℕ) (pins : List Pin)
    → least_place (e - by) (map (moved_back by) pins) ≡ least_place e pins - by
least_back by e [] = refl
least_back by e (pin ∷ pins) = ap (λ n. least_place n (map (moved_back by) pins)) (min_back e pin.from by)
    ∙ least_back by (min e pin.from) pins

least_more : (e e' : ℕ) (pin : Pin) (pins : List Pin) → e ≤ e' → pin.from ≤ e
    → least_place e' (pin ∷ pins) ≡ least_place e (pin ∷ pins)
least_more e e' pin pins more w =
    let one : min e' pin.from ≡ pin.from = min-eq_right (omega (arith, more, w)) in
    let two : min e pin.from ≡ pin.from = min-eq_right w in
    ap (λ n. least_place n pins) (one ∙ sym two)

-- after a change a pin reads from the first list
pub least_after : (pins : List Pin) (kept : List ImageMap) (images : ImageMap) → AreWithin (length kept) pins
    → least_place (length kept) pins ≡ 0 → least_place (length (kept_after pins kept images)) pins ≡ 0
least_after [] kept images within least = least
least_after (pin ∷ pins) kept images within least =
    least_more (length kept) (length (kept ++ images ∷ [])) pin pins (omega (arith, length-append kept (images ∷ [])))
    within.0 ∙ least

-- one pin more, which reads from the end
pub least_push : (e : ℕ) (pins : List Pin) (pin : Pin) → pin.from ≡ e → least_place e (pins ++ pin ∷ []) ≤ least_place e pins
least_push e [] pin is = elim (min_is e pin.from) [
  | inl l ↦ omega (arith, l.0)
  | inr l ↦ omega (arith, l.0, l.1)
]
least_push e (p ∷ pins) pin is = least_under (min e p.from) pins
  where
    least_under : (n : ℕ) (ps : List Pin) → least_place n (ps ++ pin ∷ []) ≤ least_place n ps
    least_under n [] = elim (min_is n pin.from) [
      | inl l ↦ omega (arith, l.0)
      | inr l ↦ omega (arith, l.0, l.1)
    ]
    least_under n (q ∷ ps) = least_under (min n q.from) ps

-- the pins that read from behind a place
abbrev pub count_after : ℕ → List Pin → ℕ
count_after place [] = 0
count_after place (pin ∷ pins) = cond (nat_lt place pin.from) (suc (count_after place pins)) (count_after place pins)

count_one : (place n rest : ℕ) → ((place < n) × (cond (nat_lt place n) (suc rest) rest ≡ suc rest))
    ⊎ ((n ≤ place) × (cond (nat_lt place n) (suc rest) rest ≡ rest))
count_one place n rest = elim (cases_lt place n) [
  | inl lt ↦ inl (lt, ap (λ b. cond b (suc rest) rest) (lt-ltb place n lt))
  | inr le ↦ inr (le, ap (λ b. cond b (suc rest) rest) (le-ltb place n le))
]

count_length : (place : ℕ) (pins : List Pin) → count_after place pins ≤ length pins
count_length place [] = omega arith
count_length place (pin ∷ pins) = elim (count_one place pin.from (count_after place pins)) [
  | inl l ↦ omega (arith, l.1, count_length place pins)
  | inr r ↦ omega (arith, r.1, count_length place pins)
]

-- one pin more keeps a count at the later place less than that at the earlier one
count_both : (place n less rest rest' : ℕ) → less + rest' ≤ rest
    → less + cond (nat_lt (suc place) n) (suc rest') rest' ≤ cond (nat_lt place n) (suc rest) rest
count_both place n less rest rest' more = elim (count_one place n rest) [
  | inl l ↦ elim (count_one (suc place) n rest') [
    | inl k ↦ omega (arith, l.1, k.1, more)
    | inr k ↦ omega (arith, l.1, k.1, more)
  ]
  | inr r ↦ elim (count_one (suc place) n rest') [
    | inl k ↦ absurd (omega (arith, r.0, k.0))
    | inr k ↦ omega (arith, r.1, k.1, more)
  ]
]

-- fewer read from behind a later place
pub count_later : (place : ℕ) (pins : List Pin) → count_after (suc place) pins ≤ count_after place pins
count_later place [] = omega arith
count_later place (pin ∷ pins) =
    let more = count_later place pins in
    let both = count_both place pin.from 0 (count_after place pins) (count_after (suc place) pins) (omega (arith, more)) in
    omega (arith, both)

-- and one fewer where a pin reads from the later one
pub count_read : (place : ℕ) (pins : List Pin) → reads_from pins (suc place) ≡ true
    → suc (count_after (suc place) pins) ≤ count_after place pins
count_read place [] is = absurd (true≢false (sym is))
count_read place (pin ∷ pins) is = elim (eqb_tells pin.from (suc place)) [
  | inl s ↦
      elim (count_one place pin.from (count_after place pins)) [
        | inl l ↦ elim (count_one (suc place) pin.from (count_after (suc place) pins)) [
          | inl k ↦ absurd (omega (arith, s.1, k.0))
          | inr k ↦ omega (arith, l.1, k.1, count_later place pins)
        ]
        | inr r ↦ absurd (omega (arith, s.1, r.0))
      ]
  | inr s ↦
      let rest = sym (ap (λ b. b || reads_from pins (suc place)) s.0) ∙ is in
      let more = count_read place pins rest in
      let both = count_both place pin.from 1 (count_after place pins) (count_after (suc place) pins) (omega (arith, more)) in
      omega (arith, both)
]

-- not all read from behind the first place
pub count_first : (e : ℕ) (pins : List Pin) → 0 < e → least_place e pins ≡ 0 → suc (count_after 0 pins) ≤ length pins
count_first e [] some least = absurd (omega (arith, some, least))
count_first e (pin ∷ pins) some least = elim (count_one 0 pin.from (count_after 0 pins)) [
  | inl l ↦
      let more = count_first (min e pin.from) pins (positive (min_is e pin.from) some l.0) least in
      omega (arith, l.1, more)
  | inr r ↦ omega (arith, r.1, count_length 0 pins)
]
  where
    positive : ((min e pin.from ≡ e) × (e ≤ pin.from)) ⊎ ((min e pin.from ≡ pin.from) × (pin.from ≤ e)) → 0 < e
        → 0 < pin.from → 0 < min e pin.from
    positive (inl l) a b = omega (arith, l.0, a)
    positive (inr l) a b = omega (arith, l.0, b)

-- a pin that reads from behind a place after a merge did so before
pub read_over : (gone q : ℕ) (pins : List Pin) → gone ≤ q → reads_from (map (moved_over gone) pins) q ≡ false
    → reads_from pins (suc q) ≡ false
read_over gone q [] w none = refl
read_over gone q (pin ∷ pins) w none = elim (eqb_tells pin.from (suc q)) [
  | inl s ↦
      let moved : place_without gone pin.from ≡ q
      = ap (λ b. cond b (pin.from - 1) pin.from) (lt-ltb gone pin.from (omega (arith, s.1, w)))
      ∙ (omega (arith, s.1)) in
      elim (eqb_tells (place_without gone pin.from) q) [
        | inl t ↦ absurd (true≢false (sym (ap (λ b. b || reads_from (map (moved_over gone) pins) q) t.0) ∙ none))
        | inr t ↦ absurd (t.1 moved)
      ]
  | inr s ↦ ap (λ b. b || reads_from pins (suc q)) s.0 ∙ read_over gone q pins w (rest none)
]
  where
    rest : (place_without gone pin.from == q || reads_from (map (moved_over gone) pins) q) ≡ false
        → reads_from (map (moved_over gone) pins) q ≡ false
    rest none = elim (eqb_tells (place_without gone pin.from) q) [
      | inl t ↦ absurd (true≢false (sym (ap (λ b. b || reads_from (map (moved_over gone) pins) q) t.0) ∙ none))
      | inr t ↦ sym (ap (λ b. b || reads_from (map (moved_over gone) pins) q) t.0) ∙ none
    ]
