-- Ids and amounts are small.
use Rattle.std.proofs.Common.{◌≡◌, ◌<◌, ◌≤◌, ◌+◌, ◌*◌, ◌^◌, ℕ, zero, suc, List, [], ◌∷◌, ◌++◌, length, get_or, drop, refl, sym, ap, arith}
use Rattle.std.proofs.Common.{Some, None, true, false, Bool, cond, pos, negsuc, w64, ℤ, append_assoc}
use Rattle.std.specs.Prelude.{Option, option_map, unwrap_or, nat_abs, neg_ℤ, nat_lt, nat_le, ◌&&◌, ◌==◌, FitsSigned}
use Rattle.std.specs.List.{All}
use Rattle.std.proofs.lemmas.Bool.{and_parts, ltb-true, leb-true}
use Rattle.std.proofs.lemmas.Int.{ints}
use Rattle.std.proofs.lemmas.List.{drop_more}
use Rattle.std.proofs.lemmas.List.Elements.{All-cons}
use Rattle.std.proofs.lemmas.Option.{cond_some}
use Rattle.aggregates.specs.Numbers.{amount_in, after_digits, digit_prefix, id_in, is_number, magnitude_in, number, tail_in, within}
use Rattle.cube_defs.specs.declared.limits.TheConstants.{MAX_AMOUNT}
use Rattle.qc_schema.specs.Schema.{Measure, no_measure}
use Rattle.csv_load.specs.Files.{amounts_in}
use Rattle.csv_load.specs.Batch.{IsSmall}
use Rattle.csv_load.specs.Columns.{cons_some}

pub id-small : (text : List ℕ) (n : ℕ) → id_in text ≡ Some n → n < 2 ^ 64
id-small text n e =
    let p = cond_some (is_number text && nat_lt (number text) (2 ^ 64)) (number text) n e in
    let q = and_parts (is_number text) (nat_lt (number text) (2 ^ 64)) p.0 in
    omega (arith, p.1, ltb-true (number text) (2 ^ 64) q.1)

within-small : (o : Option ℕ) (n : ℕ) → within o ≡ Some n → n ≤ MAX_AMOUNT
within-small None n e = absurd (cc e)
within-small (Some m) n e = let p = cond_some (nat_le m MAX_AMOUNT) m n e in
    omega (arith, p.1, leb-true m MAX_AMOUNT p.0)

magnitude-small : (scale : ℕ) (text : List ℕ) (n : ℕ) → magnitude_in scale text ≡ Some n → n ≤ MAX_AMOUNT
magnitude-small scale text n e = by (is_number (digit_prefix text)) e
  where
    by : (b : Bool) → cond b
        (within (option_map (λ m. number (digit_prefix text) * 10 ^ scale + m) (tail_in scale (after_digits text))))
        None ≡ Some n → n ≤ MAX_AMOUNT
    by true m = within-small
        (option_map (λ m. number (digit_prefix text) * 10 ^ scale + m) (tail_in scale (after_digits text))) n m
    by false m = absurd (cc m)

abs-neg : (n : ℕ) → nat_abs (neg_ℤ (pos n)) ≡ n
abs-neg zero = refl
abs-neg (suc n) = omega arith

mapped-small : (f : ℕ → ℤ) → ((n : ℕ) → nat_abs (f n) ≡ n) → (scale : ℕ) (text : List ℕ) (o : Option ℕ) (a : ℤ)
    → magnitude_in scale text ≡ o → option_map f o ≡ Some a → nat_abs a ≤ MAX_AMOUNT
mapped-small f same scale text None a e m = absurd (cc m)
mapped-small f same scale text (Some n) a e m =
    let is : f n ≡ a = cc in
    omega (arith, ap nat_abs is, same n, magnitude-small scale text n e)

pub amount-small : (scale : ℕ) (text : List ℕ) (a : ℤ) → amount_in scale text ≡ Some a → nat_abs a ≤ MAX_AMOUNT
amount-small scale [] a e = absurd (cc e)
amount-small scale (c ∷ cs) a e = by (c == 45) e
  where
    by : (b : Bool) → cond b (option_map (λ n. neg_ℤ (pos n)) (magnitude_in scale cs))
        (option_map (λ n. pos n) (magnitude_in scale (cond (c == 43) cs (c ∷ cs)))) ≡ Some a → nat_abs a ≤ MAX_AMOUNT
    by true m = mapped-small (λ n. neg_ℤ (pos n)) abs-neg scale cs _ a refl m
    by false m = mapped-small pos (λ n. refl) scale (cond (c == 43) cs (c ∷ cs)) _ a refl m

pub abs-fits : (z : ℤ) → nat_abs z ≤ MAX_AMOUNT → FitsSigned w64 z
abs-fits (pos n) h = omega (arith, ints)
abs-fits (negsuc n) h = omega (arith, ints)

-- ---- the amounts of a row

amounts-split : (o : Option ℤ) (p : Option (List ℤ)) (amounts : List ℤ) → cons_some o p ≡ Some amounts → (a : ℤ)
    × (more : List ℤ) × (o ≡ Some a) × (p ≡ Some more) × (a ∷ more ≡ amounts)
amounts-split None p amounts e = absurd (cc e)
amounts-split (Some a) None amounts e = absurd (cc e)
amounts-split (Some a) (Some more) amounts e
    = (a, more, refl, refl, ap (λ (q : Option (List ℤ)). unwrap_or q amounts) e)

pub amounts-are : (measures : List Measure) (fields : List (List ℕ)) (amounts : List ℤ)
    → amounts_in measures fields ≡ Some amounts → (length amounts ≡ length measures) × All IsSmall amounts
amounts-are [] fields amounts e =
    let same : [] ≡ amounts = ap (λ (q : Option (List ℤ)). unwrap_or q amounts) e in
    (omega (arith, ap length same), rw (← same) (λ k d lt. absurd (omega arith)))
amounts-are (m ∷ ms) [] amounts e = absurd (cc e)
amounts-are (m ∷ ms) (f ∷ fs) amounts e =
    let s = amounts-split (amount_in m.scale f) (amounts_in ms fs) amounts e in
    let more = amounts-are ms fs s.1 s.3 in (
      omega (arith, ap length s.4, more.0),
      rw (← s.4) (All-cons IsSmall s.0 s.1 (amount-small m.scale f s.0 s.2) more.1),
    )

-- with the amounts before, those of the measures that are left are all
abbrev pub amounts_with : List ℤ → Option (List ℤ) → Option (List ℤ)
amounts_with before more = option_map (λ amounts. before ++ amounts) more

pub amounts-step : (measures : List Measure) (fields : List (List ℕ)) (before : List ℤ) (i j : ℕ) (a : ℤ)
    → i < length measures → j < length fields
    → amount_in (get_or measures i no_measure).scale (get_or fields j []) ≡ Some a
    → amounts_with before (amounts_in (drop i measures) (drop j fields)) ≡ amounts_with (before ++ a ∷ [])
    (amounts_in (drop (i + 1) measures) (drop (j + 1) fields))
amounts-step measures fields before i j a h k e
    = rw (drop_more measures i no_measure h, drop_more fields j [] k, e)
    (by (amounts_in (drop (i + 1) measures) (drop (j + 1) fields)))
  where
    by : (more : Option (List ℤ)) → amounts_with before (cons_some (Some a) more) ≡ amounts_with (before ++ a ∷ []) more
    by None = refl
    by (Some amounts) = ap Some (sym (append_assoc before (a ∷ []) amounts))

pub amounts-none : (measures : List Measure) (fields : List (List ℕ)) (before : List ℤ) (i j : ℕ) → i < length measures
    → j < length fields
    → amount_in (get_or measures i no_measure).scale (get_or fields j []) ≡ None
    → amounts_with before (amounts_in (drop i measures) (drop j fields)) ≡ None
amounts-none measures fields before i j h k e = rw (drop_more measures i no_measure h, drop_more fields j [] k, e) refl

-- what stands before is there where there is more
pub none-with : (before : List ℤ) (o : Option (List ℤ)) → amounts_with before o ≡ None → o ≡ None
none-with before None e = refl
none-with before (Some amounts) e = absurd (cc e)

pub some-with : (before amounts : List ℤ) (o : Option (List ℤ)) → amounts_with before o ≡ Some amounts → (more : List ℤ)
    × (o ≡ Some more) × (amounts ≡ before ++ more)
some-with before amounts None e = absurd (cc e)
some-with before amounts (Some more) e = (more, refl, sym (ap (λ (q : Option (List ℤ)). unwrap_or q amounts) e))
