-- The laws of the parts of a snapshot.
use Rattle.std.proofs.Common.{◌≡◌, ℕ, ◌^◌, ◌<◌, Bool, true, false, cond, Option, Some, None, ℤ, length, nat_abs, refl, sym, ap, ◌∙◌, subst}
use Rattle.std.proofs.Common.{arith, leb}
use Rattle.std.specs.Int.{w32, w64, cast_signed, cast_unsigned}
use Rattle.std.specs.List.{AllByRecursion}
use Rattle.std.proofs.lemmas.Bool.{leb-true, le-leb}
use Rattle.std.proofs.lemmas.Int.{fits_signed_from_abs, of_z-to_z, to_z-of_z}
use Rattle.cube_defs.specs.Rows.{Row}
use Rattle.cube_defs.specs.declared.limits.TheConstants.{MAX_AMOUNT}
use Rattle.cube_snapshot.specs.Format.{byte, then_format, number, repeated}
use Rattle.cube_snapshot.specs.Parts.{AreTexts, IsAmount, IsRow, amount, amount_of, row, row_of, rows, text, texts}
use Rattle.cube_snapshot.proofs.FormatLaws.{IsFormat, byte-is, counted-is, followed-is, number-is, seen-is, sized-is, times-is, wide32}
use Rattle.cube_snapshot.proofs.FormatLaws.{wide64}
use mir.ValLaws.{of_z_fits}

pub text-is : IsFormat text (λ t. length t < 256)
text-is = sized-is byte (λ n. n < 256) byte-is

pub texts-is : IsFormat texts AreTexts
texts-is = counted-is (number w32) (λ n. n < 2 ^ 32) (number-is w32 (2 ^ 32) wide32) text (λ t. length t < 256) text-is

-- amounts
pub amount-is : IsFormat amount IsAmount
amount-is = seen-is (number w64) (cast_unsigned w64) amount_of (λ n. n < 2 ^ 64) IsAmount
    (number-is w64 (2 ^ 64) wide64) there back
  where
    there : (z : ℤ) → IsAmount z → (cast_unsigned w64 z < 2 ^ 64) × (amount_of (cast_unsigned w64 z) ≡ Some z)
    there z h =
        let fits = fits_signed_from_abs w64 z (omega arith) in
        let same = to_z-of_z w64 z fits in (
          (of_z_fits w64 z fits).fits,
          ap (λ x. cond (leb (nat_abs x) MAX_AMOUNT) (Some x) None) same
              ∙ ap (λ b. cond b (Some z) None) (le-leb _ _ h),
        )

    passed : (b : Bool) (x z : ℤ) → cond b (Some x) None ≡ Some z → (b ≡ true) × (x ≡ z)
    passed true x z e = (refl, cc)
    passed false x z e = absurd cc

    back : (n : ℕ) (z : ℤ) → n < 2 ^ 64 → amount_of n ≡ Some z → (cast_unsigned w64 z ≡ n) × IsAmount z
    back n z l e =
        let p = passed (leb (nat_abs (cast_signed w64 n)) MAX_AMOUNT) (cast_signed w64 n) z e in
        (ap (cast_unsigned w64) (sym p.1) ∙ of_z-to_z w64 n l, subst IsAmount p.1 (leb-true _ _ p.0))

-- rows of so many dimensions and measures
pub row-is : (dims measures : ℕ) → IsFormat (row dims measures) (IsRow dims measures)
row-is dims measures =
    seen-is (then_format (number w64) (λ _. then_format (repeated (number w32) dims) (λ _. repeated amount measures)))
    (λ r. (r.id, (r.tuple, r.amounts))) (λ p. Some (row_of p))
    (λ p. (p.0 < 2 ^ 64) × (((length p.1.0 ≡ dims) × AllByRecursion (λ n. n < 2 ^ 32) p.1.0)
    × ((length p.1.1 ≡ measures) × AllByRecursion IsAmount p.1.1))) (IsRow dims measures)
    (followed-is (number w64) (λ _. then_format (repeated (number w32) dims) (λ _. repeated amount measures))
    (λ n. n < 2 ^ 64)
    (λ _ q. ((length q.0 ≡ dims) × AllByRecursion (λ n. n < 2 ^ 32) q.0)
    × ((length q.1 ≡ measures) × AllByRecursion IsAmount q.1))
    (number-is w64 (2 ^ 64) wide64)
    (λ _ _. followed-is (repeated (number w32) dims) (λ _. repeated amount measures) (λ c. (length c ≡ dims)
    × AllByRecursion (λ n. n < 2 ^ 32) c) (λ _ m. (length m ≡ measures) × AllByRecursion IsAmount m)
    (times-is (number w32) (λ n. n < 2 ^ 32) (number-is w32 (2 ^ 32) wide32) dims)
    (λ _ _. times-is amount IsAmount amount-is measures)))
    (λ r h. ((h.id, (h.codes, h.amounts)), refl))
    (λ p r h e. (
      ap (λ (r : Row ℕ). (r.id, (r.tuple, r.amounts))) (sym (same (row_of p) r e)),
      subst (IsRow dims measures) (same (row_of p) r e) (record { id = h.0; codes = h.1.0; amounts = h.1.1 }),
    ))
  where
    same : (x y : Row ℕ) → (let o : Option (Row ℕ) = Some x in o) ≡ Some y → x ≡ y
    same x y e = cc

pub rows-is : (dims measures : ℕ)
    → IsFormat (rows dims measures) (λ rs. (length rs < 2 ^ 32) × AllByRecursion (IsRow dims measures) rs)
rows-is dims measures = counted-is (number w32) (λ n. n < 2 ^ 32) (number-is w32 (2 ^ 32) wide32) (row dims measures)
    (IsRow dims measures) (row-is dims measures)
