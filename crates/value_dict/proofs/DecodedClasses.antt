-- The class of a cell, by codes and by texts.
use Rattle.std.proofs.Common.{◌≡◌, ◌∙◌, ℕ, Option, Some, None, List, map, length, refl, sym, ap, subst, arith}
use Rattle.std.specs.Prelude.{IfSome, option_map}
use Rattle.std.specs.Cmp.{nat_cmp_total}
use Rattle.std.proofs.lemmas.Cmp.{nat_list_cmp_total}
use Rattle.std.specs.FinMap.{nat_cmp-IsAntisymmetric, slice_cmp-IsAntisymmetric}
use Rattle.std.specs.Ordering.{eq_by_cmp, nat_cmp}
use Rattle.std.specs.List.{All, AllByRecursion}
use Rattle.std.proofs.lemmas.List.Elements.{All-from_recursion}
use Rattle.std.proofs.lemmas.List.FromFn.{length-map-range_with_len}
use Rattle.cube_defs.specs.Text.{Text, text_cmp, text_eq}
use Rattle.cube_defs.specs.Cell.{Cell}
use Rattle.cube_defs.specs.Rows.{Agg, Row, amounts_of, closure, cov, part_of}
use Rattle.cube_defs.specs.Answers.{ClassHit, class_at, class_of, lower_bounds}
use Rattle.cube_laws.specs.Recoding.{AreKnown, RowsAreKnown, coded_cell, coded_row}
use Rattle.cube_laws.proofs.CallerLemmas.{closure_length, closure-coded, known-closure, known-closed, agg-coded, code_equality}
use Rattle.tree_laws.proofs.CallerLemmas.{some_same, lowers-coded, lowers-known}
use Rattle.value_dict.specs.Decoded.{HasTexts, IsDecodableClass, has_text, place_in, decoded_cell, decoded_class}
use Rattle.value_dict.proofs.Places.{places-apart, text_equality}
use Rattle.value_dict.proofs.DecodedCells.{IsKnown, fits, has-all, has-texts, told-all, told-coded}

-- what is found by codes is the class by texts
pub record IsToldClass (texts : List (List Text)) (measures : ℕ) (rows : List (Row Text)) (c : Cell Text)
    (found : Option (ClassHit ℕ)) : Type 0 where
  pub value : option_map (decoded_class texts) found ≡ class_of text_cmp measures rows c
  pub told : IfSome found (IsDecodableClass texts measures)

module _ (texts : List (List Text)) (measures : ℕ) (rows : List (Row Text)) (h : RowsAreKnown (has_text texts) rows)
    (wide : AllByRecursion (λ row. length row.tuple ≡ length texts) rows) where
  abbrev codes_of : List (Row ℕ)
  codes_of = map (coded_row (place_in texts)) rows

  -- an upper bound of known values, as long as there are dimensions
  module _ (u : Cell Text) (known : AreKnown (has_text texts) 0 u) (long : length u ≡ length texts) where
    lowers-are : lower_bounds nat_cmp codes_of (coded_cell (place_in texts) 0 u) ≡ map (coded_cell (place_in texts) 0)
        (lower_bounds text_cmp rows u)
    lowers-are = lowers-coded nat_list_cmp_total (slice_cmp-IsAntisymmetric nat_cmp-IsAntisymmetric) nat_cmp_total
        nat_cmp-IsAntisymmetric (places-apart texts) (length texts) rows h wide u known long

    lowers-are-known : AllByRecursion (IsKnown texts (length u)) (lower_bounds text_cmp rows u)
    lowers-are-known = lowers-known nat_list_cmp_total (slice_cmp-IsAntisymmetric nat_cmp-IsAntisymmetric) nat_cmp_total
        nat_cmp-IsAntisymmetric (places-apart texts) (length texts) rows h wide u known long

    same-hit : (v w : Cell Text) (a b : Agg) (ls ms : List (Cell Text)) → v ≡ w → a ≡ b → ls ≡ ms
        → ◌≡◌ {A = ClassHit Text} (record { upper = v; agg = a; lowers = ls })
        (record { upper = w; agg = b; lowers = ms })
    same-hit v w a b ls ms e f g = rw (e, f, g) refl

    told-at : decoded_class texts (class_at nat_cmp measures codes_of (coded_cell (place_in texts) 0 u))
        ≡ class_at text_cmp measures rows u
    told-at = same-hit _ _ _ _ _ _
        (told-coded texts 0 texts u (fits texts) known (omega (arith, long)))
        (agg-coded text_equality code_equality (places-apart texts) rows h measures u known)
        (ap (map (decoded_cell texts)) lowers-are
        ∙ told-all texts (lower_bounds text_cmp rows u) (length u) long lowers-are-known)

    is-told-at : IsDecodableClass texts measures (class_at nat_cmp measures codes_of (coded_cell (place_in texts) 0 u))
    is-told-at = record {
      upper = has-texts texts 0 texts u (fits texts) known (omega (arith, long));
      lowers = subst (All (HasTexts texts)) (sym lowers-are)
          (All-from_recursion (HasTexts texts) _
          (has-all texts (lower_bounds text_cmp rows u) (length u) long lowers-are-known));
      parts = length-map-range_with_len
          (λ m. part_of (amounts_of m (cov (eq_by_cmp nat_cmp) codes_of (coded_cell (place_in texts) 0 u)))) 0 measures;
    }

  pub class-told : (c : Cell Text) (found : Option (ClassHit ℕ)) → AreKnown (has_text texts) 0 c
      → found ≡ class_of nat_cmp measures codes_of (coded_cell (place_in texts) 0 c)
      → IsToldClass texts measures rows c found
  class-told c found known e =
      let same : closure (eq_by_cmp nat_cmp) codes_of (coded_cell (place_in texts) 0 c)
      ≡ option_map (coded_cell (place_in texts) 0) (closure text_eq rows c)
      = closure-coded text_equality code_equality (places-apart texts) rows c h known in
      let by = go (closure text_eq rows c) refl found (e ∙ ap (option_map (class_at nat_cmp measures codes_of)) same) in
      record { value = by.0; told = by.1 }
    where
      go : (o : Option (Cell Text)) → closure text_eq rows c ≡ o → (found : Option (ClassHit ℕ))
          → found ≡ option_map (class_at nat_cmp measures codes_of) (option_map (coded_cell (place_in texts) 0) o)
          → (option_map (decoded_class texts) found ≡ option_map (class_at text_cmp measures rows) o)
          × IfSome found (IsDecodableClass texts measures)
      go None q None e = (refl, tt)
      go None q (Some k) e = cc
      go (Some u) q None e = cc
      go (Some u) q (Some k) e =
          let is = some_same e in
          let known = known-closure text_equality code_equality (places-apart texts) rows c u h q in
          let long = closure_length text_eq (length texts) c u rows wide q in (
            ap (λ x. Some x) (ap (decoded_class texts) is ∙ told-at u known long),
            subst (IsDecodableClass texts measures) (sym is) (is-told-at u known long),
          )

  -- a cell that isn't known has none
  pub class-missing : (c : Cell Text) → (AreKnown (has_text texts) 0 c → ⊥) → None ≡ class_of text_cmp measures rows c
  class-missing c unknown = go (closure text_eq rows c) refl
    where
      go : (o : Option (Cell Text)) → closure text_eq rows c ≡ o → None ≡ option_map (class_at text_cmp measures rows) o
      go None e = refl
      go (Some u) e = absurd (unknown (known-closed text_equality (has_text texts) rows c u h e))
