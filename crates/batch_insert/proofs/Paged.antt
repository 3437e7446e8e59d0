-- A number that is noted in its page.
use Rattle.std.proofs.Common.{◌≡◌, ◌≢◌, inl, inr, ℕ, zero, suc, ◌/◌, ◌%◌, ◌≤◌, ◌<◌, Option, Some, List, [], ◌∷◌, length, set, get_or}
use Rattle.std.proofs.Common.{nat_eq, slice_get, if◌then◌else◌, refl, sym, ap, subst, ◌∙◌, arith}
use Rattle.std.specs.Prelude.{IfSome}
use Rattle.std.specs.Option.{option_and_then, option_map}
use Rattle.std.specs.Global.{Vec}
use Rattle.std.specs.Vec.{with_item}
use Rattle.std.proofs.lemmas.Bool.{cond-true, cond-false}
use Rattle.std.proofs.lemmas.Bool.Decides.{eqb_tells}
use Rattle.std.proofs.lemmas.Option.{slice_get-get_or}
use Rattle.cell_core.specs.declared.cell.NodeNo.{NodeNo}
use Rattle.qc_arena.specs.RecordReaders.{number}

set_there : {X : Type 0} → (xs : List X) (i : ℕ) (x : X) → i < length xs → slice_get (set xs i x) i ≡ Some x
set_there [] i x h = absurd (omega arith)
set_there (y ∷ xs) zero x h = refl
set_there (y ∷ xs) (suc i) x h = set_there xs i x (omega arith)

set_beside : {X : Type 0} → (xs : List X) (i j : ℕ) (x : X) → i ≢ j → slice_get (set xs i x) j ≡ slice_get xs j
set_beside [] i j x h = refl
set_beside (y ∷ xs) zero zero x h = absurd (h refl)
set_beside (y ∷ xs) zero (suc j) x h = refl
set_beside (y ∷ xs) (suc i) zero x h = refl
set_beside (y ∷ xs) (suc i) (suc j) x h = set_beside xs i j x (λ e. h (ap suc e))

-- the number at a place of a page
abbrev pub in_page : ℕ → Vec (Option NodeNo) → Option ℕ
in_page q page = option_and_then (option_map number) (slice_get page.items q)

abbrev pub in_pages : List (Vec (Option NodeNo)) → ℕ → ℕ → Option ℕ
in_pages pages p q = option_and_then (in_page q) (slice_get pages p)

module _ (pages : List (Vec (Option NodeNo))) (page : Vec (Option NodeNo)) (m : ℕ) (k : NodeNo)
    (there : m / 64 < length pages) (is : page ≡ get_or pages (m / 64) page)
    (room : IfSome (slice_get pages (m / 64)) (λ places. 64 ≤ length places.items)) where
  at : slice_get pages (m / 64) ≡ Some page
  at = slice_get-get_or pages (m / 64) page there ∙ ap (λ x. Some x) (sym is)

  wide : m % 64 < length page.items
  wide = let r : 64 ≤ length page.items
      = rw at at room in omega (arith, r)

  abbrev pub new : Vec (Option NodeNo)
  new = with_item page (m % 64) (Some k)

  beside : (n : ℕ) → m ≢ n → in_pages (set pages (m / 64) new) (n / 64) (n % 64) ≡ in_pages pages (n / 64) (n % 64)
  beside n h = elim (eqb_tells (m / 64) (n / 64)) [
    | inl e ↦
        let q : m % 64 ≢ n % 64 = λ f. h (let p = e.1 in omega (arith, p, f)) in
        subst (λ p. in_pages (set pages (m / 64) new) p (n % 64) ≡ in_pages pages p (n % 64)) e.1
        (ap (option_and_then (in_page (n % 64))) (set_there pages (m / 64) new there)
        ∙ ap (option_and_then (option_map number)) (set_beside page.items (m % 64) (n % 64) _ q)
        ∙ sym (ap (option_and_then (in_page (n % 64))) at))
    | inr e ↦ ap (option_and_then (in_page (n % 64))) (set_beside pages (m / 64) (n / 64) new e.1)
  ]

  here : in_pages (set pages (m / 64) new) (m / 64) (m % 64) ≡ Some k.0
  here = ap (option_and_then (in_page (m % 64))) (set_there pages (m / 64) new there)
      ∙ ap (option_and_then (option_map number)) (set_there page.items (m % 64) _ wide)

  pub noted : (n : ℕ) → in_pages (set pages (m / 64) new) (n / 64) (n % 64) ≡ (if nat_eq m n then Some k.0
      else in_pages pages (n / 64) (n % 64))
  noted n = elim (eqb_tells m n) [
    | inl e ↦ subst (λ x. in_pages (set pages (m / 64) new) (x / 64) (x % 64) ≡ Some k.0) e.1 here
        ∙ sym (cond-true (nat_eq m n) _ _ e.0)
    | inr e ↦ beside n e.1 ∙ sym (cond-false (nat_eq m n) _ _ e.0)
  ]
