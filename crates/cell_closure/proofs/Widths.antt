-- What rows share, code by code.
use Rattle.std.proofs.Common.{◌≡◌, ◌≢◌, ◌∙◌, ℕ, zero, suc, ◌+◌, ◌-◌, ◌<◌, Bool, true, false, cond, ◌==◌, ◌&&◌, Some, List, [], ◌∷◌, ◌++◌}
use Rattle.std.proofs.Common.{length, get_or, take, drop, set, refl, sym, ap, subst, arith, true≢false, inl, inr}
use Rattle.std.proofs.lemmas.Bool.Decides.{nat_tests}
use Rattle.std.proofs.lemmas.List.{get_or-set_same, get_or-set_other}
use Rattle.std.proofs.lemmas.List.Folds.{list_all-append}
use Rattle.std.specs.List.{list_all}
use Rattle.base_table.specs.Places.{Places, IsTable, named}
use Rattle.base_table.specs.declared.table.RowNo.{RowNo}
use Rattle.cell_core.specs.Codes.{entry_of, is_kept}
use Rattle.cell_core.specs.Entry.{IsCode}
use Rattle.cell_closure.specs.Parts.{code_at}
use Rattle.cell_closure.specs.Widths.{met}
use Rattle.cube_laws.specs.Parting.{shared_by}
use Rattle.cube_laws.proofs.CallerLemmas.{entry}
use Rattle.cell_closure.proofs.Rows.{There}
use Rattle.cell_closure.proofs.Closing.{all_share, lt_or_same, none_share, rest_decides, zeroth}

-- one place more is filled
pub filled : (codes : List ℕ) (k v : ℕ) (P : ℕ → ℕ → Type 0) → k < length codes
    → ((j : ℕ) → j < k → P j (get_or codes j 0)) → P k v → (j : ℕ) → j < k + 1 → P j (get_or (set codes k v) j 0)
filled codes k v P lt before here j l = elim (lt_or_same j k l) [
  | inl a ↦ let ne : j ≢ k = omega arith in subst (P j) (sym (get_or-set_other codes k j v 0 ne)) (before j a)
  | inr e ↦ subst (λ x. P x (get_or (set codes k v) x 0)) (sym e)
      (subst (P k) (sym (get_or-set_same codes k v 0 lt)) here)
]

-- the code in dimension j of the first row where the others have it too, and else the number that stands for Any
abbrev pub shared_code : Places → ℕ → RowNo → List RowNo → ℕ
shared_code t j first rest
    = cond (list_all (λ n. code_at t j n == code_at t j first) rest) (code_at t j first) 4294967295

met-more : (b : Bool) (f c : ℕ) → met (cond b f 4294967295) c ≡ cond (b && ((c == f) && true)) f 4294967295
met-more true f c = grind (arith, nat_tests)
met-more false f c = grind (arith, nat_tests)

pub shared-more : (t : Places) (j : ℕ) (first : RowNo) (rest : List RowNo) (row : RowNo)
    → met (shared_code t j first rest) (code_at t j row) ≡ shared_code t j first (rest ++ row ∷ [])
shared-more t j first rest row =
    met-more (list_all (λ n. code_at t j n == code_at t j first) rest) (code_at t j first) (code_at t j row)
    ∙ ap (λ b. cond b (code_at t j first) 4294967295)
    (sym (list_all-append (λ n. code_at t j n == code_at t j first) rest (row ∷ [])))

pub code-kept : (b : Bool) (f : ℕ) → IsCode f → is_kept (cond b f 4294967295) ≡ true
code-kept true f h = grind (arith, nat_tests)
code-kept false f h = refl

entry-some : (f : ℕ) → IsCode f → entry_of f ≡ Some f
entry-some f h = grind (arith, nat_tests)

prefix-decides : {X : Type 0} (p : X → Bool) (xs : List X) (i : ℕ) → list_all p (take i xs) ≡ false
    → list_all p xs ≡ false
prefix-decides p [] zero h = h
prefix-decides p [] (suc i) h = h
prefix-decides p (x ∷ xs) zero h = absurd (true≢false h)
prefix-decides p (x ∷ xs) (suc i) h = by (p x) h (λ e. prefix-decides p xs i e)
  where
    by : (b : Bool) → (b && list_all p (take i xs)) ≡ false → (list_all p (take i xs) ≡ false → list_all p xs ≡ false)
        → (b && list_all p xs) ≡ false
    by true h more = more h
    by false h more = refl

module _ (t : Places) (valid : IsTable t) (nos : List RowNo) (there : There t nos) (some : 0 < length nos) where
  of-whole : (j : ℕ) → j < t.dims → IsCode (code_at t j (get_or nos 0 zeroth)) → (b : Bool)
      → list_all (λ n. code_at t j n == code_at t j (get_or nos 0 zeroth)) nos ≡ b
      → entry_of (cond b (code_at t j (get_or nos 0 zeroth)) 4294967295) ≡ entry (shared_by (named t nos)) j
  of-whole j lt small true h = entry-some (code_at t j (get_or nos 0 zeroth)) small
      ∙ sym (all_share t valid nos there some j (code_at t j (get_or nos 0 zeroth)) lt h)
  of-whole j lt small false h = sym (none_share t valid nos there some j (code_at t j (get_or nos 0 zeroth)) refl h)

  -- when all rows are read
  pub shared-whole : (j : ℕ) → j < t.dims → IsCode (code_at t j (get_or nos 0 zeroth))
      → entry_of (shared_code t j (get_or nos 0 zeroth) (take (length nos - 1) (drop 1 nos)))
      ≡ entry (shared_by (named t nos)) j
  shared-whole j lt small =
      ap (λ b. entry_of (cond b (code_at t j (get_or nos 0 zeroth)) 4294967295))
      (rest_decides t j (code_at t j (get_or nos 0 zeroth)) nos some refl)
      ∙ of-whole j lt small _ refl

  -- when some rows share nothing there any more
  pub shared-prefix : (j i : ℕ) → j < t.dims → IsCode (code_at t j (get_or nos 0 zeroth))
      → shared_code t j (get_or nos 0 zeroth) (take i (take (length nos - 1) (drop 1 nos))) ≡ 4294967295
      → entry_of (shared_code t j (get_or nos 0 zeroth) (take i (take (length nos - 1) (drop 1 nos))))
      ≡ entry (shared_by (named t nos)) j
  shared-prefix j i lt small any
      = ap entry_of any ∙ sym (none_share t valid nos there some j (code_at t j (get_or nos 0 zeroth)) refl none)
    where
      by : (b : Bool) → cond b (code_at t j (get_or nos 0 zeroth)) 4294967295 ≡ 4294967295 → b ≡ false
      by true e = absurd (omega (arith, small, e))
      by false e = refl

      none : list_all (λ n. code_at t j n == code_at t j (get_or nos 0 zeroth)) nos ≡ false
      none =
          sym (rest_decides t j (code_at t j (get_or nos 0 zeroth)) nos some refl)
          ∙ prefix-decides (λ n. code_at t j n == code_at t j (get_or nos 0 zeroth))
          (take (length nos - 1) (drop 1 nos)) i
          (by (list_all (λ n. code_at t j n == code_at t j (get_or nos 0 zeroth))
          (take i (take (length nos - 1) (drop 1 nos)))) any)
