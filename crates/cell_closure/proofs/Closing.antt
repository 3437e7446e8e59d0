-- What rows share, dimension by dimension.
use Rattle.std.proofs.Common.{◌≡◌, ◌≢◌, ℕ, zero, suc, ◌+◌, ◌<◌, ◌≤◌, true, false, Option, Some, None, List, [], ◌∷◌, ◌==◌, length, get_or}
use Rattle.std.proofs.Common.{map, drop, take, ◌-◌, ◌&&◌, eq-eqb, nat_eq, is_some, slice_set, refl, sym, ap, subst, ◌∙◌, arith, true≢false}
use Rattle.std.proofs.Common.{eqb-true, inl, inr, ◌⊎◌}
use Rattle.std.proofs.lemmas.Bool.{and_parts}
use Rattle.std.proofs.lemmas.List.{get_or-set_same, get_or-set_other, length-set}
use Rattle.std.proofs.Math.Seq.{take-length}
use Rattle.std.specs.List.{list_all}
use Rattle.cube_defs.specs.Cell.{Cell, cell_of}
use Rattle.cube_defs.specs.Rows.{meet_all}
use Rattle.base_table.specs.Places.{Places, IsTable, named}
use Rattle.base_table.specs.declared.table.RowNo.{RowNo}
use Rattle.cell_closure.specs.Parts.{code_at}
use Rattle.cube_laws.specs.Parting.{shared_by}
use Rattle.cube_laws.proofs.CallerLemmas.{IsShared, entry, shared_some, shared-entry, length-shared, same_entries}
use Rattle.cell_closure.proofs.Rows.{There, length-named, named_dims, all_same, same_all}

pub lt_or_same : (j k : ℕ) → j < k + 1 → (j < k) ⊎ (j ≡ k)
lt_or_same zero zero h = inr refl
lt_or_same zero (suc k) h = inl (omega arith)
lt_or_same (suc j) zero h = absurd (omega arith)
lt_or_same (suc j) (suc k) h
    = elim (lt_or_same j k (omega arith)) [ inl l ↦ inl (omega arith) | inr e ↦ inr (ap suc e) ]

abbrev pub zeroth : RowNo
zeroth = record { 0 = 0 }

-- the rows after the first decide whether all have its code
pub rest_decides : (t : Places) (k v : ℕ) (nos : List RowNo) → 0 < length nos → v ≡ code_at t k (get_or nos 0 zeroth)
    → list_all (λ n. code_at t k n == v) (take (length nos - 1) (drop 1 nos)) ≡ list_all (λ n. code_at t k n == v) nos
rest_decides t k v [] h e = absurd (omega arith)
rest_decides t k v (x ∷ nos) h e =
    let l : length (x ∷ nos) - 1 ≡ length nos = omega arith in
    ap (λ m. list_all (λ n. code_at t k n == v) (take m nos)) l
    ∙ ap (list_all (λ n. code_at t k n == v)) (take-length nos)
    ∙ sym (ap (λ b. b && list_all (λ n. code_at t k n == v) nos) (eq-eqb (code_at t k x) v (sym e)))

-- a value that all rows have is the first row's
pub first_has : (t : Places) (k v w : ℕ) (nos : List RowNo) → 0 < length nos
    → list_all (λ n. code_at t k n == w) nos ≡ true → v ≡ code_at t k (get_or nos 0 zeroth) → v ≡ w
first_has t k v w [] l h e = absurd (omega arith)
first_has t k v w (x ∷ nos) l h e
    = e ∙ eqb-true (code_at t k x) w (and_parts (code_at t k x == w) (list_all (λ n. code_at t k n == w) nos) h).0

module _ (t : Places) (valid : IsTable t) (nos : List RowNo) (there : There t nos) (some : 0 < length nos) where
  pub shared_there : IsShared (named t nos) (shared_by (named t nos))
  shared_there = let l = length-named t nos there in shared_some (named t nos) (omega arith)

  pub shared_long : length (shared_by (named t nos)) ≡ t.dims
  shared_long = length-shared t.dims (named t nos) (shared_by (named t nos)) (named_dims t valid nos) shared_there

  -- what the rows share in dimension k, by whether all have the first row's code
  pub all_share : (k v : ℕ) → k < t.dims → list_all (λ n. code_at t k n == v) nos ≡ true
      → entry (shared_by (named t nos)) k ≡ Some v
  all_share k v lt h = (shared-entry (named t nos) (shared_by (named t nos)) k v shared_there).1
      (all_same t valid k v nos lt h)

  pub none_share : (k v : ℕ) → v ≡ code_at t k (get_or nos 0 zeroth) → list_all (λ n. code_at t k n == v) nos ≡ false
      → entry (shared_by (named t nos)) k ≡ None
  none_share k v e h = go (entry (shared_by (named t nos)) k) refl
    where
      go : (o : Option ℕ) → entry (shared_by (named t nos)) k ≡ o → o ≡ None
      go None q = refl
      go (Some w) q =
          let all : list_all (λ n. code_at t k n == w) nos ≡ true
          = same_all t k w nos there
          ((shared-entry (named t nos) (shared_by (named t nos)) k w shared_there).0 q) in
          let s : v ≡ w = first_has t k v w nos some all e in
          absurd (true≢false (sym (subst (λ x. list_all (λ n. code_at t k n == x) nos ≡ true) (sym s) all) ∙ h))

  pub first_share : (k v : ℕ) → v ≡ code_at t k (get_or nos 0 zeroth)
      → is_some (entry (shared_by (named t nos)) k) ≡ true → entry (shared_by (named t nos)) k ≡ Some v
  first_share k v e h = go (entry (shared_by (named t nos)) k) refl h
    where
      go : (o : Option ℕ) → entry (shared_by (named t nos)) k ≡ o → is_some o ≡ true → o ≡ Some v
      go None q s = absurd (true≢false (sym s))
      go (Some w) q s = ap (λ x. Some x)
          (sym (first_has t k v w nos some
          (same_all t k w nos there ((shared-entry (named t nos) (shared_by (named t nos)) k w shared_there).0 q)) e))

  -- the cell has what the rows share before dimension k
  pub record IsPartly (k : ℕ) (c : Cell ℕ) : Type 0 where
    pub long : length c ≡ t.dims
    pub done : (j : ℕ) → j < k → entry c j ≡ entry (shared_by (named t nos)) j

  pub closing_step : (k : ℕ) (o : Option ℕ) (old new : Cell ℕ) → k < t.dims → o ≡ entry (shared_by (named t nos)) k
      → IsPartly k old → new ≡ slice_set old k o → IsPartly (k + 1) new
  closing_step k o old new lt e was is = record {
    long = ap length is ∙ length-set old k o ∙ was.long;
    done = λ j l. ap (λ c. entry c j) is ∙ at j (lt_or_same j k l);
  }
    where
      at : (j : ℕ) → (j < k) ⊎ (j ≡ k) → entry (slice_set old k o) j ≡ entry (shared_by (named t nos)) j
      at j (inl l) = let ne : j ≢ k = omega arith in get_or-set_other old k j o None ne ∙ was.done j l
      at j (inr s) = let long : length old ≡ t.dims = was.long in
          ap (entry (slice_set old k o)) s ∙ get_or-set_same old k o None (omega arith) ∙ e
          ∙ ap (entry (shared_by (named t nos))) (sym s)

  pub closing_end : (k : ℕ) (c : Cell ℕ) → t.dims ≤ k → IsPartly k c → c ≡ shared_by (named t nos)
  closing_end k c l is = let long : length c ≡ t.dims = is.long in
      same_entries c (shared_by (named t nos)) (is.long ∙ sym shared_long) (λ j m. is.done j (omega arith))

  pub is_meet : (c : Cell ℕ) → c ≡ shared_by (named t nos)
      → Some c ≡ meet_all nat_eq (map (λ row. cell_of row.tuple) (named t nos))
  is_meet c e = ap (λ d. Some d) e ∙ sym shared_there
