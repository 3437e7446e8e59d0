-- What rows share, by their columns.
use Rattle.std.proofs.Common.{◌≡◌, ◌↔◌, ℕ, zero, suc, ◌<◌, true, Option, Some, None, List, [], ◌∷◌, length, nat_eq, slice_get}
use Rattle.std.proofs.Common.{slice_index_or, refl, sym, ap, ap₂, subst, ◌∙◌, arith}
use Rattle.std.specs.List.{AllByRecursion}
use Rattle.cube_defs.specs.Cell.{Cell, leq}
use Rattle.cube_defs.specs.Rows.{Row, covers, cov, closure, meet_all}
use Rattle.cube_laws.specs.Tuples.{cells_of}
use Rattle.cube_laws.proofs.Lists.{filter_all}
use Rattle.cube_laws.proofs.Cells.{nat_equality}
use Rattle.cube_laws.proofs.Closures.{all_cells, meet_all_below}
use Rattle.cube_laws.proofs.Columns.{closure-entry}
use Rattle.cube_laws.proofs.Covered.{closure_length}
use Rattle.cube_laws.specs.Parting.{shared_by}

-- u is what the rows share
abbrev pub IsShared : List (Row ℕ) → Cell ℕ → Type 0
IsShared rows u = meet_all nat_eq (cells_of rows) ≡ Some u

abbrev pub HaveDims : ℕ → List (Row ℕ) → Type 0
HaveDims n rows = AllByRecursion (λ row. length row.tuple ≡ n) rows

abbrev pub entry : Cell ℕ → ℕ → Option ℕ
entry c k = slice_index_or c k None

-- rows that are there share something
pub shared_some : (rows : List (Row ℕ)) → 0 < length rows → IsShared rows (shared_by rows)
shared_some [] h = absurd (omega arith)
shared_some (x ∷ rows) h = refl

pub shared_covers : (rows : List (Row ℕ)) (u : Cell ℕ) → IsShared rows u
    → AllByRecursion (λ r. covers nat_eq u r ≡ true) rows
shared_covers rows u e =
    (all_cells (λ d. leq nat_eq u d ≡ true) rows).0 (meet_all_below nat_equality (cells_of rows) u e)

pub cov-shared : (rows : List (Row ℕ)) (u : Cell ℕ) → IsShared rows u → cov nat_eq rows u ≡ rows
cov-shared rows u e = filter_all (covers nat_eq u) rows (shared_covers rows u e)

pub closure-shared : (rows : List (Row ℕ)) (u : Cell ℕ) → IsShared rows u → closure nat_eq rows u ≡ Some u
closure-shared rows u e = ap (λ covered. meet_all nat_eq (cells_of covered)) (cov-shared rows u e) ∙ e

pub length-shared : (n : ℕ) (rows : List (Row ℕ)) (u : Cell ℕ) → HaveDims n rows → IsShared rows u → length u ≡ n
length-shared n rows u long e = closure_length nat_eq n u u rows long (closure-shared rows u e)

pub got_entry : (c : Cell ℕ) (k v : ℕ) → slice_get c k ≡ Some (Some v) → entry c k ≡ Some v
got_entry [] k v e = cc
got_entry (x ∷ c) zero v e = cc
got_entry (x ∷ c) (suc k) v e = got_entry c k v e

get_entry : (c : Cell ℕ) (k v : ℕ) → entry c k ≡ Some v → slice_get c k ≡ Some (Some v)
get_entry [] k v e = cc
get_entry (x ∷ c) zero v e = ap (λ o. Some o) e
get_entry (x ∷ c) (suc k) v e = get_entry c k v e

-- rows share a value in a dimension just where each of them has it
pub shared-entry : (rows : List (Row ℕ)) (u : Cell ℕ) (k v : ℕ) → IsShared rows u → (entry u k ≡ Some v)
    ↔ AllByRecursion (λ row. slice_get row.tuple k ≡ Some v) rows
shared-entry rows u k v e =
    let f = closure-entry nat_equality rows u u k v (closure-shared rows u e) in
    let is : cov nat_eq rows u ≡ rows = cov-shared rows u e in (
      λ h. subst (λ rs. AllByRecursion (λ row. slice_get row.tuple k ≡ Some v) rs) is (f.0 (get_entry u k v h)),
      λ h. got_entry u k v (f.1 (subst (λ rs. AllByRecursion (λ row. slice_get row.tuple k ≡ Some v) rs) (sym is) h)),
    )

-- cells with the same entries are the same
pub same_entries : (c d : Cell ℕ) → length c ≡ length d → ((j : ℕ) → j < length c → entry c j ≡ entry d j) → c ≡ d
same_entries [] [] l h = refl
same_entries [] (y ∷ d) l h = absurd (omega arith)
same_entries (x ∷ c) [] l h = absurd (omega arith)
same_entries (x ∷ c) (y ∷ d) l h
    = ap₂ (λ a b. a ∷ b) (h 0 (omega arith)) (same_entries c d (omega arith) (λ j m. h (suc j) (omega arith)))
