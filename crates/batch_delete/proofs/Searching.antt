-- Searches for labels of a node, some of them side by side.
use Rattle.std.proofs.Common.{Bool, true, false, if◌then◌else◌, eqb-true, eq-eqb, true≢false, refl, [], ◌∷◌}
use Rattle.std.proofs.Common.{◌≡◌, ◌∙◌, ℕ, zero, suc, ◌+◌, ◌-◌, ◌*◌, ◌<◌, ◌≤◌, Option, Some, None, List}
use Rattle.std.proofs.Common.{ap, arith, get_or, length, length-set, nat_cmp, nat_eq, slice_get, subst, sym}
use Rattle.std.specs.FinMap as map
use Rattle.std.specs.Ordering.{eq_by_cmp}
use Rattle.std.specs.Prelude.{IsSome}
use Rattle.cube_defs.specs.Cell.{Cell, cell_prefix, with_value}
use Rattle.cube_defs.specs.Tree.{Edge, Tree, cell_at}
use Rattle.cube_laws.specs.Lists.{Among}
use Rattle.qc_arena.specs.RecordReaders.{record_at}
use Rattle.tree_laws.specs.Walk.{closure_prefix}
use Rattle.tree_laws.proofs.CallerLemmas.{some_same, there}
use Rattle.tree_search.specs.Found.{IsNumberOfCell, IsTreeOf, closure_in}
use Rattle.batch_delete.specs.Rests.{Deletion, rows_before, source_before}
use Rattle.batch_delete.specs.Searching.{stepped, target_in}
use Rattle.batch_delete.proofs.PartialSearches.{ends, entry_after, goes_on, label_goes_on, stops}

-- a number of a cell is that of a node
pub number_there : (tree : Tree ℕ) (k : ℕ) (o : Option (Cell ℕ)) → IsNumberOfCell tree (Some k) o → IsSome (map.get tree k)
number_there tree k None e = let bad : Some (cell_at tree k) ≡ None = e in cc
number_there tree k (Some c) e = there tree k c (some_same e)

-- so many steps for so many searches
two_more : (k m : ℕ) → (2 * k + 2) * m ≡ m * (2 * k) + 2 * m
two_more k m = grind arith

pub all_steps : (n m : ℕ) → 0 < n → 2 * n * m ≡ m * (2 * (n - 1)) + 2 * m
all_steps n m l =
    let same : 2 * n ≡ 2 * (n - 1) + 2 = omega arith in
    ap (λ c. c * m) same ∙ two_more (n - 1) m

-- an edge at each place
pub edge_in : (es : List (Edge ℕ ℕ)) (k : ℕ) → k < length es → (x : Edge ℕ ℕ) × (slice_get es k ≡ Some x)
edge_in [] k l = absurd (omega arith)
edge_in (x ∷ es) zero l = (x, refl)
edge_in (x ∷ es) (suc k) l = edge_in es k (omega arith)

-- a search for a label's part has come so far before dimension n
abbrev pub come : Deletion → Tree ℕ → Cell ℕ → ℕ → Edge ℕ ℕ → ℕ → Option ℕ → Type 0
come d tree u i x n None = x.dim ≡ i → IsNumberOfCell tree None (closure_in (source_before d) (with_value u i x.value))
come d tree u i x n (Some k)
    = IsNumberOfCell tree (Some k) (closure_prefix (eq_by_cmp nat_cmp) (rows_before d) (with_value u i x.value) n)

module _ (dims : ℕ) (tree : Tree ℕ) (d : Deletion) (h : IsTreeOf dims tree (source_before d)) (u : Cell ℕ)
    (long : length u ≡ dims) (i : ℕ) (x : Edge ℕ ℕ) where
  as_long : length (with_value u i x.value) ≡ dims
  as_long = length-set u i (Some x.value) ∙ long

  pub come_there : (n : ℕ) (k : ℕ) → come d tree u i x n (Some k) → IsSome (map.get tree k)
  come_there n k at
      = number_there tree k (closure_prefix (eq_by_cmp nat_cmp) (rows_before d) (with_value u i x.value) n) at

  -- one dimension on
  pub come_on : (n : ℕ) (o p : Option ℕ) → i < n → n < dims → come d tree u i x n o
      → p ≡ stepped tree n (get_or u n None) o → come d tree u i x (suc n) p
  come_on n None None l w at e = at
  come_on n None (Some q) l w at e = cc
  come_on n (Some k) p l w at e = by p on
    where
      on : IsNumberOfCell tree p
          (closure_prefix (eq_by_cmp nat_cmp) (rows_before d) (with_value u i x.value) (suc n))
      on = goes_on dims tree (source_before d) h (with_value u i x.value) as_long k n (get_or u n None) p w
          (entry_after u i x.value n l (omega (arith, long))) at (sym e)

      by : (p : Option ℕ) → IsNumberOfCell tree p
          (closure_prefix (eq_by_cmp nat_cmp) (rows_before d) (with_value u i x.value) (suc n))
          → come d tree u i x (suc n) p
      by None found = λ same. stops dims tree (source_before d) h (with_value u i x.value) as_long (suc n) found
      by (Some q) found = found

  -- at the end
  pub come_found : (n : ℕ) (o : Option ℕ) → dims ≤ n → x.dim ≡ i → come d tree u i x n o
      → IsNumberOfCell tree o (closure_in (source_before d) (with_value u i x.value))
  come_found n None l same at = at same
  come_found n (Some k) l same at
      = ends dims tree (source_before d) h (with_value u i x.value) as_long (Some k) n l at

  -- at first
  pub come_first : (front : ℕ) → i < length u → cell_at tree front ≡ Some (cell_prefix i u)
      → Among x (record_at tree front).edges → (o : Option ℕ) → o ≡ target_in i x → come d tree u i x (suc i) o
  come_first front l at among o e = by (nat_eq x.dim i) refl e
    where
      by : (b : Bool) → nat_eq x.dim i ≡ b → o ≡ (if b then Some x.target else None) → come d tree u i x (suc i) o
      by true same f =
          let here : x.dim ≡ i = eqb-true x.dim i same in
          let on = label_goes_on dims tree (source_before d) h front u x (rw here l)
          (rw here at) among in
          subst (come d tree u i x (suc i)) (sym f) (rw (← here) on)
      by false apart f = rw f (λ same.
          absurd (true≢false (sym (eq-eqb x.dim i same) ∙ apart)))
