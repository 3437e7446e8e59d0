-- The parents of a class, number by number.
use Rattle.std.proofs.Common.{◌≡◌, ℕ, ◌+◌, ◌^◌, ◌<◌, Bool, true, false, not, cond, ◌&&◌, ◌||◌, Option, Some, None, List, [], ◌∷◌, ◌++◌, map}
use Rattle.std.proofs.Common.{filter, refl, sym, ap, ap₂, ◌∙◌, subst, arith, true≢false}
use Rattle.std.specs.Prelude.{if◌then◌else◌}
use Rattle.std.specs.List.{list_all, range_with_len}
use Rattle.std.specs.Option.{option_map}
use Rattle.std.specs.Ordering.{nat_cmp}
use Rattle.cube_defs.specs.Cell.{Cell}
use Rattle.cube_defs.specs.Tree.{as_list}
use Rattle.tree_laws.proofs.CallerLemmas.{some_same}
use Rattle.tree_search.specs.Found.{TreeRows, closure_in}
use Rattle.cells_below.specs.Closed.{IsMarkedBefore, closes}
use Rattle.cells_below.specs.Marks.{is_marked}
use Rattle.cells_below.specs.Numbers.{cell_of_number, has_bit, turned}
use Rattle.cube_laws.specs.Parts.{value_count}
use Rattle.std.proofs.lemmas.List.{map-append}
use Rattle.cube_laws.proofs.CallerLemmas.{filter_range_more}
use Rattle.cells_below.proofs.CallerLemmas.{list_all_range, one_fails, passes_more, turned-lt}
use Rattle.quotient_lattice.specs.Joined.{is_most, joins}
use Rattle.quotient_lattice.proofs.Joins.{joins_join}

pub first_true : (b d : Bool) → b ≡ true → (b || d) ≡ true
first_true true d e = refl
first_true false d e = absurd (true≢false (sym e))

pub second_true : (b d : Bool) → d ≡ true → (b || d) ≡ true
second_true true d e = refl
second_true false d e = e

module _ (marks : List Bool) (m : ℕ) where
  abbrev within : ℕ → Bool
  within k = has_bit m k || is_marked marks (turned m k)

  pub most_more : (k : ℕ) → is_most marks k m ≡ true → (has_bit m k || is_marked marks (turned m k)) ≡ true
      → is_most marks (k + 1) m ≡ true
  most_more k h e = passes_more within k h e

  pub most_stops : (d k : ℕ) → k < d → has_bit m k ≡ false → is_marked marks (turned m k) ≡ false
      → false ≡ is_most marks d m
  most_stops d k l e f = sym (one_fails within d k l (ap₂ (λ x y. x || y) e f))

-- the test of a parent by the marks
pub joins_marks : (source : TreeRows) (u : Cell ℕ) (marks : List Bool) (d m : ℕ) → d ≡ value_count u → m < 2 ^ d
    → IsMarkedBefore source u marks (2 ^ d) → joins source u m ≡ (not (is_marked marks m) && is_most marks d m)
joins_marks source u marks d m is l below =
    ap₂ (λ x y. not x && y) (sym (below m l))
    (ap (λ n. list_all (λ k. has_bit m k || closes source u (turned m k)) (range_with_len 0 n)) (sym is)
    ∙ list_all_range _ _ 0 d (λ k a q. let w : k < d = omega arith in
    ap (λ b. has_bit m k || b) (sym (below (turned m k) (turned-lt d m k l w)))))

module _ (source : TreeRows) (u : Cell ℕ) (marks : List Bool) (d m : ℕ) (is : d ≡ value_count u) (l : m < 2 ^ d)
    (below : IsMarkedBefore source u marks (2 ^ d)) where
  pub not_marked : is_marked marks m ≡ true → joins source u m ≡ false
  not_marked e = joins_marks source u marks d m is l below ∙ ap (λ b. not b && is_most marks d m) e

  pub not_most : is_most marks d m ≡ false → joins source u m ≡ false
  not_most e = joins_marks source u marks d m is l below ∙ ap (λ b. not (is_marked marks m) && b) e
      ∙ nothing (not (is_marked marks m))
    where
      nothing : (b : Bool) → (b && false) ≡ false
      nothing true = refl
      nothing false = refl

  pub is_joined : is_marked marks m ≡ false → is_most marks d m ≡ true → joins source u m ≡ true
  is_joined e f = joins_marks source u marks d m is l below ∙ ap₂ (λ b c. not b && c) e f

pub joined_own : (source : TreeRows) (u c : Cell ℕ) (m : ℕ) → closure_in source u ≡ Some u → joins source u m ≡ true
    → c ≡ cell_of_number u m → closure_in source c ≡ Some c
joined_own source u c m class h e
    = subst (λ x. closure_in source x ≡ Some x) (sym e) (joins_join source u class m h).own

-- one node more
module _ {X : Type 0} (at : X → Option (Cell ℕ)) (u : Cell ℕ) (p : ℕ → Bool) (m : ℕ) where
  map-listed : (o : Option X) (b : Bool) → option_map at o ≡ (if b then Some (Some (cell_of_number u m)) else None)
      → map at (as_list nat_cmp o) ≡ map (λ k. Some (cell_of_number u k)) (cond b (m ∷ []) [])
  map-listed None true e = absurd cc
  map-listed None false e = refl
  map-listed (Some k) true e = ap (λ x. x ∷ []) (some_same e)
  map-listed (Some k) false e = absurd cc

  pub nodes_more : (nodes more : List X) (o : Option X) → more ≡ nodes ++ as_list nat_cmp o
      → map at nodes ≡ map (λ k. Some (cell_of_number u k)) (filter p (range_with_len 0 m))
      → option_map at o ≡ (if p m then Some (Some (cell_of_number u m)) else None)
      → map at more ≡ map (λ k. Some (cell_of_number u k)) (filter p (range_with_len 0 (m + 1)))
  nodes_more nodes more o pushed before e =
      ap (map at) pushed ∙ map-append at nodes (as_list nat_cmp o) ∙ ap₂ (λ x y. x ++ y) before (map-listed o (p m) e)
      ∙ sym (map-append (λ k. Some (cell_of_number u k)) (filter p (range_with_len 0 m)) (cond (p m) (m ∷ []) []))
      ∙ ap (map (λ k. Some (cell_of_number u k))) (sym (filter_range_more p m))
