-- A free place of lists of edges that is filled.
use Rattle.std.proofs.Common.{◌≡◌, ◌≢◌, ◌∙◌, ◌+◌, ◌<◌, ℕ, List, [], ◌∷◌, ◌++◌, Option, None, Some, ap, arith, cond, get_or}
use Rattle.std.proofs.Common.{is_some, length, length-set, refl, set, subst, sym}
use Rattle.std.proofs.lemmas.List.{get_or_append_left, get_or_push, get_or-set_other, length_push}
use Rattle.std.proofs.lemmas.List.Sums.{sum_by-set}
use Rattle.std.specs.List.{count_by}
use Rattle.cube_defs.specs.Tree.{Edge}
use Rattle.qc_arena.specs.EdgeLists.{AreLists}

module _ (lists : List (Option (List (Edge ℕ ℕ)))) (free rest : List ℕ) (place : ℕ) (is : free ≡ rest ++ place ∷ [])
    (room lists_room free_room : ℕ) (are : AreLists lists free room lists_room free_room) (x : List (Edge ℕ ℕ)) where
  more : length free ≡ length rest + 1
  more = ap (λ (l : List ℕ). length l) is ∙ length_push rest place

  last : get_or free (length rest) 0 ≡ place
  last = ap (λ (l : List ℕ). get_or l (length rest) 0) is ∙ get_or_push rest place 0 (length rest) refl

  before : (i : ℕ) → i < length rest → get_or free i 0 ≡ get_or rest i 0
  before i l = ap (λ (l : List ℕ). get_or l i 0) is ∙ get_or_append_left rest (place ∷ []) 0 i l

  pub filled_vacant : get_or lists place None ≡ None
  filled_vacant = subst (λ (p : ℕ). get_or lists p None ≡ None) last (are.vacant (length rest) (omega (arith, more)))

  pub filled_within : place < length lists
  filled_within = subst (λ (p : ℕ). p < length lists) last (are.within (length rest) (omega (arith, more)))

  pub filled_count : count_by is_some (set lists place (Some x)) ≡ count_by is_some lists + 1
  filled_count =
      let one : Option (List (Edge ℕ ℕ)) → ℕ = λ o. cond (is_some o) 1 0 in
      let none : one (get_or lists place None) ≡ one None = ap one filled_vacant in
      let written = sum_by-set one lists place (Some x) None filled_within in
      omega (arith, none, written)

  pub filled : AreLists (set lists place (Some x)) rest room lists_room free_room
  filled =
      let long = length-set lists place (Some x) in
      let apart : (i : ℕ) → i < length rest → get_or rest i 0 ≢ place = λ i l e.
      are.once i (length rest) l (omega (arith, more)) (before i l ∙ e ∙ sym last) in
      record {
        vacant = λ i l. get_or-set_other lists place (get_or rest i 0) (Some x) None (apart i l)
            ∙ subst (λ (p : ℕ). get_or lists p None ≡ None) (before i l) (are.vacant i (omega (arith, l, more)));
        within = λ i l. omega (arith, long, before i l, are.within i (omega (arith, l, more)));
        once = λ i j l m e. are.once i j l (omega (arith, m, more))
            (before i (omega (arith, l, m)) ∙ e ∙ sym (before j m));
        counted = omega (arith, long, more, filled_count, are.counted);
        few = omega (arith, long, are.few);
        placed = omega (arith, long, are.placed);
        for_lists = are.for_lists;
        for_free = are.for_free;
      }
