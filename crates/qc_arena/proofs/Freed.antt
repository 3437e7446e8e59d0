-- Slots of which none has a killed node.
use Rattle.std.proofs.Common.{◌≡◌, ◌≢◌, ℕ, zero, suc, ◌+◌, ◌≤◌, Bool, true, false, cond, List, [], ◌∷◌, Option, Some, None, is_some}
use Rattle.std.proofs.Common.{length, get_or, refl, ◌∙◌, arith, nat_cmp}
use Rattle.std.specs.List.{count_by}
use Rattle.std.specs.FinMap as map
use Rattle.std.specs.Cmp.{nat_cmp_total}
use Rattle.std.proofs.lemmas.Bool.{cond-false, cond-true}
use Rattle.std.proofs.lemmas.List.Sums.{sum_by-cons}
use Rattle.slab.specs.Slab as slots
use Rattle.qc_arena.specs.Map.{Known}
use Rattle.qc_arena.specs.Inside.{live, now_of}

-- a map has no more keys than it was made from
len_most : {X : Type 0} (es : List (ℕ × X)) → map.len (map.from_entries {R = nat_cmp} es) ≤ length es
len_most {X = X} [] = let none = map.len-empty nat_cmp X in omega (arith, none)
len_most {X = X} (e ∷ es) =
    let m : map.FinMap nat_cmp X = map.from_entries es in
    go m (map.contains_key m e.0) refl (len_most es)
  where
    go : (m : map.FinMap nat_cmp X) (b : Bool) → map.contains_key m e.0 ≡ b → map.len m ≤ length es
        → map.len (map.insert m e.0 e.1) ≤ suc (length es)
    go m true is few = let more = map.len-insert nat_cmp_total m e.0 e.1 ∙ cond-true _ _ _ is in omega (arith, more, few)
    go m false is few = let more = map.len-insert nat_cmp_total m e.0 e.1 ∙ cond-false _ _ _ is in
        omega (arith, more, few)

-- each live node has a slot
live_most : (n : ℕ) (slots : List (Option (Option Known))) → length (live n slots) ≤ count_by is_some slots
live_most n [] = omega arith
live_most n (None ∷ rest) = omega (arith, live_most (n + 1) rest, sum_by-cons (λ o. cond (is_some o) 1 0) None rest)
live_most n (Some None ∷ rest)
    = omega (arith, live_most (n + 1) rest, sum_by-cons (λ o. cond (is_some o) 1 0) (Some None) rest)
live_most n (Some (Some r) ∷ rest)
    = omega (arith, live_most (n + 1) rest, sum_by-cons (λ o. cond (is_some o) 1 0) (Some (Some r)) rest)

-- where there are as many nodes as slots in use, none of them is killed
none_killed_in : (n q : ℕ) (slots : List (Option (Option Known))) → count_by is_some slots ≤ length (live n slots)
    → get_or slots q None ≢ Some None
none_killed_in n q [] few e = cc
none_killed_in n zero (None ∷ rest) few e = cc
none_killed_in n zero (Some None ∷ rest) few e = absurd (omega (
  arith,
  few,
  live_most (n + 1) rest,
  sum_by-cons (λ o. cond (is_some o) 1 0) (Some None) rest,
))
none_killed_in n zero (Some (Some r) ∷ rest) few e = cc
none_killed_in n (suc q) (None ∷ rest) few e = none_killed_in (n + 1) q rest
    (omega (arith, few, sum_by-cons (λ o. cond (is_some o) 1 0) None rest)) e
none_killed_in n (suc q) (Some None ∷ rest) few e = absurd (omega (
  arith,
  few,
  live_most (n + 1) rest,
  sum_by-cons (λ o. cond (is_some o) 1 0) (Some None) rest,
))
none_killed_in n (suc q) (Some (Some r) ∷ rest) few e = none_killed_in (n + 1) q rest
    (omega (arith, few, sum_by-cons (λ o. cond (is_some o) 1 0) (Some (Some r)) rest)) e

pub none_killed : (s : slots.Slab (Option Known)) (q : ℕ) → slots.slab_len s ≤ map.len (now_of s)
    → slots.get s q ≢ Some None
none_killed s q few =
    let most = len_most (live 0 s.slots) in
    none_killed_in 0 q s.slots (omega (arith, few, most))
