-- How a walk goes from child to child.
use Rattle.std.proofs.Common.{◌≡◌, ℕ, zero, suc, ◌+◌, ◌-◌, ◌<◌, ◌≤◌, Some, None, List, [], ◌∷◌, length, drop, set, get_or, slice_get, refl}
use Rattle.std.proofs.Common.{sym, subst, ◌∙◌, arith}
use Rattle.std.specs.Prelude.{Err, Ok, Result}
use Rattle.std.specs.Ordering.{nat_cmp, eq_by_cmp}
use Rattle.cube_defs.specs.Cell.{Cell}
use Rattle.cube_defs.specs.Tree.{Tree}
use Rattle.cube_defs.specs.Answers.{Box}
use Rattle.qc_arena.specs.RecordReaders.{record_at}
use Rattle.tree_laws.specs.Walk.{target_at}
use Rattle.range_query.specs.declared.children.Child.{Child}
use Rattle.range_query.specs.declared.hit.Hit.{Hit}
use Rattle.range_query.specs.declared.hit.RangeRefused.{RangeRefused}
use Rattle.range_query.specs.Children.{AreChildren, IsFirst, NoneBetween}
use Rattle.range_query.specs.Walk.{CanWalk, Finds, GoesOn, StandsAtNode, cost, met}
use Rattle.range_query.proofs.Finding.{FindsNext, FindsTaken, finds_entered, none_searched, taken_all, taken_more, taken_on, taken_part}
use Rattle.range_query.proofs.Standing.{back, leads_edge, stands_after}

get_within : (xs : List ℕ) (k : ℕ) → k < length xs → slice_get xs k ≡ Some (get_or xs k 0)
get_within [] k l = absurd (omega arith)
get_within (x ∷ xs) zero l = refl
get_within (x ∷ xs) (suc k) l = get_within xs k (omega arith)

module _ (dims : ℕ) (tree : Tree ℕ) (node : ℕ) (p : Cell ℕ) (i : ℕ) (s : StandsAtNode dims tree node p i) (limit : ℕ)
    (box : Box ℕ) (l : i < dims) where
  -- the walk goes on at a child
  pub goes_on : (scan : CanWalk dims tree box) (v j : ℕ)
      → target_at (eq_by_cmp nat_cmp) i v (record_at tree node).edges ≡ Some j → (q : Cell ℕ) → q ≡ p → (hits : List Hit)
      → length hits ≤ limit → GoesOn dims tree box limit j (set q i (Some v)) (i + 1) hits
  goes_on scan v j w q is hits few = record {
    scan = scan;
    stands = subst (λ c. StandsAtNode dims tree j (set c i (Some v)) (i + 1)) (sym is)
        (stands_after dims tree node p i s scan.is_tree (Some v) l _ (leads_edge dims tree node p i s v l) j w);
    few = few;
  }

  pub back_on : (v : ℕ) (q : Cell ℕ) → q ≡ p → set (set q i (Some v)) i None ≡ q
  back_on v q is = subst (λ c. set (set c i (Some v)) i None ≡ c) (sym is) (back (Some v) s l)

  module _ (codes : List ℕ) (children : List Child)
      (are : AreChildren codes i (record_at tree node).edges children) where
    pub child_led : (place child : ℕ) (from : ℕ) → IsFirst from children place child → place < length codes
        → target_at (eq_by_cmp nat_cmp) i (get_or codes place 0) (record_at tree node).edges ≡ Some child
    child_led place child from f m
        = sym (are.same place (get_or codes place 0) (get_within codes place m)) ∙ f.is

    -- there are no hits up to the next child
    taken_to : (k place : ℕ) {old new : List Hit} {q : Cell ℕ} {before now : ℕ} → k ≤ place → place ≤ length codes
        → NoneBetween k place children
        → FindsTaken 0 dims tree p i limit box codes k old new q before now
        → FindsTaken 0 dims tree p i limit box codes place old new q before now
    taken_to k place {old = old} {new = new} {q = q} {before = before} {now = now} a b none f =
        let same : k + (place - k) ≡ place = omega (arith, a) in
        subst (λ n. FindsTaken 0 dims tree p i limit box codes n old new q before now) same
        (taken_on dims tree node p i s limit box codes l (place - k) k (omega (arith, a, b))
        (λ j m n. let within : j < place = omega (arith, n, a) in
        sym (are.same j (get_or codes j 0) (get_within codes j (omega (arith, within, b)))) ∙ none j m within) f)

    -- the hits of one child
    next_entered : {T : Type 0} (k j : ℕ) (q : Cell ℕ) {old new : List Hit} {r : Cell ℕ} {before now : ℕ}
        (result : Result T RangeRefused) → q ≡ p
        → target_at (eq_by_cmp nat_cmp) i (get_or codes k 0) (record_at tree node).edges ≡ Some j
        → Finds dims tree limit (λ source. met source (drop (i + 1) box) (set q i (Some (get_or codes k 0))) (i + 1))
        (λ source. cost source (drop (i + 1) box) (set q i (Some (get_or codes k 0))) (i + 1)) old new q r before now result
        → FindsNext 0 dims tree p i limit box codes k old new q r before now result
    next_entered k j q {old = old} {new = new} {r = r} {before = before} {now = now} result is w = subst (λ c.
        Finds dims tree limit (λ source. met source (drop (i + 1) box) (set c i (Some (get_or codes k 0))) (i + 1))
        (λ source. cost source (drop (i + 1) box) (set c i (Some (get_or codes k 0))) (i + 1)) old new c r before now result
        → FindsNext 0 dims tree p i limit box codes k old new c r before now result) (sym is)
        (λ f. finds_entered dims tree node p i s limit box 0 l (get_or codes k 0) _
        (leads_edge dims tree node p i s (get_or codes k 0) l) j result w (omega arith) f)

    pub child_taken : (k place child : ℕ) {old mid new : List Hit} {q r : Cell ℕ} {before between now : ℕ}
        → IsFirst k children place child → NoneBetween k place children → place < length codes
        → FindsTaken 0 dims tree p i limit box codes k old mid q before between
        → Finds {T = Unit {0}} dims tree limit
        (λ source. met source (drop (i + 1) box) (set q i (Some (get_or codes place 0))) (i + 1))
        (λ source. cost source (drop (i + 1) box) (set q i (Some (get_or codes place 0))) (i + 1)) mid new q r between now
        (Ok tt)
        → FindsTaken 0 dims tree p i limit box codes (place + 1) old new r before now
    child_taken k place child {q = q} first none m f g =
        taken_more dims tree node p i s limit box 0 codes m (taken_to k place first.after (omega (arith, m)) none f)
        (next_entered place child q (Ok tt) f.cell (child_led place child k first m) g)

    module _ (dim : i < length box) (is : get_or box i None ≡ Some codes) where
      pub child_refused : (k place child : ℕ) {old mid new : List Hit} {q r : Cell ℕ} {before between now : ℕ}
          (e : RangeRefused) → IsFirst k children place child → NoneBetween k place children → place < length codes
          → FindsTaken 0 dims tree p i limit box codes k old mid q before between
          → Finds {T = Unit {0}} dims tree limit
          (λ source. met source (drop (i + 1) box) (set q i (Some (get_or codes place 0))) (i + 1))
          (λ source. cost source (drop (i + 1) box) (set q i (Some (get_or codes place 0))) (i + 1)) mid new q r between now
          (Err e)
          → Finds {T = Unit {0}} dims tree limit (λ source. met source (drop i box) p i)
          (λ source. cost source (drop i box) p i) old new p r before (now + (1 + length codes)) (Err e)
      child_refused k place child {q = q} e first none m f g =
          taken_part dims tree node p i s limit box 0 codes dim is (length codes)
          (none_searched dims tree node p i s limit box codes) e m
          (taken_to k place first.after (omega (arith, m)) none f)
          (next_entered place child q (Err e) f.cell (child_led place child k first m) g)

      pub children_taken : (k : ℕ) {old new : List Hit} {q : Cell ℕ} {before now : ℕ} → k ≤ length codes
          → NoneBetween k (length codes) children
          → FindsTaken 0 dims tree p i limit box codes k old new q before now
          → Finds {T = Unit {0}} dims tree limit (λ source. met source (drop i box) p i)
          (λ source. cost source (drop i box) p i) old new p q before (now + (1 + length codes)) (Ok tt)
      children_taken k m none f =
          taken_all dims tree node p i s limit box 0 codes dim is (length codes)
          (none_searched dims tree node p i s limit box codes) (omega arith)
          (taken_to k (length codes) m (omega arith) none f)
