-- The prefixes of the closures that the cells that generalize the tuple have with the row.
use Rattle.std.proofs.Common.{◌≡◌, ◌⊎◌, inl, inr, ℕ, zero, suc, ◌≤◌, ◌<◌, true, Option, Some, None, [], ◌∷◌, ◌++◌, length, nat_cmp}
use Rattle.std.proofs.Common.{slice_get, refl, sym, ap, ap₂, subst, ◌∙◌, arith}
use Rattle.std.specs.Ordering.{eq_by_cmp}
use Rattle.cube_defs.specs.Cell.{Cell, depth, entry_meet, cell_prefix, leq, meet, with_value}
use Rattle.cube_defs.specs.Rows.{meet_after}
use Rattle.cube_laws.proofs.CallerLemmas.{leq_trans, leq_antisymm, meet_great, cell_prefix-leq, cell_prefix_mono, length-cell_prefix}
use Rattle.cube_laws.proofs.CallerLemmas.{length-meet, depth-le, meet_after_below, meet_after_rest, leq-closure, closure_mono, closure_some}
use Rattle.cube_laws.proofs.CallerLemmas.{closure_idem, closure_length, value_above, item_at, none_some, code_equality}
use Rattle.tree_laws.specs.Labels.{target_after_row}
use Rattle.tree_laws.proofs.CallerLemmas.{some_same, not_any, any_after, depth-cell_prefix-le, get-cell_prefix, cell_prefix-beyond}
use Rattle.tree_laws.proofs.CallerLemmas.{cell_prefix-cell_prefix, upto-entry, upto-none, upto-meet_after}
use Rattle.qc_arena.specs.Map.{Arena}
use Rattle.batch_insert.specs.Cases.{Case, IsPrefix, new_closure, old_closure, old_lead}

pub le_or_lt : (a b : ℕ) → (a ≤ b) ⊎ (suc b ≤ a)
le_or_lt zero b = inl (omega arith)
le_or_lt (suc a) zero = inr (omega arith)
le_or_lt (suc a) (suc b) = elim (le_or_lt a b) [ inl h ↦ inl (omega (arith, h)) | inr h ↦ inr (omega (arith, h)) ]

pub get_meet : (p q : Cell ℕ) (i : ℕ) (e f : Option ℕ) → slice_get p i ≡ Some e → slice_get q i ≡ Some f
    → slice_get (meet (eq_by_cmp nat_cmp) p q) i ≡ Some (entry_meet (eq_by_cmp nat_cmp) e f)
get_meet [] q i e f h k = cc
get_meet (x ∷ p) [] i e f h k = cc
get_meet (x ∷ p) (y ∷ q) zero e f h k
    = ap (λ z. Some z) (ap₂ (entry_meet (eq_by_cmp nat_cmp)) (some_same h) (some_same k))
get_meet (x ∷ p) (y ∷ q) (suc i) e f h k = get_meet p q i e f h k

pub past : (u : Cell ℕ) (i : ℕ) → i < length u → slice_get u i ≡ None → ⊥
past u i l e = none_some (sym e ∙ (item_at u i l).1)

module _ {t : Cell ℕ} {a : Arena} (c : Case t a) where
  pub old_long : (p u : Cell ℕ) → old_closure c p ≡ Some u → length u ≡ length t
  old_long p u e = closure_length _ a.width p u (c.xs ++ c.ys) c.from.wide e ∙ sym c.wide

  met_long : (o : Option (Cell ℕ)) → ((u : Cell ℕ) → o ≡ Some u → length u ≡ length t)
      → length (meet_after (eq_by_cmp nat_cmp) t o) ≡ length t
  met_long None f = refl
  met_long (Some u) f = length-meet (eq_by_cmp nat_cmp) t u (sym (f u refl))

  pub new_long : (p : Cell ℕ) → length (new_closure c p) ≡ length t
  new_long p = met_long (old_closure c p) (λ u e. old_long p u e)

  pub new_below : (p : Cell ℕ) → leq (eq_by_cmp nat_cmp) (new_closure c p) t ≡ true
  new_below p = meet_after_below code_equality t _

  pub prefix_long : (p : Cell ℕ) (i : ℕ) → IsPrefix c p i → length p ≡ length t
  prefix_long p i h = ap length (sym h) ∙ length-cell_prefix i _ ∙ new_long p

  pub prefix_leq : (p : Cell ℕ) (i : ℕ) → IsPrefix c p i → leq (eq_by_cmp nat_cmp) p t ≡ true
  prefix_leq p i h = leq_trans code_equality p _ t
      (rw h at (cell_prefix-leq code_equality i (new_closure c p))) (new_below p)

  pub prefix_deep : (p : Cell ℕ) (i : ℕ) → IsPrefix c p i → depth p ≤ i
  prefix_deep p i h = rw (← h) (depth-cell_prefix-le i _)

  -- what is a prefix before a dimension is one before each between
  pub prefix_before : (p : Cell ℕ) (j i : ℕ) → j ≤ i → depth p ≤ j → IsPrefix c p i → IsPrefix c p j
  prefix_before p j i h d f = sym (cell_prefix-cell_prefix j i _ h) ∙ ap (cell_prefix j) f ∙ cell_prefix-beyond j p d

  pub above_self : (p : Cell ℕ) → leq (eq_by_cmp nat_cmp) p t ≡ true
      → leq (eq_by_cmp nat_cmp) p (new_closure c p) ≡ true
  above_self p h = go _ (λ u e. leq-closure code_equality (c.xs ++ c.ys) p u e)
    where
      go : (o : Option (Cell ℕ)) → ((u : Cell ℕ) → o ≡ Some u → leq (eq_by_cmp nat_cmp) p u ≡ true)
          → leq (eq_by_cmp nat_cmp) p (meet_after (eq_by_cmp nat_cmp) t o) ≡ true
      go None f = h
      go (Some u) f = meet_great code_equality p t u h (f u refl)

  pub closure_rises : (p q : Cell ℕ) → leq (eq_by_cmp nat_cmp) p q ≡ true
      → leq (eq_by_cmp nat_cmp) (new_closure c p) (new_closure c q) ≡ true
  closure_rises p q h = go _ refl
    where
      go : (o : Option (Cell ℕ)) → old_closure c q ≡ o
          → leq (eq_by_cmp nat_cmp) (new_closure c p) (meet_after (eq_by_cmp nat_cmp) t o) ≡ true
      go None e = new_below p
      go (Some w) e =
          let u = closure_some code_equality (c.xs ++ c.ys) p q w h e in
          meet_great code_equality (new_closure c p) t w (new_below p)
          (leq_trans code_equality _ u.0 w (meet_after_rest code_equality t _ u.0 u.1)
          (closure_mono code_equality (c.xs ++ c.ys) p q u.0 w h u.1 e))

  pub deep_prefix : (p : Cell ℕ) (i : ℕ) → IsPrefix c p i → IsPrefix c p (depth p)
  deep_prefix p i f = prefix_before p _ i (prefix_deep p i f) (omega arith) f

  -- the closure of a closure
  closure_again : (p : Cell ℕ) → leq (eq_by_cmp nat_cmp) (new_closure c (new_closure c p)) (new_closure c p) ≡ true
  closure_again p = go (old_closure c p) refl
    where
      go : (o : Option (Cell ℕ)) → old_closure c p ≡ o
          → leq (eq_by_cmp nat_cmp) (new_closure c (new_closure c p)) (new_closure c p) ≡ true
      go None e = subst (λ x. leq (eq_by_cmp nat_cmp) (new_closure c (new_closure c p)) x ≡ true)
          (sym (ap (meet_after (eq_by_cmp nat_cmp) t) e)) (new_below _)
      go (Some u) e = rw (ap (meet_after (eq_by_cmp nat_cmp) t) (closure_idem code_equality (c.xs ++ c.ys) p u e ∙ sym e)) at
          (closure_rises _ u (meet_after_rest code_equality t _ u e))

  -- a prefix of a closure is a node
  pub closure_prefix : (p : Cell ℕ) (i : ℕ) → IsPrefix c (cell_prefix i (new_closure c p)) i
  closure_prefix p i =
      let n = new_closure c p in
      let q = cell_prefix i n in
      let less = cell_prefix-leq code_equality i n in
      let up : leq (eq_by_cmp nat_cmp) (cell_prefix i q) (cell_prefix i (new_closure c q)) ≡ true
      = cell_prefix_mono code_equality i _ _ (above_self q (leq_trans code_equality q n t less (new_below p))) in
      let down : leq (eq_by_cmp nat_cmp) (cell_prefix i (new_closure c q)) q ≡ true
      = cell_prefix_mono code_equality i _ _
      (leq_trans code_equality (new_closure c q) (new_closure c n) n (closure_rises q n less) (closure_again p)) in
      leq_antisymm code_equality _ _ down
      (rw (cell_prefix-cell_prefix i i n (omega arith)) at up)

  -- the target of a label with the row's value
  pub target_prefix : (p : Cell ℕ) (i v : ℕ)
      → IsPrefix c (target_after_row (eq_by_cmp nat_cmp) (old_lead c p i v) t i) (suc i)
  target_prefix p i v = rw (← (upto-meet_after code_equality _ t i)) (closure_prefix _ _)

  -- the child in the dimension of the closure's next value
  pub next_prefix : (p : Cell ℕ) (i v : ℕ) → IsPrefix c p i → slice_get (new_closure c p) i ≡ Some (Some v)
      → IsPrefix c (with_value p i v) (suc i)
  next_prefix p i v f e = rw (← (upto-entry _ i v e ∙ ap (λ x. with_value x i v) f)) (closure_prefix p _)

  -- a node with a value more
  pub child_prefix : (p : Cell ℕ) (i v : ℕ)
      → (target_after_row (eq_by_cmp nat_cmp) (old_lead c p i v) t i ≡ with_value p i v)
      → IsPrefix c (with_value p i v) (suc i)
  child_prefix p i v h = upto-meet_after code_equality _ t i ∙ h

  pub child_back : (p : Cell ℕ) (i v : ℕ) → IsPrefix c (with_value p i v) (suc i)
      → target_after_row (eq_by_cmp nat_cmp) (old_lead c p i v) t i ≡ with_value p i v
  child_back p i v h = sym (upto-meet_after code_equality _ t i) ∙ h

  -- one dimension on, where the closure has no value there
  pub prefix_on : (p : Cell ℕ) (i : ℕ) → IsPrefix c p i → slice_get (new_closure c p) i ≡ Some None
      → IsPrefix c p (suc i)
  prefix_on p i h e = upto-none _ i e ∙ h

  pub prefix_end : (p : Cell ℕ) (i : ℕ) → IsPrefix c p i → length t ≤ i → new_closure c p ≡ p
  prefix_end p i h l = sym (cell_prefix-beyond i (new_closure c p) (let d = depth-le (new_closure c p) in
      omega (arith, d, l, new_long p))) ∙ h

  -- a prefix of a node is a node
  pub node_prefix : (q : Cell ℕ) (i : ℕ) → i ≤ depth q → IsPrefix c q (depth q) → IsPrefix c (cell_prefix i q) i
  node_prefix q i h f =
      let below : leq (eq_by_cmp nat_cmp) (cell_prefix i q) t ≡ true
      = leq_trans code_equality (cell_prefix i q) q t (cell_prefix-leq code_equality i q)
      (prefix_leq q (depth q) f) in
      let up : leq (eq_by_cmp nat_cmp) (cell_prefix i (cell_prefix i q))
      (cell_prefix i (new_closure c (cell_prefix i q))) ≡ true
      = cell_prefix_mono code_equality i _ _ (above_self (cell_prefix i q) below) in
      let down : leq (eq_by_cmp nat_cmp) (cell_prefix i (new_closure c (cell_prefix i q)))
      (cell_prefix i (new_closure c q)) ≡ true
      = cell_prefix_mono code_equality i _ _
      (closure_rises (cell_prefix i q) q (cell_prefix-leq code_equality i q)) in
      let same : cell_prefix i (new_closure c q) ≡ cell_prefix i q
      = sym (cell_prefix-cell_prefix i (depth q) (new_closure c q) h) ∙ ap (cell_prefix i) f in
      leq_antisymm code_equality _ _
      (rw same at down)
      (rw (cell_prefix-cell_prefix i i q (omega arith)) at up)

  -- a node whose prefix before i is p, and p's forced child stands in i: it is p
  pub node_last : (p q : Cell ℕ) (i v : ℕ) → IsPrefix c p i → i < length t
      → slice_get (new_closure c p) i ≡ Some (Some v) → IsPrefix c q (depth q) → cell_prefix (suc i) q ≡ p → q ≡ p
  node_last p q i v fp l e fq k = go (le_or_lt _ _)
    where
      go : ((depth q ≤ suc i) ⊎ (suc (suc i) ≤ depth q)) → q ≡ p
      go (inl h) = sym (cell_prefix-beyond _ q h) ∙ k
      go (inr h) =
          let above : leq (eq_by_cmp nat_cmp) p q ≡ true
          = rw (← k) (cell_prefix-leq code_equality _ q) in
          let there : slice_get (new_closure c q) i ≡ Some (Some v)
          = value_above code_equality _ _ i v (closure_rises p q above) e in
          let there : slice_get q i ≡ Some (Some v) = ap (λ x. slice_get x i) (sym fq)
          ∙ get-cell_prefix i _ _ (omega (arith, h)) ∙ there in
          let here : slice_get p i ≡ Some (Some v) = ap (λ x. slice_get x i) (sym k)
          ∙ get-cell_prefix i _ q (omega arith) ∙ there in
          let none : slice_get p i ≡ Some None
          = any_after p i (prefix_deep p i fp) (omega (arith, prefix_long p i fp, l)) in
          absurd (not_any (sym here ∙ none))

  -- a node whose prefix before i is p: it has no value in i, or it has t's, and then p with this value is a node
  pub branch : (p q : Cell ℕ) (i v : ℕ) → i < length t → slice_get t i ≡ Some (Some v) → IsPrefix c q (depth q)
      → cell_prefix i q ≡ p
      → (cell_prefix (suc i) q ≡ p)
      ⊎ ((cell_prefix (suc i) q ≡ with_value p i v) × IsPrefix c (with_value p i v) (suc i))
  branch p q i v l e f k = go (slice_get q i) refl
    where
      long : length q ≡ length t
      long = prefix_long q _ f

      go : (o : Option (Option ℕ)) → slice_get q i ≡ o → (cell_prefix (suc i) q ≡ p)
          ⊎ ((cell_prefix (suc i) q ≡ with_value p i v) × IsPrefix c (with_value p i v) (suc i))
      go None h = absurd (past q i (omega (arith, l, long)) h)
      go (Some None) h = inl (upto-none q i h ∙ k)
      go (Some (Some w)) h =
          let is : slice_get t i ≡ Some (Some w) = value_above code_equality q t i w (prefix_leq q (depth q) f) h in
          let same : w ≡ v = let z : Some (Some w) ≡ Some (Some v) = sym is ∙ e in cc in
          let cut : cell_prefix (suc i) q ≡ with_value p i v = upto-entry q i w h
          ∙ ap₂ (λ x y. with_value x i y) k same in
          inr (cut, rw (← cut) (node_prefix q (suc i) (deep (le_or_lt (depth q) i) h) f))
        where
          deep : ((depth q ≤ i) ⊎ (suc i ≤ depth q)) → slice_get q i ≡ Some (Some w) → suc i ≤ depth q
          deep (inl d) h = absurd (not_any (sym h ∙ any_after q i d (omega (arith, l, long))))
          deep (inr d) h = d
