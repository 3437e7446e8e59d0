-- Edges are mended one after another, the last one first.
use Rattle.std.proofs.Common.{◌≡◌, ◌≢◌, ◌∙◌, get_or, inl, inr, ℕ, zero, suc, ◌<◌, ◌≤◌, Bool, true, false, not, Option, Some, None, List, []}
use Rattle.std.proofs.Common.{◌∷◌, filter_map, length, slice_get, nat_eq, refl, sym, ap, arith, eqb-true, is_some, true≢false}
use Rattle.std.proofs.lemmas.Bool.{and_from, and_parts, cond-true, cond-false}
use Rattle.std.proofs.lemmas.Bool.Decides.{nat_tests, eqb_tells}
use Rattle.std.specs.List.{cons_option, list_all}
use Rattle.std.specs.Option.{option_map}
use Rattle.std.specs.Prelude.{IsSome}
use Rattle.std.specs.FinMap as map
use Rattle.cube_defs.specs.Tree.{Edge, Tree}
use Rattle.std.proofs.lemmas.Option.{slice_get_within}
use Rattle.batch_delete.proofs.Growing.{item_at}
use Rattle.qc_arena.specs.Edges.{drop_label, put_edge, rises, same_label}
use Rattle.qc_arena.specs.Map.{Arena, CanChange, Known, is_open}
use Rattle.qc_arena.specs.RecordReaders.{label_lt}
use Rattle.qc_arena.proofs.CallerLemmas.{all_at, drop_none, lt_apart, lt_apart_back}
use Rattle.batch_delete.specs.Plan.{ChangesOnly, redirected_edge, first_redirected, with_target, with_mixed}

not_before : (x : Edge ℕ ℕ) (t : ℕ) → label_lt x (record { dim = x.dim; value = x.value; target = t }) ≡ false
not_before x t = grind (arith, nat_tests)

itself : (x : Edge ℕ ℕ) (t : ℕ) → same_label x (record { dim = x.dim; value = x.value; target = t }) ≡ true
itself x t = grind (arith, nat_tests)

own_label : (x : Edge ℕ ℕ) → same_label x x ≡ true
own_label x = grind (arith, nat_tests)

pub rises_from : (es : List (Edge ℕ ℕ))
    → ((i j : ℕ) (e f : Edge ℕ ℕ) → i < j → slice_get es i ≡ Some e → slice_get es j ≡ Some f → label_lt e f ≡ true)
    → rises es ≡ true
rises_from [] h = refl
rises_from (x ∷ es) h =
    and_from _ _ (all_of es (λ j f e. h 0 (suc j) x f (omega arith) refl e))
    (rises_from es (λ i j e f l p q. h (suc i) (suc j) e f (omega arith) p q))
  where
    all_of : (es : List (Edge ℕ ℕ)) → ((j : ℕ) (f : Edge ℕ ℕ) → slice_get es j ≡ Some f → label_lt x f ≡ true)
        → list_all (label_lt x) es ≡ true
    all_of [] h = refl
    all_of (y ∷ es) h = and_from _ _ (h 0 y refl) (all_of es (λ j f e. h (suc j) f e))

module _ (f : Edge ℕ ℕ → Option ℕ) where
  -- labels stay as edges are led on
  pub led_behind : (x : Edge ℕ ℕ) (xs : List (Edge ℕ ℕ)) → list_all (label_lt x) xs ≡ true
      → list_all (λ y. not (same_label y x)) (filter_map (redirected_edge f) xs) ≡ true
  led_behind x [] h = refl
  led_behind x (y ∷ xs) h = go (f y) (led_behind x xs (and_parts (label_lt x y) (list_all (label_lt x) xs) h).1)
    where
      go : (o : Option ℕ) → list_all (λ y. not (same_label y x)) (filter_map (redirected_edge f) xs) ≡ true
          → list_all (λ y. not (same_label y x))
          (cons_option (option_map (λ t. let e : Edge ℕ ℕ = record { dim = y.dim; value = y.value; target = t } in
          e) o) (filter_map (redirected_edge f) xs)) ≡ true
      go None more = more
      go (Some t) more = and_from _ _
          (ap not (lt_apart_back (record { dim = y.dim; value = y.value; target = t }) x
          (and_parts (label_lt x y) (list_all (label_lt x) xs) h).0)) more

  pub mixed_at : (j : ℕ) (xs : List (Edge ℕ ℕ)) (x : Edge ℕ ℕ) → slice_get xs j ≡ Some x
      → slice_get (first_redirected f (suc j) xs) j ≡ Some x
  mixed_at zero [] x h = h
  mixed_at zero (y ∷ xs) x h = h
  mixed_at (suc j) [] x h = cc
  mixed_at (suc j) (y ∷ xs) x h = mixed_at j xs x h

  pub mixed_all : (xs : List (Edge ℕ ℕ)) (j : ℕ) → length xs ≤ j → first_redirected f j xs ≡ xs
  mixed_all [] zero h = refl
  mixed_all [] (suc j) h = refl
  mixed_all (x ∷ xs) zero h = absurd (omega arith)
  mixed_all (x ∷ xs) (suc j) h = ap (λ (l : List (Edge ℕ ℕ)). x ∷ l) (mixed_all xs j (omega arith))

  dropped : (j : ℕ) (xs : List (Edge ℕ ℕ)) (x : Edge ℕ ℕ) → rises xs ≡ true → slice_get xs j ≡ Some x → f x ≡ None
      → drop_label x.dim x.value (first_redirected f (suc j) xs) ≡ first_redirected f j xs
  dropped j [] x r h e = cc
  dropped zero (y ∷ xs) x r h e =
      let is : y ≡ x = cc in
      let p = and_parts (list_all (label_lt y) xs) (rises xs) r in
      ap (λ (z : Edge ℕ ℕ). drop_label x.dim x.value (z ∷ filter_map (redirected_edge f) xs)) is
      ∙ cond-false (not (same_label x x)) (x ∷ drop_label x.dim x.value (filter_map (redirected_edge f) xs))
      (drop_label x.dim x.value (filter_map (redirected_edge f) xs)) (ap not (own_label x))
      ∙ drop_none x (filter_map (redirected_edge f) xs)
      (led_behind x xs (rw (← is) p.0))
      ∙ sym (ap (λ (o : Option ℕ). cons_option
      (option_map (λ t. let e : Edge ℕ ℕ = record { dim = y.dim; value = y.value; target = t } in e) o)
      (filter_map (redirected_edge f) xs)) (ap f is ∙ e))
  dropped (suc j) (y ∷ xs) x r h e =
      let p = and_parts (list_all (label_lt y) xs) (rises xs) r in
      cond-true (not (same_label y x)) (y ∷ drop_label x.dim x.value (first_redirected f (suc j) xs))
      (drop_label x.dim x.value (first_redirected f (suc j) xs))
      (ap not (lt_apart y x (all_at (label_lt y) xs j x p.0 h)))
      ∙ ap (λ (l : List (Edge ℕ ℕ)). y ∷ l) (dropped j xs x p.1 h e)

  turned : (j : ℕ) (xs : List (Edge ℕ ℕ)) (x : Edge ℕ ℕ) (t : ℕ) → rises xs ≡ true → slice_get xs j ≡ Some x
      → f x ≡ Some t → put_edge (record { dim = x.dim; value = x.value; target = t }) (first_redirected f (suc j) xs)
      ≡ first_redirected f j xs
  turned j [] x t r h e = cc
  turned zero (y ∷ xs) x t r h e =
      let is : y ≡ x = cc in
      ap (λ (z : Edge ℕ ℕ). put_edge (record { dim = x.dim; value = x.value; target = t })
      (z ∷ filter_map (redirected_edge f) xs)) is
      ∙ cond-false _ _ _ (not_before x t) ∙ cond-true _ _ _ (itself x t)
      ∙ sym (ap (λ (z : Edge ℕ ℕ). cons_option (redirected_edge f z) (filter_map (redirected_edge f) xs)) is
      ∙ ap (λ (o : Option ℕ). cons_option
      (option_map (λ t. let e : Edge ℕ ℕ = record { dim = x.dim; value = x.value; target = t } in e) o)
      (filter_map (redirected_edge f) xs)) e)
  turned (suc j) (y ∷ xs) x t r h e =
      let p = and_parts (list_all (label_lt y) xs) (rises xs) r in
      cond-true _ _ _ (all_at (label_lt y) xs j x p.0 h) ∙ ap (λ (l : List (Edge ℕ ℕ)). y ∷ l) (turned j xs x t p.1 h e)

  kept : (j : ℕ) (xs : List (Edge ℕ ℕ)) (x : Edge ℕ ℕ) → slice_get xs j ≡ Some x → f x ≡ Some x.target
      → first_redirected f (suc j) xs ≡ first_redirected f j xs
  kept j [] x h e = cc
  kept zero (y ∷ xs) x h e =
      let is : y ≡ x = cc in
      sym (ap (λ (o : Option ℕ). cons_option
      (option_map (λ t. let e : Edge ℕ ℕ = record { dim = y.dim; value = y.value; target = t } in e) o)
      (filter_map (redirected_edge f) xs)) (ap f is ∙ e ∙ ap (λ (z : Edge ℕ ℕ). Some z.target) (sym is)))
  kept (suc j) (y ∷ xs) x h e = ap (λ (l : List (Edge ℕ ℕ)). y ∷ l) (kept j xs x h e)

  -- one edge more is mended
  pub mended_more : (j : ℕ) (n : Known) (x : Edge ℕ ℕ) (o : Option ℕ) → rises n.edges ≡ true
      → slice_get n.edges j ≡ Some x → o ≡ f x → with_target x o (with_mixed f (suc j) n) ≡ with_mixed f j n
  mended_more j n x None r h e = ap (λ (l : List (Edge ℕ ℕ)). record n { edges = l }) (dropped j n.edges x r h (sym e))
  mended_more j n x (Some t) r h e = go (nat_eq t x.target) refl
    where
      go : (b : Bool) → nat_eq t x.target ≡ b → with_target x (Some t) (with_mixed f (suc j) n) ≡ with_mixed f j n
      go true s = cond-true _ _ _ s
          ∙ ap (λ (l : List (Edge ℕ ℕ)). record n { edges = l })
          (kept j n.edges x h (sym e ∙ ap (λ z. Some z) (eqb-true t x.target s)))
      go false s = cond-false _ _ _ s
          ∙ ap (λ (l : List (Edge ℕ ℕ)). record n { edges = l }) (turned j n.edges x t r h (sym e))

  pub looked : (xs : List (Edge ℕ ℕ)) (j : ℕ) (x : Edge ℕ ℕ) → j < length xs
      → slice_get (first_redirected f (suc j) xs) j ≡ Some x → slice_get xs j ≡ Some x
  looked xs j x l h =
      let at = item_at xs j x l in
      at ∙ sym (mixed_at j xs (get_or xs j x) at) ∙ h

  pub mixed_long : (xs : List (Edge ℕ ℕ)) (j : ℕ) → j < length xs → j < length (first_redirected f (suc j) xs)
  mixed_long xs j l =
      let at = item_at xs j (record { dim = 0; value = 0; target = 0 }) l in
      slice_get_within (first_redirected f (suc j) xs) j (get_or xs j (record { dim = 0; value = 0; target = 0 }))
      (mixed_at j xs _ at)

  pub all_mixed : (n : Known) (j : ℕ) → length n.edges ≤ j → with_mixed f j n ≡ n
  all_mixed n j h = ap (λ (l : List (Edge ℕ ℕ)). record n { edges = l }) (mixed_all n.edges j h)

pub there_still : (old now : Tree ℕ) (k : ℕ) → ((q : ℕ) → q ≢ k → map.get now q ≡ map.get old q)
    → IsSome (map.get now k) → (t : ℕ) → IsSome (map.get old t) → IsSome (map.get now t)
there_still old now k others here t h = elim (eqb_tells t k) [
  | inl e ↦ rw e.1 here
  | inr e ↦ rw (others t e.1) h
]

-- a node that was changed can be changed again
mapped : {X Y : Type 0} (f : X → Y) (o : Option X) (m : Option Y) → m ≡ option_map f o → IsSome o → IsSome m
mapped f None m e h = absurd (true≢false (sym h))
mapped f (Some x) m e h = ap is_some e

pub changed : (a b : Arena) (k : ℕ) (f : Known → Known) → map.get b.now k ≡ option_map f (map.get a.now k)
    → ChangesOnly k a b → CanChange a k → CanChange b k
changed a b k f here only can = record {
  opened = ap is_open only.frame ∙ can.opened;
  there = mapped f (map.get a.now k) (map.get b.now k) here can.there;
  touched = only.touched k ∙ can.touched;
}

pub no_change : (k : ℕ) (a : Arena) → ChangesOnly k a a
no_change k a = record { others = λ q off. refl; touched = λ q. refl; frame = refl }

pub more_changes : (k : ℕ) (a b c : Arena) → ChangesOnly k a b → ChangesOnly k b c → ChangesOnly k a c
more_changes k a b c had more = record {
  others = λ q off. more.others q off ∙ had.others q off;
  touched = λ q. more.touched q ∙ had.touched q;
  frame = more.frame ∙ had.frame;
}
