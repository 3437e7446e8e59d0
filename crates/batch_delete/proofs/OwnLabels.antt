-- Edges are led on by their labels: those that aren't left are dropped, and then those with the tuple's values are led
-- to heirs.
use Rattle.cube_laws.proofs.CallerLemmas.{none_some}
use Rattle.std.proofs.Common.{◌≡◌, ◌∙◌, ℕ, zero, suc, ◌<◌, Bool, true, false, not, ◌&&◌, Option, Some, None, List, [], ◌∷◌, filter_map}
use Rattle.std.proofs.Common.{length, slice_get, nat_eq, refl, sym, ap, ap₂, arith, eqb-true}
use Rattle.std.proofs.lemmas.Bool.{and_from, and_parts, cond-true, cond-false}
use Rattle.std.proofs.lemmas.Bool.Decides.{nat_tests}
use Rattle.std.specs.List.{cons_option, list_all}
use Rattle.std.specs.Option.{option_map}
use Rattle.std.specs.Prelude.{if◌then◌else◌}
use Rattle.cube_defs.specs.Cell.{Cell}
use Rattle.cube_defs.specs.Tree.{Edge}
use Rattle.qc_arena.specs.Edges.{drop_label, put_edge, rises, same_label}
use Rattle.qc_arena.specs.Map.{Known}
use Rattle.qc_arena.specs.RecordReaders.{label_lt}
use Rattle.qc_arena.proofs.CallerLemmas.{drop_none}
use Rattle.tree_laws.specs.Walk.{target_at}
use Rattle.tree_laws.proofs.CallerLemmas.{some_same}
use Rattle.batch_delete.specs.Plan.{is_left, redirected_edge, new_target, left_to, first_redirected, heir_target, with_mixed}
use Rattle.batch_delete.proofs.Rewriting.{mixed_all}

abbrev pub edge_with : Edge ℕ ℕ → ℕ → Edge ℕ ℕ
edge_with y t = record { dim = y.dim; value = y.value; target = t }

-- the first edges are kept where they lead on
pub mixed_kept : (f : Edge ℕ ℕ → Option ℕ) (j : ℕ) (xs : List (Edge ℕ ℕ))
    → ((k : ℕ) (x : Edge ℕ ℕ) → k < j → slice_get xs k ≡ Some x → f x ≡ Some x.target)
    → first_redirected f j xs ≡ first_redirected f 0 xs
mixed_kept f zero xs h = refl
mixed_kept f (suc j) [] h = refl
mixed_kept f (suc j) (x ∷ xs) h =
    ap (λ (l : List (Edge ℕ ℕ)). x ∷ l) (mixed_kept f j xs (λ k y l e. h (suc k) y (omega arith) e))
    ∙ sym (ap (λ (o : Option ℕ). cons_option (option_map (edge_with x) o)
    (filter_map (redirected_edge f) xs)) (h 0 x (omega arith) refl))

pub all_kept : (f : Edge ℕ ℕ → Option ℕ) (n : Known)
    → ((k : ℕ) (x : Edge ℕ ℕ) → slice_get n.edges k ≡ Some x → f x ≡ Some x.target) → with_mixed f 0 n ≡ n
all_kept f n h = ap (λ (l : List (Edge ℕ ℕ)). record n { edges = l })
    (sym (mixed_kept f (length n.edges) n.edges (λ k x l e. h k x e))
    ∙ mixed_all f n.edges (length n.edges) (omega arith))

-- edges are led alike where they lead alike
pub led_alike : (f g : Edge ℕ ℕ → Option ℕ) (xs : List (Edge ℕ ℕ))
    → ((k : ℕ) (x : Edge ℕ ℕ) → slice_get xs k ≡ Some x → f x ≡ g x) → first_redirected f 0 xs ≡ first_redirected g 0 xs
led_alike f g [] h = refl
led_alike f g (x ∷ xs) h
    = ap₂ (λ (o : Option ℕ) (l : List (Edge ℕ ℕ)). cons_option (option_map (edge_with x) o) l) (h 0 x refl)
    (led_alike f g xs (λ k y e. h (suc k) y e))

-- what is left was there
pub left_was : (next : Option (ℕ × ℕ)) (xs : List (Edge ℕ ℕ)) (k : ℕ) (x : Edge ℕ ℕ)
    → slice_get (first_redirected (left_to next) 0 xs) k ≡ Some x → (j : ℕ) × (slice_get xs j ≡ Some x)
    × (is_left next x.dim x.value ≡ true)
left_was next [] k x e = cc
left_was next (y ∷ xs) k x e = go (is_left next y.dim y.value) refl k e (left_was next xs)
  where
    go : (b : Bool) → is_left next y.dim y.value ≡ b → (k : ℕ)
        → slice_get (cons_option
        (option_map (edge_with y) (if b then Some y.target else None)) (first_redirected (left_to next) 0 xs)) k ≡ Some x
        → ((k : ℕ) (x : Edge ℕ ℕ) → slice_get (first_redirected (left_to next) 0 xs) k ≡ Some x → (j : ℕ)
        × (slice_get xs j ≡ Some x) × (is_left next x.dim x.value ≡ true)) → (j : ℕ)
        × (slice_get (y ∷ xs) j ≡ Some x) × (is_left next x.dim x.value ≡ true)
    go true s zero e more = (0, e, rw (← (some_same e)) s)
    go true s (suc k) e more = let m = more k x e in (suc m.0, m.1, m.2)
    go false s k e more = let m = more k x e in (suc m.0, m.1, m.2)

-- what is left rises
pub left_rises : (f : Edge ℕ ℕ → Option ℕ) (xs : List (Edge ℕ ℕ)) → rises xs ≡ true
    → rises (first_redirected f 0 xs) ≡ true
left_rises f [] r = refl
left_rises f (y ∷ xs) r = let p = and_parts (list_all (label_lt y) xs) (rises xs) r in
    go (f y) (behind y xs p.0) (left_rises f xs p.1)
  where
    behind : (y : Edge ℕ ℕ) (xs : List (Edge ℕ ℕ)) → list_all (label_lt y) xs ≡ true
        → list_all (label_lt y) (first_redirected f 0 xs) ≡ true
    behind y [] h = refl
    behind y (x ∷ xs) h = let p = and_parts (label_lt y x) (list_all (label_lt y) xs) h in
        by (f x) p.0 (behind y xs p.1)
      where
        by : (o : Option ℕ) → label_lt y x ≡ true → list_all (label_lt y) (first_redirected f 0 xs) ≡ true
            → list_all (label_lt y) (cons_option (option_map (edge_with x) o) (first_redirected f 0 xs)) ≡ true
        by None l more = more
        by (Some t) l more = and_from _ _ l more

    go : (o : Option ℕ) → list_all (label_lt y) (first_redirected f 0 xs) ≡ true
        → rises (first_redirected f 0 xs) ≡ true
        → rises (cons_option (option_map (edge_with y) o) (first_redirected f 0 xs)) ≡ true
    go None all more = more
    go (Some t) all more = and_from _ _ all more

-- first those that aren't left are dropped, and then the others are led
pub led_after : (tuple : Cell ℕ) (heirs : ℕ → Option ℕ) (next : Option (ℕ × ℕ)) (xs : List (Edge ℕ ℕ))
    → first_redirected (heir_target tuple heirs) 0 (first_redirected (left_to next) 0 xs) ≡ first_redirected
    (new_target tuple heirs next) 0 xs
led_after tuple heirs next [] = refl
led_after tuple heirs next (x ∷ xs) = go (is_left next x.dim x.value) (led_after tuple heirs next xs)
  where
    go : (b : Bool) → first_redirected (heir_target tuple heirs) 0 (first_redirected (left_to next) 0 xs)
        ≡ first_redirected (new_target tuple heirs next) 0 xs
        → first_redirected (heir_target tuple heirs) 0
        (cons_option (option_map (edge_with x) (if b then Some x.target else None)) (first_redirected (left_to next) 0 xs))
        ≡ cons_option (option_map (edge_with x) (if b then heir_target tuple heirs x else None))
        (first_redirected (new_target tuple heirs next) 0 xs)
    go true more = ap (cons_option (option_map (edge_with x) (heir_target tuple heirs x))) more
    go false more = more

-- one label is led elsewhere
module _ (f g : Edge ℕ ℕ → Option ℕ) (i v : ℕ) (others : (y : Edge ℕ ℕ) → (nat_eq y.dim i && nat_eq y.value v) ≡ false
    → f y ≡ g y) (own : (y : Edge ℕ ℕ) → (nat_eq y.dim i && nat_eq y.value v) ≡ true → f y ≡ Some y.target) where
  abbrev label : Edge ℕ ℕ → Bool
  label y = nat_eq y.dim i && nat_eq y.value v

  abbrev fs : List (Edge ℕ ℕ) → List (Edge ℕ ℕ)
  fs xs = first_redirected f 0 xs

  abbrev gs : List (Edge ℕ ℕ) → List (Edge ℕ ℕ)
  gs xs = first_redirected g 0 xs

  abbrev cons : Edge ℕ ℕ → Option ℕ → List (Edge ℕ ℕ) → List (Edge ℕ ℕ)
  cons y o l = cons_option (option_map (edge_with y) o) l

  -- the edge of the label that leads to a node
  abbrev with_label : ℕ → Edge ℕ ℕ
  with_label t = record { dim = i; value = v; target = t }

  -- without the label nothing changes
  pub not_there : (ys : List (Edge ℕ ℕ)) → target_at nat_eq i v (fs ys) ≡ None → fs ys ≡ gs ys
  not_there [] h = refl
  not_there (y ∷ ys) h = go (label y) refl (f y) refl h (not_there ys)
    where
      go : (b : Bool) → label y ≡ b → (o : Option ℕ) → f y ≡ o → target_at nat_eq i v (cons y o (fs ys)) ≡ None
          → (target_at nat_eq i v (fs ys) ≡ None → fs ys ≡ gs ys) → cons y (f y) (fs ys) ≡ cons y (g y) (gs ys)
      go true s None e h more = absurd (none_some (sym e ∙ own y s))
      go true s (Some t) e h more
          = absurd (none_some (sym (sym (cond-true (label y) (Some t) (target_at nat_eq i v (fs ys)) s) ∙ h)))
      go false s None e h more = ap₂ (cons y) (others y s) (more h)
      go false s (Some t) e h more
          = ap₂ (cons y) (others y s) (more (sym (cond-false (label y) (Some t) (target_at nat_eq i v (fs ys)) s) ∙ h))

  after_apart : (y x : Edge ℕ ℕ) → label y ≡ true → label_lt y x ≡ true → label x ≡ false
  after_apart y x a h = grind (arith, nat_tests)

  -- after the label nothing changes
  behind : (y : Edge ℕ ℕ) → label y ≡ true → (ys : List (Edge ℕ ℕ)) → list_all (label_lt y) ys ≡ true → fs ys ≡ gs ys
  behind y s [] h = refl
  behind y s (x ∷ ys) h = let p = and_parts (label_lt y x) (list_all (label_lt y) ys) h in
      ap₂ (cons x) (others x (after_apart y x s p.0)) (behind y s ys p.1)

  before_label : (y x : Edge ℕ ℕ) (t : ℕ) → label x ≡ true → label_lt y x ≡ true → label_lt y (with_label t) ≡ true
  before_label y x t a h = grind (arith, nat_tests)

  -- what stands before all stands before the label
  before : (y : Edge ℕ ℕ) (t s : ℕ) (ys : List (Edge ℕ ℕ)) → list_all (label_lt y) ys ≡ true
      → target_at nat_eq i v (fs ys) ≡ Some t → label_lt y (with_label s) ≡ true
  before y t s [] h e = cc
  before y t s (x ∷ ys) h e = let p = and_parts (label_lt y x) (list_all (label_lt y) ys) h in
      go (label x) refl (f x) e p.0 (before y t s ys p.1)
    where
      go : (b : Bool) → label x ≡ b → (o : Option ℕ)
          → target_at nat_eq i v (cons x o (fs ys)) ≡ Some t → label_lt y x ≡ true → (target_at nat_eq i v (fs ys) ≡ Some t
          → label_lt y (with_label s) ≡ true) → label_lt y (with_label s) ≡ true
      go true a o e l more = before_label y x s a l
      go false a None e l more = more e
      go false a (Some r) e l more
          = more (sym (cond-false (label x) (Some r) (target_at nat_eq i v (fs ys)) a) ∙ e)

  -- the edge with the label led to a heir, or dropped
  abbrev pub list_led : Option ℕ → ℕ → List (Edge ℕ ℕ) → List (Edge ℕ ℕ)
  list_led None t xs = drop_label i v xs
  list_led (Some s) t xs = if nat_eq s t then xs else put_edge (with_label s) xs

  at_label : (y : Edge ℕ ℕ) → label y ≡ true → (s : ℕ) → (label_lt y (with_label s) ≡ false)
      × (same_label y (with_label s) ≡ true)
  at_label y a s = (grind (arith, nat_tests), a)

  none_behind : (y : Edge ℕ ℕ) → label y ≡ true → (l : List (Edge ℕ ℕ)) → list_all (label_lt y) l ≡ true
      → list_all (λ x. not (same_label x (with_label 0))) l ≡ true
  none_behind y a [] h = refl
  none_behind y a (x ∷ l) h = let p = and_parts (label_lt y x) (list_all (label_lt y) l) h in
      and_from _ _ (ap not (after_apart y x a p.0)) (none_behind y a l p.1)

  led_label : (y : Edge ℕ ℕ) → label y ≡ true → (t : ℕ) → with_label t ≡ edge_with y t
  led_label y a t =
      let p = and_parts (nat_eq y.dim i) (nat_eq y.value v) a in
      let d = eqb-true y.dim i p.0 in
      let w = eqb-true y.value v p.1 in
      λ j. record { dim = sym d j; value = sym w j; target = t }

  pub there_led : (h : ℕ → Option ℕ) → ((y : Edge ℕ ℕ) → label y ≡ true → g y ≡ h y.target)
      → (ys : List (Edge ℕ ℕ)) → rises ys ≡ true → (t : ℕ) → target_at nat_eq i v (fs ys) ≡ Some t
      → list_led (h t) t (fs ys) ≡ gs ys
  there_led h heir [] r t e = cc
  there_led h heir (y ∷ ys) r t e = let p = and_parts (list_all (label_lt y) ys) (rises ys) r in
      go (label y) refl (f y) refl e p.0 (there_led h heir ys p.1 t)
    where
      here : label y ≡ true → list_all (label_lt y) ys ≡ true → y.target ≡ t
          → list_led (h t) t (y ∷ fs ys) ≡ cons y (g y) (gs ys)
      here a l same = by (h t) refl
        where
          rest : fs ys ≡ gs ys
          rest = behind y a ys l

          led : g y ≡ h t
          led = heir y a ∙ ap h same

          to : (b : Bool) (s : ℕ) → nat_eq s t ≡ b → (if b then y ∷ fs ys else put_edge (with_label s) (y ∷ fs ys))
              ≡ cons y (Some s) (gs ys)
          to true s q = ap₂ (λ (z : Edge ℕ ℕ) (l : List (Edge ℕ ℕ)). z ∷ l)
              (ap (edge_with y) (same ∙ sym (eqb-true s t q))) rest
          to false s q =
              let k = at_label y a s in
              cond-false _ _ _ k.0 ∙ cond-true _ _ _ k.1
              ∙ ap₂ (λ (z : Edge ℕ ℕ) (l : List (Edge ℕ ℕ)). z ∷ l) (led_label y a s) rest

          by : (o : Option ℕ) → h t ≡ o → list_led o t (y ∷ fs ys) ≡ cons y (g y) (gs ys)
          by None q =
              cond-false (not (label y)) (y ∷ drop_label i v (fs ys)) (drop_label i v (fs ys)) (ap not a)
              ∙ drop_none (with_label 0) (fs ys) (none_behind y a (fs ys) (rises_after ys l))
              ∙ rest ∙ sym (ap (λ o. cons y o (gs ys)) (led ∙ q))
            where
              rises_after : (xs : List (Edge ℕ ℕ)) → list_all (label_lt y) xs ≡ true → list_all (label_lt y) (fs xs) ≡ true
              rises_after [] h = refl
              rises_after (x ∷ xs) h = let p = and_parts (label_lt y x) (list_all (label_lt y) xs) h in
                  step (f x) p.0 (rises_after xs p.1)
                where
                  step : (o : Option ℕ) → label_lt y x ≡ true → list_all (label_lt y) (fs xs) ≡ true
                      → list_all (label_lt y) (cons x o (fs xs)) ≡ true
                  step None l more = more
                  step (Some t) l more = and_from _ _ l more
          by (Some s) q = to (nat_eq s t) s refl ∙ sym (ap (λ o. cons y o (gs ys)) (led ∙ q))

      past : (r : ℕ) → label y ≡ false → list_all (label_lt y) ys ≡ true → target_at nat_eq i v (fs ys) ≡ Some t
          → list_led (h t) t (edge_with y r ∷ fs ys) ≡ edge_with y r
          ∷ list_led (h t) t (fs ys)
      past r a l found = by (h t)
        where
          to : (s : ℕ) (b : Bool) → (if b then edge_with y r ∷ fs ys else put_edge (with_label s) (edge_with y r ∷ fs ys))
              ≡ edge_with y r ∷ (if b then fs ys
              else put_edge (with_label s) (fs ys))
          to s true = refl
          to s false = cond-true _ _ _ (before y t s ys l found)

          by : (o : Option ℕ) → list_led o t (edge_with y r ∷ fs ys) ≡ edge_with y r ∷ list_led o t (fs ys)
          by None = cond-true (not (label y)) (edge_with y r ∷ drop_label i v (fs ys)) (drop_label i v (fs ys)) (ap not a)
          by (Some s) = to s (nat_eq s t)

      go : (b : Bool) → label y ≡ b → (o : Option ℕ) → f y ≡ o
          → target_at nat_eq i v (cons y o (fs ys)) ≡ Some t → list_all (label_lt y) ys ≡ true
          → (target_at nat_eq i v (fs ys) ≡ Some t → list_led (h t) t (fs ys) ≡ gs ys)
          → list_led (h t) t (cons y (f y) (fs ys)) ≡ cons y (g y) (gs ys)
      go true a None q e l more = absurd (none_some (sym q ∙ own y a))
      go true a (Some r) q e l more =
          let target : y.target ≡ r = some_same (sym (own y a) ∙ q) in
          let found : r ≡ t = some_same (sym (cond-true (label y) (Some r) (target_at nat_eq i v (fs ys)) a) ∙ e) in
          ap (λ o. list_led (h t) t (cons y o (fs ys))) (own y a) ∙ here a l (target ∙ found)
      go false a None q e l more = ap (λ o. list_led (h t) t (cons y o (fs ys))) q ∙ more e
          ∙ sym (ap (λ o. cons y o (gs ys)) (sym (others y a) ∙ q))
      go false a (Some r) q e l more = step
        where
          found : target_at nat_eq i v (fs ys) ≡ Some t
          found = sym (cond-false (label y) (Some r) (target_at nat_eq i v (fs ys)) a) ∙ e

          step : list_led (h t) t (cons y (f y) (fs ys)) ≡ cons y (g y) (gs ys)
          step = ap (λ o. list_led (h t) t (cons y o (fs ys))) q ∙ past r a l found
              ∙ ap (λ (l : List (Edge ℕ ℕ)). edge_with y r ∷ l) (more found)
              ∙ sym (ap (λ o. cons y o (gs ys)) (sym (others y a) ∙ q))
