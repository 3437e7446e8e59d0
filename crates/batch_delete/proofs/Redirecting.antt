-- The edges with the tuple's values are led on, one dimension after another.
use Rattle.std.proofs.Common.{◌≡◌, ◌∙◌, ℕ, suc, ◌+◌, ◌<◌, ◌≤◌, Bool, true, false, ◌&&◌, Option, Some, None, List, [], ◌∷◌, get_or}
use Rattle.std.proofs.Common.{slice_get, nat_eq, nat_lt, nat_cmp, refl, sym, ap, arith, eqb-true, eq-eqb, ltb-true, ltb-false}
use Rattle.std.proofs.lemmas.Bool.{and_parts, cond-true, cond-false}
use Rattle.std.proofs.lemmas.Bool.Decides.{nat_tests}
use Rattle.std.specs.List.{cons_option}
use Rattle.std.specs.Option.{option_map}
use Rattle.std.specs.Ordering.{eq_by_cmp}
use Rattle.std.specs.Prelude.{if◌then◌else◌}
use Rattle.cube_defs.specs.Cell.{Cell}
use Rattle.cube_defs.specs.Tree.{Edge}
use Rattle.qc_arena.specs.Edges.{rises}
use Rattle.qc_arena.specs.Map.{Known}
use Rattle.tree_laws.specs.Walk.{target_at}
use Rattle.tree_laws.proofs.CallerLemmas.{some_same}
use Rattle.batch_delete.specs.Plan.{is_value, first_redirected, heir_target, with_heir, with_target, with_mixed, with_own}
use Rattle.batch_delete.proofs.OwnLabels.{all_kept, led_alike, list_led, not_there, there_led}
use Rattle.cube_laws.proofs.CallerLemmas.{none_some, one_test}

-- where an edge leads once those before a dimension are led on
abbrev pub own_before : Cell ℕ → (ℕ → Option ℕ) → ℕ → Edge ℕ ℕ → Option ℕ
own_before tuple heirs n x = if nat_lt x.dim n then heir_target tuple heirs x else Some x.target

less_tells : (a b : ℕ) → a < b → nat_lt a b ≡ true
less_tells a b h = grind (arith, nat_tests)

past_tells : (a b : ℕ) → b ≤ a → nat_lt a b ≡ false
past_tells a b h = grind (arith, nat_tests)

-- an edge with the label among those that are led
pub label_was : (f : Edge ℕ ℕ → Option ℕ) (i v : ℕ)
    → ((y : Edge ℕ ℕ) → (nat_eq y.dim i && nat_eq y.value v) ≡ true → f y ≡ Some y.target)
    → (xs : List (Edge ℕ ℕ)) (t : ℕ) → target_at nat_eq i v (first_redirected f 0 xs) ≡ Some t → (k : ℕ)
    × (slice_get xs k ≡ Some (record { dim = i; value = v; target = t }))
label_was f i v own [] t h = cc
label_was f i v own (y ∷ ys) t h = go (nat_eq y.dim i && nat_eq y.value v) refl (f y) refl h (label_was f i v own ys t)
  where
    go : (b : Bool) → (nat_eq y.dim i && nat_eq y.value v) ≡ b → (o : Option ℕ) → f y ≡ o
        → target_at nat_eq i v (cons_option
        (option_map (λ t. let e : Edge ℕ ℕ = record { dim = y.dim; value = y.value; target = t } in e) o)
        (first_redirected f 0 ys)) ≡ Some t
        → (target_at nat_eq i v (first_redirected f 0 ys) ≡ Some t → (k : ℕ)
        × (slice_get ys k ≡ Some (record { dim = i; value = v; target = t }))) → (k : ℕ)
        × (slice_get (y ∷ ys) k ≡ Some (record { dim = i; value = v; target = t }))
    go true a None q e more = absurd (none_some (sym q ∙ own y a))
    go true a (Some r) q e more =
        let p = and_parts (nat_eq y.dim i) (nat_eq y.value v) a in
        let d = eqb-true y.dim i p.0 in
        let w = eqb-true y.value v p.1 in
        let target : y.target ≡ r = some_same (sym (own y a) ∙ q) in
        let found : r ≡ t = some_same
        (sym (cond-true (nat_eq y.dim i && nat_eq y.value v) (Some r)
        (target_at nat_eq i v (first_redirected f 0 ys)) a) ∙ e) in
        let same = target ∙ found in
        (0, λ j. Some (record { dim = d j; value = w j; target = same j }))
    go false a None q e more = let m = more e in (suc m.0, m.1)
    go false a (Some r) q e more = let m
        = more (sym (cond-false (nat_eq y.dim i && nat_eq y.value v) (Some r)
        (target_at nat_eq i v (first_redirected f 0 ys)) a) ∙ e) in (suc m.0, m.1)

module _ (tuple : Cell ℕ) (heirs : ℕ → Option ℕ) where
  -- at first no edge is led on
  pub none_led : (from : ℕ) (n : Known) → ((k : ℕ) (x : Edge ℕ ℕ) → slice_get n.edges k ≡ Some x → from ≤ x.dim)
      → with_mixed (own_before tuple heirs from) 0 n ≡ n
  none_led from n h = all_kept (own_before tuple heirs from) n
      (λ k x e. cond-false _ _ _ (past_tells x.dim from (h k x e)))

  -- and at last all are
  pub all_led : (dims : ℕ) (n : Known) → ((k : ℕ) (x : Edge ℕ ℕ) → slice_get n.edges k ≡ Some x → x.dim < dims)
      → with_mixed (own_before tuple heirs dims) 0 n ≡ with_mixed (heir_target tuple heirs) 0 n
  all_led dims n h = ap (λ (l : List (Edge ℕ ℕ)). record n { edges = l })
      (led_alike (own_before tuple heirs dims) (heir_target tuple heirs) n.edges
      (λ k x e. cond-true _ _ _ (less_tells x.dim dims (h k x e))))

  module _ (d : ℕ) where
    -- an edge without the tuple's value in the dimension is led as before
    other_edge : (y : Edge ℕ ℕ) → (y.dim ≡ d → is_value (get_or tuple d None) y.value ≡ false)
        → own_before tuple heirs d y ≡ own_before tuple heirs (d + 1) y
    other_edge y h = go (nat_lt y.dim d) refl (nat_lt y.dim (d + 1)) refl
      where
        go : (a : Bool) → nat_lt y.dim d ≡ a → (b : Bool) → nat_lt y.dim (d + 1) ≡ b
            → (if a then heir_target tuple heirs y else Some y.target) ≡ (if b then heir_target tuple heirs y
            else Some y.target)
        go true p true q = refl
        go false p false q = refl
        go true p false q = let x = ltb-true y.dim d p in let z = ltb-false y.dim (d + 1) q in absurd (omega arith)
        go false p true q =
            let x = ltb-false y.dim d p in
            let z = ltb-true y.dim (d + 1) q in
            let same : y.dim ≡ d = omega arith in
            sym (cond-false _ _ _ (ap (λ i. is_value (get_or tuple i None) y.value) same ∙ h same))

    module _ (v : ℕ) (has : get_or tuple d None ≡ Some v) where
      pub not_yet : (y : Edge ℕ ℕ) → (nat_eq y.dim d && nat_eq y.value v) ≡ true
          → own_before tuple heirs d y ≡ Some y.target
      not_yet y a = let same = eqb-true y.dim d (and_parts (nat_eq y.dim d) (nat_eq y.value v) a).0 in
          cond-false _ _ _ (past_tells y.dim d (omega arith))

      others : (y : Edge ℕ ℕ) → (nat_eq y.dim d && nat_eq y.value v) ≡ false
          → own_before tuple heirs d y ≡ own_before tuple heirs (d + 1) y
      others y a = other_edge y (λ same. ap (λ o. is_value o y.value) has ∙ by y.dim y.value same a)
        where
          by : (i w : ℕ) → i ≡ d → (nat_eq i d && nat_eq w v) ≡ false → nat_eq v w ≡ false
          by i w same a = grind (arith, nat_tests)

      owns : (w : ℕ) → nat_eq w v ≡ true → is_value (get_or tuple d None) w ≡ true
      owns w e = ap (λ o. is_value o w) has ∙ eq-eqb v w (sym (eqb-true w v e))

      heir : (y : Edge ℕ ℕ) → (nat_eq y.dim d && nat_eq y.value v) ≡ true
          → own_before tuple heirs (d + 1) y ≡ heirs y.target
      heir y a =
          let p = and_parts (nat_eq y.dim d) (nat_eq y.value v) a in
          let same = eqb-true y.dim d p.0 in
          cond-true _ _ _ (less_tells y.dim (d + 1) (omega arith))
          ∙ cond-true _ _ _ (ap (λ i. is_value (get_or tuple i None) y.value) same ∙ owns y.value p.1)

      -- the heir of its target
      pub leads_to : (t y : ℕ) → heirs y ≡ Some t
          → heir_target tuple heirs (record { dim = d; value = v; target = y }) ≡ Some t
      leads_to t y e = cond-true _ _ _ (owns v (eq-eqb v v refl)) ∙ e

      module _ (n : Known) (r : rises n.edges ≡ true) where
        led_is : (o : Option ℕ) (t : ℕ) (l : List (Edge ℕ ℕ))
            → with_target (record { dim = d; value = v; target = t }) o (record n { edges = l }) ≡ record n {
              edges
                  = list_led (own_before tuple heirs d) (own_before tuple heirs (d + 1)) d v others not_yet o t l;
            }
        led_is None t l = refl
        led_is (Some s) t l = go (nat_eq s t)
          where
            go : (b : Bool) → (if b then record n { edges = l }
                else record n {
                  edges =
                      Rattle.qc_arena.specs.Edges.put_edge (record { dim = d; value = v; target = s }) l;
                }) ≡ record n {
                  edges
                      = if b then l else Rattle.qc_arena.specs.Edges.put_edge (record { dim = d; value = v; target = s }) l;
                }
            go true = refl
            go false = refl

        value_led : with_own heirs d (Some v) (with_mixed (own_before tuple heirs d) 0 n)
            ≡ with_mixed (own_before tuple heirs (d + 1)) 0 n
        value_led = go (target_at nat_eq d v (first_redirected (own_before tuple heirs d) 0 n.edges)) refl
          where
            by_test : target_at (eq_by_cmp nat_cmp) d v (first_redirected (own_before tuple heirs d) 0 n.edges)
                ≡ target_at nat_eq d v (first_redirected (own_before tuple heirs d) 0 n.edges)
            by_test = ap (λ (e : ℕ → ℕ → Bool). target_at e d v (first_redirected (own_before tuple heirs d) 0 n.edges))
                one_test

            go : (o : Option ℕ) → target_at nat_eq d v (first_redirected (own_before tuple heirs d) 0 n.edges) ≡ o
                → with_heir heirs d v (target_at (eq_by_cmp nat_cmp) d v
                (first_redirected (own_before tuple heirs d) 0 n.edges)) (with_mixed (own_before tuple heirs d) 0 n)
                ≡ with_mixed (own_before tuple heirs (d + 1)) 0 n
            go None e =
                ap (λ o. with_heir heirs d v o (with_mixed (own_before tuple heirs d) 0 n)) (by_test ∙ e)
                ∙ ap (λ (l : List (Edge ℕ ℕ)). record n { edges = l })
                (not_there (own_before tuple heirs d) (own_before tuple heirs (d + 1)) d v others not_yet n.edges e)
            go (Some t) e =
                ap (λ o. with_heir heirs d v o (with_mixed (own_before tuple heirs d) 0 n)) (by_test ∙ e)
                ∙ led_is (heirs t) t (first_redirected (own_before tuple heirs d) 0 n.edges)
                ∙ ap (λ (l : List (Edge ℕ ℕ)). record n { edges = l })
                (there_led (own_before tuple heirs d) (own_before tuple heirs (d + 1)) d v others not_yet heirs heir
                n.edges r t e)

    -- one dimension more
    pub own_more : (n : Known) → rises n.edges ≡ true
        → with_own heirs d (get_or tuple d None) (with_mixed (own_before tuple heirs d) 0 n)
        ≡ with_mixed (own_before tuple heirs (d + 1)) 0 n
    own_more n r = go (get_or tuple d None) refl
      where
        go : (o : Option ℕ) → get_or tuple d None ≡ o
            → with_own heirs d (get_or tuple d None) (with_mixed (own_before tuple heirs d) 0 n)
            ≡ with_mixed (own_before tuple heirs (d + 1)) 0 n
        go None e =
            ap (λ o. with_own heirs d o (with_mixed (own_before tuple heirs d) 0 n)) e
            ∙ ap (λ (l : List (Edge ℕ ℕ)). record n { edges = l })
            (led_alike (own_before tuple heirs d) (own_before tuple heirs (d + 1)) n.edges
            (λ k y at. other_edge y (λ same. ap (λ o. is_value o y.value) e)))
        go (Some v) e = ap (λ o. with_own heirs d o (with_mixed (own_before tuple heirs d) 0 n)) e ∙ value_led v e n r
