-- One step of a search, from the beginning of a closure to the next.
use Rattle.std.proofs.Common.{◌≡◌, inl, inr, ℕ, zero, suc, ◌<◌, Bool, true, false, cond, Option, Some, None, List, [], ◌∷◌, length}
use Rattle.std.proofs.Common.{slice_get, refl, sym, ap, ap₂, subst, ◌∙◌, arith, nat_eq, eqb-true, eq-eqb, true≢false}
use Rattle.std.proofs.lemmas.Bool.{cond-true, cond-false, false_from_ne_true}
use Rattle.std.specs.declared.cmp.Ordering.{Ordering}
use Rattle.std.specs.Ordering.{eq_by_cmp}
use Rattle.std.specs.Cmp.{IsTotalOrder}
use Rattle.std.specs.FinMap.{IsAntisymmetric}
use Rattle.std.specs.Option.{option_map, option_and_then}
use Rattle.cube_defs.specs.Cell.{Cell, depth, cell_prefix, upto, with_value}
use Rattle.cube_defs.specs.Rows.{Row, closure}
use Rattle.cube_defs.specs.Tree.{Edge, Node, next_value, forced_child, renamed, renamed_edge}
use Rattle.cube_laws.specs.Lists.{Among}
use Rattle.cube_laws.proofs.CallerLemmas.{IsEquality, cell_prefix-leq, length-cell_prefix, cell_prefix-depth_cell_prefix, equality_by}
use Rattle.tree_laws.specs.Labels.{target_of_label, IsLabel, record_of}
use Rattle.tree_laws.specs.Walk.{target_at, by_entry, to_child, by_forced, walk_on, closure_prefix}
use Rattle.tree_laws.proofs.Lists.{some_same, first_of_range}
use Rattle.tree_laws.proofs.Prefixes.{depth-cell_prefix-le, upto-entry, upto-none}
use Rattle.tree_laws.proofs.Nexts.{next-chain, before-next}
use Rattle.tree_laws.proofs.Leads.{closure_between, closure_with, leq-chain}
use Rattle.tree_laws.proofs.Edges.{edges-are, forced_lead, only_forced}
use Rattle.tree_laws.proofs.Targets.{target_none, target_some, target-renamed}

module _ {A : Type 0} {eq : A → A → Bool} (law : IsEquality eq) where
  -- a step under other names
  module _ {S T : Type 0} (name : S → T) where
    entry-renamed : (k : S) (n : Node A S) (i : ℕ) (a : Option A)
        → by_entry eq (name k) (renamed name n) i a ≡ option_map name (by_entry eq k n i a)
    entry-renamed k n i None = refl
    entry-renamed k n i (Some v) = target-renamed law name i v n.edges

    child-renamed : (x : Edge A S) (a : Option A)
        → to_child eq (renamed_edge name x) a ≡ option_map name (to_child eq x a)
    child-renamed x None = refl
    child-renamed x (Some v) = go (eq x.value v)
      where
        go : (b : Bool) → cond b (Some (name x.target)) None ≡ option_map name (cond b (Some x.target) None)
        go true = refl
        go false = refl

    pub walk_on-renamed : (k : S) (n : Node A S) (i : ℕ) (a : Option A)
        → walk_on eq (name k) (renamed name n) i a ≡ option_map name (walk_on eq k n i a)
    walk_on-renamed k n i a = go n.forced
      where
        go : (o : Option (Edge A S)) → by_forced eq (name k) (renamed name n) i a (option_map (renamed_edge name) o)
            ≡ option_map name (by_forced eq k n i a o)
        go None = entry-renamed k n i a
        go (Some x) = choose (nat_eq x.dim i)
          where
            choose : (b : Bool) → cond b (to_child eq (renamed_edge name x) a)
                (by_entry eq (name k) (renamed name n) i a) ≡ option_map name
                (cond b (to_child eq x a) (by_entry eq k n i a))
            choose true = child-renamed x a
            choose false = entry-renamed k n i a

module _ {A : Type 0} {cmp : A → A → Ordering} (total : IsTotalOrder cmp) (anti : IsAntisymmetric cmp) (measures : ℕ)
    (rows : List (Row A)) where
  law : IsEquality (eq_by_cmp cmp)
  law = equality_by total anti

  module _ (c u : Cell A) (i : ℕ) (is : closure (eq_by_cmp cmp) rows (cell_prefix i c) ≡ Some u) (lc : i < length c)
      (lu : i < length u) where
    here : Node A (Cell A)
    here = record_of cmp measures rows (cell_prefix i u) u

    within : i < length (cell_prefix i u)
    within = omega (arith, length-cell_prefix i u)

    -- the prefix has the same closure
    pub prefix_closure : closure (eq_by_cmp cmp) rows (cell_prefix i u) ≡ Some u
    prefix_closure = closure_between law rows (cell_prefix i c) (cell_prefix i u) u is
        (leq-chain law rows (cell_prefix i c) u i is (depth-cell_prefix-le i c)) (cell_prefix-leq law i u)

    label : (x : Edge A (Cell A)) → Among x (record_of cmp measures rows (cell_prefix i u) u).edges
        → IsLabel cmp rows (cell_prefix i u) (next_value cmp (depth (cell_prefix i u)) u) x
    label x = (edges-are total anti measures rows (cell_prefix i u) u prefix_closure
        (cell_prefix-depth_cell_prefix i u) x).0

    -- where the closure has a value in dimension i, the forced child has it
    at_forced : (w : A) → slice_get u i ≡ Some (Some w) → next_value cmp (depth (cell_prefix i u)) u ≡ i
    at_forced w h = elim (first_of_range (next_value cmp (depth (cell_prefix i u)) u) i
        (next-chain cmp i u (omega arith))) [
          | inl k ↦ k
          | inr k ↦ let any : slice_get u i ≡ Some None
              = before-next cmp (depth (cell_prefix i u)) u i (depth-cell_prefix-le i u) (omega (arith, k)) lu in
              absurd (both any)
        ]
      where
        both : slice_get u i ≡ Some None → ⊥
        both any = cc

    after_forced : slice_get u i ≡ Some None → (w : A)
        → slice_get u (next_value cmp (depth (cell_prefix i u)) u) ≡ Some (Some w)
        → nat_eq (next_value cmp (depth (cell_prefix i u)) u) i ≡ false
    after_forced h w k = false_from_ne_true _
        (λ t. both (ap (slice_get u) (sym (eqb-true (next_value cmp (depth (cell_prefix i u)) u) i t))))
      where
        both : slice_get u i ≡ slice_get u (next_value cmp (depth (cell_prefix i u)) u) → ⊥
        both q = cc

    -- the prefix one dimension on
    prefix_any : slice_get c i ≡ Some None
        → closure_prefix (eq_by_cmp cmp) rows c (suc i) ≡ Some (cell_prefix (suc i) u)
    prefix_any h = ap (λ d. option_map (cell_prefix (suc i)) (closure (eq_by_cmp cmp) rows d)) (upto-none c i h)
        ∙ ap (option_map (cell_prefix (suc i))) is

    prefix_value : (v : A) → slice_get c i ≡ Some (Some v)
        → closure_prefix (eq_by_cmp cmp) rows c (suc i) ≡ target_of_label (eq_by_cmp cmp) rows (cell_prefix i u) i v
    prefix_value v h =
        ap (λ d. option_map (cell_prefix (suc i)) (closure (eq_by_cmp cmp) rows d)) (upto-entry c i v h)
        ∙ ap (option_map (cell_prefix (suc i)))
        (closure_with law rows (cell_prefix i c) (cell_prefix i u) u i v is prefix_closure
        (depth-cell_prefix-le i c) (depth-cell_prefix-le i u) (omega (arith, length-cell_prefix i c)) within)

    lead_same : (w : A) → slice_get u i ≡ Some (Some w)
        → target_of_label (eq_by_cmp cmp) rows (cell_prefix i u) i w ≡ Some (with_value (cell_prefix i u) i w)
    lead_same w h = ap (option_map (λ x. upto x i))
        (forced_lead total anti rows (cell_prefix i u) u i w prefix_closure (depth-cell_prefix-le i u) within h)
        ∙ ap (λ x. Some x) (upto-entry u i w h)

    lead_other : (w v : A) → slice_get u i ≡ Some (Some w) → eq_by_cmp cmp w v ≡ false
        → target_of_label (eq_by_cmp cmp) rows (cell_prefix i u) i v ≡ None
    lead_other w v h k = go (closure (eq_by_cmp cmp) rows (with_value (cell_prefix i u) i v)) refl
      where
        go : (o : Option (Cell A)) → closure (eq_by_cmp cmp) rows (with_value (cell_prefix i u) i v) ≡ o
            → option_map (λ x. upto x i) (closure (eq_by_cmp cmp) rows (with_value (cell_prefix i u) i v)) ≡ None
        go None q = ap (option_map (λ x. upto x i)) q
        go (Some d) q = let same : v ≡ w
            = only_forced total anti rows (cell_prefix i u) u d i w v prefix_closure (depth-cell_prefix-le i u) within h
            q in absurd (true≢false (sym (subst (λ y. eq_by_cmp cmp w y ≡ true) (sym same) (law.same w)) ∙ k))

    step_forced : (w : A) (a : Option A) → slice_get u i ≡ Some (Some w) → slice_get c i ≡ Some a
        → walk_on (eq_by_cmp cmp) (cell_prefix i u) here i a ≡ closure_prefix (eq_by_cmp cmp) rows c (suc i)
    unfolding here
    step_forced w a h q =
        ap (by_forced (eq_by_cmp cmp) (cell_prefix i u) here i a)
        (ap (λ j. forced_child cmp (cell_prefix i u) u j) (at_forced w h)
        ∙ ap (λ o. option_and_then
        (λ entry. option_map (λ v. let x : Edge A (Cell A)
        = record { dim = i; value = v; target = with_value (cell_prefix i u) i v } in x) entry) o) h)
        ∙ cond-true _ _ _ (eq-eqb i i refl) ∙ go a q
      where
        go : (a : Option A) → slice_get c i ≡ Some a
            → to_child (eq_by_cmp cmp) (record { dim = i; value = w; target = with_value (cell_prefix i u) i w }) a
            ≡ closure_prefix (eq_by_cmp cmp) rows c (suc i)
        go None q = ap (λ x. Some x) (sym (upto-entry u i w h)) ∙ sym (prefix_any q)
        go (Some v) q = by (eq_by_cmp cmp w v) refl ∙ sym (prefix_value v q)
          where
            by : (b : Bool) → eq_by_cmp cmp w v ≡ b
                → cond b (Some (with_value (cell_prefix i u) i w)) None ≡ target_of_label (eq_by_cmp cmp) rows
                (cell_prefix i u) i v
            by true k = sym (ap (target_of_label (eq_by_cmp cmp) rows (cell_prefix i u) i) (sym (law.exact w v k))
                ∙ lead_same w h)
            by false k = sym (lead_other w v h k)

    step_free : (a : Option A) → slice_get u i ≡ Some None → slice_get c i ≡ Some a
        → walk_on (eq_by_cmp cmp) (cell_prefix i u) here i a ≡ closure_prefix (eq_by_cmp cmp) rows c (suc i)
    unfolding here
    step_free a h q = off (slice_get u (next_value cmp (depth (cell_prefix i u)) u)) refl ∙ go a q
      where
        off : (o : Option (Option A)) → slice_get u (next_value cmp (depth (cell_prefix i u)) u) ≡ o
            → by_forced (eq_by_cmp cmp) (cell_prefix i u) here i a
            (option_and_then (λ entry. option_map
            (λ v. record {
              dim = next_value cmp (depth (cell_prefix i u)) u;
              value = v;
              target
                  = with_value (cell_prefix i u) (next_value cmp (depth (cell_prefix i u)) u) v;
            }) entry) o)
            ≡ by_entry (eq_by_cmp cmp) (cell_prefix i u) here i a
        off None k = refl
        off (Some None) k = refl
        off (Some (Some w)) k = cond-false _ _ _ (after_forced h w k)

        go : (a : Option A) → slice_get c i ≡ Some a
            → by_entry (eq_by_cmp cmp) (cell_prefix i u) here i a ≡ closure_prefix (eq_by_cmp cmp) rows c (suc i)
        go None q = ap (λ x. Some x) (sym (upto-none u i h)) ∙ sym (prefix_any q)
        go (Some v) q = at_label (target_of_label (eq_by_cmp cmp) rows (cell_prefix i u) i v) refl
            ∙ sym (prefix_value v q)
          where
            leads : (x : Edge A (Cell A)) → Among x here.edges → x.dim ≡ i → x.value ≡ v
                → target_of_label (eq_by_cmp cmp) rows (cell_prefix i u) i v ≡ Some x.target
            leads x m d w = ap₂ (target_of_label (eq_by_cmp cmp) rows (cell_prefix i u)) (sym d) (sym w)
                ∙ (label x m).leads

            at_label : (o : Option (Cell A)) → target_of_label (eq_by_cmp cmp) rows (cell_prefix i u) i v ≡ o
                → target_at (eq_by_cmp cmp) i v here.edges ≡ target_of_label (eq_by_cmp cmp) rows (cell_prefix i u) i v
            at_label None k = target_none law i v here.edges (λ x m d w. let bad : None ≡ Some x.target
                = sym k ∙ leads x m d w in cc) ∙ sym k
            at_label (Some t) k =
                target_some law i v t here.edges (λ x m d w. some_same (sym (leads x m d w) ∙ k))
                ((edges-are total anti measures rows (cell_prefix i u) u prefix_closure
                (cell_prefix-depth_cell_prefix i u) _).1
                (record {
                  place = record {
                    behind = depth-cell_prefix-le i u;
                    before
                        = next-chain cmp i u (omega arith);
                    within = within;
                  };
                  leads = k;
                }))
                ∙ sym k

    pub step : (a : Option A) → slice_get c i ≡ Some a
        → walk_on (eq_by_cmp cmp) (cell_prefix i u) (record_of cmp measures rows (cell_prefix i u) u) i a
        ≡ closure_prefix (eq_by_cmp cmp) rows c (suc i)
    unfolding here
    step a q = go (slice_get u i) refl
      where
        past : (u : Cell A) (i : ℕ) → i < length u → slice_get u i ≡ None → ⊥
        past [] i l e = absurd (omega arith)
        past (x ∷ u) zero l e = cc
        past (x ∷ u) (suc i) l e = past u i (omega arith) e

        go : (o : Option (Option A)) → slice_get u i ≡ o
            → walk_on (eq_by_cmp cmp) (cell_prefix i u) here i a ≡ closure_prefix (eq_by_cmp cmp) rows c (suc i)
        go None h = absurd (past u i lu h)
        go (Some None) h = step_free a h q
        go (Some (Some w)) h = step_forced w a h q
