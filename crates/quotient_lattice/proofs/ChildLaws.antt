-- The children of a class: which closures of the class with a value more have no other between.
use Rattle.std.proofs.Common.{◌≡◌, ◌≢◌, ◌↔◌, ℕ, zero, suc, ◌<◌, ◌≤◌, Bool, true, false, Some, None, List, [], ◌∷◌, length, refl, sym, ap}
use Rattle.std.proofs.Common.{◌∙◌, subst, arith, true≢false, ◌⊎◌, inl, inr}
use Rattle.std.specs.Prelude.{slice_get}
use Rattle.std.proofs.lemmas.Bool.{and_parts, and_from, cases_lt}
use Rattle.std.specs.Ordering.{nat_cmp, eq_by_cmp}
use Rattle.std.specs.Option.{option_map}
use Rattle.cube_defs.specs.Cell.{Cell, depth, entry_leq, cell_prefix, leq, upto, with_value}
use Rattle.cube_defs.specs.Rows.{Row, closure}
use Rattle.cube_defs.specs.Tree.{next_value}
use Rattle.cube_laws.proofs.CallerLemmas.{cell_prefix-leq, leq_antisymm, leq_trans, length-cell_prefix, closure_idem, closure_mono}
use Rattle.cube_laws.proofs.CallerLemmas.{closure_some, leq-closure, leq_entry, no_new, code_equality, leq_with_any, is_class-is}
use Rattle.cube_laws.proofs.CallerLemmas.{closure_length}
use Rattle.tree_laws.specs.Labels.{IsWithin, target_of_label}
use Rattle.tree_laws.proofs.CallerLemmas.{depth-cell_prefix-le, before-next, next-chain, next-entry, next-ge}
use Rattle.std.specs.List.{AllByRecursion}
use Rattle.quotient_lattice.specs.ValuesLead.{AllValuesLead}
use Rattle.quotient_lattice.specs.Neighbours.{is_parent}
use Rattle.quotient_lattice.proofs.InOrder.{join_parent, parent_join}
use Rattle.quotient_lattice.proofs.Joins.{IsJoin}
use Rattle.quotient_lattice.proofs.StepUp.{leq-length}
use Rattle.std.proofs.lemmas.Option.{slice_get_within}

leq_put : (c e : Cell ℕ) (i v : ℕ) → leq (eq_by_cmp nat_cmp) c e ≡ true → slice_get e i ≡ Some (Some v)
    → leq (eq_by_cmp nat_cmp) (with_value c i v) e ≡ true
leq_put [] e i v h s = refl
leq_put (f ∷ c) [] i v h s = absurd (true≢false (sym h))
leq_put (f ∷ c) (g ∷ e) zero v h s =
    and_from _ _ (subst (λ x. entry_leq (eq_by_cmp nat_cmp) (Some v) x ≡ true) (let own : Some v ≡ g = cc in
    own) (code_equality.same v)) (and_parts (entry_leq (eq_by_cmp nat_cmp) f g) _ h).1
leq_put (f ∷ c) (g ∷ e) (suc i) v h s = let p = and_parts (entry_leq (eq_by_cmp nat_cmp) f g) _ h in
    and_from _ _ p.0 (leq_put c e i v p.1 s)

pub put_there : (c : Cell ℕ) (i v : ℕ) → slice_get c i ≡ Some None → slice_get (with_value c i v) i ≡ Some (Some v)
put_there [] i v e = cc
put_there (f ∷ c) zero v e = refl
put_there (f ∷ c) (suc i) v e = put_there c i v e

module _ (rows : List (Row ℕ)) (u : Cell ℕ) where
  -- the closure of u with a value of a class that specializes it lies between
  pub record IsBetween (e : Cell ℕ) (i v : ℕ) (w : Cell ℕ) : Type 0 where
    pub is : closure (eq_by_cmp nat_cmp) rows (with_value u i v) ≡ Some w
    pub low : leq (eq_by_cmp nat_cmp) u w ≡ true
    pub high : leq (eq_by_cmp nat_cmp) w e ≡ true
    pub own : closure (eq_by_cmp nat_cmp) rows w ≡ Some w

  pub value_above : (e : Cell ℕ) (i v : ℕ) → closure (eq_by_cmp nat_cmp) rows e ≡ Some e
      → leq (eq_by_cmp nat_cmp) u e ≡ true → slice_get u i ≡ Some None → slice_get e i ≡ Some (Some v) → (w : Cell ℕ)
      × IsBetween e i v w
  value_above e i v c low none some =
      let below : leq (eq_by_cmp nat_cmp) (with_value u i v) e ≡ true = leq_put u e i v low some in
      let r : (w : Cell ℕ) × (closure (eq_by_cmp nat_cmp) rows (with_value u i v) ≡ Some w)
      = closure_some code_equality rows (with_value u i v) e e below c in (
        r.0,
        record {
          is = r.1;
          low = leq_trans code_equality u (with_value u i v) r.0 (leq_with_any code_equality u i v none)
              (leq-closure code_equality rows (with_value u i v) r.0 r.1);
          high = closure_mono code_equality rows (with_value u i v) e r.0 e below r.1 c;
          own = closure_idem code_equality rows (with_value u i v) r.0 r.1;
        },
      )

  module _ (d : Cell ℕ) (class : closure (eq_by_cmp nat_cmp) rows u ≡ Some u)
      (own : closure (eq_by_cmp nat_cmp) rows d ≡ Some d) (low : leq (eq_by_cmp nat_cmp) u d ≡ true)
      (long : length u ≡ length d) (other : u ≢ d) where
    -- each new value of a child leads to it
    pub child_leads : IsJoin rows u d → AllValuesLead rows u d
    child_leads h i v none some =
        let r : (w : Cell ℕ) × IsBetween d i v w = value_above d i v own low none some in
        let ne : r.0 ≢ u = λ e. lost i v none (put_there u i v none)
        (subst (λ x. leq (eq_by_cmp nat_cmp) (with_value u i v) x ≡ true) e
        (leq-closure code_equality rows (with_value u i v) r.0 r.1.is)) in
        r.1.is ∙ ap (λ x. Some x) (h.alone r.0 r.1.own r.1.low r.1.high ne)
      where
        lost : (i v : ℕ) → slice_get u i ≡ Some None → slice_get (with_value u i v) i ≡ Some (Some v)
            → leq (eq_by_cmp nat_cmp) (with_value u i v) u ≡ true → ⊥
        lost i v none some h = (let e : Some None ≡ Some (Some v)
            = sym none ∙ leq_entry code_equality i v (with_value u i v) u h some in absurd cc)

    -- and where each does, it is a child
    pub leads_child : AllValuesLead rows u d → IsJoin rows u d
    leads_child home = record { own = class; below = low; another = other; alone = alone }
      where
        -- a class from u on with a value more reaches d
        reach : (q : Cell ℕ) → closure (eq_by_cmp nat_cmp) rows q ≡ Some q → leq (eq_by_cmp nat_cmp) u q ≡ true
            → leq (eq_by_cmp nat_cmp) q d ≡ true → (k v : ℕ) → slice_get u k ≡ Some None → slice_get q k ≡ Some (Some v)
            → leq (eq_by_cmp nat_cmp) d q ≡ true
        reach q c a b k v none some =
            let r : (w : Cell ℕ) × IsBetween q k v w = value_above q k v c a none some in
            let same : r.0 ≡ d = (let e : Some r.0 ≡ Some d
            = sym r.1.is ∙ home k v none (leq_entry code_equality k v q d b some) in cc) in
            subst (λ x. leq (eq_by_cmp nat_cmp) x q ≡ true) same r.1.high

        alone : (q : Cell ℕ) → closure (eq_by_cmp nat_cmp) rows q ≡ Some q → leq (eq_by_cmp nat_cmp) u q ≡ true
            → leq (eq_by_cmp nat_cmp) q d ≡ true → q ≢ u → q ≡ d
        alone q c a b ne = go (leq (eq_by_cmp nat_cmp) d q) refl
          where
            go : (t : Bool) → leq (eq_by_cmp nat_cmp) d q ≡ t → q ≡ d
            go true e = leq_antisymm code_equality q d b e
            go false e =
                let x = leq-length code_equality u q a in
                let y = leq-length code_equality q d b in
                absurd (ne (sym (no_new code_equality u q a (omega arith)
                (λ k v none some. true≢false (sym (reach q c a b k v none some) ∙ e)))))

-- where a class with a value more covers a row, its prefix's record has that label
module _ (rows : List (Row ℕ)) (u : Cell ℕ) (class : closure (eq_by_cmp nat_cmp) rows u ≡ Some u) (i v : ℕ)
    (none : slice_get u i ≡ Some None) where
  label_place : (x : Cell ℕ) → closure (eq_by_cmp nat_cmp) rows (cell_prefix i u) ≡ Some x
      → i ≤ next_value nat_cmp (depth (cell_prefix i u)) x
  label_place x e = go (cases_lt (next_value nat_cmp (depth (cell_prefix i u)) x) i)
    where
      below : leq (eq_by_cmp nat_cmp) x u ≡ true
      below = closure_mono code_equality rows (cell_prefix i u) u x u (cell_prefix-leq code_equality i u) e class

      go : (next_value nat_cmp (depth (cell_prefix i u)) x < i) ⊎ (i ≤ next_value nat_cmp (depth (cell_prefix i u)) x)
          → i ≤ next_value nat_cmp (depth (cell_prefix i u)) x
      go (inr le) = le
      go (inl lt) =
          let a = slice_get_within u i None none in
          let b = length-cell_prefix i u in
          let c = leq-length code_equality (cell_prefix i u) x (leq-closure code_equality rows (cell_prefix i u) x e) in
          let w : (w : ℕ) × (slice_get x (next_value nat_cmp (depth (cell_prefix i u)) x) ≡ Some (Some w))
          = next-entry nat_cmp (depth (cell_prefix i u)) x (omega arith) in
          let up = leq_entry code_equality (next_value nat_cmp (depth (cell_prefix i u)) x) w.0 x u below w.1 in
          let far : i ≤ next_value nat_cmp (depth (cell_prefix i u)) u = next-chain nat_cmp i u (omega arith) in
          let any = before-next nat_cmp (depth (cell_prefix i u)) u (next_value nat_cmp (depth (cell_prefix i u)) x)
          (next-ge nat_cmp (depth (cell_prefix i u)) x) (omega arith) (omega arith) in
          absurd (let q : Some None ≡ Some (Some w.0) = sym any ∙ up in cc)

  pub label_there : (w x : Cell ℕ) → closure (eq_by_cmp nat_cmp) rows (with_value u i v) ≡ Some w
      → closure (eq_by_cmp nat_cmp) rows (cell_prefix i u) ≡ Some x
      → IsWithin (cell_prefix i u) (next_value nat_cmp (depth (cell_prefix i u)) x) i
      × ((t : Cell ℕ) × (target_of_label (eq_by_cmp nat_cmp) rows (cell_prefix i u) i v ≡ Some t))
  label_there w x e f =
      let a = slice_get_within u i None none in
      let b = length-cell_prefix i u in
      let low : leq (eq_by_cmp nat_cmp) (with_value (cell_prefix i u) i v) (with_value u i v) ≡ true
      = leq_put (cell_prefix i u) (with_value u i v) i v
      (leq_trans code_equality (cell_prefix i u) u (with_value u i v) (cell_prefix-leq code_equality i u)
      (leq_with_any code_equality u i v none)) (put_there u i v none) in
      let r : (y : Cell ℕ) × (closure (eq_by_cmp nat_cmp) rows (with_value (cell_prefix i u) i v) ≡ Some y)
      = closure_some code_equality rows (with_value (cell_prefix i u) i v) (with_value u i v) w low e in (
        record { behind = depth-cell_prefix-le i u; before = label_place x f; within = omega arith },
        (upto r.0 i, ap (option_map (λ y. upto y i)) r.1),
      )

-- the test of a child
pub child-is : (dims : ℕ) (rows : List (Row ℕ)) (u d : Cell ℕ) → AllByRecursion (λ row. length row.tuple ≡ dims) rows
    → closure (eq_by_cmp nat_cmp) rows u ≡ Some u → closure (eq_by_cmp nat_cmp) rows d ≡ Some d
    → leq (eq_by_cmp nat_cmp) u d ≡ true → u ≢ d → (is_parent nat_cmp rows u d ≡ true) ↔ AllValuesLead rows u d
child-is dims rows u d wide class own low other =
    let long : length u ≡ length d = closure_length (eq_by_cmp nat_cmp) dims u u rows wide class
    ∙ sym (closure_length (eq_by_cmp nat_cmp) dims d d rows wide own) in (
      λ h. child_leads rows u d class own low long other
          (parent_join dims rows wide u d ((is_class-is code_equality rows u).1 class) h),
      λ h. join_parent dims rows wide u d (leads_child rows u d class own low long other h),
    )
