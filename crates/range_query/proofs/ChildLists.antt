-- The children of a node, edge by edge.
use Rattle.std.proofs.Common.{◌≡◌, ◌≢◌, ℕ, zero, suc, ◌+◌, ◌<◌, ◌≤◌, Bool, true, false, cond, ◌&&◌, Option, Some, None, List}
use Rattle.std.proofs.Common.{[], ◌∷◌, ◌++◌, length, get_or, set, take, slice_get, nat_eq, eq-eqb, eqb-true, refl, sym}
use Rattle.std.proofs.Common.{ap, subst, ◌∙◌, arith, true≢false}
use Rattle.std.proofs.lemmas.Bool.{and_parts, and_from, false_from_ne_true}
use Rattle.std.proofs.lemmas.List.{take_more}
use Rattle.std.specs.Cmp.{nat_cmp_total}
use Rattle.std.specs.FinMap as numbers
use Rattle.std.specs.Ordering.{nat_cmp, eq_by_cmp}
use Rattle.cube_defs.specs.Tree.{Edge}
use Rattle.cube_laws.proofs.CallerLemmas.{IsEquality, equality_by}
use Rattle.tree_laws.specs.Walk.{target_at}
use Rattle.tree_laws.proofs.CallerLemmas.{some_same}
use Rattle.range_query.specs.declared.children.Child.{Child}
use Rattle.range_query.specs.Children.{AreChildren, AreDistinct, IsFirst, NoneBetween, child_at}

law : IsEquality (eq_by_cmp nat_cmp)
law = equality_by nat_cmp_total numbers.nat_cmp-IsAntisymmetric

-- lists, item by item
pub take_next : {X : Type 0} (xs : List X) (k : ℕ) (x : X) → slice_get xs k ≡ Some x
    → take (suc k) xs ≡ take k xs ++ x ∷ []
take_next [] k x e = cc
take_next (y ∷ xs) zero x e = ap (λ z. z ∷ []) (some_same e)
take_next (y ∷ xs) (suc k) x e = ap (λ zs. y ∷ zs) (take_next xs k x e)

pub take_set : {X : Type 0} (xs : List X) (k : ℕ) (x : X) → k < length xs
    → take (suc k) (set xs k x) ≡ take k xs ++ x ∷ []
take_set [] k x l = absurd (omega arith)
take_set (y ∷ xs) zero x l = refl
take_set (y ∷ xs) (suc k) x l = ap (λ zs. y ∷ zs) (take_set xs k x (omega arith))

-- the first of two, if there is one, and else the second
abbrev either : Option ℕ → Option ℕ → Option ℕ
either None o = o
either (Some x) o = Some x

target-append : (i v : ℕ) (xs ys : List (Edge ℕ ℕ)) → target_at (eq_by_cmp nat_cmp) i v (xs ++ ys)
    ≡ either (target_at (eq_by_cmp nat_cmp) i v xs) (target_at (eq_by_cmp nat_cmp) i v ys)
target-append i v [] ys = refl
target-append i v (x ∷ xs) ys = go (nat_eq x.dim i && eq_by_cmp nat_cmp x.value v) (target-append i v xs ys)
  where
    go : (b : Bool) → target_at (eq_by_cmp nat_cmp) i v (xs ++ ys)
        ≡ either (target_at (eq_by_cmp nat_cmp) i v xs) (target_at (eq_by_cmp nat_cmp) i v ys)
        → cond b (Some x.target) (target_at (eq_by_cmp nat_cmp) i v (xs ++ ys))
        ≡ either (cond b (Some x.target) (target_at (eq_by_cmp nat_cmp) i v xs))
        (target_at (eq_by_cmp nat_cmp) i v ys)
    go true more = refl
    go false more = more

child-append : (k : ℕ) (xs ys : List Child) → child_at k (xs ++ ys) ≡ either (child_at k xs) (child_at k ys)
child-append k [] ys = refl
child-append k (x ∷ xs) ys = go (nat_eq x.place k) (child-append k xs ys)
  where
    go : (b : Bool) → child_at k (xs ++ ys) ≡ either (child_at k xs) (child_at k ys)
        → cond b (Some x.node.0) (child_at k (xs ++ ys))
        ≡ either (cond b (Some x.node.0) (child_at k xs)) (child_at k ys)
    go true more = refl
    go false more = more

either_none : (o : Option ℕ) → either o None ≡ o
either_none None = refl
either_none (Some x) = refl

module _ (codes : List ℕ) (i : ℕ) where
  pub children_none : AreChildren codes i [] []
  children_none = record { same = λ k v e. refl; within = λ k c e. absurd (bad e) }
    where
      bad : {c : ℕ} → ◌≡◌ {A = Option ℕ} None (Some c) → ⊥
      bad e = cc

  module _ (edges : List (Edge ℕ ℕ)) (children : List Child) (a : AreChildren codes i edges children)
      (x : Edge ℕ ℕ) where
    -- an edge in another dimension, or with a value that isn't allowed
    pub children_same : ((k : ℕ) → slice_get codes k ≡ Some x.value → x.dim ≢ i)
        → AreChildren codes i (edges ++ x ∷ []) children
    children_same other = record { same = same; within = a.within }
      where
        apart : (k v : ℕ) → slice_get codes k ≡ Some v
            → (nat_eq x.dim i && eq_by_cmp nat_cmp x.value v) ≡ false
        apart k v e = false_from_ne_true _ (λ t.
            let b = and_parts (nat_eq x.dim i) (eq_by_cmp nat_cmp x.value v) t in
            other k (e ∙ ap (λ w. Some w) (sym (law.exact x.value v b.1))) (eqb-true x.dim i b.0))

        same : (k v : ℕ) → slice_get codes k ≡ Some v
            → child_at k children ≡ target_at (eq_by_cmp nat_cmp) i v (edges ++ x ∷ [])
        same k v e = sym (target-append i v edges (x ∷ [])
            ∙ ap (λ b. either (target_at (eq_by_cmp nat_cmp) i v edges) (cond b (Some x.target) None)) (apart k v e)
            ∙ either_none (target_at (eq_by_cmp nat_cmp) i v edges) ∙ sym (a.same k v e))

    -- an edge that leads to one more child
    pub children_more : AreDistinct codes → (c : Child) → slice_get codes c.place ≡ Some x.value → x.dim ≡ i
        → c.node.0 ≡ x.target → AreChildren codes i (edges ++ x ∷ []) (children ++ c ∷ [])
    children_more distinct c at here to = record { same = same; within = within }
      where
        alike : (k v : ℕ) → slice_get codes k ≡ Some v → (b : Bool) → nat_eq c.place k ≡ b
            → (nat_eq x.dim i && eq_by_cmp nat_cmp x.value v) ≡ b
        alike k v e true t =
            let value : x.value ≡ v
            = some_same (sym at ∙ ap (slice_get codes) (eqb-true c.place k t) ∙ e) in
            and_from _ _ (eq-eqb x.dim i here)
            (subst (λ w. eq_by_cmp nat_cmp x.value w ≡ true) value (law.same x.value))
        alike k v e false t = false_from_ne_true _ (λ u.
            let b = and_parts (nat_eq x.dim i) (eq_by_cmp nat_cmp x.value v) u in
            let place : c.place ≡ k
            = distinct c.place k v (at ∙ ap (λ w. Some w) (law.exact x.value v b.1)) e in
            true≢false (sym (eq-eqb c.place k place) ∙ t))

        same : (k v : ℕ) → slice_get codes k ≡ Some v
            → child_at k (children ++ c ∷ []) ≡ target_at (eq_by_cmp nat_cmp) i v (edges ++ x ∷ [])
        same k v e =
            child-append k children (c ∷ [])
            ∙ ap (λ o. either o (cond (nat_eq c.place k) (Some c.node.0) None)) (a.same k v e)
            ∙ ap (λ b. either (target_at (eq_by_cmp nat_cmp) i v edges) (cond b (Some c.node.0) None))
            (sym (alike k v e (nat_eq c.place k) refl))
            ∙ ap (λ n. either (target_at (eq_by_cmp nat_cmp) i v edges)
            (cond (nat_eq x.dim i && eq_by_cmp nat_cmp x.value v) (Some n) None)) to
            ∙ sym (target-append i v edges (x ∷ []))

        inside : (k n : ℕ) → slice_get codes k ≡ Some n → k < length codes
        inside k n e = go codes k e
          where
            go : (cs : List ℕ) (k : ℕ) → slice_get cs k ≡ Some n → k < length cs
            go [] k e = cc
            go (d ∷ cs) zero e = omega arith
            go (d ∷ cs) (suc k) e = let r = go cs k e in omega (arith, r)

        within : (k n : ℕ) → child_at k (children ++ c ∷ []) ≡ Some n → k < length codes
        within k n e = go (child_at k children) refl (nat_eq c.place k) refl
            (sym (child-append k children (c ∷ [])) ∙ e)
          where
            go : (o : Option ℕ) → child_at k children ≡ o → (b : Bool) → nat_eq c.place k ≡ b
                → either (child_at k children) (cond (nat_eq c.place k) (Some c.node.0) None) ≡ Some n
                → k < length codes
            go (Some m) q b t f = a.within k m q
            go None q true t f = inside k x.value (ap (slice_get codes) (sym (eqb-true c.place k t)) ∙ at)
            go None q false t f =
                let bad : cond (nat_eq c.place k) (Some c.node.0) None ≡ Some n
                = ap (λ o. either o (cond (nat_eq c.place k) (Some c.node.0) None)) (sym q) ∙ f in
                let worse : None ≡ Some n = sym (ap (λ b. cond b (Some c.node.0) None) t) ∙ bad in
                cc

-- one edge more
module _ (codes : List ℕ) (i : ℕ) (edges : List (Edge ℕ ℕ)) (k : ℕ) (x : Edge ℕ ℕ) (at : slice_get edges k ≡ Some x)
    (children : List Child) (a : AreChildren codes i (take k edges) children) where
  one_more : take k edges ++ x ∷ [] ≡ take (k + 1) edges
  one_more = let next : suc k ≡ k + 1 = omega arith in sym (take_next edges k x at) ∙ ap (λ n. take n edges) next

  pub read_same : ((k : ℕ) → slice_get codes k ≡ Some x.value → x.dim ≢ i)
      → AreChildren codes i (take (k + 1) edges) children
  read_same other = subst (λ xs. AreChildren codes i xs children) one_more
      (children_same codes i (take k edges) children a x other)

  pub read_more : AreDistinct codes → (c : Child) → slice_get codes c.place ≡ Some x.value → x.dim ≡ i
      → c.node.0 ≡ x.target → (more : List Child) → more ≡ children ++ c ∷ []
      → AreChildren codes i (take (k + 1) edges) more
  read_more distinct c place here to more is = subst (λ xs. AreChildren codes i xs more) one_more
      (subst (λ cs. AreChildren codes i (take k edges ++ x ∷ []) cs) (sym is)
      (children_more codes i (take k edges) children a x distinct c place here to))

-- the first child so far
module _ (from : ℕ) (xs : List Child) (x : Child) where
  -- the next child isn't before it
  pub none_between : (end : ℕ) → NoneBetween from end xs → (from ≤ x.place → x.place < end → ⊥)
      → NoneBetween from end (xs ++ x ∷ [])
  none_between end none not k a b =
      child-append k xs (x ∷ []) ∙ ap (λ o. either o (child_at k (x ∷ []))) (none k a b)
      ∙ ap (λ b. cond b (Some x.node.0) None) (false_from_ne_true (nat_eq x.place k) (λ t.
      let place : x.place ≡ k = eqb-true x.place k t in
      not (omega (arith, place, a)) (omega (arith, place, b))))

  pub first_stays : (place child : ℕ) → IsFirst from xs place child → IsFirst from (xs ++ x ∷ []) place child
  first_stays place child f = record {
    is = child-append place xs (x ∷ []) ∙ ap (λ o. either o (child_at place (x ∷ []))) f.is;
    after = f.after;
  }

  -- or it is
  pub first_new : (end : ℕ) → NoneBetween from end xs → from ≤ x.place → x.place < end
      → IsFirst from (xs ++ x ∷ []) x.place x.node.0
  first_new end none a b = record {
    is = child-append x.place xs (x ∷ []) ∙ ap (λ o. either o (child_at x.place (x ∷ []))) (none x.place a b)
        ∙ ap (λ b. cond b (Some x.node.0) None) (eq-eqb x.place x.place refl);
    after = a;
  }

-- the first child among those that were looked at
abbrev pub IsFirstOf : ℕ → ℕ → List Child → ℕ → ℕ → Type 0
IsFirstOf from end xs place child
    = (place ≤ end) × NoneBetween from place xs × (place < end → IsFirst from xs place child)

module _ (from end : ℕ) (items : List Child) (k : ℕ) (d : Child) (l : k < length items) (place child : ℕ)
    (f : IsFirstOf from end (take k items) place child) where
  pub first_kept : (from ≤ (get_or items k d).place → (get_or items k d).place < place → ⊥) → (place2 child2 : ℕ)
      → place2 ≡ place → child2 ≡ child → IsFirstOf from end (take (k + 1) items) place2 child2
  first_kept not place2 child2 e g =
      subst (λ n. IsFirstOf from end (take (k + 1) items) n child2) (sym e)
      (subst (λ n. IsFirstOf from end (take (k + 1) items) place n) (sym g)
      (subst (λ xs. IsFirstOf from end xs place child) (sym (take_more items k d l)) (
        f.0,
        none_between from (take k items) (get_or items k d) place f.1 not,
        λ m. first_stays from (take k items) (get_or items k d) place child (f.2 m),
      )))

  pub first_found : from ≤ (get_or items k d).place → (get_or items k d).place < place → (place2 child2 : ℕ)
      → place2 ≡ (get_or items k d).place → child2 ≡ (get_or items k d).node.0
      → IsFirstOf from end (take (k + 1) items) place2 child2
  first_found a b place2 child2 e g =
      subst (λ n. IsFirstOf from end (take (k + 1) items) n child2) (sym e)
      (subst (λ n. IsFirstOf from end (take (k + 1) items) (get_or items k d).place n) (sym g)
      (subst (λ xs. IsFirstOf from end xs (get_or items k d).place (get_or items k d).node.0)
      (sym (take_more items k d l)) (
        omega (arith, b, f.0),
        none_between from (take k items) (get_or items k d) (get_or items k d).place
            (λ j m n. f.1 j m (omega (arith, n, b))) (λ m n. absurd (omega (arith, n))),
        λ m. first_new from (take k items) (get_or items k d) place f.1 a b,
      )))
