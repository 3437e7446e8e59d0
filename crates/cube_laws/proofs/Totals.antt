-- What is added up over items can be added up part by part, the parts by the values of a key.
use Rattle.std.proofs.Common.{◌≡◌, Bool, true, false, not, cond, List, [], ◌∷◌, ◌++◌, filter, refl, sym, ap, ap₂, ◌∙◌, true≢false, inl, inr}
use Rattle.std.specs.List.{AllByRecursion, IsDistinct}
use Rattle.cube_laws.specs.Lists.{Among, Reordered}
use Rattle.cube_laws.specs.Total.{total}
use Rattle.cube_laws.proofs.Lists.{to_filter, all_map, filter_filter}

-- an addition in whichever order
pub record IsAddition {M : Type 0} (op : M → M → M) (none : M) : Type 0 where
  pub assoc : (x y z : M) → op (op x y) z ≡ op x (op y z)
  pub comm : (x y : M) → op x y ≡ op y x
  pub unit : (x : M) → op none x ≡ x

module _ {X M : Type 0} (op : M → M → M) (none : M) (law : IsAddition op none) (f : X → M) where
  -- the middle goes out
  swap : (x y z : M) → op x (op y z) ≡ op y (op x z)
  swap x y z = sym (law.assoc x y z) ∙ ap (λ w. op w z) (law.comm x y) ∙ law.assoc y x z

  pub total-split : (p : X → Bool) (xs : List X)
      → total op none f xs ≡ op (total op none f (filter p xs)) (total op none f (filter (λ x. not (p x)) xs))
  total-split p [] = sym (law.unit none)
  total-split p (x ∷ xs) = go (total-split p xs) (p x)
    where
      go : total op none f xs ≡ op (total op none f (filter p xs)) (total op none f (filter (λ x. not (p x)) xs))
          → (b : Bool)
          → op (f x) (total op none f xs) ≡ op (total op none f (cond b (x ∷ filter p xs) (filter p xs)))
          (total op none f (cond (not b) (x ∷ filter (λ x. not (p x)) xs) (filter (λ x. not (p x)) xs)))
      go more true = ap (op (f x)) more ∙ sym (law.assoc _ _ _)
      go more false = ap (op (f x)) more ∙ swap (f x) _ _

  pub total_same : (g : X → M) (xs : List X) → AllByRecursion (λ x. f x ≡ g x) xs
      → total op none f xs ≡ total op none g xs
  total_same g [] h = refl
  total_same g (x ∷ xs) h = ap₂ op h.0 (total_same g xs h.1)

module _ {X K M : Type 0} (op : M → M → M) (none : M) (law : IsAddition op none) (eq : K → K → Bool) (f : X
    → M) (has : K → X → Bool)
    (alone : (v w : K) (x : X) → eq v w ≡ false → has w x ≡ true → has v x ≡ false) where
  later : (v : K) (vs : List K) (x : X) → (w : K) × Among w (v ∷ vs) × (has w x ≡ true) → not (has v x) ≡ true → (w : K)
      × Among w vs × (has w x ≡ true)
  later v vs x (w, m, h) n
      = elim m [ inl e ↦ absurd (true≢false (sym n ∙ ap not (ap (λ k. has k x) (sym e) ∙ h))) | inr k ↦ (w, k, h) ]

  -- over values that stand once each and one of which each item has
  pub total-parts : (vs : List K) (xs : List X) → IsDistinct eq vs
      → AllByRecursion (λ x. (w : K) × Among w vs × (has w x ≡ true)) xs
      → total op none f xs ≡ total op none (λ v. total op none f (filter (has v) xs)) vs
  unfolding IsDistinct
  total-parts [] [] o h = refl
  total-parts [] (x ∷ xs) o h = absurd h.0.1
  total-parts (v ∷ vs) xs o h =
      let rest : List X = filter (λ x. not (has v x)) xs in
      total-split op none law f (has v) xs
      ∙ ap (op (total op none f (filter (has v) xs)))
      (total-parts vs rest o.1 (to_filter (λ x. (w : K) × Among w vs × (has w x ≡ true)) (λ x. not (has v x)) xs
      (all_map _ _ xs (λ x k n. later v vs x k n) h))
      ∙ total_same op none law (λ w. total op none f (filter (has w) rest))
      (λ w. total op none f (filter (has w) xs)) vs
      (all_map (λ w. eq v w ≡ false) _ vs
      (λ w apart. ap (total op none f)
      (filter_filter (has w) (λ x. not (has v x)) xs (λ x is. ap not (alone v w x apart is)))) o.0))

module _ {X M : Type 0} (op : M → M → M) (none : M) (law : IsAddition op none) (f : X → M) where
  -- an item adds the same wherever it stands
  pub total-insert : (xs : List X) (r : X) (ys : List X)
      → total op none f (xs ++ r ∷ ys) ≡ op (f r) (total op none f (xs ++ ys))
  total-insert [] r ys = refl
  total-insert (x ∷ xs) r ys = ap (op (f x)) (total-insert xs r ys)
      ∙ swap op none law f (f x) (f r) (total op none f (xs ++ ys))

  -- added up from the beginning
  pub total-push : (xs : List X) (x : X) → total op none f (xs ++ x ∷ []) ≡ op (total op none f xs) (f x)
  total-push [] x = law.comm (f x) none
  total-push (y ∷ xs) x = ap (op (f y)) (total-push xs x) ∙ sym (law.assoc _ _ _)

  pub total_filter-insert : (p : X → Bool) (xs : List X) (r : X) (ys : List X)
      → total op none f (filter p (xs ++ r ∷ ys)) ≡ cond (p r) (op (f r) (total op none f (filter p (xs ++ ys))))
      (total op none f (filter p (xs ++ ys)))
  total_filter-insert p [] r ys = go (p r)
    where
      go : (b : Bool) → total op none f (cond b (r ∷ filter p ys) (filter p ys))
          ≡ cond b (op (f r) (total op none f (filter p ys))) (total op none f (filter p ys))
      go true = refl
      go false = refl
  total_filter-insert p (x ∷ xs) r ys = go (p r) (total_filter-insert p xs r ys) (p x)
    where
      go : (d : Bool) → total op none f (filter p (xs ++ r ∷ ys))
          ≡ cond d (op (f r) (total op none f (filter p (xs ++ ys)))) (total op none f (filter p (xs ++ ys)))
          → (b : Bool)
          → total op none f (cond b (x ∷ filter p (xs ++ r ∷ ys)) (filter p (xs ++ r ∷ ys)))
          ≡ cond d (op (f r) (total op none f (cond b (x ∷ filter p (xs ++ ys)) (filter p (xs ++ ys)))))
          (total op none f (cond b (x ∷ filter p (xs ++ ys)) (filter p (xs ++ ys))))
      go true more true = ap (op (f x)) more ∙ swap op none law f (f x) (f r) _
      go false more true = ap (op (f x)) more
      go d more false = more

  -- and so in whichever order they stand
  pub total-reordered : (xs ys : List X) → Reordered xs ys → total op none f ys ≡ total op none f xs
  total-reordered [] ys h = ap (total op none f) h
  total-reordered (x ∷ xs) ys (front, back, e, more) = ap (total op none f) e ∙ total-insert front x back
      ∙ ap (op (f x)) (total-reordered xs (front ++ back) more)
