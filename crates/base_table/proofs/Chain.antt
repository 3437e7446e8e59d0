-- A push and a pop keep the chains, and a walk along one finds the last place of a key.
use Rattle.std.proofs.Common.{◌≡◌, ℕ, ◌+◌, ◌%◌, ◌<◌, ◌≤◌, ◌^◌, length, List, [], ◌∷◌, ◌++◌, Bool, true, false, cond, refl, ap, sym, subst}
use Rattle.std.proofs.Common.{◌∙◌, arith, take, get_or, set, length-append, inl, inr, zero, suc, nat_eq}
use Rattle.std.proofs.lemmas.List.{get_or_append_left, get_or_push, get_or_read, get_or-set_other, get_or-set_same, get_or-take}
use Rattle.std.proofs.lemmas.List.{length-take, length-take-le}
use Rattle.std.proofs.lemmas.List.{take-append-le, take-take, take_more}
use Rattle.std.proofs.lemmas.Bool.{cases_lt, eq-eqb, eqb-true}
use Rattle.std.proofs.lemmas.Bool.Decides.{eqb_tells}
use Rattle.std.proofs.Math.ListN.{length-set}
use Rattle.std.proofs.Math.Seq.{take-append_seam, take-length}
use Rattle.base_table.specs.Last.{last_of, AreChains, AreHeads, AreLinkable, AreLinked, bucket_in, in_bucket}
use Rattle.base_table.proofs.LastPlaces.{last_passes, last_take, last_within, not_zero}

-- the last place after one more element
last_step : {A : Type 0} (p : A → Bool) (y x : A) (xs : List A)
    → last_of p (xs ++ x ∷ []) ≡ cond (p x) (suc (length xs)) (last_of p xs)
    → last_of p (y ∷ (xs ++ x ∷ [])) ≡ cond (p x) (suc (suc (length xs))) (last_of p (y ∷ xs))
last_step p y x xs h = grind (arith, h)

pub last_push : {A : Type 0} (p : A → Bool) (xs : List A) (x : A)
    → last_of p (xs ++ x ∷ []) ≡ cond (p x) (suc (length xs)) (last_of p xs)
last_push p [] x = refl
last_push p (y ∷ xs) x = last_step p y x xs (last_push p xs x)

narrow_none : {A : Type 0} (p q : A → Bool) (x : A) (xs : List A) → (p x ≡ true → q x ≡ true) → q x ≡ false
    → last_of p xs ≡ 0 → 0 ≡ last_of p (x ∷ xs)
narrow_none p q x xs h f e = grind (arith, h, f, e)

narrow_step : {A : Type 0} (p q : A → Bool) (x : A) (xs : List A) (n : ℕ) → (p x ≡ true → q x ≡ true)
    → last_of p (take n xs) ≡ last_of p xs
    → last_of p (take (cond (nat_eq n 0) (cond (q x) 1 0) (suc n)) (x ∷ xs)) ≡ last_of p (x ∷ xs)
narrow_step p q x xs zero h e = by (q x) refl
  where
    by : (b : Bool) → q x ≡ b → last_of p (take (cond b 1 0) (x ∷ xs)) ≡ last_of p (x ∷ xs)
    by true t = ap (λ m. cond (nat_eq m 0) (cond (p x) 1 0) (suc m)) e
    by false t = narrow_none p q x xs h t (sym e)
narrow_step p q x xs (suc n) h e =
    let z : nat_eq (suc n) 0 ≡ false = not_zero n in
    rw z (ap (λ m. cond (nat_eq m 0) (cond (p x) 1 0) (suc m)) e)

-- no place that passes stands after the last one that passes a wider test
pub last_narrow : {A : Type 0} (p q : A → Bool) → ((x : A) → p x ≡ true → q x ≡ true) → (xs : List A)
    → last_of p (take (last_of q xs) xs) ≡ last_of p xs
last_narrow p q h [] = refl
last_narrow p q h (x ∷ xs) = narrow_step p q x xs (last_of q xs) (h x) (last_narrow p q h xs)

-- a key that was read is among the first ones
pub read_first : {A : Type 0} (n : ℕ) (xs : List A) (k : ℕ) (x : A) → k < length (take n xs) → x ≡ get_or xs k x
    → (d : A) → x ≡ get_or (take n xs) k d
read_first n xs k x lt e d =
    let both = length-take n xs in
    get_or_read xs k x (grind (arith, lt, both)) e d ∙ sym (get_or-take n xs k d (grind (arith, lt, both)))

-- the last place among one more of the first items
pub last_more : {A : Type 0} (p : A → Bool) (xs : List A) (k : ℕ) (d : A) → k < length xs
    → last_of p (take (k + 1) xs) ≡ cond (p (get_or xs k d)) (k + 1) (last_of p (take k xs))
last_more p xs k d lt =
    let n : suc (length (take k xs)) ≡ k + 1 = omega (arith, length-take-le k xs (omega (arith, lt))) in
    ap (last_of p) (take_more xs k d lt) ∙ last_push p (take k xs) (get_or xs k d)
    ∙ ap (λ m. cond (p (get_or xs k d)) m (last_of p (take k xs))) n

-- a walk that started at a place of the key's bucket stands at one, and no place of the key was passed
pub record IsOnWay {K : Type 0} (eq : K → K → Bool) (bucket : K → ℕ) (key : K) (keys : List K)
    (start at : ℕ) : Type 0 where
  pub within : at ≤ length keys
  pub last : last_of (in_bucket bucket key) (take at keys) ≡ at
  pub same : last_of (eq key) (take at keys) ≡ last_of (eq key) (take start keys)

module _ {K : Type 0} (eq : K → K → Bool) (bucket : K → ℕ) (respects : (x y : K) → eq x y ≡ true → bucket x ≡ bucket y)
    (key : K) (keys : List K) where
  wider : (x : K) → eq key x ≡ true → in_bucket bucket key x ≡ true
  wider x h = eq-eqb (bucket key) (bucket x) (respects key x h)

  -- where the last place of the key's bucket leads
  pub way_from : (n start : ℕ) → n ≤ length keys → start ≡ last_of (in_bucket bucket key) (take n keys)
      → IsOnWay eq bucket key keys n start
  way_from n start few e =
      let short : start ≤ n =
      omega (arith, e, last_within (in_bucket bucket key) (take n keys), length-take-le n keys few) in
      let cut : take start (take n keys) ≡ take start keys = take-take start n keys short in
      record {
        within = omega (arith, short, few);
        last = ap (last_of (in_bucket bucket key)) (sym cut)
            ∙ ap (λ m. last_of (in_bucket bucket key) (take m (take n keys))) e
            ∙ last_take (in_bucket bucket key) (take n keys) ∙ sym e;
        same = ap (last_of (eq key)) (sym cut) ∙ ap (λ m. last_of (eq key) (take m (take n keys))) e
            ∙ last_narrow (eq key) (in_bucket bucket key) wider (take n keys);
      }

  module _ (start k : ℕ) (way : IsOnWay eq bucket key keys start (k + 1)) where
    at_key : (d : K) → bucket key ≡ bucket (get_or keys k d)
    at_key d =
        let passes : in_bucket bucket key (get_or (take (k + 1) keys) k d) ≡ true
        = last_passes (in_bucket bucket key) (take (k + 1) keys) k d (way.last ∙ omega arith) in
        eqb-true (bucket key) (bucket (get_or keys k d))
        (ap (in_bucket bucket key) (sym (get_or-take (k + 1) keys k d (omega arith))) ∙ passes)

    -- the key is met
    pub met : (d : K) → eq key (get_or keys k d) ≡ true → k + 1 ≡ last_of (eq key) (take start keys)
    met d t =
        sym (ap (λ (b : Bool). cond b (suc (length (take k keys))) (last_of (eq key) (take k keys))) t
        ∙ omega (arith, length-take-le k keys (omega (arith, way.within))))
        ∙ sym (last_push (eq key) (take k keys) (get_or keys k d))
        ∙ ap (last_of (eq key)) (sym (take_more keys k d (omega (arith, way.within)))) ∙ way.same

    module _ (before : List ℕ) (linked : AreLinked bucket keys before) where
      leads : (d : K) → get_or before k 0 ≡ last_of (in_bucket bucket key) (take k keys)
      leads d = linked.chain k d (omega (arith, way.within))
          ∙ ap (λ n. last_of (λ other. nat_eq n (bucket other)) (take k keys)) (sym (at_key d))

      -- another key is met
      pub onward : (d : K) → eq key (get_or keys k d) ≡ false → IsOnWay eq bucket key keys start (get_or before k 0)
      onward d f =
          let on = way_from k (get_or before k 0) (omega (arith, way.within)) (leads d) in
          record {
            within = on.within;
            last = on.last;
            same = on.same ∙ sym (ap
                (λ (b : Bool). cond b (suc (length (take k keys))) (last_of (eq key) (take k keys))) f)
                ∙ sym (last_push (eq key) (take k keys) (get_or keys k d))
                ∙ ap (last_of (eq key)) (sym (take_more keys k d (omega (arith, way.within)))) ∙ way.same;
          }

      pub nearer : (d : K) → get_or before k 0 < k + 1
      nearer d = omega (
        arith,
        leads d,
        last_within (in_bucket bucket key) (take k keys),
        length-take-le k keys (omega (arith, way.within)),
      )

module _ {K : Type 0} (bucket : K → ℕ) (heads : List ℕ) (keys : List K) (key : K) (before : List ℕ) (head : ℕ) where
  push_heads : bucket key < length heads → AreHeads bucket heads keys
      → AreHeads bucket (set heads (bucket key) (length keys + 1)) (keys ++ key ∷ [])
  push_heads in_heads a = record {
    last = λ j h. elim (eqb_tells j (bucket key)) [
      | inl same ↦
          rw (same.1, get_or-set_same heads (bucket key) (length keys + 1) 0 in_heads)
          (sym (last_push (λ k. nat_eq (bucket key) (bucket k)) keys key
          ∙ ap (λ (b : Bool). cond b (suc (length keys)) (last_of (λ k. nat_eq (bucket key) (bucket k)) keys))
          (eq-eqb (bucket key) (bucket key) refl) ∙ omega arith))
      | inr other ↦
          get_or-set_other heads (bucket key) j (length keys + 1) 0 other.1
          ∙ a.last j (omega (arith, h, length-set heads (bucket key) (length keys + 1)))
          ∙ sym (last_push (λ k. nat_eq j (bucket k)) keys key
          ∙ ap (λ (b : Bool). cond b (suc (length keys)) (last_of (λ k. nat_eq j (bucket k)) keys)) other.0)
    ];
  }

  push_link : AreLinked bucket keys before → head ≡ last_of (in_bucket bucket key) keys
      → AreLinked bucket (keys ++ key ∷ []) (before ++ head ∷ [])
  push_link a e = record {
    len = omega (arith, a.len, length-append keys (key ∷ []), length-append before (head ∷ []));
    chain = λ i d h.
        let n : length before ≡ length keys = a.len in
        elim (cases_lt i (length keys)) [
          | inl lt ↦ rw (
            get_or_append_left before (head ∷ []) 0 i (omega arith),
            get_or_append_left keys (key ∷ []) d i lt,
            take-append-le i keys (key ∷ []) (omega arith),
          )
              (a.chain i d lt)
          | inr ge ↦
              let at : length keys ≡ i = omega (arith, length-append keys (key ∷ [])) in
              let whole : take i (keys ++ key ∷ []) ≡ keys = ap (λ n. take n (keys ++ key ∷ [])) (sym at)
              ∙ take-append_seam keys (key ∷ []) in
              rw (get_or_push before head 0 i (omega arith), get_or_push keys key d i at, whole) e
        ];
  }

  pop_link : AreLinked bucket (keys ++ key ∷ []) (before ++ head ∷ []) → AreLinked bucket keys before
  pop_link a = record {
    len = omega (arith, a.len, length-append keys (key ∷ []), length-append before (head ∷ []));
    chain = λ i d h.
        let n : length before ≡ length keys
        = omega (arith, a.len, length-append keys (key ∷ []), length-append before (head ∷ [])) in
        let more : i < length (keys ++ key ∷ []) = omega (arith, length-append keys (key ∷ [])) in
        let was : get_or (before ++ head ∷ []) i 0 ≡ last_of (in_bucket bucket (get_or (keys ++ key ∷ []) i d))
        (take i (keys ++ key ∷ [])) = a.chain i d more in
        rw (
          get_or_append_left before (head ∷ []) 0 i (omega arith),
          get_or_append_left keys (key ∷ []) d i h,
          take-append-le i keys (key ∷ []) (omega arith),
        ) at was;
  }

  -- the link of the last key
  last_link : AreLinked bucket (keys ++ key ∷ []) (before ++ head ∷ []) → head ≡ last_of (in_bucket bucket key) keys
  last_link a =
      let n : length before ≡ length keys
      = omega (arith, a.len, length-append keys (key ∷ []), length-append before (head ∷ [])) in
      let whole : take (length keys) (keys ++ key ∷ []) ≡ keys = take-append_seam keys (key ∷ []) in
      let at : get_or (before ++ head ∷ []) (length keys) 0
      ≡ last_of (in_bucket bucket (get_or (keys ++ key ∷ []) (length keys) key))
      (take (length keys) (keys ++ key ∷ []))
      = a.chain (length keys) key (omega (arith, length-append keys (key ∷ []))) in
      rw (get_or_push before head 0 (length keys) n, get_or_push keys key key (length keys) refl, whole) at at

  pop_heads : bucket key < length heads → head ≡ last_of (in_bucket bucket key) keys
      → AreHeads bucket heads (keys ++ key ∷ []) → AreHeads bucket (set heads (bucket key) head) keys
  pop_heads in_heads e a = record {
    last = λ j h. elim (eqb_tells j (bucket key)) [
      | inl same ↦ rw (same.1, get_or-set_same heads (bucket key) head 0 in_heads) e
      | inr other ↦
          get_or-set_other heads (bucket key) j head 0 other.1
          ∙ a.last j (omega (arith, h, length-set heads (bucket key) head))
          ∙ last_push (λ k. nat_eq j (bucket k)) keys key
          ∙ ap (λ (b : Bool). cond b (suc (length keys)) (last_of (λ k. nat_eq j (bucket k)) keys)) other.0
    ];
  }

module _ {K : Type 0} (number : ℕ → K → ℕ) (multiplier : ℕ) (heads : List ℕ) (keys : List K) (key : K) (before : List ℕ)
    (head at : ℕ) where
  -- with one more key, the new heads being of the old length
  pub pushed : AreChains number multiplier heads keys before → length keys + 1 < 2 ^ 32 → at < length heads
      → at ≡ bucket_in number multiplier (length heads) key → head ≡ get_or heads at 0
      → AreChains number multiplier (set heads at (length keys + 1)) (keys ++ key ∷ []) (before ++ head ∷ [])
  pushed a small in_heads e h =
      let bucket = bucket_in number multiplier (length heads) in
      let n : length (set heads at (length keys + 1)) ≡ length heads = length-set heads at (length keys + 1) in
      let is : head ≡ last_of (in_bucket bucket key) keys = h ∙ ap (λ j. get_or heads j 0) e
      ∙ a.heads_are.last (bucket key) (omega (arith, e, in_heads)) in
      record {
        small = omega (arith, length-append keys (key ∷ []));
        some = λ _. omega (arith, n, in_heads);
        heads_are = subst (λ m. AreHeads (bucket_in number multiplier m) (set heads at (length keys + 1))
            (keys ++ key ∷ [])) (sym n)
            (subst (λ j. AreHeads bucket (set heads j (length keys + 1)) (keys ++ key ∷ [])) (sym e)
            (push_heads bucket heads keys key before head (omega (arith, e, in_heads)) a.heads_are));
        linked = subst (λ m. AreLinked (bucket_in number multiplier m) (keys ++ key ∷ []) (before ++ head ∷ [])) (sym n)
            (push_link bucket heads keys key before head a.linked is);
      }

  -- without the last key
  pub popped : AreChains number multiplier heads (keys ++ key ∷ []) (before ++ head ∷ []) → at < length heads
      → at ≡ bucket_in number multiplier (length heads) key
      → AreChains number multiplier (set heads at head) keys before
  popped a in_heads e =
      let bucket = bucket_in number multiplier (length heads) in
      let n : length (set heads at head) ≡ length heads = length-set heads at head in
      let is : head ≡ last_of (in_bucket bucket key) keys = last_link bucket heads keys key before head a.linked in
      record {
        small = omega (arith, a.small, length-append keys (key ∷ []));
        some = λ _. omega (arith, n, in_heads);
        heads_are = subst (λ m. AreHeads (bucket_in number multiplier m) (set heads at head) keys) (sym n)
            (subst (λ j. AreHeads bucket (set heads j head) keys) (sym e)
            (pop_heads bucket heads keys key before head (omega (arith, e, in_heads)) is a.heads_are));
        linked = subst (λ m. AreLinked (bucket_in number multiplier m) keys before) (sym n)
            (pop_link bucket heads keys key before head a.linked);
      }

-- chains of all keys
pub all_linked : {K : Type 0} (number : ℕ → K → ℕ) (multiplier : ℕ) (heads : List ℕ) (keys : List K) (before : List ℕ)
    (room buckets : ℕ) → AreChains number multiplier heads keys before → length before ≤ room
    → (0 < length keys → length keys < buckets) → AreLinkable number multiplier heads keys before room buckets
all_linked number multiplier heads keys before room buckets a fits some = record {
  few = omega (arith, a.linked.len);
  small = a.small;
  some = some;
  fits = omega (arith, a.linked.len, fits);
  chains = subst (λ ks. AreChains number multiplier heads ks before)
      (sym (ap (λ n. take n keys) a.linked.len ∙ take-length keys)) a;
}

module _ {K : Type 0} (eq : K → K → Bool) (number : ℕ → K → ℕ) (respects : (m : ℕ) (x y : K) → eq x y ≡ true
    → number m x ≡ number m y)
    (multiplier : ℕ) (heads : List ℕ) (keys : List K) (before : List ℕ)
    (chains : AreChains number multiplier heads keys before) (key : K) (start : ℕ) where
  alike : (x y : K) → eq x y ≡ true
      → bucket_in number multiplier (length heads) x ≡ bucket_in number multiplier (length heads) y
  alike x y e = ap (λ n. n % length heads) (respects multiplier x y e)

  -- a walk from the head of the key's bucket
  pub from_head : (at : ℕ) → at < length heads → at ≡ bucket_in number multiplier (length heads) key
      → start ≡ get_or heads at 0
      → IsOnWay eq (bucket_in number multiplier (length heads)) key keys (length keys) start
  from_head at within is e =
      let bucket = bucket_in number multiplier (length heads) in
      way_from eq bucket alike key keys (length keys) start (omega arith)
      (e ∙ ap (λ j. get_or heads j 0) is ∙ chains.heads_are.last (bucket key) (omega (arith, within, is))
      ∙ ap (last_of (in_bucket bucket key)) (sym (take-length keys)))

  -- a walk from the link of a place with the key
  pub from_place : (place : ℕ) → place < length keys → key ≡ get_or keys place key → start ≡ get_or before place 0
      → IsOnWay eq (bucket_in number multiplier (length heads)) key keys place start
  from_place place within is e =
      let bucket = bucket_in number multiplier (length heads) in
      way_from eq bucket alike key keys place start (omega (arith, within))
      (e ∙ chains.linked.chain place key within
      ∙ ap (λ (k : K). last_of (in_bucket bucket k) (take place keys)) (sym is))
