-- The keys of blocks where one block changes.
use Rattle.std.proofs.Common.{◌≡◌, ℕ, suc, ◌+◌, ◌-◌, ◌<◌, ◌≤◌, ◌++◌, Bool, true, false, refl, sym, ap, subst, ◌∙◌, List, [], ◌∷◌, take}
use Rattle.std.proofs.Common.{drop, length, get_or, set, arith, ltb-true, ltb-false}
use Rattle.std.specs.Prelude.{Vec}
use Rattle.std.specs.List.{insert, remove}
use Rattle.std.specs.declared.alloc.Global.{Global}
use Rattle.std.specs.Ordering.{is_eq, is_gt}
use Rattle.std.specs.Prelude.{nat_lt}
use Rattle.std.specs.List.Sorted.{IsStrictlySortedBy}
use Rattle.std.proofs.lemmas.List.{append_assoc, drop_all, drop_at, drop_more, get_or_append_left, get_or_default, length-append}
use Rattle.std.proofs.lemmas.List.{length-drop, length-take, length-take-le, nil_from_length, set_split, take-append-drop, take-append-le}
use Rattle.std.proofs.lemmas.List.{take-take}
use Rattle.std.proofs.lemmas.List.Concat.{flat_map-append}
use Rattle.std.proofs.lemmas.List.Edits.{insert-append_left, insert-append_right, length-insert, length-remove, remove-append_left}
use Rattle.std.proofs.lemmas.List.Edits.{remove-append_right}
use Rattle.std.proofs.lemmas.List.Elements.{All-append, All-cons, All-drop, All-get_or, All-nil, All-set, All-take}
use Rattle.measure_index.specs.Blocks.{AreBlocks, AreBounds, joined, place_of}
use Rattle.measure_index.specs.ColumnKeys.{key_cmp, key_total}
use Rattle.measure_index.specs.Keys.{IsPlace, among}
use Rattle.measure_index.specs.Spots.{IsSpot}
use Rattle.measure_index.specs.declared.key.Key.{Key}
use Rattle.measure_index.proofs.Places.{found_in, not_found, placed}

abbrev pub Block : Type 0
Block = Vec Key Global

-- the block at a place
pub get_or_some : (bs : List Block) (i : ℕ) → i < length bs → Block
get_or_some [] i l = absurd (omega (arith, l))
get_or_some (b ∷ bs) i l = get_or (b ∷ bs) i b

abbrev Full : Block → Type 0
Full b = 0 < length b.items

pub none_are : AreBlocks []
unfolding IsStrictlySortedBy
none_are = record { full = All-nil Full; rising = tt }

next : (i : ℕ) → suc i ≡ i + 1
next i = omega arith

joined_at : (bs : List Block) (i : ℕ) (d : Block) → i < length bs
    → joined bs ≡ joined (take i bs) ++ ((get_or bs i d).items ++ joined (drop (i + 1) bs))
joined_at bs i d l = ap joined (sym (take-append-drop i bs))
    ∙ flat_map-append (λ (b : Block). b.items) (take i bs) (drop i bs)
    ∙ ap (λ cs. joined (take i bs) ++ joined cs) (drop_more bs i d l)

joined_set : (bs : List Block) (i : ℕ) (b : Block) → i < length bs
    → joined (set bs i b) ≡ joined (take i bs) ++ (b.items ++ joined (drop (i + 1) bs))
joined_set bs i b l = ap joined (set_split bs i b l)
    ∙ flat_map-append (λ (b : Block). b.items) (take i bs) (b ∷ drop (suc i) bs)
    ∙ ap (λ (n : ℕ). joined (take i bs) ++ (b.items ++ joined (drop n bs))) (next i)

module _ {K : Type 0} (pre part post : List K) (p : ℕ) where
  same_place : p ≡ (length pre + p) - length pre
  same_place = omega arith

  insert_within : (k : K) → p ≤ length part
      → pre ++ (insert part p k ++ post) ≡ insert (pre ++ (part ++ post)) (length pre + p) k
  insert_within k l = ap (λ ys. pre ++ ys) (sym (insert-append_left part post p k l))
      ∙ ap (λ (n : ℕ). pre ++ insert (part ++ post) n k) same_place
      ∙ sym (insert-append_right pre (part ++ post) (length pre) (length pre + p) k refl (omega arith))

  remove_within : p < length part
      → pre ++ (remove part p ++ post) ≡ remove (pre ++ (part ++ post)) (length pre + p)
  remove_within l = ap (λ ys. pre ++ ys) (sym (remove-append_left part post p l))
      ∙ ap (λ (n : ℕ). pre ++ remove (part ++ post) n) same_place
      ∙ sym (remove-append_right pre (part ++ post) (length pre) (length pre + p) refl (omega arith))

module _ (bs : List Block) (i : ℕ) (d : Block) (inside : i < length bs) where
  abbrev pre : List Key
  pre = joined (take i bs)

  abbrev part : List Key
  part = (get_or bs i d).items

  abbrev post : List Key
  post = joined (drop (i + 1) bs)

  pub same_items : (b : Block) → b.items ≡ part → joined (set bs i b) ≡ joined bs
  same_items b e = joined_set bs i b inside ∙ ap (λ ys. pre ++ (ys ++ post)) e ∙ sym (joined_at bs i d inside)

  pub insert_in : (b : Block) (p : ℕ) (k : Key) → p ≤ length part → b.items ≡ insert part p k
      → joined (set bs i b) ≡ insert (joined bs) (place_of bs i p) k
  insert_in b p k l e = joined_set bs i b inside ∙ ap (λ ys. pre ++ (ys ++ post)) e
      ∙ insert_within pre part post p k l
      ∙ ap (λ ks. insert ks (place_of bs i p) k) (sym (joined_at bs i d inside))

  pub remove_in : (b : Block) (p : ℕ) → p < length part → b.items ≡ remove part p
      → joined (set bs i b) ≡ remove (joined bs) (place_of bs i p)
  remove_in b p l e = joined_set bs i b inside ∙ ap (λ ys. pre ++ (ys ++ post)) e ∙ remove_within pre part post p l
      ∙ ap (λ ks. remove ks (place_of bs i p)) (sym (joined_at bs i d inside))

  -- the only key of a block goes with its block
  pub remove_only : (p : ℕ) → p < length part → length part ≡ 1
      → joined (remove bs i) ≡ remove (joined bs) (place_of bs i p)
  remove_only p l one =
      let none : remove part p ≡ [] = nil_from_length (remove part p)
      (let less = length-remove part p l in omega (arith, less, one)) in
      flat_map-append (λ (b : Block). b.items) (take i bs) (drop (suc i) bs)
      ∙ ap (λ (n : ℕ). pre ++ joined (drop n bs)) (next i) ∙ ap (λ ys. pre ++ (ys ++ post)) (sym none)
      ∙ remove_within pre part post p l ∙ ap (λ ks. remove ks (place_of bs i p)) (sym (joined_at bs i d inside))

  pub place_within : (p : ℕ) → p < length part → place_of bs i p < length (joined bs)
  place_within p l =
      let n = ap length (joined_at bs i d inside) in
      let m = length-append pre (part ++ post) in
      let o = length-append part post in
      omega (arith, n, m, o, l)

  -- a block in two
  module _ (lower upper : Block) (n : ℕ) (low : lower.items ≡ take n part) (high : upper.items ≡ drop n part) where
    abbrev more : List Block
    more = insert bs (i + 1) upper

    longer : i < length more
    longer = let k = length-insert bs (i + 1) upper (omega (arith, inside)) in omega (arith, k, inside)

    front : take i more ≡ take i bs
    front =
        let k = length-take-le (i + 1) bs (omega (arith, inside)) in
        take-append-le i (take (i + 1) bs) (upper ∷ drop (i + 1) bs) (omega (arith, k))
        ∙ take-take i (i + 1) bs (omega arith)

    back : drop (i + 1) more ≡ upper ∷ drop (i + 1) bs
    back = drop_at (take (i + 1) bs) (upper ∷ drop (i + 1) bs) (i + 1)
        (length-take-le (i + 1) bs (omega (arith, inside)))

    pub split_same : joined (set more i lower) ≡ joined bs
    split_same = joined_set more i lower longer ∙ ap (λ cs. joined cs ++ (lower.items ++ joined (drop (i + 1) more))) front
        ∙ ap (λ cs. pre ++ (lower.items ++ joined cs)) back
        ∙ ap (λ ys. pre ++ (ys ++ (upper.items ++ post))) low
        ∙ ap (λ ys. pre ++ (take n part ++ (ys ++ post))) high
        ∙ ap (λ ys. pre ++ ys) (sym (append_assoc (take n part) (drop n part) post))
        ∙ ap (λ ys. pre ++ (ys ++ post)) (take-append-drop n part) ∙ sym (joined_at bs i d inside)

    pub split_are : (news : List Block) → news ≡ more → 0 < n → n < length part → AreBlocks bs
        → AreBlocks (set news i lower)
    split_are news e p l are =
        let below = ap length low ∙ length-take n part in
        let over = ap length high ∙ length-drop n part in
        let behind = All-drop Full (i + 1) bs are.full in
        subst (λ cs. AreBlocks (set cs i lower)) (sym e) (record {
          full = All-set Full more i lower (omega (arith, below, p, l))
              (All-append Full (take (i + 1) bs) (upper ∷ drop (i + 1) bs) (All-take Full (i + 1) bs are.full)
              (All-cons Full upper (drop (i + 1) bs) (omega (arith, over, l)) behind));
          rising = subst (IsStrictlySortedBy key_cmp) (sym split_same) are.rising;
        })

  -- two blocks in one
  module _ (e : Block) (both : Block) (more : i + 1 < length bs)
      (is : both.items ≡ part ++ (get_or bs (i + 1) e).items) where
    abbrev fewer : List Block
    fewer = remove bs (i + 1)

    ahead : take i fewer ≡ take i bs
    ahead =
        let k = length-take-le (i + 1) bs (omega (arith, inside)) in
        take-append-le i (take (i + 1) bs) (drop (suc (i + 1)) bs) (omega (arith, k))
        ∙ take-take i (i + 1) bs (omega arith)

    behind : drop (i + 1) fewer ≡ drop (i + 1 + 1) bs
    behind = drop_at (take (i + 1) bs) (drop (suc (i + 1)) bs) (i + 1)
        (length-take-le (i + 1) bs (omega (arith, inside)))
        ∙ ap (λ (n : ℕ). drop n bs) (next (i + 1))

    shorter : i < length fewer
    shorter = let k = length-remove bs (i + 1) more in omega (arith, k, more)

    pub join_same : joined (set fewer i both) ≡ joined bs
    join_same = joined_set fewer i both shorter
        ∙ ap (λ cs. joined cs ++ (both.items ++ joined (drop (i + 1) fewer))) ahead
        ∙ ap (λ cs. pre ++ (both.items ++ joined cs)) behind
        ∙ ap (λ ys. pre ++ (ys ++ joined (drop (i + 1 + 1) bs))) is
        ∙ ap (λ ys. pre ++ ys) (append_assoc part (get_or bs (i + 1) e).items (joined (drop (i + 1 + 1) bs)))
        ∙ ap (λ cs. pre ++ (part ++ joined cs)) (sym (drop_more bs (i + 1) e more)) ∙ sym (joined_at bs i d inside)

    pub join_are : AreBlocks bs → AreBlocks (set fewer i both)
    join_are are =
        let long = ap length is ∙ length-append part (get_or bs (i + 1) e).items in
        let some : 0 < length part = All-get_or Full bs i d inside are.full in
        record {
          full = All-set Full fewer i both (omega (arith, long, some))
              (All-append Full (take (i + 1) bs) (drop (suc (i + 1)) bs) (All-take Full (i + 1) bs are.full)
              (All-drop Full (suc (i + 1)) bs are.full));
          rising = subst (IsStrictlySortedBy key_cmp) (sym join_same) are.rising;
        }

  pub set_are : (b : Block) → 0 < length b.items → IsStrictlySortedBy key_cmp (joined (set bs i b)) → AreBlocks bs
      → AreBlocks (set bs i b)
  set_are b l r are = record { full = All-set Full bs i b l are.full; rising = r }

  pub remove_are : IsStrictlySortedBy key_cmp (joined (remove bs i)) → AreBlocks bs → AreBlocks (remove bs i)
  remove_are r are = record {
    full = All-append Full (take i bs) (drop (suc i) bs) (All-take Full i bs are.full) (All-drop Full (suc i) bs are.full);
    rising = r;
  }

  -- a key's place among the keys of a block is its place among all
  module _ (q : Key) (are : AreBlocks bs) (bounds : AreBounds bs q i (i + 1)) where
    some : 0 < length part
    some = All-get_or (λ (b : Block). 0 < length b.items) bs i d inside are.full

    rising : IsStrictlySortedBy key_cmp (pre ++ (part ++ post))
    rising = subst (IsStrictlySortedBy key_cmp) (joined_at bs i d inside) are.rising

    least : (e : Key) → 0 < length pre → is_gt (key_cmp (get_or part 0 e) q) ≡ false
    least e l = split (nat_lt 0 i) refl
      where
        split : (b : Bool) → nat_lt 0 i ≡ b → is_gt (key_cmp (get_or part 0 e) q) ≡ false
        split true b = bounds.least d e (ltb-true _ _ b)
        split false b =
            let none : i ≡ 0 = omega (arith, ltb-false _ _ b) in
            let n = ap (λ (k : ℕ). length (joined (take k bs))) none in
            absurd (omega (arith, l, n))

    above : (e : Key) → 0 < length post → is_gt (key_cmp (get_or post 0 e) q) ≡ true
    above e l = split (nat_lt (i + 1) (length bs)) refl
      where
        split : (b : Bool) → nat_lt (i + 1) (length bs) ≡ b → is_gt (key_cmp (get_or post 0 e) q) ≡ true
        split true b =
            let more : i + 1 < length bs = ltb-true _ _ b in
            let block = get_or bs (i + 1) d in
            let full : 0 < length block.items
            = All-get_or (λ (b : Block). 0 < length b.items) bs (i + 1) d more are.full in
            ap (λ ks. is_gt (key_cmp (get_or ks 0 e) q)) (ap joined (drop_more bs (i + 1) d more))
            ∙ ap (λ x. is_gt (key_cmp x q)) (get_or_append_left block.items (joined (drop (i + 1 + 1) bs)) e 0 full)
            ∙ bounds.above d e more
        split false b =
            let n = ap (λ cs. length (joined cs)) (drop_all (i + 1) bs (ltb-false _ _ b)) in
            absurd (omega (arith, l, n))

    module _ (p : ℕ) (keys : List Key) (same : keys ≡ part) (is : IsPlace key_cmp keys q p) where
      is_here : IsPlace key_cmp part q p
      is_here = subst (λ ks. IsPlace key_cmp ks q p) same is

      at_all : IsPlace key_cmp (joined bs) q (place_of bs i p)
      at_all = subst (λ ks. IsPlace key_cmp ks q (place_of bs i p)) (sym (joined_at bs i d inside))
          (placed key_total pre part post q p rising is_here some least above)

      pub spot_there : (found : Bool) (e : Key) → p < length keys → found ≡ is_eq (key_cmp (get_or keys p e) q)
          → IsSpot bs q (record { block = i; place = p; found = found })
      spot_there found e l f = record {
        block = inside;
        within = λ b. let h : p < length (get_or bs i b).items = here b in omega (arith, h);
        there = λ b _. here b;
        place = at_all;
        found = f ∙ ap (λ ks. is_eq (key_cmp (get_or ks p e) q)) same
            ∙ found_in key_total pre part post q p rising is_here some least above e
            (subst (λ ks. p < length ks) same l)
            ∙ ap (λ ks. among key_cmp ks q) (sym (joined_at bs i d inside));
      }
        where
          here : (b : Block) → p < length (get_or bs i b).items
          here b = subst (λ c. p < length c.items) (get_or_default bs i d b inside) (subst (λ ks. p < length ks) same l)

      pub spot_after : length keys ≤ p → IsSpot bs q (record { block = i; place = p; found = false })
      spot_after l = record {
        block = inside;
        within = λ b. subst (λ c. p ≤ length c.items) (get_or_default bs i d b inside) is_here.within;
        there = λ b f. cc;
        place = at_all;
        found = sym (ap (λ ks. among key_cmp ks q) (joined_at bs i d inside)
            ∙ not_found key_total pre part post q p rising is_here some least above
            (subst (λ ks. length ks ≤ p) same l));
      }
