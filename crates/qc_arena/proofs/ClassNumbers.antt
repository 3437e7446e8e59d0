-- The numbers of classes, as the places are gone through.
use Rattle.std.proofs.Common.{◌≡◌, ℕ, ◌+◌, ◌<◌, ◌≤◌, Bool, true, false, cond, Option, Some, None, IsSome, is_some, List, [], ◌∷◌, ◌++◌}
use Rattle.std.proofs.Common.{length, take, slice_get, nat_lt, nat_cmp, refl, sym, ap, subst, ◌∙◌, arith, inl, inr}
use Rattle.std.proofs.Common.{ltb-true, ltb-false, suc}
use Rattle.std.specs.Prelude.{if◌then◌else◌}
use Rattle.std.specs.List.{sum_by}
use Rattle.std.specs.FinMap as map
use Rattle.std.proofs.lemmas.List.{length-append}
use Rattle.std.proofs.lemmas.Option.{slice_get_within}
use Rattle.slab.specs.Slab as slots
use Rattle.cell_core.specs.declared.cell.NodeNo.{NodeNo}
use Rattle.cube_defs.specs.Rows as defs
use Rattle.tree_laws.specs.Counts.{classes_in}
use Rattle.qc_arena.specs.Changes.{AreClassNumbers, class_in}
use Rattle.qc_arena.specs.Inside.{join, now_of}
use Rattle.qc_arena.specs.Map.{Known}
use Rattle.qc_arena.proofs.Counting.{slots-total, sum-part, sum-placed}
use Rattle.qc_arena.proofs.Pairs.{pushed, pushed_new, pushed_old}
use Rattle.qc_arena.proofs.Totals.{total-few, worth}
use Rattle.qc_arena.proofs.TotalsSteps.{has_class}

-- the numbers below one that are classes
pub record AreBelow (class : ℕ → Option defs.Agg) (k : ℕ) (numbers : List NodeNo) : Type 0 where
  pub there : (i : ℕ) (x : NodeNo) → slice_get numbers i ≡ Some x → IsSome (class x.0)
  pub low : (i : ℕ) (x : NodeNo) → slice_get numbers i ≡ Some x → x.0 < k
  pub all : (q : ℕ) → q < k → IsSome (class q) → (i : ℕ) × (slice_get numbers i ≡ Some (record { 0 = q }))
  pub rise : (i j : ℕ) (x y : NodeNo) → i < j → slice_get numbers i ≡ Some x → slice_get numbers j ≡ Some y → x.0 < y.0

module _ (class : ℕ → Option defs.Agg) where
  pub none_below : AreBelow class 0 []
  none_below = record {
    there = λ i x e. cc;
    low = λ i x e. cc;
    all = λ q l h. absurd (omega (arith, l));
    rise = λ i j x y l e. cc;
  }

  module _ (k : ℕ) (numbers : List NodeNo) (was : AreBelow class k numbers) where
    abbrev own : NodeNo
    own = record { 0 = k }

    below_same : is_some (class k) ≡ false → AreBelow class (k + 1) numbers
    below_same none = record {
      there = was.there;
      low = λ i x e. omega (arith, was.low i x e);
      all = λ q l h. by q l h (nat_lt q k) refl;
      rise = was.rise;
    }
      where
        by : (q : ℕ) → q < k + 1 → IsSome (class q) → (b : Bool) → nat_lt q k ≡ b
            → (i : ℕ) × (slice_get numbers i ≡ Some (record { 0 = q }))
        by q l h true b = was.all q (ltb-true _ _ b) h
        by q l h false b =
            let m : k ≤ q = ltb-false _ _ b in
            let is : k ≡ q = omega (arith, l, m) in
            let bad : true ≡ false = sym h ∙ ap (λ n. is_some (class n)) (sym is) ∙ none in
            absurd (cc bad)

    below_more : is_some (class k) ≡ true → AreBelow class (k + 1) (numbers ++ own ∷ [])
    below_more here = record {
      there = λ i x e. elim (pushed numbers own i x e) [
        | inl g ↦ was.there i x g
        | inr g ↦ subst (λ (y : NodeNo). IsSome (class y.0)) (sym g.1) here
      ];
      low = λ i x e. elim (pushed numbers own i x e) [
        | inl g ↦ omega (arith, was.low i x g)
        | inr g ↦ subst (λ (y : NodeNo). y.0 < k + 1) (sym g.1) (omega arith)
      ];
      all = λ q l h. by q l h (nat_lt q k) refl;
      rise = λ i j x y l e f. elim (pushed numbers own j y f) [
        | inl g ↦ was.rise i j x y l
            (elim (pushed numbers own i x e) [
              | inl p ↦ p
              | inr p ↦ absurd (let w = slice_get_within numbers j y g in
                  omega (arith, p.0, w, l))
            ]) g
        | inr g ↦ subst (λ (z : NodeNo). x.0 < z.0) (sym g.1)
            (was.low i x (elim (pushed numbers own i x e) [
              | inl p ↦ p
              | inr p ↦ absurd (omega (arith, p.0, g.0, l))
            ]))
      ];
    }
      where
        by : (q : ℕ) → q < k + 1 → IsSome (class q) → (b : Bool) → nat_lt q k ≡ b
            → (i : ℕ) × (slice_get (numbers ++ own ∷ []) i ≡ Some (record { 0 = q }))
        by q l h true b = let r = was.all q (ltb-true _ _ b) h in (r.0, pushed_old numbers own r.0 _ r.1)
        by q l h false b =
            let m : k ≤ q = ltb-false _ _ b in
            let is : k ≡ q = omega (arith, l, m) in
            (length numbers, pushed_new numbers own ∙ ap (λ n. Some (record { 0 = n })) is)

    pub below_next : (new : List NodeNo) (b : Bool) → b ≡ is_some (class k)
        → new ≡ (if b then numbers ++ record { 0 = k } ∷ [] else numbers) → AreBelow class (k + 1) new
    below_next new true e same = subst (AreBelow class (k + 1)) (sym same) (below_more (sym e))
    below_next new false e same = subst (AreBelow class (k + 1)) (sym same) (below_same (sym e))

  -- no class has a greater number
  pub all_below : (k : ℕ) (numbers : List NodeNo) → AreBelow class k numbers
      → ((q : ℕ) → k ≤ q → class q ≡ None) → AreClassNumbers class numbers
  all_below k numbers was none = record {
    there = was.there;
    all = λ q h. by q h (nat_lt q k) refl;
    rise = was.rise;
  }
    where
      by : (q : ℕ) → IsSome (class q) → (b : Bool) → nat_lt q k ≡ b
          → (i : ℕ) × (slice_get numbers i ≡ Some (record { 0 = q }))
      by q h true b = was.all q (ltb-true _ _ b) h
      by q h false b =
          let bad : true ≡ false = sym h ∙ ap is_some (none q (ltb-false _ _ b)) in
          absurd (cc bad)

-- whether a place has a class, and whether it has a node, as a number
abbrev pub class_mark : Option (Option Known) → ℕ
class_mark x = worth has_class (join x)

abbrev pub node_mark : Option (Option Known) → ℕ
node_mark x = worth (λ (n : Known). 1) (join x)

pub class_mark-is : (x : Option (Option Known)) → class_mark x ≡ cond (is_some (class_in (join x))) 1 0
class_mark-is x = go (join x)
  where
    go : (o : Option Known) → worth has_class o ≡ cond (is_some (class_in o)) 1 0
    go None = refl
    go (Some n) = refl

pub node_mark-is : (x : Option (Option Known)) → node_mark x ≡ cond (is_some (join x)) 1 0
node_mark-is x = go (join x)
  where
    go : (o : Option Known) → worth (λ (n : Known). 1) o ≡ cond (is_some o) 1 0
    go None = refl
    go (Some n) = refl

-- a class is a node
pub class_there : (o : Option Known) → is_some (class_in o) ≡ true → IsSome o
class_there None h = h
class_there (Some n) h = refl

-- one list is longer by the mark
pub length_next : (numbers new : List NodeNo) (k : ℕ) (b : Bool)
    → new ≡ (if b then numbers ++ record { 0 = k } ∷ [] else numbers) → length new ≡ length numbers + cond b 1 0
length_next numbers new k true e = ap (λ (l : List NodeNo). length l) e ∙ length-append numbers (record { 0 = k } ∷ [])
length_next numbers new k false e = ap (λ (l : List NodeNo). length l) e ∙ omega arith

module _ (s : slots.Slab (Option Known)) where
  -- the marks up to a place
  abbrev pub classes_to : ℕ → ℕ
  classes_to k = sum_by class_mark (take k s.slots)

  abbrev pub nodes_to : ℕ → ℕ
  nodes_to k = sum_by node_mark (take k s.slots)

  pub classes_next : (k : ℕ) → classes_to (k + 1) ≡ classes_to k + class_mark (slots.get s k)
  classes_next k = let next : k + 1 ≡ suc k = omega arith in
      ap classes_to next ∙ sum-placed class_mark refl s.slots k

  pub nodes_next : (k : ℕ) → nodes_to (k + 1) ≡ nodes_to k + node_mark (slots.get s k)
  nodes_next k = let next : k + 1 ≡ suc k = omega arith in
      ap nodes_to next ∙ sum-placed node_mark refl s.slots k

  pub classes_within : (k : ℕ) → classes_to k ≤ classes_in nat_cmp (now_of s)
  classes_within k =
      let part = sum-part class_mark class_mark (λ x. omega arith) s.slots k in
      let all : classes_in nat_cmp (now_of s) ≡ sum_by class_mark s.slots = slots-total has_class s in
      omega (arith, part, all)

  pub nodes_within : (k : ℕ) → nodes_to k ≤ map.len (now_of s)
  nodes_within k =
      let part = sum-part node_mark node_mark (λ x. omega arith) s.slots k in
      let all = slots-total (λ (n : Known). 1) s in
      let few = total-few (λ (n : Known). 1) (λ n. omega arith) (now_of s) in
      omega (arith, part, all, few)
