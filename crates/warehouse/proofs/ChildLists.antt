-- The classes of a tree hand their aggregates to children, as their list is gone through, and get them back.
use Rattle.std.proofs.Common.{◌≡◌, ◌≢◌, inl, inr, ℕ, zero, suc, ◌+◌, ◌-◌, ◌<◌, ◌≤◌, Bool, true, false, cond, ◌||◌, Option, Some, None, List}
use Rattle.std.proofs.Common.{[], ◌∷◌, ◌++◌, length, is_some, take, slice_get, set, nat_eq, refl, sym, ap, ap₂, subst, ◌∙◌, arith}
use Rattle.std.proofs.Common.{eq-eqb, eqb-true, true≢false}
use Rattle.std.specs.Prelude.{IsSome}
use Rattle.std.proofs.lemmas.Bool.Decides.{eqb_tells}
use Rattle.std.proofs.lemmas.Bool.{cond-true, cond-false, false_from_ne_true}
use Rattle.std.proofs.lemmas.List.{length-set}
use Rattle.std.proofs.lemmas.Option.{slice_get_within}
use Rattle.std.proofs.Math.Bool.{or-true, or-false}
use Rattle.std.specs.Cmp.{nat_cmp_total}
use Rattle.std.specs.FinMap as map
use Rattle.std.specs.Option.{option_map}
use Rattle.cell_core.specs.declared.cell.NodeNo.{NodeNo}
use Rattle.cube_defs.specs.Cell.{depth}
use Rattle.cube_defs.specs.Tree.{Tree}
use Rattle.cube_laws.specs.Lists.{Among}
use Rattle.cube_laws.proofs.CallerLemmas.{eq_cmp, get_among, map_among, take_all}
use Rattle.iceberg_query.specs.Subtree.{numbers}
use Rattle.qc_arena.specs.Changes.{AreClassNumbers, class_in}
use Rattle.qc_arena.specs.Map.{Arena, Known}
use Rattle.qc_arena.specs.RecordReaders.{number, record_at, record_or}
use Rattle.qc_arena.specs.Resized.{resized}
use Rattle.tree_laws.proofs.CallerLemmas.{some_same}
use Rattle.warehouse.specs.ClassMoves.{HasMovedClasses, HaveChildren, IsWide, heir, is_listed}
use Rattle.qc_arena.specs.Lowered.{HandsDown, IsChildOf, TakesBack, heir_of, with_forced_child}
use Rattle.warehouse.specs.NodeLists.{ListsClasses}
use Rattle.warehouse.specs.Widening.{KeepsWidened}
use Rattle.warehouse.proofs.ListedClasses.{apart_once, classes_apart, listed_there}
use Rattle.warehouse.proofs.MovedClasses.{any-shallow, child', handed, none_done, other_child, same_again, same_child, taken_back}
use Rattle.warehouse.proofs.NodeLists.{no_more, taken_next}
use Rattle.widen_laws.specs.Widened.{child_by_number, with_any_by_number}

-- an item that is put in the place of another, and the others
set_here : {X : Type 0} (xs : List X) (i : ℕ) (y : X) → i < length xs → slice_get (set xs i y) i ≡ Some y
set_here [] i y l = absurd (omega (arith, l))
set_here (x ∷ xs) zero y l = refl
set_here (x ∷ xs) (suc i) y l = set_here xs i y (omega (arith, l))

set_apart : {X : Type 0} (xs : List X) (i j : ℕ) (y : X) → j ≢ i → slice_get (set xs i y) j ≡ slice_get xs j
set_apart (x ∷ xs) zero zero y apart = absurd (apart refl)
set_apart (x ∷ xs) (suc i) (suc j) y apart = set_apart xs i j y (λ e. apart (ap suc e))
set_apart _ i j y apart = refl

-- the nodes that are done, and the next
listed_next : (nodes : List NodeNo) (x : NodeNo) (k : ℕ)
    → is_listed (nodes ++ x ∷ []) k ≡ is_listed nodes k || nat_eq k x.0
listed_next [] x k = or-false (nat_eq k x.0)
listed_next (y ∷ nodes) x k = ap (λ b. nat_eq k y.0 || b) (listed_next nodes x k)
    ∙ sym (or_assoc (nat_eq k y.0) (is_listed nodes k) (nat_eq k x.0))
  where
    or_assoc : (a b c : Bool) → (a || b) || c ≡ a || (b || c)
    or_assoc true b c = refl
    or_assoc false b c = refl

-- the next of different nodes isn't done
not_listed : (nodes : List NodeNo) (place : ℕ) (x : NodeNo)
    → ((i j : ℕ) (y z : NodeNo) → i < j → slice_get nodes i ≡ Some y → slice_get nodes j ≡ Some z → y.0 ≢ z.0)
    → slice_get nodes place ≡ Some x → is_listed (take place nodes) x.0 ≡ false
not_listed [] place x apart at = cc
not_listed (y ∷ nodes) zero x apart at = refl
not_listed (y ∷ nodes) (suc place) x apart at =
    ap (λ b. b || is_listed (take place nodes) x.0)
    (false_from_ne_true _ (λ e. apart 0 (suc place) y x (omega arith) refl at (sym (eqb-true x.0 y.0 e))))
    ∙ not_listed nodes place x (λ i j z w l e f. apart (suc i) (suc j) z w (omega (arith, l)) e f) at

-- a node is in its list
listed_here : (nodes : List NodeNo) (i : ℕ) (x : NodeNo) → slice_get nodes i ≡ Some x → is_listed nodes x.0 ≡ true
listed_here [] i x at = cc
listed_here (y ∷ nodes) zero x at = ap (λ b. b || is_listed nodes x.0)
    (eq-eqb x.0 y.0 (ap (λ (z : NodeNo). z.0) (sym (some_same at))))
listed_here (y ∷ nodes) (suc i) x at = ap (λ b. nat_eq x.0 y.0 || b) (listed_here nodes i x at) ∙ or-true (nat_eq x.0 y.0)

-- an item of a list that is there
some_item : {X : Type 0} (o : Option X) → IsSome o → (x : X) × (o ≡ Some x)
some_item None h = absurd (true≢false (sym h))
some_item (Some x) h = (x, refl)

-- a class has a record
class_record : (tree : Tree ℕ) (k : ℕ) → IsSome (class_in (map.get tree k)) → (n : Known) × (map.get tree k ≡ Some n)
    × (is_some n.class ≡ true)
class_record tree k h = go (map.get tree k) refl h
  where
    go : (o : Option Known) → map.get tree k ≡ o → IsSome (class_in o) → (n : Known) × (map.get tree k ≡ Some n)
        × (is_some n.class ≡ true)
    go None e t = absurd (true≢false (sym t))
    go (Some n) e t = (n, e, t)

-- a tree whose class moved to a new child has one node more
pub one_more : (dim node to : ℕ) (tree after : Tree ℕ) → IsSome (map.get tree node) → HandsDown dim node tree after to
    → map.len after ≡ map.len tree + 1
one_more dim node to tree after t move =
    let n = some_item (map.get tree node) t in
    let own = with_forced_child dim to n.0 in
    let child = heir_of dim node (record_at tree node) in
    let mid : Tree ℕ = map.insert tree node own in
    let mid_at : (q : ℕ) → map.get mid q ≡ cond (nat_eq q node) (Some own) (map.get tree q)
    = λ q. map.get-insert nat_cmp_total tree node own q ∙ ap (λ b. cond b (Some own) (map.get tree q)) (eq_cmp q node) in
    let all_at : (q : ℕ) → map.get (map.insert mid to child) q ≡ cond (nat_eq q to) (Some child) (map.get mid q)
    = λ q. map.get-insert nat_cmp_total mid to child q ∙ ap (λ b. cond b (Some child) (map.get mid q)) (eq_cmp q to) in
    let differs : to ≢ node
    = λ e. (let bad : None ≡ Some n.0 = sym move.free ∙ ap (map.get tree) e ∙ n.1 in absurd (cc bad)) in
    let free : map.get mid to ≡ None = mid_at to
    ∙ cond-false (nat_eq to node) _ _ (false_from_ne_true _ (λ e. differs (eqb-true to node e))) ∙ move.free in
    let same : after ≡ map.insert mid to child
    = map.same_map nat_cmp_total map.nat_cmp-IsAntisymmetric after (map.insert mid to child) (λ q.
    elim (eqb_tells q to) [
      | inl e ↦ ap (map.get after) e.1 ∙ move.child ∙ sym (all_at q ∙ cond-true (nat_eq q to) _ _ e.0)
      | inr f ↦ elim (eqb_tells q node) [
        | inl e ↦ ap (map.get after) e.1 ∙ move.here ∙ ap (option_map (with_forced_child dim to)) n.1
            ∙ sym (all_at q ∙ cond-false (nat_eq q to) _ _ f.0 ∙ mid_at q ∙ cond-true (nat_eq q node) _ _ e.0)
        | inr g ↦ move.others q g.1 f.1
            ∙ sym (all_at q ∙ cond-false (nat_eq q to) _ _ f.0 ∙ mid_at q ∙ cond-false (nat_eq q node) _ _ g.0)
      ]
    ]) in
    ap (λ (m : Tree ℕ). map.len m) same
    ∙ map.len-insert nat_cmp_total mid to child ∙ cond-false _ _ _ (ap is_some free)
    ∙ ap (λ m. m + 1) (map.len-insert nat_cmp_total tree node own ∙ cond-true _ _ _ t)

-- a tree with Any in a new dimension has no more nodes
pub no_more_wide : (tree wide : Tree ℕ) → ((q : ℕ) → map.get wide q ≡ option_map with_any_by_number (map.get tree q))
    → map.len wide ≤ map.len tree
no_more_wide tree wide any = no_more tree wide (λ q t. back (map.get tree q) (subst (λ (o : Option Known). IsSome o) (any q) t))
  where
    back : (o : Option Known) → IsSome (option_map with_any_by_number o) → IsSome o
    back None t = absurd (true≢false (sym t))
    back (Some n) t = refl

-- an arena that got a dimension, and lost it again
pub narrowed : (a b c : Arena) → b ≡ record a { width = a.width + 1; now = b.now }
    → c ≡ record b { width = b.width - 1; now = c.now } → c.now ≡ a.now → c ≡ a
narrowed a b c wider less same =
    let width : a.width + 1 - 1 ≡ a.width = omega arith in
    less ∙ ap (λ (x : Arena). let y : Arena = record x { width = x.width - 1; now = c.now } in y) wider
    ∙ ap₂ (λ (n : ℕ) (t : Tree ℕ). let y : Arena = record a { width = n; now = t } in y) width same

-- what is known in it of the classes' children
pub can_narrow : (a b : Arena) (place : ℕ) (old now : List NodeNo) → b ≡ record a { width = a.width + 1; now = b.now }
    → HaveChildren a.width place a.now b.now old now → HaveChildren (b.width - 1) place a.now b.now old now
can_narrow a b place old now wider have =
    let width : b.width - 1 ≡ a.width = omega (arith, ap (λ (x : Arena). x.width) wider) in
    subst (λ n. HaveChildren n place a.now b.now old now) (sym width) have

-- at the start no class is handed on
pub sets_out : (dims : ℕ) (tree wide : Tree ℕ) (nodes : List NodeNo) → IsWide dims tree
    → AreClassNumbers (λ q. class_in (map.get tree q)) nodes
    → ((q : ℕ) → map.get wide q ≡ option_map with_any_by_number (map.get tree q))
    → HaveChildren dims 0 tree wide nodes nodes
sets_out dims tree wide nodes is_wide listed same = record {
  is_wide = is_wide;
  listed = listed;
  within = omega arith;
  child = λ k. k;
  moved = record {
    others = λ k n at none. same k ∙ ap (option_map with_any_by_number) at;
    later = λ k n at d. same k ∙ ap (option_map with_any_by_number) at;
    classes = λ k n at class d. absurd (true≢false (sym d));
    children = λ k n at class d. absurd (true≢false (sym d));
    fresh = λ k n at class d. absurd (true≢false (sym d));
    only = λ q m at. inl (go q m (map.get tree q) refl (sym (same q) ∙ at));
  };
  front = λ j l. absurd (omega (arith, l));
  rest = λ j l. refl;
  long = refl;
}
  where
    go : (q : ℕ) (m : Known) (o : Option Known) → map.get tree q ≡ o → option_map with_any_by_number o ≡ Some m
        → (n : Known) × (map.get tree q ≡ Some n)
    go q m None e h = absurd (cc h)
    go q m (Some n) e h = (n, e)

-- one class more
module _ (dims place : ℕ) (tree wide : Tree ℕ) (old now : List NodeNo) (x : NodeNo)
    (was : HaveChildren dims place tree wide old now) (at : slice_get now place ≡ Some x) where
  at_old : slice_get old place ≡ Some x
  at_old = sym (was.rest place (omega arith)) ∙ at

  next_class : (n : Known) × (map.get tree x.0 ≡ Some n) × (is_some n.class ≡ true)
  next_class = class_record tree x.0 (was.listed.there place x at_old)

  next_open : is_listed (take place old) x.0 ≡ false
  next_open = not_listed old place x (classes_apart (λ q. class_in (map.get tree q)) old was.listed) at_old

  next_record : map.get wide x.0 ≡ Some (with_any_by_number next_class.0)
  next_record = was.moved.later x.0 next_class.0 next_class.1 next_open

  pub next_there : IsSome (map.get wide x.0)
  next_there = ap is_some next_record

  pub next_is_class : IsSome (record_at wide x.0).class
  next_is_class = ap (λ (o : Option Known). is_some (record_or o).class) next_record ∙ next_class.2

  pub next_shallow : depth (record_at wide x.0).cell ≤ dims
  next_shallow = subst (λ (o : Option Known). depth (record_or o).cell ≤ dims) (sym next_record)
      (any-shallow dims next_class.0.cell (was.is_wide.cells x.0 next_class.0 next_class.1))

  -- the class moves to a child, whose number takes its place in the list
  pub goes_on : (after : Tree ℕ) (c : NodeNo) (then : List NodeNo) → HandsDown dims x.0 wide after c.0
      → then ≡ set now place c → HaveChildren dims (place + 1) tree after old then
  goes_on after c then move same = subst (λ (xs : List NodeNo). HaveChildren dims (place + 1) tree after old xs) (sym same)
      (record {
        is_wide = was.is_wide;
        listed = was.listed;
        within = let before = slice_get_within old place x at_old in omega (arith, before);
        child = to;
        moved = subst (λ (d : ℕ → Bool). HasMovedClasses d dims to tree after) (sym done_next)
            (handed dims x.0 (is_listed (take place old)) tree was.is_wide next_class.0 next_class.1 next_class.2
            next_open wide after was.child was.moved c.0 move);
        front = λ j l. elim (eqb_tells j place) [
          | inl e ↦ ap (slice_get (set now place c)) e.1 ∙ set_here now place c (slice_get_within now place x at)
              ∙ ap (λ k. let y : NodeNo = record { 0 = k } in Some y) (sym own)
              ∙ sym (ap (option_map (heir to)) (ap (slice_get old) e.1 ∙ at_old))
          | inr f ↦ set_apart now place j c f.1 ∙ was.front j (before j l f.1)
              ∙ same_heir j (slice_get old j) refl (before j l f.1)
        ];
        rest = λ j l. set_apart now place j c (λ e. absurd (omega (arith, l, e))) ∙ was.rest j (omega (arith, l));
        long = length-set now place c ∙ was.long;
      })
    where
      to : ℕ → ℕ
      to = child' dims x.0 (is_listed (take place old)) tree was.is_wide next_class.0 next_class.1 next_class.2
          next_open wide after was.child was.moved c.0 move

      own : to x.0 ≡ c.0
      own = same_child dims x.0 (is_listed (take place old)) tree was.is_wide next_class.0 next_class.1 next_class.2
          next_open wide after was.child was.moved c.0 move

      done_next : is_listed (take (place + 1) old) ≡ (λ k. is_listed (take place old) k || nat_eq k x.0)
      done_next = λ i k. (ap (λ (xs : List NodeNo). is_listed xs k) (taken_next old place x at_old)
          ∙ listed_next (take place old) x k) i

      before : (j : ℕ) → j < place + 1 → j ≢ place → j < place
      before j l apart = omega (arith, l, apart)

      same_heir : (j : ℕ) (o : Option NodeNo) → slice_get old j ≡ o → j < place
          → option_map (heir was.child) o ≡ option_map (heir to) o
      same_heir j None e l = refl
      same_heir j (Some y) e l = ap (λ k. let z : NodeNo = record { 0 = k } in Some z)
          (sym (other_child dims x.0 (is_listed (take place old)) tree was.is_wide next_class.0 next_class.1 next_class.2
          next_open wide after was.child was.moved c.0 move y.0
          (classes_apart (λ q. class_in (map.get tree q)) old was.listed j place y x l e at_old)))

-- one class less
module _ (dims place : ℕ) (tree wide : Tree ℕ) (old now : List NodeNo) (c : NodeNo)
    (was : HaveChildren dims (place + 1) tree wide old now) (at : slice_get now place ≡ Some c) where
  last_of : (x : NodeNo) × (slice_get old place ≡ Some x) × (c.0 ≡ was.child x.0)
  last_of = go (slice_get old place) refl (sym (was.front place (omega arith)) ∙ at)
    where
      go : (o : Option NodeNo) → slice_get old place ≡ o → option_map (heir was.child) o ≡ Some c
          → (x : NodeNo) × (slice_get old place ≡ Some x) × (c.0 ≡ was.child x.0)
      go None e h = absurd (cc h)
      go (Some x) e h = (x, e, ap (λ (y : NodeNo). y.0) (sym (some_same h)))

  parent : NodeNo
  parent = last_of.0

  at_parent : slice_get old place ≡ Some parent
  unfolding parent
  at_parent = last_of.1

  parent_class : (n : Known) × (map.get tree parent.0 ≡ Some n) × (is_some n.class ≡ true)
  parent_class = class_record tree parent.0 (was.listed.there place parent at_parent)

  parent_open : is_listed (take place old) parent.0 ≡ false
  parent_open = not_listed old place parent (classes_apart (λ q. class_in (map.get tree q)) old was.listed) at_parent

  done_last : is_listed (take (place + 1) old) ≡ (λ k. is_listed (take place old) k || nat_eq k parent.0)
  done_last = λ i k. (ap (λ (xs : List NodeNo). is_listed xs k) (taken_next old place parent at_parent)
      ∙ listed_next (take place old) parent k) i

  moved : HasMovedClasses (λ k. is_listed (take place old) k || nat_eq k parent.0) dims was.child tree wide
  moved = subst (λ (d : ℕ → Bool). HasMovedClasses d dims was.child tree wide) done_last was.moved

  done_parent : is_listed (take place old) parent.0 || nat_eq parent.0 parent.0 ≡ true
  done_parent = ap (λ b. is_listed (take place old) parent.0 || b) (eq-eqb parent.0 parent.0 refl)
      ∙ or-true (is_listed (take place old) parent.0)

  own : c.0 ≡ was.child parent.0
  unfolding parent
  own = last_of.2

  child_record : map.get wide c.0 ≡ Some (child_by_number 0 parent.0 parent_class.0)
  child_record = ap (map.get wide) own
      ∙ moved.children parent.0 parent_class.0 parent_class.1 parent_class.2 done_parent

  -- what stands at the place is a child
  pub is_child : (node : ℕ) × IsChildOf wide node c.0
  is_child = (
    parent.0,
    record {
      there = ap is_some child_record;
      parent = ap (λ (o : Option Known). (record_or o).parent) child_record;
      above = ap is_some (moved.classes parent.0 parent_class.0 parent_class.1 parent_class.2 done_parent);
      apart = λ e. let bad : None ≡ Some parent_class.0
          = sym (moved.fresh parent.0 parent_class.0 parent_class.1 parent_class.2 done_parent)
          ∙ ap (map.get tree) (sym (e ∙ own)) ∙ parent_class.1 in absurd (cc bad);
    },
  )

  -- the parent gets its class back, and its number takes the child's place in the list
  pub goes_back : (after : Tree ℕ) (x : NodeNo) (then : List NodeNo) → (record_at wide c.0).parent ≡ Some x.0
      → TakesBack dims x.0 wide after c.0 → then ≡ set now place x → HaveChildren dims place tree after old then
  goes_back after x then names back same =
      let is : x.0 ≡ parent.0 = some_same (sym names ∙ ap (λ (o : Option Known). (record_or o).parent) child_record) in
      let whole : x ≡ parent = ap (λ k. let y : NodeNo = record { 0 = k } in y) is in
      let taken : TakesBack dims parent.0 wide after (was.child parent.0)
      = subst (λ k. TakesBack dims parent.0 wide after k) own (subst (λ k. TakesBack dims k wide after c.0) is back) in
      subst (λ (xs : List NodeNo). HaveChildren dims place tree after old xs)
      (sym (same ∙ ap (λ (y : NodeNo). set now place y) whole)) (record {
        is_wide = was.is_wide;
        listed = was.listed;
        within = omega (arith, was.within);
        child = was.child;
        moved = taken_back dims parent.0 (is_listed (take place old)) tree was.is_wide parent_class.0 parent_class.1
            parent_class.2 parent_open wide after was.child moved taken;
        front = λ j l. set_apart now place j parent (λ e. absurd (omega (arith, l, e))) ∙ was.front j (omega (arith, l));
        rest = λ j l. elim (eqb_tells j place) [
          | inl e ↦ ap (slice_get (set now place parent)) e.1
              ∙ set_here now place parent (slice_get_within now place c at)
              ∙ sym (ap (slice_get old) e.1 ∙ at_parent)
          | inr f ↦ set_apart now place j parent f.1 ∙ was.rest j (omega (arith, l, f.1))
        ];
        long = length-set now place parent ∙ was.long;
      })

-- where no class has a child, the tree is that of before with Any in the new dimension
module _ (dims : ℕ) (tree wide : Tree ℕ) (old now : List NodeNo) (was : HaveChildren dims 0 tree wide old now) where
  with_any : (q : ℕ) → map.get wide q ≡ option_map with_any_by_number (map.get tree q)
  with_any = none_done (is_listed []) dims was.child tree wide was.moved (λ k. refl)

  -- so the dimension can be removed
  pub last_free : (q : ℕ) (n : Known) → map.get wide q ≡ Some n → depth n.cell < dims + 1
  last_free q n at = go (map.get tree q) refl (sym (with_any q) ∙ at)
    where
      go : (o : Option Known) → map.get tree q ≡ o → option_map with_any_by_number o ≡ Some n → depth n.cell < dims + 1
      go None e h = absurd (cc h)
      go (Some m) e h =
          let shallow = any-shallow dims m.cell (was.is_wide.cells q m e) in
          let same = ap (λ (k : Known). depth k.cell) (some_same h) in
          omega (arith, shallow, same)

  -- and the tree is that of before
  pub returns_to : (after : Tree ℕ) → ((q : ℕ) → map.get after q ≡ option_map (resized dims) (map.get wide q))
      → after ≡ tree
  returns_to after cut = same_again dims tree wide after was.is_wide with_any cut

-- where all classes have children
module _ (dims place : ℕ) (tree wide : Tree ℕ) (old now : List NodeNo)
    (is : HaveChildren dims place tree wide old now) (all : length old ≤ place) where
  class_done : (k : ℕ) (n : Known) → map.get tree k ≡ Some n → is_some n.class ≡ true
      → is_listed (take place old) k ≡ true
  class_done k n at class =
      let place_of = is.listed.all k (subst (λ (o : Option Known). IsSome (class_in o)) (sym at) class) in
      ap (λ (xs : List NodeNo). is_listed xs k) (take_all old place all)
      ∙ listed_here old place_of.0 (record { 0 = k }) place_of.1

  -- the tree is widened
  pub arrives : KeepsWidened dims tree wide
  arrives = (
    is.child,
    record {
      others = is.moved.others;
      classes = λ k n at class. is.moved.classes k n at class (class_done k n at class);
      children = λ k n at class. is.moved.children k n at class (class_done k n at class);
      only = λ q m at. elim (is.moved.only q m at) [
        | inl there ↦ inl there
        | inr new ↦ inr (new.0, new.1, new.2, new.3, new.5)
      ];
    },
  )

  -- each item of the list is the child of a class
  item : (i : ℕ) (y : NodeNo) → slice_get now i ≡ Some y → (x : NodeNo) × (n : Known) × (slice_get old i ≡ Some x)
      × (map.get tree x.0 ≡ Some n) × (map.get wide y.0 ≡ Some (child_by_number 0 x.0 n))
  item i y at = go (slice_get old i) refl (sym (is.front i (omega (arith, slice_get_within now i y at, is.long, all))) ∙ at)
    where
      go : (o : Option NodeNo) → slice_get old i ≡ o → option_map (heir is.child) o ≡ Some y
          → (x : NodeNo) × (n : Known) × (slice_get old i ≡ Some x) × (map.get tree x.0 ≡ Some n)
          × (map.get wide y.0 ≡ Some (child_by_number 0 x.0 n))
      go None e h = absurd (cc h)
      go (Some x) e h =
          let r = class_record tree x.0 (is.listed.there i x e) in (
            x,
            r.0,
            e,
            r.1,
            ap (map.get wide) (ap (λ (z : NodeNo). z.0) (sym (some_same h)))
                ∙ is.moved.children x.0 r.0 r.1 r.2 (class_done x.0 r.0 r.1 r.2),
          )

  items_apart : (i j : ℕ) (y z : NodeNo) → i < j → slice_get now i ≡ Some y → slice_get now j ≡ Some z → y.0 ≢ z.0
  items_apart i j y z l e f same =
      let a = item i y e in
      let b = item j z f in
      let one : child_by_number 0 a.0.0 a.1 ≡ child_by_number 0 b.0.0 b.1
      = some_same (sym a.4 ∙ ap (map.get wide) same ∙ b.4) in
      absurd (classes_apart (λ q. class_in (map.get tree q)) old is.listed i j a.0 b.0 l a.2 b.2
      (some_same (ap (λ (n : Known). n.parent) one)))

  -- the list has the classes of the wider tree
  pub lists_children : ListsClasses wide (numbers now)
  lists_children = record {
    once = apart_once now items_apart;
    there = listed_there (λ q. IsSome (map.get wide q)) now (λ i y e. ap is_some (item i y e).4);
    all = λ q h. let m = class_record wide q h in elim (is.moved.only q m.0 m.1) [
      | inl old_node ↦ absurd (no_class q m.0 m.1 m.2 old_node.0 old_node.1 (is_some old_node.0.class) refl)
      | inr new ↦ subst (λ k. Among k (numbers now)) (sym new.5) (child_listed new.0 new.1 new.2 new.3)
    ];
  }
    where
      no_class : (q : ℕ) (m : Known) → map.get wide q ≡ Some m → is_some m.class ≡ true → (n : Known)
          → map.get tree q ≡ Some n → (b : Bool) → is_some n.class ≡ b → ⊥
      no_class q m at class n old_at true has =
          let same = some_same (sym at ∙ is.moved.classes q n old_at has (class_done q n old_at has)) in
          true≢false (sym class ∙ ap (λ (k : Known). is_some k.class) same)
      no_class q m at class n old_at false none =
          let same = some_same (sym at ∙ is.moved.others q n old_at none) in
          true≢false (sym class ∙ ap (λ (k : Known). is_some k.class) same ∙ none)

      child_listed : (k : ℕ) (n : Known) → map.get tree k ≡ Some n → is_some n.class ≡ true
          → Among (is.child k) (numbers now)
      child_listed k n at class =
          let place_of = is.listed.all k (subst (λ (o : Option Known). IsSome (class_in o)) (sym at) class) in
          let x : NodeNo = record { 0 = k } in
          let within = slice_get_within old place_of.0 x place_of.1 in
          map_among number (heir is.child x) now (get_among now place_of.0 (heir is.child x)
          (is.front place_of.0 (omega (arith, within, all)) ∙ ap (option_map (heir is.child)) place_of.1))
