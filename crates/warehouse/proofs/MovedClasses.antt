-- The classes of a tree are handed on to new children, one after another, and taken back.
use Rattle.std.proofs.Common.{◌≡◌, ◌≢◌, ◌⊎◌, inl, inr, ℕ, zero, suc, ◌<◌, ◌≤◌, Bool, true, false, cond, ◌||◌, ◌&&◌, not, Option, Some, None}
use Rattle.std.proofs.Common.{List, [], ◌∷◌, ◌++◌, length, is_some, nat_eq, refl, sym, ap, ap₂, ◌∙◌, arith, true≢false}
use Rattle.std.proofs.Common.{eq-eqb, eqb-true}
use Rattle.std.proofs.lemmas.Bool.Decides.{eqb_tells}
use Rattle.std.proofs.lemmas.Bool.{cond-true, cond-false, false_from_ne_true}
use Rattle.std.proofs.Math.Bool.{or-true, or-false}
use Rattle.std.specs.Cmp.{nat_cmp_total}
use Rattle.std.specs.FinMap as map
use Rattle.std.specs.List.{AllByRecursion}
use Rattle.std.specs.Option.{option_map}
use Rattle.cube_defs.specs.Cell.{Cell, depth, with_value}
use Rattle.cube_defs.specs.Tree.{Edge, Tree}
use Rattle.cube_laws.proofs.CallerLemmas.{depth-le}
use Rattle.qc_arena.specs.Edges.{drop_label, put_edge}
use Rattle.qc_arena.specs.Map.{Known}
use Rattle.qc_arena.specs.RecordReaders.{label_lt, record_or}
use Rattle.qc_arena.specs.Resized.{resize, resized}
use Rattle.tree_laws.proofs.CallerLemmas.{some_same}
use Rattle.warehouse.specs.ClassMoves.{HasMovedClasses, IsWide}
use Rattle.qc_arena.specs.Lowered.{HandsDown, TakesBack, heir_of, label_to, with_class_back, with_forced_child}
use Rattle.widen_laws.proofs.CallerLemmas.{depth-any_after, value_after}
use Rattle.widen_laws.specs.Widened.{and_any, and_value, child_by_number, with_forced_value_by_number, with_any_by_number}

earlier : (x e : Edge ℕ ℕ) → x.dim < e.dim → label_lt x e ≡ true
earlier x e h = grind (arith, h)

-- a label in a dimension after all others comes last
put-last : (e : Edge ℕ ℕ) (es : List (Edge ℕ ℕ)) → AllByRecursion (λ x. x.dim < e.dim) es → put_edge e es ≡ es ++ e ∷ []
put-last e [] h = refl
put-last e (x ∷ es) h = cond-true (label_lt x e) _ _ (earlier x e h.0) ∙ ap (λ xs. x ∷ xs) (put-last e es h.1)

-- and is dropped again
drop-last : (dims child : ℕ) (es : List (Edge ℕ ℕ)) → AllByRecursion (λ x. x.dim < dims) es
    → drop_label dims 0 (es ++ label_to dims child ∷ []) ≡ es
drop-last dims child [] h = cond-false (not (nat_eq dims dims && true)) _ _ (ap (λ b. not (b && true)) (eq-eqb dims dims refl))
drop-last dims child (x ∷ es) h =
    let other : nat_eq x.dim dims ≡ false
    = false_from_ne_true _ (λ e. let same = eqb-true x.dim dims e in omega (arith, same, h.0)) in
    cond-true (not (nat_eq x.dim dims && nat_eq x.value 0)) _ _ (ap (λ b. not (b && nat_eq x.value 0)) other)
    ∙ ap (λ xs. x ∷ xs) (drop-last dims child es h.1)

led-handed : (dims child : ℕ) (n : Known) → AllByRecursion (λ x. x.dim < dims) n.edges
    → with_forced_child dims child (with_any_by_number n) ≡ with_forced_value_by_number dims 0 child n
led-handed dims child n h
    = ap (λ es. let m : Known = record {
      cell = and_any n.cell;
      parent = n.parent;
      class = None;
      forced
          = Some (label_to dims child);
      edges = es;
    } in m) (put-last (label_to dims child) n.edges h)

-- the record of before, where the class comes back
led-back : (dims child : ℕ) (n : Known) → AllByRecursion (λ x. x.dim < dims) n.edges → n.forced ≡ None
    → with_class_back dims n.class (with_forced_value_by_number dims 0 child n) ≡ with_any_by_number n
led-back dims child n h none
    = ap₂ (λ (es : List (Edge ℕ ℕ)) (f : Option (Edge ℕ ℕ)). let m : Known = record {
      cell = and_any n.cell;
      parent = n.parent;
      class = n.class;
      forced = f;
      edges = es;
    } in m) (drop-last dims child n.edges h) (sym none)

child-made : (dims parent : ℕ) (n : Known) → length n.cell ≡ dims
    → heir_of dims parent (with_any_by_number n) ≡ child_by_number 0 parent n
child-made dims parent n long =
    let cell : with_value (and_any n.cell) dims 0 ≡ and_value 0 n.cell
    = ap (λ d. with_value (and_any n.cell) d 0) (sym long) ∙ value_after n.cell 0 None in
    ap (λ (c : Cell ℕ). let m : Known
    = record { cell = c; parent = Some parent; class = n.class; forced = None; edges = [] } in m) cell

pub any-shallow : (dims : ℕ) (c : Cell ℕ) → length c ≡ dims → depth (and_any c) ≤ dims
any-shallow dims c long = omega (arith, depth-any_after c, depth-le c, long)

-- Any in a new dimension, and without it
resize-any : (c : Cell ℕ) (dims : ℕ) → length c ≡ dims → resize dims (and_any c) ≡ c
resize-any [] zero long = refl
resize-any (e ∷ c) (suc dims) long = ap (λ d. e ∷ d) (resize-any c dims (omega (arith, long)))
resize-any _ _ long = absurd (omega (arith, long))

-- what is known of each node, and each number without one
module _ (dims i : ℕ) (done : ℕ → Bool) (tree : Tree ℕ) (is_wide : IsWide dims tree) (n : Known)
    (at : map.get tree i ≡ Some n) (class : is_some n.class ≡ true) (new : done i ≡ false) where
  -- the number is done too
  abbrev done' : ℕ → Bool
  done' k = done k || nat_eq k i

  still_done : (k : ℕ) → done k ≡ true → done' k ≡ true
  still_done k d = ap (λ b. b || nat_eq k i) d

  done_self : (k : ℕ) → k ≡ i → done' k ≡ true
  done_self k e = ap (λ b. done k || b) (eq-eqb k i e) ∙ or-true (done k)

  same_done : (k : ℕ) → k ≢ i → done' k ≡ done k
  same_done k apart = ap (λ b. done k || b) (false_from_ne_true _ (λ e. apart (eqb-true k i e))) ∙ or-false (done k)

  not_done : (k : ℕ) → done' k ≡ false → done k ≡ false
  not_done k d = go (done k) refl
    where
      go : (b : Bool) → done k ≡ b → b ≡ false
      go true e = absurd (true≢false (sym (still_done k e) ∙ d))
      go false e = refl

  apart_done : (k : ℕ) → done k ≡ true → k ≢ i
  apart_done k d e = absurd (true≢false (sym d ∙ ap done e ∙ new))

  same_record : (m : Known) → map.get tree i ≡ Some m → m ≡ n
  same_record m h = some_same (sym h ∙ at)

  apart_class : (k : ℕ) (m : Known) → map.get tree k ≡ Some m → is_some m.class ≡ false → k ≢ i
  apart_class k m h none e =
      let is : m ≡ n = same_record m (sym (ap (map.get tree) e) ∙ h) in
      absurd (true≢false (sym class ∙ sym (ap (λ (x : Known). is_some x.class) is) ∙ none))

  -- the class is handed on to a child
  module _ (wide after : Tree ℕ) (child : ℕ → ℕ) (was : HasMovedClasses done dims child tree wide) (c : ℕ)
      (move : HandsDown dims i wide after c) where
    abbrev pub child' : ℕ → ℕ
    child' k = cond (nat_eq k i) c (child k)

    pub same_child : child' i ≡ c
    same_child = cond-true (nat_eq i i) _ _ (eq-eqb i i refl)

    pub other_child : (k : ℕ) → k ≢ i → child' k ≡ child k
    other_child k apart = cond-false (nat_eq k i) _ _ (false_from_ne_true _ (λ e. apart (eqb-true k i e)))

    -- each old node is there
    there_now : (k : ℕ) (m : Known) → map.get tree k ≡ Some m → (w : Known) × (map.get wide k ≡ Some w)
    there_now k m h = by_class (is_some m.class) refl (done k) refl
      where
        by_class : (b : Bool) → is_some m.class ≡ b → (d : Bool) → done k ≡ d → (w : Known) × (map.get wide k ≡ Some w)
        by_class false none d e = (with_any_by_number m, was.others k m h none)
        by_class true has true e = (with_forced_value_by_number dims 0 (child k) m, was.classes k m h has e)
        by_class true has false e = (with_any_by_number m, was.later k m h e)

    taken : (k : ℕ) (m : Known) → map.get wide k ≡ Some m → k ≢ c
    taken k m h e = let bad : None ≡ Some m = sym move.free ∙ sym (ap (map.get wide) e) ∙ h in absurd (cc bad)

    kept : (k : ℕ) (m : Known) → map.get tree k ≡ Some m → k ≢ i → map.get after k ≡ map.get wide k
    kept k m old apart = let w = there_now k m old in move.others k apart (taken k w.0 w.1)

    still : map.get wide i ≡ Some (with_any_by_number n)
    still = was.later i n at new

    here_now : map.get after i ≡ Some (with_forced_value_by_number dims 0 c n)
    here_now = move.here ∙ ap (option_map (with_forced_child dims c)) still
        ∙ ap (λ x. Some x) (led-handed dims c n (is_wide.labels i n at))

    child_now : map.get after c ≡ Some (child_by_number 0 i n)
    child_now =
        move.child ∙ ap (λ (o : Option Known). Some (heir_of dims i (record_or o))) still
        ∙ ap (λ x. Some x) (child-made dims i n (is_wide.cells i n at))

    classes_now : (k : ℕ) (m : Known) → map.get tree k ≡ Some m → is_some m.class ≡ true → done' k ≡ true
        → map.get after k ≡ Some (with_forced_value_by_number dims 0 (child' k) m)
    classes_now k m h has d = elim (eqb_tells k i) [
      | inl t ↦
          let is : m ≡ n = same_record m (sym (ap (map.get tree) t.1) ∙ h) in
          ap (map.get after) t.1 ∙ here_now ∙ ap₂ (λ (x : ℕ) (y : Known). Some (with_forced_value_by_number dims 0 x y))
          (sym same_child ∙ sym (ap child' t.1)) (sym is)
      | inr f ↦
          kept k m h f.1 ∙ was.classes k m h has (sym (same_done k f.1) ∙ d)
          ∙ ap (λ x. Some (with_forced_value_by_number dims 0 x m)) (sym (other_child k f.1))
    ]

    children_now : (k : ℕ) (m : Known) → map.get tree k ≡ Some m → is_some m.class ≡ true → done' k ≡ true
        → map.get after (child' k) ≡ Some (child_by_number 0 k m)
    children_now k m h has d = elim (eqb_tells k i) [
      | inl t ↦
          let is : m ≡ n = same_record m (sym (ap (map.get tree) t.1) ∙ h) in
          ap (map.get after) (ap child' t.1 ∙ same_child) ∙ child_now
          ∙ ap₂ (λ (x : ℕ) (y : Known). Some (child_by_number 0 x y)) (sym t.1) (sym is)
      | inr f ↦
          let before : done k ≡ true = sym (same_done k f.1) ∙ d in
          let had = was.children k m h has before in
          let differs : child k ≢ i
          = λ e. (let bad : None ≡ Some n = sym (was.fresh k m h has before) ∙ ap (map.get tree) e ∙ at in
          absurd (cc bad)) in
          ap (map.get after) (other_child k f.1) ∙ move.others (child k) differs (taken (child k) _ had) ∙ had
    ]

    fresh_now : (k : ℕ) (m : Known) → map.get tree k ≡ Some m → is_some m.class ≡ true → done' k ≡ true
        → map.get tree (child' k) ≡ None
    fresh_now k m h has d = elim (eqb_tells k i) [
      | inl t ↦ ap (map.get tree) (ap child' t.1 ∙ same_child) ∙ none (map.get tree c) refl
      | inr f ↦ ap (map.get tree) (other_child k f.1) ∙ was.fresh k m h has (sym (same_done k f.1) ∙ d)
    ]
      where
        none : (o : Option Known) → map.get tree c ≡ o → o ≡ None
        none None e = refl
        none (Some x) e = let w = there_now c x e in let bad : None ≡ Some w.0 = sym move.free ∙ w.1 in absurd (cc bad)

    only_now : (q : ℕ) (m : Known) → map.get after q ≡ Some m
        → ((x : Known) × (map.get tree q ≡ Some x))
        ⊎ ((k : ℕ) × (x : Known) × (map.get tree k ≡ Some x) × (is_some x.class ≡ true) × (done' k ≡ true)
        × (q ≡ child' k))
    only_now q m h = elim (eqb_tells q i) [
      | inl t ↦ inl (n, ap (map.get tree) t.1 ∙ at)
      | inr f ↦ elim (eqb_tells q c) [
        | inl t ↦ inr (i, n, at, class, done_self i refl, t.1 ∙ sym same_child)
        | inr g ↦ elim (was.only q m (sym (move.others q f.1 g.1) ∙ h)) [
          | inl old ↦ inl old
          | inr made ↦ inr (
            made.0,
            made.1,
            made.2,
            made.3,
            still_done made.0 made.4,
            made.5 ∙ sym (other_child made.0 (apart_done made.0 made.4)),
          )
        ]
      ]
    ]

    pub handed : HasMovedClasses done' dims child' tree after
    handed = record {
      others = λ k m h none. kept k m h (apart_class k m h none) ∙ was.others k m h none;
      later = λ k m h d.
          let apart : k ≢ i = λ e. absurd (true≢false (sym (done_self k e) ∙ d)) in
          kept k m h apart ∙ was.later k m h (not_done k d);
      classes = classes_now;
      children = children_now;
      fresh = fresh_now;
      only = only_now;
    }

  -- the class is taken back from its child
  module _ (wide after : Tree ℕ) (child : ℕ → ℕ) (was : HasMovedClasses done' dims child tree wide)
      (back : TakesBack dims i wide after (child i)) where
    is_done : done' i ≡ true
    is_done = done_self i refl

    -- an old node isn't the child
    old_apart : (k : ℕ) (m : Known) → map.get tree k ≡ Some m → k ≢ child i
    old_apart k m h e =
        let bad : None ≡ Some m = sym (was.fresh i n at class is_done) ∙ sym (ap (map.get tree) e) ∙ h in absurd (cc bad)

    stays : (k : ℕ) (m : Known) → map.get tree k ≡ Some m → k ≢ i → map.get after k ≡ map.get wide k
    stays k m h apart = back.others k apart (old_apart k m h)

    own_child : map.get wide (child i) ≡ Some (child_by_number 0 i n)
    own_child = was.children i n at class is_done

    -- the node is what it was
    here_again : map.get after i ≡ Some (with_any_by_number n)
    here_again = back.here
        ∙ ap₂ (λ (o p : Option Known). option_map (with_class_back dims (record_or o).class) p) own_child
        (was.classes i n at class is_done)
        ∙ ap (λ x. Some x) (led-back dims (child i) n (is_wide.labels i n at) (is_wide.unforced i n at class))

    -- another child is another node, since its parent is another
    child_apart : (k : ℕ) (m : Known) → map.get tree k ≡ Some m → is_some m.class ≡ true → done k ≡ true
        → child k ≢ child i
    child_apart k m h has d e =
        let same : child_by_number 0 k m ≡ child_by_number 0 i n
        = some_same (sym (was.children k m h has (still_done k d)) ∙ ap (map.get wide) e ∙ own_child) in
        absurd (apart_done k d (some_same (ap (λ (x : Known). x.parent) same)))

    child_other : (k : ℕ) (m : Known) → map.get tree k ≡ Some m → is_some m.class ≡ true → done k ≡ true → child k ≢ i
    child_other k m h has d e =
        let bad : None ≡ Some n = sym (was.fresh k m h has (still_done k d)) ∙ ap (map.get tree) e ∙ at in absurd (cc bad)

    later_again : (k : ℕ) (m : Known) → map.get tree k ≡ Some m → done k ≡ false
        → map.get after k ≡ Some (with_any_by_number m)
    later_again k m h d = elim (eqb_tells k i) [
      | inl t ↦ ap (map.get after) t.1 ∙ here_again
          ∙ ap (λ (x : Known). Some (with_any_by_number x)) (sym (same_record m (sym (ap (map.get tree) t.1) ∙ h)))
      | inr f ↦ stays k m h f.1 ∙ was.later k m h (same_done k f.1 ∙ d)
    ]

    only_again : (q : ℕ) (m : Known) → map.get after q ≡ Some m
        → ((x : Known) × (map.get tree q ≡ Some x))
        ⊎ ((k : ℕ) × (x : Known) × (map.get tree k ≡ Some x) × (is_some x.class ≡ true) × (done k ≡ true)
        × (q ≡ child k))
    only_again q m h = elim (eqb_tells q i) [
      | inl t ↦ inl (n, ap (map.get tree) t.1 ∙ at)
      | inr f ↦ elim (eqb_tells q (child i)) [
        | inl t ↦ (let bad : None ≡ Some m = sym back.gone ∙ sym (ap (map.get after) t.1) ∙ h in absurd (cc bad))
        | inr g ↦ elim (was.only q m (sym (back.others q f.1 g.1) ∙ h)) [
          | inl old ↦ inl old
          | inr made ↦ elim (eqb_tells made.0 i) [
            | inl t ↦ absurd (g.1 (made.5 ∙ ap child t.1))
            | inr other ↦ inr (
              made.0,
              made.1,
              made.2,
              made.3,
              sym (same_done made.0 other.1) ∙ made.4,
              made.5,
            )
          ]
        ]
      ]
    ]

    pub taken_back : HasMovedClasses done dims child tree after
    taken_back = record {
      others = λ k m h none. stays k m h (apart_class k m h none) ∙ was.others k m h none;
      later = later_again;
      classes = λ k m h has d. stays k m h (apart_done k d) ∙ was.classes k m h has (still_done k d);
      children = λ k m h has d. back.others (child k) (child_other k m h has d) (child_apart k m h has d)
          ∙ was.children k m h has (still_done k d);
      fresh = λ k m h has d. was.fresh k m h has (still_done k d);
      only = only_again;
    }

-- where no class is done, each node has Any in the new dimension, and there are no others
pub none_done : (done : ℕ → Bool) (dims : ℕ) (child : ℕ → ℕ) (tree wide : Tree ℕ)
    → HasMovedClasses done dims child tree wide → ((k : ℕ) → done k ≡ false) → (q : ℕ)
    → map.get wide q ≡ option_map with_any_by_number (map.get tree q)
none_done done dims child tree wide was none q = old (map.get tree q) refl
  where
    empty : map.get tree q ≡ None → (o : Option Known) → map.get wide q ≡ o → o ≡ None
    empty e None f = refl
    empty e (Some m) f = elim (was.only q m f) [
      | inl there ↦ (let bad : None ≡ Some there.0 = sym e ∙ there.1 in absurd (cc bad))
      | inr made ↦ absurd (true≢false (sym made.4 ∙ none made.0))
    ]

    old : (o : Option Known) → map.get tree q ≡ o → map.get wide q ≡ option_map with_any_by_number o
    old (Some n) e = was.later q n e (none q)
    old None e = empty e (map.get wide q) refl

-- the tree of before, after the dimension is removed again
pub same_again : (dims : ℕ) (tree wide after : Tree ℕ) → IsWide dims tree
    → ((q : ℕ) → map.get wide q ≡ option_map with_any_by_number (map.get tree q))
    → ((q : ℕ) → map.get after q ≡ option_map (resized dims) (map.get wide q)) → after ≡ tree
same_again dims tree wide after is_wide any cut = map.same_map nat_cmp_total map.nat_cmp-IsAntisymmetric after tree (λ q.
    cut q ∙ ap (option_map (resized dims)) (any q) ∙ each (map.get tree q) (is_wide.cells q))
  where
    each : (o : Option Known) → ((n : Known) → o ≡ Some n → length n.cell ≡ dims)
        → option_map (resized dims) (option_map with_any_by_number o) ≡ o
    each None long = refl
    each (Some n) long = ap (λ (c : Cell ℕ). let m : Known
        = record { cell = c; parent = n.parent; class = n.class; forced = n.forced; edges = n.edges } in Some m)
        (resize-any n.cell dims (long n refl))
