-- The steps of a deletion, by the nodes that generalize the tuple, and their edges.
use Rattle.std.proofs.Common.{◌≡◌, ◌≢◌, ◌∙◌, inl, inr, ℕ, zero, suc, ◌+◌, ◌*◌, ◌^◌, ◌<◌, ◌≤◌, Bool, true, false, Option, Some, None}
use Rattle.std.proofs.Common.{List, [], ◌∷◌, filter_map, length, map, sum, slice_get, nat_eq, nat_lt, nat_cmp, refl, sym, ap, ap₂}
use Rattle.std.proofs.Common.{subst, arith, eqb-true, true≢false, ltb-true, ltb-false}
use Rattle.std.proofs.lemmas.Bool.{and_parts, cond-true, cond-false}
use Rattle.std.proofs.lemmas.List.Sums.{sum_by-cons}
use Rattle.std.proofs.Math.Nat.{mul-add, mul-suc}
use Rattle.std.specs.Cmp.{nat_cmp_total}
use Rattle.std.specs.FinMap as fin
use Rattle.std.specs.List.{cons_option, sum_by}
use Rattle.std.specs.Option.{option_map}
use Rattle.std.specs.Ordering.{eq_by_cmp}
use Rattle.std.specs.Prelude.{if◌then◌else◌}
use Rattle.cube_defs.specs.Cell.{Cell, cell_eq, cell_of, entry_leq, cell_prefix, leq}
use Rattle.cube_defs.specs.Rows.{closure}
use Rattle.cube_defs.specs.Tree.{Node, Tree, affected_size, cell_at, node_of, nodes, generalizing_nodes, generalizing_size, tree}
use Rattle.cube_laws.specs.Lists.{Among}
use Rattle.cube_laws.proofs.CallerLemmas.{cell_eq-exact, leq_refl, nat_equality, among_filter, among_filter_map, among_map, among_get}
use Rattle.cube_laws.proofs.CallerLemmas.{nodes-is, times_mono, square}
use Rattle.qc_arena.specs.RecordReaders.{record_at}
use Rattle.tree_laws.specs.Labels.{record_of}
use Rattle.tree_laws.proofs.CallerLemmas.{some_same, record_with, EachOnce, once_map, sum_alike, sum_by-map, sum_within}
use Rattle.std.proofs.lemmas.List.{length-map}
use Rattle.tree_search.specs.Found.{IsTreeOf}
use Rattle.batch_delete.specs.declared.generalizing.NodeCell.{NodeCell}
use Rattle.batch_delete.specs.Generalizing.{AreGeneralizing}
use Rattle.batch_delete.specs.Plan.{prefix_labels, labels_of, last_any_of, last_any_with, planning_cost, rewriting_cost}
use Rattle.batch_delete.specs.Rests.{Deletion, rows_after, rows_before, source_before}
use Rattle.batch_delete.proofs.Childs.{cell_wide}
use Rattle.batch_delete.proofs.Labelled.{closed_at, made, node_there}
use Rattle.batch_delete.proofs.Outcomes.{covered}

-- sums
zero_plus : (n : ℕ) → 0 + n ≡ n
zero_plus n = omega arith

sum_le : {X : Type 0} (f h : X → ℕ) (xs : List X) → ((x : X) → Among x xs → f x ≤ h x) → sum_by f xs ≤ sum_by h xs
sum_le f h [] le = omega arith
sum_le f h (x ∷ xs) le = omega (
  arith,
  sum_le f h xs (λ y m. le y (inr m)),
  le x (inl refl),
  sum_by-cons f x xs,
  sum_by-cons h x xs,
)

sum_two : {X : Type 0} (f g h : X → ℕ) (xs : List X) → ((x : X) → h x ≤ f x + g x)
    → sum_by h xs ≤ sum_by f xs + sum_by g xs
sum_two f g h [] le = omega arith
sum_two f g h (x ∷ xs) le
    = omega (arith, sum_two f g h xs le, le x, sum_by-cons f x xs, sum_by-cons g x xs, sum_by-cons h x xs)

sum_zero : {X : Type 0} (f : X → ℕ) (xs : List X) → ((x : X) → f x ≡ 0) → sum_by f xs ≡ 0
sum_zero f [] h = refl
sum_zero f (x ∷ xs) h = let more = sum_zero f xs h in let here = h x in let all = sum_by-cons f x xs in omega arith

sum_scaled : {X : Type 0} (k : ℕ) (f : X → ℕ) (xs : List X)
    → sum_by (λ x. k * (1 + f x)) xs ≡ k * (length xs + sum_by f xs)
sum_scaled k f [] = omega arith
sum_scaled k f (x ∷ xs) =
    let one = sum_by-cons (λ x. k * (1 + f x)) x xs in
    let more = sum_scaled k f xs in
    let parts : k * ((1 + f x) + (length xs + sum_by f xs)) ≡ k * (1 + f x) + k * (length xs + sum_by f xs)
    = mul-add k (1 + f x) (length xs + sum_by f xs) in
    let same : length (x ∷ xs) + sum_by f (x ∷ xs) ≡ (1 + f x) + (length xs + sum_by f xs)
    = (let all = sum_by-cons f x xs in omega arith) in
    one ∙ ap (λ n. k * (1 + f x) + n) more ∙ sym parts ∙ ap (λ n. k * n) (sym same)

once_filtered : {X Y : Type 0} (f : X → Option Y) (xs : List X)
    → ((x z : X) (y : Y) → Among x xs → Among z xs → f x ≡ Some y → f z ≡ Some y → x ≡ z) → EachOnce xs
    → EachOnce (filter_map f xs)
once_filtered f [] apart h = tt
once_filtered {X = X} {Y = Y} f (x ∷ xs) apart h
    = go (once_filtered f xs (λ z w y m n. apart z w y (inr m) (inr n)) h.1) (f x) refl
  where
    go : EachOnce (filter_map f xs) → (o : Option Y) → f x ≡ o → EachOnce (cons_option o (filter_map f xs))
    go more None e = more
    go more (Some y) e = (
      λ m. let z : (z : X) × Among z xs × (f z ≡ Some y) = (among_filter_map f y xs).0 m in
          h.0 (rw (apart x z.0 y (inl refl) (inr z.1) e z.2) z.1),
      more,
    )

-- the labels at different cells are no more than all
one_cell : (c : Cell ℕ) (e : ℕ) (ps : List (Cell ℕ)) → EachOnce ps
    → sum_by (λ p. if cell_eq nat_eq c p then e else 0) ps ≤ e
one_cell c e [] h = omega arith
one_cell c e (p ∷ ps) h = go (cell_eq nat_eq c p) refl (one_cell c e ps h.1)
  where
    none : (qs : List (Cell ℕ)) → (Among c qs → ⊥) → sum_by (λ p. if cell_eq nat_eq c p then e else 0) qs ≡ 0
    none [] k = refl
    none (q ∷ qs) k =
        let all = sum_by-cons (λ p. if cell_eq nat_eq c p then e else 0) q qs in
        let more = none qs (λ m. k (inr m)) in
        let first : (if cell_eq nat_eq c q then e else 0) ≡ 0 = by (cell_eq nat_eq c q) refl in
        omega arith
      where
        by : (b : Bool) → cell_eq nat_eq c q ≡ b → (if b then e else 0) ≡ 0
        by true s = absurd (k (inl (cell_eq-exact nat_equality c q s)))
        by false s = refl

    go : (b : Bool) → cell_eq nat_eq c p ≡ b → sum_by (λ p. if cell_eq nat_eq c p then e else 0) ps ≤ e
        → sum_by (λ p. if cell_eq nat_eq c p then e else 0) (p ∷ ps) ≤ e
    go true s more =
        let all = sum_by-cons (λ p. if cell_eq nat_eq c p then e else 0) p ps in
        let first : (if cell_eq nat_eq c p then e else 0) ≡ e = cond-true _ _ _ s in
        let rest = none ps (λ m. h.0 (rw (← (cell_eq-exact nat_equality c p s)) m)) in
        omega arith
    go false s more =
        let all = sum_by-cons (λ p. if cell_eq nat_eq c p then e else 0) p ps in
        let first : (if cell_eq nat_eq c p then e else 0) ≡ 0 = cond-false _ _ _ s in
        omega arith

abbrev pub edge_many : Tree ℕ → NodeCell → ℕ
edge_many old b = length (record_at old b.node.0).edges

labels_within : (old : Tree ℕ) (list : List NodeCell) (ps : List (Cell ℕ)) → EachOnce ps
    → sum_by (labels_of old list) ps ≤ sum_by (edge_many old) list
labels_within old [] ps h = let none = sum_zero (labels_of old []) ps (λ p. refl) in omega arith
labels_within old (b ∷ list) ps h =
    let first = one_cell b.cell (edge_many old b) ps h in
    let more = labels_within old list ps h in
    let all = sum_by-cons (edge_many old) b list in
    let both = sum_two (λ p. if cell_eq nat_eq b.cell p then edge_many old b else 0) (labels_of old list)
    (labels_of old (b ∷ list)) ps (λ p. let one
    = sum_by-cons (λ (x : NodeCell). if cell_eq nat_eq x.cell p then length (record_at old x.node.0).edges
    else 0) b list in omega arith) in
    omega arith

-- a cell that generalizes a tuple is told by its last dimension of Any and its prefix before that
full : (x z t : Cell ℕ) → length x ≡ length z → leq nat_eq x t ≡ true → leq nat_eq z t ≡ true → last_any_of x ≡ None
    → last_any_of z ≡ None → x ≡ z
full [] [] t l a b p q = refl
full [] (f ∷ z) t l a b p q = absurd (omega arith)
full (e ∷ x) [] t l a b p q = absurd (omega arith)
full (e ∷ x) (f ∷ z) [] l a b p q = absurd (true≢false (sym a))
full (e ∷ x) (f ∷ z) (g ∷ t) l a b p q =
    let u = and_parts (entry_leq nat_eq e g) (leq nat_eq x t) a in
    let v = and_parts (entry_leq nat_eq f g) (leq nat_eq z t) b in
    let i = by e (last_any_of x) p in
    let j = by f (last_any_of z) q in
    ap₂ (λ h c. h ∷ c) (i.1.1 ∙ ap (λ y. Some y) (value e f g i.1.0 j.1.0 i.1.1 j.1.1 u.0 v.0) ∙ sym j.1.1)
    (full x z t (omega arith) u.1 v.1 i.0 j.0)
  where
    by : (e : Option ℕ) (o : Option ℕ) → last_any_with e o ≡ None → (o ≡ None) × ((v : ℕ) × (e ≡ Some v))
    by e (Some i) h = cc
    by None None h = cc
    by (Some v) None h = (refl, (v, refl))

    value : (e f g : Option ℕ) (v w : ℕ) → e ≡ Some v → f ≡ Some w → entry_leq nat_eq e g ≡ true
        → entry_leq nat_eq f g ≡ true → v ≡ w
    value None f g v w h k m n = cc
    value (Some a) None g v w h k m n = cc
    value (Some a) (Some b) None v w h k m n = absurd (true≢false (sym m))
    value (Some a) (Some b) (Some c) v w h k m n = sym (some_same h) ∙ eqb-true a c m
        ∙ sym (eqb-true b c n) ∙ some_same k

told : (x z t : Cell ℕ) (i : ℕ) → length x ≡ length z → leq nat_eq x t ≡ true → leq nat_eq z t ≡ true
    → last_any_of x ≡ Some i → last_any_of z ≡ Some i → cell_prefix i x ≡ cell_prefix i z → x ≡ z
told [] z t i l a b p q s = cc
told (e ∷ x) [] t i l a b p q s = absurd (omega arith)
told (e ∷ x) (f ∷ z) [] i l a b p q s = absurd (true≢false (sym a))
told (e ∷ x) (f ∷ z) (g ∷ t) zero l a b p q s =
    let u = and_parts (entry_leq nat_eq e g) (leq nat_eq x t) a in
    let v = and_parts (entry_leq nat_eq f g) (leq nat_eq z t) b in
    let m = by e (last_any_of x) p in
    let n = by f (last_any_of z) q in
    ap₂ (λ h c. h ∷ c) (m.1 ∙ sym n.1) (full x z t (omega arith) u.1 v.1 m.0 n.0)
  where
    by : (e : Option ℕ) (o : Option ℕ) → last_any_with e o ≡ Some 0 → (o ≡ None) × (e ≡ None)
    by e (Some i) h = let bad : suc i ≡ 0 = some_same h in absurd (omega arith)
    by None None h = (refl, refl)
    by (Some v) None h = cc
told (e ∷ x) (f ∷ z) (g ∷ t) (suc i) l a b p q s =
    let u = and_parts (entry_leq nat_eq e g) (leq nat_eq x t) a in
    let v = and_parts (entry_leq nat_eq f g) (leq nat_eq z t) b in
    ap₂ (λ h c. h ∷ c) (cc) (told x z t i (omega arith) u.1 v.1 (by e (last_any_of x) p) (by f (last_any_of z) q) (cc))
  where
    by : (e : Option ℕ) (o : Option ℕ) → last_any_with e o ≡ Some (suc i) → o ≡ Some i
    by e (Some j) h = let same : suc j ≡ suc i = some_same h in ap (λ n. Some n) (omega arith)
    by None None h = let bad : 0 ≡ suc i = some_same h in absurd (omega arith)
    by (Some v) None h = cc

last_within : (c : Cell ℕ) (i : ℕ) → last_any_of c ≡ Some i → i < length c
last_within [] i h = cc
last_within (e ∷ c) i h = by (last_within c) e (last_any_of c) refl h
  where
    by : ((j : ℕ) → last_any_of c ≡ Some j → j < length c) → (e : Option ℕ) (o : Option ℕ) → last_any_of c ≡ o
        → last_any_with e o ≡ Some i → i < suc (length c)
    by more e (Some j) k h = let same : suc j ≡ i = some_same h in let less = more j k in omega arith
    by more None None k h = let same : 0 ≡ i = some_same h in omega arith
    by more (Some v) None k h = cc

module _ (width : ℕ) (old : Tree ℕ) (tuple : Cell ℕ) (d : Deletion) (h : IsTreeOf width old (source_before d))
    (long : length tuple ≡ width) (is : tuple ≡ cell_of d.r.tuple) (list : List NodeCell)
    (below : AreGeneralizing old tuple (length tuple) list) where
  once_by : (xs : List NodeCell)
      → ((j k : ℕ) (b c : NodeCell) → j < k → slice_get xs j ≡ Some b → slice_get xs k ≡ Some c
      → leq nat_eq c.cell b.cell ≡ false) → EachOnce xs
  once_by [] order = tt
  once_by (x ∷ xs) order = (
    λ m. let k = among_get x xs m in
        true≢false (sym (leq_refl nat_equality x.cell) ∙ order 0 (suc k.0) x x (omega arith) refl k.1),
    once_by xs (λ j k b c l e f. order (suc j) (suc k) b c (omega arith) e f),
  )

  once : EachOnce list
  once = once_by list below.order

  at_place : (b : NodeCell) → Among b list → (cell_at old b.node.0 ≡ Some b.cell) × (leq nat_eq b.cell tuple ≡ true)
  at_place b m = let k = among_get b list m in (below.cells k.0 b k.1, below.below k.0 b k.1)

  same_place : (x z : NodeCell) → Among x list → Among z list → x.cell ≡ z.cell → x ≡ z
  same_place x z m n e =
      let number : x.node.0 ≡ z.node.0
      = h.canonical.once x.node.0 z.node.0 x.cell (at_place x m).0 ((at_place z n).0 ∙ ap (λ c. Some c) (sym e)) in
      λ i. record { node = record { 0 = number i }; cell = e i }

  -- the prefixes of the cells with their last Any in a dimension
  abbrev prefix_if : ℕ → Cell ℕ → Option ℕ → Option (Cell ℕ)
  prefix_if n c None = None
  prefix_if n c (Some i) = if nat_eq i n then Some (cell_prefix i c) else None

  prefix_is : (n : ℕ) (c y : Cell ℕ) (o : Option ℕ) → prefix_if n c o ≡ Some y → (o ≡ Some n) × (cell_prefix n c ≡ y)
  prefix_is n c y None e = cc
  prefix_is n c y (Some i) e = go (nat_eq i n) refl e
    where
      go : (b : Bool) → nat_eq i n ≡ b → (if b then Some (cell_prefix i c) else None) ≡ Some y → (Some i ≡ Some n)
          × (cell_prefix n c ≡ y)
      go true k e = let same = eqb-true i n k in
          (ap (λ j. Some j) same, ap (λ j. cell_prefix j c) (sym same) ∙ some_same e)
      go false k e = cc

  abbrev prefix_of : ℕ → NodeCell → Option (Cell ℕ)
  prefix_of n b = prefix_if n b.cell (last_any_of b.cell)

  prefixes_at : ℕ → List (Cell ℕ)
  prefixes_at n = filter_map (prefix_of n) list

  prefixes_once : (n : ℕ) → EachOnce (prefixes_at n)
  unfolding prefixes_at
  prefixes_once n = once_filtered (prefix_of n) list (λ x z y m k e f.
      let a = prefix_is n x.cell y (last_any_of x.cell) e in
      let b = prefix_is n z.cell y (last_any_of z.cell) f in
      let p = at_place x m in
      let q = at_place z k in
      same_place x z m k (told x.cell z.cell tuple n (cell_wide width old (source_before d) h x.node.0 x.cell p.0
      ∙ sym (cell_wide width old (source_before d) h z.node.0 z.cell q.0)) p.1 q.1 a.0 b.0 (a.1 ∙ sym b.1))) once

  abbrev here : ℕ → Cell ℕ → Option ℕ → ℕ
  here n c None = 0
  here n c (Some i) = if nat_eq i n then labels_of old list (cell_prefix i c) else 0

  abbrev before : ℕ → Cell ℕ → Option ℕ → ℕ
  before n c None = 0
  before n c (Some i) = if nat_lt i n then labels_of old list (cell_prefix i c) else 0

  abbrev here_at : ℕ → NodeCell → ℕ
  here_at n b = here n b.cell (last_any_of b.cell)

  abbrev before_at : ℕ → NodeCell → ℕ
  before_at n b = before n b.cell (last_any_of b.cell)

  here_sum : (n : ℕ) (bs : List NodeCell) → sum_by (here_at n) bs ≡ sum_by (labels_of old list)
      (filter_map (prefix_of n) bs)
  here_sum n [] = refl
  here_sum n (b ∷ bs) = by (last_any_of b.cell) refl (here_sum n bs)
    where
      tested : (i : ℕ) (s : Bool) → sum_by (here_at n) bs ≡ sum_by (labels_of old list) (filter_map (prefix_of n) bs)
          → (if s then labels_of old list (cell_prefix i b.cell) else 0)
          + sum_by (here_at n) bs ≡ sum_by (labels_of old list)
          (cons_option (if s then Some (cell_prefix i b.cell) else None) (filter_map (prefix_of n) bs))
      tested i true more = ap (λ m. labels_of old list (cell_prefix i b.cell) + m) more
          ∙ sym (sum_by-cons (labels_of old list) (cell_prefix i b.cell) (filter_map (prefix_of n) bs))
      tested i false more = zero_plus (sum_by (here_at n) bs) ∙ more

      one : (o : Option ℕ) → sum_by (here_at n) bs ≡ sum_by (labels_of old list) (filter_map (prefix_of n) bs)
          → here n b.cell o + sum_by (here_at n) bs ≡ sum_by (labels_of old list) (cons_option (prefix_if n b.cell o)
          (filter_map (prefix_of n) bs))
      one None more = zero_plus (sum_by (here_at n) bs) ∙ more
      one (Some i) more = tested i (nat_eq i n) more

      by : (o : Option ℕ) → last_any_of b.cell ≡ o → sum_by (here_at n) bs ≡ sum_by (labels_of old list)
          (filter_map (prefix_of n) bs) → sum_by (here_at n) (b ∷ bs) ≡ sum_by (labels_of old list)
          (filter_map (prefix_of n) (b ∷ bs))
      by o e more = sum_by-cons (here_at n) b bs ∙ one (last_any_of b.cell) more

  here_within : (n : ℕ) → sum_by (here_at n) list ≤ sum_by (edge_many old) list
  unfolding prefixes_at
  here_within n = let same = here_sum n list in
      let le = labels_within old list (prefixes_at n) (prefixes_once n) in omega arith

  before_within : (n : ℕ) → sum_by (before_at n) list ≤ n * sum_by (edge_many old) list
  before_within zero =
      let none = sum_zero (before_at 0) list (λ b. by b.cell (last_any_of b.cell)) in omega arith
    where
      by : (c : Cell ℕ) (o : Option ℕ) → before 0 c o ≡ 0
      by c None = refl
      by c (Some i) = tested (labels_of old list (cell_prefix i c)) (nat_lt i 0) refl
        where
          tested : (w : ℕ) (s : Bool) → nat_lt i 0 ≡ s → (if s then w else 0) ≡ 0
          tested w true e = let less = ltb-true i 0 e in absurd (omega arith)
          tested w false e = refl
  before_within (suc n) =
      let more = before_within n in
      let now = here_within n in
      let both = sum_two (before_at n) (here_at n) (before_at (suc n)) list (λ b. by b.cell (last_any_of b.cell)) in
      omega arith
    where
      tested : (i w : ℕ) (p q r : Bool) → nat_lt i (suc n) ≡ p → nat_lt i n ≡ q → nat_eq i n ≡ r
          → (if p then w else 0) ≤ (if q then w else 0) + (if r then w else 0)
      tested i w false q r a b c = omega arith
      tested i w true true r a b c = omega arith
      tested i w true false true a b c = omega arith
      tested i w true false false a b c =
          let less = ltb-true i (suc n) a in
          let past = ltb-false i n b in
          let same : i ≡ n = omega arith in
          absurd (true≢false (sym (Rattle.std.proofs.Common.eq-eqb i n same) ∙ c))

      by : (c : Cell ℕ) (o : Option ℕ) → before (suc n) c o ≤ before n c o + here n c o
      by c None = omega arith
      by c (Some i) = tested i (labels_of old list (cell_prefix i c)) (nat_lt i (suc n)) (nat_lt i n)
          (nat_eq i n) refl refl refl

  -- the labels that the plan reads: at most all, in each dimension
  prefixes_within : sum_by (λ (b : NodeCell). prefix_labels old list b.cell (last_any_of b.cell)) list
      ≤ length tuple * sum_by (edge_many old) list
  prefixes_within =
      let le = sum_le (λ (b : NodeCell). prefix_labels old list b.cell (last_any_of b.cell))
      (λ (b : NodeCell). before (length tuple) b.cell (last_any_of b.cell)) list (λ b m.
      by b.cell (last_any_of b.cell) (λ i e. let w = last_within b.cell i e in
      let l = cell_wide width old (source_before d) h b.node.0 b.cell (at_place b m).0 in omega arith)) in
      let all = before_within (length tuple) in
      omega arith
    where
      tested : (i w : ℕ) (s : Bool) → nat_lt i (length tuple) ≡ s → i < length tuple → w ≤ (if s then w else 0)
      tested i w true e l = omega arith
      tested i w false e l = let past = ltb-false i (length tuple) e in absurd (omega arith)

      by : (c : Cell ℕ) (o : Option ℕ) → ((i : ℕ) → o ≡ Some i → i < length tuple)
          → prefix_labels old list c o ≤ before (length tuple) c o
      by c None l = omega arith
      by c (Some i) l = tested i (labels_of old list (cell_prefix i c)) (nat_lt i (length tuple)) refl (l i refl)

  -- the nodes of the list, with their edges, generalize the tuple in the tree of the definitions
  abbrev cell_or : Option (Cell ℕ) → Cell ℕ
  cell_or None = []
  cell_or (Some c) = c

  abbrev node_at : NodeCell → Node ℕ (Cell ℕ)
  node_at b = record_of nat_cmp 0 (rows_before d) b.cell (cell_or (closure (eq_by_cmp nat_cmp) (rows_before d) b.cell))

  same_edges : (b : NodeCell) → Among b list → edge_many old b ≡ length (node_at b).edges
  same_edges b m =
      let at = (at_place b m).0 in
      let x = made width old (source_before d) h b.node.0 b.cell at in
      let u = closed_at width old (source_before d) h b.node.0 b.cell at in
      let form = record_with nat_cmp_total fin.nat_cmp-IsAntisymmetric d.measures
      (rows_before d) b.cell x.0 x.1 u.0 u.1 in
      sym (length-map (record_at old b.node.0).edges (Rattle.cube_defs.specs.Tree.renamed_edge (cell_at old)))
      ∙ ap (λ n. length n.edges) x.2
      ∙ length-map x.0.edges (Rattle.cube_defs.specs.Tree.renamed_edge (λ c. Some c))
      ∙ ap (λ (n : Node ℕ (Cell ℕ)). length n.edges) form
      ∙ ap (λ o. length (record_of nat_cmp 0 (rows_before d) b.cell (cell_or o)).edges) (sym u.1)

  listed : (b : NodeCell) → Among b list → Among (node_at b) (generalizing_nodes nat_cmp (rows_before d) d.r.tuple)
  listed b m =
      let at = at_place b m in
      let u = closed_at width old (source_before d) h b.node.0 b.cell at.0 in
      among_filter (λ n. leq (eq_by_cmp nat_cmp) n.cell (cell_of d.r.tuple)) (node_at b)
      (tree nat_cmp 0 (rows_before d))
      ((among_filter_map (node_of nat_cmp 0 (rows_before d)) (node_at b) (nodes nat_cmp (rows_before d))).1 (
        b.cell,
        (nodes-is nat_cmp_total fin.nat_cmp-IsAntisymmetric width (rows_before d) h.wide b.cell).1
            (node_there width old (source_before d) h b.node.0 b.cell at.0),
        ap (option_map (λ u. record_of nat_cmp 0 (rows_before d) b.cell u)) u.1
            ∙ ap (λ o. Some (record_of nat_cmp 0 (rows_before d) b.cell (cell_or o))) (sym u.1),
      ))
      (covered width old tuple d h long is b.cell at.1)

  sized : (ns : List (Node ℕ (Cell ℕ)))
      → sum_by (λ n. 1 + length n.edges) ns ≡ length ns + sum (map (λ n. length n.edges) ns)
  sized [] = refl
  sized (n ∷ ns) =
      let all = sum_by-cons (λ (n : Node ℕ (Cell ℕ)). 1 + length n.edges) n ns in
      let more = sized ns in
      let two = sum_by-cons (λ (m : ℕ). m) (length n.edges) (map (λ n. length n.edges) ns) in
      omega arith

  plus_one : (f : NodeCell → ℕ) (bs : List NodeCell) → sum_by (λ b. 1 + f b) bs ≡ length bs + sum_by f bs
  plus_one f [] = refl
  plus_one f (b ∷ bs) = let all = sum_by-cons (λ b. 1 + f b) b bs in let more = plus_one f bs in
      let one = sum_by-cons f b bs in omega arith

  list_within : length list + sum_by (edge_many old) list ≤ generalizing_size nat_cmp (rows_before d) d.r.tuple
  list_within =
      let apart = once_map node_at list
      (λ x z m k e. same_place x z m k (ap (λ (n : Node ℕ (Cell ℕ)). n.cell) e)) once in
      let le = sum_within (λ (n : Node ℕ (Cell ℕ)). 1 + length n.edges) (map node_at list)
      (generalizing_nodes nat_cmp (rows_before d) d.r.tuple) apart (λ n m. let b = among_map node_at n list m in
      rw b.2 (listed b.0 b.1)) in
      let target_after_row = sum_by-map (λ (n : Node ℕ (Cell ℕ)). 1 + length n.edges) node_at list in
      let alike = sum_alike (λ (b : NodeCell). 1 + edge_many old b) (λ (b : NodeCell). 1 + length (node_at b).edges)
      list (λ b m. ap (λ n. 1 + n) (same_edges b m)) in
      let one = plus_one (edge_many old) list in
      let all = sized (generalizing_nodes nat_cmp (rows_before d) d.r.tuple) in
      omega arith

  settled : rewriting_cost (length tuple) old list ≡ (5 + 2 * length tuple) * length list
      + 3 * sum_by (edge_many old) list
  settled = by (5 + 2 * length tuple) list
    where
      by : (n : ℕ) (bs : List NodeCell) → sum_by (λ b. n + 3 * length (record_at old b.node.0).edges) bs ≡ n * length bs
          + 3 * sum_by (edge_many old) bs
      by n [] = omega arith
      by n (b ∷ bs) =
          let all = sum_by-cons (λ (b : NodeCell). n + 3 * length (record_at old b.node.0).edges) b bs in
          let more = by n bs in
          let one = sum_by-cons (edge_many old) b bs in
          let next = mul-suc n (length bs) in
          omega arith

  planned_steps : planning_cost (length tuple) old list list
      ≤ (4 * length tuple + 7) * (length list + length tuple * sum_by (edge_many old) list)
  planned_steps =
      let same = sum_scaled (4 * length tuple + 7)
      (λ (b : NodeCell). prefix_labels old list b.cell (last_any_of b.cell)) list in
      let fronts = prefixes_within in
      let le = times_mono (4 * length tuple + 7)
      (length list + sum_by (λ (b : NodeCell). prefix_labels old list b.cell (last_any_of b.cell)) list)
      (length list + length tuple * sum_by (edge_many old) list) (omega arith) in
      rw same le

  -- a count of steps by numbers alone
  bound : (n m e : ℕ) → 1 + n * (2 * m) + m + (2 * n + 3 + (4 * n + 7) * (m + n * e)) + ((5 + 2 * n) * m + 3 * e)
      ≤ 32 * ((n + 1) * (n + 1)) * (m + e + 1)
  bound n m e = grind arith

  more_above : (k s r : ℕ) → 32 * k * (s + 1) ≤ 256 * k * (s + r + 1)
  more_above k s r = grind arith

  pub all_steps : (s0 s1 s2 s3 s4 : ℕ) → s1 ≤ s0 + (1 + length tuple * (2 * length list)) → s2 ≤ s1 + length list
      → s3 ≤ s2 + (2 * length tuple + 3 + planning_cost (length tuple) old list list)
      → s4 ≤ s3 + rewriting_cost (length tuple) old list
      → s4 ≤ s0 + 256 * (length tuple + 1) ^ 2 * (affected_size nat_cmp (rows_before d) (rows_after d) d.r.tuple + 1)
  all_steps s0 s1 s2 s3 s4 a b c e =
      let m = length list in
      let es = sum_by (edge_many old) list in
      let plan = planned_steps in
      let last = settled in
      let sum_is : 1 + length tuple * (2 * length list) + length list
      + (2 * length tuple + 3 + (4 * length tuple + 7) * (length list + length tuple * sum_by (edge_many old) list))
      + ((5 + 2 * length tuple) * length list + 3 * sum_by (edge_many old) list)
      ≤ 32 * ((length tuple + 1) * (length tuple + 1)) * (length list + sum_by (edge_many old) list + 1) =
      bound (length tuple) (length list) (sum_by (edge_many old) list) in
      let grown : 32 * ((length tuple + 1) * (length tuple + 1)) * (length list + sum_by (edge_many old) list + 1)
      ≤ 32 * ((length tuple + 1) * (length tuple + 1)) * (generalizing_size nat_cmp (rows_before d) d.r.tuple + 1) =
      times_mono (32 * ((length tuple + 1) * (length tuple + 1))) (length list + sum_by (edge_many old) list + 1)
      (generalizing_size nat_cmp (rows_before d) d.r.tuple + 1) (let w = list_within in omega arith) in
      let up : 32 * ((length tuple + 1) * (length tuple + 1)) * (generalizing_size nat_cmp (rows_before d) d.r.tuple
      + 1) ≤ 256 * ((length tuple + 1) * (length tuple + 1)) * (affected_size nat_cmp (rows_before d)
      (rows_after d) d.r.tuple + 1) =
      more_above ((length tuple + 1) * (length tuple + 1)) (generalizing_size nat_cmp (rows_before d) d.r.tuple)
      (generalizing_size nat_cmp (rows_after d) d.r.tuple) in
      rw (square (length tuple + 1)) (omega (arith, a, b, c, e, plan, last, sum_is, grown, up))
