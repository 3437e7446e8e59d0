-- Where a walk goes on from a node, and where it ends.
use Rattle.std.proofs.Common.{◌≡◌, ℕ, zero, suc, ◌+◌, ◌<◌, ◌≤◌, true, false, Option, Some, None, List, [], ◌∷◌, length, drop, get_or, set}
use Rattle.std.proofs.Common.{slice_get, flat_map, refl, sym, ap, subst, ◌∙◌, arith, true≢false}
use Rattle.std.specs.Prelude.{IsSome, is_some, sum_by}
use Rattle.std.proofs.lemmas.Bool.{cond-true, cond-false}
use Rattle.std.proofs.lemmas.List.{length-set, set-set}
use Rattle.std.proofs.Math.Seq.{drop-cons}
use Rattle.std.specs.Cmp.{nat_cmp_total}
use Rattle.std.specs.FinMap as numbers
use Rattle.std.specs.Option.{option_map}
use Rattle.std.specs.Ordering.{nat_cmp, eq_by_cmp}
use Rattle.cube_defs.specs.Cell.{Cell, depth, cell_prefix, depth_with}
use Rattle.cube_defs.specs.Tree.{Tree, cell_at}
use Rattle.cube_defs.specs.Answers.{Box}
use Rattle.cube_laws.proofs.CallerLemmas.{depth-le, one_deeper-le, closure_length}
use Rattle.qc_arena.specs.RecordReaders.{record_at}
use Rattle.tree_laws.specs.Walk.{closure_prefix, target_at, walk_on}
use Rattle.tree_laws.proofs.CallerLemmas.{any_after, cell_prefix-beyond, shallower, some_same, there, walk_step}
use Rattle.tree_search.specs.Found.{IsTreeOf, IsTree, TreeRows, closure_in}
use Rattle.tree_search.proofs.CallerLemmas.{cell_of, there_is}
use Rattle.range_query.specs.Met.{is_covered}
use Rattle.range_query.specs.Walk.{StandsAtNode, cost, entered, entry_cost, met}
use Rattle.range_query.proofs.Asked.{asked}

-- an entry put in its own place
pub set-own : {X : Type 0} (xs : List X) (i : ℕ) (x : X) → slice_get xs i ≡ Some x → set xs i x ≡ xs
set-own [] i x h = refl
set-own (y ∷ xs) zero x h = ap (λ z. z ∷ xs) (sym (some_same h))
set-own (y ∷ xs) (suc i) x h = ap (λ zs. y ∷ zs) (set-own xs i x h)

module _ {A : Type 0} where
  pub set-get : (p : Cell A) (i : ℕ) (e : Option A) → i < length p → slice_get (set p i e) i ≡ Some e
  set-get [] i e l = absurd (omega arith)
  set-get (f ∷ p) zero e l = refl
  set-get (f ∷ p) (suc i) e l = set-get p i e (omega arith)

  pub cell_prefix-set : (p : Cell A) (i : ℕ) (e : Option A) → cell_prefix i (set p i e) ≡ cell_prefix i p
  cell_prefix-set [] i e = refl
  cell_prefix-set (f ∷ p) zero e = refl
  cell_prefix-set (f ∷ p) (suc i) e = ap (λ x. f ∷ x) (cell_prefix-set p i e)

  pub depth-set : (p : Cell A) (i : ℕ) (e : Option A) → depth p ≤ i → depth (set p i e) ≤ suc i
  depth-set [] i e h = omega arith
  depth-set (f ∷ p) zero e h = one_deeper-le e (depth p) 0 (shallower_zero f (depth p) h)
    where
      shallower_zero : (f : Option A) (n : ℕ) → depth_with f n ≤ 0 → n ≤ 0
      shallower_zero None zero h = omega arith
      shallower_zero None (suc n) h = absurd (omega arith)
      shallower_zero (Some v) n h = absurd (omega arith)
  depth-set (f ∷ p) (suc i) e h
      = one_deeper-le f (depth (set p i e)) (suc i) (depth-set p i e (shallower f (depth p) i h))

-- the same entry again
pub back : {dims : ℕ} {tree : Tree ℕ} {node : ℕ} {p : Cell ℕ} {i : ℕ} (e : Option ℕ) → StandsAtNode dims tree node p i
    → i < dims → set (set p i e) i None ≡ p
back {p = p} {i = i} e s l = set-set p i e None ∙ set-own p i None (any_after p i s.behind (omega (arith, s.long)))

-- with the entry e in dimension i, the walk goes on at this node, or no row is left
abbrev pub LeadsTo : ℕ → Tree ℕ → Cell ℕ → ℕ → Option ℕ → Option ℕ → Type 0
LeadsTo dims tree p i e o = (source : TreeRows) → IsTreeOf dims tree source → option_map (cell_at tree) o
    ≡ option_map (λ c. Some c) (closure_prefix (eq_by_cmp nat_cmp) source.rows (set p i e) (suc i))

module _ (dims : ℕ) (tree : Tree ℕ) (node : ℕ) (p : Cell ℕ) (i : ℕ) (s : StandsAtNode dims tree node p i) where
  module _ (source : TreeRows) (h : IsTreeOf dims tree source) where
    own : cell_prefix i p ≡ p
    own = cell_prefix-beyond i p s.behind

    pub stands_closure : (u : Cell ℕ) × (closure_in source p ≡ Some u) × (cell_at tree node ≡ Some (cell_prefix i u))
    stands_closure = go (closure_in source p) refl
      where
        prefix_is : cell_at tree node ≡ option_map (cell_prefix i) (closure_in source p)
        prefix_is = s.front source h ∙ ap (λ c. option_map (cell_prefix i) (closure_in source c)) own

        go : (o : Option (Cell ℕ)) → closure_in source p ≡ o → (u : Cell ℕ) × (closure_in source p ≡ Some u)
            × (cell_at tree node ≡ Some (cell_prefix i u))
        go None e = let none : cell_at tree node ≡ None = prefix_is ∙ ap (option_map (cell_prefix i)) e in
            absurd (true≢false (sym s.there ∙ ap is_some none))
        go (Some u) e = (u, e, prefix_is ∙ ap (option_map (cell_prefix i)) e)

    pub stands_covered : is_covered (eq_by_cmp nat_cmp) source.rows p ≡ true
    stands_covered = ap is_some stands_closure.1

    -- at the end
    pub stands_whole : dims ≤ i → cell_at tree node ≡ closure_in source p
    stands_whole l =
        let u : (u : Cell ℕ) × (closure_in source p ≡ Some u) × (cell_at tree node ≡ Some (cell_prefix i u))
        = stands_closure in
        let wide_u : length u.0 ≡ dims = closure_length (eq_by_cmp nat_cmp) dims p u.0 source.rows h.wide u.1 in
        u.2 ∙ ap (λ x. Some x) (cell_prefix-beyond i u.0 (omega (arith, depth-le u.0))) ∙ sym u.1

    module _ (e : Option ℕ) (l : i < dims) where
      abbrev q : Cell ℕ
      q = set p i e

      kept : cell_prefix (suc i) q ≡ q
      kept = cell_prefix-beyond (suc i) q (depth-set p i e s.behind)

      stepped : option_map (cell_at tree) (walk_on (eq_by_cmp nat_cmp) node (record_at tree node) i e)
          ≡ option_map (λ c. Some c) (closure_prefix (eq_by_cmp nat_cmp) source.rows q (suc i))
      stepped =
          let u : (u : Cell ℕ) × (closure_in source p ≡ Some u) × (cell_at tree node ≡ Some (cell_prefix i u))
          = stands_closure in
          let at : Some (record_at tree node).cell ≡ closure_prefix (eq_by_cmp nat_cmp) source.rows q i
          = ap (λ c. Some c) (cell_of tree node (cell_prefix i u.0) u.2) ∙ sym u.2 ∙ s.front source h
          ∙ ap (λ c. option_map (cell_prefix i) (closure_in source c)) (sym (cell_prefix-set p i e)) in
          walk_step nat_cmp_total numbers.nat_cmp-IsAntisymmetric dims source.measures source.rows h.wide tree
          h.canonical node (record_at tree node) q i e
          (length-set p i e ∙ s.long) (set-get p i e (omega (arith, s.long))) l
          (there_is tree node (there tree node (cell_prefix i u.0) u.2)) at

      edge_led : (v : ℕ) → option_map (cell_at tree) (target_at (eq_by_cmp nat_cmp) i v (record_at tree node).edges)
          ≡ option_map (cell_at tree) (walk_on (eq_by_cmp nat_cmp) node (record_at tree node) i (Some v))
      edge_led v =
          let u : (u : Cell ℕ) × (closure_in source p ≡ Some u) × (cell_at tree node ≡ Some (cell_prefix i u))
          = stands_closure in
          asked source.measures source.rows tree h.canonical node (record_at tree node)
          (there_is tree node (there tree node (cell_prefix i u.0) u.2)) i v

      module _ (o : Option ℕ) (to : LeadsTo dims tree p i e o) where
        pub next_none : o ≡ None → is_covered (eq_by_cmp nat_cmp) source.rows q ≡ false
        next_none w = go (closure_in source (cell_prefix (suc i) q)) refl
          where
            go : (o : Option (Cell ℕ)) → closure_in source (cell_prefix (suc i) q) ≡ o
                → is_covered (eq_by_cmp nat_cmp) source.rows q ≡ false
            go None f = ap (λ c. is_some (closure_in source c)) (sym kept) ∙ ap is_some f
            go (Some u) f = let bad : None ≡ Some (Some (cell_prefix (suc i) u)) = ap (option_map (cell_at tree)) (sym w)
                ∙ to source h ∙ ap (λ o. option_map (λ c. Some c) (option_map (cell_prefix (suc i)) o)) f in cc

        pub next_some : (j : ℕ) → o ≡ Some j
            → (cell_at tree j ≡ closure_prefix (eq_by_cmp nat_cmp) source.rows q (suc i)) × IsSome (cell_at tree j)
            × (is_covered (eq_by_cmp nat_cmp) source.rows q ≡ true)
        next_some j w = go (closure_in source (cell_prefix (suc i) q)) refl
          where
            by : Some (cell_at tree j) ≡ option_map (λ c. Some c)
                (closure_prefix (eq_by_cmp nat_cmp) source.rows q (suc i))
            by = ap (option_map (cell_at tree)) (sym w) ∙ to source h

            go : (o : Option (Cell ℕ)) → closure_in source (cell_prefix (suc i) q) ≡ o
                → (cell_at tree j ≡ closure_prefix (eq_by_cmp nat_cmp) source.rows q (suc i)) × IsSome (cell_at tree j)
                × (is_covered (eq_by_cmp nat_cmp) source.rows q ≡ true)
            go None f = let bad : Some (cell_at tree j) ≡ None
                = by ∙ ap (λ o. option_map (λ c. Some c) (option_map (cell_prefix (suc i)) o)) f in cc
            go (Some u) f =
                let is : closure_prefix (eq_by_cmp nat_cmp) source.rows q (suc i) ≡ Some (cell_prefix (suc i) u)
                = ap (option_map (cell_prefix (suc i))) f in
                let at : cell_at tree j ≡ Some (cell_prefix (suc i) u)
                = some_same (by ∙ ap (option_map (λ c. Some c)) is) in (
                  at ∙ sym is,
                  subst (λ o. IsSome o) (sym at) refl,
                  ap (λ c. is_some (closure_in source c)) (sym kept)
                      ∙ ap is_some f,
                )

  -- the readers of a node tell where an entry leads
  pub leads_walk : (e : Option ℕ) → i < dims
      → LeadsTo dims tree p i e (walk_on (eq_by_cmp nat_cmp) node (record_at tree node) i e)
  leads_walk e l = λ source h. stepped source h e l

  pub leads_edge : (v : ℕ) → i < dims
      → LeadsTo dims tree p i (Some v) (target_at (eq_by_cmp nat_cmp) i v (record_at tree node).edges)
  leads_edge v l = λ source h. edge_led source h (Some v) l v ∙ stepped source h (Some v) l

  -- the walk stands at the next node
  stands_next : (t : IsTree dims tree) (e : Option ℕ) (l : i < dims) (o : Option ℕ) → LeadsTo dims tree p i e o → (j : ℕ)
      → o ≡ Some j → StandsAtNode dims tree j (set p i e) (suc i)
  stands_next t e l o to j w = record {
    long = length-set p i e ∙ s.long;
    within = omega arith;
    behind = depth-set p i e s.behind;
    there = (next_some t.0 t.1 e l o to j w).1;
    front = λ source h. (next_some source h e l o to j w).0;
  }

  pub stands_after : (t : IsTree dims tree) (e : Option ℕ) (l : i < dims) (o : Option ℕ) → LeadsTo dims tree p i e o
      → (j : ℕ) → o ≡ Some j → StandsAtNode dims tree j (set p i e) (i + 1)
  stands_after t e l o to j w =
      let next : suc i ≡ i + 1 = omega arith in
      subst (λ k. StandsAtNode dims tree j (set p i e) k) next (stands_next t e l o to j w)

  -- with Any, whether the walk stays or goes to the forced child
  pub stands_any : (t : IsTree dims tree) (l : i < dims) (j : ℕ)
      → walk_on (eq_by_cmp nat_cmp) node (record_at tree node) i None ≡ Some j → StandsAtNode dims tree j p (i + 1)
  stands_any t l j w = subst (λ c. StandsAtNode dims tree j c (i + 1))
      (set-own p i None (any_after p i s.behind (omega (arith, s.long))))
      (stands_after t None l (walk_on (eq_by_cmp nat_cmp) node (record_at tree node) i None) (leads_walk None l) j w)

  module _ (source : TreeRows) (h : IsTreeOf dims tree source) (box : Box ℕ) where
    -- one entry: nothing where no row is left with it, and else what is met from there
    module _ (e : Option ℕ) (l : i < dims) (o : Option ℕ) (to : LeadsTo dims tree p i e o) where
      pub entered_none : o ≡ None → entered source box p i e ≡ []
      entered_none w = cond-false _ _ _ (next_none source h e l o to w)

      module _ (j : ℕ) (w : o ≡ Some j) where
        pub entered_some : entered source box p i e ≡ met source box (set p i e) (i + 1)
        entered_some = cond-true _ _ _ (next_some source h e l o to j w).2
            ∙ (let next : suc i ≡ i + 1 = omega arith in ap (met source box (set p i e)) next)

        pub entry_cost_some : (each : ℕ)
            → entry_cost each source box p i e ≡ each + cost source box (set p i e) (i + 1)
        entry_cost_some each = ap (λ n. each + n) (cond-true _ _ _ (next_some source h e l o to j w).2
            ∙ (let next : suc i ≡ i + 1 = omega arith in ap (cost source box (set p i e)) next))

    -- one dimension of a box
    module _ (l : i < length box) where
      prefix_of : drop i box ≡ get_or box i None ∷ drop (i + 1) box
      prefix_of = let next : suc i ≡ i + 1 = omega arith in
          drop-cons box i None l ∙ ap (λ n. get_or box i None ∷ drop n box) next

      module _ (vs : List ℕ) (is : get_or box i None ≡ Some vs) where
        pub codes_met : met source (drop i box) p i ≡ flat_map (λ v. entered source (drop (i + 1) box) p i (Some v)) vs
        codes_met = ap (λ b. met source b p i) (prefix_of ∙ ap (λ a. a ∷ drop (i + 1) box) is)

        pub codes_cost : cost source (drop i box) p i ≡ 1
            + sum_by (λ v. entry_cost 1 source (drop (i + 1) box) p i (Some v)) vs
        codes_cost = ap (λ b. cost source b p i) (prefix_of ∙ ap (λ a. a ∷ drop (i + 1) box) is)
