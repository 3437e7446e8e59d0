-- What is seen and met once a class more is visited.
use Rattle.std.proofs.Common.{◌≡◌, ◌↔◌, ◌⊎◌, ℕ, zero, suc, ◌+◌, ◌<◌, ◌≤◌, Bool, true, false, ◌&&◌, ◌||◌, cond, nat_eq, eqb-true, eq-eqb}
use Rattle.std.proofs.Common.{if◌then◌else◌, Some, List, [], ◌∷◌, ◌++◌, map, length, length-append, take, get_or, refl, sym, ap, ap₂, ◌∙◌}
use Rattle.std.proofs.Common.{subst, arith, true≢false, inl, inr}
use Rattle.std.specs.Prelude.{IsSome}
use Rattle.std.specs.Cmp.{nat_cmp_total}
use Rattle.std.specs.FinMap as numbers
use Rattle.std.specs.List.{AllByRecursion, IsDistinct, list_any}
use Rattle.std.specs.Ordering.{nat_cmp, eq_by_cmp}
use Rattle.std.proofs.lemmas.Bool.{and_parts}
use Rattle.std.proofs.lemmas.List.{take-append-le, take_more}
use Rattle.cube_defs.specs.Cell.{Cell, leq}
use Rattle.cube_defs.specs.Rows.{agg, is_class}
use Rattle.cube_defs.specs.Tree.{Tree, classes}
use Rattle.cube_defs.specs.Answers as answers
use Rattle.cube_laws.specs.Lists.{Among}
use Rattle.cube_laws.specs.Parts.{value_count}
use Rattle.cube_laws.proofs.CallerLemmas.{leq_refl, leq_trans, classes-is, among_append, take_all, code_equality}
use Rattle.indexmap.specs.IndexSet.{insert_all, insert_key}
use Rattle.qc_arena.specs.RecordReaders.{record_at}
use Rattle.tree_search.specs.Found.{IsTreeOf, TreeRows}
use Rattle.tree_search.proofs.CallerLemmas.{cell_there}
use Rattle.iceberg_query.specs.declared.ask.Ask.{Ask}
use Rattle.iceberg_query.specs.Asked.{ask_in}
use Rattle.iceberg_query.proofs.CallerLemmas.{wanted_is}
use Rattle.quotient_lattice.specs.Neighbours.{is_parent, is_rolled, qualifies}
use Rattle.quotient_lattice.specs.declared.node_cells.NodeCell.{NodeCell}
use Rattle.quotient_lattice.specs.NodeCells.{IsPassing, number_of}
use Rattle.quotient_lattice.specs.Visits.{AreMet, AreQueued, IsVisited, wants}
use Rattle.quotient_lattice.proofs.InOrder.{parent_above}
use Rattle.quotient_lattice.proofs.PickedNodes.{distinct_push, one_among as one_picked}
use Rattle.quotient_lattice.proofs.Rolled.{reached}
use Rattle.lower_bounds.proofs.CallerLemmas.{class_there, own_closure}
use Rattle.quotient_lattice.proofs.NodesDecoded.{class_node}

pub nothing_more : (xs : List ℕ) (k : ℕ) (b : Bool) → b ≡ false → xs ≡ xs ++ cond b (k ∷ []) []
nothing_more xs k true e = absurd (true≢false e)
nothing_more xs k false e = none xs
  where
    none : (ys : List ℕ) → ys ≡ ys ++ []
    none [] = refl
    none (y ∷ ys) = ap (λ zs. y ∷ zs) (none ys)

-- numbers put in where they are not there yet
one_prefix : (ks : List ℕ) (k : ℕ) → (more : List ℕ) × (insert_key nat_eq ks k ≡ ks ++ more)
one_prefix ks k = go (list_any (nat_eq k) ks)
  where
    go : (b : Bool) → (more : List ℕ) × ((if b then ks else ks ++ k ∷ []) ≡ ks ++ more)
    go true = ([], nothing_more ks k false refl)
    go false = (k ∷ [], refl)

any_among : (k : ℕ) (ks : List ℕ) → list_any (nat_eq k) ks ≡ true → Among k ks
any_among k [] e = absurd (true≢false (sym e))
any_among k (x ∷ ks) e = go (nat_eq k x) refl e (any_among k ks)
  where
    go : (b : Bool) → nat_eq k x ≡ b → (b || list_any (nat_eq k) ks) ≡ true
        → (list_any (nat_eq k) ks ≡ true → Among k ks) → Among k (x ∷ ks)
    go true q e more = inl (eqb-true k x q)
    go false q e more = inr (more e)

one_among : (ks : List ℕ) (k j : ℕ) → Among j (insert_key nat_eq ks k) ↔ (Among j ks ⊎ (j ≡ k))
one_among ks k j = go (list_any (nat_eq k) ks) refl
  where
    go : (b : Bool) → list_any (nat_eq k) ks ≡ b → Among j (if b then ks else ks ++ k ∷ []) ↔ (Among j ks ⊎ (j ≡ k))
    go true e = (λ m. inl m, λ s. elim s [ inl m ↦ m | inr q ↦ subst (λ i. Among i ks) (sym q) (any_among k ks e) ])
    go false e = (
      λ m. elim ((among_append j ks (k ∷ [])).0 m) [
        | inl a ↦ inl a
        | inr b ↦ elim b [ inl q ↦ inr q | inr n ↦ absurd n ]
      ],
      λ s. (among_append j ks (k ∷ [])).1 (elim s [ inl m ↦ inl m | inr q ↦ inr (inl q) ]),
    )

pub all_prefix : (ks xs : List ℕ) → (more : List ℕ) × (insert_all nat_eq ks xs ≡ ks ++ more)
all_prefix ks [] = ([], nothing_more ks 0 false refl)
all_prefix ks (x ∷ xs) =
    let a = one_prefix ks x in
    let b : (more : List ℕ) × (insert_all nat_eq (insert_key nat_eq ks x) xs ≡ insert_key nat_eq ks x ++ more)
    = all_prefix (insert_key nat_eq ks x) xs in
    (a.0 ++ b.0, b.1 ∙ ap (λ ys. ys ++ b.0) a.1 ∙ joined ks a.0 b.0)
  where
    joined : (xs ys zs : List ℕ) → (xs ++ ys) ++ zs ≡ xs ++ (ys ++ zs)
    joined [] ys zs = refl
    joined (x ∷ xs) ys zs = ap (λ ws. x ∷ ws) (joined xs ys zs)

pub inserted_among : (ks xs : List ℕ) (j : ℕ) → Among j (insert_all nat_eq ks xs) ↔ (Among j ks ⊎ Among j xs)
inserted_among ks [] j = (λ m. inl m, λ s. elim s [ inl m ↦ m | inr n ↦ absurd n ])
inserted_among ks (x ∷ xs) j =
    let a = one_among ks x j in
    let b : Among j (insert_all nat_eq (insert_key nat_eq ks x) xs) ↔ (Among j (insert_key nat_eq ks x) ⊎ Among j xs)
    = inserted_among (insert_key nat_eq ks x) xs j in (
      λ m. elim (b.0 m) [ inl p ↦ elim (a.0 p) [ inl q ↦ inl q | inr e ↦ inr (inl e) ] | inr q ↦ inr (inr q) ],
      λ s. b.1 (elim s [ inl p ↦ inl (a.1 (inl p)) | inr q ↦ elim q [ inl e ↦ inl (a.1 (inr e)) | inr m ↦ inr m ] ]),
    )

-- a class more is visited
module _ (dims : ℕ) (tree : Tree ℕ) (source : TreeRows) (h : IsTreeOf dims tree source) (ask : Ask) (start : ℕ)
    (seen after : List ℕ) (i x : ℕ) (l : i < length seen) (at : get_or seen i 0 ≡ x) (met more : List ℕ)
    (was : AreQueued tree source ask start seen i) (v : IsVisited tree source ask x seen after met more) where
  abbrev cell : ℕ → Cell ℕ
  cell k = (record_at tree k).cell

  front : (rest : List ℕ) × (after ≡ seen ++ rest)
  front = let f = all_prefix seen v.found in (f.0, v.seen_more ∙ f.1)

  pub visited_take : take (i + 1) after ≡ take i seen ++ x ∷ []
  visited_take = ap (take (i + 1)) front.1 ∙ take-append-le (i + 1) seen front.0 (omega arith) ∙ take_more seen i 0 l
      ∙ ap (λ y. take i seen ++ y ∷ []) at

  still : (k : ℕ) → Among k seen → Among k after
  still k m = subst (Among k) (sym v.seen_more) ((inserted_among seen v.found k).1 (inl m))

  pub visited_seen : AreQueued tree source ask start after (i + 1)
  visited_seen = record { above = above; on = on }
    where
      x_seen : Among x seen
      x_seen = subst (λ y. Among y seen) at (there seen i l)
        where
          there : (xs : List ℕ) (i : ℕ) → i < length xs → Among (get_or xs i 0) xs
          there [] i l = absurd (omega arith)
          there (y ∷ xs) zero l = inl refl
          there (y ∷ xs) (suc i) l = inr (there xs i (omega arith))

      above : (k : ℕ) → Among k after → IsPassing tree source (λ d. leq (eq_by_cmp nat_cmp) (cell start) d) k
      above k m = elim ((inserted_among seen v.found k).0 (subst (Among k) v.seen_more m)) [
        | inl a ↦ was.above k a
        | inr b ↦
            let p = ((v.each k).0 b).1 in
            let up = parent_above dims source.rows h.wide (cell x) (cell k) p.passes in
            record {
              there = p.there;
              class = p.class;
              passes
                  = leq_trans code_equality (cell start) (cell x) (cell k) (was.above x x_seen).passes up.0;
            }
      ]

      on : (k : ℕ) → Among k (take (i + 1) after) → wants tree ask k ≡ false → (j : ℕ)
          → IsPassing tree source (λ d. is_parent nat_cmp source.rows (cell k) d) j → Among j after
      on k m w j p = elim ((among_append k (take i seen) (x ∷ [])).0 (subst (Among k) visited_take m)) [
        | inl a ↦ still j (was.on k a w j p)
        | inr b ↦ elim b [
          | inl e ↦
              subst (Among j) (sym v.seen_more)
              ((inserted_among seen v.found j).1
              (inr ((v.each j).1 (
                ap (wants tree ask) (sym e) ∙ w,
                subst (λ y. IsPassing tree source (λ d. is_parent nat_cmp source.rows (cell y) d) j) e p,
              ))))
          | inr n ↦ absurd n
        ]
      ]

  -- what is met
  module _ (apart : IsDistinct nat_eq seen) (each : (k : ℕ) → Among k met
      ↔ (Among k (take i seen) × (wants tree ask k ≡ true))) where
    fresh : (xs : List ℕ) (i : ℕ) → IsDistinct nat_eq xs → i < length xs → Among (get_or xs i 0) (take i xs) → ⊥
    unfolding IsDistinct
    fresh [] i d l m = absurd (omega arith)
    fresh (y ∷ xs) zero d l m = absurd m
    fresh (y ∷ xs) (suc i) d l m
        = elim m [ inl e ↦ first xs i d.0 (omega arith) e | inr n ↦ fresh xs i d.1 (omega arith) n ]
      where
        first : (xs : List ℕ) (i : ℕ) → AllByRecursion (λ z. nat_eq y z ≡ false) xs → i < length xs
            → get_or xs i 0 ≡ y → ⊥
        first [] i a l e = absurd (omega arith)
        first (z ∷ xs) zero a l e = true≢false (sym (eq-eqb y z (sym e)) ∙ a.0)
        first (z ∷ xs) (suc i) a l e = first xs i a.1 (omega arith) e

    not_met : Among x met → ⊥
    not_met m = fresh seen i apart l (subst (λ y. Among y (take i seen)) (sym at) ((each x).0 m).0)

    pub visited_met : (k : ℕ) → Among k more ↔ (Among k (take (i + 1) after) × (wants tree ask k ≡ true))
    visited_met k = (
      λ m. to (subst (Among k) v.met_more m),
      λ p. subst (Among k) (sym v.met_more) (from (subst (Among k) visited_take p.0) p.1),
    )
      where
        to : Among k (met ++ cond (wants tree ask x) (x ∷ []) []) → Among k (take (i + 1) after)
            × (wants tree ask k ≡ true)
        to m = elim ((among_append k met (cond (wants tree ask x) (x ∷ []) [])).0 m) [
          | inl a ↦ let p = (each k).0 a in
              (subst (Among k) (sym visited_take) ((among_append k (take i seen) (x ∷ [])).1 (inl p.0)), p.1)
          | inr b ↦ let q = one_picked (wants tree ask x) x k b in (
            subst (Among k) (sym visited_take) ((among_append k (take i seen) (x ∷ [])).1 (inr (inl q.1))),
            ap (wants tree ask) q.1 ∙ q.0,
          )
        ]

        from : Among k (take i seen ++ x ∷ []) → wants tree ask k ≡ true
            → Among k (met ++ cond (wants tree ask x) (x ∷ []) [])
        from m w = (among_append k met (cond (wants tree ask x) (x ∷ []) [])).1
            (elim ((among_append k (take i seen) (x ∷ [])).0 m) [
              | inl a ↦ inl ((each k).1 (a, w))
              | inr b ↦ elim b [
                | inl e
                    ↦ inr (subst (λ b. Among k (cond b (x ∷ []) [])) (sym (ap (wants tree ask) (sym e) ∙ w)) (inl e))
                | inr n ↦ absurd n
              ]
            ])

    pub visited_once : IsDistinct nat_eq met → IsDistinct nat_eq more
    visited_once d = subst (IsDistinct nat_eq) (sym v.met_more) (go (wants tree ask x))
      where
        go : (b : Bool) → IsDistinct nat_eq (met ++ cond b (x ∷ []) [])
        go true = distinct_push met x d not_met
        go false = subst (IsDistinct nat_eq) (nothing_more met x false refl) d

-- numbers put in stay apart
pub all_once : (ks xs : List ℕ) → IsDistinct nat_eq ks → IsDistinct nat_eq (insert_all nat_eq ks xs)
all_once ks [] d = d
all_once ks (x ∷ xs) d = all_once (insert_key nat_eq ks x) xs (go (list_any (nat_eq x) ks) refl)
  where
    lacks : (ks : List ℕ) → list_any (nat_eq x) ks ≡ false → Among x ks → ⊥
    lacks [] e m = absurd m
    lacks (y ∷ ks) e m = elim m [
      | inl s ↦ true≢false (sym (ap (λ b. b || list_any (nat_eq x) ks) (eq-eqb x y s)) ∙ e)
      | inr n ↦ lacks ks (right (nat_eq x y) (list_any (nat_eq x) ks) e) n
    ]
      where
        right : (a b : Bool) → (a || b) ≡ false → b ≡ false
        right true b e = absurd (true≢false e)
        right false b e = e

    go : (b : Bool) → list_any (nat_eq x) ks ≡ b → IsDistinct nat_eq (if b then ks else ks ++ x ∷ [])
    go true e = d
    go false e = distinct_push ks x d (lacks ks e)

-- once all is visited
module _ (dims : ℕ) (tree : Tree ℕ) (source : TreeRows) (h : IsTreeOf dims tree source) (ask : Ask) (start : ℕ) where
  abbrev cell_at_number : ℕ → Cell ℕ
  cell_at_number k = (record_at tree k).cell

  abbrev u : Cell ℕ
  u = (record_at tree start).cell

  in_classes : (k : ℕ) → is_class (eq_by_cmp nat_cmp) source.rows (cell_at_number k) ≡ true
      → Among (cell_at_number k) (classes nat_cmp source.rows)
  in_classes k c = (classes-is nat_cmp_total numbers.nat_cmp-IsAntisymmetric source.rows dims h.wide
      (cell_at_number k)).1 c

  -- a class from u on qualifies where it is asked for
  pub wants_is : (k : ℕ) → IsSome (numbers.get tree k)
      → is_class (eq_by_cmp nat_cmp) source.rows (cell_at_number k) ≡ true
      → leq (eq_by_cmp nat_cmp) u (cell_at_number k) ≡ true
      → wants tree ask k ≡ qualifies nat_cmp source.measures source.rows (ask_in ask) u (cell_at_number k)
  wants_is k t c low =
      wanted_is dims tree source h k t ask
      ∙ ap (λ a. a && answers.passes_bound (ask_in ask)
      (agg (eq_by_cmp nat_cmp) source.measures source.rows (cell_at_number k))) (c ∙ sym low)

  module _ (seen met : List ℕ) (first : Among start seen) (are : AreQueued tree source ask start seen (length seen))
      (each : (k : ℕ) → Among k met ↔ (Among k (take (length seen) seen) × (wants tree ask k ≡ true))) where
    all : take (length seen) seen ≡ seen
    all = take_all seen (length seen) (omega arith)

    -- a cell of a node that is seen
    abbrev Seen : Cell ℕ → Type 0
    Seen c = (k : ℕ) × Among k seen × (cell_at_number k ≡ c)

    above : (c : Cell ℕ) → Seen c → Among c (classes nat_cmp source.rows) × (leq (eq_by_cmp nat_cmp) u c ≡ true)
    above c s =
        let p = are.above s.0 s.1 in (
          subst (λ d. Among d (classes nat_cmp source.rows)) s.2 (in_classes s.0 p.class),
          subst (λ d. leq (eq_by_cmp nat_cmp) u d ≡ true) s.2 p.passes,
        )

    on : (c : Cell ℕ) → Seen c → qualifies nat_cmp source.measures source.rows (ask_in ask) u c ≡ false → (e : Cell ℕ)
        → Among e (classes nat_cmp source.rows) → is_parent nat_cmp source.rows c e ≡ true → Seen e
    on c s lacks e m p =
        let q = are.above s.0 s.1 in
        let out : wants tree ask s.0 ≡ false = wants_is s.0 q.there q.class q.passes
        ∙ ap (qualifies nat_cmp source.measures source.rows (ask_in ask) u) s.2 ∙ lacks in
        let n : (k : ℕ) × IsSome (numbers.get tree k) × ((record_at tree k).cell ≡ e)
        = class_node dims tree source h e
        ((classes-is nat_cmp_total numbers.nat_cmp-IsAntisymmetric source.rows dims h.wide e).0 m) in
        let child : IsPassing tree source (λ d. is_parent nat_cmp source.rows (cell_at_number s.0) d) n.0 = record {
          there = n.1;
          class = ap (is_class (eq_by_cmp nat_cmp) source.rows) n.2
              ∙ (classes-is nat_cmp_total numbers.nat_cmp-IsAntisymmetric source.rows dims h.wide e).0 m;
          passes = ap₂ (is_parent nat_cmp source.rows) s.2 n.2 ∙ p;
        } in
        (n.0, are.on s.0 (subst (Among s.0) (sym all) s.1) out n.0 child, n.2)

    pub all_met : AreMet tree source ask start met
    all_met = record { each = λ k m. let p = (each k).0 m in (are.above k (subst (Among k) all p.0), p.1); all = most }
      where
        most : (k : ℕ) → IsPassing tree source (is_rolled nat_cmp source.measures source.rows (ask_in ask) u) k
            → Among k met
        most k p =
            let q = and_parts (qualifies nat_cmp source.measures source.rows (ask_in ask) u
            (cell_at_number k)) _ p.passes in
            let low = (and_parts (leq (eq_by_cmp nat_cmp) u (cell_at_number k)) _ q.0).0 in
            let s : Seen (cell_at_number k)
            = reached dims source.rows h.wide source.measures (ask_in ask) u Seen above on
            (value_count (cell_at_number k)) u (cell_at_number k) (start, first, refl)
            (in_classes k p.class) p.passes low (omega arith) in
            let t = (are.above s.0 s.1).there in
            let same : s.0 ≡ k = h.canonical.once s.0 k (cell_at_number k) (cell_there tree s.0 t
            ∙ ap (λ c. Some c) s.2) (cell_there tree k p.there) in
            let m : Among k seen = subst (λ j. Among j seen) same s.1 in
            (each k).1 (subst (Among k) (sym all) m, wants_is k p.there p.class low ∙ q.0)

-- at the start one class is seen
pub first_seen : (dims : ℕ) (tree : Tree ℕ) (source : TreeRows) (h : IsTreeOf dims tree source) (ask : Ask) (start : ℕ)
    (keys : List ℕ) → keys ≡ start ∷ [] → IsSome (record_at tree start).class → AreQueued tree source ask start keys 0
first_seen dims tree source h ask start keys is class = record {
  above = λ k m. elim (subst (Among k) is m) [
    | inl e ↦
        let t = class_there tree start class in
        subst (IsPassing tree source (λ d. leq (eq_by_cmp nat_cmp) (record_at tree start).cell d)) (sym e) (record {
          there = t;
          class = own_closure dims tree source h start (record_at tree start).cell (cell_there tree start t) class;
          passes = leq_refl code_equality (record_at tree start).cell;
        })
    | inr n ↦ absurd n
  ];
  on = λ k m w j p. absurd m;
}

pub alone : (keys : List ℕ) (k : ℕ) → keys ≡ k ∷ [] → IsDistinct nat_eq keys
unfolding IsDistinct
alone keys k is = subst (IsDistinct nat_eq) (sym is) (tt, tt)

pub grown : (seen after found : List ℕ) → after ≡ insert_all nat_eq seen found → length seen ≤ length after
grown seen after found e = let f = all_prefix seen found in
    omega (arith, ap length e, ap length f.1, length-append seen f.0)

pub none_met : (tree : Tree ℕ) (ask : Ask) (seen : List ℕ) (met : List NodeCell) → met ≡ [] → (k : ℕ)
    → Among k (map number_of met) ↔ (Among k (take 0 seen) × (wants tree ask k ≡ true))
none_met tree ask seen [] e k = (λ m. absurd m, λ p. absurd p.0)
none_met tree ask seen (x ∷ met) e k = cc
