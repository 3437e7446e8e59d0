-- The labels of a node on the way to a class that lead to a class, by their dimensions.
use Rattle.std.proofs.Common.{◌≡◌, ◌==◌, ℕ, zero, suc, ◌+◌, ◌-◌, ◌<◌, ◌≤◌, Bool, true, false, cond, Option, Some, None, List, [], ◌∷◌, ◌++◌}
use Rattle.std.proofs.Common.{map, filter, length, length-append, refl, sym, ap, ap₂, ◌∙◌, subst, arith, inl, inr, nat_lt, ltb-true, lt-ltb}
use Rattle.std.specs.Prelude.{slice_get, IsSome}
use Rattle.std.proofs.lemmas.Bool.{and_parts, and_from}
use Rattle.std.proofs.lemmas.List.{length-map}
use Rattle.std.specs.declared.cmp.Ordering.{Ordering}
use Rattle.std.specs.declared.cmp.Ordering.TheVariants.{Less, Equal, Greater}
use Rattle.std.specs.Cmp.{nat_cmp_total, tied_itself}
use Rattle.std.specs.FinMap as map
use Rattle.std.specs.List.{AllByRecursion, range_with_len}
use Rattle.std.specs.List.Sorted.{IsStrictlySortedBy}
use Rattle.std.specs.Option.{option_map}
use Rattle.std.specs.Ordering.{nat_cmp, eq_by_cmp, ordering_then}
use Rattle.cube_defs.specs.Cell.{Cell, depth, cell_prefix, with_value}
use Rattle.cube_defs.specs.Rows.{closure, is_node}
use Rattle.cube_defs.specs.Tree.{Edge, Node, Tree, cell_at, next_value, renamed_edge}
use Rattle.cube_laws.specs.Lists.{Among}
use Rattle.cube_laws.proofs.CallerLemmas.{leq-closure, option_eq-is, leq_entry, rises_same, rises-filter, all_from, among_filter, among_map}
use Rattle.cube_laws.proofs.CallerLemmas.{filter_among, map_among, map-filter, prefix_of_class, nat_anti, nat_total, code_equality}
use Rattle.qc_arena.specs.RecordReaders.{record_at}
use Rattle.tree_laws.specs.Edges.{edge_cmp}
use Rattle.tree_laws.specs.Labels.{IsLabel, record_of}
use Rattle.tree_laws.proofs.CallerLemmas.{edges-are, edges_rise, cell_prefix-beyond, cell_prefix-cell_prefix, depth-cell_prefix-le}
use Rattle.tree_laws.proofs.CallerLemmas.{shallower, among_range, record_read}
use Rattle.tree_search.specs.Found.{IsTreeOf, TreeRows}
use Rattle.tree_search.proofs.CallerLemmas.{there_is}
use Rattle.cells_below.specs.Closed.{has_closure_in}
use Rattle.cells_below.proofs.CallerLemmas.{closed, range-append}
use Rattle.quotient_lattice.specs.Candidates.{label_leads, lead_count, leads_to}
use Rattle.quotient_lattice.proofs.ChildLaws.{label_there, put_there}
use Rattle.quotient_lattice.proofs.NewValues.{Leads, leads-from, leads_is}

-- after a prefix's last value and before its end the cell has none
pub any_between : (u : Cell ℕ) (end i : ℕ) → depth (cell_prefix end u) ≤ i → i < end → i < length u
    → slice_get u i ≡ Some None
any_between [] end i h l k = absurd (omega arith)
any_between (e ∷ u) zero i h l k = absurd (omega arith)
any_between (None ∷ u) (suc n) zero h l k = refl
any_between (Some v ∷ u) (suc n) zero h l k = absurd (omega arith)
any_between (e ∷ u) (suc n) (suc i) h l k
    = any_between u n i (shallower e (depth (cell_prefix n u)) i h) (omega arith) (omega arith)

filter-append : {X : Type 0} (p : X → Bool) (xs ys : List X) → filter p (xs ++ ys) ≡ filter p xs ++ filter p ys
filter-append p [] ys = refl
filter-append p (x ∷ xs) ys = go (filter-append p xs ys) (p x)
  where
    go : filter p (xs ++ ys) ≡ filter p xs ++ filter p ys → (b : Bool)
        → cond b (x ∷ filter p (xs ++ ys)) (filter p (xs ++ ys)) ≡ cond b (x ∷ filter p xs) (filter p xs) ++ filter p ys
    go more true = ap (λ zs. x ∷ zs) more
    go more false = more

pub count-append : {X : Type 0} (p : X → Bool) (xs ys : List X)
    → length (filter p (xs ++ ys)) ≡ length (filter p xs) + length (filter p ys)
count-append p xs ys = ap length (filter-append p xs ys) ∙ length-append (filter p xs) (filter p ys)

pub count-one : {X : Type 0} (p : X → Bool) (x : X) → length (filter p (x ∷ [])) ≡ cond (p x) 1 0
count-one p x = go (p x)
  where
    go : (b : Bool) → length (cond b (x ∷ []) []) ≡ cond b 1 0
    go true = refl
    go false = refl

-- edges of which no two have one dimension rise by it
module _ {T : Type 0} where
  abbrev dim_of : Edge ℕ T → ℕ
  dim_of x = x.dim

  first : (x y : Edge ℕ T) → edge_cmp nat_cmp x y ≡ Less → (x.dim ≡ y.dim → x.value ≡ y.value)
      → nat_cmp x.dim y.dim ≡ Less
  first x y h same = go (nat_cmp x.dim y.dim) refl
    where
      go : (o : Ordering) → nat_cmp x.dim y.dim ≡ o → nat_cmp x.dim y.dim ≡ Less
      go Less e = e
      go Equal e =
          let v : x.value ≡ y.value = same (nat_anti x.dim y.dim e) in
          let tie : nat_cmp x.value y.value ≡ Equal = ap (nat_cmp x.value) (sym v) ∙ tied_itself nat_total x.value in
          let bad : Equal ≡ Less = sym (ap₂ ordering_then e tie) ∙ h in
          absurd cc
      go Greater e = let bad : Greater ≡ Less = sym (ap (λ o. ordering_then o (nat_cmp x.value y.value)) e)
          ∙ h in absurd cc

  dims_rise : (xs : List (Edge ℕ T)) → IsStrictlySortedBy (edge_cmp nat_cmp) xs
      → ((x y : Edge ℕ T) → Among x xs → Among y xs → x.dim ≡ y.dim → x.value ≡ y.value)
      → IsStrictlySortedBy nat_cmp (map dim_of xs)
  unfolding IsStrictlySortedBy
  dims_rise [] s one = tt
  dims_rise (x ∷ xs) s one
      = (behind xs s.0 (λ y m. one x y (inl refl) (inr m)), dims_rise xs s.1 (λ y z m k. one y z (inr m) (inr k)))
    where
      behind : (ys : List (Edge ℕ T)) → AllByRecursion (λ y. edge_cmp nat_cmp x y ≡ Less) ys
          → ((y : Edge ℕ T) → Among y ys → x.dim ≡ y.dim → x.value ≡ y.value)
          → AllByRecursion (λ d. nat_cmp x.dim d ≡ Less) (map dim_of ys)
      behind [] a f = tt
      behind (y ∷ ys) a f = (first x y a.0 (f y (inl refl)), behind ys a.1 (λ z m. f z (inr m)))

range_rises : (a n : ℕ) → IsStrictlySortedBy nat_cmp (range_with_len a n)
unfolding IsStrictlySortedBy
range_rises a zero = tt
range_rises a (suc n) = (
  all_from (λ m. nat_cmp a m ≡ Less) (range_with_len (a + 1) n)
      (λ m k. less a m (let r = (among_range m (a + 1) n).0 k in omega arith)),
  range_rises (a + 1) n,
)
  where
    less : (a m : ℕ) → a < m → nat_cmp a m ≡ Less
    less a m l = ap (λ b. cond b Less (cond (a == m) Equal Greater)) (lt-ltb a m l)

module _ (dims : ℕ) (tree : Tree ℕ) (source : TreeRows) (h : IsTreeOf dims tree source) (u : Cell ℕ)
    (own : closure (eq_by_cmp nat_cmp) source.rows u ≡ Some u) (long : length u ≡ dims) (k : ℕ)
    (t : IsSome (map.get tree k)) (end : ℕ) (le : end ≤ dims) (front : (record_at tree k).cell ≡ cell_prefix end u)
    (d : Cell ℕ) where
  abbrev p : Cell ℕ
  p = (record_at tree k).cell

  abbrev low : ℕ
  low = depth p

  node : is_node (eq_by_cmp nat_cmp) source.rows p ≡ true
  node = (h.canonical.each k (record_at tree k) (there_is tree k t)).0

  low_end : low ≤ end
  low_end = subst (λ c. depth c ≤ end) (sym front) (depth-cell_prefix-le end u)

  any : (i : ℕ) → low ≤ i → i < end → slice_get u i ≡ Some None
  any i a b = any_between u end i (subst (λ c. depth c ≤ i) front a) b (omega arith)

  same_front : (i : ℕ) → low ≤ i → i ≤ end → cell_prefix i u ≡ p
  same_front i a b = sym (cell_prefix-cell_prefix i end u b) ∙ ap (cell_prefix i) (sym front) ∙ cell_prefix-beyond i p a

  module _ (x : Cell ℕ) (is : closure (eq_by_cmp nat_cmp) source.rows p ≡ Some x) where
    abbrev edges : List (Edge ℕ (Cell ℕ))
    edges = (record_of nat_cmp source.measures source.rows p x).edges

    abbrev test : {T : Type 0} → Edge ℕ T → Bool
    test e = label_leads source u d end e

    are : (e : Edge ℕ (Cell ℕ)) → Among e edges → IsLabel nat_cmp source.rows p (next_value nat_cmp (depth p) x) e
    are e = (edges-are nat_cmp_total map.nat_cmp-IsAntisymmetric source.measures source.rows p x is
        (prefix_of_class code_equality source.rows p x is node).1 e).0

    -- what an edge that leads says
    record IsLed (e : Edge ℕ (Cell ℕ)) : Type 0 where
      from : low ≤ e.dim
      below : e.dim < end
      home : closure (eq_by_cmp nat_cmp) source.rows (with_value u e.dim e.value) ≡ Some d
      has : slice_get d e.dim ≡ Some (Some e.value)

    led : (e : Edge ℕ (Cell ℕ)) → Among e (filter test edges) → IsLed e
    led e m =
        let f = filter_among test e edges m in
        let b = and_parts (nat_lt e.dim end) (has_closure_in source d (with_value u e.dim e.value)) f.1 in
        let l = are e f.0 in
        let less : e.dim < end = ltb-true e.dim end b.0 in
        let home = closed source d (with_value u e.dim e.value) b.1 in
        record {
          from = l.place.behind;
          below = less;
          home = home;
          has = leq_entry code_equality e.dim e.value (with_value u e.dim e.value) d
              (leq-closure code_equality source.rows (with_value u e.dim e.value) d home)
              (put_there u e.dim e.value (any e.dim l.place.behind less));
        }

    dims_are : map dim_of (filter test edges) ≡ filter (leads_to source u d) (range_with_len low (end - low))
    dims_are =
        rises_same nat_total nat_anti (map dim_of (filter test edges))
        (filter (leads_to source u d) (range_with_len low (end - low)))
        (dims_rise (filter test edges)
        (rises-filter (edge_cmp nat_cmp) test edges
        (edges_rise nat_cmp_total map.nat_cmp-IsAntisymmetric source.measures source.rows p x
        (next_value nat_cmp (depth p) x)))
        (λ e f m n q. let a = led e m in let b = led f n in let s : Some (Some e.value) ≡ Some (Some f.value)
        = sym a.has ∙ ap (slice_get d) q ∙ b.has in cc))
        (rises-filter nat_cmp (leads_to source u d) (range_with_len low (end - low)) (range_rises low (end - low)))
        into from
      where
        into : (i : ℕ) → Among i (map dim_of (filter test edges))
            → Among i (filter (leads_to source u d) (range_with_len low (end - low)))
        into i m =
            let e : (e : Edge ℕ (Cell ℕ)) × Among e (filter test edges) × (i ≡ dim_of e)
            = among_map dim_of i (filter test edges) m in
            let l = led e.0 e.1 in
            subst (λ i. Among i (filter (leads_to source u d) (range_with_len low (end - low)))) (sym e.2)
            (among_filter (leads_to source u d) e.0.dim (range_with_len low (end - low))
            ((among_range e.0.dim low (end - low)).1 (l.from, (let b = l.below in let a = l.from in omega arith)))
            (leads-from source u d e.0.dim e.0.value (any e.0.dim l.from l.below) l.has l.home))

        from : (i : ℕ) → Among i (filter (leads_to source u d) (range_with_len low (end - low)))
            → Among i (map dim_of (filter test edges))
        from i m =
            let f = filter_among (leads_to source u d) i (range_with_len low (end - low)) m in
            let r = (among_range i low (end - low)).0 f.0 in
            let less : i < end = omega (arith, r.0, r.1, low_end) in
            let l : Leads source u d i = leads_is source u d i f.1 in
            let same = same_front i r.0 (omega (arith, less)) in
            let lab = label_there source.rows u own i l.value l.any d x l.home
            (ap (closure (eq_by_cmp nat_cmp) source.rows) same ∙ is) in
            let e : Edge ℕ (Cell ℕ) = record { dim = i; value = l.value; target = lab.1.0 } in
            let label : IsLabel nat_cmp source.rows p (next_value nat_cmp (depth p) x) e
            = subst (λ q. IsLabel nat_cmp source.rows q (next_value nat_cmp (depth q) x) e) same
            (record { place = lab.0; leads = lab.1.1 }) in
            let a : Among e edges =
            (edges-are nat_cmp_total map.nat_cmp-IsAntisymmetric source.measures source.rows p x is
            (prefix_of_class code_equality source.rows p x is node).1 e).1 label in
            let passes : test e ≡ true
            = and_from _ _ (lt-ltb i end less)
            ((option_eq-is code_equality (closure (eq_by_cmp nat_cmp) source.rows (with_value u i l.value)) d).1
            l.home) in
            map_among dim_of e (filter test edges) (among_filter test e edges a passes)

    -- the names of targets play no part
    renamed_count : {S T : Type 0} (name : S → T) (xs : List (Edge ℕ S))
        → length (filter (label_leads source u d end) (map (renamed_edge name) xs))
        ≡ length (filter (label_leads source u d end) xs)
    renamed_count name xs = ap length (sym (map-filter (renamed_edge name) (label_leads source u d end) xs))
        ∙ length-map (filter (label_leads source u d end) xs) (renamed_edge name)

    counted : length (filter (label_leads source u d end) (record_at tree k).edges) ≡ lead_count source u d low end
    counted =
        sym (renamed_count (cell_at tree) (record_at tree k).edges)
        ∙ ap (λ (n : Node ℕ (Option (Cell ℕ))). length (filter (label_leads source u d end) n.edges))
        (record_read nat_cmp_total map.nat_cmp-IsAntisymmetric dims source.measures source.rows h.wide tree h.canonical
        k (record_at tree k) x (there_is tree k t) is)
        ∙ renamed_count (λ c. Some c) edges
        ∙ sym (length-map (filter test edges) dim_of)
        ∙ ap length dims_are

  -- the closure of the node's cell
  node_closure : (x : Cell ℕ) × (closure (eq_by_cmp nat_cmp) source.rows p ≡ Some x)
  node_closure = go (closure (eq_by_cmp nat_cmp) source.rows p) refl
    where
      prefix_is : option_map (cell_prefix (depth p)) (closure (eq_by_cmp nat_cmp) source.rows p) ≡ Some p
      prefix_is = (option_eq-is code_equality
          (option_map (cell_prefix (depth p)) (closure (eq_by_cmp nat_cmp) source.rows p)) p).0 node

      go : (o : Option (Cell ℕ)) → closure (eq_by_cmp nat_cmp) source.rows p ≡ o → (x : Cell ℕ)
          × (closure (eq_by_cmp nat_cmp) source.rows p ≡ Some x)
      go None e = let bad : None ≡ Some p = sym (ap (option_map (cell_prefix (depth p))) e) ∙ prefix_is in cc
      go (Some x) e = (x, e)

  -- the labels of the node that lead to d are those of its dimensions
  pub labels_count : length (filter (label_leads source u d end) (record_at tree k).edges)
      ≡ lead_count source u d low end
  labels_count = counted node_closure.0 node_closure.1

  -- and with those after them they are those from the node's depth on
  pub count_on : lead_count source u d low end + lead_count source u d end dims ≡ lead_count source u d low dims
  count_on =
      let l = low_end in
      let all : dims - low ≡ (end - low) + (dims - end) = omega arith in
      let at : low + (end - low) ≡ end = omega arith in
      sym (ap (λ n. length (filter (leads_to source u d) (range_with_len low n))) all
      ∙ ap (λ xs. length (filter (leads_to source u d) xs)) (range-append low (end - low) (dims - end))
      ∙ count-append (leads_to source u d) (range_with_len low (end - low))
      (range_with_len (low + (end - low)) (dims - end))
      ∙ ap (λ a. length (filter (leads_to source u d) (range_with_len low (end - low)))
      + length (filter (leads_to source u d) (range_with_len a (dims - end)))) at)

-- each edge of a node lies after its last value
module _ (dims : ℕ) (tree : Tree ℕ) (source : TreeRows) (h : IsTreeOf dims tree source) (k : ℕ)
    (t : IsSome (map.get tree k)) where
  abbrev at : Cell ℕ
  at = (record_at tree k).cell

  pub edge_after : (x : Edge ℕ ℕ) → Among x (record_at tree k).edges → depth at ≤ x.dim
  edge_after x m = go (closure (eq_by_cmp nat_cmp) source.rows at) refl
    where
      is : is_node (eq_by_cmp nat_cmp) source.rows at ≡ true
      is = (h.canonical.each k (record_at tree k) (there_is tree k t)).0

      go : (o : Option (Cell ℕ)) → closure (eq_by_cmp nat_cmp) source.rows at ≡ o → depth at ≤ x.dim
      go None e =
          let front : option_map (cell_prefix (depth at)) (closure (eq_by_cmp nat_cmp) source.rows at) ≡ Some at
          = (option_eq-is code_equality
          (option_map (cell_prefix (depth at)) (closure (eq_by_cmp nat_cmp) source.rows at)) at).0 is in
          let bad : None ≡ Some at = sym (ap (option_map (cell_prefix (depth at))) e) ∙ front in
          cc
      go (Some w) e =
          let edges : List (Edge ℕ (Cell ℕ)) = (record_of nat_cmp source.measures source.rows at w).edges in
          let same : map (renamed_edge (cell_at tree)) (record_at tree k).edges ≡ map (renamed_edge (λ c. Some c)) edges
          = ap (λ (n : Node ℕ (Option (Cell ℕ))). n.edges)
          (record_read nat_cmp_total map.nat_cmp-IsAntisymmetric dims source.measures source.rows h.wide tree
          h.canonical k (record_at tree k) w (there_is tree k t) e) in
          let y : (y : Edge ℕ (Cell ℕ)) × Among y edges × (renamed_edge (cell_at tree) x ≡ renamed_edge (λ c. Some c) y)
          = among_map (renamed_edge (λ c. Some c)) (renamed_edge (cell_at tree) x) edges
          (subst (Among (renamed_edge (cell_at tree) x)) same
          (map_among (renamed_edge (cell_at tree)) x (record_at tree k).edges m)) in
          let l : IsLabel nat_cmp source.rows at (next_value nat_cmp (depth at) w) y.0
          = (edges-are nat_cmp_total map.nat_cmp-IsAntisymmetric source.measures source.rows at w e
          (prefix_of_class code_equality source.rows at w e is).1 y.0).0 y.1 in
          let d : x.dim ≡ y.0.dim = ap (λ (z : Edge ℕ (Option (Cell ℕ))). z.dim) y.2 in
          omega (arith, d, l.place.behind)
