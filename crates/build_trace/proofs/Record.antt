-- The record that is read off the trace is the node's.
use Rattle.std.proofs.Common.{◌≡◌, ℕ, zero, suc, ◌+◌, ◌-◌, ◌<◌, ◌≤◌, Bool, true, false, cond, Option, Some, None, List, [], ◌∷◌, ◌++◌, map}
use Rattle.std.proofs.Common.{drop, flat_map, length, nat_eq, nat_cmp, slice_get, inl, inr, ◌⊎◌, refl, sym, ap, ap₂, subst, ◌∙◌, arith}
use Rattle.std.proofs.Common.{true≢false}
use Rattle.std.specs.Prelude.{is_some}
use Rattle.std.specs.Option.{option_map, option_and_then}
use Rattle.std.specs.List.{range_with_len, position_or_len}
use Rattle.std.proofs.lemmas.Bool.{cond-true, cond-false, false_from_ne_true}
use Rattle.std.proofs.lemmas.List.{append_assoc}
use Rattle.cube_defs.specs.Cell.{Cell, cell_prefix, depth, with_value, cell_eq, cell_of}
use Rattle.cube_defs.specs.Rows.{Row, Agg, agg, covers, cov, closure}
use Rattle.cube_defs.specs.Tree.{Edge, edges_in, forced_child, as_list, next_value, node_with, node_of, parent_cell_of}
use Rattle.cube_laws.specs.Lists.{Among}
use Rattle.cube_laws.proofs.CallerLemmas.{nat_equality, cell_eq-exact, cell_eq-same, cell_prefix-leq, depth-le, length-cell_prefix}
use Rattle.cube_laws.proofs.CallerLemmas.{leq_trans, all_map, all_at, filter_all, closure_length, IsShared, HaveDims, entry, closure-shared}
use Rattle.cube_laws.proofs.CallerLemmas.{shared_covers, one_test}
use Rattle.tree_laws.proofs.CallerLemmas.{some_same}
use Rattle.cube_laws.specs.Parting.{shared_by}
use Rattle.build_trace.specs.Trace.{Act, Act.{Add, Label, Mark}, Put, acts, trace, puts_of, labels_of, forced_by, forced_in, mark_by}
use Rattle.build_trace.specs.Trace.{mark_of, read}
use Rattle.build_trace.proofs.Prefixes.{zero_prefix, cell_prefix_still}
use Rattle.build_trace.proofs.Visits.{Visit.{Marked}, visits_of, acts_visits}
use Rattle.build_trace.proofs.Visited.{IsVisit, AreVisits, visits}
use Rattle.build_trace.proofs.Acted.{puts_at, puts_from}
use Rattle.build_trace.proofs.Descent.{puts_in}

mark_some : (q : Cell ℕ) (a : Agg) (es : List Act) → mark_of q es ≡ Some a → Among (Marked q a) (visits_of es)
mark_some q a [] h = cc
mark_some q a (Add p ∷ es) h = inr (mark_some q a es h)
mark_some q a (Label b f i v t ∷ es) h = mark_some q a es h
mark_some q a (Mark w b ∷ es) h = go (mark_some q a es) (mark_of q es) refl (cell_eq nat_eq w q) refl h
  where
    go : (mark_of q es ≡ Some a → Among (Marked q a) (visits_of es)) → (o : Option Agg) → mark_of q es ≡ o → (t : Bool)
        → cell_eq nat_eq w q ≡ t → mark_by o t b ≡ Some a → (Marked q a ≡ Marked w b)
        ⊎ Among (Marked q a) (visits_of es)
    go more (Some x) o t e h = let s : x ≡ a = cc in inr (more (o ∙ ap (λ y. Some y) s))
    go more None o true e h = let s : a ≡ b = cc in inl (ap₂ Marked (sym (cell_eq-exact nat_equality w q e)) s)
    go more None o false e h = cc

mark_found : (q : Cell ℕ) (a : Agg) (es : List Act) → ((b : Agg) → Among (Marked q b) (visits_of es) → b ≡ a)
    → Among (Marked q a) (visits_of es) → mark_of q es ≡ Some a
mark_found q a [] same h = absurd h
mark_found q a (Add p ∷ es) same h
    = mark_found q a es (λ b k. same b (inr k)) (elim h [ inl e ↦ absurd (cc) | inr k ↦ k ])
mark_found q a (Label b f i v t ∷ es) same h = mark_found q a es same h
mark_found q a (Mark w b ∷ es) same h = go (mark_found q a es (λ c k. same c (inr k))) (mark_of q es) refl h
  where
    go : (Among (Marked q a) (visits_of es) → mark_of q es ≡ Some a) → (o : Option Agg) → mark_of q es ≡ o
        → (Marked q a ≡ Marked w b) ⊎ Among (Marked q a) (visits_of es) → mark_by o (cell_eq nat_eq w q) b ≡ Some a
    go more (Some x) o h = ap (λ y. Some y) (same x (inr (mark_some q x es o)))
    go more None o (inr k) = let s : mark_of q es ≡ Some a = more k in cc
    go more None o (inl e) =
        let is : q ≡ w = cc in
        let ag : a ≡ b = cc in
        cond-true (cell_eq nat_eq w q) (Some b) None (ap (λ c. cell_eq nat_eq c q) (sym is)
        ∙ cell_eq-same nat_equality q) ∙ ap (λ y. Some y) (sym ag)

mark_none : (q : Cell ℕ) (es : List Act) → ((b : Agg) → Among (Marked q b) (visits_of es) → ⊥) → mark_of q es ≡ None
mark_none q [] other = refl
mark_none q (Add p ∷ es) other = mark_none q es (λ b k. other b (inr k))
mark_none q (Label b f i v t ∷ es) other = mark_none q es other
mark_none q (Mark w b ∷ es) other =
    ap (λ o. mark_by o (cell_eq nat_eq w q) b) (mark_none q es (λ c k. other c (inr k)))
    ∙ cond-false (cell_eq nat_eq w q) (Some b) None
    (false_from_ne_true _ (λ t. other b (inl (ap (λ c. Marked c b) (sym (cell_eq-exact nat_equality w q t))))))

-- what is left of a node's edges

drop_at : (k : ℕ) (c : Cell ℕ) → k < length c → drop k c ≡ entry c k ∷ drop (suc k) c
drop_at k [] h = absurd (omega arith)
drop_at zero (x ∷ c) h = refl
drop_at (suc k) (x ∷ c) h = drop_at k c (omega arith)

drop_end : (k : ℕ) (c : Cell ℕ) → length c ≤ k → drop k c ≡ []
drop_end zero [] h = refl
drop_end (suc k) [] h = refl
drop_end zero (x ∷ c) h = absurd (omega arith)
drop_end (suc k) (x ∷ c) h = drop_end k c (omega arith)

get_end : (k : ℕ) (c : Cell ℕ) → length c ≤ k → slice_get c k ≡ None
get_end k [] h = refl
get_end zero (x ∷ c) h = absurd (omega arith)
get_end (suc k) (x ∷ c) h = get_end k c (omega arith)

get_some : (k x : ℕ) (c : Cell ℕ) → entry c k ≡ Some x → slice_get c k ≡ Some (Some x)
get_some k x [] e = cc
get_some zero x (y ∷ c) e = ap (λ z. Some z) e
get_some (suc k) x (y ∷ c) e = get_some k x c e

prefix_more : (k x : ℕ) (c : Cell ℕ) → entry c k ≡ Some x → with_value (cell_prefix k c) k x ≡ cell_prefix (suc k) c
prefix_more k x [] e = cc
prefix_more zero x (y ∷ c) e = ap (λ z. z ∷ cell_prefix zero c) (sym e)
prefix_more (suc k) x (y ∷ c) e = ap (λ z. y ∷ z) (prefix_more k x c e)

abbrev pub place : ℕ → Cell ℕ → ℕ
place k c = position_or_len is_some (drop k c)

first_none : (xs : Cell ℕ) → position_or_len is_some (None ∷ xs) ≡ suc (position_or_len is_some xs)
first_none xs = omega arith

place_none : (k : ℕ) (c : Cell ℕ) → k < length c → entry c k ≡ None → place k c ≡ suc (place (suc k) c)
place_none k c l e = ap (position_or_len is_some) (drop_at k c l ∙ ap (λ x. x ∷ drop (suc k) c) e)
    ∙ first_none (drop (suc k) c)

place_some : (k x : ℕ) (c : Cell ℕ) → k < length c → entry c k ≡ Some x → place k c ≡ 0
place_some k x c l e = ap (position_or_len is_some) (drop_at k c l ∙ ap (λ x. x ∷ drop (suc k) c) e)

edges_back : (es : List (Edge ℕ (Cell ℕ))) (more : List Put)
    → map (λ s. s.edge) (map (λ e. record { forced = false; edge = e }) es ++ more) ≡ es ++ map (λ s. s.edge) more
edges_back [] more = refl
edges_back (e ∷ es) more = ap (λ xs. e ∷ xs) (edges_back es more)

forced_back : (es : List (Edge ℕ (Cell ℕ))) (more : List Put)
    → forced_in (map (λ e. record { forced = false; edge = e }) es ++ more) ≡ forced_in more
forced_back [] more = refl
forced_back (e ∷ es) more = same (forced_in (map (λ e. record { forced = false; edge = e }) es ++ more))
    ∙ forced_back es more
  where
    same : (o : Option (Edge ℕ (Cell ℕ))) → forced_by o (record { forced = false; edge = e }) ≡ o
    same None = refl
    same (Some x) = refl

module _ (n : ℕ) (table : List (Row ℕ)) (p c : Cell ℕ) (c_long : length c ≡ n) (e : ℕ) where
  forced_is : (k x : ℕ) → e ≡ k → entry c k ≡ Some x → cell_prefix k c ≡ p
      → forced_child nat_cmp p c e ≡ Some (record { dim = k; value = x; target = cell_prefix (suc k) c })
  forced_is k x d s f =
      ap (forced_child nat_cmp p c) d
      ∙ ap (option_and_then (λ o. option_map (λ v. record { dim = k; value = v; target = with_value p k v }) o))
      (get_some k x c s)
      ∙ ap (λ t. Some (record { dim = k; value = x; target = t })) (ap (λ z. with_value z k x) (sym f)
      ∙ prefix_more k x c s)

  forced_none : length c ≤ e → forced_child nat_cmp p c e ≡ None
  forced_none l = ap (option_and_then
      (λ o. option_map (λ v. record { dim = e; value = v; target = with_value p e v }) o)) (get_end e c l)

  rest : (j k i : ℕ) → j + k ≡ n → cell_prefix k c ≡ p → i ≡ place k c → e ≡ k + i
      → (map (λ s. s.edge) (puts_from table p j k c) ≡ flat_map (edges_in nat_cmp table p) (range_with_len k i)
      ++ as_list nat_cmp (forced_child nat_cmp p c e))
      × (forced_in (puts_from table p j k c) ≡ forced_child nat_cmp p c e)
  rest zero k i fit f at d =
      let z : i ≡ 0 = at ∙ ap (position_or_len is_some) (drop_end k c (omega arith)) in
      let none : forced_child nat_cmp p c e ≡ None = forced_none (omega arith) in (
        sym (ap₂ (λ a o. flat_map (edges_in nat_cmp table p) (range_with_len k a) ++ as_list nat_cmp o) z none),
        sym none,
      )
  rest (suc j) k i fit f at d = go (entry c k) refl (rest j (suc k))
    where
      lt : k < length c
      lt = omega arith

      go : (o : Option ℕ) → entry c k ≡ o
          → ((i : ℕ) → j + suc k ≡ n → cell_prefix (suc k) c ≡ p → i ≡ place (suc k) c → e ≡ suc k + i
          → (map (λ s. s.edge) (puts_from table p j (suc k) c) ≡ flat_map (edges_in nat_cmp table p)
          (range_with_len (suc k) i) ++ as_list nat_cmp (forced_child nat_cmp p c e))
          × (forced_in (puts_from table p j (suc k) c) ≡ forced_child nat_cmp p c e))
          → (map (λ s. s.edge) (puts_at table p k c o (puts_from table p j (suc k) c))
          ≡ flat_map (edges_in nat_cmp table p) (range_with_len k i)
          ++ as_list nat_cmp (forced_child nat_cmp p c e))
          × (forced_in (puts_at table p k c o (puts_from table p j (suc k) c)) ≡ forced_child nat_cmp p c e)
      go (Some x) o ih =
          let z : i ≡ 0 = at ∙ place_some k x c lt o in
          let is : forced_child nat_cmp p c e ≡ Some (record { dim = k; value = x; target = cell_prefix (suc k) c })
          = forced_is k x (omega arith) o f in (
            sym (ap₂ (λ a o. flat_map (edges_in nat_cmp table p) (range_with_len k a) ++ as_list nat_cmp o) z is),
            sym is,
          )
      go None o ih =
          let z : i ≡ suc (place (suc k) c) = at ∙ place_none k c lt o in
          let m = ih (place (suc k) c) (omega arith) (cell_prefix_still k c o ∙ f) refl (omega arith) in
          let one : suc k ≡ k + 1 = omega arith in (
            edges_back (edges_in nat_cmp table p k) (puts_from table p j (suc k) c)
                ∙ ap (λ es. edges_in nat_cmp table p k ++ es) m.0
                ∙ sym (append_assoc (edges_in nat_cmp table p k)
                (flat_map (edges_in nat_cmp table p) (range_with_len (suc k) (place (suc k) c)))
                (as_list nat_cmp (forced_child nat_cmp p c e)))
                ∙ ap (λ a. (edges_in nat_cmp table p k ++ flat_map (edges_in nat_cmp table p)
                (range_with_len a (place (suc k) c))) ++ as_list nat_cmp (forced_child nat_cmp p c e)) one
                ∙ sym (ap (λ a. flat_map (edges_in nat_cmp table p) (range_with_len k a)
                ++ as_list nat_cmp (forced_child nat_cmp p c e)) z),
            forced_back (edges_in nat_cmp table p k) (puts_from table p j (suc k) c) ∙ m.1,
          )

module _ (measures n : ℕ) (table : List (Row ℕ)) (all_long : HaveDims n table)
    (shared : IsShared table (shared_by table)) where
  pub root_whole : cov nat_eq table (cell_prefix 0 (shared_by table)) ≡ table
  root_whole = filter_all (covers nat_eq (cell_prefix 0 (shared_by table))) table
      (all_map (λ r. covers nat_eq (shared_by table) r ≡ true)
      (λ r. covers nat_eq (cell_prefix 0 (shared_by table)) r ≡ true) table
      (λ r g. leq_trans nat_equality (cell_prefix 0 (shared_by table)) (shared_by table) (cell_of r.tuple)
      (cell_prefix-leq nat_equality 0 (shared_by table)) g)
      (shared_covers table (shared_by table) shared))

  pub all_visits : AreVisits measures table 0 (shared_by table) (visits_of (acts measures n 0 table))
  all_visits = subst (AreVisits measures table 0 (shared_by table)) (sym (acts_visits measures n 0 table))
      (visits measures n 0 n table (omega arith) all_long shared)

  pub shared_long : length (shared_by table) ≡ n
  shared_long = closure_length nat_eq n (shared_by table) (shared_by table) table all_long
      (closure-shared table (shared_by table) shared)

  module _ (q c : Cell ℕ) (closed : closure nat_eq table q ≡ Some c) (front : cell_prefix (depth q) c ≡ q) where
    c_long : length c ≡ n
    c_long = closure_length nat_eq n q c table all_long closed

    q_long : length q ≡ n
    q_long = sym (ap length front) ∙ length-cell_prefix (depth q) c ∙ c_long

    -- what is set at q is all that its record has
    pub puts_are : puts_of q (trace measures n table) ≡ puts_from table q (n - depth q) (depth q) c
    puts_are =
        let d : depth q ≤ length q = depth-le q in
        let l = q_long in
        puts_in measures n table all_long n 0 table (omega arith) shared root_whole q c closed front (omega arith)
        (zero_prefix q (shared_by table) (q_long ∙ sym shared_long)) (n - depth q) (omega arith)

    record_parts : (map (λ s. s.edge) (puts_from table q (n - depth q) (depth q) c)
        ≡ (node_with nat_cmp measures table q c (next_value nat_cmp (depth q) c)).edges)
        × (forced_in (puts_from table q (n - depth q) (depth q) c) ≡ forced_child nat_cmp q c
        (next_value nat_cmp (depth q) c))
    record_parts =
        let d : depth q ≤ length q = depth-le q in
        let l = q_long in
        rest n table q c c_long (next_value nat_cmp (depth q) c) (n - depth q) (depth q)
        (next_value nat_cmp (depth q) c - depth q) (omega arith) front (omega arith) (omega arith)

    pub labels_are_edges : labels_of q (trace measures n table)
        ≡ (node_with nat_cmp measures table q c (next_value nat_cmp (depth q) c)).edges
    labels_are_edges = ap (map (λ s. s.edge)) puts_are ∙ record_parts.0

    pub forced_is_child : forced_in (puts_of q (trace measures n table)) ≡ forced_child nat_cmp q c
        (next_value nat_cmp (depth q) c)
    forced_is_child = ap forced_in puts_are ∙ record_parts.1

    visit_at_class : (b : Agg) → Among (Marked q b) (visits_of (acts measures n 0 table)) → (c ≡ q)
        × (b ≡ agg nat_eq measures table q)
    visit_at_class b a =
        let g = all_at (IsVisit measures table 0 (shared_by table)) (Marked q b) (visits_of (acts measures n 0 table))
        all_visits.sound a in
        (some_same (sym closed ∙ g.closure) ∙ g.kind.own, g.kind.aggregate)

    -- the marks are the classes with their aggregates
    pub mark_is : mark_of q (trace measures n table) ≡ cond (cell_eq nat_eq c q)
        (Some (agg nat_eq measures table q)) None
    mark_is = go (cell_eq nat_eq c q) refl
      where
        go : (t : Bool) → cell_eq nat_eq c q ≡ t
            → mark_of q (acts measures n 0 table) ≡ cond t (Some (agg nat_eq measures table q)) None
        go true t = mark_found q (agg nat_eq measures table q) (acts measures n 0 table) (λ b a. (visit_at_class b a).1)
            (all_visits.all (Marked q (agg nat_eq measures table q)) (record {
              class = c;
              closure = closed;
              front = zero_prefix q (shared_by table) (q_long ∙ sym shared_long);
              kind = record { own = cell_eq-exact nat_equality c q t; aggregate = refl };
            }))
        go false t = mark_none q (acts measures n 0 table)
            (λ b a. true≢false (sym (ap (λ x. cell_eq nat_eq x q) (visit_at_class b a).0 ∙ cell_eq-same nat_equality q)
            ∙ t))

    pub read_is : read (trace measures n table) q ≡ node_with nat_cmp measures table q c
        (next_value nat_cmp (depth q) c)
    read_is =
        let m : mark_of q (trace measures n table)
        ≡ (node_with nat_cmp measures table q c (next_value nat_cmp (depth q) c)).class
        = mark_is ∙ ap (λ eq. cond (cell_eq eq c q) (Some (agg eq measures table q)) None) (sym one_test) in
        let f = forced_is_child in
        let l = labels_are_edges in
        λ i. record { cell = q; parent = parent_cell_of nat_cmp q; class = m i; forced = f i; edges = l i }

    pub node_read : node_of nat_cmp measures table q ≡ Some (read (trace measures n table) q)
    node_read =
        ap (λ eq. option_map (λ u. node_with nat_cmp measures table q u (next_value nat_cmp (depth q) u))
        (closure eq table q)) one_test
        ∙ ap (option_map (λ u. node_with nat_cmp measures table q u (next_value nat_cmp (depth q) u))) closed
        ∙ ap (λ x. Some x) (sym read_is)
