-- At each act of the trace all that it needs is there.
use Rattle.std.proofs.Common.{◌≡◌, ℕ, zero, suc, ◌+◌, ◌<◌, Bool, true, false, cond, Option, Some, None, List, [], ◌∷◌, ◌++◌, flat_map}
use Rattle.std.proofs.Common.{length, nat_eq, inl, inr, ◌⊎◌, refl, sym, ap, subst, ◌∙◌, arith, true≢false}
use Rattle.std.proofs.lemmas.List.{append_assoc, append-nil}
use Rattle.std.proofs.lemmas.Bool.{cases_lt}
use Rattle.cube_defs.specs.Cell.{Cell, cell_prefix, depth, cell_eq}
use Rattle.cube_defs.specs.Rows.{Agg, Row, cov, closure, meet_all, is_node}
use Rattle.cube_laws.specs.Lists.{Among}
use Rattle.cube_laws.specs.Tuples.{cells_of}
use Rattle.cube_laws.proofs.CallerLemmas.{nat_equality, cell_eq-exact, cell_eq-same, all_at, among_left, closure_length, is_class-is}
use Rattle.cube_laws.proofs.CallerLemmas.{class_prefixes, node_closed, IsShared, HaveDims, entry, closure-shared}
use Rattle.tree_laws.proofs.CallerLemmas.{cell_prefix-cell_prefix}
use Rattle.cube_laws.specs.Parting.{shared_by, part_at, codes_in}
use Rattle.build_trace.specs.Walk.{same_prefix}
use Rattle.build_trace.specs.Trace.{Act, Act.{Add, Label, Mark}, part_acts, acts_at, acts, trace}
use Rattle.build_trace.specs.Ready.{IsLabelled, HasPath, IsNew, MayFollow, Ready}
use Rattle.build_trace.proofs.Lists.{among_right, among_either, among_flat, flat_among, below_or}
use Rattle.build_trace.proofs.Prefixes.{cell_prefix_entry, cell_prefix_all, entry_cell_prefix, depth_cell_prefix, zero_prefix, depth_beyond}
use Rattle.build_trace.proofs.Prefixes.{prefix_entry}
use Rattle.build_trace.proofs.Parting.{has_code, dims_filter, part_entry, shared_part, shared_among, code_among}
use Rattle.build_trace.proofs.Visits.{Visit.{Made}, visit_at, visit, visit_add, at_visits, acts_visits}
use Rattle.build_trace.proofs.Visited.{IsVisit, AreVisits, visits}
use Rattle.build_trace.proofs.Differs.{Differs, first_difference}
use Rattle.build_trace.proofs.Links.{long, u_length, whole_next, within, prefix_low, w_code, w_class, w_length, part_whole}
use Rattle.build_trace.proofs.Record.{root_whole}

-- lists

pub ready_append : (done xs ys : List Act) → Ready done xs → Ready (done ++ xs) ys → Ready done (xs ++ ys)
ready_append done [] ys h g = subst (λ d. Ready d ys) (append-nil done) g
ready_append done (x ∷ xs) ys h g
    = (h.0, ready_append (done ++ x ∷ []) xs ys h.1 (subst (λ d. Ready d ys) (sym (append_assoc done (x ∷ []) xs)) g))

pub ready_at : (done xs : List Act) (e : Act) (ys : List Act) → Ready done (xs ++ e ∷ ys) → MayFollow (done ++ xs) e
ready_at done [] e ys h = subst (λ d. MayFollow d e) (sym (append-nil done)) h.0
ready_at done (x ∷ xs) e ys h
    = subst (λ d. MayFollow d e) (append_assoc done (x ∷ []) xs) (ready_at (done ++ x ∷ []) xs e ys h.1)

-- q's label among some acts
pub record Labeled (es : List Act) (q : Cell ℕ) : Type 0 where
  pub at : ℕ
  pub value : ℕ
  pub forced : Bool
  pub deep : depth q ≡ suc at
  pub entry : entry q at ≡ Some value
  pub label : Among (Label forced (cell_prefix at q) at value q) es

labeled_left : (q : Cell ℕ) (xs ys : List Act) → Labeled xs q → Labeled (xs ++ ys) q
labeled_left q xs ys l = record {
  at = l.at;
  value = l.value;
  forced = l.forced;
  deep = l.deep;
  entry = l.entry;
  label
      = among_left _ xs ys l.label;
}

labeled_right : (q : Cell ℕ) (xs ys : List Act) → Labeled ys q → Labeled (xs ++ ys) q
labeled_right q xs ys l = record {
  at = l.at;
  value = l.value;
  forced = l.forced;
  deep = l.deep;
  entry = l.entry;
  label
      = among_right _ xs ys l.label;
}

there_left : (q : Cell ℕ) (xs ys : List Act) → IsLabelled xs q → IsLabelled (xs ++ ys) q
there_left q xs ys t = record {
  added = among_left _ xs ys t.added;
  at = t.at;
  value = t.value;
  forced = t.forced;
  deep
      = t.deep;
  entry = t.entry;
  label = among_left _ xs ys t.label;
}

there_right : (q : Cell ℕ) (xs ys : List Act) → Among (Add q) ys → Labeled ys q → IsLabelled (xs ++ ys) q
there_right q xs ys a l = record {
  added = among_right _ xs ys a;
  at = l.at;
  value = l.value;
  forced = l.forced;
  deep
      = l.deep;
  entry = l.entry;
  label = among_right _ xs ys l.label;
}

-- the label that comes with an add
first_label : (b : Bool) (k v : ℕ) (w u : Cell ℕ) (more : List Act) → cell_prefix k w ≡ cell_prefix k u
    → entry w k ≡ Some v → Labeled (Add (cell_prefix (suc k) w) ∷ Label b (cell_prefix k u) k v (cell_prefix (suc k) w)
    ∷ more) (cell_prefix (suc k) w)
first_label b k v w u more e c = record {
  at = k;
  value = v;
  forced = b;
  deep = depth_cell_prefix k v w c;
  entry = entry_cell_prefix k (suc k) w (omega arith) ∙ c;
  label = inr (inl (ap (λ f. Label b f k v (cell_prefix (suc k) w))
      (cell_prefix-cell_prefix k (suc k) w (omega arith) ∙ e)));
}

-- each add comes with its label
module _ (n : ℕ) where
  module _ (more : List (Row ℕ) → List Act) (k : ℕ) (lt : k < n) (u : Cell ℕ) (rows : List (Row ℕ))
      (rows_long : HaveDims n rows)
      (ih : (part : List (Row ℕ)) → HaveDims n part → (q : Cell ℕ) → Among (Add q) (more part) → Labeled (more part) q)
      (q : Cell ℕ) where
    part_label : (v : ℕ) → Among v (codes_in k rows) → Among (Add q) (part_acts more k u v (part_at k rows v))
        → Labeled (part_acts more k u v (part_at k rows v)) q
    part_label v a = go (same_prefix k (shared_by (part_at k rows v)) u) refl
      where
        code : entry (shared_by (part_at k rows v)) k ≡ Some v
        code = let r : (r : Row ℕ) × Among r (part_at k rows v) = code_among k v rows a in
            part_entry n k v rows (shared_by (part_at k rows v)) (shared_by (part_at k rows v)) rows_long lt
            (closure-shared (part_at k rows v) (shared_by (part_at k rows v)) (shared_among (part_at k rows v) r.0 r.1))

        go : (b : Bool) → same_prefix k (shared_by (part_at k rows v)) u ≡ b
            → Among (Add q) (cond b (Add (cell_prefix (suc k) (shared_by (part_at k rows v))) ∷ []) []
            ++ (Label false (cell_prefix k u) k v (cell_prefix (suc k) (shared_by (part_at k rows v)))
            ∷ cond b (more (part_at k rows v)) []))
            → Labeled (cond b (Add (cell_prefix (suc k) (shared_by (part_at k rows v))) ∷ []) []
            ++ (Label false (cell_prefix k u) k v (cell_prefix (suc k) (shared_by (part_at k rows v)))
            ∷ cond b (more (part_at k rows v)) [])) q
        go true t h = elim h [
          | inl e ↦
              let is : q ≡ cell_prefix (suc k) (shared_by (part_at k rows v)) = cc in
              subst (Labeled (Add (cell_prefix (suc k) (shared_by (part_at k rows v)))
              ∷ Label false (cell_prefix k u) k v (cell_prefix (suc k) (shared_by (part_at k rows v)))
              ∷ more (part_at k rows v))) (sym is)
              (first_label false k v (shared_by (part_at k rows v)) u (more (part_at k rows v))
              (cell_eq-exact nat_equality _ _ t) code)
          | inr h ↦ elim h [
            | inl e ↦ absurd (cc)
            | inr h ↦ labeled_right q (Add (cell_prefix (suc k) (shared_by (part_at k rows v)))
                ∷ Label false (cell_prefix k u) k v (cell_prefix (suc k) (shared_by (part_at k rows v))) ∷ [])
                (more (part_at k rows v)) (ih (part_at k rows v) (dims_filter n (has_code k v) rows rows_long) q h)
          ]
        ]
        go false t h = elim h [ inl e ↦ absurd (cc) | inr h ↦ absurd h ]

    at_label : (o : Option ℕ) → entry u k ≡ o → Among (Add q) (acts_at more k u o rows)
        → Labeled (acts_at more k u o rows) q
    at_label (Some x) o h = elim h [
      | inl e ↦ let is : q ≡ cell_prefix (suc k) u = cc in
          subst (Labeled (Add (cell_prefix (suc k) u) ∷ Label true (cell_prefix k u) k x (cell_prefix (suc k) u) ∷ []))
          (sym is) (first_label true k x u u [] refl o)
      | inr h ↦ elim h [ inl e ↦ absurd (cc) | inr h ↦ absurd h ]
    ]
    at_label None o h =
        let r : (v : ℕ) × Among v (codes_in k rows) × Among (Add q) (part_acts more k u v (part_at k rows v))
        = flat_among (λ v. part_acts more k u v (part_at k rows v)) (Add q) (codes_in k rows) h in
        let l = part_label r.0 r.1 r.2 in
        record {
          at = l.at;
          value = l.value;
          forced = l.forced;
          deep = l.deep;
          entry = l.entry;
          label
              = among_flat (λ v. part_acts more k u v (part_at k rows v)) _ r.0 (codes_in k rows) r.1 l.label;
        }

  acts_label : (measures m k : ℕ) (rows : List (Row ℕ)) → m + k ≡ n → HaveDims n rows → (q : Cell ℕ)
      → Among (Add q) (acts measures m k rows) → Labeled (acts measures m k rows) q
  unfolding acts
  acts_label measures zero k rows e d q h = elim h [ inl e ↦ absurd (cc) | inr h ↦ absurd h ]
  acts_label measures (suc m) k rows e d q h
      = elim (among_either (Add q)
      (acts_at (acts measures m (suc k)) k (shared_by rows) (entry (shared_by rows) k) rows)
      (acts measures m (suc k) rows) h) [
        | inl a ↦ labeled_left q (acts_at (acts measures m (suc k)) k (shared_by rows) (entry (shared_by rows) k) rows)
            (acts measures m (suc k) rows)
            (at_label (acts measures m (suc k)) k (omega arith) (shared_by rows) rows d
            (λ part l q h. acts_label measures m (suc k) part (omega arith) l q h) q (entry (shared_by rows) k) refl a)
        | inr b ↦ labeled_right q (acts_at (acts measures m (suc k)) k (shared_by rows) (entry (shared_by rows) k) rows)
            (acts measures m (suc k) rows) (acts_label measures m (suc k) rows (omega arith) d q b)
      ]

-- the prefixes of u before k are there
pub record OnPath (k : ℕ) (u : Cell ℕ) (done : List Act) : Type 0 where
  pub root : Among (Add (cell_prefix 0 u)) done
  pub there : (j v : ℕ) → j < k → entry u j ≡ Some v → IsLabelled done (cell_prefix (suc j) u)

on_more : (k : ℕ) (u : Cell ℕ) (done es : List Act) → OnPath k u done → OnPath k u (done ++ es)
on_more k u done es o =
    record {
      root = among_left _ done es o.root;
      there
          = λ j v l e. there_left (cell_prefix (suc j) u) done es (o.there j v l e);
    }

stands : (k : ℕ) (u : Cell ℕ) (done : List Act) → OnPath k u done → HasPath done (cell_prefix k u)
stands k u done o = record {
  root = subst (λ c. Among (Add c) done) (sym (cell_prefix-cell_prefix 0 k u (omega arith))) o.root;
  there = λ j v e.
      let l : j < k = prefix_entry k j v u e in
      subst (IsLabelled done) (sym (cell_prefix-cell_prefix (suc j) k u (omega arith)))
      (o.there j v l (sym (entry_cell_prefix j k u l) ∙ e));
}

-- once the next prefix is there with its label
on_next : (b : Bool) (k v : ℕ) (w u : Cell ℕ) (done : List Act) → cell_prefix k w ≡ cell_prefix k u → entry w k ≡ Some v
    → OnPath k u done → OnPath (suc k) w
    (done ++ (Add (cell_prefix (suc k) w) ∷ Label b (cell_prefix k u) k v (cell_prefix (suc k) w) ∷ []))
on_next b k v w u done e c o = record {
  root = among_left _ done _ (subst (λ c. Among (Add c) done) (sym (cell_prefix-cell_prefix 0 k u (omega arith))
      ∙ ap (cell_prefix 0) (sym e) ∙ cell_prefix-cell_prefix 0 k w (omega arith)) o.root);
  there = λ j x l f. elim (below_or j k l) [
    | inl a ↦
        let up : cell_prefix (suc j) u ≡ cell_prefix (suc j) w = sym (cell_prefix-cell_prefix (suc j) k u (omega arith))
        ∙ ap (cell_prefix (suc j)) (sym e) ∙ cell_prefix-cell_prefix (suc j) k w (omega arith) in
        there_left (cell_prefix (suc j) w) done _
        (subst (IsLabelled done) up (o.there j x a (sym (entry_cell_prefix j k u a) ∙ ap (λ z. entry z j) (sym e)
        ∙ entry_cell_prefix j k w a ∙ f)))
    | inr i ↦ subst (λ j. IsLabelled
        (done ++ (Add (cell_prefix (suc k) w) ∷ Label b (cell_prefix k u) k v (cell_prefix (suc k) w) ∷ []))
        (cell_prefix (suc j) w)) (sym i)
        (there_right (cell_prefix (suc k) w) done
        (Add (cell_prefix (suc k) w) ∷ Label b (cell_prefix k u) k v (cell_prefix (suc k) w) ∷ []) (inl refl)
        (first_label b k v w u [] e c))
  ];
}

-- nodes with a value where u has none, before k, are there
abbrev pub AreBefore : List (Row ℕ) → ℕ → Cell ℕ → List Act → Type 0
AreBefore table k u done = (q : Cell ℕ) (l x : ℕ) → is_node nat_eq table q ≡ true → l < k
    → cell_prefix l q ≡ cell_prefix l u → entry u l ≡ None → entry q l ≡ Some x → IsLabelled done q

-- a new child and its label
two_ready : (b : Bool) (k v : ℕ) (w u : Cell ℕ) (done : List Act) → cell_prefix k w ≡ cell_prefix k u
    → entry w k ≡ Some v → OnPath k u done
    → Ready done (Add (cell_prefix (suc k) w) ∷ Label b (cell_prefix k u) k v (cell_prefix (suc k) w) ∷ [])
two_ready b k v w u done e c o = (
  record {
    at = k;
    deep = depth_cell_prefix k v w c;
    parent
        = subst (HasPath done) (sym (cell_prefix-cell_prefix k (suc k) w (omega arith) ∙ e)) (stands k u done o);
  },
  (
    (
      stands k u (done ++ Add (cell_prefix (suc k) w) ∷ []) (on_more k u done (Add (cell_prefix (suc k) w) ∷ []) o),
      inl (record {
        added = among_right _ done _ (inl refl);
        deep = depth_cell_prefix k v w c;
        entry
            = entry_cell_prefix k (suc k) w (omega arith) ∙ c;
        front
            = cell_prefix-cell_prefix k (suc k) w (omega arith) ∙ e;
      }),
    ),
    tt,
  ),
)

module _ (measures n : ℕ) (table : List (Row ℕ)) (all_long : HaveDims n table) where
  module _ (m k : ℕ) (fits : suc m + k ≡ n) (lt : k < n) (rows : List (Row ℕ)) (u : Cell ℕ) (is_u : u ≡ shared_by rows)
      (shared : IsShared rows u) (whole : cov nat_eq table (cell_prefix k u) ≡ rows)
      (ih : (part : List (Row ℕ)) (done : List Act) → IsShared part (shared_by part)
      → cov nat_eq table (cell_prefix (suc k) (shared_by part)) ≡ part → OnPath (suc k) (shared_by part) done
      → AreBefore table (suc k) (shared_by part) done → Ready done (acts measures m (suc k) part)) where
    link_path : (v : ℕ) (w : Cell ℕ) → IsShared (part_at k rows v) w → (done : List Act) → OnPath k u done
        → AreBefore table k u done → (cell_prefix k w ≡ cell_prefix k u → ⊥) → HasPath done (cell_prefix (suc k) w)
    link_path v w is done on before other =
        let wl : length w ≡ n = w_length n table all_long k lt rows u shared whole v w is in
        let ul : length u ≡ n = u_length n table all_long k lt rows u shared whole in
        let d : Differs k u w = first_difference k u w (shared_part k v rows u w shared is) (wl ∙ sym ul) other in
        let b : d.at < k = d.below in
        record {
          root = subst (λ c. Among (Add c) done) (zero_prefix u w (ul ∙ sym wl)
              ∙ sym (cell_prefix-cell_prefix 0 (suc k) w (omega arith))) on.root;
          there = λ j x e.
              let l : j < suc k = prefix_entry (suc k) j x w e in
              let has : entry w j ≡ Some x = sym (entry_cell_prefix j (suc k) w l) ∙ e in
              subst (IsLabelled done) (sym (cell_prefix-cell_prefix (suc j) (suc k) w (omega arith)))
              (elim (cases_lt j d.at) [
                | inl a ↦
                    subst (IsLabelled done) (sym (cell_prefix-cell_prefix (suc j) d.at u (omega arith))
                    ∙ ap (cell_prefix (suc j)) (sym d.same) ∙ cell_prefix-cell_prefix (suc j) d.at w (omega arith))
                    (on.there j x (omega arith) (sym (entry_cell_prefix j d.at u a) ∙ ap (λ z. entry z j) (sym d.same)
                    ∙ entry_cell_prefix j d.at w a ∙ has))
                | inr a ↦ before (cell_prefix (suc j) w) d.at d.value
                    (class_prefixes nat_equality table (suc j) w
                    ((is_class-is nat_equality table w).1
                    (w_class n table all_long k lt rows u shared whole v w is)))
                    d.below (cell_prefix-cell_prefix d.at (suc j) w (omega arith) ∙ d.same) d.none
                    (entry_cell_prefix d.at (suc j) w (omega arith) ∙ d.some)
              ]);
        }

    before_part : (v : ℕ) (w : Cell ℕ) → IsShared (part_at k rows v) w → (done es : List Act) → AreBefore table k u done
        → cell_prefix k w ≡ cell_prefix k u → AreBefore table (suc k) w (done ++ es)
    before_part v w is done es before e q l x node less same none some = elim (below_or l k less) [
      | inl a ↦ there_left q done es (before q l x node a (same ∙ sym (cell_prefix-cell_prefix l k w (omega arith))
          ∙ ap (cell_prefix l) e ∙ cell_prefix-cell_prefix l k u (omega arith)) (sym (entry_cell_prefix l k u a)
          ∙ ap (λ c. entry c l) (sym e) ∙ entry_cell_prefix l k w a ∙ none) some)
      | inr i ↦ absurd (let f : entry w k ≡ None = ap (entry w) (sym i) ∙ none in
          let g = w_code n table all_long k lt rows u shared whole v w is in cc)
    ]

    part_ready : (v : ℕ) → Among v (codes_in k rows) → (done : List Act) → OnPath k u done → AreBefore table k u done
        → Ready done (part_acts (acts measures m (suc k)) k u v (part_at k rows v))
    part_ready v a done on before = go (same_prefix k (shared_by (part_at k rows v)) u) refl
      where
        is : IsShared (part_at k rows v) (shared_by (part_at k rows v))
        is = let r : (r : Row ℕ) × Among r (part_at k rows v) = code_among k v rows a in
            shared_among (part_at k rows v) r.0 r.1

        go : (b : Bool) → same_prefix k (shared_by (part_at k rows v)) u ≡ b
            → Ready done (cond b (Add (cell_prefix (suc k) (shared_by (part_at k rows v))) ∷ []) []
            ++ (Label false (cell_prefix k u) k v (cell_prefix (suc k) (shared_by (part_at k rows v)))
            ∷ cond b (acts measures m (suc k) (part_at k rows v)) []))
        go true t =
            let e : cell_prefix k (shared_by (part_at k rows v)) ≡ cell_prefix k u = cell_eq-exact nat_equality _ _ t in
            let code : entry (shared_by (part_at k rows v)) k ≡ Some v
            = w_code n table all_long k lt rows u shared whole v (shared_by (part_at k rows v)) is in
            let two = Add (cell_prefix (suc k) (shared_by (part_at k rows v))) ∷ Label false (cell_prefix k u) k v
            (cell_prefix (suc k) (shared_by (part_at k rows v))) ∷ [] in
            ready_append done two (acts measures m (suc k) (part_at k rows v))
            (two_ready false k v (shared_by (part_at k rows v)) u done e code on)
            (ih (part_at k rows v) (done ++ two) is
            (part_whole n table all_long k lt rows u shared whole v (shared_by (part_at k rows v)) is e)
            (on_next false k v (shared_by (part_at k rows v)) u done e code on)
            (before_part v (shared_by (part_at k rows v)) is done two before e))
        go false t = (
          (
            stands k u done on,
            inr (link_path v (shared_by (part_at k rows v)) is done on before
                (λ e. true≢false (sym (ap (λ c. cell_eq nat_eq c (cell_prefix k u)) e
                ∙ cell_eq-same nat_equality (cell_prefix k u)) ∙ t))),
          ),
          tt,
        )

    codes_ready : (vs : List ℕ) → ((v : ℕ) → Among v vs → Among v (codes_in k rows)) → (done : List Act)
        → OnPath k u done → AreBefore table k u done
        → Ready done (flat_map (λ v. part_acts (acts measures m (suc k)) k u v (part_at k rows v)) vs)
    codes_ready [] sub done on before = tt
    codes_ready (v ∷ vs) sub done on before =
        let es = part_acts (acts measures m (suc k)) k u v (part_at k rows v) in
        ready_append done es (flat_map (λ v. part_acts (acts measures m (suc k)) k u v (part_at k rows v)) vs)
        (part_ready v (sub v (inl refl)) done on before)
        (codes_ready vs (λ w a. sub w (inr a)) (done ++ es) (on_more k u done es on)
        (λ q l x node less same none some. there_left q done es (before q l x node less same none some)))

    -- what is there once dimension k is done, where u has no value
    before_later : entry u k ≡ None
        → AreVisits measures rows k u (visit_at (visit measures m (suc k)) k u None rows
        ++ visit measures m (suc k) rows) → AreVisits measures rows (suc k) u (visit measures m (suc k) rows)
        → (done : List Act) → AreBefore table k u done
        → AreBefore table (suc k) u (done ++ acts_at (acts measures m (suc k)) k u None rows)
    before_later empty now later done before q l x node less same none some = elim (below_or l k less) [
      | inl a ↦ there_left q done _ (before q l x node a same none some)
      | inr i ↦ new (subst (λ j. cell_prefix j q ≡ cell_prefix j u) i same) (subst (λ j. entry q j ≡ Some x) i some)
    ]
      where
        new : cell_prefix k q ≡ cell_prefix k u → entry q k ≡ Some x
            → IsLabelled (done ++ acts_at (acts measures m (suc k)) k u None rows) q
        new e some =
            let p : (c : Cell ℕ) × (closure nat_eq table q ≡ Some c) × (cell_prefix (depth q) c ≡ q)
            = node_closed nat_equality table q node in
            let deep : k < depth q = depth_beyond k x q some in
            let rows_long : HaveDims n rows = long n table all_long k lt rows u shared whole in
            let among = now.all (Made q)
            (record {
              class = p.0;
              closure
                  = within n table all_long k lt rows u shared whole q
                  (prefix_low n table all_long k lt rows u shared whole q e) ∙ p.1;
              front = e;
              kind
                  = record { front = p.2; deep = deep };
            }) in
            let made : Among (Made q) (visit_at (visit measures m (suc k)) k u None rows)
            = elim (among_either (Made q) (visit_at (visit measures m (suc k)) k u None rows)
            (visit measures m (suc k) rows) among) [
              | inl a ↦ a
              | inr b ↦ absurd (let f : entry q k ≡ entry u k
                  = cell_prefix_entry k q u
                  (all_at (IsVisit measures rows (suc k) u) (Made q) (visit measures m (suc k) rows) later.sound
                  b).front in cc)
            ] in
            let added : Among (Add q) (acts_at (acts measures m (suc k)) k u None rows) =
            visit_add q (acts_at (acts measures m (suc k)) k u None rows)
            (subst (Among (Made q))
            (sym (at_visits (acts measures m (suc k)) (visit measures m (suc k))
            (acts_visits measures m (suc k)) k u rows None)) made) in
            there_right q done (acts_at (acts measures m (suc k)) k u None rows) added
            (at_label n (acts measures m (suc k)) k lt u rows rows_long
            (λ part l q h. acts_label n measures m (suc k) part (omega arith) l q h) q None empty added)

    step : (o : Option ℕ) → entry u k ≡ o
        → AreVisits measures rows k u (visit_at (visit measures m (suc k)) k u o rows ++ visit measures m (suc k) rows)
        → AreVisits measures rows (suc k) u (visit measures m (suc k) rows)
        → (done : List Act) → OnPath k u done → AreBefore table k u done
        → ((d : List Act) → OnPath (suc k) u d → AreBefore table (suc k) u d
        → Ready d (acts measures m (suc k) rows))
        → Ready done (acts_at (acts measures m (suc k)) k u o rows ++ acts measures m (suc k) rows)
    step (Some x) o now later done on before rest =
        let two = Add (cell_prefix (suc k) u) ∷ Label true (cell_prefix k u) k x (cell_prefix (suc k) u) ∷ [] in
        ready_append done two (acts measures m (suc k) rows) (two_ready true k x u u done refl o on)
        (rest (done ++ two) (on_next true k x u u done refl o on)
        (λ q l y node less same none some. elim (below_or l k less) [
          | inl a ↦ there_left q done two (before q l y node a same none some)
          | inr i ↦ absurd (let f : entry u k ≡ None = ap (entry u) (sym i) ∙ none in cc)
        ]))
    step None o now later done on before rest =
        let es = acts_at (acts measures m (suc k)) k u None rows in
        ready_append done es (acts measures m (suc k) rows) (codes_ready (codes_in k rows) (λ v a. a) done on before)
        (rest (done ++ es)
        (record {
          root = among_left _ done es on.root;
          there = λ j v l e. elim (below_or j k l) [
            | inl a ↦ there_left (cell_prefix (suc j) u) done es (on.there j v a e)
            | inr i ↦ absurd (let f : entry u k ≡ Some v = ap (entry u) (sym i) ∙ e in cc)
          ];
        })
        (before_later o now later done before))

  pub all_ready : (m k : ℕ) (rows : List (Row ℕ)) (done : List Act) → m + k ≡ n → IsShared rows (shared_by rows)
      → cov nat_eq table (cell_prefix k (shared_by rows)) ≡ rows
      → OnPath k (shared_by rows) done → AreBefore table k (shared_by rows) done → Ready done (acts measures m k rows)
  unfolding acts visit
  all_ready zero k rows done e shared whole on before =
      let l : length (shared_by rows) ≡ n
      = closure_length nat_eq n (cell_prefix k (shared_by rows)) (shared_by rows) table all_long
      (ap (λ rs. meet_all nat_eq (cells_of rs)) whole ∙ shared) in
      (subst (HasPath done) (cell_prefix_all k (shared_by rows) (omega arith)) (stands k (shared_by rows) done on), tt)
  all_ready (suc m) k rows done e shared whole on before =
      let lt : k < n = omega arith in
      let rows_long : HaveDims n rows = long n table all_long k lt rows (shared_by rows) shared whole in
      let now : AreVisits measures rows k (shared_by rows)
      (visit_at (visit measures m (suc k)) k (shared_by rows) (entry (shared_by rows) k) rows
      ++ visit measures m (suc k) rows) = visits measures (suc m) k n rows e rows_long shared in
      let later : AreVisits measures rows (suc k) (shared_by rows) (visit measures m (suc k) rows)
      = visits measures m (suc k) n rows (omega arith) rows_long shared in
      step m k e lt rows (shared_by rows) refl shared whole
      (λ part d s w o b. all_ready m (suc k) part d (omega arith) s w o b)
      (entry (shared_by rows) k) refl now later done on before
      (λ d o b. all_ready m (suc k) rows d (omega arith) shared
      (whole_next n table all_long k lt rows (shared_by rows) shared whole) o b)

  -- the whole trace, after the root
  pub trace_ready : IsShared table (shared_by table)
      → Ready (Add (cell_prefix 0 (shared_by table)) ∷ []) (acts measures n 0 table)
  trace_ready shared =
      all_ready n 0 table (Add (cell_prefix 0 (shared_by table)) ∷ []) (omega arith) shared
      (root_whole measures n table all_long shared)
      (record { root = inl refl; there = λ j v l. absurd (omega arith) }) (λ q l x node less. absurd (omega arith))

-- what a path says: at each prefix of t the label of t's next value leads on
pub path_labels : (done : List Act) (t : Cell ℕ) → HasPath done t → (j v : ℕ) → entry t j ≡ Some v → (b : Bool)
    × Among (Label b (cell_prefix j t) j v (cell_prefix (suc j) t)) done
path_labels done t p j v e =
    let h : IsLabelled done (cell_prefix (suc j) t) = p.there j v e in
    let d : h.at ≡ j = let a : depth (cell_prefix (suc j) t) ≡ suc h.at = h.deep in
    let b : depth (cell_prefix (suc j) t) ≡ suc j = depth_cell_prefix j v t e in omega arith in
    let value : h.value ≡ v =
    let a : entry (cell_prefix (suc j) t) h.at ≡ Some h.value = h.entry in
    let b : entry (cell_prefix (suc j) t) h.at ≡ Some v = ap (entry (cell_prefix (suc j) t)) d
    ∙ entry_cell_prefix j (suc j) t (omega arith) ∙ e in
    cc in (
      h.forced,
      subst (λ x. Among (Label h.forced (cell_prefix j t) j x (cell_prefix (suc j) t)) done) value
          (subst (λ f. Among (Label h.forced f j h.value (cell_prefix (suc j) t)) done)
          (cell_prefix-cell_prefix j (suc j) t (omega arith))
          (subst (λ i. Among (Label h.forced (cell_prefix i (cell_prefix (suc j) t)) i h.value (cell_prefix (suc j) t))
          done) d h.label)),
    )

module _ (measures n : ℕ) (table : List (Row ℕ)) (all_long : HaveDims n table)
    (shared : IsShared table (shared_by table)) where
  -- at each act after the root's all that it needs is there
  ok_at : (x : Act) (xs : List Act) (e : Act) (ys : List Act) → trace measures n table ≡ x ∷ (xs ++ e ∷ ys)
      → MayFollow (x ∷ xs) e
  ok_at x xs e ys s =
      let head : Add (cell_prefix 0 (shared_by table)) ≡ x = cc in
      let tail : acts measures n 0 table ≡ xs ++ e ∷ ys = cc in
      subst (λ z. MayFollow (z ∷ xs) e) head
      (ready_at (Add (cell_prefix 0 (shared_by table)) ∷ []) xs e ys
      (subst (Ready (Add (cell_prefix 0 (shared_by table)) ∷ [])) tail
      (trace_ready measures n table all_long shared)))

  pub label_ok : (xs ys : List Act) (b : Bool) (f : Cell ℕ) (i v : ℕ) (t : Cell ℕ)
      → trace measures n table ≡ xs ++ Label b f i v t ∷ ys → HasPath xs f × (IsNew xs f i v t ⊎ HasPath xs t)
  label_ok [] ys b f i v t e = cc
  label_ok (x ∷ xs) ys b f i v t e = ok_at x xs (Label b f i v t) ys e

  pub mark_ok : (xs ys : List Act) (w : Cell ℕ) (a : Agg) → trace measures n table ≡ xs ++ Mark w a ∷ ys → HasPath xs w
  mark_ok [] ys w a e = cc
  mark_ok (x ∷ xs) ys w a e = ok_at x xs (Mark w a) ys e
