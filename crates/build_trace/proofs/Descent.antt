-- What the trace sets at a node, wherever the walk meets it, is the rest of the node's edges.
use Rattle.std.proofs.Common.{◌≡◌, ℕ, zero, suc, ◌+◌, ◌<◌, ◌≤◌, Bool, true, false, cond, Option, Some, None, List, [], ◌∷◌, ◌++◌, flat_map}
use Rattle.std.proofs.Common.{length, nat_eq, append-nil, inl, inr, ◌⊎◌, refl, sym, ap, ap₂, subst, ◌∙◌, arith, true≢false}
use Rattle.std.proofs.lemmas.Bool.{cond-false, false_from_ne_true}
use Rattle.cube_defs.specs.Cell.{Cell, cell_prefix, depth, cell_eq}
use Rattle.cube_defs.specs.Rows.{Row, covers, cov, closure, meet_all}
use Rattle.cube_laws.specs.Lists.{Among}
use Rattle.cube_laws.specs.Tuples.{cells_of}
use Rattle.cube_laws.proofs.CallerLemmas.{nat_equality, cell_eq-exact, cell_eq-same, cell_prefix-depth, length-cell_prefix, closure_length}
use Rattle.cube_laws.proofs.CallerLemmas.{some_covered, IsShared, HaveDims, entry, closure-shared}
use Rattle.tree_laws.proofs.CallerLemmas.{cell_prefix-cell_prefix, depth-cell_prefix-le, EachOnce, some_same}
use Rattle.cube_laws.specs.Parting.{shared_by, part_at, codes_in}
use Rattle.build_trace.specs.Walk.{same_prefix}
use Rattle.build_trace.specs.Trace.{Act, Act.{Add, Label}, Put, part_acts, acts_at, acts, puts_of}
use Rattle.build_trace.proofs.Lists.{below_or}
use Rattle.build_trace.proofs.Prefixes.{cell_prefix_next, cell_prefix_entry, leq_entry, covers_code, prefix_between, entry_cell_prefix}
use Rattle.build_trace.proofs.Parting.{closure-part, part_entry, shared_below, shared_part, shared_among, among_codes, code_among}
use Rattle.build_trace.proofs.Parting.{once_codes}
use Rattle.build_trace.proofs.Links.{long, whole_next, within, prefix_low, part_whole}
use Rattle.build_trace.proofs.Steps.{puts_append}
use Rattle.build_trace.proofs.Acted.{starts, puts_none, puts_set, puts_from}

flat_none : (q : Cell ℕ) (f : ℕ → List Act) (vs : List ℕ) → ((v : ℕ) → Among v vs → puts_of q (f v) ≡ [])
    → puts_of q (flat_map f vs) ≡ []
flat_none q f [] h = refl
flat_none q f (v ∷ vs) h = puts_append q (f v) (flat_map f vs)
    ∙ ap₂ (λ xs ys. xs ++ ys) (h v (inl refl)) (flat_none q f vs (λ w a. h w (inr a)))

flat_one : (q : Cell ℕ) (f : ℕ → List Act) (v : ℕ) (vs : List ℕ) → EachOnce vs → Among v vs
    → ((w : ℕ) → Among w vs → (w ≡ v → ⊥) → puts_of q (f w) ≡ []) → puts_of q (flat_map f vs) ≡ puts_of q (f v)
flat_one q f v [] o a h = absurd a
flat_one q f v (w ∷ vs) o a h = puts_append q (f w) (flat_map f vs) ∙ go (flat_one q f v vs o.1) a
  where
    go : (Among v vs → ((x : ℕ) → Among x vs → (x ≡ v → ⊥) → puts_of q (f x) ≡ [])
        → puts_of q (flat_map f vs) ≡ puts_of q (f v)) → (v ≡ w) ⊎ Among v vs
        → puts_of q (f w) ++ puts_of q (flat_map f vs) ≡ puts_of q (f v)
    go more (inl e) = ap₂ (λ xs ys. xs ++ ys) (ap (λ z. puts_of q (f z)) (sym e))
        (flat_none q f vs (λ x b. h x (inr b) (λ s. o.0 (subst (λ z. Among z vs) (s ∙ e) b))))
        ∙ append-nil (puts_of q (f v))
    go more (inr b) = ap (λ xs. xs ++ puts_of q (flat_map f vs))
        (h w (inl refl) (λ s. o.0 (subst (λ z. Among z vs) (sym s) b))) ∙ more b (λ x c. h x (inr c))

not_here : (k : ℕ) (u q : Cell ℕ) → k < depth q → cell_eq nat_eq (cell_prefix k u) q ≡ false
not_here k u q deep = false_from_ne_true _ (λ t. let e : depth (cell_prefix k u) ≡ depth q
    = ap depth (cell_eq-exact nat_equality (cell_prefix k u) q t) in let b : depth (cell_prefix k u) ≤ k
    = depth-cell_prefix-le k u in absurd (omega arith))

module _ (measures n : ℕ) (table : List (Row ℕ)) (all_long : HaveDims n table) where
  module _ (m k : ℕ) (fits : suc m + k ≡ n) (lt : k < n) (rows : List (Row ℕ)) (u : Cell ℕ) (shared : IsShared rows u)
      (whole : cov nat_eq table (cell_prefix k u) ≡ rows)
      (q c : Cell ℕ) (closed : closure nat_eq table q ≡ Some c) (front : cell_prefix (depth q) c ≡ q)
      (deep : k < depth q) (same : cell_prefix k q ≡ cell_prefix k u) where
    q_entry : entry q k ≡ entry c k
    q_entry = ap (λ z. entry z k) (sym front) ∙ entry_cell_prefix k (depth q) c deep

    q_closed : closure nat_eq rows q ≡ Some c
    q_closed = within n table all_long k lt rows u shared whole q
        (prefix_low n table all_long k lt rows u shared whole q same) ∙ closed

    rows_long : HaveDims n rows
    rows_long = long n table all_long k lt rows u shared whole

    q_length : length q ≡ n
    q_length = sym (ap length front) ∙ length-cell_prefix (depth q) c
        ∙ closure_length nat_eq n q c table all_long closed

    u_length : length u ≡ n
    u_length = closure_length nat_eq n u u rows rows_long (closure-shared rows u shared)

    c_same : cell_prefix k c ≡ cell_prefix k u
    c_same = sym (cell_prefix-cell_prefix k (depth q) c (omega arith)) ∙ ap (cell_prefix k) front ∙ same

    is_shared : (v : ℕ) → Among v (codes_in k rows) → IsShared (part_at k rows v) (shared_by (part_at k rows v))
    is_shared v a = let r : (r : Row ℕ) × Among r (part_at k rows v) = code_among k v rows a in
        shared_among (part_at k rows v) r.0 r.1

    part_code : (v : ℕ) → Among v (codes_in k rows) → entry (shared_by (part_at k rows v)) k ≡ Some v
    part_code v a = part_entry n k v rows (shared_by (part_at k rows v)) (shared_by (part_at k rows v)) rows_long lt
        (closure-shared (part_at k rows v) (shared_by (part_at k rows v)) (is_shared v a))

    part_none : (v : ℕ) → Among v (codes_in k rows) → (entry q k ≡ Some v → ⊥)
        → puts_of q (part_acts (acts measures m (suc k)) k u v (part_at k rows v)) ≡ []
    part_none v a other = go (same_prefix k (shared_by (part_at k rows v)) u)
      where
        go : (b : Bool) → puts_of q (cond b (Add (cell_prefix (suc k) (shared_by (part_at k rows v))) ∷ []) []
            ++ (Label false (cell_prefix k u) k v (cell_prefix (suc k) (shared_by (part_at k rows v)))
            ∷ cond b (acts measures m (suc k) (part_at k rows v)) [])) ≡ []
        go true =
            cond-false (cell_eq nat_eq (cell_prefix k u) q) _ _ (not_here k u q deep)
            ∙ puts_none (suc k) (shared_by (part_at k rows v)) q (acts measures m (suc k) (part_at k rows v))
            (starts measures m (suc k) (part_at k rows v))
            (λ s. other (cell_prefix_entry k q (shared_by (part_at k rows v)) s ∙ part_code v a))
        go false = cond-false (cell_eq nat_eq (cell_prefix k u) q) _ _ (not_here k u q deep)

    module _ (v : ℕ) (some : entry q k ≡ Some v) where
      among : Among v (codes_in k rows)
      among =
          let r : (r : Row ℕ) × Among r rows × (covers nat_eq q r ≡ true) = some_covered nat_eq n q c rows q_closed in
          among_codes k v rows r.0 r.1 (covers_code k v q r.0.tuple r.2 some)

      prefix_same : cell_prefix k (shared_by (part_at k rows v)) ≡ cell_prefix k u
      prefix_same =
          prefix_between k u (shared_by (part_at k rows v)) c
          (shared_part k v rows u (shared_by (part_at k rows v)) shared (is_shared v among))
          (shared_below (part_at k rows v) (shared_by (part_at k rows v)) q c (is_shared v among)
          (closure-part k v rows q some ∙ q_closed)) c_same

      part_some : puts_of q (part_acts (acts measures m (suc k)) k u v (part_at k rows v))
          ≡ puts_of q (acts measures m (suc k) (part_at k rows v))
      part_some = go (same_prefix k (shared_by (part_at k rows v)) u) refl
        where
          go : (b : Bool) → same_prefix k (shared_by (part_at k rows v)) u ≡ b
              → puts_of q (cond b (Add (cell_prefix (suc k) (shared_by (part_at k rows v))) ∷ []) []
              ++ (Label false (cell_prefix k u) k v (cell_prefix (suc k) (shared_by (part_at k rows v)))
              ∷ cond b (acts measures m (suc k) (part_at k rows v)) []))
              ≡ puts_of q (acts measures m (suc k) (part_at k rows v))
          go true t = cond-false (cell_eq nat_eq (cell_prefix k u) q) _ _ (not_here k u q deep)
          go false t = absurd (true≢false
              (sym (ap (λ x. cell_eq nat_eq x (cell_prefix k u)) prefix_same
              ∙ cell_eq-same nat_equality (cell_prefix k u)) ∙ t))

      part_length : length (shared_by (part_at k rows v)) ≡ n
      part_length = closure_length nat_eq n (cell_prefix (suc k) (shared_by (part_at k rows v)))
          (shared_by (part_at k rows v)) table all_long
          (ap (λ rs. meet_all nat_eq (cells_of rs))
          (part_whole n table all_long k lt rows u shared whole v (shared_by (part_at k rows v))
          (is_shared v among) prefix_same) ∙ is_shared v among)

      part_same : cell_prefix (suc k) q ≡ cell_prefix (suc k) (shared_by (part_at k rows v))
      part_same = cell_prefix_next k q (shared_by (part_at k rows v)) (q_length ∙ sym part_length) (same
          ∙ sym prefix_same) (some ∙ sym (part_code v among))

    step : (goal : List Put) → u ≡ shared_by rows
        → (cell_prefix (suc k) q ≡ cell_prefix (suc k) (shared_by rows)
        → puts_of q (acts measures m (suc k) rows) ≡ goal)
        → ((part : List (Row ℕ)) → IsShared part (shared_by part)
        → cov nat_eq table (cell_prefix (suc k) (shared_by part)) ≡ part
        → cell_prefix (suc k) q ≡ cell_prefix (suc k) (shared_by part)
        → puts_of q (acts measures m (suc k) part) ≡ goal)
        → (o p : Option ℕ) → entry u k ≡ o → entry q k ≡ p → puts_of q (acts_at (acts measures m (suc k)) k u o rows)
        ++ puts_of q (acts measures m (suc k) rows) ≡ goal
    step goal is rest part (Some x) p e f =
        let has : entry c k ≡ Some x = leq_entry k x u c (shared_below rows u q c shared q_closed) e in
        ap (λ xs. xs ++ puts_of q (acts measures m (suc k) rows))
        (cond-false (cell_eq nat_eq (cell_prefix k u) q) _ _ (not_here k u q deep))
        ∙ rest (cell_prefix_next k q u (q_length ∙ sym u_length) same (q_entry ∙ has ∙ sym e)
        ∙ ap (cell_prefix (suc k)) is)
    step goal is rest part None None e f =
        ap (λ xs. xs ++ puts_of q (acts measures m (suc k) rows))
        (flat_none q (λ v. part_acts (acts measures m (suc k)) k u v (part_at k rows v)) (codes_in k rows)
        (λ v a. part_none v a (λ s. let g : None ≡ Some v = sym f ∙ s in cc)))
        ∙ rest (cell_prefix_next k q u (q_length ∙ sym u_length) same (f ∙ sym e) ∙ ap (cell_prefix (suc k)) is)
    step goal is rest part None (Some v) e f =
        ap₂ (λ xs ys. xs ++ ys)
        (flat_one q (λ v. part_acts (acts measures m (suc k)) k u v (part_at k rows v)) v (codes_in k rows)
        (once_codes k rows) (among v f)
        (λ w a other. part_none w a (λ s. other (let g : Some v ≡ Some w = sym f ∙ s in cc)))
        ∙ part_some v f
        ∙ part (part_at k rows v) (is_shared v (among v f))
        (part_whole n table all_long k lt rows u shared whole v (shared_by (part_at k rows v))
        (is_shared v (among v f)) (prefix_same v f)) (part_same v f))
        (puts_none (suc k) (shared_by rows) q (acts measures m (suc k) rows) (starts measures m (suc k) rows)
        (λ s. let g : entry q k ≡ entry u k = cell_prefix_entry k q u (s ∙ ap (cell_prefix (suc k)) (sym is)) in
        cc))
        ∙ append-nil goal

  here : (m k : ℕ) (rows : List (Row ℕ)) → m + k ≡ n → IsShared rows (shared_by rows)
      → cov nat_eq table (cell_prefix k (shared_by rows)) ≡ rows
      → (q c : Cell ℕ) → closure nat_eq table q ≡ Some c → depth q ≡ k
      → cell_prefix k q ≡ cell_prefix k (shared_by rows)
      → (j : ℕ) → j + depth q ≡ n → puts_of q (acts measures m k rows) ≡ puts_from table q j (depth q) c
  here m k rows fits shared whole q c closed d same j fit =
      let is : q ≡ cell_prefix k (shared_by rows) = sym (cell_prefix-depth q) ∙ ap (λ i. cell_prefix i q) d ∙ same in
      let own : closure nat_eq table q ≡ Some (shared_by rows) = ap (closure nat_eq table) is
      ∙ ap (λ rs. meet_all nat_eq (cells_of rs)) whole ∙ shared in
      let cls : shared_by rows ≡ c = some_same (sym own ∙ closed) in
      let left : m ≡ j = omega arith in
      ap (λ p. puts_of p (acts measures m k rows)) is
      ∙ puts_set measures n table all_long m k rows fits shared whole
      ∙ ap (λ p. puts_from table p m k (shared_by rows)) (sym is)
      ∙ ap (λ i. puts_from table q m i (shared_by rows)) (sym d)
      ∙ ap₂ (λ i w. puts_from table q i (depth q) w) left cls

  pub puts_in : (m k : ℕ) (rows : List (Row ℕ)) → m + k ≡ n → IsShared rows (shared_by rows)
      → cov nat_eq table (cell_prefix k (shared_by rows)) ≡ rows
      → (q c : Cell ℕ) → closure nat_eq table q ≡ Some c → cell_prefix (depth q) c ≡ q → k ≤ depth q
      → cell_prefix k q ≡ cell_prefix k (shared_by rows)
      → (j : ℕ) → j + depth q ≡ n → puts_of q (acts measures m k rows) ≡ puts_from table q j (depth q) c
  unfolding acts
  puts_in zero k rows fits shared whole q c closed front low same j fit =
      let d : depth q ≡ k = omega arith in
      here zero k rows fits shared whole q c closed d same j fit
  puts_in (suc m) k rows fits shared whole q c closed front low same j fit = elim (below_or k (depth q) (omega arith)) [
    | inl deep ↦ puts_append q (acts_at (acts measures m (suc k)) k (shared_by rows) (entry (shared_by rows) k) rows)
        (acts measures m (suc k) rows)
        ∙ step m k fits (omega arith) rows (shared_by rows) shared whole q c closed front deep same
        (puts_from table q j (depth q) c) refl
        (λ s. puts_in m (suc k) rows (omega arith) shared
        (whole_next n table all_long k (omega arith) rows (shared_by rows) shared whole) q c closed front
        (omega arith) s j fit)
        (λ part is w s. puts_in m (suc k) part (omega arith) is w q c closed front (omega arith) s j fit)
        (entry (shared_by rows) k) (entry q k) refl refl
    | inr d ↦ here (suc m) k rows fits shared whole q c closed (sym d) same j fit
  ]
