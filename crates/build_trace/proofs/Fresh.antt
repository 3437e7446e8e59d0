-- At each place of the trace: the node that is worked at was added, and a node that is added is new and bare.
use Rattle.std.proofs.Common.{Bool, ◌≡◌, inl, inr, ℕ, zero, suc, Option, Some, None, List, [], ◌∷◌, ◌++◌, nat_eq, refl, sym, ap, subst, ◌∙◌}
use Rattle.std.proofs.lemmas.Bool.{cond-false, false_from_ne_true}
use Rattle.std.proofs.lemmas.List.{append_assoc}
use Rattle.cube_defs.specs.Cell.{Cell, cell_prefix, depth, cell_eq}
use Rattle.cube_defs.specs.Rows.{Row, Agg}
use Rattle.cube_laws.specs.Lists.{Among}
use Rattle.cube_laws.proofs.CallerLemmas.{nat_equality, cell_eq-exact, cell_prefix-depth, IsShared, HaveDims, entry, among_left}
use Rattle.tree_laws.proofs.CallerLemmas.{EachOnce}
use Rattle.cube_laws.specs.Parting.{shared_by}
use Rattle.build_trace.specs.Trace.{Act, Act.{Add, Label, Mark}, acts, trace, puts_of, mark_by, mark_of}
use Rattle.build_trace.specs.Ready.{HasPath, Ready}
use Rattle.build_trace.proofs.Lists.{among_right}
use Rattle.build_trace.proofs.Prefixes.{last_entry}
use Rattle.build_trace.proofs.Visits.{Visit.{Made}, visits_of, visits_append, add_visit}
use Rattle.build_trace.proofs.Canonical.{once_visits}
use Rattle.build_trace.proofs.Ready.{label_ok, mark_ok, trace_ready}

-- the end of a path was added
pub path_end : (done : List Act) (t : Cell ℕ) → HasPath done t → Among (Add t) done
path_end done t p = go (depth t) refl
  where
    some : (d : ℕ) → depth t ≡ suc d → (o : Option ℕ) → entry t d ≡ o → Among (Add t) done
    some d e None o = absurd (last_entry d t e o)
    some d e (Some v) o = subst (λ c. Among (Add c) done) (ap (λ i. cell_prefix i t) (sym e) ∙ cell_prefix-depth t)
        (p.there d v o).added

    go : (d : ℕ) → depth t ≡ d → Among (Add t) done
    go zero e = subst (λ c. Among (Add c) done) (ap (λ i. cell_prefix i t) (sym e) ∙ cell_prefix-depth t) p.root
    go (suc d) e = some d e (entry t d) refl

-- in a ready list nothing is done at a node that isn't added before or in it
no_puts : (p : Cell ℕ) (done es : List Act) → Ready done es → (Among (Add p) (done ++ es) → ⊥) → puts_of p es ≡ []
no_puts p done [] r fresh = refl
no_puts p done (Add q ∷ es) r fresh
    = no_puts p (done ++ Add q ∷ []) es r.1 (λ a. fresh (subst (Among (Add p)) (append_assoc done (Add q ∷ []) es) a))
no_puts p done (Mark w a ∷ es) r fresh
    = no_puts p (done ++ Mark w a ∷ []) es r.1
    (λ b. fresh (subst (Among (Add p)) (append_assoc done (Mark w a ∷ []) es) b))
no_puts p done (Label b f i v t ∷ es) r fresh =
    cond-false (cell_eq nat_eq f p) _ _
    (false_from_ne_true _ (λ s. fresh
    (among_left (Add p) done (Label b f i v t ∷ es)
    (subst (λ c. Among (Add c) done) (cell_eq-exact nat_equality f p s) (path_end done f r.0.0)))))
    ∙ no_puts p (done ++ Label b f i v t ∷ []) es r.1
    (λ a. fresh (subst (Among (Add p)) (append_assoc done (Label b f i v t ∷ []) es) a))

no_mark : (p : Cell ℕ) (done es : List Act) → Ready done es → (Among (Add p) (done ++ es) → ⊥) → mark_of p es ≡ None
no_mark p done [] r fresh = refl
no_mark p done (Add q ∷ es) r fresh
    = no_mark p (done ++ Add q ∷ []) es r.1 (λ a. fresh (subst (Among (Add p)) (append_assoc done (Add q ∷ []) es) a))
no_mark p done (Label b f i v t ∷ es) r fresh
    = no_mark p (done ++ Label b f i v t ∷ []) es r.1
    (λ a. fresh (subst (Among (Add p)) (append_assoc done (Label b f i v t ∷ []) es) a))
no_mark p done (Mark w a ∷ es) r fresh =
    ap (λ o. mark_by o (cell_eq nat_eq w p) a)
    (no_mark p (done ++ Mark w a ∷ []) es r.1
    (λ b. fresh (subst (Among (Add p)) (append_assoc done (Mark w a ∷ []) es) b)))
    ∙ cond-false (cell_eq nat_eq w p) (Some a) None
    (false_from_ne_true _ (λ s. fresh
    (among_left (Add p) done (Mark w a ∷ es)
    (subst (λ c. Among (Add c) done) (cell_eq-exact nat_equality w p s) (path_end done w r.0)))))

ready_prefix : (done xs ys : List Act) → Ready done (xs ++ ys) → Ready done xs
ready_prefix done [] ys h = tt
ready_prefix done (x ∷ xs) ys h = (h.0, ready_prefix (done ++ x ∷ []) xs ys h.1)

once_split : {X : Type 0} (x : X) (xs ys : List X) → EachOnce (xs ++ x ∷ ys) → Among x xs → ⊥
once_split x [] ys o h = h
once_split x (y ∷ xs) ys o h
    = elim h [
      | inl e ↦ o.0 (subst (λ z. Among z (xs ++ x ∷ ys)) e (among_right x xs (x ∷ ys) (inl refl)))
      | inr k ↦ once_split x xs ys o.1 k
    ]

module _ (measures n : ℕ) (table : List (Row ℕ)) (all_long : HaveDims n table)
    (shared : IsShared table (shared_by table)) where
  -- where a label is set or a class is marked, the node was added
  pub act_node : (xs ys : List Act) (b : Bool) (f : Cell ℕ) (i v : ℕ) (t : Cell ℕ)
      → trace measures n table ≡ xs ++ Label b f i v t ∷ ys → Among (Add f) xs
  act_node xs ys b f i v t e = path_end xs f (label_ok measures n table all_long shared xs ys b f i v t e).0

  pub mark_node : (xs ys : List Act) (w : Cell ℕ) (a : Agg) → trace measures n table ≡ xs ++ Mark w a ∷ ys
      → Among (Add w) xs
  mark_node xs ys w a e = path_end xs w (mark_ok measures n table all_long shared xs ys w a e)

  -- a node that is added was not added before, and nothing was done at it
  pub add_fresh : (xs ys : List Act) (p : Cell ℕ) → trace measures n table ≡ xs ++ Add p ∷ ys → Among (Add p) xs → ⊥
  add_fresh xs ys p e a =
      once_split (Made p) (visits_of xs) (visits_of ys)
      (subst EachOnce (ap visits_of e ∙ visits_append xs (Add p ∷ ys)) (once_visits measures n table all_long shared))
      (add_visit p xs a)

  pub add_bare : (xs ys : List Act) (p : Cell ℕ) → trace measures n table ≡ xs ++ Add p ∷ ys → (puts_of p xs ≡ [])
      × (mark_of p xs ≡ None)
  add_bare [] ys p e = (refl, refl)
  add_bare (x ∷ xs) ys p e =
      let head : Add (cell_prefix 0 (shared_by table)) ≡ x = cc in
      let tail : acts measures n 0 table ≡ xs ++ Add p ∷ ys = cc in
      let r : Ready (Add (cell_prefix 0 (shared_by table)) ∷ []) xs
      = ready_prefix (Add (cell_prefix 0 (shared_by table)) ∷ []) xs (Add p ∷ ys)
      (subst (Ready (Add (cell_prefix 0 (shared_by table)) ∷ [])) tail
      (trace_ready measures n table all_long shared)) in
      let fresh : Among (Add p) (Add (cell_prefix 0 (shared_by table)) ∷ xs) → ⊥
      = λ a. add_fresh (x ∷ xs) ys p e (subst (λ z. Among (Add p) (z ∷ xs)) head a) in (
        ap (λ z. puts_of p (z ∷ xs)) (sym head) ∙ no_puts p (Add (cell_prefix 0 (shared_by table)) ∷ []) xs r fresh,
        ap (λ z. mark_of p (z ∷ xs)) (sym head) ∙ no_mark p (Add (cell_prefix 0 (shared_by table)) ∷ []) xs r fresh,
      )
