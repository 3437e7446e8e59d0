-- What the walk meets, without the labels: nodes that are made, and classes with their aggregates.
use Rattle.std.specs.Prelude.{ℕ, zero, suc, Bool, Option, Some, None, List, [], ◌∷◌, ◌++◌, cond, slice_index_or, flat_map}
use Rattle.cube_defs.specs.Cell.{Cell, cell_prefix, Cell, cell_prefix}
use Rattle.cube_defs.specs.Rows.{Row, Agg, agg_of, Row, Agg}
use Rattle.std.proofs.Common.{◌≡◌, ℕ, zero, suc, Bool, true, false, cond, Option, Some, None, List, [], ◌∷◌, ◌++◌, flat_map, inl, inr, refl}
use Rattle.std.proofs.Common.{ap, ap₂, ◌∙◌}
use Rattle.cube_laws.specs.Lists.{Among}
use Rattle.cube_laws.proofs.CallerLemmas.{entry}
use Rattle.cube_laws.specs.Parting.{shared_by, part_at, codes_in}
use Rattle.build_trace.specs.Walk.{same_prefix}
use Rattle.build_trace.specs.Trace.{Act, Act.{Add, Label, Mark}, part_acts, acts_at, acts}

pub data Visit : Type 0 where
  Made : Cell ℕ → Visit
  Marked : Cell ℕ → Agg → Visit

abbrev pub visit_part : (List (Row ℕ) → List Visit) → ℕ → Cell ℕ → List (Row ℕ) → List Visit
visit_part more k u rows
    = cond (same_prefix k (shared_by rows) u) (Made (cell_prefix (suc k) (shared_by rows)) ∷ more rows) []

abbrev pub visit_at : (List (Row ℕ) → List Visit) → ℕ → Cell ℕ → Option ℕ → List (Row ℕ) → List Visit
visit_at more k u None rows = flat_map (λ v. visit_part more k u (part_at k rows v)) (codes_in k rows)
visit_at more k u (Some x) rows = Made (cell_prefix (suc k) u) ∷ []

unfoldable pub visit : ℕ → ℕ → ℕ → List (Row ℕ) → List Visit
visit measures zero k rows = Marked (shared_by rows) (agg_of measures rows) ∷ []
visit measures (suc m) k rows
    = visit_at (visit measures m (suc k)) k (shared_by rows) (slice_index_or (shared_by rows) k None) rows
    ++ visit measures m (suc k) rows

-- the acts without the labels
abbrev pub visits_of : List Act → List Visit
visits_of [] = []
visits_of (Add p ∷ es) = Made p ∷ visits_of es
visits_of (Label b f i v t ∷ es) = visits_of es
visits_of (Mark w a ∷ es) = Marked w a ∷ visits_of es

pub visits_append : (xs ys : List Act) → visits_of (xs ++ ys) ≡ visits_of xs ++ visits_of ys
visits_append [] ys = refl
visits_append (Add p ∷ xs) ys = ap (λ es. Made p ∷ es) (visits_append xs ys)
visits_append (Label b f i v t ∷ xs) ys = visits_append xs ys
visits_append (Mark w a ∷ xs) ys = ap (λ es. Marked w a ∷ es) (visits_append xs ys)

module _ (more : List (Row ℕ) → List Act) (next : List (Row ℕ) → List Visit) (ih : (part : List (Row ℕ))
    → visits_of (more part) ≡ next part) (k : ℕ) (u : Cell ℕ) where
  part_visits : (v : ℕ) (part : List (Row ℕ)) → visits_of (part_acts more k u v part) ≡ visit_part next k u part
  part_visits v part = go (same_prefix k (shared_by part) u)
    where
      go : (b : Bool) → visits_of (cond b (Add (cell_prefix (suc k) (shared_by part)) ∷ []) []
          ++ (Label false (cell_prefix k u) k v (cell_prefix (suc k) (shared_by part)) ∷ cond b (more part) []))
          ≡ cond b (Made (cell_prefix (suc k) (shared_by part)) ∷ next part) []
      go true = ap (λ es. Made (cell_prefix (suc k) (shared_by part)) ∷ es) (ih part)
      go false = refl

  flat_visits : (rows : List (Row ℕ)) (vs : List ℕ)
      → visits_of (flat_map (λ v. part_acts more k u v (part_at k rows v)) vs)
      ≡ flat_map (λ v. visit_part next k u (part_at k rows v)) vs
  flat_visits rows [] = refl
  flat_visits rows (v ∷ vs)
      = visits_append (part_acts more k u v (part_at k rows v))
      (flat_map (λ v. part_acts more k u v (part_at k rows v)) vs)
      ∙ ap₂ (λ xs ys. xs ++ ys) (part_visits v (part_at k rows v)) (flat_visits rows vs)

  pub at_visits : (rows : List (Row ℕ)) (o : Option ℕ) → visits_of (acts_at more k u o rows) ≡ visit_at next k u o rows
  at_visits rows None = flat_visits rows (codes_in k rows)
  at_visits rows (Some x) = refl

pub acts_visits : (measures m k : ℕ) (rows : List (Row ℕ))
    → visits_of (acts measures m k rows) ≡ visit measures m k rows
unfolding acts visit
acts_visits measures zero k rows = refl
acts_visits measures (suc m) k rows =
    visits_append (acts_at (acts measures m (suc k)) k (shared_by rows) (entry (shared_by rows) k) rows)
    (acts measures m (suc k) rows)
    ∙ ap₂ (λ xs ys. xs ++ ys)
    (at_visits (acts measures m (suc k)) (visit measures m (suc k)) (acts_visits measures m (suc k)) k
    (shared_by rows) rows (entry (shared_by rows) k)) (acts_visits measures m (suc k) rows)

pub add_visit : (q : Cell ℕ) (es : List Act) → Among (Add q) es → Among (Made q) (visits_of es)
add_visit q [] h = absurd h
add_visit q (Add p ∷ es) h = elim h [ inl e ↦ inl (cc) | inr k ↦ inr (add_visit q es k) ]
add_visit q (Label b f i v t ∷ es) h = elim h [ inl e ↦ absurd (cc) | inr k ↦ add_visit q es k ]
add_visit q (Mark w a ∷ es) h = elim h [ inl e ↦ absurd (cc) | inr k ↦ inr (add_visit q es k) ]

pub visit_add : (q : Cell ℕ) (es : List Act) → Among (Made q) (visits_of es) → Among (Add q) es
visit_add q [] h = absurd h
visit_add q (Add p ∷ es) h = elim h [ inl e ↦ inl (cc) | inr k ↦ inr (visit_add q es k) ]
visit_add q (Label b f i v t ∷ es) h = inr (visit_add q es h)
visit_add q (Mark w a ∷ es) h = elim h [ inl e ↦ absurd (cc) | inr k ↦ inr (visit_add q es k) ]
