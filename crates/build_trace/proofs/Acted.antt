-- The walk sets at the node that it stands at the rest of its edges.
use Rattle.std.proofs.Common.{◌≡◌, slice_index_or, ℕ, zero, suc, ◌+◌, ◌<◌, Bool, true, false, cond, Option, Some, None, List, [], ◌∷◌, ◌++◌}
use Rattle.std.proofs.Common.{map, flat_map, length, nat_eq, nat_cmp, inl, inr, refl, sym, ap, ap₂, subst, ◌∙◌, arith}
use Rattle.std.proofs.lemmas.Bool.{cond-true, cond-false, false_from_ne_true}
use Rattle.std.specs.List.{AllByRecursion}
use Rattle.cube_defs.specs.Cell.{Cell, cell_prefix, cell_eq}
use Rattle.cube_defs.specs.Rows.{Row, cov}
use Rattle.cube_defs.specs.Tree.{edges_in, edges_in}
use Rattle.cube_laws.specs.Lists.{Among}
use Rattle.cube_laws.proofs.CallerLemmas.{nat_equality, cell_eq-exact, cell_eq-same, length-cell_prefix, all_map, all_append}
use Rattle.cube_laws.proofs.CallerLemmas.{closure_length, IsShared, HaveDims, entry, closure-shared}
use Rattle.tree_laws.proofs.CallerLemmas.{cell_prefix-cell_prefix}
use Rattle.cube_laws.specs.Parting.{shared_by, part_at, codes_in}
use Rattle.build_trace.specs.Walk.{same_prefix}
use Rattle.build_trace.specs.Trace.{Act, Act.{Add, Label, Mark}, Put, put_of, part_acts, acts_at, acts, puts_of}
use Rattle.build_trace.proofs.Lists.{all_flat}
use Rattle.build_trace.proofs.Prefixes.{cell_prefix_back, cell_prefix_entry, cell_prefix_still, entry_cut}
use Rattle.build_trace.proofs.Parting.{part_entry, shared_among, code_among}
use Rattle.build_trace.proofs.Links.{long, whole_next}
use Rattle.build_trace.proofs.Labels.{label, labels_are}
use Rattle.build_trace.proofs.Steps.{puts_append}

-- the rest of what is set at p, whose closure is u, from dimension k on, of which m are left
abbrev pub puts_at : List (Row ℕ) → Cell ℕ → ℕ → Cell ℕ → Option ℕ → List Put → List Put
puts_at table p k u None more = map (λ e. record { forced = false; edge = e }) (edges_in nat_cmp table p k) ++ more
puts_at table p k u (Some x) more = put_of true k x (cell_prefix (suc k) u) ∷ []

abbrev pub puts_from : List (Row ℕ) → Cell ℕ → ℕ → ℕ → Cell ℕ → List Put
puts_from table p zero k u = []
puts_from table p (suc m) k u = puts_at table p k u (slice_index_or u k None) (puts_from table p m (suc k) u)

-- the node that the label is set at has u's entries before k
abbrev pub StartsAt : ℕ → Cell ℕ → Act → Type 0
StartsAt k u (Add p) = Unit {0}
StartsAt k u (Mark w a) = cell_prefix k w ≡ cell_prefix k u
StartsAt k u (Label b f i v t) = cell_prefix k f ≡ cell_prefix k u

starts_back : (k : ℕ) (u : Cell ℕ) (e : Act) → StartsAt (suc k) u e → StartsAt k u e
starts_back k u (Add p) h = tt
starts_back k u (Mark w a) h = cell_prefix_back k w u h
starts_back k u (Label b f i v t) h = cell_prefix_back k f u h

starts_from : (k : ℕ) (u w : Cell ℕ) → cell_prefix k w ≡ cell_prefix k u → (e : Act) → StartsAt (suc k) w e
    → StartsAt k u e
starts_from k u w s (Add p) h = tt
starts_from k u w s (Mark x a) h = cell_prefix_back k x w h ∙ s
starts_from k u w s (Label b f i v t) h = cell_prefix_back k f w h ∙ s

part_starts : (more : List (Row ℕ) → List Act) (k : ℕ) (u : Cell ℕ) (v : ℕ) (rows : List (Row ℕ))
    → AllByRecursion (StartsAt (suc k) (shared_by rows)) (more rows)
    → AllByRecursion (StartsAt k u) (part_acts more k u v rows)
part_starts more k u v rows h = go (same_prefix k (shared_by rows) u) refl
  where
    go : (b : Bool) → same_prefix k (shared_by rows) u ≡ b
        → AllByRecursion (StartsAt k u) (cond b (Add (cell_prefix (suc k) (shared_by rows)) ∷ []) []
        ++ (Label false (cell_prefix k u) k v (cell_prefix (suc k) (shared_by rows)) ∷ cond b (more rows) []))
    go true t = (
      tt,
      (
        cell_prefix-cell_prefix k k u (omega arith),
        all_map (StartsAt (suc k) (shared_by rows)) (StartsAt k u) (more rows)
            (starts_from k u (shared_by rows) (cell_eq-exact nat_equality _ _ t)) h,
      ),
    )
    go false t = (cell_prefix-cell_prefix k k u (omega arith), tt)

at_starts : (more : List (Row ℕ) → List Act) (k : ℕ) (u : Cell ℕ) (rows : List (Row ℕ))
    → ((part : List (Row ℕ)) → AllByRecursion (StartsAt (suc k) (shared_by part)) (more part)) → (o : Option ℕ)
    → AllByRecursion (StartsAt k u) (acts_at more k u o rows)
at_starts more k u rows ih (Some x) = (tt, (cell_prefix-cell_prefix k k u (omega arith), tt))
at_starts more k u rows ih None
    = all_flat (λ v. part_acts more k u v (part_at k rows v)) (StartsAt k u) (codes_in k rows)
    (λ v a. part_starts more k u v (part_at k rows v) (ih (part_at k rows v)))

pub starts : (measures m k : ℕ) (rows : List (Row ℕ))
    → AllByRecursion (StartsAt k (shared_by rows)) (acts measures m k rows)
unfolding acts
starts measures zero k rows = (refl, tt)
starts measures (suc m) k rows =
    all_append (StartsAt k (shared_by rows))
    (acts_at (acts measures m (suc k)) k (shared_by rows) (entry (shared_by rows) k) rows)
    (acts measures m (suc k) rows)
    (at_starts (acts measures m (suc k)) k (shared_by rows) rows (λ part. starts measures m (suc k) part)
    (entry (shared_by rows) k))
    (all_map (StartsAt (suc k) (shared_by rows)) (StartsAt k (shared_by rows)) (acts measures m (suc k) rows)
    (starts_back k (shared_by rows)) (starts measures m (suc k) rows))

-- no label is set at a node with other entries
pub puts_none : (k : ℕ) (u q : Cell ℕ) (es : List Act) → AllByRecursion (StartsAt k u) es
    → (cell_prefix k q ≡ cell_prefix k u → ⊥) → puts_of q es ≡ []
puts_none k u q [] h other = refl
puts_none k u q (Add p ∷ es) h other = puts_none k u q es h.1 other
puts_none k u q (Mark w a ∷ es) h other = puts_none k u q es h.1 other
puts_none k u q (Label b f i v t ∷ es) h other =
    cond-false (cell_eq nat_eq f q) _ _
    (false_from_ne_true _ (λ s. other (ap (cell_prefix k) (sym (cell_eq-exact nat_equality f q s)) ∙ h.0)))
    ∙ puts_none k u q es h.1 other

-- where u has a value in dimension k, no prefix of it that ends before has
pub apart : (k x : ℕ) (u w : Cell ℕ) → entry w k ≡ Some x
    → cell_prefix (suc k) (cell_prefix k u) ≡ cell_prefix (suc k) w → ⊥
apart k x u w e h = let a : entry (cell_prefix k u) k ≡ entry w k = cell_prefix_entry k (cell_prefix k u) w h in
    let b : entry (cell_prefix k u) k ≡ None = entry_cut k u in cc

module _ (measures n : ℕ) (table : List (Row ℕ)) (all_long : HaveDims n table) where
  abbrev pair : ℕ → List (Row ℕ) → ℕ → Put
  pair k rows v = record { forced = false; edge = label k rows v }

  pairs : (k : ℕ) (rows : List (Row ℕ)) (vs : List ℕ)
      → map (pair k rows) vs ≡ map (λ e. record { forced = false; edge = e }) (map (label k rows) vs)
  pairs k rows [] = refl
  pairs k rows (v ∷ vs) = ap (λ ps. pair k rows v ∷ ps) (pairs k rows vs)

  one_put : (m k v : ℕ) (u : Cell ℕ) (rows : List (Row ℕ)) → HaveDims n rows → k < n → Among v (codes_in k rows)
      → puts_of (cell_prefix k u) (part_acts (acts measures m (suc k)) k u v (part_at k rows v)) ≡ pair k rows v ∷ []
  one_put m k v u rows rows_long lt a = go (same_prefix k (shared_by (part_at k rows v)) u)
    where
      r : (r : Row ℕ) × Among r (part_at k rows v)
      r = code_among k v rows a

      code : entry (shared_by (part_at k rows v)) k ≡ Some v
      code = part_entry n k v rows (shared_by (part_at k rows v)) (shared_by (part_at k rows v)) rows_long lt
          (closure-shared (part_at k rows v) (shared_by (part_at k rows v))
          (shared_among (part_at k rows v) (code_among k v rows a).0 (code_among k v rows a).1))

      deeper : puts_of (cell_prefix k u) (acts measures m (suc k) (part_at k rows v)) ≡ []
      deeper = puts_none (suc k) (shared_by (part_at k rows v)) (cell_prefix k u)
          (acts measures m (suc k) (part_at k rows v)) (starts measures m (suc k) (part_at k rows v))
          (apart k v u (shared_by (part_at k rows v)) code)

      go : (b : Bool) → puts_of (cell_prefix k u)
          (cond b (Add (cell_prefix (suc k) (shared_by (part_at k rows v))) ∷ []) []
          ++ (Label false (cell_prefix k u) k v (cell_prefix (suc k) (shared_by (part_at k rows v)))
          ∷ cond b (acts measures m (suc k) (part_at k rows v)) [])) ≡ pair k rows v ∷ []
      go true = cond-true (cell_eq nat_eq (cell_prefix k u) (cell_prefix k u)) _ _
          (cell_eq-same nat_equality (cell_prefix k u)) ∙ ap (λ es. pair k rows v ∷ es) deeper
      go false = cond-true (cell_eq nat_eq (cell_prefix k u) (cell_prefix k u)) _ _
          (cell_eq-same nat_equality (cell_prefix k u))

  puts_here : (m k : ℕ) (u : Cell ℕ) (rows : List (Row ℕ)) → HaveDims n rows → k < n → (vs : List ℕ)
      → ((v : ℕ) → Among v vs → Among v (codes_in k rows))
      → puts_of (cell_prefix k u) (flat_map (λ v. part_acts (acts measures m (suc k)) k u v (part_at k rows v)) vs)
      ≡ map (pair k rows) vs
  puts_here m k u rows rows_long lt [] sub = refl
  puts_here m k u rows rows_long lt (v ∷ vs) sub =
      puts_append (cell_prefix k u) (part_acts (acts measures m (suc k)) k u v (part_at k rows v))
      (flat_map (λ v. part_acts (acts measures m (suc k)) k u v (part_at k rows v)) vs)
      ∙ ap₂ (λ xs ys. xs ++ ys) (one_put m k v u rows rows_long lt (sub v (inl refl)))
      (puts_here m k u rows rows_long lt vs (λ w a. sub w (inr a)))

  -- the labels at the node that the walk stands at are the rest of its edges
  pub puts_set : (m k : ℕ) (rows : List (Row ℕ)) → m + k ≡ n → IsShared rows (shared_by rows)
      → cov nat_eq table (cell_prefix k (shared_by rows)) ≡ rows
      → puts_of (cell_prefix k (shared_by rows)) (acts measures m k rows) ≡ puts_from table
      (cell_prefix k (shared_by rows)) m k (shared_by rows)
  unfolding acts
  puts_set zero k rows e shared whole = refl
  puts_set (suc m) k rows e shared whole =
      puts_append (cell_prefix k (shared_by rows))
      (acts_at (acts measures m (suc k)) k (shared_by rows) (entry (shared_by rows) k) rows)
      (acts measures m (suc k) rows)
      ∙ go (entry (shared_by rows) k) refl (puts_set m (suc k) rows (omega arith) shared next)
    where
      lt : k < n
      lt = omega arith

      next : cov nat_eq table (cell_prefix (suc k) (shared_by rows)) ≡ rows
      next = whole_next n table all_long k (omega arith) rows (shared_by rows) shared whole

      rows_long : HaveDims n rows
      rows_long = long n table all_long k (omega arith) rows (shared_by rows) shared whole

      u_long : length (cell_prefix k (shared_by rows)) ≡ n
      u_long = length-cell_prefix k (shared_by rows)
          ∙ closure_length nat_eq n (shared_by rows) (shared_by rows) rows
          (long n table all_long k (omega arith) rows (shared_by rows) shared whole)
          (closure-shared rows (shared_by rows) shared)

      go : (o : Option ℕ) → entry (shared_by rows) k ≡ o
          → puts_of (cell_prefix (suc k) (shared_by rows)) (acts measures m (suc k) rows)
          ≡ puts_from table (cell_prefix (suc k) (shared_by rows)) m (suc k) (shared_by rows)
          → puts_of (cell_prefix k (shared_by rows)) (acts_at (acts measures m (suc k)) k (shared_by rows) o rows)
          ++ puts_of (cell_prefix k (shared_by rows)) (acts measures m (suc k) rows)
          ≡ puts_at table (cell_prefix k (shared_by rows)) k (shared_by rows) o
          (puts_from table (cell_prefix k (shared_by rows)) m (suc k) (shared_by rows))
      go None o ih =
          let still : cell_prefix (suc k) (shared_by rows) ≡ cell_prefix k (shared_by rows)
          = cell_prefix_still k (shared_by rows) o in
          ap₂ (λ xs ys. xs ++ ys)
          (puts_here m k (shared_by rows) rows rows_long lt (codes_in k rows) (λ v a. a)
          ∙ pairs k rows (codes_in k rows)
          ∙ ap (map (λ e. record { forced = false; edge = e }))
          (sym (labels_are n k table rows (cell_prefix k (shared_by rows)) all_long u_long lt
          (entry_cut k (shared_by rows)) whole)))
          (subst (λ p. puts_of p (acts measures m (suc k) rows) ≡ puts_from table p m (suc k)
          (shared_by rows)) still ih)
      go (Some x) o ih =
          ap₂ (λ xs ys. xs ++ ys)
          (cond-true (cell_eq nat_eq (cell_prefix k (shared_by rows)) (cell_prefix k (shared_by rows))) _ _
          (cell_eq-same nat_equality (cell_prefix k (shared_by rows))))
          (puts_none (suc k) (shared_by rows) (cell_prefix k (shared_by rows)) (acts measures m (suc k) rows)
          (starts measures m (suc k) rows) (apart k x (shared_by rows) (shared_by rows) o))
