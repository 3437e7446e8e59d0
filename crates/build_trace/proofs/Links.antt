-- Rows that are all that a prefix covers, and their parts.
use Rattle.std.proofs.Common.{◌≡◌, ℕ, zero, suc, ◌<◌, Bool, true, false, cond, Some, List, [], ◌∷◌, filter, length, nat_eq, slice_index_or}
use Rattle.std.proofs.Common.{refl, sym, ap, subst, ◌∙◌, arith, true≢false, eqb-true, eq-eqb}
use Rattle.std.specs.List.{AllByRecursion}
use Rattle.std.proofs.lemmas.Bool.{and_parts, and_from}
use Rattle.cube_defs.specs.Cell.{Cell, leq, entry_leq, cell_prefix, cell_of}
use Rattle.cube_defs.specs.Rows.{Row, covers, cov, closure, meet_all}
use Rattle.cube_laws.specs.Tuples.{cells_of}
use Rattle.cube_laws.proofs.CallerLemmas.{nat_equality, cell_prefix-leq, leq_trans, leq_antisymm, all_map, filter_filter, closure_length}
use Rattle.cube_laws.proofs.CallerLemmas.{closure_some, closure_mono, closure_idem, cov-closure, IsShared, HaveDims, entry, closure-shared}
use Rattle.tree_laws.proofs.CallerLemmas.{cell_prefix-cell_prefix}
use Rattle.cube_laws.specs.Parting.{code_in, part_at}
use Rattle.build_trace.proofs.Prefixes.{covers_code, entry_cell_prefix}
use Rattle.build_trace.proofs.Parting.{has_code, dims_filter, closure-part, part_entry, shared_part}

leq_more : (k v : ℕ) (w : Cell ℕ) (t : List ℕ) → leq nat_eq (cell_prefix k w) (cell_of t) ≡ true → entry w k ≡ Some v
    → slice_index_or t k 0 ≡ v → k < length t → leq nat_eq (cell_prefix (suc k) w) (cell_of t) ≡ true
leq_more k v [] t l e c h = refl
leq_more k v (x ∷ w) [] l e c h = absurd (omega arith)
leq_more zero v (x ∷ w) (y ∷ t) l e c h
    = and_from _ _ (subst (λ z. entry_leq nat_eq z (Some y) ≡ true) (sym e) (eq-eqb v y (sym c))) l
leq_more (suc k) v (x ∷ w) (y ∷ t) l e c h = let p
    = and_parts (entry_leq nat_eq x (Some y)) (leq nat_eq (cell_prefix k w) (cell_of t)) l in
    and_from _ _ p.0 (leq_more k v w t p.1 e c (omega arith))

pub filter_pair : {X : Type 0} (p q r : X → Bool) (xs : List X) → ((x : X) → p x ≡ true → (q x ≡ true) × (r x ≡ true))
    → AllByRecursion (λ x. q x ≡ true → r x ≡ true → p x ≡ true) xs → filter p xs ≡ filter r (filter q xs)
filter_pair p q r [] f g = refl
filter_pair p q r (x ∷ xs) f g = go (filter_pair p q r xs f g.1) (p x) (q x) (r x) refl refl refl
  where
    go : filter p xs ≡ filter r (filter q xs) → (a b c : Bool) → p x ≡ a → q x ≡ b → r x ≡ c
        → cond a (x ∷ filter p xs) (filter p xs) ≡ filter r (cond b (x ∷ filter q xs) (filter q xs))
    go more true true true i j l = ap (λ ys. x ∷ ys) more
        ∙ sym (ap (λ d. cond d (x ∷ filter r (filter q xs)) (filter r (filter q xs))) l)
    go more true false c i j l = absurd (true≢false (sym (f x i).0 ∙ j))
    go more true true false i j l = absurd (true≢false (sym (f x i).1 ∙ l))
    go more false true true i j l = absurd (true≢false (sym (g.0 j l) ∙ i))
    go more false true false i j l
        = more ∙ sym (ap (λ d. cond d (x ∷ filter r (filter q xs)) (filter r (filter q xs))) l)
    go more false false c i j l = more

module _ (n : ℕ) (table : List (Row ℕ)) (all_long : HaveDims n table) where
  pub cov_long : (c : Cell ℕ) → HaveDims n (cov nat_eq table c)
  cov_long c = dims_filter n (covers nat_eq c) table all_long

  module _ (k : ℕ) (lt : k < n) (rows : List (Row ℕ)) (u : Cell ℕ) (shared : IsShared rows u)
      (whole : cov nat_eq table (cell_prefix k u) ≡ rows) where
    pub long : HaveDims n rows
    long = subst (HaveDims n) whole (cov_long (cell_prefix k u))

    pub u_closure : closure nat_eq table (cell_prefix k u) ≡ Some u
    u_closure = ap (λ rs. meet_all nat_eq (cells_of rs)) whole ∙ shared

    pub u_length : length u ≡ n
    u_length = closure_length nat_eq n (cell_prefix k u) u table all_long u_closure

    -- u's prefix with an entry more covers the same rows
    pub whole_next : cov nat_eq table (cell_prefix (suc k) u) ≡ rows
    whole_next =
        let same : closure nat_eq table u ≡ Some u = closure_idem nat_equality table (cell_prefix k u) u u_closure in
        let r : (w : Cell ℕ) × (closure nat_eq table (cell_prefix (suc k) u) ≡ Some w)
        = closure_some nat_equality table (cell_prefix (suc k) u) u u
        (cell_prefix-leq nat_equality (suc k) u) same in
        let up : leq nat_eq (cell_prefix k u) (cell_prefix (suc k) u) ≡ true
        = subst (λ c. leq nat_eq c (cell_prefix (suc k) u) ≡ true)
        (cell_prefix-cell_prefix k (suc k) u (omega arith))
        (cell_prefix-leq nat_equality k (cell_prefix (suc k) u)) in
        let low : leq nat_eq u r.0 ≡ true
        = closure_mono nat_equality table (cell_prefix k u) (cell_prefix (suc k) u) u r.0 up u_closure r.1 in
        let high : leq nat_eq r.0 u ≡ true
        = closure_mono nat_equality table (cell_prefix (suc k) u) u r.0 u
        (cell_prefix-leq nat_equality (suc k) u) r.1 same in
        let is : r.0 ≡ u = leq_antisymm nat_equality r.0 u high low in
        cov-closure nat_equality table (cell_prefix (suc k) u) u (r.1 ∙ ap (λ c. Some c) is)
        ∙ sym (cov-closure nat_equality table (cell_prefix k u) u u_closure) ∙ whole

    -- a cell with u's prefix has the same closure among the rows
    pub within : (q : Cell ℕ) → leq nat_eq (cell_prefix k u) q ≡ true → closure nat_eq rows q ≡ closure nat_eq table q
    within q l =
        ap (λ rs. closure nat_eq rs q) (sym whole)
        ∙ ap (λ rs. meet_all nat_eq (cells_of rs))
        (filter_filter (covers nat_eq q) (covers nat_eq (cell_prefix k u)) table
        (λ r h. leq_trans nat_equality (cell_prefix k u) q (cell_of r.tuple) l h))

    pub prefix_low : (q : Cell ℕ) → cell_prefix k q ≡ cell_prefix k u → leq nat_eq (cell_prefix k u) q ≡ true
    prefix_low q e = subst (λ c. leq nat_eq c q ≡ true) e (cell_prefix-leq nat_equality k q)

    module _ (v : ℕ) (w : Cell ℕ) (is : IsShared (part_at k rows v) w) where
      pub w_code : entry w k ≡ Some v
      w_code = part_entry n k v rows w w long lt (closure-shared (part_at k rows v) w is)

      pub w_class : closure nat_eq table w ≡ Some w
      w_class =
          let up : leq nat_eq (cell_prefix k u) w ≡ true
          = leq_trans nat_equality (cell_prefix k u) u w (cell_prefix-leq nat_equality k u)
          (shared_part k v rows u w shared is) in
          sym (within w up) ∙ sym (closure-part k v rows w w_code) ∙ closure-shared (part_at k rows v) w is

      pub w_length : length w ≡ n
      w_length = closure_length nat_eq n w w table all_long w_class

      -- the part is what w's prefix covers
      pub part_whole : cell_prefix k w ≡ cell_prefix k u → cov nat_eq table (cell_prefix (suc k) w) ≡ part_at k rows v
      part_whole e =
          filter_pair (covers nat_eq (cell_prefix (suc k) w)) (covers nat_eq (cell_prefix k u)) (has_code k v) table
          (λ r h. (
            leq_trans nat_equality (cell_prefix k u) (cell_prefix (suc k) w) (cell_of r.tuple)
                (subst (λ c. leq nat_eq c (cell_prefix (suc k) w) ≡ true)
                (cell_prefix-cell_prefix k (suc k) w (omega arith) ∙ e)
                (cell_prefix-leq nat_equality k (cell_prefix (suc k) w))) h,
            eq-eqb (code_in k r) v (covers_code k v (cell_prefix (suc k) w) r.tuple h
                (entry_cell_prefix k (suc k) w (omega arith) ∙ w_code)),
          ))
          (all_map (λ (r : Row ℕ). length r.tuple ≡ n) _ table
          (λ r l g h. leq_more k v w r.tuple (subst (λ c. leq nat_eq c (cell_of r.tuple) ≡ true) (sym e) g) w_code
          (eqb-true (code_in k r) v h) (omega arith)) all_long)
          ∙ ap (filter (has_code k v)) whole
