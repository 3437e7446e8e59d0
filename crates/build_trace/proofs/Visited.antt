-- The walk makes each node once, and marks each class once.
use Rattle.std.proofs.Common.{◌≡◌, ℕ, zero, suc, ◌+◌, ◌<◌, ◌≤◌, Bool, true, false, cond, Option, Some, None, List, [], ◌∷◌, ◌++◌, flat_map}
use Rattle.std.proofs.Common.{length, nat_eq, inl, inr, ◌⊎◌, refl, sym, ap, ap₂, ◌∙◌, arith, true≢false}
use Rattle.std.specs.List.{AllByRecursion}
use Rattle.cube_defs.specs.Cell.{Cell, cell_prefix, depth, cell_eq}
use Rattle.cube_defs.specs.Rows.{Row, Agg, agg_of, agg, covers, closure}
use Rattle.cube_laws.specs.Lists.{Among}
use Rattle.cube_laws.proofs.CallerLemmas.{nat_equality, cell_eq-exact, cell_eq-same, cell_prefix-leq, cell_prefix-depth, depth-le}
use Rattle.cube_laws.proofs.CallerLemmas.{length-cell_prefix, all_map, all_at, all_append, among_left, closure_length, some_covered}
use Rattle.cube_laws.proofs.CallerLemmas.{IsShared, HaveDims, entry, cov-shared, closure-shared}
use Rattle.tree_laws.proofs.CallerLemmas.{cell_prefix-cell_prefix, depth-cell_prefix-le, EachOnce}
use Rattle.cube_laws.specs.Parting.{shared_by, part_at, codes_in}
use Rattle.build_trace.specs.Walk.{same_prefix}
use Rattle.build_trace.proofs.Lists.{among_right, once_append, all_flat, among_flat, once_flat}
use Rattle.build_trace.proofs.Prefixes.{cell_prefix_next, cell_prefix_back, cell_prefix_entry, cell_prefix_all, leq_entry, covers_code}
use Rattle.build_trace.proofs.Prefixes.{prefix_between, entry_cell_prefix, depth_cell_prefix, last_entry, deeper_or}
use Rattle.build_trace.proofs.Parting.{has_code, dims_filter, cov-part, closure-part, part_entry, shared_below, shared_part, shared_among}
use Rattle.build_trace.proofs.Parting.{closure_low, among_codes, code_among, once_codes}
use Rattle.build_trace.proofs.Visits.{Visit, Visit.{Made, Marked}, visit_part, visit_at, visit}

module _ (measures : ℕ) where
  -- the cell of a visit
  abbrev pub cell_in : Visit → Cell ℕ
  cell_in (Made p) = p
  cell_in (Marked w c) = w

  -- a node of the rows that is deeper than k, or a class of theirs with its count
  pub record IsDeep (rows : List (Row ℕ)) (k : ℕ) (p class : Cell ℕ) : Type 0 where
    pub front : cell_prefix (depth p) class ≡ p
    pub deep : k < depth p

  pub record IsMark (rows : List (Row ℕ)) (w : Cell ℕ) (c : Agg) (class : Cell ℕ) : Type 0 where
    pub own : class ≡ w
    pub aggregate : c ≡ agg nat_eq measures rows w

  abbrev pub IsVisitOf : List (Row ℕ) → ℕ → Visit → Cell ℕ → Type 0
  IsVisitOf rows k (Made p) class = IsDeep rows k p class
  IsVisitOf rows k (Marked w c) class = IsMark rows w c class

  pub record IsVisit (rows : List (Row ℕ)) (k : ℕ) (u : Cell ℕ) (e : Visit) : Type 0 where
    pub class : Cell ℕ
    pub closure : closure nat_eq rows (cell_in e) ≡ Some class
    pub front : cell_prefix k (cell_in e) ≡ cell_prefix k u
    pub kind : IsVisitOf rows k e class

  pub record AreVisits (rows : List (Row ℕ)) (k : ℕ) (u : Cell ℕ) (list : List Visit) : Type 0 where
    pub sound : AllByRecursion (IsVisit rows k u) list
    pub all : (e : Visit) → IsVisit rows k u e → Among e list
    pub once : EachOnce list

  pub record HasCode (rows : List (Row ℕ)) (k : ℕ) (u : Cell ℕ) (v : ℕ) (e : Visit) : Type 0 where
    pub below : IsVisit rows k u e
    pub code : entry (cell_in e) k ≡ Some v

  pub record PartVisits (rows : List (Row ℕ)) (k : ℕ) (u : Cell ℕ) (v : ℕ) (list : List Visit) : Type 0 where
    pub sound : AllByRecursion (HasCode rows k u v) list
    pub all : (e : Visit) → HasCode rows k u v e → Among e list
    pub once : EachOnce list

  module _ (n k : ℕ) (rows : List (Row ℕ)) (long : HaveDims n rows) (lt : k < n) (u : Cell ℕ)
      (shared : IsShared rows u) where
    u_long : length u ≡ n
    u_long = closure_length nat_eq n u u rows long (closure-shared rows u shared)

    cell_long : (e : Visit) → IsVisit rows k u e → length (cell_in e) ≡ n
    cell_long (Made p) g = sym (ap length g.kind.front) ∙ length-cell_prefix (depth p) g.class
        ∙ closure_length nat_eq n p g.class rows long g.closure
    cell_long (Marked w c) g = sym (ap length g.kind.own) ∙ closure_length nat_eq n w g.class rows long g.closure

    -- the closure of a visit has its cell's entries
    class_prefix : (e : Visit) (g : IsVisit rows k u e) → cell_prefix k g.class ≡ cell_prefix k u
    class_prefix (Made p) g = let d : k < depth p = g.kind.deep in
        sym (cell_prefix-cell_prefix k (depth p) g.class (omega arith)) ∙ ap (cell_prefix k) g.kind.front ∙ g.front
    class_prefix (Marked w c) g = ap (cell_prefix k) g.kind.own ∙ g.front

    class_entry : (e : Visit) (g : IsVisit rows k u e) → entry (cell_in e) k ≡ entry g.class k
    class_entry (Made p) g = ap (λ c. entry c k) (sym g.kind.front) ∙ entry_cell_prefix k (depth p) g.class g.kind.deep
    class_entry (Marked w c) g = ap (λ c. entry c k) (sym g.kind.own)

    -- a visit that agrees with u in dimension k is later, unless it makes u's next prefix
    later_or : (e : Visit) → IsVisit rows k u e → entry (cell_in e) k ≡ entry u k → (e ≡ Made (cell_prefix (suc k) u))
        ⊎ IsVisit rows (suc k) u e
    later_or (Marked w c) g s
        = inr (record {
          class = g.class;
          closure = g.closure;
          front
              = cell_prefix_next k w u (cell_long (Marked w c) g ∙ sym u_long) g.front s;
          kind = g.kind;
        })
    later_or (Made p) g s =
        let front : cell_prefix (suc k) p ≡ cell_prefix (suc k) u
        = cell_prefix_next k p u (cell_long (Made p) g ∙ sym u_long) g.front s in
        elim (deeper_or k (depth p) g.kind.deep) [
          | inl d ↦ inl (ap Made (sym (cell_prefix-depth p) ∙ ap (λ i. cell_prefix i p) d ∙ front))
          | inr d ↦ inr (record {
            class = g.class;
            closure = g.closure;
            front = front;
            kind
                = record { front = g.kind.front; deep = d };
          })
        ]

    sooner : (e : Visit) → IsVisit rows (suc k) u e → IsVisit rows k u e
    sooner (Made p) g = let d : suc k < depth p = g.kind.deep in
        record {
          class = g.class;
          closure = g.closure;
          front = cell_prefix_back k p u g.front;
          kind
              = record { front = g.kind.front; deep = omega arith };
        }
    sooner (Marked w c) g = record {
      class = g.class;
      closure = g.closure;
      front = cell_prefix_back k w u g.front;
      kind = g.kind;
    }

    module _ (v : ℕ) (w : Cell ℕ) (is : IsShared (part_at k rows v) w) where
      part_long : HaveDims n (part_at k rows v)
      part_long = dims_filter n (has_code k v) rows long

      w_long : length w ≡ n
      w_long = closure_length nat_eq n w w (part_at k rows v) part_long (closure-shared (part_at k rows v) w is)

      w_code : entry w k ≡ Some v
      w_code = part_entry n k v rows w w long lt (closure-shared (part_at k rows v) w is)

      first : cell_prefix k w ≡ cell_prefix k u → HasCode rows k u v (Made (cell_prefix (suc k) w))
      first e =
          let d : depth (cell_prefix (suc k) w) ≡ suc k = depth_cell_prefix k v w w_code in
          let code : entry (cell_prefix (suc k) w) k ≡ Some v = entry_cell_prefix k (suc k) w (omega arith) ∙ w_code in
          record {
            below = record {
              class = w;
              closure = sym (closure-part k v rows (cell_prefix (suc k) w) code)
                  ∙ closure_low (part_at k rows v) w (cell_prefix (suc k) w) is
                  (cell_prefix-leq nat_equality (suc k) w);
              front = cell_prefix-cell_prefix k (suc k) w (omega arith) ∙ e;
              kind = record { front = ap (λ i. cell_prefix i w) d; deep = omega arith };
            };
            code = code;
          }

      behind : cell_prefix k w ≡ cell_prefix k u → (e : Visit) → IsVisit (part_at k rows v) (suc k) w e
          → HasCode rows k u v e
      behind f (Made p) b =
          let code : entry p k ≡ Some v = cell_prefix_entry k p w b.front ∙ w_code in
          let d : suc k < depth p = b.kind.deep in
          record {
            below = record {
              class = b.class;
              closure = sym (closure-part k v rows p code) ∙ b.closure;
              front
                  = cell_prefix_back k p w b.front ∙ f;
              kind = record { front = b.kind.front; deep = omega arith };
            };
            code
                = code;
          }
      behind f (Marked x c) b =
          let code : entry x k ≡ Some v = cell_prefix_entry k x w b.front ∙ w_code in
          record {
            below = record {
              class = b.class;
              closure = sym (closure-part k v rows x code) ∙ b.closure;
              front
                  = cell_prefix_back k x w b.front ∙ f;
              kind
                  = record {
                    own = b.kind.own;
                    aggregate = b.kind.aggregate
                        ∙ ap (agg_of measures) (cov-part k v rows x code);
                  };
            };
            code = code;
          }

      prefix_of : (e : Visit) → HasCode rows k u v e → cell_prefix k w ≡ cell_prefix k u
      prefix_of e g =
          prefix_between k u w g.below.class (shared_part k v rows u w shared is)
          (shared_below (part_at k rows v) w (cell_in e) g.below.class is (closure-part k v rows (cell_in e) g.code
          ∙ g.below.closure)) (class_prefix e g.below)

      back : (e : Visit) → HasCode rows k u v e → (e ≡ Made (cell_prefix (suc k) w))
          ⊎ IsVisit (part_at k rows v) (suc k) w e
      back (Made p) g =
          let front : cell_prefix (suc k) p ≡ cell_prefix (suc k) w
          = cell_prefix_next k p w (cell_long (Made p) g.below ∙ sym w_long) (g.below.front
          ∙ sym (prefix_of (Made p) g)) (g.code ∙ sym w_code) in
          elim (deeper_or k (depth p) g.below.kind.deep) [
            | inl d ↦ inl (ap Made (sym (cell_prefix-depth p) ∙ ap (λ i. cell_prefix i p) d ∙ front))
            | inr d ↦ inr (record {
              class = g.below.class;
              closure = closure-part k v rows p g.code ∙ g.below.closure;
              front = front;
              kind = record { front = g.below.kind.front; deep = d };
            })
          ]
      back (Marked x c) g =
          inr (record {
            class = g.below.class;
            closure = closure-part k v rows x g.code ∙ g.below.closure;
            front = cell_prefix_next k x w (cell_long (Marked x c) g.below ∙ sym w_long) (g.below.front
                ∙ sym (prefix_of (Marked x c) g)) (g.code ∙ sym w_code);
            kind = record {
              own = g.below.kind.own;
              aggregate = g.below.kind.aggregate
                  ∙ ap (agg_of measures) (sym (cov-part k v rows x g.code));
            };
          })

      part_is : (list : List Visit) → AreVisits (part_at k rows v) (suc k) w list
          → PartVisits rows k u v (cond (same_prefix k w u) (Made (cell_prefix (suc k) w) ∷ list) [])
      part_is list ih = go (same_prefix k w u) refl
        where
          go : (b : Bool) → same_prefix k w u ≡ b
              → PartVisits rows k u v (cond b (Made (cell_prefix (suc k) w) ∷ list) [])
          go true t =
              let f : cell_prefix k w ≡ cell_prefix k u = cell_eq-exact nat_equality _ _ t in
              record {
                sound = (
                  first f,
                  all_map (IsVisit (part_at k rows v) (suc k) w) (HasCode rows k u v) list
                      (behind f) ih.sound,
                );
                all = λ e g. elim (back e g) [ inl s ↦ inl s | inr b ↦ inr (ih.all e b) ];
                once = (
                  λ h. let d : suc k < depth (cell_prefix (suc k) w)
                      = (all_at (IsVisit (part_at k rows v) (suc k) w) (Made (cell_prefix (suc k) w)) list ih.sound
                      h).kind.deep in let e : depth (cell_prefix (suc k) w) ≡ suc k = depth_cell_prefix k v w w_code in
                      absurd (omega arith),
                  ih.once,
                );
              }
          go false t = record {
            sound = tt;
            all
                = λ e g. absurd (true≢false
                (sym (ap (λ c. cell_eq nat_eq c (cell_prefix k u)) (prefix_of e g)
                ∙ cell_eq-same nat_equality (cell_prefix k u)) ∙ t));
            once = tt;
          }

    module _ (more : List (Row ℕ) → List Visit) (ih : (part : List (Row ℕ)) → HaveDims n part
        → IsShared part (shared_by part) → AreVisits part (suc k) (shared_by part) (more part)) (later : List Visit)
        (l : AreVisits rows (suc k) u later) where
      each_part : (v : ℕ) → Among v (codes_in k rows) → PartVisits rows k u v (visit_part more k u (part_at k rows v))
      each_part v h =
          let r : (r : Row ℕ) × Among r (part_at k rows v) = code_among k v rows h in
          let is : IsShared (part_at k rows v) (shared_by (part_at k rows v))
          = shared_among (part_at k rows v) r.0 r.1 in
          part_is v (shared_by (part_at k rows v)) is (more (part_at k rows v))
          (ih (part_at k rows v) (dims_filter n (has_code k v) rows long) is)

      later_sound : AllByRecursion (IsVisit rows k u) later
      later_sound = all_map (IsVisit rows (suc k) u) (IsVisit rows k u) later sooner l.sound

      later_entry : (e : Visit) → Among e later → entry (cell_in e) k ≡ entry u k
      later_entry e a = cell_prefix_entry k (cell_in e) u (all_at (IsVisit rows (suc k) u) e later l.sound a).front

      pub here_is : (o : Option ℕ) → entry u k ≡ o → AreVisits rows k u (visit_at more k u o rows ++ later)
      here_is (Some x) o = record {
        sound = (own, later_sound);
        all = λ e g. elim (later_or e g (class_entry e g
            ∙ leq_entry k x u g.class (shared_below rows u (cell_in e) g.class shared g.closure) o ∙ sym o)) [
              | inl s
                  ↦ inl s
              | inr b ↦ inr (l.all e b)
            ];
        once = (
          λ h. let d : suc k < depth (cell_prefix (suc k) u)
              = (all_at (IsVisit rows (suc k) u) (Made (cell_prefix (suc k) u)) later l.sound h).kind.deep in
              let e : depth (cell_prefix (suc k) u) ≡ suc k = depth_cell_prefix k x u o in absurd (omega arith),
          l.once,
        );
      }
        where
          own : IsVisit rows k u (Made (cell_prefix (suc k) u))
          own = let d : depth (cell_prefix (suc k) u) ≡ suc k = depth_cell_prefix k x u o in
              record {
                class = u;
                closure
                    = closure_low rows u (cell_prefix (suc k) u) shared (cell_prefix-leq nat_equality (suc k) u);
                front
                    = cell_prefix-cell_prefix k (suc k) u (omega arith);
                kind
                    = record { front = ap (λ i. cell_prefix i u) d; deep = omega arith };
              }
      here_is None o = record {
        sound = all_append (IsVisit rows k u) _ later
            (all_flat (λ v. visit_part more k u (part_at k rows v)) (IsVisit rows k u) (codes_in k rows)
            (λ v h. all_map (HasCode rows k u v) (IsVisit rows k u) _ (λ e g. g.below) (each_part v h).sound))
            later_sound;
        all = λ e g. split e g (entry (cell_in e) k) refl;
        once = once_append _ later
            (once_flat (λ v. visit_part more k u (part_at k rows v)) (codes_in k rows) (once_codes k rows)
            (λ v h. (each_part v h).once)
            (λ v w e a b p q.
            let g = all_at (HasCode rows k u v) e _ (each_part v p).sound a in
            let h = all_at (HasCode rows k u w) e _ (each_part w q).sound b in
            let i : entry (cell_in e) k ≡ Some v = g.code in
            let j : entry (cell_in e) k ≡ Some w = h.code in
            cc))
            l.once
            (λ e a b.
            let c : (v : ℕ) × (entry (cell_in e) k ≡ Some v)
            = all_at (λ e. (v : ℕ) × (entry (cell_in e) k ≡ Some v)) e _ coded a in
            let i : entry (cell_in e) k ≡ Some c.0 = c.1 in
            let j : entry (cell_in e) k ≡ entry u k = later_entry e b in
            cc);
      }
        where
          coded : AllByRecursion (λ e. (v : ℕ) × (entry (cell_in e) k ≡ Some v))
              (flat_map (λ v. visit_part more k u (part_at k rows v)) (codes_in k rows))
          coded = all_flat (λ v. visit_part more k u (part_at k rows v)) (λ e. (v : ℕ) × (entry (cell_in e) k ≡ Some v))
              (codes_in k rows) (λ v h. all_map (HasCode rows k u v) (λ e. (v : ℕ) × (entry (cell_in e) k ≡ Some v)) _
              (λ e g. (v, g.code)) (each_part v h).sound)

          split : (e : Visit) → IsVisit rows k u e → (p : Option ℕ) → entry (cell_in e) k ≡ p
              → Among e (flat_map (λ v. visit_part more k u (part_at k rows v)) (codes_in k rows) ++ later)
          split e g (Some v) s =
              let r : (r : Row ℕ) × Among r rows × (covers nat_eq (cell_in e) r ≡ true)
              = some_covered nat_eq n (cell_in e) g.class rows g.closure in
              let a : Among v (codes_in k rows)
              = among_codes k v rows r.0 r.1 (covers_code k v (cell_in e) r.0.tuple r.2 s) in
              among_left e (flat_map (λ v. visit_part more k u (part_at k rows v)) (codes_in k rows)) later
              (among_flat (λ v. visit_part more k u (part_at k rows v)) e v (codes_in k rows) a
              ((each_part v a).all e (record { below = g; code = s })))
          split e g None s = elim (later_or e g (s ∙ sym o)) [
            | inl q ↦ absurd (
                let c : cell_in e ≡ cell_prefix (suc k) u = ap cell_in q in
                not_next e g q s)
            | inr b ↦ among_right e (flat_map (λ v. visit_part more k u (part_at k rows v)) (codes_in k rows))
                later (l.all e b)
          ]
            where
              not_next : (e : Visit) → IsVisit rows k u e → e ≡ Made (cell_prefix (suc k) u)
                  → entry (cell_in e) k ≡ None → ⊥
              not_next (Marked x c) g q s = cc
              not_next (Made p) g q s = elim (deeper_or k (depth p) g.kind.deep) [
                | inl d ↦ last_entry k p d s
                | inr d ↦ let is : p ≡ cell_prefix (suc k) u = cc in let low : cell_prefix (suc k) p ≡ p
                    = ap (cell_prefix (suc k)) is ∙ cell_prefix-cell_prefix (suc k) (suc k) u (omega arith) ∙ sym is in
                    shallow (suc k) p low d
              ]
                where
                  shallow : (j : ℕ) (p : Cell ℕ) → cell_prefix j p ≡ p → j < depth p → ⊥
                  shallow j p e h = let a : depth (cell_prefix j p) ≡ depth p = ap depth e in
                      let b : depth (cell_prefix j p) ≤ j = depth-cell_prefix-le j p in absurd (omega arith)

  pub visits : (m k n : ℕ) (rows : List (Row ℕ)) → m + k ≡ n → HaveDims n rows → IsShared rows (shared_by rows)
      → AreVisits rows k (shared_by rows) (visit measures m k rows)
  unfolding visit
  visits zero k n rows e long shared = record {
    sound = (
      record {
        class = shared_by rows;
        closure = closure-shared rows (shared_by rows) shared;
        front = refl;
        kind
            = record { own = refl; aggregate = ap (agg_of measures) (sym (cov-shared rows (shared_by rows) shared)) };
      },
      tt,
    );
    all = only;
    once = (λ h. h, tt);
  }
    where
      only : (e : Visit) → IsVisit rows k (shared_by rows) e
          → Among e (Marked (shared_by rows) (agg_of measures rows) ∷ [])
      only (Made p) g =
          let d : k < depth p = g.kind.deep in
          let b : depth p ≤ length p = depth-le p in
          let l : length p ≡ n = sym (ap length g.kind.front) ∙ length-cell_prefix (depth p) g.class
          ∙ closure_length nat_eq n p g.class rows long g.closure in
          absurd (omega arith)
      only (Marked w c) g =
          let l : length w ≡ n = sym (ap length g.kind.own) ∙ closure_length nat_eq n w g.class rows long g.closure in
          let m : length (shared_by rows) ≡ n
          = closure_length nat_eq n (shared_by rows) (shared_by rows) rows long
          (closure-shared rows (shared_by rows) shared) in
          let is : w ≡ shared_by rows = sym (cell_prefix_all k w (omega arith)) ∙ g.front
          ∙ cell_prefix_all k (shared_by rows) (omega arith) in
          inl (ap₂ Marked is (g.kind.aggregate ∙ ap (λ x. agg nat_eq measures rows x) is
          ∙ ap (agg_of measures) (cov-shared rows (shared_by rows) shared)))
  visits (suc m) k n rows e long shared =
      let lt : k < n = omega arith in
      here_is n k rows long lt (shared_by rows) shared (visit measures m (suc k))
      (λ part l s. visits m (suc k) n part (omega arith) l s) (visit measures m (suc k) rows)
      (visits m (suc k) n rows (omega arith) long shared) (entry (shared_by rows) k) refl
