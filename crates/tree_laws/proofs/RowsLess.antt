-- Which nodes stay as rows go, and where their forced children stand.
use Rattle.std.proofs.Common.{◌≡◌, ◌≢◌, ◌↔◌, ◌++◌, ℕ, zero, suc, ◌≤◌, min, slice_get, Bool, true, Some, None, List, [], ◌∷◌, length, refl}
use Rattle.std.proofs.Common.{sym, ap, ap₂, ◌∙◌, true≢false, arith}
use Rattle.std.proofs.lemmas.Bool.{and_parts}
use Rattle.std.specs.declared.cmp.Ordering.{Ordering}
use Rattle.std.specs.List.{position_or_len}
use Rattle.std.specs.Option.{option_map, is_some}
use Rattle.cube_defs.specs.Cell.{Cell, entry_leq, leq, depth, cell_prefix, upto}
use Rattle.cube_defs.specs.Rows.{Row, covers, closure, is_node}
use Rattle.cube_defs.specs.Tree.{Edge, next_value}
use Rattle.cube_laws.proofs.CallerLemmas.{IsEquality, length-cell_prefix, depth-le, is_node-is, prefix_of_class, closure_grows, node-insert}
use Rattle.cube_laws.proofs.CallerLemmas.{equality_by}
use Rattle.cube_laws.specs.Lists.{Among}
use Rattle.std.specs.Ordering.{eq_by_cmp}
use Rattle.std.specs.Cmp.{IsTotalOrder}
use Rattle.std.specs.FinMap.{IsAntisymmetric}
use Rattle.tree_laws.specs.Labels.{first_new, target_of_label, IsLabel, IsWithin, record_of}
use Rattle.tree_laws.proofs.Edges.{edges-are}
use Rattle.tree_laws.proofs.Leads.{lead_other, lead_less}

module _ {A : Type 0} {eq : A → A → Bool} (law : IsEquality eq) where
  cell_prefix_zero_same : (u w : Cell A) → length u ≡ length w → cell_prefix zero w ≡ cell_prefix zero u
  cell_prefix_zero_same [] [] l = refl
  cell_prefix_zero_same [] (f ∷ w) l = absurd (omega arith)
  cell_prefix_zero_same (e ∷ u) [] l = absurd (omega arith)
  cell_prefix_zero_same (e ∷ u) (f ∷ w) l = ap (λ x. None ∷ x) (cell_prefix_zero_same u w (omega arith))

  -- a greater cell has the same first n entries just where its first new value is not among them
  pub cell_prefix_new : (n : ℕ) (u w : Cell A) → leq eq u w ≡ true → length u ≡ length w → n ≤ length u
      → (cell_prefix n w ≡ cell_prefix n u) ↔ (n ≤ first_new u w)
  cell_prefix_new zero u w h l m = (λ e. omega arith, λ e. cell_prefix_zero_same u w l)
  cell_prefix_new (suc n) [] w h l m = absurd (omega arith)
  cell_prefix_new (suc n) (e ∷ u) [] h l m = absurd (omega arith)
  cell_prefix_new (suc n) (None ∷ u) (Some v ∷ w) h l m = (λ e. absurd (apart e), λ k. absurd (omega arith))
    where
      apart : Some v ∷ cell_prefix n w ≡ None ∷ cell_prefix n u → ⊥
      apart e = cc
  cell_prefix_new (suc n) (None ∷ u) (None ∷ w) h l m =
      let r = cell_prefix_new n u w h (omega arith) (omega arith) in (
        λ e. let t : cell_prefix n w ≡ cell_prefix n u = cc in let s : n ≤ first_new u w = r.0 t in
            omega arith,
        λ k. ap (λ x. None ∷ x) (r.1 (omega arith)),
      )
  cell_prefix_new (suc n) (Some a ∷ u) (None ∷ w) h l m = absurd (true≢false (sym h))
  cell_prefix_new (suc n) (Some a ∷ u) (Some b ∷ w) h l m =
      let p = and_parts (eq a b) (leq eq u w) h in
      let r = cell_prefix_new n u w p.1 (omega arith) (omega arith) in
      let s : Some b ≡ Some a = ap (λ x. Some x) (sym (law.exact a b p.0)) in (
        λ e. let t : cell_prefix n w ≡ cell_prefix n u = cc in let s : n ≤ first_new u w = r.0 t in
            omega arith,
        λ k. ap₂ (λ x y. x ∷ y) s (r.1 (omega arith)),
      )

  -- where p was a node with the closure u, and has w now: it stays a node just where w's first new value is after p's
  -- last
  pub node_after : (before after : List (Row A)) (p u w : Cell A) → is_node eq before p ≡ true
      → closure eq before p ≡ Some u → closure eq after p ≡ Some w → leq eq u w ≡ true → length u ≡ length w
      → (is_node eq after p ≡ true) ↔ (depth p ≤ first_new u w)
  node_after before after p u w h e f up l =
      let was : Some (cell_prefix (depth p) u) ≡ Some p = ap (option_map (cell_prefix (depth p))) (sym e)
      ∙ (is_node-is law before p).0 h in
      let front : cell_prefix (depth p) u ≡ p = cc in
      let d = cell_prefix_new (depth p) u w up l
      (omega (arith, depth-le p, length-cell_prefix (depth p) u, ap length front)) in
      let n = is_node-is law after p in (
        λ k. let now : Some (cell_prefix (depth p) w) ≡ Some p = ap (option_map (cell_prefix (depth p))) (sym f)
            ∙ n.0 k in let is : cell_prefix (depth p) w ≡ p = cc in d.0 (is ∙ sym front),
        λ k. n.1 (ap (option_map (cell_prefix (depth p))) f ∙ ap (λ x. Some x) (d.1 k ∙ front)),
      )

  first_value : (u w : Cell A) → leq eq u w ≡ true → length u ≡ length w
      → position_or_len is_some w ≡ min (position_or_len is_some u) (first_new u w)
  first_value [] [] h l = omega arith
  first_value [] (f ∷ w) h l = absurd (omega arith)
  first_value (e ∷ u) [] h l = absurd (omega arith)
  first_value (None ∷ u) (Some v ∷ w) h l = omega arith
  first_value (None ∷ u) (None ∷ w) h l = let m = first_value u w h (omega arith) in omega arith
  first_value (Some a ∷ u) (None ∷ w) h l = absurd (true≢false (sym h))
  first_value (Some a ∷ u) (Some b ∷ w) h l = omega arith

  -- the next value stands where it did, or at the first new one
  pub next_after : (cmp : A → A → Ordering) (n : ℕ) (u w : Cell A) → leq eq u w ≡ true → length u ≡ length w
      → n ≤ first_new u w → next_value cmp n w ≡ min (next_value cmp n u) (first_new u w)
  next_after cmp zero u w h l m = let f = first_value u w h l in omega arith
  next_after cmp (suc n) [] [] h l m = absurd (omega arith)
  next_after cmp (suc n) [] (f ∷ w) h l m = absurd (omega arith)
  next_after cmp (suc n) (e ∷ u) [] h l m = absurd (omega arith)
  next_after cmp (suc n) (None ∷ u) (Some v ∷ w) h l m = absurd (omega arith)
  next_after cmp (suc n) (None ∷ u) (None ∷ w) h l m = let f = next_after cmp n u w h (omega arith) (omega arith) in
      omega arith
  next_after cmp (suc n) (Some a ∷ u) (f ∷ w) h l m = let k : leq eq u w ≡ true
      = (and_parts (entry_leq eq (Some a) f) (leq eq u w) h).1 in
      let g = next_after cmp n u w k (omega arith) (omega arith) in omega arith

-- the record of a node after a row that it covers has gone, by its record before
module _ {A : Type 0} {cmp : A → A → Ordering} (total : IsTotalOrder cmp) (anti : IsAntisymmetric cmp) (measures : ℕ)
    (xs : List (Row A)) (r : Row A) (ys : List (Row A)) (p u w : Cell A) (c : covers (eq_by_cmp cmp) p r ≡ true)
    (e : closure (eq_by_cmp cmp) (xs ++ r ∷ ys) p ≡ Some u) (f : closure (eq_by_cmp cmp) (xs ++ ys) p ≡ Some w)
    (node : is_node (eq_by_cmp cmp) (xs ++ ys) p ≡ true) where
  law_by : IsEquality (eq_by_cmp cmp)
  law_by = equality_by total anti

  node_before : is_node (eq_by_cmp cmp) (xs ++ r ∷ ys) p ≡ true
  node_before = node-insert law_by xs r ys p node

  prefix_before : cell_prefix (depth p) u ≡ p
  prefix_before = (prefix_of_class law_by (xs ++ r ∷ ys) p u e node_before).1

  prefix_after : cell_prefix (depth p) w ≡ p
  prefix_after = (prefix_of_class law_by (xs ++ ys) p w f node).1

  long : length u ≡ length w
  long = sym (length-cell_prefix (depth p) u) ∙ ap length (prefix_before ∙ sym prefix_after)
      ∙ length-cell_prefix (depth p) w

  -- the labels reach no further than before
  pub no_further : next_value cmp (depth p) w ≤ next_value cmp (depth p) u
  no_further =
      let up : leq (eq_by_cmp cmp) u w ≡ true = closure_grows law_by xs r ys p u w e f in
      let stays : depth p ≤ first_new u w
      = (node_after law_by (xs ++ r ∷ ys) (xs ++ ys) p u w node_before e f up long).0 node in
      omega (arith, next_after law_by cmp (depth p) u w up long stays)

  module _ (x : Edge A (Cell A)) where
    before : Among x (record_of cmp measures (xs ++ r ∷ ys) p u).edges
        ↔ IsLabel cmp (xs ++ r ∷ ys) p (next_value cmp (depth p) u) x
    before = edges-are total anti measures (xs ++ r ∷ ys) p u e prefix_before x

    after : Among x (record_of cmp measures (xs ++ ys) p w).edges
        ↔ IsLabel cmp (xs ++ ys) p (next_value cmp (depth p) w) x
    after = edges-are total anti measures (xs ++ ys) p w f prefix_after x

    -- an edge with another value than the row's was there
    pub other_edge_less : slice_get r.tuple x.dim ≢ Some x.value → Among x (record_of cmp measures (xs ++ ys) p w).edges
        ↔ (IsWithin p (next_value cmp (depth p) w) x.dim × Among x (record_of cmp measures (xs ++ r ∷ ys) p u).edges)
    other_edge_less o = (
      λ m. let l = after.0 m in (
        l.place,
        before.1 (record {
          place
              = record {
                behind = l.place.behind;
                before = omega (arith, l.place.before, no_further);
                within
                    = l.place.within;
              };
          leads = same l.place ∙ l.leads;
        }),
      ),
      λ h. after.1 (record { place = h.0; leads = sym (same h.0) ∙ (before.0 h.1).leads }),
    )
      where
        same : IsWithin p (next_value cmp (depth p) w) x.dim
            → target_of_label (eq_by_cmp cmp) (xs ++ r ∷ ys) p x.dim x.value ≡ target_of_label (eq_by_cmp cmp)
            (xs ++ ys) p x.dim x.value
        same i = lead_other law_by xs r ys p x.dim x.value c i.behind i.within o

    -- the one with the row's value leads from its old target to the prefix of what closure that has now
    pub own_edge_less : (t : Cell A)
        → Among (record { dim = x.dim; value = x.value; target = t }) (record_of cmp measures (xs ++ r ∷ ys) p u).edges
        → Among x (record_of cmp measures (xs ++ ys) p w).edges
        ↔ (IsWithin p (next_value cmp (depth p) w) x.dim
        × (option_map (λ z. upto z x.dim) (closure (eq_by_cmp cmp) (xs ++ ys) t) ≡ Some x.target))
    own_edge_less t m =
        let l = (edges-are total anti measures (xs ++ r ∷ ys) p u e prefix_before
        (record { dim = x.dim; value = x.value; target = t })).0 m in
        let target_after_row : target_of_label (eq_by_cmp cmp) (xs ++ ys) p x.dim x.value
        ≡ option_map (λ z. upto z x.dim) (closure (eq_by_cmp cmp) (xs ++ ys) t)
        = lead_less law_by xs r ys p t x.dim x.value l.place.behind l.place.within l.leads in (
          λ k. let a = after.0 k in (a.place, sym target_after_row ∙ a.leads),
          λ h. after.1 (record { place = h.0; leads = target_after_row ∙ h.1 }),
        )
