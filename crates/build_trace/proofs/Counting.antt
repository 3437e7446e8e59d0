-- The nodes are as many as the adds: where one more is to be added than fit, there are more nodes.
use Rattle.std.proofs.Common.{◌≡◌, inl, inr, ℕ, ◌<◌, true, List, [], ◌∷◌, ◌++◌, length, nat_eq, nat_cmp, sym, ap, ◌∙◌, arith}
use Rattle.std.specs.Ordering.{eq_by_cmp}
use Rattle.cube_defs.specs.Cell.{Cell}
use Rattle.cube_defs.specs.Rows.{Row, is_node}
use Rattle.cube_defs.specs.Tree.{nodes, covered}
use Rattle.cube_laws.specs.Lists.{Among}
use Rattle.cube_laws.proofs.CallerLemmas.{nodes-is, nat_total, nat_anti, IsShared, HaveDims, one_test}
use Rattle.tree_laws.proofs.CallerLemmas.{EachOnce, once_filter, covered_once, sum_ones, sum_same}
use Rattle.cube_laws.specs.Parting.{shared_by}
use Rattle.build_trace.specs.Trace.{Act, Act.{Add, Label, Mark}, trace, adds_of}
use Rattle.build_trace.proofs.Visits.{Visit.{Made}, visits_of, visit_add}
use Rattle.build_trace.proofs.Steps.{adds_append}
use Rattle.build_trace.proofs.Canonical.{adds_are, once_visits}

adds_visits : (q : Cell ℕ) (es : List Act) → Among q (adds_of es) → Among (Made q) (visits_of es)
adds_visits q [] h = h
adds_visits q (Add p ∷ es) h = elim h [ inl e ↦ inl (ap Made e) | inr k ↦ inr (adds_visits q es k) ]
adds_visits q (Label b f i v t ∷ es) h = adds_visits q es h
adds_visits q (Mark w a ∷ es) h = inr (adds_visits q es h)

among_adds : (q : Cell ℕ) (es : List Act) → Among (Add q) es → Among q (adds_of es)
among_adds q [] h = h
among_adds q (Add p ∷ es) h = elim h [ inl e ↦ inl (cc) | inr k ↦ inr (among_adds q es k) ]
among_adds q (Label b f i v t ∷ es) h = elim h [ inl e ↦ absurd (cc) | inr k ↦ among_adds q es k ]
among_adds q (Mark w a ∷ es) h = elim h [ inl e ↦ absurd (cc) | inr k ↦ among_adds q es k ]

adds_once : (es : List Act) → EachOnce (visits_of es) → EachOnce (adds_of es)
adds_once [] h = tt
adds_once (Add p ∷ es) h = (λ k. h.0 (adds_visits p es k), adds_once es h.1)
adds_once (Label b f i v t ∷ es) h = adds_once es h
adds_once (Mark w a ∷ es) h = adds_once es h.1

module _ (measures n : ℕ) (table : List (Row ℕ)) (all_long : HaveDims n table)
    (shared : IsShared table (shared_by table)) where
  in_nodes : (q : Cell ℕ) → is_node nat_eq table q ≡ true → Among q (nodes nat_cmp table)
  in_nodes q h = (nodes-is nat_total nat_anti n table all_long q).1 (ap (λ eq. is_node eq table q) one_test ∙ h)

  nodes_once : EachOnce (nodes nat_cmp table)
  nodes_once = once_filter (is_node (eq_by_cmp nat_cmp) table) (covered nat_cmp table)
      (covered_once nat_total nat_anti table)

  pub adds_count : length (adds_of (trace measures n table)) ≡ length (nodes nat_cmp table)
  adds_count =
      sym (sum_ones (adds_of (trace measures n table)))
      ∙ sum_same (λ c. 1) (adds_of (trace measures n table)) (nodes nat_cmp table)
      (adds_once (trace measures n table) (once_visits measures n table all_long shared)) nodes_once
      (λ q a. in_nodes q ((adds_are measures n table all_long shared q).0
      (visit_add q (trace measures n table) (adds_visits q (trace measures n table) a))))
      (λ q a. among_adds q (trace measures n table)
      ((adds_are measures n table all_long shared q).1 (ap (λ eq. is_node eq table q) (sym one_test)
      ∙ (nodes-is nat_total nat_anti n table all_long q).0 a)))
      ∙ sum_ones (nodes nat_cmp table)

  -- where a node is to be added to so many, there are more nodes
  pub more_nodes : (xs ys : List Act) (p : Cell ℕ) → trace measures n table ≡ xs ++ Add p ∷ ys
      → length (adds_of xs) < length (nodes nat_cmp table)
  more_nodes xs ys p e =
      let a : length (adds_of (trace measures n table)) ≡ length (adds_of xs ++ p ∷ adds_of ys)
      = ap length (ap adds_of e ∙ adds_append xs (Add p ∷ ys)) in
      let c = adds_count in
      let b : length (adds_of xs) < length (adds_of xs ++ p ∷ adds_of ys) = longer (adds_of xs) p (adds_of ys) in
      omega arith
    where
      longer : (xs : List (Cell ℕ)) (x : Cell ℕ) (ys : List (Cell ℕ)) → length xs < length (xs ++ x ∷ ys)
      longer [] x ys = omega arith
      longer (y ∷ xs) x ys = let h : length xs < length (xs ++ x ∷ ys) = longer xs x ys in omega arith
