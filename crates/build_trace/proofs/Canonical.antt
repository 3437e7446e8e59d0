-- The adds are the nodes, each once; a map that follows the trace is canonical.
use Rattle.std.proofs.Common.{◌≡◌, ◌↔◌, ℕ, zero, suc, ◌<◌, ◌≤◌, true, Some, List, length, nat_eq, nat_cmp, inl, inr, ◌⊎◌, refl, sym, ap}
use Rattle.std.proofs.Common.{subst, ◌∙◌, arith}
use Rattle.std.specs.Ordering.{eq_by_cmp}
use Rattle.std.specs.FinMap as finmap
use Rattle.std.specs.Option.{option_map}
use Rattle.cube_defs.specs.Cell.{Cell, cell_prefix, depth}
use Rattle.cube_defs.specs.Rows.{Row, closure, is_node}
use Rattle.cube_defs.specs.Tree.{Tree, renamed, node_of, IsCanonical}
use Rattle.cube_laws.specs.Lists.{Among}
use Rattle.cube_laws.proofs.CallerLemmas.{nat_equality, cell_prefix-depth, length-cell_prefix, all_at, closure_length, is_class-is}
use Rattle.cube_laws.proofs.CallerLemmas.{is_node-is, class_prefixes, node_closed, IsShared, HaveDims, closure-shared, one_test}
use Rattle.tree_laws.proofs.CallerLemmas.{depth-cell_prefix-le, EachOnce}
use Rattle.cube_laws.specs.Parting.{shared_by}
use Rattle.build_trace.specs.Trace.{Act.{Add}, acts, trace, read}
use Rattle.build_trace.specs.Follows.{Follows}
use Rattle.build_trace.proofs.Prefixes.{zero_prefix}
use Rattle.build_trace.proofs.Visits.{Visit.{Made}, visits_of, add_visit, visit_add}
use Rattle.build_trace.proofs.Visited.{IsVisit}
use Rattle.build_trace.proofs.Record.{all_visits, shared_long, node_read}

no_or_some : (d : ℕ) → (d ≡ 0) ⊎ (0 < d)
no_or_some zero = inl refl
no_or_some (suc d) = inr (omega arith)

module _ (measures n : ℕ) (table : List (Row ℕ)) (all_long : HaveDims n table)
    (shared : IsShared table (shared_by table)) where
  -- the adds are the nodes
  pub adds_are : (q : Cell ℕ) → Among (Add q) (trace measures n table) ↔ (is_node nat_eq table q ≡ true)
  adds_are q = (
    λ h. elim h [
      | inl e ↦
          let same : q ≡ cell_prefix 0 (shared_by table) = cc in
          subst (λ z. is_node nat_eq table z ≡ true) (sym same)
          (class_prefixes nat_equality table 0 (shared_by table)
          ((is_class-is nat_equality table (shared_by table)).1 (closure-shared table (shared_by table) shared)))
      | inr k ↦
          let g = all_at (IsVisit measures table 0 (shared_by table)) (Made q) (visits_of (acts measures n 0 table))
          (all_visits measures n table all_long shared).sound (add_visit q (acts measures n 0 table) k) in
          (is_node-is nat_equality table q).1 (ap (option_map (cell_prefix (depth q))) g.closure
          ∙ ap (λ c. Some c) g.kind.front)
    ],
    λ h.
        let p : (c : Cell ℕ) × (closure nat_eq table q ≡ Some c) × (cell_prefix (depth q) c ≡ q)
        = node_closed nat_equality table q h in
        let l : length q ≡ n = sym (ap length p.2) ∙ length-cell_prefix (depth q) p.0
        ∙ closure_length nat_eq n q p.0 table all_long p.1 in
        let root : cell_prefix 0 q ≡ cell_prefix 0 (shared_by table)
        = zero_prefix q (shared_by table) (l ∙ sym (shared_long measures n table all_long shared)) in
        elim (no_or_some (depth q)) [
          | inl z ↦ inl (ap Add (sym (cell_prefix-depth q) ∙ ap (λ i. cell_prefix i q) z ∙ root))
          | inr d ↦ inr (visit_add q (acts measures n 0 table)
              ((all_visits measures n table all_long shared).all (Made q)
              (record { class = p.0; closure = p.1; front = root; kind = record { front = p.2; deep = d } })))
        ],
  )

  -- each node is added once, and each class is marked once
  pub once_visits : EachOnce (visits_of (trace measures n table))
  once_visits = (
    λ h.
        let g = all_at (IsVisit measures table 0 (shared_by table)) (Made (cell_prefix 0 (shared_by table)))
        (visits_of (acts measures n 0 table)) (all_visits measures n table all_long shared).sound h in
        let d : 0 < depth (cell_prefix 0 (shared_by table)) = g.kind.deep in
        let b : depth (cell_prefix 0 (shared_by table)) ≤ 0 = depth-cell_prefix-le 0 (shared_by table) in
        absurd (omega arith),
    (all_visits measures n table all_long shared).once,
  )

  pub read_node : (q : Cell ℕ) → is_node nat_eq table q ≡ true
      → node_of nat_cmp measures table q ≡ Some (read (trace measures n table) q)
  read_node q h =
      let p : (c : Cell ℕ) × (closure nat_eq table q ≡ Some c) × (cell_prefix (depth q) c ≡ q)
      = node_closed nat_equality table q h in
      node_read measures n table all_long shared q p.0 p.1 p.2

  node_test : (q : Cell ℕ) → is_node (eq_by_cmp nat_cmp) table q ≡ is_node nat_eq table q
  node_test q = ap (λ eq. is_node eq table q) one_test

  -- a map that follows the trace is the canonical tree
  pub followed : (tree : Tree ℕ) → Follows (trace measures n table) (λ k. finmap.get tree k)
      → IsCanonical nat_cmp measures table tree
  followed tree f = record {
    each = λ k x h.
        let e = f.each k x h in
        let node : is_node nat_eq table x.cell ≡ true = (adds_are x.cell).0 e.0 in (
          node_test x.cell ∙ node,
          ap (λ y. Some y) e.1
              ∙ sym (ap (option_map (renamed (λ c. Some c))) (read_node x.cell node)),
        );
    once = f.once;
    all = λ c h. f.all c ((adds_are c).1 (sym (node_test c) ∙ h));
  }
