-- Of what is met, those that no other generalizes are the most general classes that are asked for.
use Rattle.std.proofs.Common.{◌≡◌, ◌↔◌, ℕ, Bool, true, false, not, ◌&&◌, ◌||◌, cond, nat_eq, eqb-true, eq-eqb, Some, List, [], ◌∷◌, map}
use Rattle.std.proofs.Common.{filter, length, refl, sym, ap, ap₂, ◌∙◌, subst, arith}
use Rattle.std.specs.Prelude.{IsSome}
use Rattle.std.specs.Cmp.{nat_cmp_total}
use Rattle.std.specs.FinMap as numbers
use Rattle.std.specs.List.{All, AllByRecursion, IsDistinct, list_all}
use Rattle.std.specs.Ordering.{nat_cmp, eq_by_cmp}
use Rattle.std.proofs.lemmas.Bool.{and_from, and_parts}
use Rattle.cube_defs.specs.Cell.{Cell, cell_eq, leq}
use Rattle.cube_defs.specs.Rows.{is_class}
use Rattle.cube_defs.specs.Tree.{Tree, classes}
use Rattle.cube_laws.specs.Lists.{Among}
use Rattle.cube_laws.specs.Parts.{value_count}
use Rattle.cube_laws.proofs.CallerLemmas.{cell_eq-exact, cell_eq-from, leq_antisymm, leq_trans, classes-is, all_among, among_all}
use Rattle.cube_laws.proofs.CallerLemmas.{among_filter, among_map, filter_among, map_among, code_equality, leq_is}
use Rattle.qc_arena.specs.RecordReaders.{record_at}
use Rattle.tree_search.specs.Found.{IsTreeOf, TreeRows}
use Rattle.tree_search.proofs.CallerLemmas.{wide, cell_there}
use Rattle.iceberg_query.specs.declared.ask.Ask.{Ask}
use Rattle.iceberg_query.specs.Asked.{ask_in}
use Rattle.quotient_lattice.specs.declared.node_cells.NodeCell.{NodeCell}
use Rattle.quotient_lattice.specs.Neighbours.{is_no_other, is_rolled, qualifies}
use Rattle.quotient_lattice.specs.NodeCells.{AreAt, IsPassing, number_of}
use Rattle.quotient_lattice.specs.Visits.{AreMet, is_most_general_among, is_no_generalization}
use Rattle.quotient_lattice.proofs.Coded.{among_passes, all_pass}
use Rattle.quotient_lattice.proofs.Rolled.{most_general}
use Rattle.quotient_lattice.proofs.NodesDecoded.{class_node}
use Rattle.quotient_lattice.proofs.Visited.{wants_is}

lowest_once : (p : NodeCell → Bool) (xs : List NodeCell) → IsDistinct nat_eq (map number_of xs)
    → IsDistinct nat_eq (map number_of (filter p xs))
unfolding IsDistinct
lowest_once p [] d = tt
lowest_once p (x ∷ xs) d = go (lowest_once p xs d.1) (p x)
  where
    behind : (ys : List NodeCell) → AllByRecursion (λ k. nat_eq (number_of x) k ≡ false) (map number_of ys)
        → AllByRecursion (λ k. nat_eq (number_of x) k ≡ false) (map number_of (filter p ys))
    behind [] a = tt
    behind (y ∷ ys) a = here (behind ys a.1) (p y)
      where
        here : AllByRecursion (λ k. nat_eq (number_of x) k ≡ false) (map number_of (filter p ys)) → (b : Bool)
            → AllByRecursion (λ k. nat_eq (number_of x) k ≡ false)
            (map number_of (cond b (y ∷ filter p ys) (filter p ys)))
        here more true = (a.0, more)
        here more false = more

    go : IsDistinct nat_eq (map number_of (filter p xs)) → (b : Bool)
        → IsDistinct nat_eq (map number_of (cond b (x ∷ filter p xs) (filter p xs)))
    go more true = (behind xs d.0, more)
    go more false = more

lowest_at : (tree : Tree ℕ) (p : NodeCell → Bool) (xs : List NodeCell) → AreAt tree xs → AreAt tree (filter p xs)
lowest_at tree p xs at =
    among_all _ (filter p xs) (λ x m. all_among (λ (x : NodeCell). (record_at tree x.node.0).cell ≡ x.cell) xs at x
    (filter_among p x xs m).0)

module _ (dims : ℕ) (tree : Tree ℕ) (source : TreeRows) (h : IsTreeOf dims tree source) (ask : Ask) (start : ℕ)
    (met : List NodeCell) (at : AreAt tree met) (are : AreMet tree source ask start (map number_of met)) where
  abbrev cell : ℕ → Cell ℕ
  cell k = (record_at tree k).cell

  abbrev u : Cell ℕ
  u = (record_at tree start).cell

  abbrev asks : Cell ℕ → Bool
  asks d = qualifies nat_cmp source.measures source.rows (ask_in ask) u d

  abbrev rolled : Cell ℕ → Bool
  rolled d = is_rolled nat_cmp source.measures source.rows (ask_in ask) u d

  own : (x : NodeCell) → Among x met → cell (number_of x) ≡ x.cell
  own x m = all_among (λ (x : NodeCell). cell (number_of x) ≡ x.cell) met at x m

  number_met : (x : NodeCell) → Among x met → Among (number_of x) (map number_of met)
  number_met x m = map_among number_of x met m

  qualified : (k : ℕ) → Among k (map number_of met) → asks (cell k) ≡ true
  qualified k m = let p = are.each k m in
      sym (wants_is dims tree source h ask start k p.0.there p.0.class p.0.passes) ∙ p.1

  class_in : (k : ℕ) → Among k (map number_of met) → Among (cell k) (classes nat_cmp source.rows)
  class_in k m = (classes-is nat_cmp_total numbers.nat_cmp-IsAntisymmetric source.rows dims h.wide (cell k)).1
      (are.each k m).0.class

  -- two nodes of one cell are one
  one : (j k : ℕ) → Among j (map number_of met) → Among k (map number_of met) → cell j ≡ cell k → j ≡ k
  one j k m n e = h.canonical.once j k (cell k) (cell_there tree j (are.each j m).0.there ∙ ap (λ c. Some c) e)
      (cell_there tree k (are.each k n).0.there)

  no_other : (x : NodeCell) → Among x met → is_most_general_among met x ≡ true → (e : Cell ℕ)
      → Among e (classes nat_cmp source.rows) → (b d : Bool) → asks e ≡ b
      → leq (eq_by_cmp nat_cmp) e (cell (number_of x)) ≡ d
      → (not (b && d) || cell_eq (eq_by_cmp nat_cmp) e (cell (number_of x))) ≡ true
  no_other x m low e n false d p q = refl
  no_other x m low e n true false p q = refl
  no_other x m low e n true true p q =
      let g : (e' : Cell ℕ) × Among e' (classes nat_cmp source.rows) × (rolled e' ≡ true)
      × (leq (eq_by_cmp nat_cmp) e' e ≡ true)
      = most_general dims source.rows h.wide source.measures (ask_in ask) u (value_count e) e n p (omega arith) in
      let c = (classes-is nat_cmp_total numbers.nat_cmp-IsAntisymmetric source.rows dims h.wide g.0).0 g.1 in
      let node : (k : ℕ) × IsSome (numbers.get tree k) × ((record_at tree k).cell ≡ g.0)
      = class_node dims tree source h g.0 c in
      let found : Among node.0 (map number_of met)
      = are.all node.0 (record {
        there = node.1;
        class = ap (is_class (eq_by_cmp nat_cmp) source.rows) node.2 ∙ c;
        passes = ap rolled node.2 ∙ g.2;
      }) in
      let y : (y : NodeCell) × Among y met × (node.0 ≡ number_of y) = among_map number_of node.0 met found in
      let is : y.0.cell ≡ g.0 = sym (own y.0 y.1) ∙ ap cell (sym y.2) ∙ node.2 in
      let under : leq (eq_by_cmp nat_cmp) y.0.cell x.cell ≡ true
      = ap₂ (leq (eq_by_cmp nat_cmp)) is (sym (own x m)) ∙ leq_trans code_equality g.0 e (cell (number_of x)) g.3 q in
      let t : is_no_generalization x y.0 ≡ true = among_passes (is_no_generalization x) met low y.0 y.1 in
      let same : nat_eq (number_of y.0) (number_of x) ≡ true
      = sym (ap (λ b. not b || nat_eq (number_of y.0) (number_of x)) (sym (leq_is y.0.cell x.cell) ∙ under)) ∙ t in
      let top : g.0 ≡ cell (number_of x) = sym is ∙ sym (own y.0 y.1)
      ∙ ap cell (eqb-true (number_of y.0) (number_of x) same) in
      cell_eq-from code_equality e (cell (number_of x))
      (leq_antisymm code_equality e (cell (number_of x)) q
      (subst (λ c. leq (eq_by_cmp nat_cmp) c e ≡ true) top g.3))

  lowest_each : (k : ℕ) → Among k (map number_of (filter (is_most_general_among met) met))
      ↔ IsPassing tree source rolled k
  lowest_each k = (to, from)
    where
      to : Among k (map number_of (filter (is_most_general_among met) met)) → IsPassing tree source rolled k
      to m =
          let x : (x : NodeCell) × Among x (filter (is_most_general_among met) met) × (k ≡ number_of x)
          = among_map number_of k (filter (is_most_general_among met) met) m in
          let f = filter_among (is_most_general_among met) x.0 met x.1 in
          let p = are.each (number_of x.0) (number_met x.0 f.0) in
          subst (IsPassing tree source rolled) (sym x.2) (record {
            there = p.0.there;
            class = p.0.class;
            passes = and_from _ _ (qualified (number_of x.0) (number_met x.0 f.0))
                (all_pass (is_no_other nat_cmp source.measures source.rows (ask_in ask) u (cell (number_of x.0)))
                (classes nat_cmp source.rows)
                (λ e n. no_other x.0 f.0 f.1 e n (asks e)
                (leq (eq_by_cmp nat_cmp) e (cell (number_of x.0))) refl refl));
          })

      from : IsPassing tree source rolled k → Among k (map number_of (filter (is_most_general_among met) met))
      from p =
          let m = are.all k p in
          let x : (x : NodeCell) × Among x met × (k ≡ number_of x) = among_map number_of k met m in
          let q = and_parts (asks (cell k)) _ p.passes in
          subst (λ j. Among j (map number_of (filter (is_most_general_among met) met))) (sym x.2)
          (map_among number_of x.0 (filter (is_most_general_among met) met)
          (among_filter (is_most_general_among met) x.0 met x.1
          (all_pass (is_no_generalization x.0) met
          (λ y n. lower x.0 x.1 x.2 q.1 y n (leq nat_eq y.cell x.0.cell) refl))))
        where
          lower : (x : NodeCell) → Among x met → k ≡ number_of x
              → list_all (is_no_other nat_cmp source.measures source.rows (ask_in ask) u (cell k))
              (classes nat_cmp source.rows) ≡ true → (y : NodeCell) → Among y met → (b : Bool)
              → leq nat_eq y.cell x.cell ≡ b → (not b || nat_eq y.node.0 x.node.0) ≡ true
          lower x mx is all y n false e = refl
          lower x mx is all y n true e =
              let my = number_met y n in
              let under : leq (eq_by_cmp nat_cmp) (cell (number_of y)) (cell k) ≡ true
              = ap₂ (leq (eq_by_cmp nat_cmp)) (own y n) (ap cell is ∙ own x mx) ∙ leq_is y.cell x.cell ∙ e in
              let t = among_passes (is_no_other nat_cmp source.measures source.rows (ask_in ask) u (cell k))
              (classes nat_cmp source.rows) all (cell (number_of y)) (class_in (number_of y) my) in
              let same : cell_eq (eq_by_cmp nat_cmp) (cell (number_of y)) (cell k) ≡ true
              = sym (ap₂ (λ a b. not (a && b) || cell_eq (eq_by_cmp nat_cmp) (cell (number_of y)) (cell k))
              (qualified (number_of y) my) under) ∙ t in
              eq-eqb (number_of y) (number_of x)
              (one (number_of y) (number_of x) my (number_met x mx)
              (cell_eq-exact code_equality (cell (number_of y)) (cell k) same ∙ ap cell is))

  -- those that are kept are the nodes that pass, each once
  pub lowest_kept : (kept : List NodeCell) → kept ≡ filter (is_most_general_among met) met
      → IsDistinct nat_eq (map number_of met) → AreAt tree kept × IsDistinct nat_eq (map number_of kept)
      × ((k : ℕ) → Among k (map number_of kept) ↔ IsPassing tree source rolled k)
  lowest_kept kept is once =
      subst (λ xs. AreAt tree xs × IsDistinct nat_eq (map number_of xs)
      × ((k : ℕ) → Among k (map number_of xs) ↔ IsPassing tree source rolled k)) (sym is)
      (lowest_at tree (is_most_general_among met) met at, lowest_once (is_most_general_among met) met once, lowest_each)

  pub all_wide : All (λ (x : NodeCell). All (λ (y : NodeCell). length y.cell ≡ length x.cell) met) met
  all_wide = among_all _ met (λ x m. among_all _ met (λ y n. long y n ∙ sym (long x m)))
    where
      long : (x : NodeCell) → Among x met → length x.cell ≡ dims
      long x m = ap length (sym (own x m))
          ∙ wide dims tree source h (number_of x) (are.each (number_of x) (number_met x m)).0.there
