-- The nodes of the children of a class: those to which as many values lead as they have more.
use Rattle.std.proofs.Common.{◌≡◌, ◌↔◌, ℕ, cond, nat_eq, Some, List, [], ◌∷◌, length, map, sym, ap, ◌∙◌, arith}
use Rattle.std.specs.Prelude.{IsSome}
use Rattle.std.specs.FinMap as numbers
use Rattle.std.specs.List.{IsDistinct, sum_by}
use Rattle.std.specs.List.Sorted.{IsPermutation}
use Rattle.std.specs.Ordering.{nat_cmp, eq_by_cmp}
use Rattle.std.proofs.lemmas.List.Sorted.{sum_by-IsPermutation}
use Rattle.std.proofs.lemmas.List.Sums.{length-filter}
use Rattle.cube_defs.specs.Cell.{Cell}
use Rattle.cube_defs.specs.Rows.{closure}
use Rattle.cube_defs.specs.Tree.{Tree}
use Rattle.cube_laws.specs.Lists.{Among}
use Rattle.cube_laws.specs.Parts.{value_count}
use Rattle.cube_laws.proofs.CallerLemmas.{is_class-is, all_among, take_all, code_equality}
use Rattle.qc_arena.specs.RecordReaders.{record_at}
use Rattle.tree_search.specs.Found.{IsTreeOf, TreeRows}
use Rattle.tree_search.proofs.CallerLemmas.{wide}
use Rattle.quotient_lattice.specs.declared.node_cells.NodeCell.{NodeCell}
use Rattle.quotient_lattice.specs.Candidates.{AreFound, AreThere, lead_count, times}
use Rattle.quotient_lattice.specs.Neighbours.{is_parent}
use Rattle.quotient_lattice.specs.NodeCells.{IsPassing, IsPicked, number_of}
use Rattle.quotient_lattice.proofs.ChildLaws.{child-is}
use Rattle.quotient_lattice.proofs.InOrder.{parent_above}
use Rattle.quotient_lattice.proofs.Listing.{times_among}
use Rattle.quotient_lattice.proofs.NewValues.{Leads, count_home, home_count, led_above, led_other, led_own, one_leads, some_new}

-- before the first place nothing is picked
pub none_picked : (tree : Tree ℕ) (values : ℕ) (xs : List ℕ) (found : List NodeCell) → found ≡ [] → (k : ℕ)
    → Among k (map number_of found) ↔ IsPicked tree values xs 0 k
none_picked tree values xs [] e k = (λ m. absurd m, λ p. absurd (let s = p.some in let d = p.done in omega arith))
none_picked tree values xs (x ∷ found) e k = cc

pub once_none : (found : List NodeCell) → found ≡ [] → IsDistinct nat_eq (map number_of found)
unfolding IsDistinct
once_none [] e = tt
once_none (x ∷ found) e = cc

times_sum : (k : ℕ) (xs : List ℕ) → times k xs ≡ sum_by (λ x. cond (nat_eq k x) 1 0) xs
times_sum k xs = length-filter (nat_eq k) xs

pub times_permutation : (k : ℕ) (xs ys : List ℕ) → IsPermutation xs ys → times k ys ≡ times k xs
times_permutation k xs ys p = times_sum k ys ∙ sum_by-IsPermutation (λ x. cond (nat_eq k x) 1 0) xs ys p
    ∙ sym (times_sum k xs)

module _ (dims : ℕ) (tree : Tree ℕ) (source : TreeRows) (h : IsTreeOf dims tree source) (u : Cell ℕ)
    (own : closure (eq_by_cmp nat_cmp) source.rows u ≡ Some u) (long : length u ≡ dims) (led sorted : List ℕ)
    (same : IsPermutation led sorted) (found : AreFound source tree u 0 dims led) (there : AreThere tree sorted)
    (values : ℕ) (count : values ≡ value_count u) where
  abbrev cell : ℕ → Cell ℕ
  cell k = (record_at tree k).cell

  as_often : (k : ℕ) → IsSome (numbers.get tree k) → times k sorted ≡ lead_count source u (cell k) 0 dims
  as_often k t = times_permutation k led sorted same ∙ found k t

  pub picked_child : (k : ℕ) → IsPicked tree values sorted (length sorted) k
      ↔ IsPassing tree source (λ d. is_parent nat_cmp source.rows u d) k
  picked_child k = (to, from)
    where
      to : IsPicked tree values sorted (length sorted) k
          → IsPassing tree source (λ d. is_parent nat_cmp source.rows u d) k
      to p =
          let t : IsSome (numbers.get tree k)
          = all_among (λ k. IsSome (numbers.get tree k)) sorted there k (times_among k sorted p.some) in
          let often = as_often k t in
          let l : (i : ℕ) × Leads source u (cell k) i
          = one_leads source u (cell k) dims long (omega (arith, often, p.some)) in
          let low = led_above source u (cell k) l.0 l.1 in
          let self = led_own source u (cell k) l.0 l.1 in
          let home = count_home source u (cell k) dims long low (wide dims tree source h k t)
          (omega (arith, often, count, p.enough)) in
          record {
            there = t;
            class = (is_class-is code_equality source.rows (cell k)).1 self;
            passes = (child-is dims source.rows u (cell k) h.wide own self low (led_other source u (cell k) l.0 l.1)).1
                home;
          }

      from : IsPassing tree source (λ d. is_parent nat_cmp source.rows u d) k
          → IsPicked tree values sorted (length sorted) k
      from p =
          let often = as_often k p.there in
          let a = parent_above dims source.rows h.wide u (cell k) p.passes in
          let self = (is_class-is code_equality source.rows (cell k)).0 p.class in
          let home = (child-is dims source.rows u (cell k) h.wide own self a.0 a.1).0 p.passes in
          let w = wide dims tree source h k p.there in
          record {
            some = omega (arith, often, some_new source u (cell k) dims long a.0 w home a.1);
            done = ap (times k) (take_all sorted (length sorted) (omega arith));
            enough = omega (arith, often, count, home_count source u (cell k) dims long a.0 w home);
          }

-- one equivalence after another
pub goes : {P Q R : Type 0} → P ↔ Q → Q ↔ R → P ↔ R
goes f g = (λ p. g.0 (f.0 p), λ r. f.1 (g.1 r))
