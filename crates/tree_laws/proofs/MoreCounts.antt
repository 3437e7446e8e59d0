-- A row more takes no class and no node away, so there are no fewer of them.
use Rattle.std.proofs.Common.{◌≡◌, ◌≤◌, Bool, true, List, ◌∷◌, ◌++◌, filter, length, subst, inr}
use Rattle.std.specs.declared.cmp.Ordering.{Ordering}
use Rattle.std.specs.Ordering.{eq_by_cmp}
use Rattle.std.specs.Cmp.{IsTotalOrder}
use Rattle.std.specs.FinMap.{IsAntisymmetric}
use Rattle.std.specs.List.{sum_by}
use Rattle.cube_defs.specs.Cell.{Cell}
use Rattle.cube_defs.specs.Rows.{Row, covers, is_class, is_node}
use Rattle.cube_defs.specs.Tree.{covered, classes, nodes}
use Rattle.cube_laws.specs.Lists.{Among}
use Rattle.cube_laws.proofs.CallerLemmas.{among_filter, filter_among, among_insert, covered-is, class-insert, node-insert, equality_by}
use Rattle.tree_laws.proofs.Sums.{once_filter, covered_once, sum_within, sum_ones}

module _ {A : Type 0} {cmp : A → A → Ordering} (total : IsTotalOrder cmp) (anti : IsAntisymmetric cmp)
    (xs : List (Row A)) (r : Row A) (ys : List (Row A)) where
  covered_kept : (c : Cell A) → Among c (covered cmp (xs ++ ys)) → Among c (covered cmp (xs ++ r ∷ ys))
  covered_kept c m =
      let q : (s : Row A) × Among s (xs ++ ys) × (length c ≡ length s.tuple) × (covers (eq_by_cmp cmp) c s ≡ true)
      = (covered-is total anti (xs ++ ys) c).0 m in
      (covered-is total anti (xs ++ r ∷ ys) c).1 (q.0, (among_insert q.0 xs r ys).1 (inr q.1), q.2, q.3)

  no_fewer : (p q : Cell A → Bool) → ((c : Cell A) → p c ≡ true → q c ≡ true)
      → length (filter p (covered cmp (xs ++ ys))) ≤ length (filter q (covered cmp (xs ++ r ∷ ys)))
  no_fewer p q h =
      subst (λ n. n ≤ length (filter q (covered cmp (xs ++ r ∷ ys)))) (sum_ones (filter p (covered cmp (xs ++ ys))))
      (subst (λ n. sum_by (λ c. 1) (filter p (covered cmp (xs ++ ys))) ≤ n)
      (sum_ones (filter q (covered cmp (xs ++ r ∷ ys))))
      (sum_within (λ c. 1) (filter p (covered cmp (xs ++ ys))) (filter q (covered cmp (xs ++ r ∷ ys)))
      (once_filter p (covered cmp (xs ++ ys)) (covered_once total anti (xs ++ ys)))
      (λ c m. let f = filter_among p c (covered cmp (xs ++ ys)) m in
      among_filter q c (covered cmp (xs ++ r ∷ ys)) (covered_kept c f.0) (h c f.1))))

  pub classes_no_fewer : length (classes cmp (xs ++ ys)) ≤ length (classes cmp (xs ++ r ∷ ys))
  classes_no_fewer = no_fewer (is_class (eq_by_cmp cmp) (xs ++ ys)) (is_class (eq_by_cmp cmp) (xs ++ r ∷ ys))
      (λ c h. class-insert (equality_by total anti) xs r ys c h)

  pub nodes_no_fewer : length (nodes cmp (xs ++ ys)) ≤ length (nodes cmp (xs ++ r ∷ ys))
  nodes_no_fewer = no_fewer (is_node (eq_by_cmp cmp) (xs ++ ys)) (is_node (eq_by_cmp cmp) (xs ++ r ∷ ys))
      (λ c h. node-insert (equality_by total anti) xs r ys c h)
