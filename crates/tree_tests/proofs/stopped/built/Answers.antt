use Rattle.std.proofs.Common.{◌≡◌, ◌∙◌, ℕ, ap, length, subst, sym}
use Rattle.std.specs.List.{AllByRecursion}
use Rattle.std.specs.Ordering.{nat_cmp}
use Rattle.base_table.specs.Places.{IsRow, rows_of}
use Rattle.cell_closure.proofs.CallerLemmas.{all_recursion}
use Rattle.cube_defs.specs.Rows.{Row}
use Rattle.cube_defs.specs.Tree.{IsCanonical, Tree}
use Rattle.cube_laws.proofs.CallerLemmas.{all_map}
use Rattle.qc_arena.specs.Map.{Arena}
use Rattle.tree_tests.proofs.stopped.built.Goals as goal

pub returns-clause-tree : goal.returns-clause-tree
returns-clause-tree g c =
    let table = c.args.table.now in
    let wide = all_map (IsRow table.dims table.measures) (λ (row : Row ℕ). length row.tuple ≡ table.dims)
    (rows_of table) (λ row is. is.tuple)
    (all_recursion (IsRow table.dims table.measures) (rows_of table) c.recall_invariant.ensures.rows.each) in
    let width : c.commit.new.self.width ≡ table.dims =
    ap (λ (a : Arena). a.width) c.commit.ensures.value ∙ ap (λ (a : Arena). a.width) c.in-Ok-build_classes.ensures.frame
    ∙ ap (λ (a : Arena). a.width) c.begin.ensures ∙ ap (λ (a : Arena). a.width) c.in-Ok.ensures
    ∙ sym c.requires in (
      record { measures = table.measures; rows = rows_of table },
      record {
        wide = subst (λ (n : ℕ). AllByRecursion (λ (row : Row ℕ). length row.tuple ≡ n) (rows_of table))
            (sym width) wide;
        canonical = subst (λ (t : Tree ℕ). IsCanonical nat_cmp table.measures (rows_of table) t)
            (sym (ap (λ (a : Arena). a.now) c.commit.ensures.value)) c.in-Ok-build_classes.ensures.tree;
      },
    )
