use Rattle.std.proofs.Common.{◌≡◌, ◌<◌, ◌∙◌, arith, ap, length, subst, sym}
use Rattle.base_table.specs.Places.{AreThere, named, rows_of}
use Rattle.cell_closure.proofs.CallerLemmas.{length-named, there}
use Rattle.class_builder.proofs.Whole.{rows_few}
use Rattle.class_builder.proofs.tree.build_sorted.Goals as goal

pub invariant_of-part : goal.invariant_of-part
invariant_of-part g c =
    let table = c.args.table.now in
    let rows = c.deref.result.now in
    let are : AreThere table rows = subst (AreThere table) (sym c.deref.ensures.value) c.in-Ok.ensures.there in
    let all : named table rows ≡ rows_of table = ap (named table) c.deref.ensures.value ∙ c.in-Ok.ensures.rows in
    let count : length (rows_of table) ≡ length rows = ap length (sym all)
    ∙ length-named table rows (there table rows are) in
    let some : 0 < length rows = omega (arith, c.requires.some) in
    record {
      is = record {
        table = c.recall_invariant.ensures;
        some = some;
        few = rows_few table c.recall_invariant.ensures rows (there table rows are) all;
        there = are;
        shared = c.closure_of_all-shared.ensures;
      };
    }
