use Rattle.std.proofs.Common.{◌≡◌, ◌∙◌, Vec, Global, ap, ap₂, flat_map, subst, sym}
use Rattle.std.specs.Mem.{manually_drop_value}
use Rattle.base_table.specs.Places.{Places, named, rows_of}
use Rattle.base_table.specs.declared.table.RowNo.{RowNo}
use Rattle.cube_laws.specs.Lists.{Reordered}
use Rattle.cell_closure.proofs.Copies.{copied_are, rows-filled}
use Rattle.cell_closure.proofs.sorted_rows.SortedRows.of.Goals as goal

pub invariant_of-result : goal.invariant_of-result
invariant_of-result c =
    let t = c.args.table.now in
    let nos = c.in_ok-numbers.numbers in
    let table : (manually_drop_value c.new.result).value ≡ t = rw c.new.ensures c.of.ensures in
    let numbers : (manually_drop_value c.new-2.result).value ≡ nos = rw c.new-2.ensures c.of-2.ensures in
    copied_are t c.dims.ensures.valid nos.items c.dims.result c.measures.result c.count.result c.in_ok-codes.codes.items
    c.in_ok-amounts.amounts.items _ (ap₂ (λ (s : Places) (v : Vec RowNo Global). named s v.items) table numbers)
    c.dims.ensures.value c.measures.ensures.value c.count.ensures.value c.in_ok-numbers.ensures.rows
    (c.in_ok-codes.ensures ∙ ap (λ is. flat_map (λ row. row.tuple) (named t is)) c.deref.ensures.value)
    (c.in_ok-amounts.ensures ∙ ap (λ is. flat_map (λ row. row.amounts) (named t is)) c.deref.ensures.value)

pub returns-clause-rows : goal.returns-clause-rows
returns-clause-rows c =
    let t = c.args.table.now in
    let nos = c.in_ok-numbers.numbers in
    let table : (manually_drop_value c.new.result).value ≡ t = rw c.new.ensures c.of.ensures in
    let numbers : (manually_drop_value c.new-2.result).value ≡ nos = rw c.new-2.ensures c.of-2.ensures in
    subst (Reordered (rows_of t)) (sym (rows-filled _
    ∙ ap₂ (λ (s : Places) (v : Vec RowNo Global). named s v.items) table numbers)) c.in_ok-numbers.ensures.rows
