use Rattle.std.proofs.Common.{◌≡◌, ◌≤◌, ◌<◌, ◌∙◌, sym, ap, length, map, arith, subst, ℕ, get_or}
use Rattle.std.proofs.lemmas.List.{length-map}
use Rattle.cell_closure.specs.declared.parts.Cut.{Cut}
use Rattle.cell_closure.specs.Parts.{parted}
use Rattle.cell_closure.specs.Runs.{pieces, runs}
use Rattle.cell_closure.proofs.Rows.{all_recursion}
use Rattle.cell_closure.proofs.Stable.{parts_are, few_parts}
use Rattle.cell_closure.proofs.parts.Parts.regroup.Given as given
use Rattle.cell_closure.proofs.parts.Parts.regroup.Goals as goal

is_parted : (g : given.Over) (c : goal.In_ok-list_cuts g) → pieces c.list_cuts.new.cuts.items c.list_rows.new.rows.items
    ≡ parted (g.R.CodedRows.rows c.args.rows.now.table.now) c.args.rows.now.numbers.now c.args.dim
is_parted g c =
    ap (pieces c.list_cuts.new.cuts.items) (c.in_ok-list_rows.ensures
    ∙ ap (map (λ k. k.row)) (c.deref.ensures.value ∙ sym c.deref-2.ensures.value))
    ∙ c.in_ok-list_cuts.ensures.runs
    ∙ ap runs c.deref-2.ensures.value
    ∙ parts_are (g.R.CodedRows.rows c.args.rows.now.table.now) c.args.rows.now.numbers.now c.args.dim c.read_codes.new.keyed.items
    c.sort_by_code.new.sorter.keyed.items c.in_ok-most.ensures.keyed c.in_ok-sort_by_code.ensures

pub invariant_of-self-2 : goal.invariant_of-self-2
invariant_of-self-2 g c =
    let table = g.R.CodedRows.rows c.args.rows.now.table.now in
    let nos = c.args.rows.now.numbers.now in
    let few : length (parted table nos c.args.dim) ≤ c.in_ok-most.most
    = few_parts table nos c.args.dim c.in_ok-most.most c.read_codes.new.keyed.items
    c.in_ok-most.ensures.keyed
    (all_recursion (λ k. k.code < c.in_ok-most.most) c.read_codes.new.keyed.items c.in_ok-most.ensures.below) in
    let small : c.in_ok-most.most ≤ 4000000 = c.in_ok-most.ensures.small in
    let l : length (pieces c.list_cuts.new.cuts.items c.list_rows.new.rows.items) ≡ length c.list_cuts.new.cuts.items
    = length-map c.list_cuts.new.cuts.items _ in
    let m : length (pieces c.list_cuts.new.cuts.items c.list_rows.new.rows.items)
    ≡ length (parted table nos c.args.dim) = ap length (is_parted g c) in
    let rows : length c.list_rows.new.rows.items ≡ length c.sort_by_code.new.sorter.keyed.items
    = ap length c.in_ok-list_rows.ensures ∙ length-map c.deref.result.now (λ k. k.row)
    ∙ ap length c.deref.ensures.value in
    let keyed : length c.deref-2.result.now ≡ length c.sort_by_code.new.sorter.keyed.items
    = ap length c.deref-2.ensures.value in
    let same : length c.deref-2.result.now ≡ length c.list_rows.new.rows.items = omega arith in
    record {
      within = subst (λ n. (k : ℕ) (d : Cut) → k < length c.list_cuts.new.cuts.items
          → ((get_or c.list_cuts.new.cuts.items k d).start ≤ (get_or c.list_cuts.new.cuts.items k d).end)
          × ((get_or c.list_cuts.new.cuts.items k d).end ≤ n)) same c.in_ok-list_cuts.ensures.within;
      few = omega arith;
    }

pub returns-clause-ok : goal.returns-clause-ok
returns-clause-ok g c = is_parted g c
