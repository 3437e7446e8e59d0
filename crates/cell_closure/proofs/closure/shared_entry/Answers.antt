use Rattle.std.proofs.Common.{◌≡◌, ◌==◌, ◌∙◌, sym, get_or, is_some, true, false}
use Rattle.std.specs.List.{list_all}
use Rattle.base_table.specs.Places.{row_at}
use Rattle.cell_closure.specs.Parts.{code_at}
use Rattle.cell_closure.proofs.Rows.{there, code_is, rest_there}
use Rattle.cell_closure.proofs.Closing.{zeroth, all_share, none_share, rest_decides}
use Rattle.cell_closure.proofs.closure.shared_entry.Goals as goal

pub invariant_of-rest : goal.invariant_of-rest
invariant_of-rest c = record {
  there = rest_there c.args.rows.now.table.now c.args.rows.now.numbers.now c.args.rows.now.are.there;
}

pub returns-then-all_have-clause-value : goal.returns-then-all_have-clause-value
returns-then-all_have-clause-value c =
    let are = c.args.rows.now.are in
    let table = c.args.rows.now.table.now in
    let nos = c.args.rows.now.numbers.now in
    let here : is_some (row_at table (get_or nos 0 zeroth).0) ≡ true
    = are.there 0 zeroth are.some in
    let code : c.code-code.result ≡ code_at table c.args.dim (get_or nos 0 zeroth)
    = code_is (row_at table (get_or nos 0 zeroth).0) c.args.dim c.code-code.result here
    c.code-code.ensures.value in
    let all : list_all (λ n. code_at table c.args.dim n == c.code-code.result) nos ≡ true
    = sym (rest_decides table c.args.dim c.code-code.result nos are.some code)
    ∙ sym c.all_have.ensures ∙ c.if-all_have.true in
    sym (all_share table are.table nos
    (there table nos are.there) are.some c.args.dim c.code-code.result
    c.requires all)

pub returns-else-all_have-clause-value : goal.returns-else-all_have-clause-value
returns-else-all_have-clause-value c =
    let are = c.args.rows.now.are in
    let table = c.args.rows.now.table.now in
    let nos = c.args.rows.now.numbers.now in
    let here : is_some (row_at table (get_or nos 0 zeroth).0) ≡ true
    = are.there 0 zeroth are.some in
    let code : c.code-code.result ≡ code_at table c.args.dim (get_or nos 0 zeroth)
    = code_is (row_at table (get_or nos 0 zeroth).0) c.args.dim c.code-code.result here
    c.code-code.ensures.value in
    let other : list_all (λ n. code_at table c.args.dim n == c.code-code.result) nos ≡ false
    = sym (rest_decides table c.args.dim c.code-code.result nos are.some code)
    ∙ sym c.all_have.ensures ∙ c.if-all_have.false in
    sym (none_share table are.table nos
    (there table nos are.there) are.some c.args.dim
    c.code-code.result code other)
