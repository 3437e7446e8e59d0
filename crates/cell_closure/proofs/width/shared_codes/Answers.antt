use Rattle.std.proofs.Common.{◌≡◌, ◌∙◌, ◌<◌, ◌-◌, ℕ, List, ◌==◌, length, get_or, take, drop, ap, ap₂, sym, subst, arith}
use Rattle.std.proofs.lemmas.List.{take_more}
use Rattle.std.proofs.Math.Seq.{take-length}
use Rattle.std.specs.List.{list_all}
use Rattle.base_table.specs.declared.table.RowNo.{RowNo}
use Rattle.cell_core.specs.Codes.{entry_of, is_kept}
use Rattle.cell_core.specs.Entry.{IsCode}
use Rattle.cell_closure.specs.Parts.{code_at}
use Rattle.cell_closure.specs.Widths.{met}
use Rattle.cell_closure.proofs.Closing.{zeroth}
use Rattle.cell_closure.proofs.Rows.{there}
use Rattle.cell_closure.proofs.Widths.{code-kept, shared-prefix, shared-more, shared-whole, shared_code}
use Rattle.cell_closure.proofs.width.shared_codes.Goals as goal

pub rows-preserved : goal.rows-preserved
rows-preserved g c =
    let first : RowNo = get_or c.args.rows.now.numbers.now 0 zeroth in
    let rest : List RowNo = take (length c.args.rows.now.numbers.now - 1) (drop 1 c.args.rows.now.numbers.now) in
    record {
      long = c.meet_fixed.ensures.width;
      done = λ j lt. c.meet_fixed.ensures.codes j (omega (arith, lt, c.requires))
          ∙ ap₂ met (c.rows.invariant.done j lt) (c.codes_of.ensures.value j lt)
          ∙ shared-more c.args.rows.now.table.now j first (take c.rows.row-index rest) _
          ∙ ap (shared_code c.args.rows.now.table.now j first) (sym (take_more rest c.rows.row-index _ c.rows-test.true));
    }

pub returns : goal.returns
returns g c =
    let are = c.args.rows.now.are in
    let t = c.args.rows.now.table.now in
    let nos = c.args.rows.now.numbers.now in
    let first : RowNo = get_or nos 0 zeroth in
    let rest : List RowNo = take (length nos - 1) (drop 1 nos) in
    let small : (j : ℕ) → j < t.dims → IsCode (code_at t j first)
    = λ j lt. subst IsCode (c.codes_of-shared.ensures.value j lt) (c.codes_of-shared.ensures.small j lt) in
    let whole : take c.rows.row-index rest ≡ rest
    = ap (λ (n : ℕ). take n rest) (omega (arith, c.rows-test.false, c.rows.auto.row-index-end))
    ∙ take-length rest in
    let all : (j : ℕ) → j < t.dims → get_or c.rows.shared j 0 ≡ shared_code t j first rest
    = λ j lt. c.rows.invariant.done j lt ∙ ap (shared_code t j first) whole in
    record {
      value = λ j lt. ap entry_of (all j lt)
          ∙ shared-whole t are.table nos (there t nos are.there) are.some j lt (small j lt);
      kept = λ j lt. ap is_kept (all j lt)
          ∙ code-kept (list_all (λ n. code_at t j n == code_at t j first) rest) (code_at t j first) (small j lt);
    }

pub returns-then-not-has_value : goal.returns-then-not-has_value
returns-then-not-has_value g c =
    let are = c.args.rows.now.are in
    let t = c.args.rows.now.table.now in
    let nos = c.args.rows.now.numbers.now in
    let first : RowNo = get_or nos 0 zeroth in
    let small : (j : ℕ) → j < t.dims → IsCode (code_at t j first)
    = λ j lt. subst IsCode (c.codes_of-shared.ensures.value j lt) (c.codes_of-shared.ensures.small j lt) in
    let any : (j : ℕ) → j < t.dims → get_or c.rows.shared j 0 ≡ 4294967295
    = λ j lt. c.has_value.ensures c.if-not-has_value.true j (omega (arith, lt, c.dims.ensures.value)) in
    record {
      value = λ j lt. ap entry_of (c.rows.invariant.done j lt)
          ∙ shared-prefix t are.table nos (there t nos are.there) are.some j c.rows.row-index lt
          (small j lt) (sym (c.rows.invariant.done j lt) ∙ any j lt);
      kept = λ j lt. ap is_kept (c.rows.invariant.done j lt)
          ∙ code-kept (list_all (λ n. code_at t j n == code_at t j first)
          (take c.rows.row-index (take (length nos - 1) (drop 1 nos)))) (code_at t j first) (small j lt);
    }
