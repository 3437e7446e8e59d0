use Rattle.std.proofs.Common.{◌≡◌, ◌≤◌, ◌∙◌, sym, ap, get_or, is_some, length, true, Some, arith}
use Rattle.base_table.specs.Places.{row_at}
use Rattle.cell_closure.specs.Parts.{code_at}
use Rattle.cube_laws.proofs.CallerLemmas.{entry}
use Rattle.cell_closure.proofs.CallerLemmas.{there, code_is, zeroth, first_share, closing_step, closing_end}
use Rattle.class_builder.proofs.Uppers.{prefix_at}
use Rattle.class_builder.proofs.upper.close.Goals as goal

pub dims-init : goal.dims-init
dims-init c =
    let group = c.args.group.now.is in
    let table = c.args.group.now.table.now in
    let nos = c.args.group.now.rows.now in
    let dim = c.args.group.now.dim in
    let here : is_some (row_at table (get_or nos 0 zeroth).0) ≡ true = group.under.there 0 zeroth group.under.some in
    let code : c.code.result ≡ code_at table dim (get_or nos 0 zeroth)
    = code_is (row_at table (get_or nos 0 zeroth).0) dim c.code.result here
    c.code.ensures.value in
    let s = closing_step table group.under.table nos
    (there table nos group.under.there) group.under.some dim
    (Some c.code.result) c.args.shared.now c.set.new.self group.dim
    (sym (first_share table group.under.table nos
    (there table nos group.under.there) group.under.some dim c.code.result code (ap is_some group.value)))
    (record {
      long = ap length c.requires.upper ∙ group.under.long;
      done = λ j l. ap (λ d. entry d j) c.requires.upper
          ∙ sym (prefix_at dim j _ c.args.group.now.upper.now c.requires.front l);
    })
    c.set.ensures.value in
    record { long = s.long; done = s.done }

pub returns : goal.returns
returns c =
    let group = c.args.group.now.is in
    let table = c.args.group.now.table.now in
    let nos = c.args.group.now.rows.now in
    let le : table.dims ≤ c.dims.i = omega arith in
    closing_end table group.under.table nos
    (there table nos group.under.there) group.under.some c.dims.i c.dims.shared le
    (record { long = c.dims.invariant.long; done = c.dims.invariant.done })
