use Rattle.std.proofs.Common.{◌≡◌, ◌∙◌, ◌+◌, ◌*◌, arith, ap₂, sym}
use Rattle.cube_snapshot.proofs.Putting.{rows-len}
use Rattle.cube_snapshot.proofs.sizes.rows_len.Goals as goal

pub returns-clause-value : goal.returns-clause-value
returns-clause-value c =
    let t = c.args.table.now in
    let row : 8 + 4 * c.from.result + 8 * c.from-2.result ≡ 8 + 4 * t.dims + 8 * t.measures
    = omega (arith, c.from.ensures, c.dims.ensures.value, c.from-2.ensures, c.measures.ensures.value) in
    ap₂ (λ n k. 4 + n * k) c.count.ensures.value row ∙ sym (rows-len t c.count.ensures.valid)
