use Rattle.std.proofs.Common.{◌≡◌, ◌∙◌, ap₂, sym, arith, min}
use Rattle.value_dict.proofs.Compared.{ends, least, reaches}
use Rattle.value_dict.proofs.Dict.cell_cmp.Goals as goal

pub returns : goal.returns
returns c =
    let l = least c.dims-4.result c.dims-5.result in
    let end : c.min-dim-end.result ≡ min c.dims-4.result c.dims-5.result = c.min-dim-end.ensures
    ∙ ap₂ min (c.dims-2.ensures.value ∙ sym c.dims-4.ensures.value) (c.dims-3.ensures.value
    ∙ sym c.dims-5.ensures.value) in
    c.cmp.ensures
    ∙ ends c.args.self.now.lists c.args.a.now c.args.b.now c.dims.dim c.dims-4.result c.dims-5.result
    c.dims-4.ensures.value c.dims-5.ensures.value
    (omega (arith, l.0, end)) (omega (arith, l.1, end))
    (reaches c.dims.dim c.min-dim-end.result c.dims-4.result c.dims-5.result end (omega (arith, c.dims-test.false)))
    c.dims.invariant
