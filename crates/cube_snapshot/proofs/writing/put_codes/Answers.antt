use Rattle.std.proofs.Common.{◌≡◌, ◌∙◌, ◌<◌, ◌++◌, arith, ap, get_or, length}
use Rattle.std.specs.Int.{w32}
use Rattle.base_table.specs.Places.{row_at}
use Rattle.cell_closure.proofs.CallerLemmas.{is_row}
use Rattle.cube_snapshot.specs.Format.{number}
use Rattle.cube_snapshot.proofs.Putting.{of_there, put_all, put_next}
use Rattle.cube_snapshot.proofs.writing.put_codes.Goals as goal

pub dims-preserved : goal.dims-preserved
dims-preserved c = λ r e.
    let t = c.args.table.now in
    let k = c.dims.dim in
    let wide : length r.tuple ≡ t.dims = (is_row t c.dims-dim-end.ensures.valid c.args.no.0 r e).tuple in
    let lt : k < length r.tuple = omega (arith, wide, c.dims-test.true, c.dims-dim-end.ensures.value) in
    let code : c.code.result ≡ get_or r.tuple k 0
    = of_there (λ r. c.code.result ≡ get_or r.tuple k 0) (row_at t c.args.no.0) r e c.code.ensures.value in
    put_next (number w32).put c.dims.out.items c.put_u32.new.out.items c.args.out.now.items r.tuple k 0 lt
    (c.dims.invariant r e)
    (c.in_ok-put_u32.ensures ∙ ap (λ n. c.dims.out.items ++ (number w32).put n) code)

pub returns : goal.returns
returns c = λ r e.
    let t = c.args.table.now in
    let wide : length r.tuple ≡ t.dims = (is_row t c.dims-dim-end.ensures.valid c.args.no.0 r e).tuple in
    put_all (number w32).put c.dims.out.items c.args.out.now.items r.tuple c.dims.dim
    (omega (arith, wide, c.dims-test.false, c.dims-dim-end.ensures.value)) (c.dims.invariant r e)
