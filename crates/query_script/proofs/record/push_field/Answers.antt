use Rattle.std.proofs.Common.{◌≡◌, ◌<◌, sym, arith, length, Some}
use Rattle.query_script.specs.Fields.{field_of}
use Rattle.query_script.proofs.Asking.{asks-more}
use Rattle.query_script.proofs.record.push_field.Goals as goal

pub returns-clause-ok : goal.returns-clause-ok
returns-clause-ok c = λ more.
    let read : field_of c.args.so_far.now.shape c.args.field.now.text.now ≡ Some c.in-Some.asked
    = sym (rw c.in-Some.is at c.in_ok-asked.ensures) in
    let low : length c.args.so_far.now.fields < c.args.so_far.now.dims
    = omega (arith, c.len-place.ensures, c.from-dims.ensures, c.if-place-dims.false) in
    rw c.in_ok-push.ensures.ok
    (asks-more (field_of c.args.so_far.now.shape) c.args.so_far.now.dims c.args.so_far.now.fields c.in-Some.asked
    c.args.field.now.text.now more low read)
