use Rattle.std.proofs.Common.{ℕ, None, Some, arith, get_or, ◌≡◌}
use Rattle.std.specs.List.{slice_get}
use Rattle.std.proofs.lemmas.Option.{get_or_from_slice_get}
use Rattle.cube_defs.specs.Cell.{Cell}
use Rattle.batch_delete.proofs.stays.is_new.Goals as goal

-- a value is not Any
no-any : {P : Type 0} (cell : Cell ℕ) (dim code : ℕ) → Some code ≡ get_or cell dim None
    → slice_get cell dim ≡ Some None → P
no-any cell dim code is any = let here : get_or cell dim None ≡ None = get_or_from_slice_get cell dim None None any in
    absurd (cc)

-- Any is not a value
no-value : {P : Type 0} (cell : Cell ℕ) (dim code : ℕ) → None ≡ get_or cell dim None
    → slice_get cell dim ≡ Some (Some code) → P
no-value cell dim code is told
    = let here : get_or cell dim None ≡ Some code = get_or_from_slice_get cell dim (Some code) None told in
    absurd (cc)

pub has-requires : goal.has-requires
has-requires c = omega (arith, c.args.shared.now.tuple_wide)

pub returns-in-Is : goal.returns-in-Is
returns-in-Is c = λ same v any told.
    no-any c.args.shared.now.cell.now c.args.dim c.in-Is.field-0 c.in-Is.ensures.value any

pub returns-in-Any-get : goal.returns-in-Any-get
returns-in-Any-get c = λ same v any told.
    no-value c.args.shared.now.values.now c.args.dim v c.in-Any-get.ensures.value told
