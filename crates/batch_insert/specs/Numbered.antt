-- The number that is noted for a mask.
use Rattle.std.specs.Prelude.{ℕ, ◌/◌, ◌%◌, Option, slice_get}
use Rattle.std.specs.Option.{option_and_then, option_map}
use Rattle.qc_arena.specs.RecordReaders.{number}
use Rattle.batch_insert.specs.declared.numbers.Numbers.{Numbers}
use Rattle.batch_insert.specs.declared.numbers.TheConstants.{PAGE}

abbrev pub numbered : Numbers → ℕ → Option ℕ
numbered n m = option_and_then (λ page. option_and_then (option_map number) (slice_get page.items (m % PAGE)))
    (slice_get n.pages.items (m / PAGE))
