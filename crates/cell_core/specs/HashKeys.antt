-- What the maps hash under.
use Rattle.std.specs.Prelude.{Bool, Option, Some, None, is_some}
use Rattle.std.specs.declared.hash.DefaultHasher.{DefaultHasher}
use Rattle.std.specs.declared.hash.RandomState.{RandomState}
use Rattle.std.specs.Hash.DefaultHasher.{initial}
use Rattle.std.specs.RandomState as random
use Rattle.cell_core.specs.declared.hash_keys.HashKeys.{HashKeys}

-- the first state of a hasher under these keys, or else under the keys 0 and 0
abbrev pub first_state : Option RandomState → DefaultHasher
first_state None = initial
first_state (Some drawn) = random.initial_hasher drawn

abbrev pub initial_hasher : HashKeys → DefaultHasher
initial_hasher keys = first_state keys.drawn

-- whether the keys come from a source of random bytes
abbrev pub is_drawn : HashKeys → Bool
is_drawn keys = is_some keys.drawn
