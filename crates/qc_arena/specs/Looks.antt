-- What a look at images answers.
use Rattle.std.specs.Prelude.{Option, Some, None}
use Rattle.qc_arena.specs.Map.{Known}
use Rattle.qc_arena.specs.declared.images.Look.{Look}
use Rattle.qc_arena.specs.declared.images.Look.TheVariants.{Same, Gone, Was}

-- nothing, an image without a node, or a record
abbrev pub look_of_image : Look → Option (Option Known)
look_of_image Same = None
look_of_image Gone = Some None
look_of_image (Was r) = Some (Some r.now)
