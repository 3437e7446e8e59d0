-- Classes in the code: cells of codes.
use Rattle.std.specs.Prelude.{ℕ}
use Rattle.cube_defs.specs.Answers as answers
use Rattle.aggregates.specs.Views.{agg_in}
use Rattle.lower_bounds.specs.declared.class.ClassHit.{ClassHit}

-- a class of codes
abbrev pub hit_in : ClassHit → answers.ClassHit ℕ
hit_in class = record { upper = class.upper; agg = agg_in class.agg; lowers = class.lowers }
