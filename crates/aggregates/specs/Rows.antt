-- What one row comes to, and how parts are joined.
use Rattle.std.specs.Prelude.{List, map, ℤ, ◌+ℤ◌}
use Rattle.std.specs.Int.{int_max, int_min}
use Rattle.cube_defs.specs.Rows as defs
use Rattle.aggregates.specs.declared.agg.Part.{Part}

-- what one amount comes to
abbrev pub single : ℤ → Part
single a = record { sum = a; least = a; greatest = a }

abbrev pub joined : Part → Part → Part
joined p q = record { sum = p.sum +ℤ q.sum; least = int_min p.least q.least; greatest = int_max p.greatest q.greatest }

-- the aggregate of one row with these amounts
abbrev pub agg_of_row : List ℤ → defs.Agg
agg_of_row amounts = record { count = 1; parts = map (λ a. record { sum = a; least = a; greatest = a }) amounts }
