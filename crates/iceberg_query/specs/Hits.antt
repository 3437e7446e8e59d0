-- Classes in the code, by codes and with the texts of their codes.
use Rattle.std.specs.Prelude.{◌≡◌, ℕ, List, map, IsSome}
use Rattle.std.specs.List.{All}
use Rattle.std.specs.Ordering.{nat_cmp}
use Rattle.cube_defs.specs.Text.{Text}
use Rattle.cube_defs.specs.Tree.{Tree}
use Rattle.cube_defs.specs.Answers as answers
use Rattle.aggregates.specs.Views.{agg_in, kind_in, ratio_in}
use Rattle.lower_bounds.specs.Classes.{hit_in}
use Rattle.lower_bounds.specs.declared.class.ClassHit.{ClassHit}
use Rattle.qc_arena.specs.RecordReaders.{record_at}
use Rattle.tree_search.specs.Found.{TreeRows}
use Rattle.value_dict.specs.Decoded.{decoded_class}
use Rattle.iceberg_query.specs.declared.ask.Ask.{Ask}
use Rattle.iceberg_query.specs.declared.hits.ValuedClass.{ValuedClass}

abbrev pub valued_class : ValuedClass → ClassHit
valued_class v = v.class

abbrev pub valued_of : ValuedClass → answers.ClassHit ℕ
valued_of v = hit_in v.class

-- the class of a node
abbrev pub class_at : TreeRows → Tree ℕ → ℕ → answers.ClassHit ℕ
class_at source tree k = answers.class_at nat_cmp source.measures source.rows (record_at tree k).cell

-- each node is a class
abbrev pub AreClasses : Tree ℕ → List ℕ → Type 0
AreClasses tree ks = All (λ k. IsSome (record_at tree k).class) ks

-- the value is that of the class
abbrev pub IsValued : Ask → ValuedClass → Type 0
IsValued ask v = ratio_in v.value ≡ answers.value_of (kind_in ask.kind) ask.scale (agg_in v.class.agg)

-- classes with the texts of their codes
abbrev pub decoded_classes : List (List Text) → List ClassHit → List (answers.ClassHit Text)
decoded_classes lists classes = map (λ class. decoded_class lists (hit_in class)) classes
