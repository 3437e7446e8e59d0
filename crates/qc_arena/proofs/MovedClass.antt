-- The parts of classes, as a class moves to another node.
use Rattle.std.proofs.Common.{◌≡◌, ◌≢◌, ◌∙◌, ℕ, Option, IsSome, length, sym}
use Rattle.std.specs.Prelude.{IfSome}
use Rattle.std.specs.Option.{option_map}
use Rattle.slab.specs.Slab as slots
use Rattle.aggregates.specs.declared.agg.Agg.{Agg}
use Rattle.aggregates.specs.Views.{agg_in}
use Rattle.qc_arena.specs.declared.measure_columns.MeasureColumns.{MeasureColumns}
use Rattle.qc_arena.specs.Inside.{join}
use Rattle.qc_arena.specs.Map.{Known, with_class}
use Rattle.qc_arena.specs.Parts.{HasRoom, IsStored, shown}
use Rattle.qc_arena.proofs.SlotMaps.{some_slot}
use Rattle.qc_arena.proofs.Stored.{class_of, put_stored}

-- a node gets another class, whose parts are written
pub class_stored : (s t : slots.Slab (Option Known)) (p r : MeasureColumns) (k : ℕ) (class : Option Agg) → IsStored s p
    → IsSome (join (slots.get s k))
    → join (slots.get t k) ≡ option_map (with_class (option_map agg_in class)) (join (slots.get s k))
    → ((q : ℕ) → q ≢ k → slots.get t q ≡ slots.get s q)
    → IfSome class (λ a. (shown r k ≡ a.parts) × (length a.parts ≡ 4))
    → ((q : ℕ) → q ≢ k → shown r q ≡ shown p q) → ((q : ℕ) → HasRoom p q → HasRoom r q) → IsStored t r
class_stored s t p r k class is there here others parts same room =
    put_stored s t p r k is others same room (λ h. room k (is.room k (some_slot (slots.get s k) there)))
    (λ n e. class_of class (shown r k) n (join (slots.get s k)) parts (sym here ∙ e))
