use Rattle.std.proofs.Common.{◌∙◌, Option, ap}
use Rattle.slab.specs.Slab as slots
use Rattle.qc_arena.specs.Map.{Known}
use Rattle.qc_arena.proofs.record_store.RecordStore.reserve_edges.Goals as goal

pub returns : goal.returns
returns c q = c.reserve_at.ensures q ∙ ap (λ (s : slots.Slab (Option Known)). slots.get s q) c.self.view_is
