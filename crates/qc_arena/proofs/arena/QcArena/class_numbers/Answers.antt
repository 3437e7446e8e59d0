use Rattle.std.proofs.Common.{◌∙◌, Option, ap, arith, subst, sym, ℕ}
use Rattle.std.specs.Prelude.{IfOk}
use Rattle.std.specs.FinMap as map
use Rattle.slab.specs.Slab as slots
use Rattle.cube_defs.specs.Rows as defs
use Rattle.qc_arena.specs.Changes.{AreClassNumbers, class_in}
use Rattle.qc_arena.specs.Inside.{join}
use Rattle.qc_arena.specs.Map.{Arena}
use Rattle.qc_arena.specs.RecordReaders.{record_or}
use Rattle.qc_arena.proofs.TotalsSteps.{is_record}
use Rattle.qc_arena.proofs.SlotMaps.{get_now, there}
use Rattle.qc_arena.proofs.arena.QcArena.class_numbers.Goals as goal

pub numbers_of_classes-requires-clause-small : goal.numbers_of_classes-requires-clause-small
numbers_of_classes-requires-clause-small g c = λ q h.
    (c.self.invariant.is_kept.counted q (record_or (join (slots.get c.self.inside.nodes q)))
    (get_now c.self.inside.nodes q ∙ is_record (join (slots.get c.self.inside.nodes q)) h)).number

pub returns-clause-numbers : goal.returns-clause-numbers
returns-clause-numbers g c =
    subst (λ (class : ℕ → Option defs.Agg). IfOk c.numbers_of_classes.result (λ ns. AreClassNumbers class ns.items))
    (λ j q. class_in (sym (there c.self.inside.nodes q (ap (λ (v : Arena). v.now) c.self.view_is)) j))
    c.numbers_of_classes.ensures.numbers

pub returns-clause-steps : goal.returns-clause-steps
returns-clause-steps g c =
    omega (arith, c.numbers_of_classes.ensures.steps, ap (λ (v : Arena). map.len v.now) c.self.view_is)
