use Rattle.std.proofs.Common.{◌-◌, arith, inl, inr}
use Rattle.qc_arena.specs.Entries.{all_new}
use Rattle.qc_arena.proofs.Merges.{end_most, end_there, none_took, some_first, some_second}
use Rattle.qc_arena.proofs.sorted_images.SortedImages.end.Goals as goal

pub returns-clause-most : goal.returns-clause-most
returns-clause-most c = λ q l.
    let m = c.args.self.now in
    none_took q m.changed.items (all_new m.added.items)
    (end_most m.changed.items c.changed_end.result c.requires.changed_rise c.changed_end.ensures.end q
    (omega (arith, c.larger.ensures.one)))
    (end_most (all_new m.added.items) c.added_end.result c.requires.added_rise c.added_end.ensures.end q
    (omega (arith, c.larger.ensures.other)))

pub returns-clause-there : goal.returns-clause-there
returns-clause-there c = λ some.
    let m = c.args.self.now in
    elim c.larger.ensures.either [
      | inl e ↦ rw e (some_first (c.changed_end.result - 1) m.changed.items (all_new m.added.items)
          (end_there m.changed.items c.changed_end.result c.changed_end.ensures.end (omega (arith, e))))
      | inr e ↦ rw e (some_second (c.added_end.result - 1) m.changed.items (all_new m.added.items)
          (end_there (all_new m.added.items) c.added_end.result c.added_end.ensures.end (omega (arith, e))))
    ]
