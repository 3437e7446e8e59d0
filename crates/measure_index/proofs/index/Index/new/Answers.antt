use Rattle.std.proofs.Common.{None, ℕ, ◌+◌, ◌∙◌, ap, subst, sym, take}
use Rattle.measure_index.specs.Rankings.{IsIndex}
use Rattle.measure_index.proofs.Classes.{empty_all, empty_index, empty_more}
use Rattle.measure_index.proofs.index.Index.new.Goals as goal

pub returns-clause-classes : goal.returns-clause-classes
returns-clause-classes c
    = subst (IsIndex (λ _. None)) (sym c.kinds.invariant.made)
    (empty_index c.args.scales.now (take c.kinds.kind-index c.args.kinds.now))

pub kinds-preserved : goal.kinds-preserved
kinds-preserved c =
    let was = c.kinds.invariant in
    let pushed = c.push_reserved.ensures in
    record {
      made = empty_more c.args.scales.now c.args.kinds.now c.kinds.kind-index _ _ _ c.kinds-test.true
          c.new-column.ensures c.scale_in.ensures.value _ _ was.made pushed.items;
      len = pushed.len ∙ ap (λ (n : ℕ). n + 1) was.len;
      room = rw (pushed.capacity) was.room;
    }

pub returns-clause-value : goal.returns-clause-value
returns-clause-value c =
    empty_all c.args.scales.now c.args.kinds.now c.kinds.kind-index c.kinds-test.false _ c.kinds.invariant.made
