use Rattle.std.proofs.Common.{◌∙◌, ◌++◌, ◌∷◌, [], ℕ, List, ap, arith, length, length-append, sym}
use Rattle.qc_arena.proofs.Runs.{push_run}
use Rattle.qc_arena.proofs.number_list.append_run.Goals as goal

pub numbers-preserved : goal.numbers-preserved
numbers-preserved c =
    let k = c.numbers.number in
    record {
      low = omega (arith, c.numbers.invariant.low);
      items = c.push_reserved.ensures.items ∙ ap (λ (l : List ℕ). l ++ k ∷ []) c.numbers.invariant.items
          ∙ sym (push_run c.args.listed.now.items c.args.first k c.numbers.invariant.low);
      room = omega (
        arith,
        c.numbers.invariant.room,
        c.numbers-test.true,
        ap length c.push_reserved.ensures.items,
        length-append c.numbers.listed.items (k ∷ []),
        c.push_reserved.ensures.capacity,
      );
    }
