use Rattle.std.proofs.Common.{◌∙◌, ◌&&◌, ap, arith, not}
use Rattle.std.specs.BTreeSet.{contains}
use Rattle.cube_laws.proofs.CallerLemmas.{take_all}
use Rattle.measure_index.specs.ColumnKeys.{key_cmp, key_total}
use Rattle.measure_index.specs.Keys.{among}
use Rattle.measure_index.proofs.KeyLemmas.{gone_out, none_out}
use Rattle.measure_index.proofs.sorted_keys.SortedKeys.remove_all.Goals as goal

pub loop-item-init : goal.loop-item-init
loop-item-init c = record {
  has = λ q. none_out (contains key_cmp c.args.self.now q);
  few = omega arith;
  ordered = c.requires;
}

pub loop-item-preserved : goal.loop-item-preserved
loop-item-preserved c =
    let was = c.loop-item.invariant in
    let few = was.few in
    let fewer = c.remove.ensures.few in
    record {
      has = λ q. gone_out key_total c.args.items.now c.loop-item.item-index c.item-item.result
          c.loop-item-test.true c.item-item.is q _ _ _ (was.has q) (c.remove.ensures.has q);
      few = omega (arith, fewer, few);
      ordered = c.remove.ensures.ordered;
    }

pub returns-clause-has : goal.returns-clause-has
returns-clause-has c = λ q.
    c.loop-item.invariant.has q
    ∙ ap (λ xs. contains key_cmp c.args.self.now q && not (among key_cmp xs q))
    (take_all c.args.items.now c.loop-item.item-index (omega (arith, c.loop-item-test.false)))
