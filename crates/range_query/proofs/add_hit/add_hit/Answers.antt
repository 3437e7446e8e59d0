use Rattle.std.proofs.Common.{arith, refl}
use Rattle.std.proofs.lemmas.Result.{on_ok_weaker}
use Rattle.range_query.proofs.Kept.{class_some, hit_kept}
use Rattle.range_query.proofs.add_hit.add_hit.Goals as goal

pub unwrap-agg-requires : goal.unwrap-agg-requires
unwrap-agg-requires g c =
    let ends = c.requires.ends in
    class_some _ _ c.args.node.0 c.args.cell.now c.class.result c.requires.tree.0 c.requires.tree.1 ends.there
    (ends.whole c.requires.tree.0 c.requires.tree.1) c.class.ensures.value ends.long

pub returns : goal.returns
returns g c =
    let ends = c.requires.ends in
    record {
      hits = λ source h.
          on_ok_weaker c.push_within.result
          (λ e. hit_kept _ _ c.args.node.0 c.args.cell.now c.class.result source h ends.there
          (ends.whole source h) c.class.ensures.value ends.long c.unwrap-agg.result c.copy.result _ _
          c.unwrap-agg.ensures c.copy.ensures.value e)
          c.push_within.ensures.ok;
      few = c.push_within.ensures.few;
      too_many = λ e source h. let full = c.push_within.ensures.too_many e in omega (arith, full);
      cell = on_ok_weaker c.push_within.result (λ few. refl) c.push_within.ensures.few;
      steps = λ source h. omega (arith, c.class.ensures.steps);
    }
