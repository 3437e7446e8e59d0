use Rattle.std.proofs.Common.{◌∙◌, arith}
use Rattle.std.proofs.lemmas.Grind.{common_steps}
use Rattle.slab.specs.Slab as slots
use Rattle.qc_arena.specs.Inside.{image_at}
use Rattle.qc_arena.proofs.Imaged.{back_same}
use Rattle.qc_arena.proofs.slots.restore_all.Goals as goal

pub images-preserved : goal.images-preserved
images-preserved c =
    let k = c.in-Some.node in
    record {
      placed = λ q. grind (
        arith,
        common_steps,
        c.in-Some.ensures.rest q,
        c.put_image.ensures.others q,
        c.images.invariant.placed q,
      );
      killed = λ q. grind (
        arith,
        common_steps,
        c.in-Some.ensures.rest q,
        c.put_image.ensures.others q,
        c.images.invariant.killed q,
        c.put_image.ensures.here,
      );
      same = λ q.
          back_same (image_at c.images.images) (image_at c.pop.new.self) (slots.get c.images.nodes)
          (slots.get c.put_image.new.nodes) k c.in-Some.image
          c.in-Some.ensures.took c.in-Some.ensures.rest c.put_image.ensures.now c.put_image.ensures.others q
          ∙ c.images.invariant.same q;
    }
