use Rattle.std.proofs.Common.{◌≡◌, ◌≤◌, ◌∙◌, Bool, None, Option, Some, ap, arith, length, slice_get, ℕ}
use Rattle.std.specs.Option.{option_copied}
use Rattle.cube_defs.specs.Rows as defs
use Rattle.slab.specs.Slab as slots
use Rattle.qc_arena.specs.Changes.{class_in, from_side, to_side}
use Rattle.qc_arena.specs.Inside.{image_or, join}
use Rattle.qc_arena.specs.Map.{Known}
use Rattle.qc_arena.proofs.Pairs.{adds_sides, key_found, new_all, new_more, new_rest, sides_still, was_imaged, was_still}
use Rattle.qc_arena.proofs.class_changes.changed.Goals as goal
use Rattle.cube_laws.proofs.CallerLemmas.{item_at, some_of}

pub images-preserved : goal.images-preserved
images-preserved c =
    let s = c.args.nodes.now in
    let m = c.args.images.now in
    let was : ℕ → Option defs.Agg = λ q. class_in (image_or s m q) in
    let now : ℕ → Option defs.Agg = λ q. class_in (join (slots.get s q)) in
    let b = c.args.added in
    let within = c.count_of-count.ensures.few in
    let e = item_at m c.images.k (omega arith) in
    let told = some_of (λ (e : ℕ × Option Known). (c.at-node.result.0 ≡ e.0)
    × (option_copied c.at-node.result.1 ≡ e.1)) _ e.0 e.1 c.at-node.ensures in
    let found = key_found m c.images.k e.0 c.count_of-count.ensures.once e.1 in
    let adds = adds_sides b s m e.0 c.at-node.result.0 (option_copied c.at-node.result.1) c.images.pairs.items
    c.add_new.new.pairs.items found told.0 told.1 c.add_new.ensures.adds in
    record {
      new = new_more (from_side b was now) (to_side b was now) m c.count_of-count.ensures.once c.images.k e.0
          c.images.pairs.items c.add_new.new.pairs.items e.1 c.images.invariant.new adds;
      few = omega (arith, c.add_new.ensures.few, c.images.invariant.few);
      room = omega (arith, c.add_new.ensures.room, c.images.invariant.room);
    }

pub returns : goal.returns
returns c =
    let s = c.args.nodes.now in
    let m = c.args.images.now in
    let was : ℕ → Option defs.Agg = λ q. class_in (image_or s m q) in
    let now : ℕ → Option defs.Agg = λ q. class_in (join (slots.get s q)) in
    let b = c.args.added in
    let within = c.count_of-count.ensures.few in
    let none = λ (j : ℕ) (e : ℕ × Option Known) (l : c.images.k ≤ j) (at : slice_get m j ≡ Some e).
    let rest = c.count_of-count.ensures.rest j e (omega arith) at in
    let gone : was e.0 ≡ None = was_imaged s m e (key_found m j e c.count_of-count.ensures.once at)
    ∙ ap class_in rest.1 in
    ap (λ (x : Bool). to_side x was now e.0) rest.0 ∙ gone in
    let past = c.images-test.false in
    let fits : c.images.k ≤ length m = omega arith in
    new_all (from_side b was now) (to_side b was now) m c.count_of-count.ensures.once (length m) c.images.pairs.items
    (omega arith) (λ q h. sides_still b was now q (was_still s m q h))
    (new_rest (from_side b was now) (to_side b was now) m c.count_of-count.ensures.once c.images.k c.images.pairs.items
    fits none c.images.invariant.new)
