use Rattle.std.proofs.Common.{refl, sym, arith}
use Rattle.cube_laws.proofs.CallerLemmas.{depth-le}
use Rattle.qc_arena.specs.RecordReaders.{record_at}
use Rattle.batch_insert.proofs.Climbing.{above, below_on, bit_within, common_fits, common_on, has_parent, long_at, shared_there}
use Rattle.batch_insert.proofs.Climbing.{shares_root, within}
use Rattle.batch_insert.proofs.shared.common.Goals as goal

pub up-init : goal.up-init
up-init g c =
    let l = long_at c.args.insertion.now.tuple.now c.args.insertion.now.arena.now c.args.insertion.now.is.ready
    c.args.insertion.now.is.width c.args.node.0 c.requires.node in
    record {
      there = c.requires.node;
      common = omega arith;
      below = refl;
      steps
          = omega (arith, l, depth-le (record_at c.args.insertion.now.arena.now.now c.args.node.0).cell);
    }

pub returns-in_default-clause-shares : goal.returns-in_default-clause-shares
returns-in_default-clause-shares g c
    = shares_root c.args.insertion.now.tuple.now c.args.insertion.now.arena.now c.args.insertion.now.is.ready
    c.args.insertion.now.is.width c.args.insertion.now.is.few c.args.node.0 c.up.at.0 c.up.values c.up.is_below c.requires.node
    c.up.invariant.there (sym c.in_default.ensures.value) c.up.invariant.common c.up.invariant.below

pub bit_of-bit-requires : goal.bit_of-bit-requires
bit_of-bit-requires g c
    = within c.args.insertion.now.tuple.now c.args.insertion.now.arena.now c.args.insertion.now.is.ready
    c.args.insertion.now.is.width c.up.at.0 c.in-Some.dim c.in-Some.code c.up.invariant.there (sym c.in-Some.ensures.value)

pub unwrap-at-requires : goal.unwrap-at-requires
unwrap-at-requires g c =
    has_parent c.args.insertion.now.tuple.now c.args.insertion.now.arena.now c.args.insertion.now.is.ready
    c.args.insertion.now.is.width c.up.at.0 c.in-Some.dim c.in-Some.code c.up.invariant.there
    (sym c.in-Some.ensures.value) c.parent.result c.parent.ensures.value

pub up-smaller : goal.up-smaller
up-smaller g c =
    let up = above c.args.insertion.now.tuple.now c.args.insertion.now.arena.now c.args.insertion.now.is.ready
    c.args.insertion.now.is.width c.up.at.0 c.in-Some.dim c.in-Some.code c.up.invariant.there
    (sym c.in-Some.ensures.value) c.parent.result c.unwrap-at.result c.parent.ensures.value c.unwrap-at.ensures in
    let s = up.shallower in
    omega arith

pub up-preserved : goal.up-preserved
up-preserved g c =
    let up = above c.args.insertion.now.tuple.now c.args.insertion.now.arena.now c.args.insertion.now.is.ready
    c.args.insertion.now.is.width c.up.at.0 c.in-Some.dim c.in-Some.code c.up.invariant.there
    (sym c.in-Some.ensures.value) c.parent.result c.unwrap-at.result c.parent.ensures.value c.unwrap-at.ensures in
    let s = up.shallower in
    record {
      there = up.there;
      common = common_on c.args.insertion.now.tuple.now c.args.insertion.now.arena.now c.args.insertion.now.is.ready
          c.args.insertion.now.is.width c.args.insertion.now.is.few c.up.at.0 c.in-Some.dim c.in-Some.code c.unwrap-at.result.0
          c.args.node.0 c.bit_of-bit.result c.up.values c.up.is_below up c.bit_of-bit.ensures c.up.invariant.common;
      below = below_on c.args.insertion.now.tuple.now c.args.insertion.now.arena.now c.args.insertion.now.is.ready
          c.args.insertion.now.is.width c.args.insertion.now.is.few c.up.at.0 c.in-Some.dim c.in-Some.code c.unwrap-at.result.0
          c.args.node.0 c.bit_of-bit.result c.up.values c.up.is_below up c.bit_of-bit.ensures c.up.invariant.below;
      steps = omega arith;
    }

pub overflow_add-values : goal.overflow_add-values
overflow_add-values g c =
    let bit = bit_within c.args.insertion.now.tuple.now c.args.insertion.now.arena.now c.args.insertion.now.is.ready
    c.args.insertion.now.is.width c.up.at.0 c.in-Some.dim c.in-Some.code c.up.invariant.there
    (sym c.in-Some.ensures.value) in
    let fits = common_fits c.args.insertion.now.tuple.now c.args.insertion.now.arena.now c.args.insertion.now.is.ready
    c.args.insertion.now.is.width c.args.insertion.now.is.few c.args.node.0 c.requires.node in
    let h = c.up.invariant.common in
    let is = c.bit_of-bit.ensures in
    omega (arith, fits, bit, h, is)

pub overflow_add-result : goal.overflow_add-result
overflow_add-result g c =
    let fits = common_fits c.args.insertion.now.tuple.now c.args.insertion.now.arena.now c.args.insertion.now.is.ready
    c.args.insertion.now.is.width c.args.insertion.now.is.few c.args.node.0 c.requires.node in
    let e = (shared_there c.args.insertion.now.tuple.now c.args.insertion.now.arena.now c.args.insertion.now.is.ready
    c.args.insertion.now.is.width c.args.insertion.now.is.few c.args.chain.node c.up.at c.args.mask c.args.chain.is_own
    (c.is_at.ensures c.up-test.false) c.requires.chain).0 in
    let h = c.up.invariant.common in
    omega (arith, fits, e, h)
