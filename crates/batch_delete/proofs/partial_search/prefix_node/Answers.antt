use Rattle.std.proofs.Common.{◌≡◌, ◌∙◌, ◌+◌, ◌-◌, suc, ap, arith, length, sym, None, Some}
use Rattle.std.proofs.lemmas.Option.{slice_get_within}
use Rattle.cube_defs.specs.Cell.{cell_prefix}
use Rattle.batch_delete.specs.Rests.{source_before}
use Rattle.batch_delete.proofs.Entries.{entry_is, cell_prefix_all, cell_prefix_value}
use Rattle.batch_delete.proofs.PartialSearches.{up_there, up_to, value_after}
use Rattle.batch_delete.proofs.partial_search.prefix_node.Goals as goal

pub up-init : goal.up-init
up-init g c = record {
  at = c.requires.1.0.node ∙ ap (λ x. Some x)
      (sym (cell_prefix_all c.args.class.now.cell (length c.args.class.now.cell - 0) (omega arith)));
  steps = omega arith;
}

pub unwrap-node-requires : goal.unwrap-node-requires
unwrap-node-requires g c =
    let a = c.args.arena.now in
    let cell = c.args.class.now.cell in
    let many = c.dims.ensures.value in
    let i = length cell - c.up._value - 1 in
    let within = slice_get_within cell c.args.dim None c.requires.1.1.any in
    let next : length cell - c.up._value ≡ suc i = omega arith in
    let v = value_after cell c.args.dim i c.requires.1.1 (omega arith) (omega arith) in
    up_there a.width a.now (source_before g.d) c.requires.1.0.tree c.up.node.0 cell i v.0 (c.up.invariant.at
    ∙ ap (λ n. Some (cell_prefix n cell)) next) v.1 c.parent.result c.parent.ensures.value

pub up-preserved : goal.up-preserved
up-preserved g c =
    let a = c.args.arena.now in
    let cell = c.args.class.now.cell in
    let many = c.dims.ensures.value in
    let i = length cell - c.up._value - 1 in
    let within = slice_get_within cell c.args.dim None c.requires.1.1.any in
    let next : length cell - c.up._value ≡ suc i = omega arith in
    let here : i ≡ length cell - (c.up._value + 1) = omega arith in
    let v = value_after cell c.args.dim i c.requires.1.1 (omega arith) (omega arith) in
    let had = c.up.invariant.steps in
    let one = c.parent.ensures.steps in
    record {
      at = up_to a.width a.now (source_before g.d) c.requires.1.0.tree c.up.node.0 cell i v.0 (c.up.invariant.at
          ∙ ap (λ n. Some (cell_prefix n cell)) next) v.1 c.parent.result c.unwrap-node.result c.parent.ensures.value
          c.unwrap-node.ensures
          ∙ ap (λ n. Some (cell_prefix n cell)) here;
      steps = omega arith;
    }

pub returns-clause-front : goal.returns-clause-front
returns-clause-front g c =
    let cell = c.args.class.now.cell in
    let many = c.dims.ensures.value in
    let within = slice_get_within cell c.args.dim None c.requires.1.1.any in
    let past = c.up-test.false in
    let ends = c.up.auto._value-end in
    let here : length cell - c.up._value ≡ suc c.args.dim = omega arith in
    c.up.invariant.at ∙ ap (λ n. Some (cell_prefix n cell)) here
    ∙ ap (λ x. Some x) (cell_prefix_value cell c.args.dim (entry_is cell c.args.dim None c.requires.1.1.any))
