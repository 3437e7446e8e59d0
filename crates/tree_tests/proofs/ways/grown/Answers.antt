use Rattle.std.proofs.Common.{◌≡◌, ◌∙◌, Some, ap}
use Rattle.std.specs.FinMap as map
use Rattle.cube_defs.specs.Cell.{with_value}
use Rattle.qc_arena.specs.Map.{bare}
use Rattle.qc_arena.specs.RecordReaders.{record_or}
use Rattle.tree_tests.specs.Single.{single}
use Rattle.tree_tests.proofs.Single.{root_cell, way}
use Rattle.tree_tests.proofs.ways.grown.Goals as goal

pub returns-clause-root : goal.returns-clause-root
returns-clause-root g c =
    let root = c.in_ok-arena.root.0 in
    let child = c.in-Ok.child.0 in
    let is : map.get c.add_node.new.self.now child ≡ Some (bare single (Some root)) = c.in-Ok.ensures.here
    ∙ ap (λ n. Some (bare (with_value (record_or n).cell 1 7) (Some root))) c.in_ok-arena.ensures.root in
    root_cell c.in_ok-arena.arena.now c.add_node.new.self.now c.set_edge.new.self.now root child
    c.in_ok-arena.ensures.root c.in_ok-arena.ensures.alone c.in-Ok.ensures.free is c.in-Ok.ensures.others
    c.in-Ok-set_edge.ensures.here c.in-Ok-set_edge.ensures.others

pub returns-clause-way : goal.returns-clause-way
returns-clause-way g c =
    let root = c.in_ok-arena.root.0 in
    let child = c.in-Ok.child.0 in
    let is : map.get c.add_node.new.self.now child ≡ Some (bare single (Some root)) = c.in-Ok.ensures.here
    ∙ ap (λ n. Some (bare (with_value (record_or n).cell 1 7) (Some root))) c.in_ok-arena.ensures.root in
    way c.in_ok-arena.arena.now c.add_node.new.self.now c.set_edge.new.self.now root child c.in_ok-arena.ensures.root
    c.in_ok-arena.ensures.alone c.in-Ok.ensures.free is c.in-Ok.ensures.others
    c.in-Ok-set_edge.ensures.here c.in-Ok-set_edge.ensures.others
