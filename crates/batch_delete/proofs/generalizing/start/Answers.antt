use Rattle.std.proofs.Common.{◌≡◌, ◌∙◌, ◌++◌, ◌∷◌, [], None, Some, List, ap, replicate}
use Rattle.cell_core.specs.declared.cell.NodeNo.{NodeNo}
use Rattle.cube_defs.specs.Tree.{cell_at}
use Rattle.batch_delete.specs.declared.generalizing.NodeCell.{NodeCell}
use Rattle.batch_delete.proofs.Childs.{none_of}
use Rattle.batch_delete.proofs.Growing.{no_root, root_alone}
use Rattle.batch_delete.proofs.generalizing.start.Goals as goal
use Rattle.cube_laws.proofs.CallerLemmas.{some_of}

pub returns-in-None-clause-below : goal.returns-in-None-clause-below
returns-in-None-clause-below g c =
    let a = c.args.arena.now in
    rw c.in_ok-list.ensures.items (no_root a.width a.now c.requires.tree.0 c.requires.tree.1 c.args.tuple.now
    (none_of _ c.root.result c.in-None.is c.root.ensures.none))

pub returns-in-Ok-clause-below : goal.returns-in-Ok-clause-below
returns-in-Ok-clause-below g c =
    let a = c.args.arena.now in
    let at = some_of (λ (k : NodeNo). cell_at a.now k.0 ≡ Some (replicate a.width None)) c.root.result c.in-Some.node
    c.in-Some.is c.root.ensures.some in
    let cell = c.any-cell.ensures.value ∙ ap (λ n. replicate n None) (c.dims.ensures.value ∙ c.requires.long) in
    let list = c.in-Ok.ensures
    ∙ ap (λ (l : List NodeCell). l ++ record { node = c.in-Some.node; cell = c.any-cell.result } ∷ [])
    c.in_ok-list.ensures.items in
    rw list (root_alone a.width a.now c.requires.tree.0 c.requires.tree.1 c.args.tuple.now
    (record { node = c.in-Some.node; cell = c.any-cell.result }) cell at c.requires.long)
