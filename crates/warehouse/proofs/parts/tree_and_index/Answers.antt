use Rattle.std.proofs.Common.{Option, ◌∙◌, [], ap, subst, sym}
use Rattle.std.specs.Prelude.{IfSome, ℕ}
use Rattle.std.specs.Ordering.{nat_cmp}
use Rattle.base_table.specs.Places.{rows_of}
use Rattle.cube_defs.specs.Tree.{IsCanonical, Tree}
use Rattle.qc_arena.specs.Codes.{Shape}
use Rattle.qc_arena.specs.Map.{Arena, is_open}
use Rattle.warehouse.specs.State.{IsIndexed}
use Rattle.warehouse.specs.Stored.{IsTreeOfSome}
use Rattle.warehouse.proofs.Trees.{kept-canonical, kept-empty, tree-from}
use Rattle.warehouse.proofs.parts.tree_and_index.Goals as goal

pub build_index-requires-clause-before : goal.build_index-requires-clause-before
build_index-requires-clause-before g c =
    let l = c.args.schema.now in
    subst (λ (was : Option Shape). IfSome was (λ before. IsTreeOfSome l before.tree
    × IsIndexed l before.tree c.in_ok-index.index)) (sym c.in-Ok.ensures.tree.was)
    (([], (kept-empty l).from), c.in_ok-index.ensures)

pub build_index-requires-clause-now : goal.build_index-requires-clause-now
build_index-requires-clause-now g c =
    let t = c.args.table.now in (
      rows_of t,
      tree-from c.args.schema.now t c.in-Ok.tree.now c.requires.valid c.requires.dims c.requires.measures
          c.in-Ok.ensures.tree.canonical,
    )

pub returns-clause-tree : goal.returns-clause-tree
returns-clause-tree g c =
    let t = c.args.table.now in
    let is = c.in-Ok.ensures.tree in
    let now = ap (λ (a : Arena). a.now) c.drop_images.ensures ∙ ap (λ (a : Arena). a.now) c.commit.ensures.value in
    kept-canonical c.args.schema.now t c.drop_images.new.self c.requires.valid c.requires.dims c.requires.measures
    (ap is_open c.drop_images.ensures ∙ ap is_open c.commit.ensures.value)
    (ap (λ (a : Arena). a.width) c.drop_images.ensures ∙ ap (λ (a : Arena). a.width) c.commit.ensures.value ∙ is.width)
    (ap (λ (a : Arena). a.max) c.drop_images.ensures ∙ ap (λ (a : Arena). a.max) c.commit.ensures.value ∙ is.max)
    is.few (subst (λ (tree : Tree ℕ). IsCanonical nat_cmp t.measures (rows_of t) tree) (sym now) is.canonical)
