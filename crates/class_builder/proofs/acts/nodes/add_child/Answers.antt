use Rattle.std.proofs.Common.{◌≡◌, ◌≤◌, ◌∷◌, ◌∙◌, [], List, Some, ap, subst, ℕ}
use Rattle.std.specs.Option.{option_map}
use Rattle.cube_defs.specs.Cell.{Cell, depth, with_value}
use Rattle.cube_defs.specs.Rows.{Row}
use Rattle.cube_defs.specs.Tree.{cell_at}
use Rattle.build_trace.specs.Trace.Act.{Add, Label}
use Rattle.qc_arena.specs.Map.{Known, bare}
use Rattle.class_builder.specs.Building.{PerformsActs}
use Rattle.class_builder.proofs.ActSteps.{cell_of_record, does_both, does_child, more_next}
use Rattle.class_builder.proofs.acts.nodes.add_child.Given as given
use Rattle.class_builder.proofs.acts.nodes.add_child.Goals as goal

-- the first act
added : (g : given.Over) (c : goal.In-Ok-put_label g) (measures : ℕ) (rows : List (Row ℕ)) (f : Cell ℕ)
    → cell_at c.args.arena.now.now c.args.parent.0 ≡ Some f
    → PerformsActs measures rows (Add (with_value f c.args.dim c.args.code) ∷ []) c.args.arena.now c.add_node.new.self
added g c measures rows f at =
    let e = c.in-Ok.ensures in
    let is = cell_of_record c.args.arena.now.now c.args.parent.0 f at in
    does_child measures rows c.args.arena.now c.add_node.new.self c.in-Ok.child.0 c.args.parent.0 f c.args.dim
    c.args.code at (subst (λ c'. depth c' ≤ c.args.dim) is c.requires.behind) e.free
    (record {
      here = e.here ∙ ap (λ c'. Some (bare (with_value c' c.args.dim c.args.code) (Some c.args.parent.0))) is;
      others = e.others;
      rest = e.frame;
    })
    e.touched

placed : (g : given.Over) (c : goal.In-Ok-put_label g) (f : Cell ℕ)
    → cell_at c.args.arena.now.now c.args.parent.0 ≡ Some f
    → cell_at c.add_node.new.self.now c.in-Ok.child.0 ≡ Some (with_value f c.args.dim c.args.code)
placed g c f at =
    ap (option_map (λ (x : Known). x.cell)) c.in-Ok.ensures.here
    ∙ ap (λ c'. Some (with_value c' c.args.dim c.args.code)) (cell_of_record c.args.arena.now.now c.args.parent.0 f at)

-- the second act
labelled : (g : given.Over) (c : goal.In-Ok-put_label g) (measures : ℕ) (rows : List (Row ℕ)) (f : Cell ℕ)
    → cell_at c.args.arena.now.now c.args.parent.0 ≡ Some f
    → PerformsActs measures rows (Label c.args.is_forced f c.args.dim c.args.code (with_value f c.args.dim c.args.code)
    ∷ []) c.add_node.new.self c.put_label.new.arena
labelled g c measures rows f at =
    c.in-Ok-put_label.ensures.made measures rows f (with_value f c.args.dim c.args.code)
    ((added g c measures rows f at).cells c.args.parent.0 f at) (placed g c f at)

pub returns-in-Err-clause-full : goal.returns-in-Err-clause-full
returns-in-Err-clause-full g c = λ full measures rows f at next.
    more_next measures rows (with_value f c.args.dim c.args.code)
    (Label c.args.is_forced f c.args.dim c.args.code (with_value f c.args.dim c.args.code) ∷ [])
    c.args.arena.now next
    (c.add_node.ensures.full.0 (c.in-Err.is ∙ full))

pub returns-in-Ok-put_label-clause-made : goal.returns-in-Ok-put_label-clause-made
returns-in-Ok-put_label-clause-made g c
    = λ measures rows f at. does_both measures rows _ _ c.args.arena.now c.add_node.new.self c.put_label.new.arena
    (added g c measures rows f at) (labelled g c measures rows f at)

pub returns-in-Ok-put_label-clause-here : goal.returns-in-Ok-put_label-clause-here
returns-in-Ok-put_label-clause-here g c
    = λ f at. (labelled g c 0 [] f at).cells c.in-Ok.child.0 (with_value f c.args.dim c.args.code) (placed g c f at)
