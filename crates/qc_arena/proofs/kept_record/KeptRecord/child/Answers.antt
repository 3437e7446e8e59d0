use Rattle.std.proofs.Common.{◌≡◌, ◌∙◌, ◌≤◌, ℕ, None, Some, ap, arith, length, length-set, subst, sym}
use Rattle.std.proofs.lemmas.Bool.{cond-false}
use Rattle.cube_defs.specs.Cell.{Cell, depth, with_value}
use Rattle.cube_defs.specs.Tree.{Edge}
use Rattle.tree_laws.specs.Walk.{last_label}
use Rattle.qc_arena.specs.KeptSlot.{Kept}
use Rattle.qc_arena.specs.Map.{bare}
use Rattle.qc_arena.specs.NodeRecord.{IsTrail, cell_on, label_in, parent_in}
use Rattle.qc_arena.proofs.Imaged.{eq_apart}
use Rattle.qc_arena.proofs.Sizes.{within_more}
use Rattle.qc_arena.proofs.Trails.{cell_on-more, label-with_value}
use Rattle.qc_arena.proofs.kept_record.KeptRecord.child.Goals as goal

pub new-requires-clause-end : goal.new-requires-clause-end
new-requires-clause-end c =
    let cell = cell_on c.self.inside.trail.items in
    let was : cell ≡ c.args.self.now.node.cell = ap (λ (h : Kept). h.node.cell) c.self.view_is in
    let low = c.requires.dim in
    let few = c.self.invariant.few_dims in
    let long = ap (λ (x : Cell ℕ). length x) was in
    let behind = subst (λ (x : Cell ℕ). depth x ≤ c.args.dim) (sym was) c.requires.behind in
    let is = ap cell_on c.and.ensures
    ∙ cell_on-more c.self.inside.trail.items (c.args.dim, c.args.code) c.self.invariant.begun in
    ap last_label is ∙ label-with_value cell c.args.dim c.args.code behind (omega arith)
    ∙ sym (cond-false _ _ _ (eq_apart c.args.dim 255 (omega arith)))
    ∙ sym (ap (λ (e : Edge ℕ ℕ). label_in e.dim e.value) c.of.ensures)

pub new-requires-clause-few : goal.new-requires-clause-few
new-requires-clause-few c =
    let is = ap cell_on c.and.ensures
    ∙ cell_on-more c.self.inside.trail.items (c.args.dim, c.args.code) c.self.invariant.begun in
    let few = c.self.invariant.few_dims in
    let same = ap (λ (x : Cell ℕ). length x) is in
    let set = length-set (cell_on c.self.inside.trail.items) c.args.dim (Some c.args.code) in omega arith

pub new-requires-clause-within : goal.new-requires-clause-within
new-requires-clause-within c =
    let was : cell_on c.self.inside.trail.items ≡ c.args.self.now.node.cell
    = ap (λ (h : Kept). h.node.cell) c.self.view_is in
    let long = ap (λ (x : Cell ℕ). length x) was in
    let low = c.requires.dim in
    subst IsTrail (sym c.and.ensures)
    (within_more c.self.inside.trail.items (c.args.dim, c.args.code) c.self.invariant.begun
    c.self.invariant.within (omega arith))

pub returns-clause-node : goal.returns-clause-node
returns-clause-node c =
    let few = c.self.invariant.few_dims in
    let low = c.requires.dim in
    let was : cell_on c.self.inside.trail.items ≡ c.args.self.now.node.cell
    = ap (λ (h : Kept). h.node.cell) c.self.view_is in
    let long = ap (λ (x : Cell ℕ). length x) was in
    let is = ap cell_on c.and.ensures
    ∙ cell_on-more c.self.inside.trail.items (c.args.dim, c.args.code) c.self.invariant.begun in
    let cell = is ∙ ap (λ (x : Cell ℕ). with_value x c.args.dim c.args.code) was in
    let parent = ap (λ (e : Edge ℕ ℕ). parent_in e.dim e.target) c.of.ensures
    ∙ cond-false _ None (Some c.args.node.0) (eq_apart c.args.dim 255 (omega arith)) in
    c.new.ensures.node ∙ λ j. bare (cell j) (parent j)
