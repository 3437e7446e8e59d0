use Rattle.std.proofs.Common.{◌≡◌, ◌≢◌, ◌∙◌, ◌≤◌, ℕ, [], List, ap, arith, length, subst, sym}
use Rattle.cube_defs.specs.Cell.{Cell, depth}
use Rattle.tree_laws.specs.Walk.{last_label}
use Rattle.qc_arena.specs.KeptRecord.{edges_by, forced_by, place_by}
use Rattle.qc_arena.specs.NodeRecord.{IsTrail, cell_on, class_on, parent_in}
use Rattle.qc_arena.specs.Resized.{resize}
use Rattle.qc_arena.specs.KeptSlot.{Kept}
use Rattle.qc_arena.proofs.Sizes.{cell_on-resized, first_begun, label-resize, length-resize, within_first}
use Rattle.qc_arena.proofs.kept_record.KeptRecord.set_width.Goals as goal

pub invariant_of-self : goal.invariant_of-self
invariant_of-self c =
    let is = c.self.invariant in
    let trail = c.self.inside.trail.items in
    let was : cell_on trail ≡ c.args.self.now.node.cell = ap (λ (h : Kept). h.node.cell) c.self.view_is in
    let deep = subst (λ (x : Cell ℕ). depth x ≤ c.args.dims) (sym was) c.requires in
    let cell = ap cell_on c.behind-self-inside.ensures ∙ cell_on-resized c.args.dims 0 trail is.begun is.within in
    record {
      heading = is.heading;
      end = ap last_label cell ∙ label-resize c.args.dims (cell_on trail) deep ∙ is.end;
      few_dims = let long = ap (λ (x : Cell ℕ). length x) cell ∙ length-resize c.args.dims (cell_on trail) in
          omega arith;
      begun = subst (λ (x : List (ℕ × ℕ)). x ≢ []) (sym c.behind-self-inside.ensures)
          (first_begun (c.args.dims, 0) trail);
      within = subst IsTrail (sym c.behind-self-inside.ensures) (within_first c.args.dims 0 trail is.within deep);
    }

pub returns : goal.returns
returns c =
    let is = c.self.invariant in
    let trail = c.self.inside.trail.items in
    let cell = ap cell_on c.behind-self-inside.ensures ∙ cell_on-resized c.args.dims 0 trail is.begun is.within in
    let m = c.self.inside in
    let with : Cell ℕ → Kept = λ x.
    record {
      node = record {
        cell = x;
        parent = parent_in m.up.dim m.up.target;
        class = class_on m.noted.items;
        forced
            = forced_by m.has_forced m.first;
        edges = edges_by m.list m.first;
      };
      place = place_by m.list;
      is_killed
          = m.is_killed;
    } in
    ap with cell ∙ ap (λ (h : Kept). record h { node = record h.node { cell = resize c.args.dims h.node.cell } })
    c.self.view_is
