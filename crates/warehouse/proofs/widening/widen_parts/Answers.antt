use Rattle.std.proofs.Common.{◌∙◌, ◌+◌, ℕ, List, ap, subst, sym}
use Rattle.base_table.specs.Places.{rows_of}
use Rattle.cube_defs.specs.Rows.{Row}
use Rattle.qc_arena.specs.Map.{Arena}
use Rattle.tree_search.specs.Found.{IsTreeOf}
use Rattle.warehouse.specs.Widening.{KeepsWidened}
use Rattle.warehouse.proofs.Wider.{tree-wide}
use Rattle.warehouse.proofs.widening.widen_parts.Goals as goal

pub returns-in-Ok-widen_indexed-clause-widened : goal.returns-in-Ok-widen_indexed-clause-widened
returns-in-Ok-widen_indexed-clause-widened g c =
    let table = c.args.cube.now.table in
    let before = c.args.cube.now.tree in
    let after = c.widen_indexed.new.tree.now in
    let can = c.requires.can in
    let made = c.in-Ok-widen_indexed.ensures in
    let kept = subst (λ n. KeepsWidened n before.now after) can.width made.kept in
    record {
      texts = c.in-Ok.ensures.ok;
      dictionary = c.add_dim.ensures.dictionary;
      rows = c.widen_rows.ensures.rows;
      frame = c.widen_rows.ensures.frame;
      valid = c.widen_rows.ensures.valid;
      canonical =
          subst (λ (rs : List (Row ℕ)). IsTreeOf (table.dims + 1) after
          (record { measures = table.measures; rows = rs })) (sym c.widen_rows.ensures.rows)
          (tree-wide table.dims table.measures (rows_of table) before.now after can.source kept);
      kept = kept;
      few = made.few;
      of_tree = made.rest
          ∙ ap (λ (n : ℕ). let a : Arena = record before { width = n + 1; now = after } in a) can.width;
    }
