use Rattle.std.proofs.Common.{◌≡◌, ◌∙◌, ap, suc, ◌+◌, ◌-◌, ℕ, List, ◌++◌, arith, length, length-append}
use Rattle.row_generator.specs.Generator.{after_rows, row_text, rows_text}
use Rattle.row_generator.proofs.Pieces.{rows-more}
use Rattle.row_generator.proofs.rows.push_rows.Goals as goal

pub rows-preserved : goal.rows-preserved
rows-preserved c =
    let e : c.rows.left ≡ suc (c.rows.left - 1) = omega (arith, c.rows-test.true) in
    let front = c.args.front.now in
    let s = c.rows.draws.state in
    let written = c.in_ok-push_row.ensures.text
    ∙ ap (λ (z : List ℕ). z ++ row_text c.rows.id s) c.in_ok-extend_from_slice.ensures.items in
    let left = c.rows.left - 1 in
    record {
      state = ap (after_rows left) c.in_ok-push_row.ensures.state ∙ (rw e at c.rows.invariant.state);
      text = ap (λ (z : List ℕ). z ++ rows_text front left (c.rows.id + 1) c.push_row.new.draws.state) written
          ∙ ap (λ (t : ℕ). ((c.rows.out.items ++ front) ++ row_text c.rows.id s)
          ++ rows_text front left (c.rows.id + 1) t) c.in_ok-push_row.ensures.state
          ∙ rows-more c.rows.out.items front left c.rows.left c.rows.id s e ∙ c.rows.invariant.text;
      short = omega (
        arith,
        e,
        c.requires.front,
        length-append c.rows.out.items front,
        ap (λ (z : List ℕ). length z) c.in_ok-extend_from_slice.ensures.items,
        c.in_ok-push_row.ensures.short,
        c.rows.invariant.short,
      );
      ids = omega (arith, e, c.rows.invariant.ids);
    }
