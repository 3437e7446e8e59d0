use Rattle.std.proofs.Common.{◌≡◌, ◌∙◌, ap, suc, ◌+◌, ◌-◌, ℕ, List, ◌++◌, arith}
use Rattle.row_generator.specs.Generator.{deletions_text}
use Rattle.row_generator.proofs.Pieces.{deletions-more}
use Rattle.row_generator.proofs.rows.push_deletions.Goals as goal

pub rows-preserved : goal.rows-preserved
rows-preserved c =
    let e : c.rows.left ≡ suc (c.rows.left - 1) = omega (arith, c.rows-test.true) in
    record {
      text = ap (λ (z : List ℕ). z ++ deletions_text (c.rows.left - 1) (c.rows.id + 1))
          c.in_ok-push_deletion.ensures.text ∙ deletions-more c.rows.out.items (c.rows.left - 1) c.rows.left c.rows.id e
          ∙ c.rows.invariant.text;
      short = omega (arith, e, c.in_ok-push_deletion.ensures.short, c.rows.invariant.short);
      ids = omega (arith, e, c.rows.invariant.ids);
    }
