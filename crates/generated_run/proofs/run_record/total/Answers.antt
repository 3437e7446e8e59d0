use Rattle.std.proofs.Common.{◌≡◌, ◌∙◌, ap, ℕ, None, length, replicate}
use Rattle.std.specs.Ordering.{eq_by_cmp, nat_cmp}
use Rattle.cube_laws.specs.Total.{agg_at}
use Rattle.warehouse.specs.State.{coded_rows, source_of}
use Rattle.generated_run.proofs.Totals.{total-of-all}
use Rattle.generated_run.proofs.run_record.total.Goals as goal
use Rattle.tree_search.proofs.CallerLemmas.{total-at}

pub returns : goal.returns
returns g c =
    let s = c.args.warehouse.now.state in
    let n = length s.schema.dims in
    let dims : c.dims.result ≡ n = c.dims.ensures.count ∙ ap (λ l. length l.dims) c.schema.ensures.value in
    let cell : c.any-cell.result ≡ replicate n None = c.any-cell.ensures.value
    ∙ ap (λ (k : ℕ). replicate k None) dims in
    c.total_at.ensures.value (source_of s) (rw (c.tree.ensures.width, c.tree.ensures.value) c.tree.ensures.valid.tree)
    ∙ total-at (source_of s) c.any-cell.result
    ∙ ap (agg_at (eq_by_cmp nat_cmp) (length s.schema.measures) (coded_rows s)) cell
    ∙ total-of-all s.texts (length s.schema.measures) s.rows n c.tree.ensures.valid.state.consistent.known
