use Rattle.std.proofs.Common.{◌≡◌, ap, ap₂, sym, ◌∙◌, ℕ, List}
use Rattle.std.specs.Option.{option_map}
use Rattle.std.specs.Ordering.{nat_cmp, eq_by_cmp}
use Rattle.cube_defs.specs.Answers.{ClassHit}
use Rattle.cube_defs.specs.Cell.{Cell}
use Rattle.cube_defs.specs.Rows.{Agg, agg}
use Rattle.aggregates.specs.Views.{agg_in}
use Rattle.qc_arena.specs.RecordReaders.{record_at}
use Rattle.tree_search.proofs.CallerLemmas.{cell_of}
use Rattle.lower_bounds.proofs.CallerLemmas.{class_there}
use Rattle.iceberg_query.proofs.CallerLemmas.{class_agg}
use Rattle.quotient_lattice.proofs.classes.class_alone.Goals as goal

pub returns-clause-class : goal.returns-clause-class
returns-clause-class g c = λ source h.
    let tree = c.args.tree.now.tree in
    let k = c.args.node.0 in
    let t = class_there tree k c.requires in
    let own : c.upper_into.new.out ≡ (record_at tree k).cell
    = sym (cell_of tree k c.upper_into.new.out c.upper_into.ensures.cell) in
    let total : agg_in c.unwrap-total.result ≡ agg (eq_by_cmp nat_cmp) source.measures source.rows
    (record_at tree k).cell
    = class_agg _ tree source h k t c.unwrap-total.result (ap (option_map agg_in) (sym c.unwrap-total.ensures)
    ∙ c.class.ensures.value) in
    ap₂ (λ (u : Cell ℕ) (a : Agg). let x : ClassHit ℕ = record { upper = u; agg = a; lowers = c.new.result } in
    x) own total
    ∙ ap (λ (ls : List (Cell ℕ)). let x : ClassHit ℕ
    = record {
      upper = (record_at tree k).cell;
      agg
          = agg (eq_by_cmp nat_cmp) source.measures source.rows (record_at tree k).cell;
      lowers = ls;
    } in x) c.new.ensures
