use Rattle.std.proofs.Common.{◌≡◌, ◌∙◌, ℕ, Some, ap, arith, length, nat_cmp, slice_get, sym}
use Rattle.std.specs.Option.{option_copied, option_map}
use Rattle.std.specs.Ordering.{eq_by_cmp}
use Rattle.aggregates.specs.Views.{agg_in}
use Rattle.cube_defs.specs.Cell.{Cell}
use Rattle.cube_defs.specs.Rows.{cov}
use Rattle.cube_laws.specs.Total.{agg_at}
use Rattle.cube_laws.proofs.CallerLemmas.{count_one_less, slice_get-cell_of, some_of}
use Rattle.batch_delete.specs.declared.parts.Rest.{Rest}
use Rattle.batch_delete.specs.DeletedRow.{MaySettle}
use Rattle.batch_delete.specs.Rests.{rows_before}
use Rattle.batch_delete.proofs.Counted.{counted, counted_at}
use Rattle.batch_delete.proofs.Labelled.{law}
use Rattle.batch_delete.proofs.Settled.{class_stays}
use Rattle.batch_delete.proofs.stays.settled.Goals as goal

pub returns : goal.returns
returns g c =
    let a = c.args.class.now.row.now.arena.now in
    let u = c.args.class.now.cell.now in
    let above = (some_of (λ (rest : Rest). MaySettle g.d u rest) (option_copied c.args.some) c.in-Some.rest.now
    (ap option_copied c.in-Some.is)
    c.requires.rest).above in
    let stays = class_stays a.width a.now g.d c.requires.known.gone.tree u c.in-Some.rest.now.shared c.requires.known.long
    c.requires.known.is.below c.requires.known.is.own above (λ k v any has.
    (slice_get-cell_of g.d.r.tuple k v).0 (ap (λ (c : Cell ℕ). slice_get c k) (sym c.requires.known.gone.tuple)
    ∙ c.is_settled.ensures c.if-not-is_settled.false k v any has)) in
    record { rest = record { cells = ap (λ c. Some c) c.copy-2.ensures.value ∙ sym stays; aggs = c.agg_without_row.ensures } }

pub returns-then-are_all_but_one : goal.returns-then-are_all_but_one
returns-then-are_all_but_one g c =
    let u = c.args.class.now.cell.now in
    let all = (some_of (λ (rest : Rest). MaySettle g.d u rest) (option_copied c.args.some) c.in-Some.rest.now
    (ap option_copied c.in-Some.is)
    c.requires.rest).all in
    let found = c.are_all_but_one.ensures c.if-are_all_but_one.true in
    let whole : Some (agg_in found.0) ≡ agg_at (eq_by_cmp nat_cmp) g.d.measures (rows_before g.d) u
    = ap (option_map agg_in) (sym found.1) ∙ c.requires.known.whole in
    let many : found.0.count ≡ length (cov (eq_by_cmp nat_cmp) (rows_before g.d) u) = ap counted whole
    ∙ counted_at g.d.measures (rows_before g.d) u in
    let less = count_one_less law g.d.xs g.d.r g.d.ys u c.requires.known.is.below in
    let one = found.2 in
    record {
      rest = rw c.copy.ensures (all (omega arith));
    }
