-- The lemmas that other crates cite.
pub use Rattle.cube_laws.proofs.Lists.{all-insert, all_among, all_append, all_at, all_from, all_map, all_passed, all_prefix, always}
pub use Rattle.cube_laws.proofs.Lists.{among-length, among-reordered, among_all, among_append, among_contains, among_filter}
pub use Rattle.cube_laws.proofs.Lists.{among_filter_map, among_flat_map, among_get, among_insert, among_left, among_map, contains_among}
pub use Rattle.cube_laws.proofs.Lists.{filter-le, filter_all, filter_among, filter_filter, filter_none, filter_same, get_among, got}
pub use Rattle.cube_laws.proofs.Lists.{item_at, map-filter, map_among, map_same, none_some, some_of, take_all, to_filter}
pub use Rattle.cube_laws.proofs.Numbers.{few_rise, filter_range_more, greater_above, less_below, nat_anti, nat_or_not, nat_total, square}
pub use Rattle.cube_laws.proofs.Numbers.{ten-pos, three_ways, times_mono}
pub use Rattle.cube_laws.proofs.Distinct.{among_distinct, below_all-by_order, insert_sorted-by, put_by, rises-map, rises_distinct}
pub use Rattle.cube_laws.proofs.Distinct.{rises_same, rises_same-by_turn, self_less}
pub use Rattle.cube_laws.proofs.Orders.{code_equality, eq_cmp, equality_by, is_equal, leq_is, nat_eq-turned, one_test, then_equal}
pub use Rattle.cube_laws.proofs.Cells.{IsEquality, cell_eq-exact, cell_eq-from, cell_eq-same, cell_prefix-depth}
pub use Rattle.cube_laws.proofs.Cells.{cell_prefix-depth_cell_prefix, cell_prefix-leq, cell_prefix_mono, cell_prefix_zero}
pub use Rattle.cube_laws.proofs.Cells.{depth-cell_prefix_zero, depth-le, length-cell_of, length-cell_prefix, length-meet, leq_antisymm}
pub use Rattle.cube_laws.proofs.Cells.{leq_refl, leq_trans, meet_comm, meet_great, meet_of_leq, meet_right, nat_equality, one_deeper-le}
pub use Rattle.cube_laws.proofs.Closures.{agg_same, all_cells, closure-cells, closure_covers, closure_idem, closure_mono, closure_some}
pub use Rattle.cube_laws.proofs.Closures.{cov-closure, is_class-is, leq-closure, meet_after_below, meet_after_rest, meet_all_above}
pub use Rattle.cube_laws.proofs.Closures.{meet_all_below, option_eq-is}
pub use Rattle.cube_laws.proofs.Columns.{closure-entry, closure-some, entry_of_leq, one_value, one_value-leq, slice_get-cell_of}
pub use Rattle.cube_laws.proofs.Columns.{value_above}
pub use Rattle.cube_laws.proofs.Covered.{cell_anti, cell_total, closure_length, covered-is, covered_rises, covered_some, some_covered}
pub use Rattle.cube_laws.proofs.Shared.{HaveDims, IsShared, closure-shared, cov-shared, entry, got_entry, length-shared, same_entries}
pub use Rattle.cube_laws.proofs.Shared.{shared-entry, shared_covers, shared_some}
pub use Rattle.cube_laws.proofs.Nodes.{class_prefixes, is_node-is, node_closed, nodes-is, prefix_of_class}
pub use Rattle.cube_laws.proofs.Listed.{classes-is, classes_rise, covered-length, rises-filter}
pub use Rattle.cube_laws.proofs.SameRows.{closure_by_tuples, node_by_tuples}
pub use Rattle.cube_laws.proofs.Totals.{IsAddition, total-push, total-split}
pub use Rattle.cube_laws.proofs.RowTotals.{agg-reordered, agg_total, aggs_add, cells_add, part-agg_of, row_agg}
pub use Rattle.cube_laws.proofs.Partition.{alone, covers_with, has_same, leq_with_any}
pub use Rattle.cube_laws.proofs.LastAny.{tuple_or_last_any}
pub use Rattle.cube_laws.proofs.OneRow.{agg-insert_alone, agg-insert_more, below_row, class-insert, closure-insert, closure_grows}
pub use Rattle.cube_laws.proofs.OneRow.{closure_stays, cov_stays, covered-insert, greatest_left, least_left, node-insert, node_stays}
pub use Rattle.cube_laws.proofs.OneRow.{sum_left}
pub use Rattle.cube_laws.proofs.Deletion.{agg_after, agg_by, closure_after, closure_by, cov_after, other_below, step_above, step_exists}
pub use Rattle.cube_laws.proofs.Counts.{cov_above, leq_entry, no_new}
pub use Rattle.cube_laws.proofs.Witness.{count_one_less, own_is_gone}
pub use Rattle.cube_laws.proofs.Recoded.{cell_eq-coded, closure-coded, coded-apart, known-closure, leq-coded, option_eq-coded}
pub use Rattle.cube_laws.proofs.RecodedRows.{agg-coded, agg_of-coded, cell_prefix-coded, cov-coded, depth-coded, is_lower_bound-coded}
pub use Rattle.cube_laws.proofs.RecodedRows.{is_node-coded, known-cell_prefix, length-coded}
pub use Rattle.cube_laws.proofs.RecodedLists.{classes-coded, known-below, known-closed, known-covered, nodes-coded, range-known}
pub use Rattle.cube_laws.proofs.Icebergs.{asked-is, hit_of}
pub use Rattle.cube_laws.proofs.IcebergOrder.{iceberg-only, then_turn}
pub use Rattle.cube_laws.proofs.Divisors.{gcd-is, lowest_terms-coprime, lowest_terms-positive, lowest_terms-value, mul-mul, nat_abs-neg}
pub use Rattle.cube_laws.proofs.FractionOrder.{falling_total, less_is, mono, more_is, swap, value_total}
