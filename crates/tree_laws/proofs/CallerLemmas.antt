-- The lemmas that other crates cite.
pub use Rattle.tree_laws.proofs.Lists.{among_range, cell_record, first_of_range, not_any, some_same, some_there, there}
pub use Rattle.tree_laws.proofs.Prefixes.{any_after, any_below, cell_prefix-beyond, cell_prefix-cell_prefix, cell_prefix-meet}
pub use Rattle.tree_laws.proofs.Prefixes.{cell_prefix-with_value, cut_some, depth-any, depth-cell_prefix-le, depth-with_value, flat_is}
pub use Rattle.tree_laws.proofs.Prefixes.{get-cell_prefix, leq-with_value, shallower, split_last, upto-entry, upto-none, with_value-leq}
pub use Rattle.tree_laws.proofs.Prefixes.{with_value-there}
pub use Rattle.tree_laws.proofs.Nexts.{before-next, cell_prefix-between, cell_prefix-next, next-chain, next-entry, next-ge, next-le}
pub use Rattle.tree_laws.proofs.Nexts.{next-none, next-suc}
pub use Rattle.tree_laws.proofs.Leads.{lead-insert, lead_chain, lead_less, lead_none, lead_other, lead_own, led_from, upto-meet_after}
pub use Rattle.tree_laws.proofs.Edges.{edges-are, forced_lead, only_forced}
pub use Rattle.tree_laws.proofs.Children.{child-is, child_before, lead_above, lead_node, node_above, node_prefixes}
pub use Rattle.tree_laws.proofs.Apart.{record_stays}
pub use Rattle.tree_laws.proofs.Records.{record_closure, record_edges, record_rises, record_with, target_node}
pub use Rattle.tree_laws.proofs.OneRow.{chain_node}
pub use Rattle.tree_laws.proofs.Steps.{walk_on-renamed}
pub use Rattle.tree_laws.proofs.Walks.{no_root, record_read, walk_found, walk_step}
pub use Rattle.tree_laws.proofs.RowsLess.{no_further}
pub use Rattle.tree_laws.proofs.Sums.{EachOnce, covered_once, once_filter, once_map, rises_once, sum_alike, sum_by-map, sum_ones, sum_same}
pub use Rattle.tree_laws.proofs.Sums.{sum_within}
pub use Rattle.tree_laws.proofs.Entries.{at_tie, entries_once, entry_get, get_entry, last_part}
pub use Rattle.tree_laws.proofs.Counted.{classes_counted, links_counted, nodes_counted, tree_edges_counted}
pub use Rattle.tree_laws.proofs.EdgesRise.{edges_rise, rises_append}
pub use Rattle.tree_laws.proofs.Recoded.{with_value-coded}
pub use Rattle.tree_laws.proofs.RecodedCounts.{classes_as_many, links_as_many, nodes_as_many, tree_edges_as_many}
pub use Rattle.tree_laws.proofs.Climbs.{Shows, class_is, from_on, from_zero, label_none, label_some, node_wide, parent_is, root_parent}
pub use Rattle.tree_laws.proofs.Climbs.{shows_all, shows_first, shows_more}
pub use Rattle.tree_laws.proofs.LowerBounds.{below-is, below_rises, lower_bounds-below}
pub use Rattle.tree_laws.proofs.LowersRecoded.{lowers-coded, lowers-known, wide-coded}
pub use Rattle.tree_laws.proofs.MoreCounts.{nodes_no_fewer}
pub use Rattle.tree_laws.proofs.TreeEdges.{one_tree}
pub use Rattle.tree_laws.proofs.Targets.{target-renamed, target_none, target_some}
pub use Rattle.tree_laws.proofs.EdgeLists.{Ascends, HasLabelOf, IsBefore, before_apart, edges_same}
