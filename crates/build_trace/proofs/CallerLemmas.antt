-- The lemmas that other crates cite.
pub use Rattle.build_trace.proofs.Prefixes.{cell_prefix_all, cell_prefix_next, cell_prefix_still, entry_cell_prefix, leq_entry, zero_prefix}
pub use Rattle.build_trace.proofs.Parting.{code_among, has_code, part_entry, shared_among}
pub use Rattle.build_trace.proofs.Steps.{adds_append}
pub use Rattle.build_trace.proofs.Following.{IsPut, follow_add, follow_label, follow_mark, follow_none, none_canonical}
pub use Rattle.build_trace.proofs.Fresh.{add_bare, add_fresh}
pub use Rattle.build_trace.proofs.Wanted.{act_node, adds_count, followed, go_down, link_ready, more_nodes, put_last}
