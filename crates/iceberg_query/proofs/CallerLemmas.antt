-- The lemmas that other crates cite.
pub use Rattle.iceberg_query.proofs.Measured.{are_measured, measure_read}
pub use Rattle.iceberg_query.proofs.Measures.{class_agg, there_is_measure, wanted_is}
pub use Rattle.iceberg_query.proofs.Bounded.{class_there}
pub use Rattle.iceberg_query.proofs.Sorted.{among_permutation, flips, once_permutation, sorted_rises}
pub use Rattle.iceberg_query.proofs.Index.{class_same}
pub use Rattle.iceberg_query.proofs.Walked.{below_more, from_edge, target_there}
pub use Rattle.iceberg_query.proofs.Reached.{below_begins}
pub use Rattle.iceberg_query.proofs.WalkCosts.{each_once, edges_are}
pub use Rattle.iceberg_query.proofs.DistinctClasses.{all_below, below_once}
