-- The lemmas that other crates cite.
pub use Rattle.measure_index.proofs.Classes.{index_alike, nodes_once, ranking_found, scale_found}
pub use Rattle.measure_index.proofs.Measured.{kinds_kept}
pub use Rattle.measure_index.proofs.Units.{units-empty}
