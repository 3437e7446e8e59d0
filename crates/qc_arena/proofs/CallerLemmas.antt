-- The lemmas that other crates cite.
pub use Rattle.qc_arena.proofs.ArenaSteps.{can_again}
pub use Rattle.qc_arena.proofs.Counting.{both-kinds}
pub use Rattle.qc_arena.proofs.Imaged.{get-over}
pub use Rattle.qc_arena.proofs.ImagesOver.{or_twice, over_both}
pub use Rattle.qc_arena.proofs.TotalsSteps.{none_there, some_map}
pub use Rattle.qc_arena.proofs.Labels.{all_at, drop_none, lt_apart, lt_apart_back, rises-put}
pub use Rattle.qc_arena.proofs.Shown.{length-first}
pub use Rattle.qc_arena.proofs.Pairs.{pushed, pushed_new, pushed_old}
pub use Rattle.qc_arena.proofs.SlotMaps.{none_found}
pub use Rattle.qc_arena.proofs.EdgesPut.{put_here, put_stays}
