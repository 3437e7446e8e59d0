-- The lemmas that other crates cite.
pub use Rattle.aggregates.proofs.Ratios.{lowest_terms-ratio, order-over, small-product}
pub use Rattle.aggregates.proofs.Digits.{ten-pos}
pub use Rattle.aggregates.proofs.Together.{agg_of-append, agg_of-one}
