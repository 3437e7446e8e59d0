-- The lemmas that other crates cite.
pub use Rattle.quotient_lattice.proofs.DecodedAlone.{alone_tellable, alone_told}
pub use Rattle.quotient_lattice.proofs.RowCosts.{way_is}
