use Rattle.std.proofs.Common.{◌≡◌, ◌<◌, take}
use Rattle.base_table.specs.Store.{fingerprint}
use Rattle.base_table.specs.declared.fingerprints.TheConstants.{PRIME}
use Rattle.base_table.proofs.fingerprints.Fingerprinter.of.Given as goal

abbrev pub invariant-entries : goal.invariant-entries
invariant-entries l = record {
  made : l.print ≡ fingerprint l.self.multiplier (take l.dim l.tuple);
  small : l.print < PRIME;
}
