use Rattle.aggregates.proofs.Places.{AtPlace}
use Rattle.aggregates.proofs.read.read_places.Given as goal

abbrev pub invariant-places : goal.invariant-places
invariant-places l = AtPlace l.scale l.text l.byte-index l.value l.unit
