use Rattle.aggregates.proofs.Values.{places-number}
use Rattle.aggregates.proofs.laws.places_are_a_number.Goals as goal

pub returns : goal.returns
returns c = places-number
