use Rattle.cube_laws.proofs.Divisors.{lowest_terms-coprime, lowest_terms-positive, lowest_terms-value}
use Rattle.cube_laws.proofs.fractions.lowest_terms_are_lowest.Goals as goal

pub returns-clause-same_value : goal.returns-clause-same_value
returns-clause-same_value c = lowest_terms-value

pub returns-clause-positive : goal.returns-clause-positive
returns-clause-positive c = lowest_terms-positive

pub returns-clause-lowest : goal.returns-clause-lowest
returns-clause-lowest c = lowest_terms-coprime
