use Rattle.value_dict.proofs.Dictionaries.{came_and_gone}
use Rattle.value_dict.proofs.law.an_added_dimension_is_dropped.Goals as goal

pub returns : goal.returns
returns c = came_and_gone
