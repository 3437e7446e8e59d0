use Rattle.std.proofs.Common.{refl}
use Rattle.worked_runs.proofs.forms.greatest_numbers.Goals as goal

pub returns : goal.returns
returns c = λ word rows seed is_word is_rows is_seed. rw (is_word, is_rows, is_seed) refl
