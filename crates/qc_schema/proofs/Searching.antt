-- What is found in lists put together.
use Rattle.std.proofs.Common.{◌≡◌, ◌++◌, Bool, List}
use Rattle.std.specs.Prelude.{◌||◌}
use Rattle.std.specs.List.{list_any}
use Rattle.std.proofs.lemmas.List.Folds.{list_any-append}

pub any_append : {X : Type 0} (p : X → Bool) (xs ys : List X) → list_any p (xs ++ ys) ≡ (list_any p xs || list_any p ys)
any_append p xs ys = list_any-append p xs ys
