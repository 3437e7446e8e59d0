-- What a file is read for is one of three.
use Rattle.std.proofs.Common.{◌≡◌, refl, Ok, Err}
use Rattle.std.specs.Prelude.{OnErr, Result}
use Rattle.pinned_view.specs.Versions.{ShowsSame, Versions}
use Rattle.warehouse.specs.Batch as batches
use Rattle.qc_session.specs.declared.answer.FileUse.TheVariants as kinds

pub load-no-try : {P : Type 0} → kinds.Load ≡ kinds.Try → P
load-no-try is = absurd cc

pub apply-no-try : {P : Type 0} → kinds.Apply ≡ kinds.Try → P
apply-no-try is = absurd cc

pub load-no-apply : {P : Type 0} → kinds.Load ≡ kinds.Apply → P
load-no-apply is = absurd cc

pub try-no-apply : {P : Type 0} → kinds.Try ≡ kinds.Apply → P
try-no-apply is = absurd cc

pub loaded-no-applied : {P : Type 0} → batches.Load ≡ batches.Apply → P
loaded-no-applied is = absurd cc

-- versions that stay show the same
pub shows-itself : {T E : Type 0} (r : Result T E) (old new : Versions) → new ≡ old → OnErr r (ShowsSame old new)
shows-itself (Ok x) old new same = tt
shows-itself (Err e) old new same = rw same refl
