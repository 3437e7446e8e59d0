use Rattle.std.proofs.Common.{◌≡◌, sym, refl, true, Some}
use Rattle.std.specs.Prelude.{option_map}
use Rattle.std.specs.Result.{result_ok}
use Rattle.qc_schema.specs.Schema.{is_name}
use Rattle.qc_schema.proofs.Naming.{name-utf8, text-known}
use Rattle.qc_schema.proofs.words.name_in.Goals as goal

pub returns : goal.returns
returns c =
    let good : is_name c.args.word.now ≡ true = sym c.if-not-is_good_name.ensures in
    let read : option_map (λ s. s.now) (result_ok c.from_utf8.result) ≡ Some c.args.word.now
    = text-known c.from_utf8.result c.args.word.now _ c.from_utf8.ensures.cases (name-utf8 c.args.word.now good) in
    rw (c.ok.ensures.value, read, good) refl
