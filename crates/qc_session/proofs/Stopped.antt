-- What holds of a line that isn't answered, by its command.
use Rattle.std.proofs.Common.{◌≡◌, ◌∙◌, Option, Some, Result, Ok, Err, ap, sym}
use Rattle.std.specs.Prelude.{IfErr, ⊤}
use Rattle.cube_defs.specs.Text.{Text}
use Rattle.qc_session.specs.Stops.{MatchLineStop}
use Rattle.qc_session.specs.declared.answer.LineStop.{LineStop}
use Rattle.qc_session.specs.declared.answer.LineStop.TheVariants as stops

pub fault-alone : (stop : LineStop) (F : Type 0) (named : Option Text)
    → MatchLineStop stop ⊤ (λ file. (named ≡ Some file) × F) → MatchLineStop stop ⊤ (λ file. F)
fault-alone stops.Memory F named h = tt
fault-alone (stops.Fault name) F named h = h.1

pub line-skips : {T : Type 0} (r : Result T LineStop) (Wanted Wanted2 F : Type 0) (named named2 : Option Text)
    → (Wanted → Wanted2) → named2 ≡ named → IfErr r (λ stop. MatchLineStop stop Wanted (λ file. ⊤))
    → IfErr r (λ stop. MatchLineStop stop ⊤ (λ file. (named ≡ Some file) × F))
    → IfErr r (λ stop. MatchLineStop stop Wanted2 (λ file. named2 ≡ Some file))
line-skips (Ok x) Wanted Wanted2 F named named2 wider same memory fault = tt
line-skips (Err stops.Memory) Wanted Wanted2 F named named2 wider same memory fault = wider memory
line-skips (Err (stops.Fault name)) Wanted Wanted2 F named named2 wider same memory fault = same ∙ fault.0

-- of a line that names a file
pub memory-wanted : {T : Type 0} (r : Result T LineStop) (Wanted : Type 0) → Wanted
    → IfErr r (λ stop. MatchLineStop stop Wanted (λ file. ⊤))
memory-wanted (Err stops.Memory) Wanted wanted = wanted
memory-wanted _ Wanted wanted = tt

pub fault-named : {T : Type 0} (r : Result T LineStop) (name : Text) (F : Type 0)
    → IfErr r (λ stop. MatchLineStop stop ⊤ (λ file. (file ≡ name) × F))
    → IfErr r (λ stop. MatchLineStop stop ⊤ (λ file. (Some name ≡ Some file) × F))
fault-named (Err (stops.Fault file)) name F h = (ap (λ (text : Text). Some text) (sym h.0), h.1)
fault-named _ name F h = tt
