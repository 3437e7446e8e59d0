-- How a script ended, over the names that the run has for it.
use Rattle.std.proofs.Common.{◌≡◌, ◌≤◌, ◌∙◌, ℕ, List, [], Option, Some, None, IfSome, sym, inl, inr, arith, length}
use Rattle.std.specs.Prelude.{MatchOption, Ok, Err}
use Rattle.cube_defs.specs.declared.limits.TheConstants.{MAX_FILE}
use Rattle.qc_io.specs.Outside.{Rose, FileContents}
use Rattle.warehouse.specs.State.{State}
use Rattle.qc_session.specs.Forms.{FileNames, FromSchema, FromSnapshot, Source}
use Rattle.qc_session.specs.Lines.{script_lines}
use Rattle.qc_session.specs.Runs.{AreSkipped, Begins, BeginsNot, CannotRead, Cause, Finished, IsLong, IsRefused, IsScriptOf, IsStartOf}
use Rattle.qc_session.specs.Runs.{IsUnrefused, HasReported, StoppedAt, StoppedWriting, WroteAll}

pub all-ended : (told : Option FileContents) (start start2 : State) (skipped skipped2 : List ℕ)
    (lines lines2 : List (List ℕ)) (end end2 : Option State) (before now : Option (List ℕ))
    → start2 ≡ start → skipped2 ≡ skipped → lines2 ≡ lines → end2 ≡ end
    → IfSome told (λ t. WroteAll t start2 skipped lines2 end before now)
    → IfSome told (λ t. WroteAll t start skipped2 lines end2 before now)
all-ended None start start2 skipped skipped2 lines lines2 end end2 before now s k l e h = tt
all-ended (Some t) start start2 skipped skipped2 lines lines2 end end2 before now s k l e h = rw (sym s, k, sym l, e) h

pub read-ended : (name : List ℕ) (told : Option FileContents) (sure rose : Type 0) (start start2 : State)
    (skipped skipped2 : List ℕ) (lines lines2 : List (List ℕ)) (cause : Cause) (before now err err2 : Option (List ℕ))
    → start2 ≡ start → skipped2 ≡ skipped → lines2 ≡ lines → cause ≡ CannotRead name
    → IfSome told (λ t. StoppedAt t sure start2 skipped lines2 name before now) → HasReported rose cause err err2
    → IfSome told (λ t. (n : List ℕ) × StoppedAt t sure start skipped2 lines n before now
    × HasReported rose (CannotRead n) err err2)
read-ended name None sure rose start start2 skipped skipped2 lines lines2 cause before now err err2 s k l c h said = tt
read-ended name (Some t) sure rose start start2 skipped skipped2 lines lines2 cause before now err err2 s k l c h said
    = (name, rw (sym s, k, sym l) h, rw c at said)

pub broken-ended : (told : Option FileContents) (start start2 : State) (skipped skipped2 : List ℕ)
    (lines lines2 : List (List ℕ)) (before now : Option (List ℕ)) → start2 ≡ start → skipped2 ≡ skipped → lines2 ≡ lines
    → IfSome told (λ t. StoppedWriting t start2 skipped lines2 before now)
    → IfSome told (λ t. StoppedWriting t start skipped2 lines before now)
broken-ended None start start2 skipped skipped2 lines lines2 before now s k l h = tt
broken-ended (Some t) start start2 skipped skipped2 lines lines2 before now s k l h = rw (sym s, k, sym l) h

pub finished-run : (told : Option FileContents) (names : FileNames) (start : State) (script skipped : List ℕ)
    (end : Option State) (before now : Option (List ℕ)) → IfSome told (λ t. IsStartOf t names start)
    → IfSome told (λ t. IsScriptOf t names.script script)
    → IfSome told (λ t. WroteAll t start skipped (script_lines script) end before now)
    → IfSome told (λ t. Finished t names skipped end before now)
finished-run None names start script skipped end before now is is_script wrote = tt
finished-run (Some t) names start script skipped end before now is is_script wrote
    = record { start = start; script = script; start_read = is; script_read = is_script; wrote = wrote }

pub skipped-run : (told : Option FileContents) (names : FileNames) (script skipped : List ℕ)
    → IfSome told (λ t. IsScriptOf t names.script script) → AreSkipped (script_lines script) skipped
    → IfSome told (λ t. MatchOption (t names.script) (skipped ≡ []) (λ bytes. AreSkipped (script_lines bytes) skipped))
skipped-run None names script skipped is_script are = tt
skipped-run (Some t) names script skipped is_script are = rw is_script.is_told are

-- no bytes tell a start and tell none
not-both : (source : Source) (bytes : List ℕ) (start : State) (cause : Cause) → Begins source bytes start
    → BeginsNot source bytes cause → ⊥
not-both FromSchema bytes start cause (schema, is, same) (fault, is_not, why) = differ (sym is ∙ is_not)
  where
    differ : Ok schema ≡ Err fault → ⊥
    differ e = cc
not-both FromSnapshot bytes start cause (is, valid) (none, why) = none start valid is

-- a file that is no longer than it may be isn't longer
not-long : (t : FileContents) (name bytes : List ℕ) (cause : Cause) → t name ≡ Some bytes → length bytes ≤ MAX_FILE
    → IsLong t name cause → ⊥
not-long t name bytes cause is within long = let more = rw is at long.0 in omega (arith, more, within)

pub unrefused : (t : FileContents) (names : FileNames) (start : State) (script : List ℕ) → IsStartOf t names start
    → IsScriptOf t names.script script → IsUnrefused t names
unrefused t names start script is is_script cause (inl long)
    = not-long t names.first is.bytes cause is.is_told is.within long
unrefused t names start script is is_script cause (inr (inl none)) = let why = rw is.is_told at none in
    not-both names.source is.bytes start cause is.begins why.1
unrefused t names start script is is_script cause (inr (inr (other, other_is, long)))
    = not-long t names.script script cause is_script.is_told is_script.within long

pub refusal-run : (told : Option FileContents) (names : FileNames) (start : State) (script : List ℕ) (ends : Type 0)
    → IfSome told (λ t. IsStartOf t names start) → IfSome told (λ t. IsScriptOf t names.script script)
    → IfSome told (λ t. (cause : Cause) → IsRefused t names cause → ends)
refusal-run None names start script ends is is_script = tt
refusal-run (Some t) names start script ends is is_script
    = λ cause refused. absurd (unrefused t names start script is is_script cause refused)

pub rose-later : (first before now : ℕ) → first ≤ before → Rose before now → Rose first now
rose-later first before now le h = omega (arith, le, h)
