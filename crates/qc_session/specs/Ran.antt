-- What a run promises, whatever the form of its words.
use Rattle.std.specs.Prelude.{◌≡◌, ◌⊎◌, ◌↔◌, ℕ, true, List, [], take, Option, Some, None, IfSome, IsNone, IsTrue, MatchOption, is_some}
use Rattle.generated_run.specs.Generated.{generated_record, generated_state}
use Rattle.qc_io.specs.Outside.{IsOpenAs, with_taken}
use Rattle.warehouse.specs.State.{AreContents}
use Rattle.qc_session.specs.Ends.{FilesFailed, FilesOver, SinkFailed, SinkOver, Reports, TookNothing}
use Rattle.qc_session.specs.Forms.{Form, IfGen, IfPack, IfRun}
use Rattle.qc_session.specs.Lines.{script_lines}
use Rattle.qc_session.specs.Packs.{IsPackRefused, IsPackUnrefused, Packed, PackedPrefix}
use Rattle.qc_session.specs.Runs.{AllFilesKnown, AreSkipped, BrokenOff, CannotRead, CannotWrite, Cause, Finished, IsRefused, IsScriptStatus}
use Rattle.qc_session.specs.Runs.{IsStatus, IsUnrefused, OutOfMemory, Unread, Usage, state_in}
use Rattle.qc_session.specs.declared.scripts.Outcome.{Outcome}

-- The words had this form. The last three facts before the outcome say that the files, out and err are as they were.
pub record Ran (form : Option Form) (files : FilesOver) (out err : SinkOver) (Unopened Unwritten Silent : Type 0)
    (outcome : Outcome) : Type 0 where
  pub known : IsStatus outcome.status
  -- status 0: the transcript, whole
  pub transcript : outcome.status ≡ 0 → IfRun form (λ names. IfSome files.told
      (λ t. Finished t names outcome.skipped.items (state_in outcome.end) out.taken_before out.taken_after))
  pub silent : outcome.status ≡ 0 → Silent
  pub ended : outcome.status ≡ 0 → is_some outcome.end ≡ true
  pub held : IfSome outcome.end AreContents
  pub no_end : (outcome.status ≡ 0 → ⊥) → outcome.end ≡ None
  pub skipped : IfRun form (λ names. IfSome files.told
      (λ t. MatchOption (t names.script) (outcome.skipped.items ≡ [])
      (λ script. AreSkipped (script_lines script) outcome.skipped.items)))
  -- status 2: the words
  pub usage : outcome.status ≡ 2 ↔ IsNone form
  pub unopened : outcome.status ≡ 2 → Unopened × Unwritten × (outcome.skipped.items ≡ [])
  pub said_usage : outcome.status ≡ 2 → Reports err Usage
  -- status 3: a fault of the files
  pub read_fault : outcome.status ≡ 3 → FilesFailed files
  pub unread : outcome.status ≡ 3 → IfRun form (λ names. IfSome files.told (λ t. (name : List ℕ)
      × Unread t (IsTrue files.steady) names outcome.skipped.items name out.taken_before out.taken_after
      × Reports err (CannotRead name)))
  -- status 4: a fault of out
  pub write_fault : outcome.status ≡ 4 → SinkFailed out
  pub broken_off : outcome.status ≡ 4 → IfRun form (λ names. IfSome files.told
      (λ t. BrokenOff t names outcome.skipped.items out.taken_before out.taken_after))
  pub said_write : outcome.status ≡ 4 → Reports err CannotWrite
  -- status 5 and 6: nothing was begun
  pub nothing : (outcome.status ≡ 5) ⊎ (outcome.status ≡ 6) → TookNothing out × (outcome.skipped.items ≡ [])
  pub unbegun : outcome.status ≡ 5 → IfRun form (λ names.
      IsOpenAs files.told files.open_after names.first ⊎ IsOpenAs files.told files.open_after names.script)
  pub said_memory : outcome.status ≡ 5 → Reports err OutOfMemory
  pub refused : outcome.status ≡ 6
      → IfRun form (λ names. IfSome files.told (λ t. (cause : Cause) × IsRefused t names cause × Reports err cause))
  -- a refused schema or script ends with 6, unless memory or a fault came first; all else is carried out
  pub refusal : IfRun form (λ names. IfSome files.told (λ t.
      (cause : Cause) → IsRefused t names cause → (outcome.status ≡ 6) ⊎ (outcome.status ≡ 5) ⊎ (outcome.status ≡ 3)))
  pub complete : IfRun form (λ names. IfSome files.told (λ t.
      IsUnrefused t names → (FilesFailed files → ⊥) → (SinkFailed out → ⊥) → (outcome.status ≡ 0)
      ⊎ (outcome.status ≡ 5)))
  pub found : IsTrue files.steady
      → IfRun form (λ names. IfSome files.told (λ t. AllFilesKnown t names → outcome.status ≡ 3 → ⊥))
  pub complete_steady : IsTrue files.steady → IfRun form (λ names. IfSome files.told (λ t.
      AllFilesKnown t names → IsUnrefused t names → (SinkFailed out → ⊥) → (outcome.status ≡ 0) ⊎ (outcome.status ≡ 5)))
  -- `pack SCHEMA SCRIPT`: the snapshot of the state at the script's end
  pub pack_known : IfPack form (λ names. IsScriptStatus outcome.status × (outcome.skipped.items ≡ []))
  pub pack_all : outcome.status ≡ 0 → IfPack form (λ names. IfSome files.told
      (λ t. Packed t names (state_in outcome.end) out.taken_before out.taken_after))
  pub pack_nothing : outcome.status ≡ 3 → IfPack form (λ names. TookNothing out)
  pub pack_unread : outcome.status ≡ 3 → IfPack form (λ names. IfSome files.told (λ t. (name : List ℕ)
      × Unread t (IsTrue files.steady) names [] name None None
      × Reports err (CannotRead name)))
  pub pack_front : outcome.status ≡ 4
      → IfPack form (λ names. IfSome files.told (λ t. PackedPrefix t names out.taken_before out.taken_after))
  pub pack_refused : outcome.status ≡ 6 → IfPack form (λ names. IfSome files.told
      (λ t. (cause : Cause) × IsPackRefused t names cause × Reports err cause))
  pub pack_refusal : IfPack form (λ names. IfSome files.told (λ t. (cause : Cause) → IsPackRefused t names cause
      → (outcome.status ≡ 6) ⊎ (outcome.status ≡ 5) ⊎ (outcome.status ≡ 3)))
  pub pack_complete : IfPack form (λ names. IfSome files.told (λ t.
      IsPackUnrefused t names → (FilesFailed files → ⊥) → (SinkFailed out → ⊥) → (outcome.status ≡ 0)
      ⊎ (outcome.status ≡ 5)))
  pub pack_found : IsTrue files.steady
      → IfPack form (λ names. IfSome files.told (λ t. AllFilesKnown t names → outcome.status ≡ 3 → ⊥))
  pub pack_complete_steady : IsTrue files.steady → IfPack form (λ names. IfSome files.told (λ t.
      AllFilesKnown t names → IsPackUnrefused t names → (SinkFailed out → ⊥) → (outcome.status ≡ 0)
      ⊎ (outcome.status ≡ 5)))
  -- `gen ROWS SEED`: the record of the generated state, and no other status
  pub gen_known : IfGen form (λ drawing. ((outcome.status ≡ 0) ⊎ (outcome.status ≡ 4) ⊎ (outcome.status ≡ 5))
      × (outcome.skipped.items ≡ []))
  pub gen_files : IfGen form (λ drawing. Unopened)
  pub gen_end : outcome.status ≡ 0
      → IfGen form (λ drawing. state_in outcome.end ≡ Some (generated_state drawing.rows drawing.seed))
  pub gen_all : outcome.status ≡ 0
      → IfGen form (λ drawing. out.taken_after ≡ with_taken (generated_record drawing.rows drawing.seed)
      out.taken_before)
  pub gen_front : outcome.status ≡ 4 → IfGen form (λ drawing. (n : ℕ)
      × (out.taken_after ≡ with_taken (take n (generated_record drawing.rows drawing.seed)) out.taken_before))
