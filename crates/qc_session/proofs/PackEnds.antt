-- How the parts of a run for a snapshot end it.
use Rattle.std.proofs.Common.{◌≡◌, ◌∙◌, ℕ, Bool, List, [], map, Option, Some, None, IfSome, IsTrue, refl, sym, subst}
use Rattle.std.specs.Prelude.{⊤}
use Rattle.qc_io.specs.Outside.{Cursor, FileContents}
use Rattle.warehouse.specs.State.{State}
use Rattle.text_lines.specs.Lines.{without_mark}
use Rattle.qc_session.specs.Ends.{FilesFailed, FilesOver, PackEnds, PackScriptEnds, SinkOver, SnapshotEnds, Reports, TookNothing}
use Rattle.qc_session.specs.Ends.{files_over, sink_over}
use Rattle.qc_session.specs.Forms.{FileNames}
use Rattle.qc_session.specs.Lines.{lines_of, script_lines, without_cr}
use Rattle.qc_session.specs.Reading.{FilesStay}
use Rattle.qc_session.specs.Runs.{CannotRead, Cause, IsScriptOf, IsStartOf, NotBegun, OutOfMemory, StoppedAt, WroteAll, state_in, status_of}
use Rattle.qc_session.specs.Quiet.{IfQuietStop}
use Rattle.qc_session.specs.declared.quiet.SilentStop.{SilentStop}
use Rattle.qc_session.specs.declared.quiet.SilentStop.TheVariants as stops
use Rattle.qc_session.specs.declared.scripts.Outcome.{Outcome}
use Rattle.qc_session.proofs.Ended.{read-ended, rose-later}
use Rattle.qc_session.proofs.Ends.{bare-lines, by-file, by-memory, memory-only, no-end, no-write}
use Rattle.qc_session.proofs.Packed.{led-to, packed-prefix, packed-long, packed-refusal, packed-refused, packed-run, snapshot-all}
use Rattle.qc_session.proofs.Packed.{snapshot-prefix, snapshot-long}
use Rattle.qc_session.proofs.Refusals.{begun-refusal, begun-refused, begun-status, begun-unread, unread-line}

module _ {start : State} {script : List ℕ} {files : FilesOver} {out err : SinkOver} {Silent : Type 0}
    {o : Outcome} where
  pub pack-memory : TookNothing out → o.status ≡ 5 → o.skipped.items ≡ [] → Reports err OutOfMemory
      → PackScriptEnds start script files out err Silent o
  pack-memory nothing is none said = record { skipped = none; by = by-memory is (nothing, said) }

  pub pack-led : (start2 : State) (bare : List ℕ) (state state2 : State) → bare ≡ without_mark script → start2 ≡ start
      → state2 ≡ state
      → IfSome files.told (λ t. WroteAll t start2 [] (map without_cr (lines_of bare)) (Some state) None None)
      → SnapshotEnds state2 out err Silent o → PackScriptEnds start script files out err Silent o
  pack-led start2 bare state state2 bare_is start_is state_is wrote h =
      let lines = script_lines script in
      let leads = led-to files.told start start2 lines (map without_cr (lines_of bare)) state state2 start_is
      (bare-lines script bare bare_is) state_is wrote in
      record {
        skipped = h.skipped;
        by = record {
          known = h.by.known;
          at_end = λ e. let w = h.by.at_end e in (
            snapshot-all files.told start lines state2 (state_in o.end) out.taken_before out.taken_after leads w.0
                w.1 w.2,
            w.3,
          );
          at_file = λ e. absurd (h.by.at_file e);
          at_write = λ e. let w = h.by.at_write e in
              (w.1, snapshot-prefix files.told start lines state2 out.taken_before out.taken_after leads w.0 w.2, w.3);
          at_memory = h.by.at_memory;
          at_refusal = λ e. let w = h.by.at_refusal e in
              (w.1, snapshot-long files.told start lines state2 leads w.0, w.2);
        };
      }

  pack-unread : (name : List ℕ) (start2 : State) (bare : List ℕ) (cause : Cause) → bare ≡ without_mark script
      → start2 ≡ start → TookNothing out → o.status ≡ 3 → o.skipped.items ≡ [] → FilesFailed files
      → IfSome files.told (λ t. StoppedAt t (IsTrue files.steady) start2 []
      (map without_cr (lines_of bare)) name None None)
      → cause ≡ CannotRead name → Reports err cause → PackScriptEnds start script files out err Silent o
  pack-unread name start2 bare cause bare_is start_is nothing is none failed stopped cause_is said = record {
    skipped = none;
    by = by-file is (
      nothing,
      failed,
      read-ended name files.told (IsTrue files.steady) _ start start2 [] [] (script_lines script)
          (map without_cr (lines_of bare)) cause None None err.taken_before err.taken_after start_is refl
          (bare-lines script bare bare_is) cause_is stopped said,
    );
  }

  pub pack-stopped : (stop : SilentStop) (start2 : State) (bare : List ℕ) → bare ≡ without_mark script → start2 ≡ start
      → TookNothing out → o.skipped.items ≡ []
      → IfQuietStop stop (λ name. FilesFailed files
      × IfSome files.told (λ t. StoppedAt t (IsTrue files.steady) start2 []
      (map without_cr (lines_of bare)) name None None)) ⊤
      → IfQuietStop stop (λ name. (o.status ≡ 3) × Reports err (CannotRead name)) ((o.status ≡ 5)
      × Reports err OutOfMemory)
      → PackScriptEnds start script files out err Silent o
  pack-stopped (stops.Read name) start2 bare bare_is start_is nothing none h said
      = pack-unread name start2 bare (CannotRead name) bare_is start_is nothing said.0 none h.0 h.1 refl said.1
  pack-stopped stops.Memory start2 bare bare_is start_is nothing none h said = pack-memory nothing said.0 none said.1

module _ {names : FileNames} {told : Option FileContents} {steady : Bool} {first last : ℕ}
    {cursor cursor2 : Option Cursor} {Silent : Type 0} {o : Outcome} where
  pub pack-unbegun : {faults faults2 : ℕ} {bytes : Option (List ℕ)} {err : SinkOver} (cause : Cause)
      → (let files = files_over told steady first last cursor cursor2 in
      NotBegun told names (FilesFailed files) (IsTrue steady) cause)
      → o.status ≡ status_of cause → o.skipped.items ≡ [] → Reports err cause
      → PackEnds names (files_over told steady first last cursor cursor2)
      (sink_over faults faults2 bytes bytes) err Silent o
  pack-unbegun {bytes = bytes} {err = err} cause h is none said = record {
    skipped = none;
    refusal = begun-refusal told names _ _ cause o.status _ h is;
    by = record {
      known = begun-status told names _ _ cause o.status h is;
      at_end = λ e. absurd (no-end (status_of cause) h.known (sym is ∙ e));
      at_file = λ e. (
        refl,
        h.rose (sym is ∙ e),
        begun-unread told names _ _ _ cause [] None err.taken_before err.taken_after h (sym is ∙ e) refl said,
      );
      at_write = λ e. absurd (no-write (status_of cause) h.known (sym is ∙ e));
      at_memory = λ e. (refl, rw (memory-only cause (sym is ∙ e)) at said);
      at_refusal = λ e. (
        refl,
        packed-refused told names _ (begun-refused told names _ _ _ cause err.taken_before err.taken_after h
            (sym is ∙ e) said),
      );
    };
  }

  pub pack-begun : {told2 : Option FileContents} {steady2 : Bool} {mid : ℕ} {middle : Option Cursor}
      {out err : SinkOver} {start : State} {script : List ℕ}
      → FilesStay first mid told told2 steady steady2 → IfSome told (λ t. IsStartOf t names start)
      → IfSome told (λ t. IsScriptOf t names.script script)
      → PackScriptEnds start script (files_over told2 steady2 mid last middle cursor2) out err Silent o
      → PackEnds names (files_over told steady first last cursor cursor2) out err Silent o
  pack-begun {told2 = told2} {steady2 = steady2} {mid = mid} {middle = middle} {out = out} {err = err} {start
      = start} {script = script} stay is is_script ends =
      let h = subst (λ (t : Option FileContents). PackScriptEnds start script
      (files_over t steady2 mid last middle cursor2) out err Silent o) stay.told ends in
      record {
        skipped = h.skipped;
        refusal = packed-refusal told names start script (state_in o.end) out.taken_before out.taken_after o.status
            h.by.known is is_script (λ e. (h.by.at_end e).0) (λ e. (h.by.at_write e).1);
        by = record {
          known = h.by.known;
          at_end = λ e. let w = h.by.at_end e in (
            packed-run told names start script (state_in o.end) out.taken_before out.taken_after is is_script w.0,
            w.1,
          );
          at_file = λ e.
              let w = h.by.at_file e in (
                w.0,
                rose-later first mid last stay.later w.1,
                unread-line told names start script (IsTrue steady) (IsTrue steady2) _
                    [] None None err.taken_before err.taken_after is is_script stay.steady w.2,
              );
          at_write = λ e. let w = h.by.at_write e in
              (w.0, packed-prefix told names start script out.taken_before out.taken_after is is_script w.1, w.2);
          at_memory = h.by.at_memory;
          at_refusal = λ e. let w = h.by.at_refusal e in
              (w.0, packed-long told names start script (λ cause. Reports err cause) is is_script w.1 w.2);
        };
      }
