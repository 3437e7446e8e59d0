-- How the parts of a run end it.
use Rattle.std.proofs.Common.{◌≡◌, ◌<◌, ◌⊎◌, ◌∙◌, ℕ, Bool, List, [], map, Option, Some, None, IfSome, IsTrue, refl, sym, ap, inl, inr}
use Rattle.std.proofs.Common.{arith, subst, lit<}
use Rattle.std.specs.Prelude.{MatchOption}
use Rattle.qc_io.specs.Outside.{Cursor, IsOpenAs, FileContents}
use Rattle.warehouse.specs.State.{AreContents, Contents, State}
use Rattle.text_lines.specs.Lines.{without_mark}
use Rattle.qc_session.specs.Ends.{EndsBy, FilesFailed, FilesOver, ReturnsWarehouse, RunEnds, ScriptEnds, SinkFailed, SinkOver, Reports}
use Rattle.qc_session.specs.Ends.{TookNothing, files_over, sink_over}
use Rattle.qc_session.specs.Forms.{FileNames}
use Rattle.qc_session.specs.Lines.{lines_of, script_lines, without_cr}
use Rattle.qc_session.specs.Reading.{FilesStay}
use Rattle.qc_session.specs.Runs.{AreSkipped, BrokenOff, CannotRead, CannotWrite, Cause, IsScriptOf, IsStartOf}
use Rattle.qc_session.specs.Runs.{NotBegun, OutOfMemory, StoppedAt, StoppedWriting, WroteAll, state_in}
use Rattle.qc_session.specs.Runs.{Usage, status_of}
use Rattle.qc_session.specs.Session.{IfStop}
use Rattle.qc_session.specs.declared.scripts.Outcome.{Outcome}
use Rattle.qc_session.specs.declared.session.Stop.{Stop}
use Rattle.qc_session.specs.declared.session.Stop.TheVariants as stops
use Rattle.qc_session.proofs.Ended.{all-ended, broken-ended, finished-run, read-ended, refusal-run, rose-later, skipped-run}
use Rattle.qc_session.proofs.Refusals.{begun-refusal, begun-refused, begun-status, begun-unread, unread-line}

-- one status is no other
module _ {AtEnd AtFile AtWrite AtMemory AtRefusal : Type 0} {status : ℕ} where
  pub by-end : status ≡ 0 → AtEnd → EndsBy status AtEnd AtFile AtWrite AtMemory AtRefusal
  by-end is fact = record {
    known = inl is;
    at_end = λ _. fact;
    at_file = λ e. absurd (omega (arith, is, e));
    at_write = λ e. absurd (omega (arith, is, e));
    at_memory = λ e. absurd (omega (arith, is, e));
    at_refusal = λ e. absurd (omega (arith, is, e));
  }

  pub by-file : status ≡ 3 → AtFile → EndsBy status AtEnd AtFile AtWrite AtMemory AtRefusal
  by-file is fact = record {
    known = inr (inl is);
    at_end = λ e. absurd (omega (arith, is, e));
    at_file = λ _. fact;
    at_write = λ e. absurd (omega (arith, is, e));
    at_memory = λ e. absurd (omega (arith, is, e));
    at_refusal = λ e. absurd (omega (arith, is, e));
  }

  pub by-write : status ≡ 4 → AtWrite → EndsBy status AtEnd AtFile AtWrite AtMemory AtRefusal
  by-write is fact = record {
    known = inr (inr (inl is));
    at_end = λ e. absurd (omega (arith, is, e));
    at_file = λ e. absurd (omega (arith, is, e));
    at_write = λ _. fact;
    at_memory = λ e. absurd (omega (arith, is, e));
    at_refusal = λ e. absurd (omega (arith, is, e));
  }

  pub by-memory : status ≡ 5 → AtMemory → EndsBy status AtEnd AtFile AtWrite AtMemory AtRefusal
  by-memory is fact = record {
    known = inr (inr (inr (inl is)));
    at_end = λ e. absurd (omega (arith, is, e));
    at_file = λ e. absurd (omega (arith, is, e));
    at_write = λ e. absurd (omega (arith, is, e));
    at_memory = λ _. fact;
    at_refusal = λ e. absurd (omega (arith, is, e));
  }

  pub by-refusal : status ≡ 6 → AtRefusal → EndsBy status AtEnd AtFile AtWrite AtMemory AtRefusal
  by-refusal is fact = record {
    known = inr (inr (inr (inr is)));
    at_end = λ e. absurd (omega (arith, is, e));
    at_file = λ e. absurd (omega (arith, is, e));
    at_write = λ e. absurd (omega (arith, is, e));
    at_memory = λ e. absurd (omega (arith, is, e));
    at_refusal = λ _. fact;
  }

-- what a run hands back
pub hands-none : (o : Outcome) → (o.status ≡ 0 → ⊥) → o.end ≡ None → ReturnsWarehouse o
hands-none o late none = record { held = rw none tt; there = λ is. absurd (late is); none = λ _. none }

pub hands-end : (o : Outcome) (held : Contents) → o.status ≡ 0 → o.end ≡ Some held → AreContents held
    → ReturnsWarehouse o
hands-end o held is end are = record { held = rw end are; there = λ _. rw end refl; none = λ late. absurd (late is) }

fails : (cause : Cause) → 0 < status_of cause
fails Usage = lit< tt
fails _ = lit< tt

pub hands-failed : (o : Outcome) (cause : Cause) → o.status ≡ status_of cause → o.end ≡ None → ReturnsWarehouse o
hands-failed o cause is none = hands-none o (λ e. absurd (omega (arith, fails cause, is, e))) none

pub memory-only : (cause : Cause) → status_of cause ≡ 5 → cause ≡ OutOfMemory
memory-only OutOfMemory e = refl
memory-only _ e = absurd (omega (arith, e))

-- the lines of a script, by their other names
skips-same : (lines lines2 : List (List ℕ)) (ks ks2 : List ℕ) → lines2 ≡ lines → ks2 ≡ ks → AreSkipped lines2 ks
    → AreSkipped lines ks2
skips-same lines lines2 ks ks2 l k h = rw (sym l, k) h

skips-none : (lines : List (List ℕ)) (ks : List ℕ) → ks ≡ [] → AreSkipped lines ks
skips-none lines ks e = rw e (record { rising = tt; commands = tt })

pub bare-lines : (script bare : List ℕ) → bare ≡ without_mark script
    → map without_cr (lines_of bare) ≡ script_lines script
bare-lines script bare is = ap (λ (bs : List ℕ). map without_cr (lines_of bs)) is

module _ {start : State} {script : List ℕ} {files : FilesOver} {out err : SinkOver} {Silent : Type 0}
    {o : Outcome} where
  pub script-unbegun : files.open_after ≡ files.open_before → TookNothing out → o.status ≡ 5 → o.skipped.items ≡ []
      → Reports err OutOfMemory → ScriptEnds start script files out err Silent o
  script-unbegun same nothing is none said
      = record {
        skipped = skips-none (script_lines script) o.skipped.items none;
        by =
            by-memory is (same, nothing, none, said);
      }

  pub script-whole : (start2 : State) (bare skipped : List ℕ) (end : State) → bare ≡ without_mark script
      → start2 ≡ start → o.status ≡ 0 → o.skipped.items ≡ skipped → state_in o.end ≡ Some end
      → AreSkipped (map without_cr (lines_of bare)) skipped
      → IfSome files.told (λ t. WroteAll t start2 skipped (map without_cr (lines_of bare))
      (Some end) out.taken_before out.taken_after)
      → Silent → ScriptEnds start script files out err Silent o
  script-whole start2 bare skipped end bare_is start_is is k e are wrote silent =
      let l = bare-lines script bare bare_is in
      record {
        skipped = skips-same (script_lines script) (map without_cr (lines_of bare)) skipped o.skipped.items l k are;
        by = by-end is (
          all-ended files.told start start2 skipped o.skipped.items (script_lines script)
              (map without_cr (lines_of bare)) (Some end) (state_in o.end) out.taken_before out.taken_after start_is k l e
              wrote,
          silent,
        );
      }

  script-unread : (name : List ℕ) (start2 : State) (bare skipped : List ℕ) (cause : Cause) → bare ≡ without_mark script
      → start2 ≡ start → o.status ≡ 3 → o.skipped.items ≡ skipped
      → AreSkipped (map without_cr (lines_of bare)) skipped → FilesFailed files
      → IfSome files.told (λ t. StoppedAt t (IsTrue files.steady) start2 skipped (map without_cr (lines_of bare)) name
      out.taken_before out.taken_after)
      → cause ≡ CannotRead name → Reports err cause → ScriptEnds start script files out err Silent o
  script-unread name start2 bare skipped cause bare_is start_is is k are failed stopped cause_is said =
      let l = bare-lines script bare bare_is in
      record {
        skipped = skips-same (script_lines script) (map without_cr (lines_of bare)) skipped o.skipped.items l k are;
        by = by-file is (
          failed,
          read-ended name files.told (IsTrue files.steady) _ start start2 skipped o.skipped.items (script_lines script)
              (map without_cr (lines_of bare)) cause out.taken_before out.taken_after err.taken_before err.taken_after
              start_is k l cause_is stopped said,
        );
      }

  script-broken : (start2 : State) (bare skipped : List ℕ) → bare ≡ without_mark script → start2 ≡ start → o.status ≡ 4
      → o.skipped.items ≡ skipped
      → AreSkipped (map without_cr (lines_of bare)) skipped → SinkFailed out
      → IfSome files.told (λ t. StoppedWriting t start2 skipped (map without_cr (lines_of bare)) out.taken_before
      out.taken_after)
      → Reports err CannotWrite → ScriptEnds start script files out err Silent o
  script-broken start2 bare skipped bare_is start_is is k are failed stopped said =
      let l = bare-lines script bare bare_is in
      record {
        skipped = skips-same (script_lines script) (map without_cr (lines_of bare)) skipped o.skipped.items l k are;
        by = by-write is (
          failed,
          broken-ended files.told start start2 skipped o.skipped.items (script_lines script)
              (map without_cr (lines_of bare)) out.taken_before out.taken_after start_is k l stopped,
          said,
        );
      }

  pub script-stopped : (stop : Stop) (start2 : State) (bare skipped : List ℕ) → bare ≡ without_mark script
      → start2 ≡ start → o.skipped.items ≡ skipped → AreSkipped (map without_cr (lines_of bare)) skipped
      → IfStop stop
      (λ name. FilesFailed files
      × IfSome files.told (λ t. StoppedAt t (IsTrue files.steady) start2 skipped
      (map without_cr (lines_of bare)) name out.taken_before out.taken_after))
      (SinkFailed out × IfSome files.told
      (λ t. StoppedWriting t start2 skipped (map without_cr (lines_of bare)) out.taken_before out.taken_after))
      → IfStop stop (λ name. (o.status ≡ 3) × Reports err (CannotRead name)) ((o.status ≡ 4) × Reports err CannotWrite)
      → ScriptEnds start script files out err Silent o
  script-stopped (stops.Read name) start2 bare skipped bare_is start_is k are h said
      = script-unread name start2 bare skipped (CannotRead name) bare_is start_is said.0 k are h.0 h.1 refl said.1
  script-stopped stops.Write start2 bare skipped bare_is start_is k are h said
      = script-broken start2 bare skipped bare_is start_is said.0 k are h.0 h.1 said.1

-- a script that stopped ended with another status
pub stopped-late : (stop : Stop) (status : ℕ) (P : List ℕ → Type 0) (Q : Type 0)
    → IfStop stop (λ name. (status ≡ 3) × P name) ((status ≡ 4) × Q) → status ≡ 0 → ⊥
stopped-late (stops.Read name) status P Q h e = omega (arith, h.0, e)
stopped-late stops.Write status P Q h e = omega (arith, h.0, e)

none-skipped : (told : Option FileContents) (name ks : List ℕ) → ks ≡ []
    → IfSome told (λ t. MatchOption (t name) (ks ≡ []) (λ script. AreSkipped (script_lines script) ks))
none-skipped None name ks e = tt
none-skipped (Some t) name ks e = by (t name)
  where
    by : (file : Option (List ℕ)) → MatchOption file (ks ≡ []) (λ script. AreSkipped (script_lines script) ks)
    by None = e
    by (Some script) = skips-none (script_lines script) ks e

broken-run : (told : Option FileContents) (names : FileNames) (start : State) (script skipped : List ℕ)
    (before now : Option (List ℕ)) → IfSome told (λ t. IsStartOf t names start)
    → IfSome told (λ t. IsScriptOf t names.script script)
    → IfSome told (λ t. StoppedWriting t start skipped (script_lines script) before now)
    → IfSome told (λ t. BrokenOff t names skipped before now)
broken-run None names start script skipped before now is is_script h = tt
broken-run (Some t) names start script skipped before now is is_script h
    = record { start = start; script = script; start_read = is; script_read = is_script; wrote = h }

-- statuses of a run whose first line wasn't begun
pub no-end : (s : ℕ) → (s ≡ 3) ⊎ (s ≡ 5) ⊎ (s ≡ 6) → s ≡ 0 → ⊥
no-end s (inl h) e = absurd (omega (arith, h, e))
no-end s (inr (inl h)) e = absurd (omega (arith, h, e))
no-end s (inr (inr h)) e = absurd (omega (arith, h, e))

pub no-write : (s : ℕ) → (s ≡ 3) ⊎ (s ≡ 5) ⊎ (s ≡ 6) → s ≡ 4 → ⊥
no-write s (inl h) e = absurd (omega (arith, h, e))
no-write s (inr (inl h)) e = absurd (omega (arith, h, e))
no-write s (inr (inr h)) e = absurd (omega (arith, h, e))

module _ {names : FileNames} {told : Option FileContents} {steady : Bool} {first last : ℕ}
    {cursor cursor2 : Option Cursor} {Silent : Type 0} {o : Outcome} where
  pub run-unbegun : {faults faults2 : ℕ} {bytes : Option (List ℕ)} {err : SinkOver} (cause : Cause)
      → (let files = files_over told steady first last cursor cursor2 in
      NotBegun told names (FilesFailed files) (IsTrue steady) cause)
      → IsOpenAs told cursor2 names.first ⊎ IsOpenAs told cursor2 names.script
      → o.status ≡ status_of cause → o.skipped.items ≡ [] → Reports err cause
      → RunEnds names (files_over told steady first last cursor cursor2)
      (sink_over faults faults2 bytes bytes) err Silent o
  run-unbegun {bytes = bytes} {err = err} cause h opened is none said = record {
    skipped = none-skipped told names.script o.skipped.items none;
    refusal = begun-refusal told names _ _ cause o.status _ h is;
    by = record {
      known = begun-status told names _ _ cause o.status h is;
      at_end = λ e. absurd (no-end (status_of cause) h.known (sym is ∙ e));
      at_file = λ e. (
        h.rose (sym is ∙ e),
        begun-unread told names _ _ _ cause o.skipped.items bytes err.taken_before err.taken_after h
            (sym is ∙ e) none said,
      );
      at_write = λ e. absurd (no-write (status_of cause) h.known (sym is ∙ e));
      at_memory = λ e. (opened, refl, none, rw (memory-only cause (sym is ∙ e)) at said);
      at_refusal = λ e. (
        refl,
        none,
        begun-refused told names _ _ _ cause err.taken_before err.taken_after h
            (sym is ∙ e) said,
      );
    };
  }

  pub run-begun : {told2 : Option FileContents} {steady2 : Bool} {mid : ℕ} {middle : Option Cursor} {out err : SinkOver}
      {start : State} {script : List ℕ}
      → FilesStay first mid told told2 steady steady2 → IfSome told (λ t. IsStartOf t names start)
      → IfSome told (λ t. IsScriptOf t names.script script)
      → IsOpenAs told middle names.first ⊎ IsOpenAs told middle names.script
      → ScriptEnds start script (files_over told2 steady2 mid last middle cursor2) out err Silent o
      → RunEnds names (files_over told steady first last cursor cursor2) out err Silent o
  run-begun {told2 = told2} {steady2 = steady2} {mid = mid} {middle = middle} {out = out} {err = err} {start
      = start} {script = script} stay is is_script opened ends =
      let h = subst (λ (t : Option FileContents). ScriptEnds start script (files_over t steady2 mid last middle cursor2)
      out err Silent o) stay.told ends in
      record {
        skipped = skipped-run told names script o.skipped.items is_script h.skipped;
        refusal = refusal-run told names start script _ is is_script;
        by = record {
          known = h.by.known;
          at_end = λ e. let w = h.by.at_end e in (
            finished-run told names start script o.skipped.items (state_in o.end) out.taken_before out.taken_after is
                is_script w.0,
            w.1,
          );
          at_file = λ e.
              let w = h.by.at_file e in (
                rose-later first mid last stay.later w.0,
                unread-line told names start script (IsTrue steady)
                    (IsTrue steady2) _ o.skipped.items out.taken_before out.taken_after err.taken_before err.taken_after
                    is is_script stay.steady w.1,
              );
          at_write = λ e. let w = h.by.at_write e in (
            w.0,
            broken-run told names start script o.skipped.items out.taken_before out.taken_after is
                is_script w.1,
            w.2,
          );
          at_memory = λ e. let w = h.by.at_memory e in (rw w.0 opened, w.1, w.2, w.3);
          at_refusal = λ e. absurd (h.by.at_refusal e);
        };
      }
