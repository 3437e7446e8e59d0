-- What each form of the words promises is what a run promises.
use Rattle.std.proofs.Common.{◌≡◌, ◌⊎◌, [], Some, None, IsTrue, refl, inl, inr}
use Rattle.qc_session.specs.Ends.{FilesFailed, FilesOver, GenEnds, ReturnsWarehouse, PackEnds, RunEnds, SinkFailed, SinkOver, Reports}
use Rattle.qc_session.specs.Forms.{Drawing, FileNames, Gen, Pack, Run}
use Rattle.qc_session.specs.Packs.{IsPackRefused}
use Rattle.qc_session.specs.Ran.{Ran}
use Rattle.qc_session.specs.Runs.{IsRefused, IsScriptStatus, Usage}
use Rattle.qc_session.specs.declared.scripts.Outcome.{Outcome}
use Rattle.qc_session.proofs.Completed.{complete, complete-steady}
use Rattle.qc_session.proofs.Found.{found-all}
use Rattle.qc_session.proofs.Statuses.{a-status, at-late, no-usage, usage-no_end, usage-no_file, usage-no_memory, usage-no_refusal}
use Rattle.qc_session.proofs.Statuses.{usage-no_write, usage-only}

gen-status : (drawing : Drawing) {out err : SinkOver} {Silent : Type 0} {o : Outcome} → GenEnds drawing out err Silent o
    → (o.status ≡ 0) ⊎ (o.status ≡ 4) ⊎ (o.status ≡ 5)
gen-status drawing {o = o} ends = by ends.by.known
  where
    by : IsScriptStatus o.status → (o.status ≡ 0) ⊎ (o.status ≡ 4) ⊎ (o.status ≡ 5)
    by (inl h) = inl h
    by (inr (inl h)) = absurd (ends.by.at_file h)
    by (inr (inr (inl h))) = inr (inl h)
    by (inr (inr (inr (inl h)))) = inr (inr h)
    by (inr (inr (inr (inr h)))) = absurd (ends.by.at_refusal h).0

module _ {files : FilesOver} {out err : SinkOver} {Unopened Unwritten Silent : Type 0} {o : Outcome} where
  pub ran-run : {names : FileNames} → RunEnds names files out err Silent o → ReturnsWarehouse o
      → Ran (Some (Run names)) files out err Unopened Unwritten Silent o
  ran-run {names = names} ends hands =
      let by = ends.by in
      let found = λ (steady : IsTrue files.steady). found-all files.told names (IsTrue files.steady) (SinkFailed err)
      (o.status ≡ 3) o.skipped.items out.taken_before out.taken_after err.taken_before err.taken_after steady
      (λ e. (by.at_file e).1) in
      record {
        known = a-status o.status by.known;
        transcript = λ e. (by.at_end e).0;
        silent = λ e. (by.at_end e).1;
        ended = hands.there;
        held = hands.held;
        no_end = hands.none;
        skipped = ends.skipped;
        usage = usage-only (Run names) o.status by.known;
        unopened = λ e. absurd (no-usage o.status by.known e);
        said_usage = λ e. absurd (no-usage o.status by.known e);
        read_fault = λ e. (by.at_file e).0;
        unread = λ e. (by.at_file e).1;
        write_fault = λ e. (by.at_write e).0;
        broken_off = λ e. (by.at_write e).1;
        said_write = λ e. (by.at_write e).2;
        nothing = at-late o.status _ (λ e. let w = by.at_memory e in (w.1, w.2)) (λ e. let w
            = by.at_refusal e in (w.0, w.1));
        unbegun = λ e. (by.at_memory e).0;
        said_memory = λ e. (by.at_memory e).3;
        refused = λ e. (by.at_refusal e).2;
        refusal = ends.refusal;
        complete = complete (λ t. IsRefused t names) (λ cause. Reports err cause) files.told o.status
            (FilesFailed files) (SinkFailed out) by.known (λ e. (by.at_file e).0) (λ e. (by.at_write e).0)
            (λ e. (by.at_refusal e).2);
        found = found;
        complete_steady = λ steady.
            complete-steady (λ t. IsRefused t names) (λ cause. Reports err cause) files.told names o.status
            (SinkFailed out) by.known (λ e. (by.at_write e).0) (found steady) (λ e. (by.at_refusal e).2);
        pack_known = tt;
        pack_all = λ e. tt;
        pack_nothing = λ e. tt;
        pack_unread = λ e. tt;
        pack_front = λ e. tt;
        pack_refused = λ e. tt;
        pack_refusal = tt;
        pack_complete = tt;
        pack_found = λ e. tt;
        pack_complete_steady = λ e. tt;
        gen_known = tt;
        gen_files = tt;
        gen_end = λ e. tt;
        gen_all = λ e. tt;
        gen_front = λ e. tt;
      }

  pub ran-pack : {names : FileNames} → PackEnds names files out err Silent o → ReturnsWarehouse o
      → Ran (Some (Pack names)) files out err Unopened Unwritten Silent o
  ran-pack {names = names} ends hands =
      let by = ends.by in
      let found = λ (steady : IsTrue files.steady). found-all files.told names (IsTrue files.steady) (SinkFailed err)
      (o.status ≡ 3) [] None None err.taken_before err.taken_after steady (λ e. (by.at_file e).2) in
      record {
        known = a-status o.status by.known;
        transcript = λ e. tt;
        silent = λ e. (by.at_end e).1;
        ended = hands.there;
        held = hands.held;
        no_end = hands.none;
        skipped = tt;
        usage = usage-only (Pack names) o.status by.known;
        unopened = λ e. absurd (no-usage o.status by.known e);
        said_usage = λ e. absurd (no-usage o.status by.known e);
        read_fault = λ e. (by.at_file e).1;
        unread = λ e. tt;
        write_fault = λ e. (by.at_write e).0;
        broken_off = λ e. tt;
        said_write = λ e. (by.at_write e).2;
        nothing = at-late o.status _ (λ e. ((by.at_memory e).0, ends.skipped))
            (λ e. ((by.at_refusal e).0, ends.skipped));
        unbegun = λ e. tt;
        said_memory = λ e. (by.at_memory e).1;
        refused = λ e. tt;
        refusal = tt;
        complete = tt;
        found = λ e. tt;
        complete_steady = λ e. tt;
        pack_known = (by.known, ends.skipped);
        pack_all = λ e. (by.at_end e).0;
        pack_nothing = λ e. (by.at_file e).0;
        pack_unread = λ e. (by.at_file e).2;
        pack_front = λ e. (by.at_write e).1;
        pack_refused = λ e. (by.at_refusal e).1;
        pack_refusal = ends.refusal;
        pack_complete = complete (λ t. IsPackRefused t names) (λ cause. Reports err cause) files.told o.status
            (FilesFailed files) (SinkFailed out) by.known (λ e. (by.at_file e).1) (λ e. (by.at_write e).0)
            (λ e. (by.at_refusal e).1);
        pack_found = found;
        pack_complete_steady = λ steady.
            complete-steady (λ t. IsPackRefused t names) (λ cause. Reports err cause) files.told names o.status
            (SinkFailed out) by.known (λ e. (by.at_write e).0) (found steady) (λ e. (by.at_refusal e).1);
        gen_known = tt;
        gen_files = tt;
        gen_end = λ e. tt;
        gen_all = λ e. tt;
        gen_front = λ e. tt;
      }

  pub ran-gen : {drawing : Drawing} → Unopened → GenEnds drawing out err Silent o → ReturnsWarehouse o
      → Ran (Some (Gen drawing)) files out err Unopened Unwritten Silent o
  ran-gen {drawing = drawing} unopened ends hands =
      let by = ends.by in
      record {
        known = a-status o.status by.known;
        transcript = λ e. tt;
        silent = λ e. (by.at_end e).3;
        ended = hands.there;
        held = hands.held;
        no_end = hands.none;
        skipped = tt;
        usage = usage-only (Gen drawing) o.status by.known;
        unopened = λ e. absurd (no-usage o.status by.known e);
        said_usage = λ e. absurd (no-usage o.status by.known e);
        read_fault = λ e. absurd (by.at_file e);
        unread = λ e. tt;
        write_fault = λ e. (by.at_write e).1;
        broken_off = λ e. tt;
        said_write = λ e. (by.at_write e).3;
        nothing = at-late o.status _ (λ e. ((by.at_memory e).0, ends.skipped)) (λ e. absurd (by.at_refusal e).0);
        unbegun = λ e. tt;
        said_memory = λ e. (by.at_memory e).1;
        refused = λ e. tt;
        refusal = tt;
        complete = tt;
        found = λ e. tt;
        complete_steady = λ e. tt;
        pack_known = tt;
        pack_all = λ e. tt;
        pack_nothing = λ e. tt;
        pack_unread = λ e. tt;
        pack_front = λ e. tt;
        pack_refused = λ e. tt;
        pack_refusal = tt;
        pack_complete = tt;
        pack_found = λ e. tt;
        pack_complete_steady = λ e. tt;
        gen_known = (gen-status drawing ends, ends.skipped);
        gen_files = unopened;
        gen_end = λ e. (by.at_end e).2;
        gen_all = λ e. (by.at_end e).1;
        gen_front = λ e. (by.at_write e).2;
      }

  pub ran-usage : Unopened → Unwritten → o.status ≡ 2 → o.skipped.items ≡ [] → Reports err Usage → ReturnsWarehouse o
      → Ran None files out err Unopened Unwritten Silent o
  ran-usage unopened unwritten is none said hands = record {
    known = inr (inl is);
    transcript = λ e. tt;
    silent = λ e. absurd (usage-no_end o.status is e);
    ended = hands.there;
    held = hands.held;
    no_end = hands.none;
    skipped = tt;
    usage = (λ e. refl, λ h. is);
    unopened = λ e. (unopened, unwritten, none);
    said_usage = λ e. said;
    read_fault = λ e. absurd (usage-no_file o.status is e);
    unread = λ e. tt;
    write_fault = λ e. absurd (usage-no_write o.status is e);
    broken_off = λ e. tt;
    said_write = λ e. absurd (usage-no_write o.status is e);
    nothing = at-late o.status _ (λ e. absurd (usage-no_memory o.status is e))
        (λ e. absurd (usage-no_refusal o.status is e));
    unbegun = λ e. tt;
    said_memory = λ e. absurd (usage-no_memory o.status is e);
    refused = λ e. tt;
    refusal = tt;
    complete = tt;
    found = λ e. tt;
    complete_steady = λ e. tt;
    pack_known = tt;
    pack_all = λ e. tt;
    pack_nothing = λ e. tt;
    pack_unread = λ e. tt;
    pack_front = λ e. tt;
    pack_refused = λ e. tt;
    pack_refusal = tt;
    pack_complete = tt;
    pack_found = λ e. tt;
    pack_complete_steady = λ e. tt;
    gen_known = tt;
    gen_files = tt;
    gen_end = λ e. tt;
    gen_all = λ e. tt;
    gen_front = λ e. tt;
  }
