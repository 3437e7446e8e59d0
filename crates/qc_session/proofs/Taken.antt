-- How a line is taken, by how its reply was gathered.
use Rattle.std.proofs.Common.{◌≡◌, ◌≤◌, ◌+◌, ◌∙◌, ◌++◌, ℕ, Bool, List, [], ◌∷◌, length, true, false, Some, None, IfSome, refl, inl, inr, ap}
use Rattle.std.proofs.Common.{arith, length-append}
use Rattle.std.specs.Prelude.{Option, Result, Ok, Err, vec_capacity}
use Rattle.qc_io.specs.Outside.{FileContents}
use Rattle.query_script.specs.Lines.{may_want_memory}
use Rattle.reply_text.specs.Replies.{memory_text}
use Rattle.qc_session.specs.Answers.{answer, file_of}
use Rattle.qc_session.specs.Flushed.{IsFlushed, TookPrefix}
use Rattle.qc_session.specs.Lines.{is_passed}
use Rattle.qc_session.specs.Pins.{pinned_state_in}
use Rattle.qc_session.specs.Reading.{FilesStay}
use Rattle.qc_session.specs.Runs.{AreUpTo, may_skip}
use Rattle.qc_session.specs.Session.{IfStop, LineEnds, Puts, Skips}
use Rattle.qc_session.specs.declared.session.Session.{Session}
use Rattle.qc_session.specs.declared.session.Stop.{Stop}
use Rattle.qc_session.specs.declared.session.Stop.TheVariants as stops
use Rattle.qc_session.proofs.FlushLemmas.{prefix-on, handed-on}
use Rattle.qc_session.proofs.Steps.{part-answer, part-before, part-memory, wrote-answer, wrote-memory, wrote-passed}

pub stay-same : (faults : ℕ) (told : Option FileContents) (steady : Bool)
    → FilesStay faults faults told told steady steady
stay-same faults told steady = record { later = omega arith; told = refl; steady = λ h. h }

pub stay-then : {faults faults2 faults3 : ℕ} {told told2 told3 : Option FileContents} {steady steady2 steady3 : Bool}
    → FilesStay faults faults2 told told2 steady steady2 → FilesStay faults2 faults3 told2 told3 steady2 steady3
    → FilesStay faults faults3 told told3 steady steady3
stay-then a b = record {
  later = omega (arith, a.later, b.later);
  told = b.told ∙ a.told;
  steady
      = λ h. b.steady (a.steady h);
}

pub later-same : (n : ℕ) → n ≤ n
later-same n = omega arith

pub later-then : (first before now : ℕ) → first ≤ before → before ≤ now → first ≤ now
later-then first before now le le2 = omega (arith, le, le2)

may-skip : (line : List ℕ) → is_passed line ≡ false → may_want_memory line ≡ true → may_skip line ≡ true
may-skip line taken wants = rw (taken, wants) refl

module _ {T : Type 0} {told : Option FileContents} {sure failed broke : Type 0} {line : List ℕ} {old new : Session}
    {before now : Option (List ℕ)} where
  -- the reply to an answer
  pub ends-answered : (result : Result T Stop) (broken : Type 0) (mid : Option (List ℕ)) (reply kept : List ℕ)
      → new.number ≡ old.number → new.skipped ≡ old.skipped → is_passed line ≡ false
      → AreUpTo old.number old.skipped.items
      → IfSome told (λ t. answer (pinned_state_in old.pinned) t (old.number + 1) line
      ≡ Some (record { state = pinned_state_in new.pinned; reply = reply }))
      → IsFlushed old.pending kept before mid → (broken → broke)
      → Puts broken (kept ++ reply) new.pending mid now result
      → LineEnds told sure failed broke line old new before now result
  ends-answered (Ok done) broken mid reply kept num same taken up answered handed breaks h = record {
    number = num;
    capacity = rw same (later-same (vec_capacity old.skipped));
    skips = inl (ap (λ v. v.items) same);
    by = rw same (wrote-answer told old.skipped.items old.number (pinned_state_in old.pinned) line
        (pinned_state_in new.pinned) reply old.pending new.pending before now taken up answered
        (handed-on old.pending reply kept new.pending before mid now handed h.by));
  }
  ends-answered (Err (stops.Read name)) broken mid reply kept num same taken up answered handed breaks h = absurd h.by
  ends-answered (Err stops.Write) broken mid reply kept num same taken up answered handed breaks h = record {
    number = num;
    capacity = rw same (later-same (vec_capacity old.skipped));
    skips = inl (ap (λ v. v.items) same);
    by = (
      breaks h.by.0,
      rw same (part-answer told old.skipped.items old.number (pinned_state_in old.pinned) line
          (pinned_state_in new.pinned) reply old.pending before now taken up answered
          (prefix-on old.pending reply kept before mid now handed h.by.1)),
    );
  }

  -- the reply where memory ran out
  pub ends-memory : (result : Result T Stop) (broken : Type 0) (mid : Option (List ℕ)) (kept : List ℕ)
      → new.number ≡ old.number → vec_capacity old.skipped ≤ vec_capacity new.skipped
      → new.skipped.items ≡ old.skipped.items ++ (old.number + 1) ∷ [] → is_passed line ≡ false
      → may_want_memory line ≡ true → pinned_state_in new.pinned ≡ pinned_state_in old.pinned
      → IsFlushed old.pending kept before mid → (broken → broke)
      → Puts broken (kept ++ memory_text (old.number + 1)) new.pending mid now result
      → LineEnds told sure failed broke line old new before now result
  ends-memory (Ok done) broken mid kept num room pushed taken wants same handed breaks h = record {
    number = num;
    capacity = room;
    skips = inr (pushed, may-skip line taken wants);
    by = wrote-memory told old.skipped.items new.skipped.items old.number (pinned_state_in old.pinned)
        (pinned_state_in new.pinned) line old.pending new.pending before now taken pushed same
        (handed-on old.pending (memory_text (old.number + 1)) kept new.pending before mid now handed h.by);
  }
  ends-memory (Err (stops.Read name)) broken mid kept num room pushed taken wants same handed breaks h = absurd h.by
  ends-memory (Err stops.Write) broken mid kept num room pushed taken wants same handed breaks h = record {
    number = num;
    capacity = room;
    skips = inr (pushed, may-skip line taken wants);
    by = (
      breaks h.by.0,
      part-memory told old.skipped.items new.skipped.items old.number (pinned_state_in old.pinned)
          (pinned_state_in new.pinned) line old.pending before now taken pushed same
          (prefix-on old.pending (memory_text (old.number + 1)) kept before mid now handed h.by.1),
    );
  }

  -- no reply: the line is ignored, or what was kept before it is refused, or its file couldn't be read
  pub ends-passed : (done : T) → new ≡ old → now ≡ before → is_passed line ≡ true
      → LineEnds told sure failed broke line old new before now (Ok done)
  ends-passed done same still passed = record {
    number = rw same refl;
    capacity = rw same (later-same (vec_capacity old.skipped));
    skips = inl (rw same refl);
    by = rw (same, still) (wrote-passed told old.skipped.items old.number (pinned_state_in old.pinned) line old.pending
        before passed);
  }

  pub ends-broken : new.number ≡ old.number → new.skipped ≡ old.skipped → broke → TookPrefix old.pending before now
      → LineEnds {T = T} told sure failed broke line old new before now (Err stops.Write)
  ends-broken num same broken front = record {
    number = num;
    capacity = rw same (later-same (vec_capacity old.skipped));
    skips = inl (ap (λ v. v.items) same);
    by = (
      broken,
      rw same (part-before told old.skipped.items (old.number + 1) (pinned_state_in old.pinned) line
          (pinned_state_in new.pinned) old.pending before now front),
    );
  }

  pub ends-unread : (name : List ℕ) → new.number ≡ old.number → new.skipped ≡ old.skipped → failed
      → file_of old.pinned.now.state.schema line ≡ Some name → (sure → IfSome told (λ t. t name ≡ None))
      → IsFlushed old.pending [] before now
      → LineEnds {T = T} told sure failed broke line old new before now (Err (stops.Read name))
  ends-unread name num same fails names untold handed = record {
    number = num;
    capacity = rw same (later-same (vec_capacity old.skipped));
    skips = inl (ap (λ v. v.items) same);
    by = (fails, names, untold, handed, ap (λ v. v.items) same);
  }

-- facts for each reason to stop
pub by-stop : (stop : Stop) {P P2 : List ℕ → Type 0} {Q Q2 : Type 0} → ((name : List ℕ) → P name → P2 name) → (Q → Q2)
    → IfStop stop P Q → IfStop stop P2 Q2
by-stop (stops.Read name) read write h = read name h
by-stop stops.Write read write h = write h

pub skips-length : (old new line : List ℕ) (number : ℕ) → Skips old number line new → length new ≤ length old + 1
skips-length old new line number (inl same) = rw same (omega arith)
skips-length old new line number (inr more) = rw (more.0, length-append) (omega arith)
