use Rattle.std.proofs.Common.{◌+◌, ◌∙◌, ap, refl, sym}
use Rattle.pinned_view.specs.Versions.{Versions}
use Rattle.qc_session.specs.Pins.{pinned_state_in}
use Rattle.qc_session.proofs.Answered.{for_told, on-ok, query-is}
use Rattle.qc_session.proofs.Costs.{answered-within, passed-within, query-within, skipped-within}
use Rattle.qc_session.proofs.FlushLemmas.{handed-none}
use Rattle.qc_session.proofs.Taken.{ends-answered, ends-memory, ends-passed, later-same, stay-same}
use Rattle.qc_session.proofs.session.take_line.Goals as goal

pub returns-then-is_ignored : goal.returns-then-is_ignored
returns-then-is_ignored g c =
    let passed = sym c.is_ignored.ensures ∙ c.if-is_ignored.true in
    record {
      stay = stay-same _ _ _;
      later = later-same _;
      ends = ends-passed _ refl refl passed;
      steps = passed-within (g.F.Files.told c.args.files.now) (pinned_state_in c.args.session.now.pinned)
          c.args.session.now.skipped.items (c.args.session.now.number + 1) c.args.line.now c.args.steps.now passed;
    }

pub returns-in-Some-Ok : goal.returns-in-Some-Ok
returns-in-Some-Ok g c =
    let told = g.F.Files.told c.args.files.now in
    let taken = sym c.is_ignored.ensures ∙ c.if-is_ignored.false in
    let done = rw (c.in-Some-Ok.field-0-is, c.now.ensures.value) at c.in-Some-Ok.ensures.answered in
    let asked = for_told told _ (query-is (pinned_state_in c.args.session.now.pinned) c.args.line.now _ _ done.query
    done.command done.answer) in
    record {
      stay = stay-same _ _ _;
      later = c.put_reply.ensures.later;
      ends = ends-answered c.put_reply.result _ _ _ _ refl refl taken c.requires.up_to asked
          (handed-none c.args.session.now.pending (g.O.Sink.taken c.args.out.now)) (λ b. b)
          (rw c.deref.ensures.value at c.put_reply.ensures.puts);
      steps = on-ok c.put_reply.result _ (answered-within told (pinned_state_in c.args.session.now.pinned)
          c.args.session.now.skipped.items (c.args.session.now.number + 1) c.args.line.now c.args.steps.now
          c.answer_plain_cell.new.steps taken
          (query-within told (pinned_state_in c.args.session.now.pinned) c.args.line.now c.args.steps.now
          c.answer_plain_cell.new.steps done.query done.command done.steps));
    }

pub returns-in-Some-Err : goal.returns-in-Some-Err
returns-in-Some-Err g c =
    let taken = sym c.is_ignored.ensures ∙ c.if-is_ignored.false in
    let skip = c.skip_line.ensures in
    record {
      stay = stay-same _ _ _;
      later = skip.later;
      ends = ends-memory c.skip_line.result _ _ _ skip.kept.0 skip.kept.2 skip.skipped taken
          (rw c.in-Some-Err.field-0-is at c.in-Some-Err.ensures.memory)
          (ap (λ (v : Versions). pinned_state_in v) skip.kept.1)
          (handed-none c.args.session.now.pending (g.O.Sink.taken c.args.out.now)) (λ b. b) skip.puts;
      steps = on-ok c.skip_line.result _ (skipped-within (g.F.Files.told c.args.files.now)
          (pinned_state_in c.args.session.now.pinned) _ _ _ c.args.line.now c.args.steps.now c.answer_plain_cell.new.steps taken
          skip.skipped);
    }

pub returns-in-None : goal.returns-in-None
returns-in-None g c =
    let e = c.carry_out.ensures in
    record {
      stay = e.stay;
      later = e.later;
      ends
          = record { number = e.ends.number; capacity = e.ends.capacity; skips = e.ends.skips; by = e.ends.by };
      steps = rw (c.in-None.ensures.unread refl) at e.steps;
    }

pub carry_out-requires-clause-next : goal.carry_out-requires-clause-next
carry_out-requires-clause-next g c
    = record {
      next = record { room = c.requires.next.room; number = c.requires.next.number };
      up_to = c.requires.up_to;
      short
          = c.requires.short;
    }
