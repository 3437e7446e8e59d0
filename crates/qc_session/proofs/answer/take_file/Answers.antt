use Rattle.std.proofs.Common.{ap, refl}
use Rattle.std.proofs.lemmas.Result.{on_ok_weaker}
use Rattle.pinned_view.specs.Versions.{Versions}
use Rattle.qc_session.proofs.Answered.{on-ok}
use Rattle.qc_session.proofs.Costs.{applied-within, loaded-within}
use Rattle.qc_session.proofs.FileUses.{apply-no-try, load-no-apply, load-no-try, loaded-no-applied, shows-itself, try-no-apply}
use Rattle.qc_session.proofs.answer.take_file.Goals as goal

pub returns-in-Load : goal.returns-in-Load
returns-in-Load g c =
    let e = c.load.ensures in
    rw c.in-Load.is (record {
      gives = (c.load.new.self.now.state, e.gives, on-ok c.load.result _ refl);
      pins = e.pins;
      tried = load-no-try;
      numbers = on-ok c.load.result _ load-no-apply;
      apart = on-ok c.load.result _ load-no-apply;
      steps = loaded-within c.load.result c.args.pinned.now.now.state c.args.file.bytes.now c.load.new.self.now.state
          c.args.steps.now c.load.new.steps e.gives e.steps;
      unread = loaded-no-applied;
      same = e.err;
    })

pub returns-in-Apply : goal.returns-in-Apply
returns-in-Apply g c =
    let e = c.apply.ensures in
    rw c.in-Apply.is (record {
      gives = (c.apply.new.self.now.state, e.gives, on-ok c.apply.result _ refl);
      pins = e.pins;
      tried = apply-no-try;
      numbers = on_ok_weaker c.apply.result (λ h is. h) e.numbers;
      apart = on_ok_weaker c.apply.result (λ h is. h) e.apart;
      steps = applied-within c.apply.result c.args.pinned.now.now.state c.args.file.bytes.now c.apply.new.self.now.state
          c.args.steps.now c.apply.new.steps e.gives e.steps;
      unread = λ is. e.unread;
      same = e.err;
    })

pub returns-in-Try : goal.returns-in-Try
returns-in-Try g c =
    let e = c.attempt.ensures in
    let (then, gives) = e.gives in
    rw c.in-Try.is (record {
      gives = (then, gives, on-ok c.attempt.result _ (ap (λ (v : Versions). v.now.state) e.same));
      pins = ap (λ (v : Versions). v.pins) e.same;
      tried = λ is. e.same;
      numbers = on-ok c.attempt.result _ try-no-apply;
      apart = on-ok c.attempt.result _ try-no-apply;
      steps = applied-within c.attempt.result c.args.pinned.now.now.state c.args.file.bytes.now then c.args.steps.now
          c.attempt.new.steps gives e.steps;
      unread = λ is. e.unread;
      same = shows-itself c.attempt.result _ _ e.same;
    })
