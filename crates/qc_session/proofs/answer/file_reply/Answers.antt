use Rattle.std.proofs.Common.{◌≡◌, ◌∙◌, ap, subst}
use Rattle.pinned_view.specs.Versions.{Versions}
use Rattle.warehouse.specs.State.{Contents, IsState, State}
use Rattle.warehouse.specs.Stored.{refusal_in}
use Rattle.qc_session.specs.Stops.{kind_in}
use Rattle.qc_session.proofs.Costs.{unmoved-within}
use Rattle.qc_session.proofs.Named.{numbers-same, records-same, refused-answer, taken-answer}
use Rattle.qc_session.proofs.Refused.{dim-within}
use Rattle.qc_session.proofs.answer.file_reply.Goals as goal

pub file_refusal-requires-clause-dim : goal.file_refusal-requires-clause-dim
file_refusal-requires-clause-dim g c =
    let same : c.now.result.now.state ≡ c.args.pinned.now.now.state = ap (λ (h : Contents). h.state) c.now.ensures.value
    ∙ ap (λ (v : Versions). v.now.state) c.in-Err.ensures.same in
    let valid = subst IsState same c.schema.ensures.valid.state in
    let within = dim-within c.args.pinned.now.now.state _ c.args.file.bytes.now c.in-Err.cause valid
    c.in-Err.ensures.gives.1 in
    rw (c.schema.ensures.value, same) within

pub file_refusal-requires-clause-layout : goal.file_refusal-requires-clause-layout
file_refusal-requires-clause-layout g c = rw c.schema.ensures.value c.schema.ensures.valid.state.consistent.layout

pub returns-in-Some : goal.returns-in-Some
returns-in-Some g c =
    let e = c.in-Err.ensures in
    let old = c.args.pinned.now in
    let new = c.take_file.new.pinned in
    let kind = c.args.file.kind in
    let bytes = c.args.file.bytes.now in
    let refusal = refusal_in c.in-Err.cause in
    let state : c.now.result.now.state ≡ old.now.state = ap (λ (h : Contents). h.state) c.now.ensures.value
    ∙ ap (λ (v : Versions). v.now.state) e.same in
    let schema = c.schema.ensures.value ∙ ap (λ (s : State). s.schema) state in
    record {
      ok = refused-answer kind old new _ c.args.number bytes refusal _ c.refused.result e.same schema
          c.in-Some.ensures.texts e.gives.1 c.refused.ensures;
      pins = e.pins;
      tried = e.tried;
      numbers = λ is. numbers-same old new bytes e.same;
      apart = λ is. records-same old new bytes e.same;
      steps = unmoved-within old.now.state bytes (kind_in kind) refusal _ _ c.args.steps.now c.take_file.new.steps
          c.in-Some.ensures.texts e.gives.1 e.unread;
      same = tt;
    }

pub returns-in-None : goal.returns-in-None
returns-in-None g c =
    let e = c.in-Err.ensures in
    let old = c.args.pinned.now in
    let new = c.take_file.new.pinned in
    let bytes = c.args.file.bytes.now in
    record {
      ok = tt;
      pins = e.pins;
      tried = e.tried;
      numbers = λ is. numbers-same old new bytes e.same;
      apart = λ is. records-same old new bytes e.same;
      steps = tt;
      same = e.same;
    }

pub returns-in-Ok : goal.returns-in-Ok
returns-in-Ok g c =
    let e = c.in-Ok.ensures in
    let (then, gives, left) = e.gives in
    record {
      ok = taken-answer c.args.file.kind c.args.pinned.now c.take_file.new.pinned then c.args.number c.args.file.bytes.now
          c.in-Ok.taken c.applied_reply.result gives left c.applied_reply.ensures;
      pins = e.pins;
      tried = e.tried;
      numbers = e.numbers;
      apart = e.apart;
      steps = e.steps;
      same = tt;
    }
