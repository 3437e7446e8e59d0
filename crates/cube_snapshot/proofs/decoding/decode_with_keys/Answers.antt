use Rattle.std.proofs.Common.{Err, ◌≡◌, ◌<◌, ap, arith, length, subst, ◌∙◌, sym}
use Rattle.cube_defs.specs.Text.{text_cmp}
use Rattle.cube_defs.specs.Tree.{nodes}
use Rattle.warehouse.specs.State.{State}
use Rattle.warehouse.specs.Stored.{IsStored, state_of}
use Rattle.cube_snapshot.specs.Format.{IsBytes, whole}
use Rattle.cube_snapshot.specs.Readers.{AreWithin, Refuses}
use Rattle.cube_snapshot.specs.Snapshot.{snapshot}
use Rattle.cube_snapshot.specs.States.{spelling}
use Rattle.cube_snapshot.specs.declared.refused.PartRefused.{PartRefused}
use Rattle.warehouse.proofs.CallerLemmas.{is-consistent}
use Rattle.cube_snapshot.proofs.StateLaws.{made-spelled, refused-state, stored-made, unique}
use Rattle.cube_snapshot.proofs.decoding.decode_with_keys.Goals as goal

pub from_parts-requires : goal.from_parts-requires
from_parts-requires g c
    = stored-made c.in-Ok.made.0 c.in-Ok.made.1 c.in-Ok.made.2 c.in-Ok.ensures.made c.in-Ok.ensures.reads.1

pub returns-in-Err-Form-clause-form : goal.returns-in-Err-Form-clause-form
returns-in-Err-Form-clause-form g c = λ _ s is e.
    refused-state c.args.bytes.now (λ i. omega (arith, c.type_inv.bytes i))
    (subst (λ (e : PartRefused). Refuses AreWithin e (whole snapshot c.args.bytes.now)) c.in-Err-Form.field-0-is
    c.in-Err-Form.ensures.reads) s is e

pub returns-in-Err-Form-clause-found : goal.returns-in-Err-Form-clause-found
returns-in-Err-Form-clause-found g c = λ s is e.
    absurd
    (refused-state c.args.bytes.now (λ i. omega (arith, c.type_inv.bytes i))
    (subst (λ (e : PartRefused). Refuses AreWithin e (whole snapshot c.args.bytes.now)) c.in-Err-Form.field-0-is
    c.in-Err-Form.ensures.reads) s is.consistent e)

pub returns-in-Ok-from_parts-clause-spelled : goal.returns-in-Ok-from_parts-clause-spelled
returns-in-Ok-from_parts-clause-spelled g c =
    let bytes = c.args.bytes.now in
    let bounded : IsBytes bytes = λ i. omega (arith, c.type_inv.bytes i) in
    let made = c.in-Ok.made in
    let stored : IsStored made.0 made.1 made.2
    = stored-made made.0 made.1 made.2 c.in-Ok.ensures.made c.in-Ok.ensures.reads.1 in
    made-spelled bytes bounded made.0 made.1 made.2 stored c.in-Ok.ensures.reads.0
    ∙ ap spelling (sym c.in-Ok-from_parts.ensures.state)

pub returns-in-Ok-from_parts-clause-found : goal.returns-in-Ok-from_parts-clause-found
returns-in-Ok-from_parts-clause-found g c = λ s is e.
    let bytes = c.args.bytes.now in
    let bounded : IsBytes bytes = λ i. omega (arith, c.type_inv.bytes i) in
    let made = c.in-Ok.made in
    let stored : IsStored made.0 made.1 made.2
    = stored-made made.0 made.1 made.2 c.in-Ok.ensures.made c.in-Ok.ensures.reads.1 in
    c.in-Ok-from_parts.ensures.state
    ∙ unique bytes bounded (state_of made.0 made.1 made.2) s (is-consistent made.0 made.1 made.2 stored)
    is.consistent (made-spelled bytes bounded made.0 made.1 made.2 stored c.in-Ok.ensures.reads.0) e

pub returns-in-Err-NodesFull-clause-nodes_full : goal.returns-in-Err-NodesFull-clause-nodes_full
returns-in-Err-NodesFull-clause-nodes_full g c = λ _.
    let bytes = c.args.bytes.now in
    let bounded : IsBytes bytes = λ i. omega (arith, c.type_inv.bytes i) in
    let made = c.in-Ok.made in
    let stored : IsStored made.0 made.1 made.2
    = stored-made made.0 made.1 made.2 c.in-Ok.ensures.made c.in-Ok.ensures.reads.1 in (
      state_of made.0 made.1 made.2,
      record {
        spelled = made-spelled bytes bounded made.0 made.1 made.2 stored c.in-Ok.ensures.reads.0;
        consistent = is-consistent made.0 made.1 made.2 stored;
        many = c.in-Err-NodesFull.ensures.nodes_full (ap Err c.in-Err-NodesFull.field-0-is);
      },
    )

pub returns-in-Err-NodesFull-clause-found : goal.returns-in-Err-NodesFull-clause-found
returns-in-Err-NodesFull-clause-found g c = λ s is e.
    let bytes = c.args.bytes.now in
    let bounded : IsBytes bytes = λ i. omega (arith, c.type_inv.bytes i) in
    let made = c.in-Ok.made in
    let stored : IsStored made.0 made.1 made.2
    = stored-made made.0 made.1 made.2 c.in-Ok.ensures.made c.in-Ok.ensures.reads.1 in
    let same : state_of made.0 made.1 made.2 ≡ s
    = unique bytes bounded (state_of made.0 made.1 made.2) s (is-consistent made.0 made.1 made.2 stored)
    is.consistent (made-spelled bytes bounded made.0 made.1 made.2 stored c.in-Ok.ensures.reads.0) e in
    let many = subst (λ (t : State). t.schema.nodes < length (nodes text_cmp t.rows)) same
    (c.in-Err-NodesFull.ensures.nodes_full (ap Err c.in-Err-NodesFull.field-0-is)) in
    absurd (omega (arith, many, is.few_nodes))
