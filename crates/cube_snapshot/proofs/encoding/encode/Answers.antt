use Rattle.qc_schema.proofs.CallerLemmas.{short-text}
use Rattle.cube_snapshot.proofs.StateLaws.{short-values}
use Rattle.cube_snapshot.proofs.encoding.encode.Goals as goal

pub invariant_of-contents : goal.invariant_of-contents
invariant_of-contents c =
    let state = c.args.warehouse.now.state in
    let is = c.schema.ensures.valid.state.consistent in
    record {
      spelled = rw (c.in_ok-schema.ensures.text, c.schema.ensures.value) (short-text state.schema is.layout);
      short = rw c.dict.ensures.texts (short-values state.texts is.values);
    }
