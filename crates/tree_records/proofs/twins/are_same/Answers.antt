use Rattle.std.proofs.Common.{◌∙◌, sym}
use Rattle.tree_records.proofs.twins.are_same.Goals as goal

pub returns : goal.returns
returns g c = λ rooted h.
    record {
      here = c.has_twins.ensures rooted h;
      count = sym c.live.ensures.value ∙ c.if-live.false ∙ c.live-2.ensures.value;
    }
