use Rattle.std.proofs.Common.{ap, arith, get_or, sym, ℕ, ◌+◌, ◌-◌, ◌≡◌, ◌∙◌}
use Rattle.std.specs.Ordering.{is_lt}
use Rattle.std.proofs.lemmas.List.{get_or_default}
use Rattle.measure_index.specs.ColumnKeys.{key_cmp}
use Rattle.measure_index.proofs.blocks.passed_in.Goals as goal

pub returns-else-is_before-clause-near : goal.returns-else-is_before-clause-near
returns-else-is_before-clause-near c = λ d l.
    let keys = c.args.keys.now in
    let key = c.index-keys-place in
    let at : c.strides.place + 7 ≡ c.strides.place + 8 - 1 = omega arith in
    ap (λ x. is_lt (key_cmp x c.args.key.now))
    (get_or_default keys (c.strides.place + 7) d key.result (omega (arith, l))
    ∙ ap (λ (i : ℕ). get_or keys i key.result) at ∙ sym key.is)
    ∙ sym c.is_before.ensures ∙ c.if-is_before.false
