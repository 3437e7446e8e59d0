use Rattle.std.proofs.Common.{[], ℕ, ◌+◌, length, ap, map, subst, sym, take, ◌≡◌, ◌∙◌, arith}
use Rattle.std.proofs.lemmas.List.{take_all}
use Rattle.std.proofs.lemmas.List.Elements.{All-get_or}
use Rattle.aggregates.specs.Views.{IsThere}
use Rattle.measure_index.specs.Builder.{AreKeysOf, gathered_units}
use Rattle.measure_index.proofs.FillingLemmas.{bare_coming, bare_more, bare_keys, bare_units}
use Rattle.measure_index.proofs.builder.IndexBuilder.new.Goals as goal

pub returns-clause-units : goal.returns-clause-units
returns-clause-units c =
    let all : take c.kinds.kind-index c.args.kinds.now ≡ c.args.kinds.now
    = take_all c.kinds.kind-index c.args.kinds.now (omega (arith, c.kinds-test.false)) in
    let made : c.kinds.columns.items ≡ map (bare_coming c.args.scales.now) c.args.kinds.now = c.kinds.invariant.made
    ∙ ap (λ ks. map (bare_coming c.args.scales.now) ks) all in
    ap gathered_units made ∙ bare_units c.args.scales.now c.args.kinds.now

pub returns-clause-classes : goal.returns-clause-classes
returns-clause-classes c
    = subst (AreKeysOf []) (sym c.kinds.invariant.made)
    (bare_keys c.args.scales.now (take c.kinds.kind-index c.args.kinds.now))

pub kinds-init : goal.kinds-init
kinds-init c =
    let made = c.in_ok-columns.ensures in
    record { made = made.items; len = made.len; room = omega (arith, made.exact) }

pub scale_in-requires-clause-there : goal.scale_in-requires-clause-there
scale_in-requires-clause-there c
    = All-get_or (IsThere (length c.args.scales.now)) c.args.kinds.now c.kinds.kind-index _ c.kinds-test.true
    c.requires.there

pub kinds-preserved : goal.kinds-preserved
kinds-preserved c =
    let was = c.kinds.invariant in
    let pushed = c.push_reserved.ensures in
    record {
      made = bare_more c.args.scales.now c.args.kinds.now c.kinds.kind-index _ _ _ c.kinds-test.true
          c.in_ok-column.ensures c.scale_in.ensures.value _ _ was.made pushed.items;
      len = pushed.len ∙ ap (λ (n : ℕ). n + 1) was.len;
      room = rw (pushed.capacity) was.room;
    }
