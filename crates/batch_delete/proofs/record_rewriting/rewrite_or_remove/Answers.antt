use Rattle.std.proofs.Common.{◌≡◌, ◌∙◌, Option, Some, None, ap, sym, refl}
use Rattle.std.proofs.lemmas.Result.{on_ok_weaker}
use Rattle.std.specs.FinMap as map
use Rattle.std.specs.Option.{option_and_then, option_copied, option_map}
use Rattle.cube_laws.proofs.CallerLemmas.{some_of}
use Rattle.qc_arena.specs.Map.{Known}
use Rattle.batch_delete.specs.declared.parts.Rest.{Rest}
use Rattle.batch_delete.specs.Plan.{IsNewRest, heir_in, rest_if_stays_in, rewritten}
use Rattle.batch_delete.proofs.record_rewriting.rewrite_or_remove.Goals as goal

-- a node that stays has its record mended
then_mended : (g : Known → Known) (m : Option Known) → option_map g m ≡ option_and_then (λ n. Some (g n)) m
then_mended g None = refl
then_mended g (Some n) = refl

pub rewrite_record-requires-clause-rest : goal.rewrite_record-requires-clause-rest
rewrite_record-requires-clause-rest g c =
    some_of (λ (rest : Rest). IsNewRest c.args.arena.now c.args.tuple.now c.args.plan.now.entries c.args.below.now rest)
    (rest_if_stays_in c.args.plan.now.entries c.args.below.now.node.0) c.in-Some.rest.now (sym c.rest_if_stays.ensures
    ∙ ap option_copied c.in-Some.is) c.requires.rest

pub returns-in-Some-clause-here : goal.returns-in-Some-clause-here
returns-in-Some-clause-here g c =
    let f = λ (rest : Rest) (n : Known). rewritten c.args.tuple.now
    (heir_in c.args.plan.now.entries) c.args.below.now.cell rest n in
    on_ok_weaker c.rewrite_record.result (λ here. here
    ∙ then_mended (f c.in-Some.rest.now) (map.get c.args.arena.now.now c.args.below.now.node.0)
    ∙ ap (λ o. option_and_then (λ (n : Known). option_map (λ rest. f rest n) o)
    (map.get c.args.arena.now.now c.args.below.now.node.0))
    (sym (sym c.rest_if_stays.ensures ∙ ap option_copied c.in-Some.is))) c.rewrite_record.ensures.here
