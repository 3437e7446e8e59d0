use Rattle.std.proofs.Common.{[], ap, length, subst, sym, ◌++◌, ◌∷◌, ◌<◌, ◌≡◌, ◌∙◌, rules}
use Rattle.std.specs.List.{All, AllZip}
use Rattle.std.specs.Vec.Iter.{into_iter_items, into_iter_len}
use Rattle.std.proofs.lemmas.List.{map-id}
use Rattle.std.proofs.lemmas.Iterator.Adapters.{YieldsList-from_vec}
use Rattle.std.proofs.lemmas.Iterator.Consumers.{YieldsList-end, YieldsList-turn}
use Rattle.measure_index.specs.Builder.{GatheredKeys, IsRankingOf, gathered_units}
use Rattle.measure_index.specs.Index.{units}
use Rattle.measure_index.specs.Rankings.{IsIndex}
use Rattle.measure_index.proofs.FillingLemmas.{ranked_index, ranked_units}
use Rattle.measure_index.proofs.Zips.{zip_more}
use Rattle.measure_index.proofs.builder.IndexBuilder.finish.Goals as goal

pub in_order-requires : goal.in_order-requires
in_order-requires c =
    let items : into_iter_items c.into_iter-keys-iterator.result ≡ c.self.inside.columns.items
    = c.into_iter-keys-iterator.ensures.into_iter_gives.0 in
    let len : into_iter_len c.into_iter-keys-iterator.result ≡ length c.self.inside.columns.items = search rules in
    let turn = YieldsList-turn
    (YieldsList-from_vec {s = c.into_iter-keys-iterator.result} c.self.inside.columns.items items len)
    c.kinds.yielded c.kinds.keys-iterator c.kinds.yielded_by c.next.result c.next.new.self c.in-Some.keys c.in-Some.is
    c.next.ensures.steps in
    let few = subst (λ cs. All (λ (c : GatheredKeys). length c.keys < 4294967296) cs) (sym c.self.view_is) c.requires in
    subst (λ (c : GatheredKeys). length c.keys < 4294967296) (sym turn.1)
    (few (length c.kinds.yielded) c.in-Some.keys turn.0)

pub kinds-preserved : goal.kinds-preserved
kinds-preserved c =
    subst (λ rs. AllZip IsRankingOf (c.kinds.yielded ++ c.in-Some.keys ∷ []) rs) (sym c.in_ok-push.ensures.items)
    (zip_more IsRankingOf c.kinds.yielded c.kinds.columns.items c.in-Some.keys c.in_ok-column.column c.kinds.invariant
    c.in_ok-column.ensures)

pub returns-clause-units : goal.returns-clause-units
returns-clause-units c =
    let items : into_iter_items c.into_iter-keys-iterator.result ≡ c.self.inside.columns.items
    = c.into_iter-keys-iterator.ensures.into_iter_gives.0 in
    let len : into_iter_len c.into_iter-keys-iterator.result ≡ length c.self.inside.columns.items = search rules in
    let ends = (YieldsList-end
    (YieldsList-from_vec {s = c.into_iter-keys-iterator.result} c.self.inside.columns.items items len)
    c.kinds.yielded c.kinds.keys-iterator c.kinds.yielded_by c.next.result c.next.new.self c.in-None.is
    c.next.ensures.steps).0 in
    let all : c.kinds.yielded ≡ c.args.self = sym (map-id c.kinds.yielded) ∙ ends ∙ c.self.view_is in
    ap units c.of.ensures ∙ ranked_units c.kinds.yielded c.kinds.columns.items c.kinds.invariant ∙ ap gathered_units all

pub returns-clause-classes : goal.returns-clause-classes
returns-clause-classes c = λ classes class are new.
    let items : into_iter_items c.into_iter-keys-iterator.result ≡ c.self.inside.columns.items
    = c.into_iter-keys-iterator.ensures.into_iter_gives.0 in
    let len : into_iter_len c.into_iter-keys-iterator.result ≡ length c.self.inside.columns.items = search rules in
    let ends = (YieldsList-end
    (YieldsList-from_vec {s = c.into_iter-keys-iterator.result} c.self.inside.columns.items items len)
    c.kinds.yielded c.kinds.keys-iterator c.kinds.yielded_by c.next.result c.next.new.self c.in-None.is
    c.next.ensures.steps).0 in
    let all : c.kinds.yielded ≡ c.args.self = sym (map-id c.kinds.yielded) ∙ ends ∙ c.self.view_is in
    let zipped = subst (λ cs. AllZip IsRankingOf cs c.kinds.columns.items) all c.kinds.invariant in
    subst (IsIndex class) (sym c.of.ensures)
    (ranked_index c.args.self c.kinds.columns.items zipped classes class are new)
