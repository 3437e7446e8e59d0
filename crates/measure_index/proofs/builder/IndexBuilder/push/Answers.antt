use Rattle.std.proofs.Common.{[], List, ap, drop, length, subst, sym, take, ◌++◌, ◌∷◌, ◌≡◌, ◌∙◌}
use Rattle.std.specs.List.{All, AllZip}
use Rattle.std.proofs.lemmas.Result.{on_ok_weaker}
use Rattle.std.proofs.lemmas.Slice.Zip.{AllZip-long}
use Rattle.aggregates.specs.Views.{IsThere}
use Rattle.measure_index.specs.Builder.{AreKeysOf, GatheredKeys, HasOneMore}
use Rattle.measure_index.proofs.FillingLemmas.{of_units, one_more}
use Rattle.measure_index.proofs.Zips.{written_over}
use Rattle.measure_index.proofs.builder.IndexBuilder.push.Goals as goal

pub push_all-requires : goal.push_all-requires
push_all-requires c =
    subst (λ (cs : List GatheredKeys). All (λ x. IsThere c.args.class.now.measures x.kind) cs)
    (sym (c.deref_mut.ensures.value ∙ c.self.view_is))
    (of_units c.args.class.now.measures c.args.self.now c.requires)

pub returns-clause-classes : goal.returns-clause-classes
returns-clause-classes c =
    on_ok_weaker c.push_all.result
    (λ zip before are.
    let olds = c.self.inside.columns.items in
    let news = c.push_all.new.columns in
    let zipped : AllZip (HasOneMore (c.args.node, c.args.class.now)) olds news
    = subst (λ (cs : List GatheredKeys). AllZip (HasOneMore (c.args.node, c.args.class.now)) cs news)
    c.deref_mut.ensures.value zip in
    let long : length news ≡ length olds = AllZip-long (HasOneMore (c.args.node, c.args.class.now)) olds news zipped in
    let whole : take c.self.inside.columns.len (news ++ drop (length news) olds) ≡ news
    = ap (λ n. take n (news ++ drop (length news) olds)) (sym c.deref_mut.ensures.len
    ∙ ap length c.deref_mut.ensures.value ∙ sym long) ∙ written_over news olds long in
    subst (AreKeysOf (before ++ (c.args.node, c.args.class.now) ∷ [])) (sym whole)
    (one_more (c.args.node, c.args.class.now) olds news zipped before
    (subst (AreKeysOf before) (sym c.self.view_is) are)))
    c.push_all.ensures.more
