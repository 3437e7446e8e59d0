use Rattle.std.proofs.Common.{None, length, replicate, ap, ◌∙◌, arith}
use Rattle.value_dict.specs.Recoded.{text_in}
use Rattle.value_dict.proofs.CallerLemmas.{text_total}
use Rattle.range_query.specs.DecodedHits.{decoded_hits}
use Rattle.range_query.proofs.Answering.{answer_few, answer_is_told, answer_more, answer_steps, answer_told, range_none, stands_root}
use Rattle.range_query.proofs.Distinct.{ordered_apart}
use Rattle.range_query.proofs.Lists.{err_other}
use Rattle.range_query.proofs.answer.range.Goals as goal

pub returns-in_default-clause-hits : goal.returns-in_default-clause-hits
returns-in_default-clause-hits g c = λ source h known.
    ap (decoded_hits c.args.dict.now.lists) c.no_hits-hits.ensures
    ∙ range_none _ _ c.args.dict.now.lists c.args.cells.now source h c.dims-dims.ensures.dictionary.distinct
    c.requires.dict_dims c.requires.dims c.requires.known c.requires.order known c.in_default.ensures.none

pub visit-requires : goal.visit-requires
visit-requires g c =
    let wide = c.dims-dims.ensures.value ∙ c.requires.dict_dims in
    record {
      scan = record {
        is_tree = c.requires.tree;
        long = c.requires.dims;
        few = omega (arith, c.requires.dict_dims, c.dims-dims.ensures.dictionary.few_dims);
        distinct = ordered_apart text_total (text_in c.args.dict.now.lists) 0 c.args.cells.now c.requires.order;
      };
      stands = stands_root _ _ c.in-Some.root.0 c.any-cell.result (c.any-cell.ensures.value
          ∙ ap (λ n. replicate n None) wide) c.in-Some.ensures.some;
      few = omega (arith, ap length c.no_hits-hits.ensures);
    }

pub returns-in-Ok-clause-hits : goal.returns-in-Ok-clause-hits
returns-in-Ok-clause-hits g c = λ source h known.
    answer_told _ _ c.args.dict.now.lists c.args.cells.now source h c.dims-dims.ensures.dictionary.distinct
    c.requires.dict_dims c.requires.dims c.requires.known c.requires.order known c.in-Some.root.0 c.any-cell.result
    (c.any-cell.ensures.value ∙ ap (λ n. replicate n None) (c.dims-dims.ensures.value ∙ c.requires.dict_dims))
    c.in-Some.ensures.some
    c.visit.new.hits.items c.no_hits-hits.result.items c.no_hits-hits.ensures (c.in-Ok.ensures.hits source h)

pub returns-in-Ok-clause-told : goal.returns-in-Ok-clause-told
returns-in-Ok-clause-told g c = λ source h known.
    answer_is_told _ _ c.args.dict.now.lists c.args.cells.now source h c.dims-dims.ensures.dictionary.distinct
    c.requires.dict_dims c.requires.dims c.requires.known c.requires.order known c.in-Some.root.0 c.any-cell.result
    (c.any-cell.ensures.value ∙ ap (λ n. replicate n None) (c.dims-dims.ensures.value ∙ c.requires.dict_dims))
    c.in-Some.ensures.some
    c.visit.new.hits.items c.no_hits-hits.result.items c.no_hits-hits.ensures (c.in-Ok.ensures.hits source h)

pub returns-in-Ok-clause-steps : goal.returns-in-Ok-clause-steps
returns-in-Ok-clause-steps g c = λ source h known.
    answer_steps _ _ c.args.dict.now.lists c.args.cells.now source h c.dims-dims.ensures.dictionary.distinct
    c.requires.dict_dims c.requires.dims c.requires.known c.requires.order known c.in-Some.root.0 c.any-cell.result
    (c.any-cell.ensures.value ∙ ap (λ n. replicate n None) (c.dims-dims.ensures.value ∙ c.requires.dict_dims))
    c.in-Some.ensures.some
    c.args.steps.now c.root.new.steps c.visit.new.steps c.in-Some.ensures.steps (c.in-Ok.ensures.steps source h)

pub returns-in-Err-clause-too_many : goal.returns-in-Err-clause-too_many
returns-in-Err-clause-too_many g c = λ e source h known.
    answer_more _ _ c.args.dict.now.lists c.args.cells.now source h c.dims-dims.ensures.dictionary.distinct
    c.requires.dict_dims c.requires.dims c.requires.known c.requires.order known c.in-Some.root.0 c.any-cell.result
    (c.any-cell.ensures.value ∙ ap (λ n. replicate n None) (c.dims-dims.ensures.value ∙ c.requires.dict_dims))
    c.in-Some.ensures.some
    c.args.limit c.no_hits-hits.result.items c.no_hits-hits.ensures (c.in-Err.ensures.too_many (err_other _ _ e) source h)

pub returns-in-Err-clause-steps : goal.returns-in-Err-clause-steps
returns-in-Err-clause-steps g c = λ source h known.
    answer_steps _ _ c.args.dict.now.lists c.args.cells.now source h c.dims-dims.ensures.dictionary.distinct
    c.requires.dict_dims c.requires.dims c.requires.known c.requires.order known c.in-Some.root.0 c.any-cell.result
    (c.any-cell.ensures.value ∙ ap (λ n. replicate n None) (c.dims-dims.ensures.value ∙ c.requires.dict_dims))
    c.in-Some.ensures.some
    c.args.steps.now c.root.new.steps c.visit.new.steps c.in-Some.ensures.steps (c.in-Err.ensures.steps source h)

pub returns-in-Ok-clause-bounded : goal.returns-in-Ok-clause-bounded
returns-in-Ok-clause-bounded g c = λ source h known.
    let few = answer_few _ _ c.args.dict.now.lists c.args.cells.now source h c.dims-dims.ensures.dictionary.distinct
    c.requires.dict_dims c.requires.dims c.requires.known c.requires.order known c.in-Some.root.0 c.any-cell.result
    (c.any-cell.ensures.value ∙ ap (λ n. replicate n None) (c.dims-dims.ensures.value ∙ c.requires.dict_dims))
    c.in-Some.ensures.some in
    omega (arith, few, returns-in-Ok-clause-steps g c source h known)

pub returns-in-Err-clause-bounded : goal.returns-in-Err-clause-bounded
returns-in-Err-clause-bounded g c = λ source h known.
    let few = answer_few _ _ c.args.dict.now.lists c.args.cells.now source h c.dims-dims.ensures.dictionary.distinct
    c.requires.dict_dims c.requires.dims c.requires.known c.requires.order known c.in-Some.root.0 c.any-cell.result
    (c.any-cell.ensures.value ∙ ap (λ n. replicate n None) (c.dims-dims.ensures.value ∙ c.requires.dict_dims))
    c.in-Some.ensures.some in
    omega (arith, few, returns-in-Err-clause-steps g c source h known)
