use Rattle.std.proofs.Common.{◌∙◌, ap, arith, length, map, subst, sym}
use Rattle.std.proofs.lemmas.List.{length-map}
use Rattle.std.proofs.lemmas.Simd.{map-map}
use Rattle.cube_defs.specs.Text.{text_cmp}
use Rattle.cube_defs.specs.Tree.{distinct}
use Rattle.value_dict.specs.declared.in_order.Keyed.{Keyed}
use Rattle.value_dict.specs.Recoded.{HaveTexts, text_in}
use Rattle.value_dict.proofs.in_order.in_order.Goals as goal

pub replaced-requires : goal.replaced-requires
replaced-requires c =
    let code = λ (k : Keyed). k.code in
    let same = ap length (c.in_ok-keyed.ensures.codes ∙ c.deref.ensures.value) in
    omega (
      arith,
      same,
      length-map c.in_ok-keyed.keyed.items code,
      c.sorted.ensures.few,
      ap length c.deref-2.ensures.value,
      c.args.codes.ok,
    )

pub returns-clause-value : goal.returns-clause-value
returns-clause-value c =
    let text = text_in c.args.dict.now.lists c.args.dim in
    let code = λ (k : Keyed). k.code in
    ap (map text) (c.replaced.ensures ∙ ap (map code) c.deref-2.ensures.value)
    ∙ map-map text code c.sorted.result.items
    ∙ c.sorted.ensures.value
    ∙ ap (distinct text_cmp) (sym (map-map text code c.in_ok-keyed.keyed.items)
    ∙ ap (map text) (c.in_ok-keyed.ensures.codes ∙ c.deref.ensures.value))

pub returns-clause-within : goal.returns-clause-within
returns-clause-within c = λ h.
    let has = HaveTexts c.args.dict.now.lists c.args.dim in
    let code = λ (k : Keyed). k.code in
    subst has (sym (c.replaced.ensures ∙ ap (map code) c.deref-2.ensures.value))
    (c.sorted.ensures.within (subst has (sym (c.in_ok-keyed.ensures.codes ∙ c.deref.ensures.value)) h))
