use Rattle.std.proofs.Common.{IsTrue, List, Option, ap, arith, drop, length, sym, take, ℕ, ◌∙◌, ◌≡◌, ◌≤◌}
use Rattle.std.proofs.lemmas.List.{length-map, length-take-le}
use Rattle.std.proofs.lemmas.List.Elements.{All-append, All-drop, All-take}
use Rattle.cube_defs.specs.Cell.{upto}
use Rattle.cell_core.specs.Codes.{entry_of, is_kept}
use Rattle.cell_core.proofs.CodesLemmas.{entries-prefix}
use Rattle.cell_core.proofs.cell.upto.Goals as goal

long : (c : goal.After-upto) → length c.upto.new.c ≡ c.c.inside.dims
long c =
    let few : c.c.inside.dims ≤ 16 = c.c.invariant.0 in
    c.upto.auto.c ∙ length-take-le c.c.inside.dims c.c.inside.codes (omega (arith, few, c.c.told))

pub returns-clause-value : goal.returns-clause-value
returns-clause-value c = entries-prefix c.upto.new.c _ c.c.inside.dims (long c) ∙ c.upto.ensures.upto
    ∙ ap (λ (x : List (Option ℕ)). upto x c.args.j) c.c.view_is

pub returns-clause-dims : goal.returns-clause-dims
returns-clause-dims c =
    ap (λ (es : List (Option ℕ)). length es) (entries-prefix c.upto.new.c _ c.c.inside.dims (long c))
    ∙ length-map c.upto.new.c entry_of
    ∙ c.upto.auto.c
    ∙ sym (length-map (take c.c.inside.dims c.c.inside.codes) entry_of)
    ∙ ap (λ (es : List (Option ℕ)). length es) c.c.view_is

pub invariant_of-c : goal.invariant_of-c
invariant_of-c c =
    let P = λ (code : ℕ). IsTrue (is_kept code) in
    let kept = c.c.invariant.1 in (
      c.c.invariant.0,
      All-append P c.upto.new.c _
          (c.upto.ensures.kept (All-take P c.c.inside.dims c.c.inside.codes kept))
          (All-drop P c.c.inside.dims (drop 0 c.c.inside.codes) (All-drop P 0 c.c.inside.codes kept)),
    )
