use Rattle.std.proofs.Common.{◌∙◌, ap, arith, inl, inr, nat_eq, Some, refl, subst, sym}
use Rattle.std.specs.Cmp.Lexicographic.{other_text, pointwise}
use Rattle.std.specs.Option.{option_eq}
use Rattle.std.proofs.lemmas.Bool.Decides.{eqb_tells}
use Rattle.tree_records.specs.Lines.{IsReadAs}
use Rattle.tree_records.proofs.numbers_kept.has_cell.Goals as goal

pub numbers-preserved : goal.numbers-preserved
numbers-preserved g c = λ rooted k n within here small same. elim (eqb_tells k c.numbers.number) [
  | inl e ↦
      let read : IsReadAs c.args.tree.now.now k c.cell_at.result
      = subst (λ j. IsReadAs c.args.tree.now.now j c.cell_at.result) (sym e.1) (c.cell_at.ensures rooted) in
      let found = read.small n here small ∙ ap (λ l. Some l) same in
      other_text c.args.cell.now c.args.cell.now (sym c.if-eq.false ∙ c.eq.ensures
      ∙ ap (λ r. option_eq (pointwise nat_eq) r (Some c.args.cell.now)) found) refl
  | inr f ↦ c.numbers.invariant rooted k n (let apart = f.1 in grind (arith, apart, within)) here small same
]
