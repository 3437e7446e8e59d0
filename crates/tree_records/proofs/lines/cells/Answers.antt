use Rattle.std.proofs.Common.{◌∙◌, ◌∷◌, [], ap, arith, inl, inr, length, slice_get, subst, sym}
use Rattle.std.proofs.lemmas.List.{length-append}
use Rattle.tree_records.specs.Lines.{IsReadAs}
use Rattle.tree_records.proofs.Lists.{pushed}
use Rattle.tree_records.proofs.lines.cells.Goals as goal

pub numbers-preserved : goal.numbers-preserved
numbers-preserved g c =
    let tree = c.args.tree.now.now in
    let before = c.numbers.cells.items in
    let inv = c.numbers.invariant in
    record {
      count = ap length c.in_ok-push.ensures.items ∙ length-append before (c.cell_at.result ∷ [])
          ∙ omega (arith, inv.count);
      read = λ rooted k read e.
          elim (pushed before c.cell_at.result read k (ap (λ xs. slice_get xs k) (sym c.in_ok-push.ensures.items) ∙ e)) [
            | inl old ↦ inv.read rooted k read old
            | inr last ↦
                subst (λ r. IsReadAs tree k r) last.1
                (subst (λ n. IsReadAs tree n c.cell_at.result) (sym (last.0 ∙ inv.count)) (c.cell_at.ensures rooted))
          ];
    }
