use Rattle.std.proofs.Common.{◌≡◌, ◌<◌, ◌≤◌, ◌++◌, ◌∷◌, [], refl, sym, ◌∙◌, arith, ap, cond, length, not, subst, get_or, ℕ}
use Rattle.cell_closure.specs.declared.parts.Cut.{Cut}
use Rattle.cell_closure.specs.Runs.{no_row}
use Rattle.cell_closure.proofs.Runs.{next_cut, cuts_end, cut_within}
use Rattle.cell_closure.proofs.parts.list_cuts.Goals as goal

pub cuts-preserved : goal.cuts-preserved
cuts-preserved c =
    let items : c.push.new.self.items ≡ c.cuts.cuts.items
    ++ record {
      code = (get_or c.args.keyed.now c.cuts.start no_row).code;
      start = c.cuts.start;
      end
          = c.run_end-end.result;
    } ∷ [] =
    c.push.ensures.items ∙ ap (λ b. cond b
    (c.cuts.cuts.items ++ record {
      code = (get_or c.args.keyed.now c.cuts.start no_row).code;
      start
          = c.cuts.start;
      end = c.run_end-end.result;
    } ∷ []) c.cuts.cuts.items) (c.is_err.ensures.negation
    ∙ ap not c.if-is_err.false) in
    record {
      bound = c.run_end-end.ensures.within.1;
      runs = next_cut c.args.keyed.now c.cuts.cuts.items _ c.cuts.start c.run_end-end.result _ _
          c.run_end-end.ensures.within.0 c.run_end-end.ensures.within.1 refl c.run_end-end.ensures.same
          c.run_end-end.ensures.other items c.cuts.invariant.runs;
      within =
          let h : c.cuts.start < c.run_end-end.result = c.run_end-end.ensures.within.0 in
          subst (λ cuts. (k : ℕ) (d : Cut) → k < length cuts → ((get_or cuts k d).start ≤ (get_or cuts k d).end)
          × ((get_or cuts k d).end ≤ length c.args.keyed.now)) (sym items)
          (cut_within c.cuts.cuts.items _ (length c.args.keyed.now) c.cuts.invariant.within
          (omega arith) c.run_end-end.ensures.within.1);
    }

pub returns-clause-runs : goal.returns-clause-runs
returns-clause-runs c =
    cuts_end c.args.keyed.now c.cuts.cuts.items c.cuts.start _ c.cuts-test.false c.cuts.invariant.runs
