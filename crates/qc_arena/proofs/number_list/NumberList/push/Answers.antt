use Rattle.std.proofs.Common.{◌∙◌, ◌<◌, ◌++◌, ◌∷◌, [], ℕ, List, ap, arith, is_ok, subst, sym}
use Rattle.std.specs.List.{All}
use Rattle.std.proofs.lemmas.List.Elements.{All-weaker}
use Rattle.qc_arena.specs.Numbers.{Numbers, run}
use Rattle.qc_arena.proofs.Runs.{all_below, all_pushed, push_run}
use Rattle.qc_arena.proofs.number_list.NumberList.push.Goals as goal

pub returns-then-number-self-clause-ok : goal.returns-then-number-self-clause-ok
returns-then-number-self-clause-ok c =
    let m = c.self.inside in
    push_run m.listed.items m.first m.end c.self.invariant.rises
    ∙ ap (λ (n : Numbers). n.items ++ m.end ∷ []) c.self.view_is
    ∙ ap (λ (k : ℕ). c.args.self.now.items ++ k ∷ []) (sym c.if-number-self.true)

pub invariant_of-self-then-number-self-2 : goal.invariant_of-self-then-number-self-2
invariant_of-self-then-number-self-2 c =
    let m = c.self.inside in
    let n = c.args.number in
    record {
      rises = omega arith;
      small = omega (arith, c.ranges.number.fits);
      before = subst (λ (l : List ℕ). All (λ k. k < n) l) (sym c.in-Ok.ensures.ok)
          (All-weaker (λ k. k < m.end) (λ k. k < n) (λ k l. omega (arith, l, c.if-number-self-2.true))
          (m.listed.items ++ run m.first m.end)
          (all_below m.listed.items m.first m.end c.self.invariant.rises c.self.invariant.before));
    }

pub invariant_of-self-2 : goal.invariant_of-self-2
invariant_of-self-2 c =
    let m = c.self.inside in
    record {
      rises = omega arith;
      small = c.self.invariant.small;
      before = all_pushed c.args.number m.end (is_ok c.push.result) c.append_run.new.listed.items
          c.push.new.self.items c.push.ensures.items
          (subst (λ (l : List ℕ). All (λ k. k < m.end) l) (sym c.in-Ok.ensures.ok)
          (all_below m.listed.items m.first m.end c.self.invariant.rises c.self.invariant.before))
          (omega (arith, c.if-number-self.false, c.if-number-self-2.false));
    }
