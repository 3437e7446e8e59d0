use Rattle.std.proofs.Common.{[], ℕ, ◌+◌, ◌∙◌, ap, arith, subst, sym}
use Rattle.std.specs.List.{AllZip}
use Rattle.cube_laws.proofs.CallerLemmas.{take_all}
use Rattle.std.proofs.lemmas.List.Elements.{All-get_or}
use Rattle.aggregates.specs.Views.{IsThere}
use Rattle.measure_index.specs.ColumnKeys.{IsKey}
use Rattle.measure_index.proofs.Zips.{zip_next}
use Rattle.measure_index.proofs.keying.keys_of.Goals as goal

pub of-requires : goal.of-requires
of-requires c =
    subst (λ x. IsThere x.1.measures c.args.kind) (sym c.class-item.is)
    (All-get_or (λ x. IsThere x.1.measures c.args.kind) c.args.classes.now c.classes.class-index c.class-item.result
    c.classes-test.true c.requires)

pub classes-preserved : goal.classes-preserved
classes-preserved c =
    let was = c.classes.invariant in
    let pushed = c.push_reserved.ensures in
    record {
      made = zip_next (IsKey c.args.kind) c.args.classes.now c.classes.class-index c.class-item.result
          c.class-item.result c.classes.keys.items c.push_reserved.new.self.items _ c.classes-test.true
          c.class-item.is was.made pushed.items c.of.ensures;
      len = pushed.len ∙ ap (λ (n : ℕ). n + 1) was.len;
      room = rw (pushed.capacity) was.room;
    }

pub returns : goal.returns
returns c = subst (λ xs. AllZip (IsKey c.args.kind) xs c.classes.keys.items)
    (take_all c.args.classes.now c.classes.class-index (omega (arith, c.classes-test.false))) c.classes.invariant.made

pub classes-init : goal.classes-init
classes-init c =
    let made = c.in_ok-keys.ensures in
    record {
      made = subst (AllZip (IsKey c.args.kind) []) (sym made.items) tt;
      len = made.len;
      room = omega (arith, made.exact);
    }
