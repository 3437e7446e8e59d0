use Rattle.std.proofs.Common.{◌≡◌, ◌∙◌, ◌+◌, ◌-◌, ap, ap₂, arith, map, sym, take}
use Rattle.aggregates.specs.Views.{part_in}
use Rattle.cube_defs.specs.Rows as defs
use Rattle.cube_laws.specs.Total.{combine_parts}
use Rattle.batch_delete.proofs.Lesser.{parts_told}
use Rattle.batch_delete.proofs.subtracting.without_part.Goals as goal
use Rattle.qc_arena.proofs.CallerLemmas.{length-first}

pub returns : goal.returns
returns c = λ o long e.
    let w = c.args.whole.now in
    let p = c.args.part.now in
    let same : w.measures ≡ p.measures = c.requires.measures in
    let sums : p.count + o.count ≡ w.count = ap (λ (a : defs.Agg). a.count) e in
    let parts : combine_parts (map part_in (take p.measures p.parts)) o.parts ≡ map part_in (take w.measures w.parts)
    = ap (λ (a : defs.Agg). a.parts) e in
    let count : w.count - p.count ≡ o.count = omega arith in
    let past = c.parts-test.false in
    let four = c.parts.invariant.four in
    let as_many = c.parts.invariant.as_many in
    let is = parts_told w.measures p.parts w.parts c.parts.parts o.parts (omega arith) (omega arith) (omega arith) (long
    ∙ length-first p.measures p.parts (omega arith) ∙ sym same) (λ k l. c.parts.invariant.told k (omega arith))
    (ap (λ n. combine_parts (map part_in (take n p.parts)) o.parts) same ∙ parts) in
    ap₂ (λ n ps. let a : defs.Agg = record { count = n; parts = ps } in a) count is
