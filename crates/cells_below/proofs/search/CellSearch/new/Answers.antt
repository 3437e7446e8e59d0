use Rattle.std.proofs.Common.{◌≡◌, ◌+◌, ◌*◌, ◌-◌, ◌%◌, ◌^◌, ◌<◌, ap, sym, ◌∙◌, arith}
use Rattle.std.proofs.lemmas.Nat.{one_shl, pow_pos}
use Rattle.cube_laws.specs.Parts.{value_count}
use Rattle.cells_below.proofs.Cells.{whole_cell}
use Rattle.cells_below.proofs.search.CellSearch.new.Goals as goal

pub returns : goal.returns
returns g c =
    let upper = c.args.upper.now in
    let u = upper.cell.now in
    let some : 0 < 2 ^ upper.values = pow_pos upper.values in
    let all : 1 * 2 ^ upper.values % 4294967296 - 1 + 1 ≡ 2 ^ value_count u
    = omega (arith, some, one_shl upper.values 32 (omega arith)) ∙ ap (λ n. 2 ^ n) upper.counted in
    record {
      way = record {
        cell = c.copy.ensures.value ∙ sym (whole_cell u _ all);
        long = c.copy.ensures.dims ∙ upper.long;
        few = omega arith;
        there = λ i l. absurd (omega (arith, l));
        reached = λ source h i l. absurd (omega (arith, l));
      };
    }
