use Rattle.std.proofs.Common.{◌≡◌, ◌≤◌, ◌∙◌, ap, arith, length}
use Rattle.std.specs.Mem.{manually_drop_value}
use Rattle.std.proofs.lemmas.List.{take_all}
use Rattle.base_table.specs.Places.{named, rows_of}
use Rattle.cell_closure.proofs.Copies.{listed_more, rows_are, there_more}
use Rattle.cell_closure.proofs.sorted_rows.SortedRows.all.Goals as goal

pub rows-preserved : goal.rows-preserved
rows-preserved c =
    let s = c.self.inside in
    let rows = named (manually_drop_value s.table).value (manually_drop_value s.numbers).value.items in
    record {
      rows = listed_more s.dims s.measures s.count s.codes.items s.amounts.items rows c.self.invariant c.args.self.now
          c.self.view_is c.rows.nos.items c.push_reserved.new.self.items c.rows.place c.rows-test.true
          c.push_reserved.ensures.items c.rows.invariant.rows;
      there = there_more s.dims s.measures s.count s.codes.items s.amounts.items rows c.self.invariant c.args.self.now
          c.self.view_is c.rows.nos.items c.push_reserved.new.self.items c.rows.place c.rows-test.true
          c.push_reserved.ensures.items c.rows.invariant.there;
      len = omega (arith, c.push_reserved.ensures.len, c.rows.invariant.len);
      room = omega (arith, c.push_reserved.ensures.capacity, c.rows.invariant.room);
    }

pub returns-clause-rows : goal.returns-clause-rows
returns-clause-rows c =
    let s = c.self.inside in
    let rows = named (manually_drop_value s.table).value (manually_drop_value s.numbers).value.items in
    let len : length (rows_of c.args.self.now) ≡ length rows
    = ap length (rows_are s.dims s.measures s.count s.codes.items s.amounts.items rows c.self.invariant
    c.args.self.now c.self.view_is) in
    let all : length (rows_of c.args.self.now) ≤ c.rows.place
    = omega (arith, c.self.invariant.len, c.rows-test.false) in
    c.rows.invariant.rows ∙ take_all c.rows.place (rows_of c.args.self.now) all
