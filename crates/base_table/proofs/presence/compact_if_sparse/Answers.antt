use Rattle.std.proofs.Common.{◌∙◌, Bool, List, ap, ap₂, arith, filter, length, subst, sym, ℕ}
use Rattle.std.specs.List.{All}
use Rattle.cube_defs.specs.Rows.{Row}
use Rattle.base_table.specs.Last.{picked}
use Rattle.base_table.specs.Places.{IsRow}
use Rattle.base_table.specs.Store.{AreLast, StoredRows}
use Rattle.base_table.proofs.Batches.{last_packed}
use Rattle.base_table.proofs.Columns.{All-picked}
use Rattle.base_table.proofs.Placed.{length-set_marks, picked-set_marks, picked-le}
use Rattle.base_table.proofs.presence.compact_if_sparse.Goals as goal

pub returns-then-len-count-clause-rows : goal.returns-then-len-count-clause-rows
returns-then-len-count-clause-rows c =
    ap₂ (λ (h : List Bool) (l : List (Row ℕ)). picked h l) c.compact.ensures.here
    (ap (λ (s : StoredRows). s.rows) c.compact.ensures.store)
    ∙ picked-set_marks c.args.here.now.items c.args.store.now.rows

pub returns-then-len-count-clause-last : goal.returns-then-len-count-clause-last
returns-then-len-count-clause-last c =
    subst (λ (h : List Bool). AreLast h c.compact.new.store.rows) (sym c.compact.ensures.here)
    (subst (λ (s : StoredRows). AreLast (filter (λ b. b) c.args.here.now.items) s.rows) (sym c.compact.ensures.store)
    (last_packed c.args.here.now.items c.args.store.now.rows c.requires.places c.requires.last))

pub returns-then-len-count-clause-places : goal.returns-then-len-count-clause-places
returns-then-len-count-clause-places c =
    ap (λ (s : StoredRows). length s.rows) c.compact.ensures.store
    ∙ sym (length-set_marks c.args.here.now.items c.args.store.now.rows c.requires.places)
    ∙ ap length (sym c.compact.ensures.here)

pub returns-then-len-count-clause-each : goal.returns-then-len-count-clause-each
returns-then-len-count-clause-each c =
    subst (λ (s : StoredRows). All (IsRow s.dims s.measures) s.rows) (sym c.compact.ensures.store)
    (All-picked (IsRow c.args.store.now.dims c.args.store.now.measures) c.args.here.now.items c.args.store.now.rows
    c.requires.each)

pub returns-then-len-count-clause-dense : goal.returns-then-len-count-clause-dense
returns-then-len-count-clause-dense c
    = omega (
      arith,
      ap length c.compact.ensures.here,
      length-set_marks c.args.here.now.items c.args.store.now.rows c.requires.places,
      c.requires.count,
    )

pub returns-then-len-count-clause-fewer : goal.returns-then-len-count-clause-fewer
returns-then-len-count-clause-fewer c
    = omega (
      arith,
      ap length c.compact.ensures.here,
      length-set_marks c.args.here.now.items c.args.store.now.rows c.requires.places,
      picked-le c.args.here.now.items c.args.store.now.rows,
    )
