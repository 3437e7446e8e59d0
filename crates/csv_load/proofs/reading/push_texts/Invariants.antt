use Rattle.std.proofs.Common.{◌≡◌, ◌+◌, ◌++◌, length}
use Rattle.std.specs.Prelude.{slice_range, ◌&&◌}
use Rattle.std.specs.List.{list_all}
use Rattle.std.specs.Str.{is_utf8}
use Rattle.csv_load.specs.Files.{is_short}
use Rattle.csv_load.specs.FileRows.{needed_of}
use Rattle.csv_load.proofs.reading.push_texts.Given as goal

abbrev pub invariant-loop-dim : goal.invariant-loop-dim
invariant-loop-dim l =
    let fields = needed_of l.row in
    let end = 1 + length l.row.schema.now.dims in
    record {
      texts : l.texts ++ slice_range fields (1 + l.dim) end ≡ l.initial.texts ++ slice_range fields 1 end;
      utf8 : list_all is_utf8 (slice_range fields (1 + l.dim) end) ≡ list_all is_utf8 (slice_range fields 1 end);
      short : (l.are_short && list_all is_short (slice_range fields (1 + l.dim) end)) ≡ list_all is_short
          (slice_range fields 1 end);
    }
