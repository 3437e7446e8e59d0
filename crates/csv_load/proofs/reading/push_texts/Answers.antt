use Rattle.std.proofs.Common.{◌∙◌, ◌≡◌, ◌<◌, ◌≤◌, ◌+◌, sym, ap, arith, true, false, get_or, [], length, refl}
use Rattle.std.specs.Str.{is_utf8}
use Rattle.std.proofs.lemmas.Str.{is_utf8-from_IsUtf8}
use Rattle.csv_load.specs.FileRows.{needed_of}
use Rattle.csv_load.proofs.Fields.{bad-first, good-first, not-utf8, short-bad, short-good, texts-more}
use Rattle.csv_load.proofs.Names.{needed-some, row-within}
use Rattle.csv_load.proofs.Sizes.{room-more}
use Rattle.csv_load.proofs.reading.push_texts.Goals as goal
use Rattle.csv_load.proofs.reading.push_texts.Goals.{then-text-gt-MAX_TEXT, else-text-gt-MAX_TEXT}

pub returns-in_default-clause-err : goal.returns-in_default-clause-err
returns-in_default-clause-err c =
    let fields = needed_of c.args.row.now in
    let low : 1 + c.loop-dim.dim < 1 + length c.args.row.now.schema.now.dims = omega (arith, c.dims-dim-end.ensures.count) in
    let high : 1 + length c.args.row.now.schema.now.dims ≤ length fields
    = omega (arith, row-within c.args.row.now) in
    let bad : is_utf8 (get_or fields (1 + c.loop-dim.dim) []) ≡ false
    = rw c.needed-field.ensures at (not-utf8 _ c.in_default.ensures.cases.0) in (
      refl,
      sym c.loop-dim.invariant.utf8
          ∙ bad-first is_utf8 fields (1 + c.loop-dim.dim) (1 + length c.args.row.now.schema.now.dims) low high bad,
    )

pub push-requires : goal.push-requires
push-requires c =
    let fields = needed_of c.args.row.now in
    let low : 1 + c.loop-dim.dim < 1 + length c.args.row.now.schema.now.dims = omega (arith, c.dims-dim-end.ensures.count) in
    let high : 1 + length c.args.row.now.schema.now.dims ≤ length fields
    = omega (arith, row-within c.args.row.now) in
    let one : c.in-Ok.text.now ≡ get_or fields (1 + c.loop-dim.dim) [] = c.in-Ok.ensures.cases.0
    ∙ c.needed-field.ensures in
    omega (
      arith,
      c.requires,
      ap length one,
      room-more c.loop-dim.texts c.args.texts.now fields (1 + c.loop-dim.dim) (1 + length c.args.row.now.schema.now.dims) 1
          low high c.loop-dim.invariant.texts,
    )

pub loop-dim-preserved : goal.loop-dim-preserved
loop-dim-preserved c =
    let fields = needed_of c.args.row.now in
    let low : 1 + c.loop-dim.dim < 1 + length c.args.row.now.schema.now.dims = omega (arith, c.dims-dim-end.ensures.count) in
    let high : 1 + length c.args.row.now.schema.now.dims ≤ length fields
    = omega (arith, row-within c.args.row.now) in
    let one : c.in-Ok.text.now ≡ get_or fields (1 + c.loop-dim.dim) [] = c.in-Ok.ensures.cases.0
    ∙ c.needed-field.ensures in
    let good : is_utf8 (get_or fields (1 + c.loop-dim.dim) []) ≡ true
    = rw c.needed-field.ensures at
    (is_utf8-from_IsUtf8 c.needed-field.result.now c.in-Ok.ensures.cases.1) in
    let place : 1 + (c.loop-dim.dim + 1) ≡ 1 + c.loop-dim.dim + 1 = omega arith in
    record {
      texts = rw (c.in_ok-push.ensures.ok, one, place)
          (sym (texts-more c.loop-dim.texts fields (1 + c.loop-dim.dim) (1 + length c.args.row.now.schema.now.dims) low high)
          ∙ c.loop-dim.invariant.texts);
      utf8 = rw place (sym (good-first is_utf8 fields (1 + c.loop-dim.dim) (1 + length c.args.row.now.schema.now.dims) low high
          good) ∙ c.loop-dim.invariant.utf8);
      short = elim c.if-text-gt-MAX_TEXT.branch [
        | then-text-gt-MAX_TEXT w ↦
            rw w.are_short-is (sym (short-bad fields (1 + c.loop-dim.dim)
            (1 + length c.args.row.now.schema.now.dims) c.loop-dim.are_short _ low high
            (omega (arith, ap length one, w.if-text-gt-MAX_TEXT.true)) c.loop-dim.invariant.short))
        | else-text-gt-MAX_TEXT w ↦
            rw (w.are_short-is, place)
            (short-good fields (1 + c.loop-dim.dim) (1 + length c.args.row.now.schema.now.dims) c.loop-dim.are_short _ low high
            (omega (arith, ap length one, w.if-text-gt-MAX_TEXT.false)) c.loop-dim.invariant.short)
      ];
    }

pub needed-field-requires : goal.needed-field-requires
needed-field-requires c
    = omega (
      arith,
      c.args.row.now.are.all,
      needed-some c.args.row.now.columns.now.has_op c.args.row.now.schema.now,
      c.dims-dim-end.ensures.count,
    )
