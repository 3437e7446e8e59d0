use Rattle.std.proofs.Common.{ℕ, List, Option, ◌++◌, ◌∙◌, ap, append-nil, append_assoc, arith, length, sym}
use Rattle.std.specs.Int.{w32}
use Rattle.std.specs.List.{flat_map}
use Rattle.std.proofs.lemmas.List.{take_all}
use Rattle.base_table.specs.Places.{rows_in, rows_of}
use Rattle.cube_defs.specs.Rows.{Row}
use Rattle.cube_snapshot.specs.Format.{number}
use Rattle.cube_snapshot.specs.Parts.{row}
use Rattle.cube_snapshot.proofs.Putting.{put_place_next}
use Rattle.cube_snapshot.proofs.writing.put_rows.Goals as goal

pub places-preserved : goal.places-preserved
places-preserved c =
    let t = c.args.table.now in
    put_place_next (row t.dims t.measures).put c.places.out.items c.put_place.new.out.items
    (c.args.out.now.items ++ (number w32).put (length (rows_of t))) t.places c.places.place
    (omega (arith, c.places-test.true, c.places-place-end.ensures.value)) c.places.invariant c.in_ok-put_place.ensures

pub places-init : goal.places-init
places-init c =
    let out = c.args.out.now.items in
    let count = (number w32).put (length (rows_of c.args.table.now)) in
    c.in_ok-put_u32.ensures ∙ ap (λ (n : ℕ). out ++ (number w32).put n) c.count.ensures.value
    ∙ sym (append-nil (out ++ count))

pub returns : goal.returns
returns c =
    let out = c.args.out.now.items in
    let t = c.args.table.now in
    let put = (row t.dims t.measures).put in
    let count = (number w32).put (length (rows_of t)) in
    c.places.invariant
    ∙ ap (λ (places : List (Option (Row ℕ))). (out ++ count) ++ flat_map put (rows_in places))
    (take_all c.places.place t.places (omega (arith, c.places-place-end.ensures.value)))
    ∙ append_assoc out count (flat_map put (rows_of t))
