use Rattle.std.proofs.Common.{◌≡◌, ◌<◌, ◌-◌, ◌+◌, ◌∙◌, ◌++◌, ◌∷◌, ℕ, [], All, List, Some, ap, arith, get_or, length, length-append, subst}
use Rattle.std.proofs.Common.{sym, take, is_some, true, refl}
use Rattle.std.proofs.lemmas.List.{take_more_set}
use Rattle.std.proofs.lemmas.List.Elements.{All-push}
use Rattle.std.specs.Int.{w32}
use Rattle.base_table.specs.Places.{values_of}
use Rattle.cube_defs.specs.Cell.{Cell}
use Rattle.value_dict.specs.Decoded.{AreCodes}
use Rattle.cube_snapshot.specs.Format.{get_times, number}
use Rattle.cube_snapshot.proofs.Looping.{goes_on, stops, with_prefix}
use Rattle.cube_snapshot.proofs.NextRow.{code_after, codes_push, values_push}
use Rattle.cube_snapshot.proofs.rows.codes_at.Goals as goal

pub returns-in_err-code-clause-finds : goal.returns-in_err-code-clause-finds
returns-in_err-code-clause-finds c =
    let lists = c.args.dict.now.lists in
    let dim = c.dims.dim in
    let values = values_of (take dim c.dims.cell) in
    let inv = c.dims.invariant in
    let lt : dim < length lists = omega (arith, c.dims-test.true, c.dims-dim-end.ensures.value) in
    rw c.from_residual.ensures
    (λ y e are.
    stops (number w32) values (length lists) dim c.dims.rest.now
    (get_times (number w32) (length lists) c.args.bytes.now) (AreCodes lists) lt
    (λ z f more h. c.in_err-code.ensures z f
    (subst (λ (k : ℕ). z.0 < length (get_or lists k [])) inv.count_is (code_after lists values z.0 more h)))
    inv.so_far y e are)

pub dims-preserved : goal.dims-preserved
dims-preserved c =
    let lists = c.args.dict.now.lists in
    let dim = c.dims.dim in
    let code = c.in_ok-code.code in
    let front : Cell ℕ = take dim c.dims.cell in
    let inv = c.dims.invariant in
    let lt : dim < length lists = omega (arith, c.dims-test.true, c.dims-dim-end.ensures.value) in
    let within : dim < length c.dims.cell = omega (arith, lt, inv.wide, c.requires) in
    let took : take (dim + 1) c.set.new.self ≡ front ++ Some code ∷ [] = ap (take (dim + 1)) c.set.ensures.value
    ∙ take_more_set c.dims.cell dim (Some code) within in
    let values : values_of (take (dim + 1) c.set.new.self) ≡ values_of front ++ code ∷ [] = ap values_of took
    ∙ values_push front code in
    record {
      wide = c.set.ensures.dims ∙ inv.wide;
      full = subst (All (λ entry. is_some entry ≡ true)) (sym took)
          (All-push (λ entry. is_some entry ≡ true) front (Some code) inv.full refl);
      count_is = omega (
        arith,
        ap (λ (l : List ℕ). length l) values,
        length-append (values_of front) (code ∷ []),
        inv.count_is,
      );
      known = subst (AreCodes lists) (sym values)
          (codes_push lists (values_of front) code inv.known (omega (arith, inv.count_is, lt))
          (subst (λ (k : ℕ). code < length (get_or lists k [])) (sym inv.count_is) c.in_ok-code.ensures.1));
      so_far = ap (λ (l : List ℕ). with_prefix (number w32) l
          (get_times (number w32) (length lists - (dim + 1)) c.in_ok-code.after.now)) values
          ∙ goes_on (number w32) (values_of front) (length lists) dim c.dims.rest.now
          (get_times (number w32) (length lists) c.args.bytes.now) code c.in_ok-code.after.now lt
          c.in_ok-code.ensures.0 inv.so_far;
    }
