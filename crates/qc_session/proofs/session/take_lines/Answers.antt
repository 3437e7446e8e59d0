use Rattle.std.proofs.Common.{◌==◌, true, arith, refl, ◌∙◌, sym, ap, [], ◌∷◌, ◌++◌, ◌≡◌, ◌+◌, length, map, List, ℕ, IsTrue}
use Rattle.std.proofs.lemmas.Bool.Decides.{nat_tests}
use Rattle.qc_session.specs.Lines.{lines_of, without_cr}
use Rattle.qc_session.proofs.Costs.{within-all, within-none, within-push}
use Rattle.qc_session.proofs.Ended.{rose-later}
use Rattle.qc_session.proofs.Steps.{prefix-end, prefix-push, length-push, lines-regroup, skipped-prefix, skipped-push, skips-up_to}
use Rattle.qc_session.proofs.Steps.{so_far-none, so_far-push, stopped-at, wrote-all}
use Rattle.qc_session.proofs.Taken.{by-stop, skips-length}
use Rattle.qc_session.proofs.session.take_lines.Goals as goal

pub lines-init : goal.lines-init
lines-init g c = record {
  later_files = omega arith;
  later_out = omega arith;
  told = refl;
  steady = λ h. h;
  room = omega (arith, c.requires.room, ap length c.requires.skipped);
  short = c.requires.short;
  few = omega (arith, c.requires.few, c.requires.number);
  up_to = rw c.requires.skipped tt;
  so_far = (
    [],
    refl,
    sym c.requires.number,
    rw c.requires.skipped (record { rising = tt; commands = tt }),
    rw (c.requires.skipped, c.requires.pending, c.requires.pins) (so_far-none _ _ _),
    within-none _ _ _ _,
  );
}

pub lines-preserved : goal.lines-preserved
lines-preserved g c =
    let inv = c.lines.invariant in
    let stay = c.in-Ok.ensures.stay in
    let e = c.in-Ok.ensures.ends in
    let split : length (lines_of c.lines.rest.now) ≡ length (lines_of c.split_line.result.1.now) + 1
    = rw c.split_line.ensures.lines (omega arith) in
    let cut : map without_cr (lines_of c.lines.rest.now) ≡ c.trim_cr.result.now
    ∷ map without_cr (lines_of c.split_line.result.1.now) =
    ap (map without_cr) c.split_line.ensures.lines
    ∙ ap (λ (line : List ℕ). line ∷ map without_cr (lines_of c.split_line.result.1.now))
    (sym c.trim_cr.ensures.value) in
    let more = skips-length c.lines.session.skipped.items _ c.trim_cr.result.now _ e.skips in
    record {
      later_files = omega (arith, inv.later_files, stay.later);
      later_out = omega (arith, inv.later_out, c.in-Ok.ensures.later);
      told = stay.told ∙ inv.told;
      steady = λ h. stay.steady (inv.steady h);
      room = omega (arith, inv.room, e.capacity, more, split);
      short = omega (arith, inv.short, c.split_line.ensures.shorter);
      few = omega (arith, inv.few, e.number, split);
      up_to = rw e.number (skips-up_to _ c.trim_cr.result.now _ _ inv.up_to e.skips);
      so_far =
          let (done, all, len, skipped, so_far, within) = inv.so_far in (
            done ++ c.trim_cr.result.now ∷ [],
            lines-regroup done _ _ _ _ all cut,
            length-push done _ _ _ len (ap (λ n. n + 1) e.number),
            skipped-push c.lines.session.number c.trim_cr.result.now _ _ done len inv.up_to e.skips skipped,
            so_far-push _ _ _ _ done _ c.lines.session.number _ _ _ _ _ _ _ len e.skips so_far (rw inv.told at e).by,
            within-push _ _ _ _ done c.trim_cr.result.now c.lines.session.number _ _ _ _ _ _ _ len e.skips so_far within
                (rw inv.told at c.in-Ok.ensures.steps),
          );
    }

pub returns-in-Err : goal.returns-in-Err
returns-in-Err g c =
    let inv = c.lines.invariant in
    let stay = c.in-Err.ensures.stay in
    let e = c.in-Err.ensures.ends in
    let told = g.F.Files.told c.args.files.now in
    let lines = map without_cr (lines_of c.split_line.result.1.now) in
    let cut : map without_cr (lines_of c.lines.rest.now) ≡ c.trim_cr.result.now
    ∷ map without_cr (lines_of c.split_line.result.1.now) =
    ap (map without_cr) c.split_line.ensures.lines
    ∙ ap (λ (line : List ℕ). line ∷ map without_cr (lines_of c.split_line.result.1.now))
    (sym c.trim_cr.ensures.value) in
    let (done, all, len, skipped, so_far, within) = inv.so_far in
    record {
      ends = record {
        skipped =
            skipped-prefix (done ++ c.trim_cr.result.now ∷ []) lines _ (c.lines.session.number + 1) _
            (length-push done _ _ _ len refl) (skips-up_to _ c.trim_cr.result.now _ _ inv.up_to e.skips)
            (lines-regroup done _ _ _ _ all cut)
            (skipped-push c.lines.session.number c.trim_cr.result.now _ _ done len inv.up_to e.skips skipped);
        by = by-stop c.in-Err.stop
            (λ name h. (
              rose-later _ _ _ inv.later_files h.0,
              stopped-at told (IsTrue (g.F.Files.steady c.args.files.now)) _ c.lines.session.skipped.items _ done
                  c.trim_cr.result.now lines name _ _ _ _ _
                  h.1 h.4 h.3 so_far (λ k. h.2 (inv.steady k)) (map without_cr (lines_of c.args.script.now)) (all
                  ∙ ap (λ (xs : List (List ℕ)). done ++ xs) cut) (rw len inv.up_to),
            ))
            (λ h. (
              rose-later _ _ _ inv.later_out h.0,
              prefix-push told _ _ _ done c.trim_cr.result.now lines c.lines.session.number _ _ _ _ _ _ len
                  inv.up_to e.skips so_far h.1
                  (map without_cr (lines_of c.args.script.now)) (all ∙ ap (λ (xs : List (List ℕ)). done ++ xs) cut),
            ))
            (rw inv.told at e).by;
      };
      steps = tt;
    }

no_rest : (rest : List ℕ) → (length rest == 0) ≡ true → rest ≡ []
no_rest [] h = refl
no_rest (b ∷ bs) h = grind (arith, nat_tests, h)

pub returns-in-Ok-flush : goal.returns-in-Ok-flush
returns-in-Ok-flush g c =
    let inv = c.lines.invariant in
    let (done, all, len, skipped, so_far, within) = inv.so_far in
    let whole = all ∙ ap (λ (rest : List ℕ). done ++ map without_cr (lines_of rest))
    (no_rest c.lines.rest.now (sym c.is_empty.ensures ∙ c.lines-test.false)) in
    record {
      ends = record {
        skipped = skipped-prefix done [] _ c.lines.session.number _ len inv.up_to whole skipped;
        by = wrote-all (g.F.Files.told c.args.files.now) _ _ done _ _ _ _ _ _ whole so_far c.in-Ok-flush.ensures.ok;
      };
      steps = within-all (g.F.Files.told c.args.files.now) _ _ done _ _ _ whole within;
    }

pub returns-in-Err-flush : goal.returns-in-Err-flush
returns-in-Err-flush g c =
    let inv = c.lines.invariant in
    let (done, all, len, skipped, so_far, within) = inv.so_far in
    let whole = all ∙ ap (λ (rest : List ℕ). done ++ map without_cr (lines_of rest))
    (no_rest c.lines.rest.now (sym c.is_empty.ensures ∙ c.lines-test.false)) in
    record {
      ends = record {
        skipped = skipped-prefix done [] _ c.lines.session.number _ len inv.up_to whole skipped;
        by = (
          rose-later _ _ _ inv.later_out c.in-Err-flush.ensures.cause.failed,
          prefix-end (g.F.Files.told c.args.files.now) _ _ done _ _ _ _ _ _ so_far c.in-Err-flush.ensures.err whole
              (rw len inv.up_to),
        );
      };
      steps = tt;
    }
