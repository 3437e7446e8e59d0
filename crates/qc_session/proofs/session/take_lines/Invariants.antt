use Rattle.std.proofs.Common.{◌≡◌, ◌≤◌, ◌<◌, ◌+◌, ◌++◌, ◌^◌, ℕ, List, length, map, true, vec_len, vec_capacity}
use Rattle.cube_defs.specs.declared.limits.TheConstants.{MAX_FILE}
use Rattle.qc_session.specs.Lines.{lines_of, without_cr}
use Rattle.qc_session.specs.Pins.{pinned_state_in}
use Rattle.qc_session.specs.Runs.{AreSkipped, AreUpTo}
use Rattle.qc_session.proofs.Costs.{IsWithinSoFar}
use Rattle.qc_session.proofs.Steps.{GatheredSoFar}
use Rattle.qc_session.proofs.session.take_lines.Given as goal

abbrev pub invariant-lines : goal.invariant-lines
invariant-lines g l = record {
  later_files : g.F.Files.faults l.fn.files ≤ g.F.Files.faults l.files;
  later_out : g.O.Sink.faults l.fn.out ≤ g.O.Sink.faults l.out;
  told : g.F.Files.told l.files ≡ g.F.Files.told l.fn.files;
  steady : g.F.Files.steady l.fn.files ≡ true → g.F.Files.steady l.files ≡ true;
  room : vec_len l.session.skipped + length (lines_of l.rest) ≤ vec_capacity l.session.skipped;
  short : length l.rest ≤ MAX_FILE;
  few : l.session.number + length (lines_of l.rest) < 2 ^ 32;
  up_to : AreUpTo l.session.number l.session.skipped.items;
  so_far : (done : List (List ℕ)) × (map without_cr (lines_of l.script) ≡ done ++ map without_cr (lines_of l.rest))
      × (length done ≡ l.session.number)
      × AreSkipped done l.session.skipped.items
      × GatheredSoFar (g.F.Files.told l.fn.files) l.fn.session.pinned.now.state l.session.skipped.items done
      (pinned_state_in l.session.pinned) l.session.pending (g.O.Sink.taken l.fn.out) (g.O.Sink.taken l.out)
      × IsWithinSoFar (g.F.Files.told l.fn.files) l.fn.session.pinned.now.state l.session.skipped.items done
      l.fn.steps l.steps;
}

abbrev pub decreases-lines : goal.decreases-lines
decreases-lines g l = length l.rest
