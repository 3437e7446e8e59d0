use Rattle.std.proofs.Common.{◌≡◌, ◌<◌, ◌≤◌, ℕ, None, true}
use Rattle.std.specs.FinMap as map
use Rattle.qc_arena.specs.Map.{frame, is_open}
use Rattle.qc_arena.proofs.arena.QcArena.clear.Given as goal

abbrev pub invariant-places : goal.invariant-places
invariant-places g l = record {
  opened : is_open l.self ≡ true;
  out : (q : ℕ) → q < l.place → map.get l.self.now q ≡ None;
  none : (q : ℕ) → l.place-end ≤ q → map.get l.self.now q ≡ None;
  rest : frame l.self ≡ frame l.initial.self;
}
