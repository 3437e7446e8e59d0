use Rattle.std.proofs.Common.{◌≡◌, ◌≤◌, ◌<◌, ◌+◌, ◌*◌, ℕ, None, get_or, length}
use Rattle.std.specs.Option.{option_map}
use Rattle.cell_core.specs.Entry.{value_in}
use Rattle.qc_arena.specs.RecordReaders.{number}
use Rattle.batch_delete.specs.declared.searches.TheConstants.{SEARCHES}
use Rattle.batch_delete.specs.Searching.{stepped}
use Rattle.batch_delete.proofs.searches.step_all.Given as goal

abbrev pub invariant-searches : goal.invariant-searches
invariant-searches g l = record {
  stepped : (j : ℕ) → j < l.k → option_map number (get_or l.nodes j None)
      ≡ stepped l.arena.now l.dim (value_in l.asked) (option_map number (get_or l.fn.nodes j None));
  rest : (j : ℕ) → l.k ≤ j → get_or l.nodes j None ≡ get_or l.fn.nodes j None;
  long : length l.nodes ≡ SEARCHES;
  steps : l.steps ≤ l.fn.steps + 2 * l.k;
}
