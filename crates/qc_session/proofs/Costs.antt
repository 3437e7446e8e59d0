-- What the lines of a script take is within what they may cost.
use Rattle.std.proofs.Common.{◌≡◌, ◌≤◌, ◌<◌, ◌+◌, ◌∙◌, ℕ, Bool, List, [], ◌∷◌, ◌++◌, length, true, false, refl}
use Rattle.std.proofs.Common.{sym, subst, ap, arith, append-nil, map, Option, Some, None, IfSome, inl, inr}
use Rattle.std.specs.Prelude.{IsErr, IsSomeAnd, Result, Ok, Err, OnOk, fold, nat_lt, if◌then◌else◌}
use Rattle.std.specs.Option.{option_map}
use Rattle.std.proofs.lemmas.Bool.Decides.{nat_tests}
use Rattle.std.proofs.lemmas.List.Sums.{fold-append}
use Rattle.aggregates.specs.declared.kind.AggKind.{AggKind}
use Rattle.cell_core.specs.Gives.{Gives}
use Rattle.csv_load.specs.Batch.{Change}
use Rattle.csv_load.specs.Faults.{Fault}
use Rattle.csv_load.specs.Files.{batch_in}
use Rattle.cube_defs.specs.Text.{Text}
use Rattle.cube_defs.specs.declared.limits.TheConstants.{MAX_FILE}
use Rattle.qc_io.specs.Outside.{FileContents}
use Rattle.pinned_view.specs.Versions.{Version}
use Rattle.query_answers.specs.Queries.{names_kind, query_cost}
use Rattle.query_script.specs.Commands.{command_in}
use Rattle.query_script.specs.Faults.{LineFault}
use Rattle.query_script.specs.Queries.{Query}
use Rattle.query_script.specs.Questions.{Ask, Question}
use Rattle.warehouse.specs.Batch as batches
use Rattle.warehouse.specs.Batch.{Applied, FileUse, Refusal, result, result_of}
use Rattle.warehouse.specs.InPlace.{IsWithinCost}
use Rattle.warehouse.specs.Loading.{cost_of_load}
use Rattle.warehouse.specs.State.{State}
use Rattle.warehouse.specs.Stored.{applied_in, refusal_in}
use Rattle.warehouse.specs.declared.refused.Applied as code
use Rattle.warehouse.specs.declared.refused.Refused.{Refused}
use Rattle.warehouse.specs.Widening.{WidenRefusal, cost_of_widening, widen_result}
use Rattle.qc_session.specs.Costs.{Costed, IsWithin, IsWithinScript, batch_cost, both_costs, taken_bytes_cost, changes_cost, costed_step}
use Rattle.qc_session.specs.Costs.{file_cost, item_cost, line_cost, question_cost, script_cost, bytes_cost, widen_cost, widening_cost}
use Rattle.qc_session.specs.Forms.{FileNames}
use Rattle.qc_session.specs.Lines.{is_passed, script_lines}
use Rattle.qc_session.specs.Pins.{PinnedState, pin_in, unpinned}
use Rattle.qc_session.specs.Runs.{IsScriptOf, IsStartOf, Took}
use Rattle.qc_session.specs.Session.{Skips}
use Rattle.qc_session.specs.Transcript.{Item, Run, is_skipped, item, items, run_at, step, transcript}
use Rattle.qc_session.proofs.Steps.{GatheredSoFar, items-later, items-push, skipped_now, took-skips}

pub no-steps : (n : ℕ) → IsWithin (Some 0) n n
no-steps n = omega arith

within-both : (first second : Option ℕ) (from mid to : ℕ) → IsWithin first from mid → IsWithin second mid to
    → IsWithin (both_costs first second) from to
within-both (Some first) (Some second) from mid to h more = omega (arith, h, more)
within-both _ second from mid to h more = tt

-- a query that no index answers
pub bare-within : (s : State) (has_index : AggKind → Bool) → ((kind : AggKind) → has_index kind ≡ false)
    → (query : Query) (from to : ℕ) → to ≤ from + query_cost s has_index query
    → to ≤ from + query_cost s (λ kind. false) query
bare-within s has_index none query from to w
    = subst (λ (f : AggKind → Bool). to ≤ from + query_cost s f query) (λ j kind. none kind j) w

-- where a name is pinned, no dimension comes
pub pinned-within : (s : State) (pins : List Version) (name value : Text) (n : ℕ) → 0 < length pins
    → IsWithin (widen_cost s (map pin_in pins) name value) n n
pinned-within s [] name value n some = absurd (omega (arith, some))
pinned-within s (pin ∷ pins) name value n some = no-steps n

-- a dimension that came
pub widened-within : (s : State) (pins : List Version) (name value : Text) (from to : ℕ) → (0 < length pins → ⊥)
    → to ≤ from + cost_of_widening s → IsWithin (widen_cost s (map pin_in pins) name value) from to
widened-within s (pin ∷ pins) name value from to free w = absurd (free (omega arith))
widened-within s [] name value from to free w = by (widen_result s name value)
  where
    by : (r : Result Applied WidenRefusal) → IsWithin (widening_cost s r) from to
    by (Err refusal) = tt
    by (Ok applied) = w

-- one that was refused
pub unwidened-within : (s : State) (pins : List Version) (name value : Text) (refusal : WidenRefusal) (from to : ℕ)
    → (0 < length pins → ⊥) → (length pins ≡ 0 → widen_result s name value ≡ Err refusal)
    → IsWithin (widen_cost s (map pin_in pins) name value) from to
unwidened-within s (pin ∷ pins) name value refusal from to free is = absurd (free (omega arith))
unwidened-within s [] name value refusal from to free is = rw (is refl) tt

-- a file that is no batch isn't taken
fault-not-taken : (s : State) (fault : Fault) (applied : Applied) → result_of s (Err fault) ≡ Ok applied → ⊥
fault-not-taken s fault applied e = cc

-- a batch that was taken
batch-within : (s : State) (bytes : List ℕ) (applied : Applied) (from to : ℕ)
    → result s batches.Apply bytes ≡ Ok applied → IsWithinCost s bytes from to → IsWithin (batch_cost s bytes) from to
batch-within s bytes applied from to does w = rw does (by (batch_in s.schema bytes) refl)
  where
    by : (r : Result (List (Change Text)) Fault) → batch_in s.schema bytes ≡ r
        → IsWithin (changes_cost s r (Ok applied)) from to
    by (Err fault) read = absurd (fault-not-taken s fault applied (rw read at does))
    by (Ok changes) read = w changes read

pub applied-within : (r : Result code.Applied Refused) (s : State) (bytes : List ℕ) (after : State) (from to : ℕ)
    → Gives refusal_in (applied_in after) r (result s batches.Apply bytes) → OnOk r (IsWithinCost s bytes from to)
    → OnOk r (IsWithin (taken_bytes_cost batches.Apply s bytes) from to)
applied-within (Ok applied) s bytes after from to gives w = batch-within s bytes (applied_in after applied) from to gives w
applied-within (Err refused) s bytes after from to gives w = tt

-- a base file that was taken
pub loaded-within : (r : Result code.Applied Refused) (s : State) (bytes : List ℕ) (after : State) (from to : ℕ)
    → Gives refusal_in (applied_in after) r (result s batches.Load bytes) → OnOk r (to ≤ from + cost_of_load after)
    → OnOk r (IsWithin (taken_bytes_cost batches.Load s bytes) from to)
loaded-within (Ok applied) s bytes after from to gives w = rw gives w
loaded-within (Err refused) s bytes after from to gives w = tt

-- one that was refused
refused-within : (s : State) (bytes : List ℕ) (kind : FileUse) (refusal : Refusal) (from to : ℕ)
    → result s kind bytes ≡ Err refusal → (kind ≡ batches.Apply → IsErr (batch_in s.schema bytes) → to ≡ from)
    → IsWithin (taken_bytes_cost kind s bytes) from to
refused-within s bytes batches.Load refusal from to does still = rw does tt
refused-within s bytes batches.Apply refusal from to does still = rw does (by (batch_in s.schema bytes) (still refl))
  where
    by : (r : Result (List (Change Text)) Fault) → (IsErr r → to ≡ from)
        → IsWithin (changes_cost s r (Err refusal)) from to
    by (Err fault) still = rw (still refl) (no-steps from)
    by (Ok changes) still = tt

pub unmoved-within : {Texts : Type 0} (s : State) (bytes : List ℕ) (kind : FileUse) (refusal : Option Refusal)
    (texts_of : Refusal → Texts) (words : Texts) (from to : ℕ) → Some words ≡ option_map texts_of refusal
    → IfSome refusal (λ f. result s kind bytes ≡ Err f)
    → (kind ≡ batches.Apply → IsErr (batch_in s.schema bytes) → to ≡ from) → IsWithin (taken_bytes_cost kind s bytes) from to
unmoved-within s bytes kind None texts_of words from to is gives still = absurd (cc)
unmoved-within s bytes kind (Some refusal) texts_of words from to is gives still
    = refused-within s bytes kind refusal from to gives still

-- a file that is short enough, and one that is too long
pub short-within : (kind : FileUse) (s : State) (bytes : List ℕ) (from to : ℕ) → length bytes ≤ MAX_FILE
    → IsWithin (taken_bytes_cost kind s bytes) from to → IsWithin (bytes_cost kind s bytes) from to
short-within kind s bytes from to short w = rw fits w
  where
    fits : nat_lt MAX_FILE (length bytes) ≡ false
    fits = grind (arith, nat_tests, short)

pub long-within : (told : Option FileContents) (name text : List ℕ) (kind : FileUse) (s : State) (n : ℕ)
    → text ≡ name → IfSome told (λ t. IsSomeAnd (t text) (λ whole. MAX_FILE < length whole))
    → IfSome told (λ t. IfSome (t name) (λ bytes. IsWithin (bytes_cost kind s bytes) n n))
long-within None name text kind s n same h = tt
long-within (Some t) name text kind s n same h = by (t name) (rw same at h)
  where
    by : (file : Option (List ℕ)) → IsSomeAnd file (λ whole. MAX_FILE < length whole)
        → IfSome file (λ bytes. IsWithin (bytes_cost kind s bytes) n n)
    by None h = tt
    by (Some bytes) h = rw (longer bytes h) (no-steps n)
      where
        longer : (bytes : List ℕ) → MAX_FILE < length bytes → nat_lt MAX_FILE (length bytes) ≡ true
        longer bytes more = grind (arith, nat_tests, more)

-- what a file that a line names may cost
pub file-within : (told : Option FileContents) (name : List ℕ) (kind : FileUse) (s : State) (from to : ℕ)
    → IfSome told (λ t. IfSome (t name) (λ bytes. IsWithin (bytes_cost kind s bytes) from to))
    → IfSome told (λ t. IsWithin (file_cost kind s (t name)) from to)
file-within None name kind s from to h = tt
file-within (Some t) name kind s from to h = by (t name) h
  where
    by : (file : Option (List ℕ)) → IfSome file (λ bytes. IsWithin (bytes_cost kind s bytes) from to)
        → IsWithin (file_cost kind s file) from to
    by None h = tt
    by (Some bytes) h = h

-- a line that asks a question
pub line-within : {T E : Type 0} (r : Result T E) (told : Option FileContents) (s : PinnedState) (line : List ℕ)
    (question : Question) (from to : ℕ) → command_in s.state.schema line ≡ Ok question
    → OnOk r (IfSome told (λ t. IsWithin (question_cost s t (Ok question)) from to))
    → OnOk r (IfSome told (λ t. IsWithin (line_cost s t line) from to))
line-within r told s line question from to is h
    = subst (λ (read : Result Question LineFault). OnOk r (IfSome told (λ t. IsWithin (question_cost s t read) from to)))
    (sym is) h

-- a line with a fault
pub fault-within : {Texts : Type 0} (told : Option FileContents) (s : PinnedState) (line : List ℕ) (n : ℕ)
    (fault : Option LineFault) (texts_of : LineFault → Texts) (words : Texts) → Some words ≡ option_map texts_of fault
    → IfSome fault (λ f. command_in s.state.schema line ≡ Err f) → IfSome told (λ t. IsWithin (line_cost s t line) n n)
fault-within None s line n fault texts_of words is read = tt
fault-within (Some t) s line n None texts_of words is read = absurd (cc)
fault-within (Some t) s line n (Some f) texts_of words is read = rw read (no-steps n)

-- a line that asks a query of the present rows
pub query-within : (told : Option FileContents) (s : PinnedState) (line : List ℕ) (from to : ℕ) (query : Query)
    → command_in s.state.schema line ≡ Ok (Ask query)
    → to ≤ from + query_cost s.state (names_kind s.state.schema) query
    → IfSome told (λ t. IsWithin (line_cost s t line) from to)
query-within None s line from to query command w = tt
query-within (Some t) s line from to query command w = rw command w

-- a line that is answered, skipped or passed over
pub answered-within : (told : Option FileContents) (s : PinnedState) (skipped : List ℕ) (number : ℕ) (line : List ℕ)
    (from to : ℕ) → is_passed line ≡ false → IfSome told (λ t. IsWithin (line_cost s t line) from to)
    → IfSome told (λ t. IsWithin (item_cost s t (item skipped number line)) from to)
answered-within None s skipped number line from to taken h = tt
answered-within (Some t) s skipped number line from to taken h = rw taken (by (is_skipped skipped number))
  where
    by : (b : Bool) → IsWithin (if b then None else line_cost s t line) from to
    by true = tt
    by false = h

pub skipped-within : (told : Option FileContents) (s : PinnedState) (skipped new : List ℕ) (number : ℕ) (line : List ℕ)
    (from to : ℕ) → is_passed line ≡ false → new ≡ skipped ++ (number + 1) ∷ []
    → IfSome told (λ t. IsWithin (item_cost s t (item new (number + 1) line)) from to)
skipped-within None s skipped new number line from to taken more = tt
skipped-within (Some t) s skipped new number line from to taken more
    = rw (taken, more, skipped_now number skipped) tt

pub passed-within : (told : Option FileContents) (s : PinnedState) (skipped : List ℕ) (number : ℕ) (line : List ℕ) (n : ℕ)
    → is_passed line ≡ true → IfSome told (λ t. IsWithin (item_cost s t (item skipped number line)) n n)
passed-within None s skipped number line n passed = tt
passed-within (Some t) s skipped number line n passed = rw passed (no-steps n)

abbrev fresh : State → Costed
fresh start = record { run = run_at (unpinned start) []; cost = Some 0 }

costed-run : (t : FileContents) (c : Costed) (xs : List Item)
    → (fold (costed_step t) c xs).run ≡ fold (step t) c.run xs
costed-run t c [] = refl
costed-run t c (x ∷ xs) = costed-run t (costed_step t c x) xs

-- what one line more costs after a run
abbrev cost_after : FileContents → Option ℕ → Item → Run → Option ℕ
cost_after t cost line run = if run.lacked then cost else both_costs cost (item_cost run.state t line)

-- the lines so far with one line more
cost-push : (t : FileContents) (start : State) (skipped : List ℕ) (lines : List (List ℕ)) (line : List ℕ)
    (state : PinnedState) (replies : List ℕ) → Took t start skipped lines state replies
    → script_cost t start skipped (lines ++ line ∷ [])
    ≡ both_costs (script_cost t start skipped lines) (item_cost state t (item skipped (length lines + 1) line))
unfolding script_cost transcript
cost-push t start skipped lines line state replies took =
    let num : 0 + length lines + 1 ≡ length lines + 1 = omega arith in
    let before = (fold (costed_step t) (fresh start) (items skipped 0 lines)).cost in
    let here = item skipped (0 + length lines + 1) line in
    ap (λ (xs : List Item). (fold (costed_step t) (fresh start) xs).cost) (items-push skipped 0 lines line)
    ∙ ap (λ (c : Costed). c.cost) (fold-append (costed_step t) (fresh start) (items skipped 0 lines) (here ∷ []))
    ∙ ap (cost_after t before here) (costed-run t (fresh start) (items skipped 0 lines) ∙ took.is)
    ∙ ap (λ m. both_costs before (item_cost state t (item skipped m line))) num

-- a number past all lines makes no difference
cost-skips : (t : FileContents) (start : State) (skipped new : List ℕ) (lines : List (List ℕ)) (line : List ℕ)
    → Skips skipped (length lines + 1) line new → script_cost t start new lines ≡ script_cost t start skipped lines
unfolding script_cost
cost-skips t start skipped new lines line (inl same) = ap (λ (ks : List ℕ). script_cost t start ks lines) same
cost-skips t start skipped new lines line (inr more) =
    let past : 0 + length lines < length lines + 1 = omega arith in
    ap (λ (ks : List ℕ). script_cost t start ks lines) more.0
    ∙ ap (λ (xs : List Item). (fold (costed_step t) (fresh start) xs).cost)
    (items-later skipped 0 (length lines + 1) lines past)

-- what a loop over the lines knows of the steps
abbrev pub IsWithinSoFar : Option FileContents → State → List ℕ → List (List ℕ) → ℕ → ℕ → Type 0
IsWithinSoFar told start skipped lines from to
    = IfSome told (λ t. IsWithin (script_cost t start skipped lines) from to)

pub within-none : (told : Option FileContents) (start : State) (skipped : List ℕ) (n : ℕ)
    → IsWithinSoFar told start skipped [] n n
unfolding script_cost items
within-none None start skipped n = tt
within-none (Some t) start skipped n = no-steps n

pub within-push : (told : Option FileContents) (start : State) (skipped new : List ℕ) (lines : List (List ℕ))
    (line : List ℕ) (number : ℕ) (state : PinnedState) (kept : List ℕ) (first before : Option (List ℕ))
    (from mid to : ℕ) → length lines ≡ number → Skips skipped (number + 1) line new
    → GatheredSoFar told start skipped lines state kept first before → IsWithinSoFar told start skipped lines from mid
    → IfSome told (λ t. IsWithin (item_cost state t (item new (number + 1) line)) mid to)
    → IsWithinSoFar told start new (lines ++ line ∷ []) from to
within-push None start skipped new lines line number state kept first before from mid to len skips w h more = tt
within-push (Some t) start skipped new lines line number state kept first before from mid to len skips w h more =
    let taken = took-skips t start skipped new lines line state w.replies (rw len skips) w.took in
    rw (cost-push t start new lines line state w.replies taken)
    (within-both _ _ from mid to (rw (cost-skips t start skipped new lines line (rw len skips)) h) (rw len more))

pub within-all : (told : Option FileContents) (start : State) (skipped : List ℕ) (lines all : List (List ℕ))
    (from to : ℕ) → all ≡ lines ++ [] → IsWithinSoFar told start skipped lines from to
    → IsWithinSoFar told start skipped all from to
within-all None start skipped lines all from to e h = tt
within-all (Some t) start skipped lines all from to e h = rw (e ∙ append-nil lines) h

-- the same over the names that a run has for its script
pub within-ended : (told : Option FileContents) (start start2 : State) (skipped skipped2 : List ℕ)
    (lines lines2 : List (List ℕ)) (from to : ℕ) → start2 ≡ start → skipped2 ≡ skipped → lines2 ≡ lines
    → IsWithinSoFar told start2 skipped lines2 from to → IsWithinSoFar told start skipped2 lines from to
within-ended None start start2 skipped skipped2 lines lines2 from to s k l h = tt
within-ended (Some t) start start2 skipped skipped2 lines lines2 from to s k l h = rw (sym s, k, sym l) h

pub within-run : (told : Option FileContents) (names : FileNames) (start : State) (script skipped : List ℕ)
    (from to : ℕ) → IfSome told (λ t. IsStartOf t names start) → IfSome told (λ t. IsScriptOf t names.script script)
    → IsWithinSoFar told start skipped (script_lines script) from to
    → IfSome told (λ t. IsWithinScript t names skipped from to)
within-run None names start script skipped from to is is_script w = tt
within-run (Some t) names start script skipped from to is is_script w
    = record { start = start; script = script; start_read = is; script_read = is_script; within = w }
