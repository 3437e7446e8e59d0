-- A script that is cut in two.
use Rattle.std.proofs.Common.{◌≡◌, ◌+◌, ◌∙◌, ℕ, List, [], ◌∷◌, ◌++◌, length, true, false, refl, sym, ap, ap₂, arith, Some, None}
use Rattle.std.specs.Prelude.{Bool, Option, Result, Ok, Err, fold, nat_lt}
use Rattle.std.specs.Option.{option_map}
use Rattle.std.proofs.lemmas.List.Sums.{fold-append}
use Rattle.cube_defs.specs.declared.limits.TheConstants.{MAX_FILE}
use Rattle.qc_io.specs.Outside.{FileContents}
use Rattle.query_script.specs.Commands.{command_in}
use Rattle.query_script.specs.Faults.{LineFault}
use Rattle.query_script.specs.Questions as asks
use Rattle.query_script.specs.Questions.{Question}
use Rattle.cube_defs.specs.Text.{Text}
use Rattle.cube_defs.specs.Rows.{Row}
use Rattle.warehouse.specs.Batch.{Applied, FileUse, Load, Apply, Refusal, result}
use Rattle.warehouse.specs.State.{State}
use Rattle.warehouse.specs.Widening.{WidenRefusal, widen_result}
use Rattle.pinned_view.specs.declared.pins.TheConstants.{MAX_PINS}
use Rattle.qc_session.specs.Answers.{answer, answer_to, attempt_answer, change_answer, file_answer, widen_with, widened_by, with_pins}
use Rattle.qc_session.specs.Lines.{is_passed}
use Rattle.qc_session.specs.Packs.{Leads}
use Rattle.qc_session.specs.Pins.{Pin, PinnedAnswer, PinnedState, pin_with, rows_at, unpin_with, unpinned}
use Rattle.qc_session.specs.Runs.{Took}
use Rattle.qc_session.specs.Transcript.{Item, Run, answered, item, items, run_at, step, transcript}

-- what an answer leaves doesn't depend on the number of its line
change-state : (s : State) (n m : ℕ) (r : Result Applied Refusal)
    → (change_answer s n r).state ≡ (change_answer s m r).state
change-state s n m (Ok applied) = refl
change-state s n m (Err refusal) = refl

file-state : (s : State) (n m : ℕ) (kind : FileUse) (bytes : List ℕ)
    → (file_answer s n kind bytes).state ≡ (file_answer s m kind bytes).state
file-state s n m kind bytes = by (nat_lt MAX_FILE (length bytes)) refl
  where
    by : (b : Bool) → nat_lt MAX_FILE (length bytes) ≡ b
        → (file_answer s n kind bytes).state ≡ (file_answer s m kind bytes).state
    by true h = rw h refl
    by false h = rw h (change-state s n m (result s kind bytes))

widened-state : (s : State) (n m : ℕ) (r : Result Applied WidenRefusal)
    → (widened_by s n r).state ≡ (widened_by s m r).state
widened-state s n m (Ok applied) = refl
widened-state s n m (Err refusal) = refl

widen-state : (s : PinnedState) (pins : List Pin) (n m : ℕ) (name value : Text)
    → (widen_with s pins n name value).state ≡ (widen_with s pins m name value).state
widen-state s [] n m name value
    = ap (λ (x : State). record s { state = x }) (widened-state s.state n m (widen_result s.state name value))
widen-state s (pin ∷ pins) n m name value = refl

pin-state : (s : PinnedState) (n m : ℕ) (name : Text) (rows : Option (List (Row Text)))
    → (pin_with s n name rows).state ≡ (pin_with s m name rows).state
pin-state s n m name (Some rows) = refl
pin-state s n m name None = by (nat_lt (length s.pins) MAX_PINS) refl
  where
    by : (b : Bool) → nat_lt (length s.pins) MAX_PINS ≡ b
        → (pin_with s n name None).state ≡ (pin_with s m name None).state
    by true h = rw h refl
    by false h = rw h refl

unpin-state : (s : PinnedState) (n m : ℕ) (name : Text) (rows : Option (List (Row Text)))
    → (unpin_with s n name rows).state ≡ (unpin_with s m name rows).state
unpin-state s n m name (Some rows) = refl
unpin-state s n m name None = refl

abbrev state_after : Option PinnedAnswer → Option PinnedState
state_after a = option_map (λ x. x.state) a

answer-state : (s : PinnedState) (t : FileContents) (n m : ℕ) (q : Result Question LineFault)
    → state_after (answer_to s t n q) ≡ state_after (answer_to s t m q)
answer-state s t n m (Err fault) = refl
answer-state s t n m (Ok (asks.Load name)) = by (t name)
  where
    by : (bytes : Option (List ℕ))
        → state_after (option_map (λ b. with_pins s (file_answer s.state n Load b)) bytes)
        ≡ state_after (option_map (λ b. with_pins s (file_answer s.state m Load b)) bytes)
    by None = refl
    by (Some b) = ap (λ (x : State). Some (record s { state = x })) (file-state s.state n m Load b)
answer-state s t n m (Ok (asks.Apply name)) = by (t name)
  where
    by : (bytes : Option (List ℕ))
        → state_after (option_map (λ b. with_pins s (file_answer s.state n Apply b)) bytes)
        ≡ state_after (option_map (λ b. with_pins s (file_answer s.state m Apply b)) bytes)
    by None = refl
    by (Some b) = ap (λ (x : State). Some (record s { state = x })) (file-state s.state n m Apply b)
answer-state s t n m (Ok (asks.Try name)) = by (t name)
  where
    by : (bytes : Option (List ℕ))
        → state_after (option_map (λ b. with_pins s (attempt_answer s.state n b)) bytes)
        ≡ state_after (option_map (λ b. with_pins s (attempt_answer s.state m b)) bytes)
    by None = refl
    by (Some b) = refl
answer-state s t n m (Ok (asks.Widen name value)) = ap Some (widen-state s s.pins n m name value)
answer-state s t n m (Ok (asks.Pin name)) = ap Some (pin-state s n m name (rows_at s.pins name))
answer-state s t n m (Ok (asks.Unpin name)) = ap Some (unpin-state s n m name (rows_at s.pins name))
answer-state s t n m (Ok (asks.At name query)) = refl
answer-state s t n m (Ok (asks.Ask query)) = refl

-- two runs are the same but for their replies
abbrev AreAlike : Run → Run → Type 0
AreAlike r s = (r.state ≡ s.state) × (r.lacked ≡ s.lacked)

step-lacked : (t : FileContents) (r : Run) (i : Item) → r.lacked ≡ true → step t r i ≡ r
step-lacked t r i h = rw h refl

step-passed : (t : FileContents) (r : Run) (i : Item) → r.lacked ≡ false → is_passed i.line ≡ true → step t r i ≡ r
step-passed t r i h k = rw (h, k) refl

step-answered : (t : FileContents) (r : Run) (n : ℕ) (line : List ℕ) → r.lacked ≡ false → is_passed line ≡ false
    → step t r (item [] n line) ≡ answered r (answer r.state t n line)
step-answered t r n line h k = rw (h, k) refl

answered-alike : (r s : Run) → AreAlike r s → (a b : Option PinnedAnswer) → state_after a ≡ state_after b
    → AreAlike (answered r a) (answered s b)
answered-alike r s e None None h = (e.0, refl)
answered-alike r s e None (Some b) h = absurd (cc)
answered-alike r s e (Some a) None h = absurd (cc)
answered-alike r s e (Some a) (Some b) h = (same h, e.1)
  where
    same : {x y : PinnedState} → Some x ≡ Some y → x ≡ y
    same i = cc

step-alike : (t : FileContents) (r s : Run) (n m : ℕ) (line : List ℕ) → AreAlike r s
    → AreAlike (step t r (item [] n line)) (step t s (item [] m line))
step-alike t r s n m line e = by s.lacked refl (is_passed line) refl
  where
    by : (lacked : Bool) → s.lacked ≡ lacked → (passed : Bool) → is_passed line ≡ passed
        → AreAlike (step t r (item [] n line)) (step t s (item [] m line))
    by true h passed k = rw (step-lacked t r (item [] n line) (e.1 ∙ h), step-lacked t s (item [] m line) h) e
    by false h true k = rw (step-passed t r (item [] n line) (e.1 ∙ h) k, step-passed t s (item [] m line) h k) e
    by false h false k =
        rw (step-answered t r n line (e.1 ∙ h) k, step-answered t s m line h k)
        (answered-alike r s e (answer r.state t n line) (answer s.state t m line)
        (ap (λ (x : PinnedState). state_after (answer x t n line)) e.0
        ∙ answer-state s.state t n m (command_in s.state.state.schema line)))

fold-alike : (t : FileContents) (lines : List (List ℕ)) (r s : Run) (n m : ℕ) → AreAlike r s
    → AreAlike (fold (step t) r (items [] n lines)) (fold (step t) s (items [] m lines))
unfolding items
fold-alike t [] r s n m e = e
fold-alike t (line ∷ lines) r s n m e
    = fold-alike t lines _ _ (n + 1) (m + 1) (step-alike t r s (n + 1) (m + 1) line e)

items-append : (n : ℕ) (first second : List (List ℕ))
    → items [] n (first ++ second) ≡ items [] n first ++ items [] (n + length first) second
unfolding items
items-append n [] second = let same : n ≡ n + 0 = omega arith in ap (λ k. items [] k second) same
items-append n (line ∷ first) second =
    let same : (n + 1) + length first ≡ n + length (line ∷ first) = omega arith in
    ap (λ (more : List Item). item [] (n + 1) line ∷ more) (items-append (n + 1) first second
    ∙ ap (λ k. items [] (n + 1) first ++ items [] k second) same)

run-is : (r : Run) (s : PinnedState) → r.state ≡ s → r.lacked ≡ false → r ≡ run_at s r.replies
run-is r s e h = ap₂ (λ (x : PinnedState) (b : Bool). record { state = x; replies = r.replies; lacked = b }) e h

-- the lines after the cut, from where the first ones led
whole-alike : (t : FileContents) (start mid : State) (first second : List (List ℕ)) (replies : List ℕ)
    → Took t start [] first (unpinned mid) replies
    → AreAlike (transcript t start [] (first ++ second)) (transcript t mid [] second)
unfolding transcript
whole-alike t start mid first second replies took =
    let cut : fold (step t) (run_at (unpinned start) []) (items [] 0 (first ++ second))
    ≡ fold (step t) (run_at (unpinned mid) replies) (items [] (0 + length first) second) =
    ap (λ (xs : List Item). fold (step t) (run_at (unpinned start) []) xs) (items-append 0 first second)
    ∙ fold-append (step t) (run_at (unpinned start) []) (items [] 0 first) (items [] (0 + length first) second)
    ∙ ap (λ (r : Run). fold (step t) r (items [] (0 + length first) second)) took.is in
    rw cut (fold-alike t second (run_at (unpinned mid) replies) (run_at (unpinned mid) []) (0 + length first) 0
    (refl, refl))

leads-alike : (t : FileContents) (from to end : State) (lines more : List (List ℕ))
    → AreAlike (transcript t from [] lines) (transcript t to [] more) → Leads t to more end → Leads t from lines end
leads-alike t from to end lines more alike leads = record {
  pins = leads.pins;
  replies = (transcript t from [] lines).replies;
  took = record {
    is = run-is (transcript t from [] lines) (record { state = end; pins = leads.pins })
        (alike.0 ∙ ap (λ (r : Run). r.state) leads.took.is) (alike.1 ∙ ap (λ (r : Run). r.lacked) leads.took.is);
  };
}

pub cut-in-two : (t : FileContents) (start mid end : State) (first second : List (List ℕ)) (replies : List ℕ)
    → Took t start [] first (unpinned mid) replies → (Leads t mid second end → Leads t start (first ++ second) end)
    × (Leads t start (first ++ second) end → Leads t mid second end)
cut-in-two t start mid end first second replies took =
    let alike = whole-alike t start mid first second replies took in (
      leads-alike t start mid end (first ++ second) second alike,
      leads-alike t mid start end second (first ++ second) (sym alike.0, sym alike.1),
    )
