-- How a run for its snapshot ends, by how its script ends.
use Rattle.std.proofs.Common.{◌==◌, ◌≡◌, ◌≤◌, ◌<◌, ◌⊎◌, ◌∙◌, ℕ, List, [], ◌∷◌, length, take, true, Option, Some, None, IfSome, refl, sym}
use Rattle.std.proofs.Common.{ap, subst, inl, inr, arith}
use Rattle.std.specs.Prelude.{Ok, Result}
use Rattle.std.proofs.lemmas.Bool.Decides.{nat_tests}
use Rattle.cube_defs.specs.declared.limits.TheConstants.{MAX_FILE}
use Rattle.cube_snapshot.specs.States.{spelling}
use Rattle.cube_snapshot.proofs.CallerLemmas.{one-state}
use Rattle.qc_io.specs.Outside.{FileContents, with_taken}
use Rattle.qc_schema.specs.Progress.{Fault}
use Rattle.qc_schema.specs.Schema.{Layout}
use Rattle.warehouse.specs.State.{State, empty}
use Rattle.qc_session.specs.Forms.{FileNames, FromSchema, FromSnapshot, Source}
use Rattle.qc_session.specs.Lines.{script_lines}
use Rattle.qc_session.specs.Packs.{IsPackRefused, IsPackUnrefused, Leads, LeadsTooFar, Packed, PackedPrefix, WroteSnapshot}
use Rattle.qc_session.specs.Packs.{WroteSnapshotPrefix}
use Rattle.qc_session.specs.Runs.{Begins, Cause, IsRefused, IsScriptOf, IsScriptStatus, IsStartOf, LongSnapshot, StoppedAt, WroteAll}
use Rattle.qc_session.specs.Transcript.{Run}
use Rattle.qc_session.proofs.Ended.{unrefused}

none-listed : (ks : List ℕ) → (length ks == 0) ≡ true → ks ≡ []
none-listed [] h = refl
none-listed (k ∷ ks) h = grind (arith, nat_tests, h)

pub quiet-all : (told : Option FileContents) (start : State) (skipped : List ℕ) (lines : List (List ℕ))
    (end : Option State) → (length skipped == 0) ≡ true
    → IfSome told (λ t. WroteAll t start skipped lines end None None)
    → IfSome told (λ t. WroteAll t start [] lines end None None)
quiet-all None start skipped lines end none h = tt
quiet-all (Some t) start skipped lines end none h
    = subst (λ (ks : List ℕ). WroteAll t start ks lines end None None) (none-listed skipped none) h

pub quiet-read : (name : List ℕ) (told : Option FileContents) (sure : Type 0) (start : State) (skipped : List ℕ)
    (lines : List (List ℕ)) → (length skipped == 0) ≡ true
    → IfSome told (λ t. StoppedAt t sure start skipped lines name None None)
    → IfSome told (λ t. StoppedAt t sure start [] lines name None None)
quiet-read name None sure start skipped lines none h = tt
quiet-read name (Some t) sure start skipped lines none h
    = subst (λ (ks : List ℕ). StoppedAt t sure start ks lines name None None) (none-listed skipped none) h

-- what a script that was taken whole leads to
leads-to : (t : FileContents) (start : State) (lines : List (List ℕ)) (state : State)
    → WroteAll t start [] lines (Some state) None None → Leads t start lines state
leads-to t start lines state h
    = record { pins = h.wrote.state.pins; replies = h.wrote.replies; took = rw (same h.ended) h.wrote.took }
  where
    same : {x y : State} → Some x ≡ Some y → x ≡ y
    same e = cc

-- the same over the states and the lines by their other names
pub led-to : (told : Option FileContents) (start start2 : State) (lines lines2 : List (List ℕ)) (state state2 : State)
    → start2 ≡ start → lines2 ≡ lines → state2 ≡ state
    → IfSome told (λ t. WroteAll t start2 [] lines2 (Some state) None None)
    → IfSome told (λ t. Leads t start lines state2)
led-to None start start2 lines lines2 state state2 s l e h = tt
led-to (Some t) start start2 lines lines2 state state2 s l e h = rw (sym s, sym l, e) (leads-to t start2 lines2 state h)

pub snapshot-all : (told : Option FileContents) (start : State) (lines : List (List ℕ)) (state : State)
    (end : Option State) (before now : Option (List ℕ)) → IfSome told (λ t. Leads t start lines state)
    → length (spelling state) ≤ MAX_FILE → now ≡ with_taken (spelling state) before → end ≡ Some state
    → IfSome told (λ t. WroteSnapshot t start lines end before now)
snapshot-all None start lines state end before now leads fits wrote ended = tt
snapshot-all (Some t) start lines state end before now leads fits wrote ended
    = record { state = state; leads = leads; fits = fits; wrote = wrote; ended = ended }

pub snapshot-prefix : (told : Option FileContents) (start : State) (lines : List (List ℕ)) (state : State)
    (before now : Option (List ℕ)) → IfSome told (λ t. Leads t start lines state)
    → length (spelling state) ≤ MAX_FILE → ((n : ℕ) × (now ≡ with_taken (take n (spelling state)) before))
    → IfSome told (λ t. WroteSnapshotPrefix t start lines before now)
snapshot-prefix None start lines state before now leads fits wrote = tt
snapshot-prefix (Some t) start lines state before now leads fits wrote
    = record { state = state; leads = leads; fits = fits; count = wrote.0; wrote = wrote.1 }

pub snapshot-long : (told : Option FileContents) (start : State) (lines : List (List ℕ)) (state : State)
    → IfSome told (λ t. Leads t start lines state)
    → MAX_FILE < length (spelling state) → IfSome told (λ t. LeadsTooFar t start lines)
snapshot-long None start lines state leads long = tt
snapshot-long (Some t) start lines state leads long = record { state = state; leads = leads; long = long }

pub packed-run : (told : Option FileContents) (names : FileNames) (start : State) (script : List ℕ) (end : Option State)
    (before now : Option (List ℕ)) → IfSome told (λ t. IsStartOf t names start)
    → IfSome told (λ t. IsScriptOf t names.script script)
    → IfSome told (λ t. WroteSnapshot t start (script_lines script) end before now)
    → IfSome told (λ t. Packed t names end before now)
packed-run None names start script end before now is is_script h = tt
packed-run (Some t) names start script end before now is is_script h
    = record { start = start; script = script; start_read = is; script_read = is_script; holds = h }

pub packed-prefix : (told : Option FileContents) (names : FileNames) (start : State) (script : List ℕ)
    (before now : Option (List ℕ)) → IfSome told (λ t. IsStartOf t names start)
    → IfSome told (λ t. IsScriptOf t names.script script)
    → IfSome told (λ t. WroteSnapshotPrefix t start (script_lines script) before now)
    → IfSome told (λ t. PackedPrefix t names before now)
packed-prefix None names start script before now is is_script h = tt
packed-prefix (Some t) names start script before now is is_script h
    = record { start = start; script = script; start_read = is; script_read = is_script; holds = h }

-- a run that is refused before its first line
pub packed-refused : (told : Option FileContents) (names : FileNames) (S : Cause → Type 0)
    → IfSome told (λ t. (cause : Cause) × IsRefused t names cause × S cause)
    → IfSome told (λ t. (cause : Cause) × IsPackRefused t names cause × S cause)
packed-refused None names S h = tt
packed-refused (Some t) names S h = (h.0, inl h.1, h.2)

pub packed-long : (told : Option FileContents) (names : FileNames) (start : State) (script : List ℕ) (S : Cause
    → Type 0) → IfSome told (λ t. IsStartOf t names start) → IfSome told (λ t. IsScriptOf t names.script script)
    → IfSome told (λ t. LeadsTooFar t start (script_lines script)) → S LongSnapshot
    → IfSome told (λ t. (cause : Cause) × IsPackRefused t names cause × S cause)
packed-long None names start script S is is_script h said = tt
packed-long (Some t) names start script S is is_script h said = (
  LongSnapshot,
  inr (
    record {
      start = start;
      script = script;
      start_read = is;
      script_read = is_script;
      holds
          = h;
    },
    refl,
  ),
  said,
)

some-once : {A : Type 0} (o : Option A) (x y : A) → o ≡ Some x → o ≡ Some y → x ≡ y
some-once {A = A} o x y e f = some (sym e ∙ f)
  where
    some : {x y : A} → Some x ≡ Some y → x ≡ y
    some e = cc

-- bytes tell one start at most
begins-once : (source : Source) (bytes : List ℕ) (start other : State)
    → Begins source bytes start → Begins source bytes other → start ≡ other
begins-once FromSchema bytes start other (schema, is, same) (schema2, is2, same2)
    = same ∙ ap empty (ok (sym is ∙ is2)) ∙ sym same2
  where
    ok : {x y : Layout} → (let u : Result Layout Fault = Ok x in u) ≡ Ok y → x ≡ y
    ok e = cc
begins-once FromSnapshot bytes start other (is, valid) (is2, valid2)
    = one-state start other valid valid2 (sym is ∙ is2)

start-once : (t : FileContents) (names : FileNames) (start other : State) → IsStartOf t names start
    → IsStartOf t names other → start ≡ other
start-once t names start other a b =
    let same = some-once (t names.first) a.bytes b.bytes a.is_told b.is_told in
    begins-once names.source a.bytes start other a.begins
    (subst (λ (bs : List ℕ). Begins names.source bs other) (sym same) b.begins)

-- the same lines lead from the same state to one state at most
leads-once : (t : FileContents) (start : State) (lines : List (List ℕ)) (state other : State)
    → Leads t start lines state → Leads t start lines other → state ≡ other
leads-once t start lines state other a b = ap (λ (r : Run). r.state.state) (sym a.took.is ∙ b.took.is)

-- a run whose snapshot is no longer than a file may be isn't refused
not-far : (t : FileContents) (names : FileNames) (start : State) (script : List ℕ) (state : State)
    → IsStartOf t names start → IsScriptOf t names.script script → Leads t start (script_lines script) state
    → length (spelling state) ≤ MAX_FILE
    → IsPackUnrefused t names
not-far t names start script state is is_script leads fits cause (inl refused)
    = unrefused t names start script is is_script cause refused
not-far t names start script state is is_script leads fits cause (inr (far, why)) =
    let from = start-once t names far.start start far.start_read is in
    let same_script = some-once (t names.script) far.script script far.script_read.is_told is_script.is_told in
    let started = subst (λ (s : State). Leads t s (script_lines far.script) far.holds.state) from far.holds.leads in
    let other = subst (λ (bs : List ℕ). Leads t start (script_lines bs) far.holds.state) same_script started in
    let same : far.holds.state ≡ state = leads-once t start (script_lines script) far.holds.state state other leads in
    let long : MAX_FILE < length (spelling state)
    = subst (λ (s : State). MAX_FILE < length (spelling s)) same far.holds.long in
    omega (arith, long, fits)

pub packed-refusal : (told : Option FileContents) (names : FileNames) (start : State) (script : List ℕ)
    (end : Option State) (before now : Option (List ℕ)) (status : ℕ) → IsScriptStatus status
    → IfSome told (λ t. IsStartOf t names start) → IfSome told (λ t. IsScriptOf t names.script script)
    → (status ≡ 0 → IfSome told (λ t. WroteSnapshot t start (script_lines script) end before now))
    → (status ≡ 4 → IfSome told (λ t. WroteSnapshotPrefix t start (script_lines script) before now))
    → IfSome told (λ t. (cause : Cause) → IsPackRefused t names cause → (status ≡ 6) ⊎ (status ≡ 5) ⊎ (status ≡ 3))
packed-refusal None names start script end before now status known is is_script all front = tt
packed-refusal (Some t) names start script end before now status known is is_script all front
    = λ cause refused. go cause refused known
  where
    go : (cause : Cause) → IsPackRefused t names cause → IsScriptStatus status → (status ≡ 6) ⊎ (status ≡ 5)
        ⊎ (status ≡ 3)
    go cause refused (inl h) = let w = all h in
        absurd (not-far t names start script w.state is is_script w.leads w.fits cause refused)
    go cause refused (inr (inl h)) = inr (inr h)
    go cause refused (inr (inr (inl h))) = let w = front h in
        absurd (not-far t names start script w.state is is_script w.leads w.fits cause refused)
    go cause refused (inr (inr (inr (inl h)))) = inr (inl h)
    go cause refused (inr (inr (inr (inr h)))) = inl h
