-- What holds of the bytes of a file that is taken holds of the bytes that are told of its name.
use Rattle.std.proofs.Common.{◌≡◌, ◌≤◌, ◌<◌, ◌∙◌, ℕ, List, Option, Some, None, IfSome, ap, arith, false, true, length, refl, subst, sym}
use Rattle.std.specs.Prelude.{◌↔◌, Err, IsSomeAnd, Ok, nat_lt}
use Rattle.std.specs.Option.{option_map}
use Rattle.std.proofs.lemmas.Bool.Decides.{nat_tests}
use Rattle.cube_defs.specs.declared.limits.TheConstants.{MAX_FILE}
use Rattle.cube_defs.specs.Text.{Text}
use Rattle.pinned_view.specs.Versions.{ShowsSame, Versions}
use Rattle.qc_io.specs.Outside.{FileContents}
use Rattle.qc_schema.specs.Schema.{Layout}
use Rattle.reply_text.specs.Replies.{applied_text, batch_texts, refused_text, size_texts}
use Rattle.warehouse.specs.Batch.{Refusal, result}
use Rattle.warehouse.specs.InPlace.{LeavesNumbers, LeavesOtherRecords}
use Rattle.warehouse.specs.State.{Contents, State}
use Rattle.warehouse.specs.Stored.{applied_in}
use Rattle.warehouse.specs.declared.refused.Applied as code
use Rattle.qc_session.specs.Answers.{StateAnswer, change_answer, file_answer, with_pins}
use Rattle.qc_session.specs.Pins.{PinnedAnswer, pinned_state_in}
use Rattle.qc_session.specs.Stops.{answer_by_use, kind_in, state_by_use}
use Rattle.qc_session.specs.declared.answer.FileUse.{FileUse}
use Rattle.qc_session.specs.declared.answer.FileUse.TheVariants as kinds

pub of_name : (told : Option FileContents) (name opened bytes taken : List ℕ) (Holds : List ℕ → Type 0) → opened ≡ name
    → IfSome told (λ t. t opened ≡ Some bytes) → taken ≡ bytes → Holds taken
    → IfSome told (λ t. IfSome (t name) Holds)
of_name None name opened bytes taken Holds same read is holds = tt
of_name (Some t) name opened bytes taken Holds same read is holds
    = subst (λ n. IfSome (t n) Holds) same (rw read (subst Holds is holds))

-- a file that is short enough is answered by what its bytes do
short-answer : (old : Versions) (kind : FileUse) (number : ℕ) (bytes : List ℕ) → length bytes ≤ MAX_FILE
    → file_answer old.now.state number (kind_in kind) bytes
    ≡ change_answer old.now.state number (result old.now.state (kind_in kind) bytes)
short-answer old kind number bytes short = rw fits refl
  where
    fits : nat_lt MAX_FILE (length bytes) ≡ false
    fits = grind (arith, nat_tests, short)

file-answer : (old new : Versions) (kind : FileUse) (number : ℕ) (bytes reply : List ℕ) → length bytes ≤ MAX_FILE
    → new.pins ≡ old.pins
    → answer_by_use kind old.now.state (change_answer old.now.state number (result old.now.state (kind_in kind) bytes))
    ≡ record { state = new.now.state; reply = reply }
    → with_pins (pinned_state_in old) (answer_by_use kind old.now.state (file_answer old.now.state number (kind_in kind) bytes))
    ≡ record { state = pinned_state_in new; reply = reply }
file-answer old new kind number bytes reply short pins made =
    ap (λ (a : StateAnswer). with_pins (pinned_state_in old) (answer_by_use kind old.now.state a))
    (short-answer old kind number bytes short)
    ∙ ap (λ (a : StateAnswer). with_pins (pinned_state_in old) a) made ∙ beside
  where
    beside : with_pins (pinned_state_in old) (record { state = new.now.state; reply = reply })
        ≡ record { state = pinned_state_in new; reply = reply }
    beside = rw pins refl

pub file-answered : (told : Option FileContents) (name opened bytes taken : List ℕ) (old new : Versions) (kind : FileUse)
    (number : ℕ) (reply : List ℕ) → opened ≡ name → IfSome told (λ t. t opened ≡ Some bytes) → taken ≡ bytes
    → length taken ≤ MAX_FILE → new.pins ≡ old.pins
    → answer_by_use kind old.now.state (change_answer old.now.state number (result old.now.state (kind_in kind) taken))
    ≡ record { state = new.now.state; reply = reply }
    → IfSome told (λ t. option_map (λ bytes. with_pins (pinned_state_in old)
    (answer_by_use kind old.now.state (file_answer old.now.state number (kind_in kind) bytes))) (t name)
    ≡ Some (record { state = pinned_state_in new; reply = reply }))
file-answered None name opened bytes taken old new kind number reply same read is short pins made = tt
file-answered (Some t) name opened bytes taken old new kind number reply same read is short pins made
    = rw (rw same at read) (ap (λ (a : PinnedAnswer). Some a)
    (file-answer old new kind number bytes reply (rw is at short) pins (rw is at made)))

-- a file that is too long is refused, and nothing changes
stays : (kind : FileUse) (s : State) → state_by_use kind s s ≡ s
stays kinds.Load s = refl
stays _ s = refl

longer : (bytes : List ℕ) → MAX_FILE < length bytes → nat_lt MAX_FILE (length bytes) ≡ true
longer bytes more = grind (arith, nat_tests, more)

pub long-answered : (told : Option FileContents) (name text : List ℕ) (held : Versions) (kind : FileUse) (number : ℕ)
    (reply : List ℕ) → text ≡ name → IfSome told (λ t. IsSomeAnd (t text) (λ whole. MAX_FILE < length whole))
    → reply ≡ refused_text number size_texts
    → IfSome told (λ t. option_map (λ bytes. with_pins (pinned_state_in held)
    (answer_by_use kind held.now.state (file_answer held.now.state number (kind_in kind) bytes))) (t name)
    ≡ Some (record { state = pinned_state_in held; reply = reply }))
long-answered None name text held kind number reply same long is = tt
long-answered (Some t) name text held kind number reply same long is = by (t name) (rw same at long)
  where
    by : (file : Option (List ℕ)) → IsSomeAnd file (λ whole. MAX_FILE < length whole)
        → option_map (λ bytes. with_pins (pinned_state_in held)
        (answer_by_use kind held.now.state (file_answer held.now.state number (kind_in kind) bytes))) file
        ≡ Some (record { state = pinned_state_in held; reply = reply })
    by None h = absurd h
    by (Some bytes) h = rw (longer bytes h, is, stays kind held.now.state) refl

-- a file that couldn't be read isn't told, where the files are steady
pub never-told : (told : Option FileContents) (name text : List ℕ) (Failed : Type 0) → text ≡ name → Failed
    → IfSome told (λ t. Failed ↔ (t text ≡ None)) → IfSome told (λ t. t name ≡ None)
never-told None name text Failed same failed h = tt
never-told (Some t) name text Failed same failed h = rw same at (h.0 failed)

-- what stays has its numbers and its records
pub numbers-stay : (told : Option FileContents) (name : List ℕ) (kind : FileUse) (held : Contents)
    → IfSome told (λ t. IfSome (t name) (λ bytes. kind ≡ kinds.Apply → LeavesNumbers held bytes held))
numbers-stay None name kind held = tt
numbers-stay (Some t) name kind held = by (t name)
  where
    by : (file : Option (List ℕ)) → IfSome file (λ bytes. kind ≡ kinds.Apply → LeavesNumbers held bytes held)
    by None = tt
    by (Some bytes) = λ is changes read k c at_number is_node. at_number

pub records-stay : (told : Option FileContents) (name : List ℕ) (kind : FileUse) (held : Contents)
    → IfSome told (λ t. IfSome (t name) (λ bytes. kind ≡ kinds.Apply → LeavesOtherRecords held bytes held))
records-stay None name kind held = tt
records-stay (Some t) name kind held = by (t name)
  where
    by : (file : Option (List ℕ)) → IfSome file (λ bytes. kind ≡ kinds.Apply → LeavesOtherRecords held bytes held)
    by None = tt
    by (Some bytes) = λ is changes read k n at_number apart. at_number

-- a file that is refused, where nothing that shows changes
pub refused-answer : (kind : FileUse) (old new : Versions) (schema : Layout) (number : ℕ) (bytes : List ℕ)
    (refusal : Option Refusal) (words : List Text) (reply : List ℕ) → ShowsSame old new → schema ≡ old.now.state.schema
    → Some words ≡ option_map (batch_texts schema) refusal
    → IfSome refusal (λ r. result old.now.state (kind_in kind) bytes ≡ Err r) → reply ≡ refused_text number words
    → answer_by_use kind old.now.state (change_answer old.now.state number (result old.now.state (kind_in kind) bytes))
    ≡ record { state = new.now.state; reply = reply }
refused-answer kind old new schema number bytes None words reply same read texts does is = absurd (cc)
refused-answer kind old new schema number bytes (Some r) words reply same read texts does is =
    let still : new.now.state ≡ old.now.state = ap (λ (v : Versions). v.now.state) same in
    let told = subst (λ (s : Layout). Some words ≡ option_map (batch_texts s) (Some r)) read texts in
    rw (does, stays kind old.now.state, still, is, one told) refl
  where
    one : {x y : List Text} → Some x ≡ Some y → x ≡ y
    one e = cc

pub numbers-same : (old new : Versions) (bytes : List ℕ) → ShowsSame old new → LeavesNumbers old.now bytes new.now
numbers-same old new bytes same = subst (LeavesNumbers old.now bytes) (sym (ap (λ (v : Versions). v.now) same))
    (λ changes read k c at_number is_node. at_number)

pub records-same : (old new : Versions) (bytes : List ℕ) → ShowsSame old new → LeavesOtherRecords old.now bytes new.now
records-same old new bytes same = subst (LeavesOtherRecords old.now bytes) (sym (ap (λ (v : Versions). v.now) same))
    (λ changes read k n at_number apart. at_number)

-- one that is taken
pub taken-answer : (kind : FileUse) (old new : Versions) (then : State) (number : ℕ) (bytes : List ℕ)
    (taken : code.Applied) (reply : List ℕ) → result old.now.state (kind_in kind) bytes ≡ Ok (applied_in then taken)
    → new.now.state ≡ state_by_use kind old.now.state then → reply ≡ applied_text number taken.records taken.classes
    → answer_by_use kind old.now.state (change_answer old.now.state number (result old.now.state (kind_in kind) bytes))
    ≡ record { state = new.now.state; reply = reply }
taken-answer kind old new then number bytes taken reply does left is = rw (does, left, is) refl
