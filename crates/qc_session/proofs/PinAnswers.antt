-- The answers to lines of pins, by what the code does.
use Rattle.std.proofs.Common.{◌≡◌, ℕ, Bool, true, false, cond, Option, Some, None, List, [], ◌∷◌, ◌++◌, length, map, refl, ap, Result, Ok}
use Rattle.std.proofs.Common.{Err}
use Rattle.std.specs.Prelude.{IsSome, is_some, nat_lt, not, option_map}
use Rattle.std.specs.List.{find}
use Rattle.std.specs.Str.{bytes_eq}
use Rattle.std.proofs.lemmas.List.{length-map}
use Rattle.cube_defs.specs.Text.{Text, text_cmp}
use Rattle.cube_defs.specs.Tree.{classes}
use Rattle.pinned_view.specs.Refusals.{pin_refusal}
use Rattle.pinned_view.specs.Versions.{Version, Versions, is_named, version_now, version_of, without}
use Rattle.pinned_view.specs.declared.pins.TheConstants.{MAX_PINS}
use Rattle.pinned_view.specs.declared.refused.PinRefused.{PinRefused}
use Rattle.pinned_view.specs.declared.refused.PinRefused.TheVariants.{AllPinned, NameTaken}
use Rattle.query_answers.specs.Queries.{query_reply}
use Rattle.query_script.specs.Queries.{Query}
use Rattle.reply_text.specs.Replies.{all_pinned_texts, name_taken_texts, not_pinned_texts, pinned_text, refused_text, unpinned_text}
use Rattle.warehouse.specs.State.{with_rows}
use Rattle.qc_session.specs.Pins.{Pin, at_reply, pinned_state_in, is_called, pin_answer, pin_in, rows_at, unpin_answer, without_pin}

-- an answer is no refusal, and a refusal is no other
answer-is-no-refusal : (r : Result (Unit {0}) PinRefused) (e : PinRefused) → r ≡ Ok tt → r ≡ Err e → ⊥
answer-is-no-refusal r e ok err = cc

taken-is-not-full : (r : Result (Unit {0}) PinRefused) → r ≡ Err NameTaken → r ≡ Err AllPinned → ⊥
taken-is-not-full r taken full = cc

-- the rows of a name are those of its version
pub rows-of : (versions : List Version) (name : Text)
    → rows_at (map pin_in versions) name ≡ option_map (λ version. version.rows) (version_of versions name)
rows-of [] name = refl
rows-of (version ∷ versions) name = by (bytes_eq version.name name) (rows-of versions name)
  where
    by : (here : Bool) → rows_at (map pin_in versions) name ≡ option_map (λ (v : Version). v.rows)
        (version_of versions name)
        → option_map (λ (pin : Pin). pin.rows)
        (cond here (Some (pin_in version)) (find (is_called name) (map pin_in versions)))
        ≡ option_map (λ (v : Version). v.rows) (cond here (Some version) (find (is_named name) versions))
    by true rest = refl
    by false rest = rest

without-of : (versions : List Version) (name : Text)
    → without_pin (map pin_in versions) name ≡ map pin_in (without versions name)
without-of [] name = refl
without-of (version ∷ versions) name = by (bytes_eq version.name name) (without-of versions name)
  where
    by : (here : Bool) → without_pin (map pin_in versions) name ≡ map pin_in (without versions name)
        → cond (not here) (pin_in version ∷ without_pin (map pin_in versions) name)
        (without_pin (map pin_in versions) name)
        ≡ map pin_in (cond (not here) (version ∷ without versions name) (without versions name))
    by true rest = rest
    by false rest = ap (λ (pins : List Pin). pin_in version ∷ pins) rest

more-of : (versions : List Version) (version : Version) → map pin_in (versions ++ version ∷ []) ≡ map pin_in versions
    ++ pin_in version ∷ []
more-of [] version = refl
more-of (first ∷ versions) version = ap (λ (pins : List Pin). pin_in first ∷ pins) (more-of versions version)

module _ (held : Versions) (number : ℕ) (name : Text) where
  abbrev refused : Option Version → Bool → Result (Unit {0}) PinRefused
  refused found room = cond (is_some found) (Err NameTaken) (cond room (Ok tt) (Err AllPinned))

  pub pin-made : (new : Versions) (reply : List ℕ) → Ok tt ≡ pin_refusal held.pins name
      → new ≡ record held { pins = held.pins ++ version_now name held.now ∷ [] }
      → reply ≡ pinned_text number name (length (classes text_cmp held.now.state.rows))
      → pin_answer (pinned_state_in held) number name ≡ record { state = pinned_state_in new; reply = reply }
  pin-made new reply made is told = by (version_of held.pins name) refl (nat_lt (length held.pins) MAX_PINS) refl made
    where
      by : (found : Option Version) → version_of held.pins name ≡ found → (room : Bool)
          → nat_lt (length held.pins) MAX_PINS ≡ room → Ok tt ≡ refused found room
          → pin_answer (pinned_state_in held) number name ≡ record { state = pinned_state_in new; reply = reply }
      by (Some version) f room r e = absurd (answer-is-no-refusal _ _ refl e)
      by None f false r e = absurd (answer-is-no-refusal _ _ refl e)
      by None f true r e = rw (
        rows-of held.pins name,
        f,
        length-map held.pins pin_in,
        r,
        is,
        told,
        more-of held.pins (version_now name held.now),
      ) refl

  pub pin-taken : (new : Versions) (reply : List ℕ) → Err NameTaken ≡ pin_refusal held.pins name → new ≡ held
      → reply ≡ refused_text number name_taken_texts
      → pin_answer (pinned_state_in held) number name ≡ record { state = pinned_state_in new; reply = reply }
  pin-taken new reply taken is told = by (version_of held.pins name) refl (nat_lt (length held.pins) MAX_PINS) taken
    where
      by : (found : Option Version) → version_of held.pins name ≡ found → (room : Bool)
          → Err NameTaken ≡ refused found room
          → pin_answer (pinned_state_in held) number name ≡ record { state = pinned_state_in new; reply = reply }
      by (Some version) f room e = rw (rows-of held.pins name, f, is, told) refl
      by None f true e = absurd (answer-is-no-refusal _ _ e refl)
      by None f false e = absurd (taken-is-not-full _ refl e)

  pub pin-full : (new : Versions) (reply : List ℕ) → Err AllPinned ≡ pin_refusal held.pins name → new ≡ held
      → reply ≡ refused_text number all_pinned_texts
      → pin_answer (pinned_state_in held) number name ≡ record { state = pinned_state_in new; reply = reply }
  pin-full new reply full is told = by (version_of held.pins name) refl (nat_lt (length held.pins) MAX_PINS) refl full
    where
      by : (found : Option Version) → version_of held.pins name ≡ found → (room : Bool)
          → nat_lt (length held.pins) MAX_PINS ≡ room → Err AllPinned ≡ refused found room
          → pin_answer (pinned_state_in held) number name ≡ record { state = pinned_state_in new; reply = reply }
      by (Some version) f room r e = absurd (taken-is-not-full _ e refl)
      by None f true r e = absurd (answer-is-no-refusal _ _ e refl)
      by None f false r e = rw (rows-of held.pins name, f, length-map held.pins pin_in, r, is, told) refl

  pub unpin-done : (new : Versions) (reply : List ℕ) → IsSome (version_of held.pins name)
      → new ≡ record held { pins = without held.pins name; stored = new.stored } → reply ≡ unpinned_text number name
      → unpin_answer (pinned_state_in held) number name ≡ record { state = pinned_state_in new; reply = reply }
  unpin-done new reply there is told = by (version_of held.pins name) refl there
    where
      by : (found : Option Version) → version_of held.pins name ≡ found → IsSome found
          → unpin_answer (pinned_state_in held) number name ≡ record { state = pinned_state_in new; reply = reply }
      by None f t = cc
      by (Some version) f t = rw (rows-of held.pins name, f, is, told, without-of held.pins name) refl

  pub unpin-none : (new : Versions) (reply : List ℕ) → version_of held.pins name ≡ None → new ≡ held
      → reply ≡ refused_text number not_pinned_texts
      → unpin_answer (pinned_state_in held) number name ≡ record { state = pinned_state_in new; reply = reply }
  unpin-none new reply found is told = rw (rows-of held.pins name, found, is, told) refl

  pub at-none : (query : Query) → version_of held.pins name ≡ None
      → at_reply (pinned_state_in held) number name query ≡ refused_text number not_pinned_texts
  at-none query found = rw (rows-of held.pins name, found) refl

  pub at-version : (query : Query) (version : Version) → version_of held.pins name ≡ Some version
      → at_reply (pinned_state_in held) number name query
      ≡ query_reply (with_rows held.now.state version.rows) number query
  at-version query version found = rw (rows-of held.pins name, found) refl
