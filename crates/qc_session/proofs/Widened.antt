-- The answer to `widen`, by what the code does.
use Rattle.std.proofs.Common.{◌≡◌, ◌<◌, ℕ, List, [], ◌∷◌, length, map, refl, arith, Err, Ok, Result}
use Rattle.cube_defs.specs.Text.{Text}
use Rattle.pinned_view.specs.Versions.{Version, Versions}
use Rattle.pinned_view.specs.declared.refused.PinnedWiden.{PinnedWiden}
use Rattle.pinned_view.specs.declared.refused.PinnedWiden.TheVariants as refusals
use Rattle.reply_text.specs.Replies.{pinned_texts, refused_text, widen_texts, widened_text}
use Rattle.warehouse.specs.Widening.{WidenRefusal, widen_result}
use Rattle.warehouse.specs.Stored.{applied_in}
use Rattle.warehouse.specs.declared.refused.Applied as code
use Rattle.qc_session.specs.Answers.{widen_with}
use Rattle.qc_session.specs.Pins.{PinnedState, pinned_state_in, pin_in}

-- what came, and a refusal for another cause, is no refusal for a pin
pub made-not-pinned : (r : Result code.Applied PinnedWiden) (taken : code.Applied) → r ≡ Ok taken
    → r ≡ Err refusals.Pinned → ⊥
made-not-pinned r taken made pinned = cc

pub dims-not-pinned : (r : Result code.Applied PinnedWiden) → r ≡ Err refusals.DimsFull → r ≡ Err refusals.Pinned → ⊥
dims-not-pinned r dims pinned = cc

pub nodes-not-pinned : (r : Result code.Applied PinnedWiden) → r ≡ Err refusals.NodesFull → r ≡ Err refusals.Pinned → ⊥
nodes-not-pinned r nodes pinned = cc

-- a state whose pins are these versions
abbrev beside-versions : Versions → List Version → PinnedState
beside-versions held pins = record { state = held.now.state; pins = map pin_in pins }

pub widen-refused : (old : Versions) (number : ℕ) (name value : Text) (refusal : WidenRefusal) (reply : List ℕ)
    → (0 < length old.pins → ⊥)
    → (length old.pins ≡ 0 → widen_result old.now.state name value ≡ Err refusal)
    → reply ≡ refused_text number (widen_texts refusal)
    → widen_with (pinned_state_in old) (pinned_state_in old).pins number name value ≡ record {
      state
          = pinned_state_in old;
      reply = reply;
    }
widen-refused old number name value refusal reply free is made = go old.pins free is
  where
    go : (before : List Version) → (0 < length before → ⊥)
        → (length before ≡ 0 → widen_result old.now.state name value ≡ Err refusal)
        → widen_with (beside-versions old before) (map pin_in before) number name value ≡ record {
          state
              = beside-versions old before;
          reply = reply;
        }
    go [] free is = rw (is refl, made) refl
    go (pin ∷ pins) free is = absurd (free (omega arith))

pub widen-pinned : (old : Versions) (number : ℕ) (name value : Text) (reply : List ℕ) → 0 < length old.pins
    → reply ≡ refused_text number pinned_texts
    → widen_with (pinned_state_in old) (pinned_state_in old).pins number name value ≡ record {
      state
          = pinned_state_in old;
      reply = reply;
    }
widen-pinned old number name value reply some made = go old.pins some
  where
    go : (before : List Version) → 0 < length before
        → widen_with (beside-versions old before) (map pin_in before) number name value ≡ record {
          state
              = beside-versions old before;
          reply = reply;
        }
    go [] some = absurd (omega (arith, some))
    go (pin ∷ pins) some = rw made refl

pub widen-made : (old new : Versions) (number : ℕ) (name value : Text) (taken : code.Applied) (dims : ℕ) (reply : List ℕ)
    → (0 < length old.pins → ⊥)
    → (length old.pins ≡ 0 → widen_result old.now.state name value ≡ Ok (applied_in new.now.state taken))
    → new.pins ≡ old.pins → dims ≡ length new.now.state.schema.dims → reply ≡ widened_text number dims taken.classes
    → widen_with (pinned_state_in old) (pinned_state_in old).pins number name value ≡ record {
      state
          = pinned_state_in new;
      reply = reply;
    }
widen-made old new number name value taken dims reply free is same count made = go old.pins free is same
  where
    go : (before : List Version) → (0 < length before → ⊥)
        → (length before ≡ 0 → widen_result old.now.state name value ≡ Ok (applied_in new.now.state taken))
        → new.pins ≡ before
        → widen_with (beside-versions old before) (map pin_in before) number name value ≡ record {
          state
              = pinned_state_in new;
          reply = reply;
        }
    go [] free is same = rw (is refl, made, count, same) refl
    go (pin ∷ pins) free is same = absurd (free (omega arith))
