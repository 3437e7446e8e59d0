-- A state, and the rows that are pinned beside it.
use Rattle.std.specs.Prelude.{ℕ, Bool, not, Option, Some, None, List, [], ◌∷◌, ◌++◌, filter, length, map, nat_lt, if◌then◌else◌}
use Rattle.std.specs.List.{find}
use Rattle.std.specs.Option.{option_map}
use Rattle.std.specs.Str.{bytes_eq}
use Rattle.cube_defs.specs.Text.{Text, text_cmp}
use Rattle.cube_defs.specs.Rows.{Row}
use Rattle.cube_defs.specs.Tree.{classes}
use Rattle.pinned_view.specs.Versions.{Version, Versions}
use Rattle.pinned_view.specs.declared.pins.TheConstants.{MAX_PINS}
use Rattle.query_answers.specs.Queries.{query_reply}
use Rattle.query_script.specs.Queries.{Query}
use Rattle.reply_text.specs.Replies.{all_pinned_texts, name_taken_texts, not_pinned_texts, pinned_text, refused_text, unpinned_text}
use Rattle.warehouse.specs.State.{State, with_rows}

-- a name, and the rows that were present when it was pinned
pub record Pin : Type 0 where
  pub name : Text
  pub rows : List (Row Text)

-- a state and its pins, in the order in which they were made
pub record PinnedState : Type 0 where
  pub state : State
  pub pins : List Pin

-- no name is pinned
abbrev pub unpinned : State → PinnedState
unpinned state = record { state = state; pins = [] }

abbrev pub is_called : Text → Pin → Bool
is_called name pin = bytes_eq pin.name name

-- the rows that are pinned under a name, if it is pinned
abbrev pub rows_at : List Pin → Text → Option (List (Row Text))
rows_at pins name = option_map (λ pin. pin.rows) (find (is_called name) pins)

abbrev pub without_pin : List Pin → Text → List Pin
without_pin pins name = filter (λ pin. not (is_called name pin)) pins

-- a state with its pins, and a reply
pub record PinnedAnswer : Type 0 where
  pub state : PinnedState
  pub reply : List ℕ

abbrev pub unchanged_with_pins : PinnedState → List ℕ → PinnedAnswer
unchanged_with_pins s reply = record { state = s; reply = reply }

-- the answer to `pin`: the rows of the state go under a new name, after the other pins
abbrev pub pin_with : PinnedState → ℕ → Text → Option (List (Row Text)) → PinnedAnswer
pin_with s line name (Some rows) = unchanged_with_pins s (refused_text line name_taken_texts)
pin_with s line name None =
    if nat_lt (length s.pins) MAX_PINS
    then record {
      state = record s { pins = s.pins ++ record { name = name; rows = s.state.rows } ∷ [] };
      reply = pinned_text line name (length (classes text_cmp s.state.rows));
    }
    else unchanged_with_pins s (refused_text line all_pinned_texts)

abbrev pub pin_answer : PinnedState → ℕ → Text → PinnedAnswer
pin_answer s line name = pin_with s line name (rows_at s.pins name)

-- the answer to `unpin`: the pin goes
abbrev pub unpin_with : PinnedState → ℕ → Text → Option (List (Row Text)) → PinnedAnswer
unpin_with s line name None = unchanged_with_pins s (refused_text line not_pinned_texts)
unpin_with s line name (Some rows)
    = record { state = record s { pins = without_pin s.pins name }; reply = unpinned_text line name }

abbrev pub unpin_answer : PinnedState → ℕ → Text → PinnedAnswer
unpin_answer s line name = unpin_with s line name (rows_at s.pins name)

-- the reply to a query at a pin: that to the query over its rows, in the state's schema and texts
abbrev pub reply_over : State → ℕ → Query → Option (List (Row Text)) → List ℕ
reply_over s line query None = refused_text line not_pinned_texts
reply_over s line query (Some rows) = query_reply (with_rows s rows) line query

abbrev pub at_reply : PinnedState → ℕ → Text → Query → List ℕ
at_reply s line name query = reply_over s.state line query (rows_at s.pins name)

-- what a warehouse with its pins stands for
abbrev pub pin_in : Version → Pin
pin_in version = record { name = version.name; rows = version.rows }

abbrev pub pinned_state_in : Versions → PinnedState
pinned_state_in held = record { state = held.now.state; pins = map pin_in held.pins }
