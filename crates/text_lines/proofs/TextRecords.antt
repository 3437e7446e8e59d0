-- The fields of the records of a UTF-8 text are UTF-8.
use Rattle.std.proofs.Common.{◌≡◌, ◌<◌, ◌≤◌, ◌+◌, ◌∙◌, ℕ, zero, suc, List, [], ◌∷◌, ◌++◌, length, get_or, refl, sym, ap, subst, arith, Some}
use Rattle.std.proofs.Common.{None, true, false, Bool, cond, inl, inr, IsUtf8, All, append_assoc, append-nil}
use Rattle.std.specs.Prelude.{Option, unwrap_or}
use Rattle.std.proofs.lemmas.Bool.{and_parts, cases_lt}
use Rattle.std.proofs.lemmas.Bool.Decides.{nat_tests}
use Rattle.std.proofs.lemmas.List.Elements.{All-cons, All-nil, All-push}
use Rattle.std.proofs.lemmas.Str.{IsUtf8-append, IsUtf8-encode, IsUtf8-nil, encode_ascii, inside_one}
use lib.Utf8.{scalar, scalars, encode, encodes}
use Rattle.csv.specs.Machine.{Read, ends_at_end, field_after, fields_after, is_end, next_record, step}
use Rattle.csv.specs.Reading.{default_config, records, records_from}
use Rattle.csv.specs.declared.parser.Action.{Action}
use Rattle.csv.specs.declared.parser.Action.TheVariants as act
use Rattle.csv.specs.declared.parser.State.{State}
use Rattle.csv.specs.declared.parser.State.TheVariants as st

-- the bytes of a character that isn't ASCII
abbrev AreHigh : List ℕ → Type 0
AreHigh bs = (k : ℕ) → k < length bs → 128 ≤ get_or bs k 0

high-char : (c : ℕ) → 128 ≤ c → AreHigh (encode c)
high-char c big k below = elim (cases_lt (get_or (encode c) k 0) 128) [
  | inl low ↦ absurd (omega (arith, inside_one c [] (encode c) k (sym (append-nil (encode c))) below low))
  | inr h ↦ h
]

-- the state and the action of such a byte
abbrev state_high : State → State
state_high st.StartRecord = st.InField
state_high st.StartField = st.InField
state_high st.InField = st.InField
state_high st.InQuoted = st.InQuoted
state_high st.InEscape = st.InQuoted
state_high st.AfterQuote = st.InField
state_high st.InComment = st.InComment
state_high st.AfterCr = st.InField

abbrev action_high : State → Action
action_high st.StartRecord = act.Copy
action_high st.StartField = act.Copy
action_high st.InField = act.Copy
action_high st.InQuoted = act.Copy
action_high st.InEscape = act.Copy
action_high st.AfterQuote = act.Copy
action_high st.InComment = act.Skip
action_high st.AfterCr = act.Copy

high-step : (s : State) (b : ℕ) → 128 ≤ b → step default_config s b ≡ (state_high s, action_high s)
high-step st.InEscape b h = refl
high-step _ b h = grind (arith, nat_tests)

-- bytes that are copied join the field at hand
copied : (bs rest : List ℕ) (s : State) (fields : List (List ℕ)) (field : List ℕ) → state_high s ≡ s
    → action_high s ≡ act.Copy → AreHigh bs
    → next_record default_config s fields field (bs ++ rest) ≡ next_record default_config s fields (field ++ bs) rest
unfolding next_record
copied [] rest s fields field stays copies h
    = ap (λ (f : List ℕ). next_record default_config s fields f rest) (sym (append-nil field))
copied (b ∷ bs) rest s fields field stays copies h =
    rw (high-step s b (h 0 (omega arith)), stays, copies)
    (copied bs rest s fields (field ++ b ∷ []) stays copies (λ k l. h (suc k) (omega arith))
    ∙ ap (λ (f : List ℕ). next_record default_config s fields f rest) (append_assoc field (b ∷ []) bs))

-- bytes of a comment are passed over
skipped : (bs rest : List ℕ) (fields : List (List ℕ)) (field : List ℕ) → AreHigh bs
    → next_record default_config st.InComment fields field (bs ++ rest)
    ≡ next_record default_config st.InComment fields field rest
unfolding next_record
skipped [] rest fields field h = refl
skipped (b ∷ bs) rest fields field h =
    rw (high-step st.InComment b (h 0 (omega arith))) (skipped bs rest fields field (λ k l. h (suc k) (omega arith)))

-- what a read leaves: fields that are UTF-8, and a rest that is
record IsText (p : Read) : Type 0 where
  fields : All IsUtf8 p.0
  rest : IsUtf8 p.2

is-text : (a p : Read) → Some a ≡ Some p → IsText a → IsText p
is-text a p e h =
    let same : a ≡ p = ap (λ (o : Option Read). unwrap_or o p) e in
    rw (← same) h

-- what is read after some bytes is text
abbrev ReadsText : List ℕ → Read → Type 0
ReadsText rest p = (s : State) (fields : List (List ℕ)) (field : List ℕ) → All IsUtf8 fields → IsUtf8 field
    → next_record default_config s fields field rest ≡ Some p → IsText p

nothing-left : (p : Read) → ReadsText [] p
unfolding next_record
nothing-left p s fields field all one e = by (ends_at_end s) e
  where
    by : (b : Bool) → cond b (Some (fields ++ field ∷ [], st.StartRecord, [])) None ≡ Some p → IsText p
    by true m = is-text _ p m (record { fields = All-push IsUtf8 fields field all one; rest = IsUtf8-nil })
    by false m = absurd (cc m)

-- an ASCII byte
fields-ascii : (a : Action) (fields : List (List ℕ)) (field : List ℕ) → All IsUtf8 fields → IsUtf8 field
    → All IsUtf8 (fields_after a fields field)
fields-ascii act.Skip fields field all one = all
fields-ascii act.Copy fields field all one = all
fields-ascii _ fields field all one = All-push IsUtf8 fields field all one

field-ascii : (a : Action) (c : ℕ) (field : List ℕ) → IsUtf8 (c ∷ []) → IsUtf8 field → IsUtf8 (field_after a c field)
field-ascii act.Skip c field char one = one
field-ascii act.Copy c field char one = IsUtf8-append field (c ∷ []) one char
field-ascii _ c field char one = IsUtf8-nil

reads-ascii : (c : ℕ) (rest : List ℕ) (p : Read) → IsUtf8 (c ∷ []) → IsUtf8 rest → ReadsText rest p
    → ReadsText (c ∷ rest) p
unfolding next_record
reads-ascii c rest p char text more s fields field all one e =
    by (is_end (step default_config s c).1) e
  where
    by : (b : Bool) → cond b
        (Some (fields_after (step default_config s c).1 fields field, (step default_config s c).0, rest))
        (next_record default_config (step default_config s c).0 (fields_after (step default_config s c).1 fields field)
        (field_after (step default_config s c).1 c field) rest) ≡ Some p → IsText p
    by true m = is-text _ p m (record {
      fields = fields-ascii (step default_config s c).1 fields field all one;
      rest = text;
    })
    by false m = more (step default_config s c).0 _ _ (fields-ascii (step default_config s c).1 fields field all one)
        (field-ascii (step default_config s c).1 c field char one) m

-- a character that isn't ASCII
abbrev Passes : List ℕ → List ℕ → Read → State → List (List ℕ) → List ℕ → Type 0
Passes bs rest p s fields field = next_record default_config s fields field (bs ++ rest) ≡ Some p → IsText p

passes-copied : (b : ℕ) (bs rest : List ℕ) (p : Read) (s : State) (fields : List (List ℕ)) (field : List ℕ)
    → AreHigh (b ∷ bs) → IsUtf8 (b ∷ bs) → ReadsText rest p → All IsUtf8 fields → IsUtf8 field
    → action_high s ≡ act.Copy → state_high (state_high s) ≡ state_high s → action_high (state_high s) ≡ act.Copy
    → Passes (b ∷ bs) rest p s fields field
unfolding next_record
passes-copied b bs rest p s fields field high char more all one copies stays on e =
    let start = high-step s b (high 0 (omega arith)) in
    let first : next_record default_config (state_high s) fields (field ++ b ∷ []) (bs ++ rest) ≡ Some p
    = rw (start, copies) at e in
    let run = copied bs rest (state_high s) fields (field ++ b ∷ []) stays on (λ k l. high (suc k) (omega arith)) in
    more (state_high s) fields ((field ++ b ∷ []) ++ bs) all
    (rw (append_assoc field (b ∷ []) bs) (IsUtf8-append field (b ∷ bs) one char)) (sym run ∙ first)

reads-high : (bs rest : List ℕ) (p : Read) → AreHigh bs → IsUtf8 bs → ReadsText rest p → ReadsText (bs ++ rest) p
reads-high [] rest p high char more s fields field all one e = more s fields field all one e
reads-high (b ∷ bs) rest p high char more st.StartRecord fields field all one e
    = passes-copied b bs rest p st.StartRecord fields field high char more all one refl refl refl e
reads-high (b ∷ bs) rest p high char more st.StartField fields field all one e
    = passes-copied b bs rest p st.StartField fields field high char more all one refl refl refl e
reads-high (b ∷ bs) rest p high char more st.InField fields field all one e
    = passes-copied b bs rest p st.InField fields field high char more all one refl refl refl e
reads-high (b ∷ bs) rest p high char more st.InQuoted fields field all one e
    = passes-copied b bs rest p st.InQuoted fields field high char more all one refl refl refl e
reads-high (b ∷ bs) rest p high char more st.InEscape fields field all one e
    = passes-copied b bs rest p st.InEscape fields field high char more all one refl refl refl e
reads-high (b ∷ bs) rest p high char more st.AfterQuote fields field all one e
    = passes-copied b bs rest p st.AfterQuote fields field high char more all one refl refl refl e
reads-high (b ∷ bs) rest p high char more st.InComment fields field all one e
    = more st.InComment fields field all one (sym (skipped (b ∷ bs) rest fields field high) ∙ e)
reads-high (b ∷ bs) rest p high char more st.AfterCr fields field all one e
    = passes-copied b bs rest p st.AfterCr fields field high char more all one refl refl refl e

reads-chars : (cs : List ℕ) (p : Read) → scalars cs ≡ true → ReadsText (encodes cs) p
reads-chars [] p ok = nothing-left p
reads-chars (c ∷ cs) p ok =
    let both = and_parts (scalar c) (scalars cs) ok in
    let char = IsUtf8-encode c both.0 in
    let more = reads-chars cs p both.1 in
    elim (cases_lt c 128) [
      | inl small ↦ subst (λ (bs : List ℕ). ReadsText (bs ++ encodes cs) p) (sym (encode_ascii c small))
          (reads-ascii c (encodes cs) p (subst IsUtf8 (encode_ascii c small) char) (cs, (both.1, refl)) more)
      | inr big ↦ reads-high (encode c) (encodes cs) p (high-char c big) char more
    ]

reads-text : (text : List ℕ) (p : Read) → IsUtf8 text → ReadsText text p
reads-text text p u = subst (λ (bs : List ℕ). ReadsText bs p) u.1.1 (reads-chars u.0 p u.1.0)

all-text : (n : ℕ) (s : State) (text : List ℕ) → IsUtf8 text → All (All IsUtf8) (records_from default_config n s text)
unfolding records_from
all-text zero s text u = All-nil (All IsUtf8)
all-text (suc n) s text u = by (next_record default_config s [] [] text) refl (λ p rest. all-text n p.1 p.2 rest)
  where
    by : (o : Option Read) → next_record default_config s [] [] text ≡ o
        → ((p : Read) → IsUtf8 p.2 → All (All IsUtf8) (records_from default_config n p.1 p.2))
        → All (All IsUtf8) (records_from default_config (suc n) s text)
    by None e more = rw e (All-nil (All IsUtf8))
    by (Some p) e more =
        let t = reads-text text p u s [] [] (All-nil IsUtf8) IsUtf8-nil e in
        rw e (All-cons (All IsUtf8) p.0 (records_from default_config n p.1 p.2) t.fields (more p t.rest))

pub text-records : (text : List ℕ) → IsUtf8 text → All (All IsUtf8) (records default_config text)
text-records text u = all-text (length text + 1) st.StartRecord text u
