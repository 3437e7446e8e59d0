-- How one line goes on from those before.
use Rattle.std.proofs.Common.{◌≡◌, ◌<◌, ◌≤◌, ◌+◌, ◌∙◌, ℕ, zero, suc, List, [], ◌∷◌, ◌++◌, length, get_or, true, false, refl, sym, arith, ap}
use Rattle.std.proofs.Common.{Some, None, IfSome, inl, inr, append-nil, append_assoc, length-append, add-one}
use Rattle.std.specs.Prelude.{Option, fold}
use Rattle.std.specs.List.{AllByRecursion}
use Rattle.std.proofs.lemmas.List.Sums.{fold-append}
use Rattle.std.proofs.lemmas.Bool.Decides.{nat_tests}
use Rattle.qc_io.specs.Outside.{FileContents, with_taken}
use Rattle.qc_session.specs.Flushed.{IsFlushed, TookPrefix}
use Rattle.qc_session.specs.Lines.{is_passed}
use Rattle.qc_session.specs.Pins.{PinnedState, unpinned}
use Rattle.reply_text.specs.Replies.{memory_text}
use Rattle.qc_session.specs.Answers.{answer, file_of}
use Rattle.warehouse.specs.State.{State}
use Rattle.qc_session.specs.Transcript.{Item, Run, is_skipped, item, items, run_at, step, transcript}
use Rattle.qc_session.specs.Runs.{AreRising, AreSkipped, AreUpTo, StoppedAt, StoppedWriting, Took, WroteAll, line_at, may_skip}
use Rattle.qc_session.specs.Session.{Gathered, Replies, Skips, WroteLine, WrotePart}
use Rattle.qc_session.proofs.FlushLemmas.{prefix-on, prefix-then, handed-none, handed-on, handed-then, taken-count}

not_skipped : (number : ℕ) (skipped : List ℕ) → AreUpTo number skipped → is_skipped skipped (number + 1) ≡ false
not_skipped number [] h = refl
not_skipped number (k ∷ ks) h = rw (not_skipped number ks h.1) (grind (arith, nat_tests, h.0))

pub skipped_now : (number : ℕ) (skipped : List ℕ) → is_skipped (skipped ++ (number + 1) ∷ []) (number + 1) ≡ true
skipped_now number [] = grind (arith, nat_tests)
skipped_now number (k ∷ ks) = rw (skipped_now number ks) (grind (arith, nat_tests))

replies-answer : (t : FileContents) (skipped : List ℕ) (number : ℕ) (state : PinnedState) (line : List ℕ)
    (state2 : PinnedState) (reply : List ℕ) → is_passed line ≡ false → AreUpTo number skipped
    → answer state t (number + 1) line ≡ Some (record { state = state2; reply = reply })
    → Replies t skipped (number + 1) state line state2 reply
replies-answer t skipped number state line state2 reply passed up e
    = record { is = λ replies. rw (passed, not_skipped number skipped up, e) refl }

replies-memory : (t : FileContents) (skipped : List ℕ) (number : ℕ) (state : PinnedState) (line : List ℕ)
    → is_passed line ≡ false
    → Replies t (skipped ++ (number + 1) ∷ []) (number + 1) state line state (memory_text (number + 1))
replies-memory t skipped number state line passed
    = record { is = λ replies. rw (passed, skipped_now number skipped) refl }

replies-passed : (t : FileContents) (skipped : List ℕ) (number : ℕ) (state : PinnedState) (line : List ℕ)
    → is_passed line ≡ true → Replies t skipped (number + 1) state line state []
replies-passed t skipped number state line passed = record { is = λ replies. rw (passed, append-nil replies) refl }

pub wrote-answer : (told : Option FileContents) (skipped : List ℕ) (number : ℕ) (state : PinnedState) (line : List ℕ)
    (state2 : PinnedState) (reply kept kept2 : List ℕ) (before now : Option (List ℕ)) → is_passed line ≡ false
    → AreUpTo number skipped
    → IfSome told (λ t. answer state t (number + 1) line ≡ Some (record { state = state2; reply = reply }))
    → IsFlushed (kept ++ reply) kept2 before now
    → WroteLine told skipped (number + 1) state line state2 kept kept2 before now
wrote-answer None skipped number state line state2 reply kept kept2 before now passed up e w = tt
wrote-answer (Some t) skipped number state line state2 reply kept kept2 before now passed up e w
    = (reply, replies-answer t skipped number state line state2 reply passed up e, w)

pub part-answer : (told : Option FileContents) (skipped : List ℕ) (number : ℕ) (state : PinnedState) (line : List ℕ)
    (state2 : PinnedState) (reply kept : List ℕ) (before now : Option (List ℕ)) → is_passed line ≡ false
    → AreUpTo number skipped
    → IfSome told (λ t. answer state t (number + 1) line ≡ Some (record { state = state2; reply = reply }))
    → TookPrefix (kept ++ reply) before now
    → WrotePart told skipped skipped (number + 1) state line state2 kept before now
part-answer None skipped number state line state2 reply kept before now passed up e w = tt
part-answer (Some t) skipped number state line state2 reply kept before now passed up e w
    = inr (reply, replies-answer t skipped number state line state2 reply passed up e, w)

pub wrote-memory : (told : Option FileContents) (skipped new : List ℕ) (number : ℕ) (state state2 : PinnedState)
    (line kept kept2 : List ℕ) (before now : Option (List ℕ)) → is_passed line ≡ false
    → new ≡ skipped ++ (number + 1) ∷ []
    → state2 ≡ state → IsFlushed (kept ++ memory_text (number + 1)) kept2 before now
    → WroteLine told new (number + 1) state line state2 kept kept2 before now
wrote-memory None skipped new number state state2 line kept kept2 before now passed is same w = tt
wrote-memory (Some t) skipped new number state state2 line kept kept2 before now passed is same w
    = (memory_text (number + 1), rw (is, same) (replies-memory t skipped number state line passed), w)

pub part-memory : (told : Option FileContents) (skipped new : List ℕ) (number : ℕ) (state state2 : PinnedState)
    (line kept : List ℕ) (before now : Option (List ℕ)) → is_passed line ≡ false → new ≡ skipped ++ (number + 1) ∷ []
    → state2 ≡ state → TookPrefix (kept ++ memory_text (number + 1)) before now
    → WrotePart told skipped new (number + 1) state line state2 kept before now
part-memory None skipped new number state state2 line kept before now passed is same w = tt
part-memory (Some t) skipped new number state state2 line kept before now passed is same w
    = inr (memory_text (number + 1), rw (is, same) (replies-memory t skipped number state line passed), w)

-- the line wasn't taken
pub part-before : (told : Option FileContents) (skipped : List ℕ) (number : ℕ) (state : PinnedState) (line : List ℕ)
    (state2 : PinnedState) (kept : List ℕ) (before now : Option (List ℕ)) → TookPrefix kept before now
    → WrotePart told skipped skipped number state line state2 kept before now
part-before None skipped number state line state2 kept before now w = tt
part-before (Some t) skipped number state line state2 kept before now w = inl (refl, w)

pub wrote-passed : (told : Option FileContents) (skipped : List ℕ) (number : ℕ) (state : PinnedState)
    (line kept : List ℕ) (before : Option (List ℕ)) → is_passed line ≡ true
    → WroteLine told skipped (number + 1) state line state kept kept before before
wrote-passed None skipped number state line kept before passed = tt
wrote-passed (Some t) skipped number state line kept before passed
    = ([], replies-passed t skipped number state line passed, rw (append-nil kept) (handed-none kept before))

-- a number past all lines makes no difference
pub items-later : (skipped : List ℕ) (n k : ℕ) (lines : List (List ℕ)) → n + length lines < k
    → items (skipped ++ k ∷ []) n lines ≡ items skipped n lines
unfolding items
items-later skipped n k [] h = refl
items-later skipped n k (line ∷ lines) h = rw (later skipped, items-later skipped (n + 1) k lines (omega arith)) refl
  where
    later : (ks : List ℕ) → is_skipped (ks ++ k ∷ []) (n + 1) ≡ is_skipped ks (n + 1)
    later [] = grind (arith, nat_tests)
    later (j ∷ js) = rw (later js) refl

-- one line more
pub items-push : (skipped : List ℕ) (n : ℕ) (lines : List (List ℕ)) (line : List ℕ)
    → items skipped n (lines ++ line ∷ []) ≡ items skipped n lines ++ item skipped (n + length lines + 1) line ∷ []
unfolding items
items-push skipped n [] line = let same : n + 1 ≡ n + 0 + 1 = omega arith in ap (λ m. item skipped m line ∷ []) same
items-push skipped n (l ∷ lines) line =
    let same : (n + 1) + length lines + 1 ≡ n + length (l ∷ lines) + 1 = omega arith in
    ap (λ (more : List Item). item skipped (n + 1) l ∷ more) (items-push skipped (n + 1) lines line
    ∙ ap (λ m. items skipped (n + 1) lines ++ item skipped m line ∷ []) same)

-- the transcript with one line more
took-push : (t : FileContents) (start : State) (skipped : List ℕ) (lines : List (List ℕ)) (line : List ℕ)
    (state : PinnedState) (replies : List ℕ) (state2 : PinnedState) (reply : List ℕ)
    → Took t start skipped lines state replies
    → Replies t skipped (length lines + 1) state line state2 reply
    → Took t start skipped (lines ++ line ∷ []) state2 (replies ++ reply)
unfolding transcript
took-push t start skipped lines line state replies state2 reply took r =
    let num : 0 + length lines + 1 ≡ length lines + 1 = omega arith in
    record {
      is = ap (λ (xs : List Item). fold (step t) (run_at (unpinned start) []) xs) (items-push skipped 0 lines line)
          ∙ fold-append (step t) (run_at (unpinned start) []) (items skipped 0 lines)
          (item skipped (0 + length lines + 1) line ∷ [])
          ∙ ap (λ (r : Run). step t r (item skipped (0 + length lines + 1) line)) took.is
          ∙ ap (λ m. step t (run_at state replies) (item skipped m line)) num
          ∙ r.is replies;
    }

pub took-skips : (t : FileContents) (start : State) (skipped new : List ℕ) (lines : List (List ℕ)) (line : List ℕ)
    (state : PinnedState) (replies : List ℕ) → Skips skipped (length lines + 1) line new
    → Took t start skipped lines state replies → Took t start new lines state replies
unfolding transcript
took-skips t start skipped new lines line state replies (inl same) took = rw same took
took-skips t start skipped new lines line state replies (inr more) took =
    let past : 0 + length lines < length lines + 1 = omega arith in
    record { is = rw (more.0, items-later skipped 0 (length lines + 1) lines past) took.is }

-- what a loop over the lines knows
abbrev pub GatheredSoFar : Option FileContents → State → List ℕ → List (List ℕ) → PinnedState → List ℕ → Option (List ℕ)
    → Option (List ℕ) → Type 0
GatheredSoFar told start skipped lines state kept before now
    = IfSome told (λ t. Gathered t start skipped lines state kept before now)

pub so_far-none : (told : Option FileContents) (start : State) (first : Option (List ℕ))
    → GatheredSoFar told start [] [] (unpinned start) [] first first
unfolding transcript items
so_far-none None start first = tt
so_far-none (Some t) start first = record { replies = []; took = record { is = refl }; handed = handed-none [] first }

-- the lines so far with one line more
pub so_far-push : (told : Option FileContents) (start : State) (skipped new : List ℕ) (lines : List (List ℕ))
    (line : List ℕ) (number : ℕ) (state state2 : PinnedState) (kept kept2 : List ℕ) (first before now : Option (List ℕ))
    → length lines ≡ number
    → Skips skipped (number + 1) line new → GatheredSoFar told start skipped lines state kept first before
    → WroteLine told new (number + 1) state line state2 kept kept2 before now
    → GatheredSoFar told start new (lines ++ line ∷ []) state2 kept2 first now
so_far-push None start skipped new lines line number state state2 kept kept2 first before now len skips w h = tt
so_far-push (Some t) start skipped new lines line number state state2 kept kept2 first before now len skips w h =
    let (reply, gives, on) = h in
    record {
      replies = w.replies ++ reply;
      took = took-push t start new lines line state w.replies state2 reply
          (took-skips t start skipped new lines line state w.replies (rw len skips) w.took) (rw len gives);
      handed = handed-on w.replies reply kept kept2 first before now w.handed on;
    }

pub length-push : (done : List (List ℕ)) (line : List ℕ) (number number2 : ℕ) → length done ≡ number
    → number2 ≡ number + 1 → length (done ++ line ∷ []) ≡ number2
length-push done line number number2 e f = omega (arith, length-append done (line ∷ []), e, f)

pub skips-up_to : (number : ℕ) (line old new : List ℕ) → AreUpTo number old → Skips old (number + 1) line new
    → AreUpTo (number + 1) new
skips-up_to number line old new up (inl same) = rw same (wider old up)
  where
    wider : (ks : List ℕ) → AreUpTo number ks → AreUpTo (number + 1) ks
    wider [] h = tt
    wider (k ∷ ks) h = (omega (arith, h.0), wider ks h.1)
skips-up_to number line old new up (inr more) = rw more.0 (pushed old up)
  where
    pushed : (ks : List ℕ) → AreUpTo number ks → AreUpTo (number + 1) (ks ++ (number + 1) ∷ [])
    pushed [] h = (omega arith, tt)
    pushed (k ∷ ks) h = (omega (arith, h.0), pushed ks h.1)

-- out took a prefix of the replies of the lines so far
stopped-writing : (t : FileContents) (start : State) (skipped : List ℕ) (lines rest all : List (List ℕ))
    (state : PinnedState) (replies : List ℕ) (first now : Option (List ℕ)) → Took t start skipped lines state replies
    → TookPrefix replies first now → all ≡ lines ++ rest → AreUpTo (length lines) skipped
    → StoppedWriting t start skipped all first now
stopped-writing t start skipped lines rest all state replies first now took front split up =
    let (count, is) = taken-count replies first now front in
    record {
      done = lines;
      rest = rest;
      split = split;
      reached = up;
      wrote
          = record { state = state; replies = replies; count = count; took = took; wrote = is };
    }

-- the same with a part of one line's reply
pub prefix-push : (told : Option FileContents) (start : State) (skipped new : List ℕ) (lines : List (List ℕ))
    (line : List ℕ) (rest : List (List ℕ)) (number : ℕ) (state state2 : PinnedState) (kept : List ℕ)
    (first before now : Option (List ℕ)) → length lines ≡ number
    → AreUpTo number skipped → Skips skipped (number + 1) line new
    → GatheredSoFar told start skipped lines state kept first before
    → WrotePart told skipped new (number + 1) state line state2 kept before now → (all : List (List ℕ))
    → all ≡ lines ++ line ∷ rest
    → IfSome told (λ t. StoppedWriting t start new all first now)
prefix-push None start skipped new lines line rest number state state2 kept first before now len up skips w h all split
    = tt
prefix-push (Some t) start skipped new lines line rest number state state2 kept first before now len up skips w
    (inl untaken) all split =
    stopped-writing t start new lines (line ∷ rest) all state w.replies first now (rw untaken.0 w.took)
    (prefix-then w.replies kept first before now w.handed untaken.1) split (rw (len, untaken.0) up)
prefix-push (Some t) start skipped new lines line rest number state state2 kept first before now len up skips w
    (inr taken) all split =
    let (reply, gives, front) = taken in
    stopped-writing t start new (lines ++ line ∷ []) rest all state2 (w.replies ++ reply) first now
    (took-push t start new lines line state w.replies state2 reply
    (took-skips t start skipped new lines line state w.replies (rw len skips) w.took) (rw len gives))
    (prefix-on w.replies reply kept first before now w.handed front)
    (split ∙ sym (append_assoc lines (line ∷ []) rest))
    (rw (length-push lines line number (number + 1) len refl) (skips-up_to number line skipped new up skips))

-- the same at the end of the lines
pub prefix-end : (told : Option FileContents) (start : State) (skipped : List ℕ) (lines all : List (List ℕ))
    (state : PinnedState) (kept : List ℕ) (first before now : Option (List ℕ))
    → GatheredSoFar told start skipped lines state kept first before → TookPrefix kept before now
    → all ≡ lines ++ [] → AreUpTo (length lines) skipped
    → IfSome told (λ t. StoppedWriting t start skipped all first now)
prefix-end None start skipped lines all state kept first before now w front split up = tt
prefix-end (Some t) start skipped lines all state kept first before now w front split up =
    stopped-writing t start skipped lines [] all state w.replies first now w.took
    (prefix-then w.replies kept first before now w.handed front) split up

-- all that was kept is handed on
all-handed : (replies kept : List ℕ) (first before now : Option (List ℕ)) → IsFlushed replies kept first before
    → IsFlushed kept [] before now → now ≡ with_taken replies first
all-handed replies kept first before now h end =
    let whole = handed-then replies kept [] first before now h end in
    whole.took ∙ ap (λ (xs : List ℕ). with_taken xs first) (sym (whole.split ∙ append-nil whole.front))

pub stopped-at : (told : Option FileContents) (sure : Type 0) (start : State) (skipped new : List ℕ)
    (lines : List (List ℕ)) (line : List ℕ) (rest : List (List ℕ)) (name : List ℕ) (state : PinnedState) (kept : List ℕ)
    (first before now : Option (List ℕ))
    → file_of state.state.schema line ≡ Some name → new ≡ skipped → IsFlushed kept [] before now
    → GatheredSoFar told start skipped lines state kept first before
    → (sure → IfSome told (λ t. t name ≡ None)) → (all : List (List ℕ)) → all ≡ lines ++ line ∷ rest
    → AreUpTo (length lines) skipped
    → IfSome told (λ t. StoppedAt t sure start new all name first now)
stopped-at None sure start skipped new lines line rest name state kept first before now names is end w untold all split
    up = tt
stopped-at (Some t) sure start skipped new lines line rest name state kept first before now names is end w untold all
    split up = record {
      done = lines;
      line = line;
      rest = rest;
      split = split;
      reached = rw is up;
      names = names;
      wrote = record {
        state = state;
        replies = w.replies;
        took = rw is w.took;
        wrote
            = all-handed w.replies kept first before now w.handed end;
      };
      untold = untold;
    }

pub wrote-all : (told : Option FileContents) (start : State) (skipped : List ℕ) (lines all : List (List ℕ))
    (state : PinnedState) (kept : List ℕ) (first before now : Option (List ℕ)) → all ≡ lines ++ []
    → GatheredSoFar told start skipped lines state kept first before
    → IsFlushed kept [] before now → IfSome told (λ t. WroteAll t start skipped all (Some state.state) first now)
wrote-all None start skipped lines all state kept first before now e w end = tt
wrote-all (Some t) start skipped lines all state kept first before now e w end =
    let same : all ≡ lines = e ∙ append-nil lines in
    record {
      wrote = record {
        state = state;
        replies = w.replies;
        took = rw same w.took;
        wrote
            = all-handed w.replies kept first before now w.handed end;
      };
      ended = refl;
    }

-- rising numbers up to this one, and the next
rising-push : (n number : ℕ) (ks : List ℕ) → n ≤ number → AreUpTo number ks → AreRising n ks
    → AreRising n (ks ++ (number + 1) ∷ [])
rising-push n number [] le up h = (omega arith, tt)
rising-push n number (k ∷ ks) le up h = (h.0, rising-push k number ks up.0 up.1 h.1)

line_at-prefix : (lines more : List (List ℕ)) (k : ℕ) → k ≤ length lines → line_at (lines ++ more) k ≡ line_at lines k
line_at-prefix lines more zero le = refl
line_at-prefix lines more (suc k) le = by lines k (omega arith)
  where
    by : (lines : List (List ℕ)) (k : ℕ) → k < length lines → get_or (lines ++ more) k [] ≡ get_or lines k []
    by [] k lt = absurd (omega arith)
    by (l ∷ ls) zero lt = refl
    by (l ∷ ls) (suc k) lt = by ls k (omega arith)

line_at-end : (lines : List (List ℕ)) (line : List ℕ) (k : ℕ) → k ≡ length lines
    → line_at (lines ++ line ∷ []) (suc k) ≡ line
line_at-end [] line zero e = refl
line_at-end (l ∷ ls) line (suc k) e = line_at-end ls line k (omega arith)
line_at-end _ line _ e = absurd (omega arith)

-- numbers of lines that may be skipped stay such where lines come after
commands-prefix : (lines more : List (List ℕ)) (ks : List ℕ) → AreUpTo (length lines) ks
    → AllByRecursion (λ k. may_skip (line_at lines k) ≡ true) ks
    → AllByRecursion (λ k. may_skip (line_at (lines ++ more) k) ≡ true) ks
commands-prefix lines more [] up h = tt
commands-prefix lines more (k ∷ ks) up h
    = (ap may_skip (line_at-prefix lines more k up.0) ∙ h.0, commands-prefix lines more ks up.1 h.1)

all-push : (P : ℕ → Type 0) (ks : List ℕ) (k : ℕ) → AllByRecursion P ks → P k → AllByRecursion P (ks ++ k ∷ [])
all-push P [] k h p = (p, tt)
all-push P (j ∷ js) k h p = (h.0, all-push P js k h.1 p)

pub skipped-push : (number : ℕ) (line old new : List ℕ) (lines : List (List ℕ)) → length lines ≡ number
    → AreUpTo number old → Skips old (number + 1) line new → AreSkipped lines old → AreSkipped (lines ++ line ∷ []) new
skipped-push number line old new lines len up (inl same) h = record {
  rising = rw same h.rising;
  commands = rw same (commands-prefix lines (line ∷ []) old (rw len up) h.commands);
}
skipped-push number line old new lines len up (inr more) h = record {
  rising = rw more.0 (rising-push 0 number old (omega arith) up h.rising);
  commands =
      let here : line_at (lines ++ line ∷ []) (number + 1) ≡ line
      = rw add-one (line_at-end lines line number (sym len)) in
      rw more.0 (all-push _ old (number + 1) (commands-prefix lines (line ∷ []) old (rw len up) h.commands)
      (ap may_skip here ∙ more.1));
}

pub skipped-prefix : (lines more all : List (List ℕ)) (number : ℕ) (ks : List ℕ) → length lines ≡ number
    → AreUpTo number ks → all ≡ lines ++ more → AreSkipped lines ks → AreSkipped all ks
skipped-prefix lines more all number ks len up split h = record {
  rising = h.rising;
  commands = rw split (commands-prefix lines more ks (rw len up) h.commands);
}

pub lines-regroup : (done : List (List ℕ)) (line : List ℕ) (all rest behind : List (List ℕ)) → all ≡ done ++ rest
    → rest ≡ line ∷ behind → all ≡ (done ++ line ∷ []) ++ behind
lines-regroup done line all rest behind e f = e ∙ ap (λ (xs : List (List ℕ)). done ++ xs) f
    ∙ sym (append_assoc done (line ∷ []) behind)
