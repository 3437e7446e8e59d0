-- What holds of an answer, where there is one.
use Rattle.std.proofs.Common.{◌≡◌, ◌≢◌, ℕ, Option, Some, None, List, refl, subst, sym, true}
use Rattle.std.specs.Prelude.{Err, IfOk, IfSome, Ok, OnErr, OnOk, Result}
use Rattle.std.specs.Option.{option_map}
use Rattle.cube_defs.specs.Text.{Text}
use Rattle.qc_io.specs.Outside.{FileContents}
use Rattle.query_answers.specs.Queries.{query_reply}
use Rattle.query_script.specs.Commands.{command_in, query_wants}
use Rattle.query_script.specs.Faults.{LineFault, line_fault_in}
use Rattle.query_script.specs.Queries as queries
use Rattle.query_script.specs.Queries.{Query}
use Rattle.query_script.specs.Questions.{Ask, Question}
use Rattle.query_script.specs.declared.line.LineRefused.{LineRefused}
use Rattle.query_script.specs.declared.line.LineRefused.TheVariants as refusals
use Rattle.reply_text.specs.Replies.{line_texts, refused_text}
use Rattle.reply_text.specs.Words.{reply_bytes}
use Rattle.reply_text.specs.declared.short.Reply.{Reply}
use Rattle.qc_session.specs.Answers.{answer, answer_to}
use Rattle.qc_session.specs.Pins.{PinnedState, unchanged_with_pins}

pub on-ok : {T E : Type 0} (r : Result T E) (P : Type 0) → P → OnOk r P
on-ok (Ok x) P p = p
on-ok (Err e) P p = tt

-- what holds whatever the files tell holds of what they tell
pub for_told : (told : Option FileContents) (P : FileContents → Type 0) → ((t : FileContents) → P t) → IfSome told P
for_told None P h = tt
for_told (Some t) P h = h t

-- a line that asks a query of the present rows is answered as the query is
pub query-is : (s : PinnedState) (line : List ℕ) (number : ℕ) (reply : List ℕ) (query : Query)
    → command_in s.state.schema line ≡ Ok (Ask query) → reply ≡ query_reply s.state number query
    → (told : FileContents) → answer s told number line ≡ Some (unchanged_with_pins s reply)
query-is s line number reply query command e told = rw (command, e) refl

-- a reply beside a state that stays
pub kept : (s : PinnedState) (text reply : List ℕ) → reply ≡ text
    → Some (unchanged_with_pins s text) ≡ Some (record { state = s; reply = reply })
kept s text reply e = rw e refl

-- an answer to a query that runs out of memory may want it
pub wants-all : {T E : Type 0} (r : Result T E) (query : Query) → OnErr r (query ≢ queries.Stats)
    → OnErr r (query_wants query ≡ true)
wants-all (Ok x) query other = tt
wants-all (Err e) query other = by query other
  where
    by : (query : Query) → query ≢ queries.Stats → query_wants query ≡ true
    by queries.Stats other = absurd (other refl)
    by query other = refl

-- a line with a fault is refused
pub fault-answered : (told : Option FileContents) (s : PinnedState) (line : List ℕ) (number : ℕ) (fault : Option LineFault)
    (words : List Text) (reply : List ℕ) → Some words ≡ option_map line_texts fault
    → IfSome fault (λ f. command_in s.state.schema line ≡ Err f) → reply ≡ refused_text number words
    → IfSome told (λ t. answer s t number line ≡ Some (record { state = s; reply = reply }))
fault-answered None s line number fault words reply texts read is = tt
fault-answered (Some t) s line number None words reply texts read is = absurd (cc)
fault-answered (Some t) s line number (Some f) words reply texts read is = rw (read, is, same texts) refl
  where
    same : {x y : List Text} → Some x ≡ Some y → x ≡ y
    same e = cc

-- a line that isn't read, and has no fault, lacks memory
pub memory-alone : (e : LineRefused) → None ≡ option_map line_texts (line_fault_in e) → e ≡ refusals.Memory
memory-alone refusals.Memory texts = refl
memory-alone _ texts = absurd (cc)

-- a line that asks a question is answered as the question is
pub line-answered : {E : Type 0} (r : Result Reply E) (told : Option FileContents) (s : PinnedState) (line : List ℕ)
    (number : ℕ) (question : Question) (s2 : PinnedState) → command_in s.state.schema line ≡ Ok question
    → IfOk r (λ reply. IfSome told (λ t. answer_to s t number (Ok question)
    ≡ Some (record { state = s2; reply = reply_bytes reply })))
    → IfOk r (λ reply. IfSome told (λ t. answer s t number line
    ≡ Some (record { state = s2; reply = reply_bytes reply })))
line-answered r told s line number question s2 is h
    = subst (λ (read : Result Question LineFault). IfOk r (λ reply. IfSome told (λ t. answer_to s t number read
    ≡ Some (record { state = s2; reply = reply_bytes reply })))) (sym is) h
