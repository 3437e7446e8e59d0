-- Which file a line names doesn't depend on the schema.
use Rattle.std.proofs.Common.{◌≡◌, ◌∙◌, ℕ, Bool, true, false, cond, Option, None, List, refl, sym, Result, Ok, Err}
use Rattle.std.specs.Prelude.{codes}
use Rattle.std.specs.Str.{bytes_eq, is_utf8}
use Rattle.cube_defs.specs.Text.{Text}
use Rattle.qc_schema.specs.Grammar.{is_new_name}
use Rattle.qc_schema.specs.Schema.{Layout}
use Rattle.query_script.specs.Commands.{asked_with, at_in, command_named, is_pin_name, name_in, pin_name_in, query_in_line, query_named}
use Rattle.query_script.specs.Faults as faults
use Rattle.query_script.specs.Faults.{LineFault}
use Rattle.query_script.specs.Lines.{rest_of, stats_line, word_of}
use Rattle.query_script.specs.Queries as queries
use Rattle.query_script.specs.Queries.{Query}
use Rattle.query_script.specs.Questions.{Apply, Ask, At, Load, Pin, Question, Try, Unpin, Widen}
use Rattle.query_script.specs.Widens.{has_value, widen_in}
use Rattle.qc_session.specs.Answers.{file_named, file_of}

abbrev NamesNone : Result Question LineFault → Type 0
NamesNone read = file_named read ≡ None

of-query : (read : Result Query LineFault) → NamesNone (asked_with Ask read)
of-query (Err fault) = refl
of-query (Ok query) = refl

of-pin : (read : Result Text LineFault) → NamesNone (asked_with Pin read)
of-pin (Err fault) = refl
of-pin (Ok name) = refl

of-unpin : (read : Result Text LineFault) → NamesNone (asked_with Unpin read)
of-unpin (Err fault) = refl
of-unpin (Ok name) = refl

of-at : (name : Text) (read : Result Query LineFault) → NamesNone (asked_with (At name) read)
of-at name (Err fault) = refl
of-at name (Ok query) = refl

module _ (layout : Layout) where
  at-words : (rest : List ℕ) → NamesNone (at_in layout rest)
  at-words rest = by (is_pin_name (word_of rest))
    where
      by : (named : Bool) → NamesNone (cond named (asked_with (At (word_of rest)) (query_in_line layout (rest_of rest)))
          (Err (faults.Field 1)))
      by true = of-at (word_of rest) (query_in_line layout (rest_of rest))
      by false = refl

  widen-words : (rest : List ℕ) → NamesNone (widen_in layout rest)
  widen-words rest = by (is_new_name layout (word_of rest)) (has_value rest)
    where
      by : (new valued : Bool)
          → NamesNone (cond new (cond valued (Ok (Widen (word_of rest) (rest_of rest))) (Err (faults.Field 2)))
          (Err (faults.Field 1)))
      by true true = refl
      by true false = refl
      by false valued = refl

-- the file that a command word and its rest name
abbrev named_by : Text → List ℕ → Option Text
named_by word rest =
    cond (bytes_eq word (codes "load")) (file_named (asked_with Load (name_in rest)))
    (cond (bytes_eq word (codes "apply")) (file_named (asked_with Apply (name_in rest)))
    (cond (bytes_eq word (codes "try")) (file_named (asked_with Try (name_in rest))) None))

named-same : (layout : Layout) (word : Text) (rest : List ℕ)
    → file_named (command_named layout word rest) ≡ named_by word rest
named-same layout word rest =
    by (bytes_eq word (codes "load")) (bytes_eq word (codes "apply")) (bytes_eq word (codes "try"))
    (bytes_eq word (codes "widen")) (bytes_eq word (codes "pin")) (bytes_eq word (codes "unpin"))
    (bytes_eq word (codes "at"))
  where
    by : (load apply tried widen pin unpin at : Bool)
        → file_named (cond load (asked_with Load (name_in rest))
        (cond apply (asked_with Apply (name_in rest)) (cond tried (asked_with Try (name_in rest))
        (cond widen (widen_in layout rest)
        (cond pin (asked_with Pin (pin_name_in rest)) (cond unpin (asked_with Unpin (pin_name_in rest))
        (cond at (at_in layout rest) (asked_with Ask (query_named layout word rest)))))))))
        ≡ cond load (file_named (asked_with Load (name_in rest)))
        (cond apply (file_named (asked_with Apply (name_in rest)))
        (cond tried (file_named (asked_with Try (name_in rest))) None))
    by true apply tried widen pin unpin at = refl
    by false true tried widen pin unpin at = refl
    by false false true widen pin unpin at = refl
    by false false false true pin unpin at = widen-words layout rest
    by false false false false true unpin at = of-pin (pin_name_in rest)
    by false false false false false true at = of-unpin (pin_name_in rest)
    by false false false false false false true = at-words layout rest
    by false false false false false false false = of-query (query_named layout word rest)

-- the file that a line names, whatever the schema
abbrev line_names : List ℕ → Option Text
line_names line = cond (is_utf8 line)
    (cond (bytes_eq line stats_line) None (named_by (word_of line) (rest_of line))) None

line-same : (layout : Layout) (line : List ℕ) → file_of layout line ≡ line_names line
line-same layout line = by (is_utf8 line) (bytes_eq line stats_line)
  where
    by : (text stats : Bool)
        → file_named (cond text
        (cond stats (Ok (Ask queries.Stats)) (command_named layout (word_of line) (rest_of line))) (Err faults.Utf8))
        ≡ cond text (cond stats None (named_by (word_of line) (rest_of line))) None
    by true true = refl
    by true false = named-same layout (word_of line) (rest_of line)
    by false stats = refl

pub file-same : (a b : Layout) (line : List ℕ) → file_of a line ≡ file_of b line
file-same a b line = line-same a line ∙ sym (line-same b line)
