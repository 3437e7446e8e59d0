-- What follows the word `at`, by its name and its query.
use Rattle.std.proofs.Common.{Option, Some, None, ◌≡◌, ℕ, List, refl, Ok, Err, true, false, Bool, cond}
use Rattle.std.specs.Prelude.{Result, IfSome}
use Rattle.cube_defs.specs.Text.{Text}
use Rattle.qc_schema.specs.Schema.{Layout}
use Rattle.query_script.specs.Faults as faults
use Rattle.query_script.specs.Faults.{LineFault}
use Rattle.query_script.specs.Lines.{rest_of, word_of}
use Rattle.query_script.specs.Commands.{asked_with, at_in, is_pin_name, pin_name_in, query_in_line}
use Rattle.query_script.specs.Queries.{Query}
use Rattle.query_script.specs.Questions.{At, Question}

-- the answer to a line with this fault
abbrev refused : LineFault → Result Question LineFault
refused fault = Err fault

-- both are there
pub at-asks : (layout : Layout) (rest : List ℕ) (name : Text) (q : Query) → pin_name_in (word_of rest) ≡ Ok name
    → query_in_line layout (rest_of rest) ≡ Ok q → at_in layout rest ≡ Ok (At name q)
at-asks layout rest name q named asked = rw asked (by (is_pin_name (word_of rest)) named)
  where
    by : (b : Bool) → cond b (Ok (word_of rest)) (Err (faults.Field 1)) ≡ Ok name
        → cond b (Ok (At (word_of rest) q)) (Err (faults.Field 1)) ≡ Ok (At name q)
    by true e = let same : word_of rest ≡ name = cc in rw same refl
    by false e = absurd (cc e)

-- the name is refused
pub at-unnamed : (o : Option LineFault) (layout : Layout) (rest : List ℕ)
    → IfSome o (λ fault. pin_name_in (word_of rest) ≡ Err fault) → IfSome o (λ fault. at_in layout rest ≡ Err fault)
at-unnamed None layout rest h = tt
at-unnamed (Some fault) layout rest h = by (is_pin_name (word_of rest)) h
  where
    by : (b : Bool) → cond b (Ok (word_of rest)) (Err (faults.Field 1)) ≡ Err fault
        → cond b (asked_with (At (word_of rest)) (query_in_line layout (rest_of rest)))
        (Err (faults.Field 1)) ≡ Err fault
    by true e = absurd (cc e)
    by false e = let same : faults.Field 1 ≡ fault = cc in rw same refl

-- the query is refused
pub at-unasked : (o : Option LineFault) (layout : Layout) (rest : List ℕ) (name : Text)
    → pin_name_in (word_of rest) ≡ Ok name → IfSome o (λ fault. query_in_line layout (rest_of rest) ≡ Err fault)
    → IfSome o (λ fault. at_in layout rest ≡ Err fault)
at-unasked None layout rest name named h = tt
at-unasked (Some fault) layout rest name named h = rw h (by (is_pin_name (word_of rest)) named)
  where
    by : (b : Bool) → cond b (Ok (word_of rest)) (Err (faults.Field 1)) ≡ Ok name
        → cond b (refused fault) (refused (faults.Field 1)) ≡ refused fault
    by true e = refl
    by false e = absurd (cc e)
