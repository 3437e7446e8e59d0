use Rattle.std.proofs.Common.{◌≡◌, ◌∙◌, ap, false, subst, sym, true}
use Rattle.std.proofs.lemmas.Result.{IfErr-weaker}
use Rattle.std.specs.Str.{bytes_eq}
use Rattle.cell_core.specs.Gives.{Gives}
use Rattle.query_script.specs.Commands.{command_named}
use Rattle.query_script.specs.Faults.{line_fault_in}
use Rattle.query_script.specs.Lines.{rest_of, stats_line, word_of}
use Rattle.query_script.specs.Questions.{question_in}
use Rattle.query_script.proofs.CommandFacts.{line-is, no-text-line, reading-wants, stats-line, text-line, wants-memory}
use Rattle.query_script.proofs.line.read_line.Goals as goal

pub returns-then-is_stats-clause-gives : goal.returns-then-is_stats-clause-gives
returns-then-is_stats-clause-gives c =
    let stats : bytes_eq c.args.line.now stats_line ≡ true
    = ap (λ text. bytes_eq text stats_line) (sym c.in-Ok.ensures.cases.0) ∙ sym c.is_stats.ensures
    ∙ c.if-is_stats.true in
    stats-line c.args.schema.now c.args.line.now c.in-Ok.ensures.cases.1 stats

pub returns-else-is_stats-clause-gives : goal.returns-else-is_stats-clause-gives
returns-else-is_stats-clause-gives c =
    let stats : bytes_eq c.args.line.now stats_line ≡ false
    = ap (λ text. bytes_eq text stats_line) (sym c.in-Ok.ensures.cases.0) ∙ sym c.is_stats.ensures
    ∙ c.if-is_stats.false in
    let word : c.split.result.0.now ≡ word_of c.args.line.now = c.split.ensures.word
    ∙ ap word_of c.in-Ok.ensures.cases.0 in
    let rest : c.split.result.1.text.now ≡ rest_of c.args.line.now = c.split.ensures.rest
    ∙ ap rest_of c.in-Ok.ensures.cases.0 in
    let gives = subst (λ r. Gives line_fault_in question_in c.read_command.result
    (command_named c.args.schema.now c.split.result.0.now r)) rest c.read_command.ensures.gives in
    rw (text-line c.args.schema.now c.args.line.now c.in-Ok.ensures.cases.1 stats)
    (subst (λ w. Gives line_fault_in question_in c.read_command.result
    (command_named c.args.schema.now w (rest_of c.args.line.now))) word gives)

pub returns-else-is_stats-clause-memory : goal.returns-else-is_stats-clause-memory
returns-else-is_stats-clause-memory c =
    let word : c.split.result.0.now ≡ word_of c.args.line.now = c.split.ensures.word
    ∙ ap word_of c.in-Ok.ensures.cases.0 in
    IfErr-weaker c.read_command.result _ _ (λ refused named is. wants-memory c.args.line.now c.in-Ok.ensures.cases.1
    (rw word at (named is))) c.read_command.ensures.memory

pub returns-else-is_stats-clause-question : goal.returns-else-is_stats-clause-question
returns-else-is_stats-clause-question c
    = line-is c.args.schema.now c.args.line.now c.read_command.result (returns-else-is_stats-clause-gives c)

pub returns-in-Err-clause-gives : goal.returns-in-Err-clause-gives
returns-in-Err-clause-gives c = no-text-line c.args.schema.now c.args.line.now c.in-Err.ensures.cases.0

pub returns-else-is_stats-clause-wants : goal.returns-else-is_stats-clause-wants
returns-else-is_stats-clause-wants c
    = reading-wants c.args.schema.now c.args.line.now c.read_command.result (returns-else-is_stats-clause-gives c)
