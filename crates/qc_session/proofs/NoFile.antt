-- Commands that name no file.
use Rattle.std.proofs.Common.{◌≡◌, None, Ok, refl}
use Rattle.cube_defs.specs.Text.{Text}
use Rattle.query_script.specs.Questions.{question_in}
use Rattle.query_script.specs.declared.line.Command.{Command}
use Rattle.query_script.specs.declared.line.Command.TheVariants as commands
use Rattle.qc_session.specs.Answers.{file_named}

-- each that is neither of the three that name one
pub names-none : (command : Command) → ((name : Text) → command ≡ commands.Load name → ⊥)
    → ((name : Text) → command ≡ commands.Apply name → ⊥) → ((name : Text) → command ≡ commands.Try name → ⊥)
    → file_named (Ok (question_in command)) ≡ None
names-none (commands.Load name) load apply tried = absurd (load name refl)
names-none (commands.Apply name) load apply tried = absurd (apply name refl)
names-none (commands.Try name) load apply tried = absurd (tried name refl)
names-none _ load apply tried = refl
