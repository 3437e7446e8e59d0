-- What a line asks, in the words of the definitions.
use Rattle.cube_defs.specs.Text.{Text}
use Rattle.query_script.specs.Queries.{Query, query_in}
use Rattle.query_script.specs.declared.line.Command.{Command}
use Rattle.query_script.specs.declared.line.Command.TheVariants as commands

-- The rows of a file come in place of none, are changed, or would be changed; a dimension of a name comes, with a value
-- of each row; the
-- present rows get a name, a name goes, or something is asked of the rows of a name; or it is asked of the present
-- rows.
pub data Question : Type 0 where
  Load : Text → Question
  Apply : Text → Question
  Try : Text → Question
  Widen : Text → Text → Question
  Pin : Text → Question
  Unpin : Text → Question
  At : Text → Query → Question
  Ask : Query → Question

abbrev pub question_in : Command → Question
question_in (commands.Load name) = Load name
question_in (commands.Apply name) = Apply name
question_in (commands.Try name) = Try name
question_in (commands.Widen name value) = Widen name value
question_in (commands.Pin name) = Pin name
question_in (commands.Unpin name) = Unpin name
question_in (commands.At name query) = At name (query_in query)
question_in (commands.Ask query) = Ask (query_in query)
