-- The forms of the code as forms of the words.
use Rattle.std.specs.Prelude.{◌≤◌, Option, Some, None, ⊤}
use Rattle.cube_defs.specs.declared.limits.TheConstants.{MAX_ROWS}
use Rattle.qc_session.specs.Forms as forms
use Rattle.qc_session.specs.declared.words.Form.{Form}
use Rattle.qc_session.specs.declared.words.Form.TheVariants as declared
use Rattle.qc_session.specs.declared.words.InputFiles.{InputFiles}
use Rattle.qc_session.specs.declared.words.Source.{Source}
use Rattle.qc_session.specs.declared.words.Source.TheVariants as sources

abbrev pub source_in : Source → forms.Source
source_in sources.FromSchema = forms.FromSchema
source_in sources.FromSnapshot = forms.FromSnapshot

abbrev pub names_in : InputFiles → forms.FileNames
names_in names = record { source = source_in names.source; first = names.first.now; script = names.script.now }

abbrev pub form_in : Form → Option forms.Form
form_in (declared.Run names) = Some (forms.Run (names_in names))
form_in (declared.Pack names) = Some (forms.Pack (names_in names))
form_in (declared.Gen rows seed) = Some (forms.Gen (record { rows = rows; seed = seed }))
form_in declared.Invalid = None

-- no more rows than a cube may have
abbrev pub HasFewRows : Form → Type 0
HasFewRows (declared.Run names) = ⊤
HasFewRows (declared.Pack names) = ⊤
HasFewRows (declared.Gen rows seed) = rows ≤ MAX_ROWS
HasFewRows declared.Invalid = ⊤
