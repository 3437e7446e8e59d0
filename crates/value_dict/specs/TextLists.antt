-- What a contract sees of a dictionary.
use Rattle.std.specs.Prelude.{ℕ, ◌<◌, ◌≤◌, ◌-◌, All, List, [], map, length, slice_index_or, slice_set, replicate, ◌++◌, ◌∷◌, take, Option}
use Rattle.std.specs.Prelude.{Some, None, String, string_bytes, position, is_some, if◌then◌else◌}
use Rattle.std.specs.List.{IsDistinct}
use Rattle.std.specs.Option.{option_map, option_and_then}
use Rattle.std.specs.Str.{bytes_eq}
use Rattle.indexmap.specs.IndexSet.{IndexSet}
use Rattle.cube_defs.specs.Text.{Text}
use Rattle.cube_defs.specs.Cell.{Cell}
use Rattle.cell_core.specs.declared.fields.Field.{Field}
use Rattle.cell_core.specs.declared.fields.Field.TheVariants.{Any, One}
use Rattle.cube_defs.specs.declared.limits.TheConstants.{MAX_CODES, MAX_DIMS}

-- a list of texts for each dimension, and how many texts a list may have
pub record TextLists : Type 0 where
  pub lists : List (List Text)
  pub max : ℕ

-- what is true of every dictionary
pub record IsDictionary (d : TextLists) : Type 0 where
  pub some_dims : 0 < length d.lists
  pub few_dims : length d.lists ≤ MAX_DIMS
  pub some_texts : 0 < d.max
  pub few_texts : d.max ≤ MAX_CODES
  pub within : All (λ texts. length texts ≤ d.max) d.lists
  pub distinct : All (IsDistinct bytes_eq) d.lists

-- the texts of a set, in order
abbrev pub texts_of : {A S : Type 0} → IndexSet (String A) S → List Text
texts_of s = map string_bytes s.keys

-- no texts in any dimension
abbrev pub no_texts : ℕ → ℕ → TextLists
no_texts dims max = record { lists = replicate dims []; max = max }

-- the texts of a dimension
abbrev pub list_at : TextLists → ℕ → List Text
list_at d dim = slice_index_or d.lists dim []

-- the code of a text: its place
abbrev pub code_in : List Text → Text → Option ℕ
code_in texts text = position (bytes_eq text) texts

-- a list after a text is learnt
abbrev pub learnt_in : List Text → Text → List Text
learnt_in texts text = if is_some (code_in texts text) then texts else texts ++ text ∷ []

-- the dictionary after a text is learnt
abbrev pub learnt : TextLists → ℕ → Text → TextLists
learnt d dim text = record d { lists = slice_set d.lists dim (learnt_in (list_at d dim) text) }

-- each list cut to its first so many texts
abbrev pub cut : List (List Text) → List ℕ → List (List Text)
cut [] lens = []
cut (texts ∷ lists) [] = texts ∷ lists
cut (texts ∷ lists) (len ∷ lens) = take len texts ∷ cut lists lens

-- one more dimension after the others, whose list is this text
abbrev pub with_dim : TextLists → Text → TextLists
with_dim d text = record d { lists = d.lists ++ (text ∷ []) ∷ [] }

-- all dimensions but the last
abbrev pub without_last_dim : TextLists → TextLists
without_last_dim d = record d { lists = take (length d.lists - 1) d.lists }

-- the entry that a field asks for: Any, or the code of one text that is there
abbrev pub entry_in : List Text → Field → Option (Option ℕ)
entry_in texts Any = Some None
entry_in texts (One text) = option_map (λ code. Some code) (code_in texts text)
entry_in texts _ = None

-- the cell that the fields ask for, if each asks for an entry
abbrev pub cell_in : List (List Text) → List Field → Option (Cell ℕ)
cell_in [] [] = Some []
cell_in [] (field ∷ fields) = None
cell_in (texts ∷ lists) [] = None
cell_in (texts ∷ lists) (field ∷ fields)
    = option_and_then (λ e. option_map (λ c. e ∷ c) (cell_in lists fields)) (entry_in texts field)
