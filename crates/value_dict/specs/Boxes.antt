-- Boxes: what is allowed in each dimension.
use Rattle.std.specs.Prelude.{◌≡◌, ℕ, suc, ◌≤◌, Bool, true, ◌&&◌, List, [], ◌∷◌, filter, map, length, Option, Some, None, IfSome, Vec, ⊤}
use Rattle.std.specs.Prelude.{slice_index_or}
use Rattle.std.specs.List.Sorted.{IsStrictlySortedBy}
use Rattle.std.specs.declared.alloc.Global.{Global}
use Rattle.std.specs.declared.cmp.Ordering.{Ordering}
use Rattle.std.specs.List.{All, AllByRecursion}
use Rattle.std.specs.Option.{option_map}
use Rattle.std.specs.Ordering.{is_le}
use Rattle.cube_defs.specs.Text.{Text, text_cmp}
use Rattle.cube_defs.specs.Tree.{distinct}
use Rattle.cube_defs.specs.Answers.{Box}
use Rattle.cube_defs.specs.declared.limits.TheConstants.{MAX_DIMS}
use Rattle.cube_laws.specs.Recoding.{coded_box}
use Rattle.cell_core.specs.Entry.{IsCode}
use Rattle.cell_core.specs.declared.fields.Field.{Field}
use Rattle.cell_core.specs.declared.fields.Field.TheVariants as fields
use Rattle.value_dict.specs.Recoded.{has_code, text_in}
use Rattle.value_dict.specs.Decoded.{has_text}

-- each list of codes
abbrev pub choices_of : List (Option (Vec ℕ Global)) → Box ℕ
choices_of choices = map (option_map (λ codes. codes.items)) choices

-- the codes, if there are some, may be those of values
abbrev pub IsChoice : Option (List ℕ) → Type 0
IsChoice None = ⊤
IsChoice (Some codes) = All IsCode codes

-- what is true of every box of codes
pub record IsCellBox (choices : Box ℕ) : Type 0 where
  pub few : length choices ≤ MAX_DIMS
  pub small : All IsChoice choices

-- a box with the texts of its codes
abbrev pub decoded_box : List (List Text) → Box ℕ → Box Text
decoded_box lists box = coded_box (text_in lists) 0 box

-- the values that are allowed in a dimension rise
abbrev pub IsOrdered : {A : Type 0} → (A → A → Ordering) → Box A → Type 0
IsOrdered cmp [] = ⊤
IsOrdered cmp (None ∷ box) = IsOrdered cmp box
IsOrdered cmp (Some vs ∷ box) = IsStrictlySortedBy cmp vs × IsOrdered cmp box

-- the text stands at low, at high or between them
abbrev pub is_between : Text → Text → Text → Bool
is_between low high text = is_le (text_cmp low text) && is_le (text_cmp text high)

-- what a field asks of a dimension that has these texts: Any alone, or values in the order of texts, each once
abbrev pub field_values : List Text → Field → Option (List Text)
field_values texts fields.Any = None
field_values texts fields.All = Some (distinct text_cmp texts)
field_values texts (fields.One text) = Some (text ∷ [])
field_values texts (fields.Among values) = Some (distinct text_cmp values)
field_values texts (fields.Between low high) = Some (distinct text_cmp (filter (is_between low high) texts))

-- the box that fields ask for, the first of which stands for dimension k
abbrev pub fields_box : List (List Text) → ℕ → List Field → Box Text
fields_box lists k [] = []
fields_box lists k (field ∷ fields) = field_values (slice_index_or lists k []) field ∷ fields_box lists (suc k) fields

-- codes that are those of the known values that a field asks for, in their order
pub record AreFieldCodes (lists : List (List Text)) (dim : ℕ) (field : Field) (choice : Option (List ℕ)) : Type 0 where
  pub values : option_map (map (text_in lists dim)) choice ≡ option_map (filter (has_text lists dim))
      (field_values (slice_index_or lists dim []) field)
  pub known : IfSome choice (AllByRecursion (λ code. has_code lists dim code ≡ true))
