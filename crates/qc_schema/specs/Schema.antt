-- What a schema says, and what the grammar keeps of each.
use Rattle.std.specs.Prelude.{ℕ, Bool, true, not, ◌≡◌, ◌≤◌, ◌&&◌, ◌==◌, List, [], ◌∷◌, ◌++◌, length, map, codes, nat_le, slice_index, ◌||◌}
use Rattle.std.specs.Char.{is_ascii_alphabetic, is_ascii_alphanumeric}
use Rattle.std.specs.List.{list_all, list_any, AllByRecursion}
use Rattle.std.specs.Str.{bytes_eq}
use Rattle.cube_defs.specs.Text.{Text}
use Rattle.aggregates.specs.Views.{IsThere, same_kind}
use Rattle.aggregates.specs.declared.kind.AggKind.{AggKind}
use Rattle.qc_schema.specs.declared.limits.SchemaVersion.{SchemaVersion}
use Rattle.qc_schema.specs.declared.limits.SchemaVersion.TheVariants as versions
use Rattle.qc_schema.specs.declared.limits.TheConstants.{VERSION_1_DIMS, VERSION_1_MEASURES}
use Rattle.cube_defs.specs.declared.limits.TheConstants.{MAX_CODES, MAX_DIMS, MAX_MEASURES, MAX_NODES, MAX_ROWS, MAX_SCALE}

-- what a version is called, and what a schema of it may have
abbrev pub version_number : SchemaVersion → ℕ
version_number versions.One = 1
version_number versions.Two = 2

abbrev pub version_word : SchemaVersion → Text
version_word versions.One = codes "1"
version_word versions.Two = codes "2"

abbrev pub max_dims : SchemaVersion → ℕ
max_dims versions.One = VERSION_1_DIMS
max_dims versions.Two = MAX_DIMS

abbrev pub max_measures : SchemaVersion → ℕ
max_measures versions.One = VERSION_1_MEASURES
max_measures versions.Two = MAX_MEASURES

pub record Measure : Type 0 where
  pub name : Text
  pub scale : ℕ

-- what stands in place of a measure that isn't there
abbrev pub no_measure : Measure
no_measure = record { name = []; scale = 0 }

pub record Layout : Type 0 where
  pub version : SchemaVersion
  pub id : Text
  pub dims : List Text
  pub measures : List Measure
  pub indexes : List AggKind
  pub nodes : ℕ
  pub rows : ℕ
  pub values : ℕ

-- a name begins with a letter, goes on with letters, digits or `_`, has at most 32 bytes, and isn't `op`
abbrev pub is_name_byte : ℕ → Bool
is_name_byte b = is_ascii_alphanumeric b || (b == 95)

abbrev pub is_name : List ℕ → Bool
is_name name = is_ascii_alphabetic (slice_index name 0) && list_all is_name_byte name && nat_le (length name) 32
    && not (bytes_eq name (codes "op"))

-- the names of the id, the dimensions and the measures
abbrev pub names_of : Layout → List Text
names_of l = l.id ∷ (l.dims ++ map (λ m. m.name) l.measures)

-- one more dimension after the others
abbrev pub with_dim : Layout → Text → Layout
with_dim l name = record l { dims = l.dims ++ name ∷ [] }

-- no element is equal to one after it
abbrev pub all_different : {X : Type 0} → (X → X → Bool) → List X → Bool
all_different eq [] = true
all_different eq (x ∷ xs) = not (list_any (λ y. eq y x) xs) && all_different eq xs

-- how much a schema lets there be: some, and no more than there may ever be
pub record AreLimits (nodes rows values : ℕ) : Type 0 where
  pub some_nodes : 1 ≤ nodes
  pub few_nodes : nodes ≤ MAX_NODES
  pub some_rows : 1 ≤ rows
  pub few_rows : rows ≤ MAX_ROWS
  pub some_values : 1 ≤ values
  pub few_values : values ≤ MAX_CODES

-- what each schema that the grammar has is known to be
pub record IsLayout (l : Layout) : Type 0 where
  pub some_dims : 1 ≤ length l.dims
  pub few_dims : length l.dims ≤ max_dims l.version
  pub few_measures : length l.measures ≤ max_measures l.version
  pub scales : AllByRecursion (λ m. m.scale ≤ MAX_SCALE) l.measures
  pub names : list_all is_name (names_of l) ≡ true
  pub different_names : all_different bytes_eq (names_of l) ≡ true
  pub indexes : AllByRecursion (IsThere (length l.measures)) l.indexes
  pub different_indexes : all_different same_kind l.indexes ≡ true
  pub limits : AreLimits l.nodes l.rows l.values
