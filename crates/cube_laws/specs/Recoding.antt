-- Other values for the values of each dimension, as codes for texts.
use Rattle.std.specs.Prelude.{◌≡◌, ◌↔◌, ℕ, suc, Bool, true, Some, None, List, [], ◌∷◌, map, filter}
use Rattle.std.specs.Bool.{⊤}
use Rattle.std.specs.List.{AllByRecursion}
use Rattle.std.specs.Option.{option_map}
use Rattle.cube_defs.specs.Cell.{Cell, cell_of}
use Rattle.cube_defs.specs.Rows.{Row}
use Rattle.cube_laws.specs.Lists.{Among}
use Rattle.cube_defs.specs.Answers.{Box, Hit, ClassHit}

-- codes i v: the code of the value v in dimension i
module _ {A B : Type 0} (codes : ℕ → A → B) where
  -- a cell's entries, the first of which stands in dimension k
  abbrev pub coded_cell : ℕ → Cell A → Cell B
  coded_cell k [] = []
  coded_cell k (e ∷ c) = option_map (codes k) e ∷ coded_cell (suc k) c

  abbrev pub coded_tuple : ℕ → List A → List B
  coded_tuple k [] = []
  coded_tuple k (v ∷ t) = codes k v ∷ coded_tuple (suc k) t

  abbrev pub coded_row : Row A → Row B
  coded_row r = record { id = r.id; tuple = coded_tuple 0 r.tuple; amounts = r.amounts }

module _ {A B : Type 0} (codes : ℕ → A → B) where
  -- a box, the first of whose choices stands for dimension k
  abbrev pub coded_box : ℕ → Box A → Box B
  coded_box k [] = []
  coded_box k (choice ∷ box) = option_map (map (codes k)) choice ∷ coded_box (suc k) box

  abbrev pub coded_hit : Hit A → Hit B
  coded_hit hit = record { cell = coded_cell codes 0 hit.cell; agg = hit.agg }

-- no two known values of a dimension have one code
pub record TellsApart {A B : Type 0} (known : ℕ → A → Bool) (codes : ℕ → A → B) : Type 0 where
  pub apart : (i : ℕ) (v w : A) → known i v ≡ true → known i w ≡ true → codes i v ≡ codes i w → v ≡ w

module _ {A : Type 0} (known : ℕ → A → Bool) where
  -- the values of a cell are known, the first of its entries standing in dimension k
  abbrev pub AreKnown : ℕ → Cell A → Type 0
  AreKnown k [] = ⊤
  AreKnown k (None ∷ c) = AreKnown (suc k) c
  AreKnown k (Some v ∷ c) = (known k v ≡ true) × AreKnown (suc k) c

  -- those of each row
  abbrev pub RowsAreKnown : List (Row A) → Type 0
  RowsAreKnown rows = AllByRecursion (λ row. AreKnown 0 (cell_of row.tuple)) rows

  -- those of a box
  abbrev pub BoxIsKnown : ℕ → Box A → Type 0
  BoxIsKnown k [] = ⊤
  BoxIsKnown k (None ∷ box) = BoxIsKnown (suc k) box
  BoxIsKnown k (Some vs ∷ box) = AllByRecursion (λ v. known k v ≡ true) vs × BoxIsKnown (suc k) box

-- a box without the values that are not known, the first of its choices standing for dimension k
abbrev pub known_box : {A : Type 0} → (ℕ → A → Bool) → ℕ → Box A → Box A
known_box known k [] = []
known_box known k (choice ∷ box) = option_map (filter (known k)) choice ∷ known_box known (suc k) box

-- a class of an answer, and the same class under its code; its lower bounds may stand in another order
pub record IsCodedClass {A B : Type 0} (codes : ℕ → A → B) (found : ClassHit A) (hit : ClassHit B) : Type 0 where
  pub upper : hit.upper ≡ coded_cell codes 0 found.upper
  pub agg : hit.agg ≡ found.agg
  pub lowers : (d : Cell B) → Among d hit.lowers ↔ ((c : Cell A) × Among c found.lowers × (d ≡ coded_cell codes 0 c))
