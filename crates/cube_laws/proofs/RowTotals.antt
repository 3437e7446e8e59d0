-- The closure and the aggregate are totals over the covered rows.
use Rattle.std.proofs.Common.{◌<◌, ◌≡◌, ℕ, Bool, Option, Some, None, List, [], ◌∷◌, map, refl, sym, ap, ap₂, ◌∙◌, arith, ℤ, pos, ◌+ℤ◌}
use Rattle.std.proofs.Common.{slice_index_or}
use Rattle.std.proofs.lemmas.Int.{ints}
use Rattle.std.proofs.Math.IntN.{+ℤ_assoc, +ℤ_comm}
use Rattle.std.proofs.Math.Nat.{add_assoc, add_comm}
use Rattle.std.specs.Int.{int_min, int_max}
use Rattle.std.specs.List.{fold, range_with_len}
use Rattle.cube_defs.specs.Cell.{Cell, cell_of}
use Rattle.std.proofs.lemmas.List.FromFn.{get_or-map-range_with_len}
use Rattle.cube_defs.specs.Answers.{part}
use Rattle.cube_defs.specs.Rows.{Row, Part, Agg, part_of, amounts_of, agg_of, meet_after, meet_all, closure, covers, cov, agg}
use Rattle.cube_laws.specs.Tuples.{cells_of}
use Rattle.cube_laws.specs.Total.{total, agg_at, combine_part, combine_parts, combine, join_aggs, join_cells, agg_some}
use Rattle.cube_laws.proofs.Cells.{IsEquality, meet_assoc, meet_comm}
use Rattle.cube_laws.specs.Lists.{Reordered}
use Rattle.cube_laws.proofs.Totals.{IsAddition, total-reordered}
use Rattle.cube_laws.proofs.Lists.{map_same, filter-reordered}

pub min_comm : (x y : ℤ) → int_min x y ≡ int_min y x
min_comm x y = grind (arith, ints)

pub min_assoc : (x y z : ℤ) → int_min (int_min x y) z ≡ int_min x (int_min y z)
min_assoc x y z = grind (arith, ints)

pub max_comm : (x y : ℤ) → int_max x y ≡ int_max y x
max_comm x y = grind (arith, ints)

pub max_assoc : (x y z : ℤ) → int_max (int_max x y) z ≡ int_max x (int_max y z)
max_assoc x y z = grind (arith, ints)

part_same : (p q : Part) → p.sum ≡ q.sum → p.least ≡ q.least → p.greatest ≡ q.greatest → p ≡ q
part_same p q e f g =
    ap (λ (s : ℤ). let x : Part = record { sum = s; least = p.least; greatest = p.greatest } in x) e
    ∙ ap₂ (λ (l h : ℤ). let x : Part = record { sum = q.sum; least = l; greatest = h } in x) f g

combine_part-assoc : (p q r : Part) → combine_part (combine_part p q) r ≡ combine_part p (combine_part q r)
combine_part-assoc p q r
    = part_same _ _ (+ℤ_assoc p.sum q.sum r.sum) (min_assoc p.least q.least r.least)
    (max_assoc p.greatest q.greatest r.greatest)

combine_part-comm : (p q : Part) → combine_part p q ≡ combine_part q p
combine_part-comm p q = part_same _ _ (+ℤ_comm p.sum q.sum) (min_comm p.least q.least) (max_comm p.greatest q.greatest)

combine_parts-assoc : (ps qs rs : List Part)
    → combine_parts (combine_parts ps qs) rs ≡ combine_parts ps (combine_parts qs rs)
combine_parts-assoc [] qs rs = refl
combine_parts-assoc (p ∷ ps) [] rs = refl
combine_parts-assoc (p ∷ ps) (q ∷ qs) [] = refl
combine_parts-assoc (p ∷ ps) (q ∷ qs) (r ∷ rs)
    = ap₂ (λ x xs. x ∷ xs) (combine_part-assoc p q r) (combine_parts-assoc ps qs rs)

combine_parts-comm : (ps qs : List Part) → combine_parts ps qs ≡ combine_parts qs ps
combine_parts-comm [] [] = refl
combine_parts-comm [] (q ∷ qs) = refl
combine_parts-comm (p ∷ ps) [] = refl
combine_parts-comm (p ∷ ps) (q ∷ qs) = ap₂ (λ x xs. x ∷ xs) (combine_part-comm p q) (combine_parts-comm ps qs)

combine-assoc : (a b c : Agg) → combine (combine a b) c ≡ combine a (combine b c)
combine-assoc a b c = ap₂ (λ (n : ℕ) (ps : List Part). let x : Agg = record { count = n; parts = ps } in
    x) (add_assoc a.count b.count c.count) (combine_parts-assoc a.parts b.parts c.parts)

combine-comm : (a b : Agg) → combine a b ≡ combine b a
combine-comm a b = ap₂ (λ (n : ℕ) (ps : List Part). let x : Agg = record { count = n; parts = ps } in
    x) (add_comm a.count b.count) (combine_parts-comm a.parts b.parts)

pub aggs_add : IsAddition join_aggs None
aggs_add = record { assoc = assoc; comm = comm; unit = λ x. refl }
  where
    assoc : (x y z : Option Agg) → join_aggs (join_aggs x y) z ≡ join_aggs x (join_aggs y z)
    assoc None y z = refl
    assoc (Some a) None z = refl
    assoc (Some a) (Some b) None = refl
    assoc (Some a) (Some b) (Some c) = ap (λ x. Some x) (combine-assoc a b c)

    comm : (x y : Option Agg) → join_aggs x y ≡ join_aggs y x
    comm None None = refl
    comm None (Some b) = refl
    comm (Some a) None = refl
    comm (Some a) (Some b) = ap (λ x. Some x) (combine-comm a b)

module _ {A : Type 0} {eq : A → A → Bool} (law : IsEquality eq) where
  pub cells_add : IsAddition (join_cells eq) None
  cells_add = record { assoc = assoc; comm = comm; unit = λ x. refl }
    where
      assoc : (x y z : Option (Cell A)) → join_cells eq (join_cells eq x y) z ≡ join_cells eq x (join_cells eq y z)
      assoc None y z = refl
      assoc (Some a) None z = refl
      assoc (Some a) (Some b) None = refl
      assoc (Some a) (Some b) (Some c) = ap (λ x. Some x) (meet_assoc law a b c)

      comm : (x y : Option (Cell A)) → join_cells eq x y ≡ join_cells eq y x
      comm None None = refl
      comm None (Some b) = refl
      comm (Some a) None = refl
      comm (Some a) (Some b) = ap (λ x. Some x) (meet_comm law a b)

-- each row adds its tuple
abbrev pub row_cell : {A : Type 0} → Row A → Option (Cell A)
row_cell r = Some (cell_of r.tuple)

-- and its amounts
abbrev pub row_agg : {A : Type 0} → ℕ → Row A → Option Agg
row_agg measures r = Some (agg_of measures (r ∷ []))

pub meet_total : {A : Type 0} (eq : A → A → Bool) (rows : List (Row A))
    → meet_all eq (map (λ row. cell_of row.tuple) rows) ≡ total (join_cells eq) None row_cell rows
meet_total eq [] = refl
meet_total eq (r ∷ rows) = ap (λ o. Some (meet_after eq (cell_of r.tuple) o)) (meet_total eq rows)

pub closure_total : {A : Type 0} (eq : A → A → Bool) (rows : List (Row A)) (c : Cell A)
    → closure eq rows c ≡ total (join_cells eq) None row_cell (cov eq rows c)
closure_total eq rows c = meet_total eq (cov eq rows c)

pub fold_first : (f : ℤ → ℤ → ℤ) → ((x y z : ℤ) → f (f x y) z ≡ f x (f y z)) → (a b : ℤ) (xs : List ℤ)
    → fold f (f a b) xs ≡ f a (fold f b xs)
fold_first f law a b [] = refl
fold_first f law a b (x ∷ xs) = ap (λ y. fold f y xs) (law a b x) ∙ fold_first f law a (f b x) xs

part_more : (a b : ℤ) (xs : List ℤ) → part_of (a ∷ b ∷ xs) ≡ combine_part (part_of (a ∷ [])) (part_of (b ∷ xs))
part_more a b xs = part_same _ _ (fold_first (λ x y. x +ℤ y) +ℤ_assoc a b xs) (fold_first int_min min_assoc a b xs)
    (fold_first int_max max_assoc a b xs)

parts_more : (f g : ℕ → Part) (is : List ℕ)
    → map (λ m. combine_part (f m) (g m)) is ≡ combine_parts (map f is) (map g is)
parts_more f g [] = refl
parts_more f g (i ∷ is) = ap (λ ps. combine_part (f i) (g i) ∷ ps) (parts_more f g is)

agg_more : {A : Type 0} (measures : ℕ) (r s : Row A) (rows : List (Row A))
    → agg_of measures (r ∷ s ∷ rows) ≡ combine (agg_of measures (r ∷ [])) (agg_of measures (s ∷ rows))
agg_more measures r s rows =
    ap₂ (λ (n : ℕ) (ps : List Part). let x : Agg = record { count = n; parts = ps } in x)
    (omega arith)
    (map_same _ _ (range_with_len 0 measures)
    (λ m. part_more (slice_index_or r.amounts m (pos 0)) (slice_index_or s.amounts m (pos 0)) (amounts_of m rows))
    ∙ parts_more (λ m. part_of (amounts_of m (r ∷ []))) (λ m. part_of (amounts_of m (s ∷ rows)))
    (range_with_len 0 measures))

pub agg_total : {A : Type 0} (measures : ℕ) (rows : List (Row A))
    → agg_some measures rows ≡ total join_aggs None (row_agg measures) rows
agg_total measures [] = refl
agg_total measures (r ∷ []) = refl
agg_total measures (r ∷ s ∷ rows) = ap (λ x. Some x) (agg_more measures r s rows)
    ∙ ap (join_aggs (row_agg measures r)) (agg_total measures (s ∷ rows))

module _ {A : Type 0} (eq : A → A → Bool) where
  pub agg_where : (measures : ℕ) (rows : List (Row A)) (c w : Cell A) → closure eq rows c ≡ Some w
      → agg_at eq measures rows c ≡ Some (agg eq measures rows c)
  agg_where measures rows c w e = go (cov eq rows c) e
    where
      go : (l : List (Row A)) → meet_all eq (cells_of l) ≡ Some w → agg_some measures l ≡ Some (agg_of measures l)
      go [] k = cc
      go (x ∷ l) k = refl

  pub agg_none : (measures : ℕ) (rows : List (Row A)) (c : Cell A) → closure eq rows c ≡ None
      → agg_at eq measures rows c ≡ None
  agg_none measures rows c e = go (cov eq rows c) e
    where
      go : (l : List (Row A)) → meet_all eq (cells_of l) ≡ None → agg_some measures l ≡ None
      go [] k = refl
      go (x ∷ l) k = cc

module _ {A : Type 0} (eq : A → A → Bool) where
  -- in whichever order the rows stand
  pub agg_at-reordered : (measures : ℕ) (rows more : List (Row A)) (c : Cell A) → Reordered rows more
      → agg_at eq measures more c ≡ agg_at eq measures rows c
  agg_at-reordered measures rows more c h =
      agg_total measures (cov eq more c)
      ∙ total-reordered join_aggs None aggs_add (row_agg measures) (cov eq rows c) (cov eq more c)
      (filter-reordered (covers eq c) rows more h)
      ∙ sym (agg_total measures (cov eq rows c))

  pub agg-reordered : (measures : ℕ) (rows more : List (Row A)) (c : Cell A) → Reordered rows more
      → agg eq measures more c ≡ agg eq measures rows c
  agg-reordered measures rows more c h
      = by_total (cov eq rows c) (cov eq more c) (agg_at-reordered measures rows more c h)
    where
      by_total : (xs ys : List (Row A)) → agg_some measures ys ≡ agg_some measures xs
          → agg_of measures ys ≡ agg_of measures xs
      by_total [] [] e = refl
      by_total [] (y ∷ ys) e = cc
      by_total (x ∷ xs) [] e = cc
      by_total (x ∷ xs) (y ∷ ys) e = cc

module _ {A : Type 0} where
  -- the part of a measure
  pub part-agg_of : (measures m : ℕ) (rows : List (Row A)) → m < measures
      → part (agg_of measures rows) m ≡ part_of (amounts_of m rows)
  part-agg_of measures m rows h
      = get_or-map-range_with_len (λ k. part_of (amounts_of k rows)) 0 measures m m (part_of []) h (omega arith)

  pub part-combine : (measures m : ℕ) (rows more : List (Row A)) → m < measures
      → part (combine (agg_of measures rows) (agg_of measures more)) m ≡ combine_part (part_of (amounts_of m rows))
      (part_of (amounts_of m more))
  part-combine measures m rows more h =
      ap (λ (ps : List Part). slice_index_or ps m (part_of []))
      (sym (parts_more (λ k. part_of (amounts_of k rows)) (λ k. part_of (amounts_of k more))
      (range_with_len 0 measures)))
      ∙ get_or-map-range_with_len (λ k. combine_part (part_of (amounts_of k rows)) (part_of (amounts_of k more))) 0
      measures m m (part_of []) h (omega arith)
