-- Which numbers are touched as rows go and come.
use Rattle.std.proofs.Common.{◌≡◌, ◌∙◌, ◌≤◌, ◌<◌, ◌+◌, ℕ, ℤ, List, [], ◌∷◌, ◌++◌, Bool, Option, Some, None, true, false, ap, subst, sym}
use Rattle.std.proofs.Common.{is_some, length, refl, true≢false}
use Rattle.std.specs.Prelude.{nat_eq, if◌then◌else◌}
use Rattle.std.specs.FinMap as finmap
use Rattle.std.specs.FinSet as set
use Rattle.std.specs.List.{All}
use Rattle.std.specs.Ordering.{nat_cmp}
use Rattle.std.proofs.lemmas.List.Elements.{All-cons, All-head, All-nil}
use Rattle.base_table.specs.Places.{Places, row_with_id, rows_in}
use Rattle.cube_defs.specs.Cell.{Cell, cell_of, leq}
use Rattle.cube_defs.specs.Rows.{Row}
use Rattle.cube_defs.specs.Tree.{Tree, cell_at}
use Rattle.qc_arena.specs.Map.{Arena, ImageMap, is_touched, was_at}
use Rattle.warehouse.specs.Batch.{is_among}
use Rattle.warehouse.specs.InPlace.{KeepsNumbers, TouchesNoOthers, TouchesOnly, gone, has_image, kept}
use Rattle.warehouse.specs.Steps.{rows_at, rows_between}
use Rattle.warehouse.proofs.Deletions.{all-gone, here-gone, kept-row}
use Rattle.warehouse.proofs.TreeInsertions.{IsRowAt, all-left, all-right, between-more}

-- a cell doesn't generalize a row's tuple
abbrev pub Apart : Cell ℕ → Row ℕ → Type 0
Apart c row = leq nat_eq c (cell_of row.tuple) ≡ false

-- only nodes that generalize the row's tuple are touched
pub touched-row : (row : Row ℕ) (u : Cell ℕ) (tree : Tree ℕ) (a b : Arena) → u ≡ cell_of row.tuple
    → ((k : ℕ) → is_touched b k ≡ true → is_touched a k ≡ false → (c : Cell ℕ) × (cell_at tree k ≡ Some c)
    × (leq nat_eq c u ≡ true))
    → TouchesOnly (row ∷ []) tree a b
touched-row row u tree a b same each k apart was = go (is_touched b k) (each k)
  where
    go : (s : Bool) → (s ≡ true → is_touched a k ≡ false → (c : Cell ℕ) × (cell_at tree k ≡ Some c)
        × (leq nat_eq c u ≡ true)) → s ≡ false
    go false found = refl
    go true found =
        let node = found refl was in
        absurd (true≢false (sym node.2 ∙ ap (λ (v : Cell ℕ). leq nat_eq node.0 v) same
        ∙ All-head (Apart node.0) row [] (apart node.0 node.1)))

-- a row more goes
pub touched-gone : (ids : List ℕ) (id : ℕ) (rows : List (Row ℕ)) (r : Row ℕ) (b d e : Arena) → is_among id ids ≡ false
    → row_with_id (kept ids rows) id ≡ Some r → KeepsNumbers d.now b.now
    → TouchesOnly (gone ids rows) b.now b d → TouchesOnly (r ∷ []) d.now d e
    → TouchesOnly (gone (ids ++ id ∷ []) rows) b.now b e
touched-gone ids id rows r b d e new found back one two k apart was =
    two k (λ c at. All-cons (Apart c) r [] (here-gone (Apart c) ids id rows r (sym (kept-row ids id rows new) ∙ found)
    (apart c (back k c at))) (All-nil (Apart c)))
    (one k (λ c at. all-gone (Apart c) ids id rows (apart c at)) was)

-- the row at a place comes
pub touched-place : (t : Places) (k : ℕ) (u : Cell ℕ) (amounts : List ℤ) → IsRowAt t k u amounts → (a b : Arena)
    → ((q : ℕ) → is_touched b q ≡ true → is_touched a q ≡ false → (c : Cell ℕ) × (cell_at b.now q ≡ Some c)
    × (leq nat_eq c u ≡ true))
    → TouchesOnly (rows_at t k) b.now a b
touched-place t k u amounts r a b each =
    subst (λ (o : Option (Row ℕ)). TouchesOnly (rows_in (o ∷ [])) b.now a b) (sym r.place)
    (touched-row r.row u b.now a b (sym r.tuple) each)

-- a row more comes
pub touched-more : (t : Places) (first k : ℕ) (b d e : Arena) → first ≤ k → k < length t.places
    → KeepsNumbers d.now e.now → TouchesOnly (rows_between t first k) d.now b d → TouchesOnly (rows_at t k) e.now d e
    → TouchesOnly (rows_between t first (k + 1)) e.now b e
touched-more t first k b d e le lt keeps one two q apart was =
    let both : (c : Cell ℕ) → cell_at e.now q ≡ Some c → All (Apart c) (rows_between t first k ++ rows_at t k) =
    λ c at. subst (λ (rs : List (Row ℕ)). All (Apart c) rs) (between-more t first k le lt) (apart c at) in
    two q (λ c at. all-right (Apart c) (rows_between t first k) (rows_at t k) (both c at))
    (one q (λ c at. all-left (Apart c) (rows_between t first k) (rows_at t k) (both c (keeps q c at))) was)

-- rows that go from an arena of which nothing was touched, and then rows that come
pub touched-both : (goes comes rows : List (Row ℕ)) (b d e : Arena) → rows ≡ goes ++ comes → b.touched ≡ set.empty
    → TouchesOnly goes b.now b d → TouchesOnly comes e.now d e → TouchesNoOthers rows b.now e.now (is_touched e)
touched-both goes comes rows b d e all none one two k before now =
    let both : (c : Cell ℕ) → All (Apart c) rows → All (Apart c) (goes ++ comes) =
    λ c. subst (λ (rs : List (Row ℕ)). All (Apart c) rs) all in
    two k (λ c at. all-right (Apart c) goes comes (both c (now c at)))
    (one k (λ c at. all-left (Apart c) goes comes (both c (before c at)))
    (ap (λ (s : set.FinSet nat_cmp). set.contains s k) none ∙ set.contains-empty nat_cmp k))

-- the images of a batch that was kept are those of the touched numbers
pub images-touched : (changed : Arena) (images : ImageMap)
    → ((q : ℕ) → finmap.get images q ≡ (if is_touched changed q then Some (was_at changed q) else None))
    → (q : ℕ) → is_touched changed q ≡ false → has_image images q ≡ false
images-touched changed images last q untouched =
    ap is_some (last q ∙ ap (λ (s : Bool). if s then Some (was_at changed q) else None) untouched)
