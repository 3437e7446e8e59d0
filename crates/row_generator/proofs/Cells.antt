-- Few different cells cover drawn rows, however many rows there are.
use Rattle.std.proofs.Common.{◌≡◌, ◌∙◌, ℕ, zero, suc, ◌+◌, ◌*◌, ◌<◌, ◌≤◌, List, [], ◌∷◌, ◌++◌, length, map, refl}
use Rattle.std.proofs.Common.{sym, ap, ap₂, subst, arith, Option, Some, None, inl, inr, flat_map, decimal, ⊎_elim}
use Rattle.std.specs.Cmp.{IsTotalOrder}
use Rattle.std.specs.Cmp.Lexicographic.{lists_total}
use Rattle.std.specs.FinMap.{IsAntisymmetric, slice_cmp-IsAntisymmetric}
use Rattle.std.specs.List.Sorted.{IsStrictlySortedBy}
use Rattle.std.specs.Ordering.{eq_by_cmp}
use Rattle.std.specs.declared.cmp.Ordering.{Ordering}
use Rattle.std.specs.declared.cmp.Ordering.TheVariants.{Less}
use Rattle.std.proofs.lemmas.Bool.{cases_lt}
use Rattle.std.proofs.lemmas.List.{length-append, length-map}
use Rattle.cube_defs.specs.Cell.{Cell}
use Rattle.cube_defs.specs.Rows.{Row, is_node}
use Rattle.cube_defs.specs.Text.{Text, text_cmp}
use Rattle.cube_defs.specs.Tree.{covered, generalizations, nodes}
use Rattle.cube_laws.specs.Lists.{Among}
use Rattle.cube_laws.proofs.CallerLemmas.{all_at, among_append, among_distinct, among_flat_map, among_insert, among_map, cell_anti}
use Rattle.cube_laws.proofs.CallerLemmas.{cell_total, covered_rises, filter-le, map_among, nat_anti, nat_total, self_less}
use Rattle.row_generator.specs.Drawn.{drawn_row, drawn_rows, drawn_tuple}
use Rattle.row_generator.specs.Generator.{after_draw, after_draws, drawn_value, number_drawn}

-- ---- lists without repetitions

split : {X : Type 0} (x : X) (ys : List X) → Among x ys → (front : List X) × (back : List X) × (ys ≡ front ++ x ∷ back)
split x [] m = absurd m
split {X = X} x (y ∷ ys) m = elim m [
  | inl e ↦ ([], ys, ap (λ (z : X). z ∷ ys) (sym e))
  | inr k ↦ let s = split x ys k in (y ∷ s.0, s.1, ap (λ (zs : List X). y ∷ zs) s.2)
]

module _ {X : Type 0} {cmp : X → X → Ordering} (total : IsTotalOrder cmp) (anti : IsAntisymmetric cmp) where
  -- a list that rises is no longer than one that has all its items
  fewer : (xs ys : List X) → IsStrictlySortedBy cmp xs → ((z : X) → Among z xs → Among z ys) → length xs ≤ length ys
  unfolding IsStrictlySortedBy
  fewer [] ys h f = omega arith
  fewer (x ∷ xs) ys h f =
      let s = split x ys (f x (inl refl)) in
      let others : (z : X) → Among z xs → Among z (s.0 ++ s.1) = λ z m.
      elim ((among_insert z s.0 x s.1).0 (subst (Among z) s.2 (f z (inr m)))) [
        | inl e ↦ absurd (self_less total anti x
            (subst (λ (y : X). cmp x y ≡ Less) e (all_at (λ (y : X). cmp x y ≡ Less) z xs h.0 m)))
        | inr k ↦ k
      ] in
      omega (
        arith,
        fewer xs (s.0 ++ s.1) h.1 others,
        ap length s.2,
        length-append s.0 (x ∷ s.1),
        length-append s.0 s.1,
      )

-- ---- cells over some values

with_entries : List (Option Text) → List (Cell Text) → List (Cell Text)
with_entries [] cells = []
with_entries (e ∷ entries) cells = map (λ c. e ∷ c) cells ++ with_entries entries cells

-- all cells with one of these values or Any in each dimension
cells_over : List (List Text) → List (Cell Text)
cells_over [] = [] ∷ []
cells_over (values ∷ more) = with_entries (None ∷ map (λ v. Some v) values) (cells_over more)

-- how many these are, by the numbers of values
abbrev count_over : List ℕ → ℕ
count_over [] = 1
count_over (n ∷ more) = suc n * count_over more

length-with_entries : (entries : List (Option Text)) (cells : List (Cell Text))
    → length (with_entries entries cells) ≡ length entries * length cells
unfolding with_entries
length-with_entries [] cells = omega arith
length-with_entries (e ∷ entries) cells = omega (
  arith,
  length-append (map (λ (c : Cell Text). e ∷ c) cells) (with_entries entries cells),
  length-map cells (λ (c : Cell Text). e ∷ c),
  length-with_entries entries cells,
)

length-cells_over : (lists : List (List Text)) → length (cells_over lists) ≡ count_over (map length lists)
unfolding cells_over
length-cells_over [] = refl
length-cells_over (values ∷ more) =
    length-with_entries (None ∷ map (λ (v : Text). Some v) values) (cells_over more)
    ∙ ap₂ (λ (m n : ℕ). suc m * n) (length-map values (λ (v : Text). Some v)) (length-cells_over more)

among-with_entries : (e : Option Text) (c : Cell Text) (entries : List (Option Text)) (cells : List (Cell Text))
    → Among e entries → Among c cells → Among (e ∷ c) (with_entries entries cells)
unfolding with_entries
among-with_entries e c [] cells m k = absurd m
among-with_entries e c (f ∷ entries) cells m k =
    (among_append (e ∷ c) (map (λ (c : Cell Text). f ∷ c) cells) (with_entries entries cells)).1
    (elim m [
      | inl is ↦ inl (subst (λ (g : Option Text). Among (e ∷ c) (map (λ (c : Cell Text). g ∷ c) cells)) is
          (map_among (λ (c : Cell Text). e ∷ c) c cells k))
      | inr n ↦ inr (among-with_entries e c entries cells n k)
    ])

-- a value in each dimension is one of the dimension's
AreAmong : List Text → List (List Text) → Type 0
AreAmong [] [] = Unit {0}
AreAmong [] (values ∷ more) = ⊥
AreAmong (v ∷ tuple) [] = ⊥
AreAmong (v ∷ tuple) (values ∷ more) = Among v values × AreAmong tuple more

among-cells_over : (tuple : List Text) (lists : List (List Text)) (c : Cell Text) → AreAmong tuple lists
    → Among c (generalizations tuple) → Among c (cells_over lists)
unfolding cells_over AreAmong
among-cells_over [] [] c are m = m
among-cells_over [] (values ∷ more) c are m = absurd are
among-cells_over (v ∷ tuple) [] c are m = absurd are
among-cells_over (v ∷ tuple) (values ∷ more) c are m =
    let entries : List (Option Text) = None ∷ map (λ v. Some v) values in
    let put : (e : Option Text) → Among e entries → (d : Cell Text) × Among d (generalizations tuple) × (c ≡ e ∷ d)
    → Among c (with_entries entries (cells_over more))
    = λ e among r. subst (λ (x : Cell Text). Among x (with_entries entries (cells_over more))) (sym r.2)
    (among-with_entries e r.0 entries (cells_over more) among (among-cells_over tuple more r.0 are.1 r.1)) in
    elim ((among_append c (map (λ (d : Cell Text). None ∷ d) (generalizations tuple))
    (map (λ (d : Cell Text). Some v ∷ d) (generalizations tuple))).0 m) [
      | inl a ↦ put None (inl refl) (among_map (λ (d : Cell Text). None ∷ d) c (generalizations tuple) a)
      | inr b ↦ put (Some v) (inr (map_among (λ (v : Text). Some v) v values are.0))
          (among_map (λ (d : Cell Text). Some v ∷ d) c (generalizations tuple) b)
    ]

-- ---- drawn values

-- the name with each of the first so many numbers
numbered : ℕ → ℕ → List Text
numbered name zero = []
numbered name (suc k) = (name ∷ decimal k) ∷ numbered name k

length-numbered : (name k : ℕ) → length (numbered name k) ≡ k
unfolding numbered
length-numbered name zero = refl
length-numbered name (suc k) = ap suc (length-numbered name k)

among-numbered : (name k n : ℕ) → n < k → Among (name ∷ decimal n) (numbered name k)
unfolding numbered
among-numbered name zero n h = absurd (omega (arith, h))
among-numbered name (suc k) n h = ⊎_elim
    (λ lt. inr (among-numbered name k n lt))
    (λ le. inl (ap (λ (m : ℕ). name ∷ decimal m) (omega (arith, h, le)))) (cases_lt n k)

drawn-among : (name most s : ℕ) → 0 < most → Among (drawn_value name most s) (numbered name most)
unfolding number_drawn
drawn-among name most s some = among-numbered name most (number_drawn most (after_draw s)) (omega arith)

drawn_lists : List (List Text)
drawn_lists = numbered 97 40 ∷ numbered 98 20 ∷ numbered 99 10 ∷ numbered 100 5 ∷ numbered 101 4 ∷ []

tuple-among : (s : ℕ) → AreAmong (drawn_tuple s) drawn_lists
unfolding AreAmong drawn_lists
tuple-among s = (
  drawn-among 97 40 s (omega arith),
  (
    drawn-among 98 20 (after_draws 1 s) (omega arith),
    (
      drawn-among 99 10 (after_draws 2 s) (omega arith),
      (
        drawn-among 100 5 (after_draws 3 s) (omega arith),
        (drawn-among 101 4 (after_draws 4 s) (omega arith), tt),
      ),
    ),
  ),
)

rows-among : (n id s : ℕ) (row : Row Text) → Among row (drawn_rows n id s) → AreAmong row.tuple drawn_lists
unfolding drawn_row
rows-among zero id s row m = absurd m
rows-among (suc n) id s row m = elim m [
  | inl e ↦ subst (λ (r : Row Text). AreAmong r.tuple drawn_lists) (sym e) (tuple-among s)
  | inr k ↦ rows-among n (id + 1) (after_draws 5 s) row k
]

length-drawn_lists : length (cells_over drawn_lists) ≡ 284130
unfolding drawn_lists
length-drawn_lists = length-cells_over drawn_lists
    ∙ rw (
      length-numbered 97 40,
      length-numbered 98 20,
      length-numbered 99 10,
      length-numbered 100 5,
      length-numbered 101 4,
    ) refl

text_total : IsTotalOrder text_cmp
text_total = lists_total nat_total

text_anti : IsAntisymmetric text_cmp
text_anti = slice_cmp-IsAntisymmetric nat_anti

pub few-nodes : (n id s : ℕ) → length (nodes text_cmp (drawn_rows n id s)) ≤ 284130
few-nodes n id s =
    let rows = drawn_rows n id s in
    let total = cell_total text_total text_anti in
    let anti = cell_anti text_total text_anti in
    let within : (c : Cell Text) → Among c (covered text_cmp rows) → Among c (cells_over drawn_lists) = λ c m.
    let r = (among_flat_map (λ (row : Row Text). generalizations row.tuple) c rows).0
    ((among_distinct total anti c (flat_map (λ (row : Row Text). generalizations row.tuple) rows)).0 m) in
    among-cells_over r.0.tuple drawn_lists c (rows-among n id s r.0 r.1) r.2 in
    omega (
      arith,
      filter-le (is_node (eq_by_cmp text_cmp) rows) (covered text_cmp rows),
      fewer total anti (covered text_cmp rows) (cells_over drawn_lists) (covered_rises text_total text_anti rows) within,
      length-drawn_lists,
    )
