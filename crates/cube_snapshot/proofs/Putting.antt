-- Values put one after another, as a loop does.
use Rattle.std.proofs.Common.{◌≡◌, ℕ, suc, ◌+◌, ◌*◌, ◌<◌, ◌≤◌, List, [], ◌∷◌, ◌++◌, Option, None, Some, length, take, get_or, refl, sym, ap}
use Rattle.std.proofs.Common.{ap₂, ◌∙◌, arith, append_assoc, length-append, subst}
use Rattle.std.specs.Prelude.{IfSome, ℤ}
use Rattle.std.specs.Int.{w32}
use Rattle.std.specs.List.{AllByRecursion, flat_map}
use Rattle.std.proofs.lemmas.List.{append-nil, flat_map_more, take_all, take_more}
use Rattle.std.proofs.lemmas.List.Concat.{flat_map-append}
use Rattle.base_table.specs.Places.{IsTable, Places, rows_in, rows_of}
use Rattle.base_table.specs.Places as places
use Rattle.cube_defs.specs.Rows.{Row}
use Rattle.cell_closure.proofs.CallerLemmas.{all_recursion}
use Rattle.cube_laws.proofs.CallerLemmas.{all_map}
use Rattle.cube_snapshot.specs.Format.{number}
use Rattle.cube_snapshot.specs.Parts.{amount, row, rows, text, texts}
use Rattle.cube_snapshot.specs.Snapshot.{parts_format, mark_text}
use Rattle.cube_defs.specs.Text.{Text}

module _ {X A : Type 0} (f : X → List A) where
  -- one value more
  pub put_next : (out new front : List A) (xs : List X) (i : ℕ) (d : X) → i < length xs
      → out ≡ front ++ flat_map f (take i xs) → new ≡ out ++ f (get_or xs i d)
      → new ≡ front ++ flat_map f (take (i + 1) xs)
  put_next out new front xs i d lt so_far next =
      next ∙ ap (λ l. l ++ f (get_or xs i d)) so_far ∙ flat_map_more f front (take i xs) (get_or xs i d)
      ∙ ap (λ l. front ++ flat_map f l) (sym (take_more xs i d lt))

  -- all of them
  pub put_all : (out front : List A) (xs : List X) (i : ℕ) → length xs ≤ i → out ≡ front ++ flat_map f (take i xs)
      → out ≡ front ++ flat_map f xs
  put_all out front xs i le so_far = so_far ∙ ap (λ l. front ++ flat_map f l) (take_all i xs le)

  -- the same of the lengths
  pub len_next : (len new step : ℕ) (xs : List X) (i : ℕ) (d : X) → i < length xs
      → len ≡ length (flat_map f (take i xs)) → step ≡ length (f (get_or xs i d)) → new ≡ len + step
      → new ≡ length (flat_map f (take (i + 1) xs))
  len_next len new step xs i d lt so_far is next =
      next ∙ ap₂ (λ m n. m + n) so_far is
      ∙ sym (ap (λ l. length (flat_map f l)) (take_more xs i d lt)
      ∙ ap length (flat_map-append f (take i xs) (get_or xs i d ∷ []))
      ∙ length-append (flat_map f (take i xs)) (f (get_or xs i d) ++ [])
      ∙ ap (λ l. length (flat_map f (take i xs)) + length l) (append-nil (f (get_or xs i d))))

  pub len_all : (len : ℕ) (xs : List X) (i : ℕ) → length xs ≤ i → len ≡ length (flat_map f (take i xs))
      → len ≡ length (flat_map f xs)
  len_all len xs i le so_far = so_far ∙ ap (λ l. length (flat_map f l)) (take_all i xs le)

  -- values of one length each
  pub len_each : (n : ℕ) (xs : List X) → AllByRecursion (λ x. length (f x) ≡ n) xs
      → length (flat_map f xs) ≡ length xs * n
  len_each n [] each = omega arith
  len_each n (x ∷ xs) each =
      let rest : length (flat_map f xs) ≡ length xs * n = len_each n xs each.1 in
      length-append (f x) (flat_map f xs) ∙ ap₂ (λ a b. a + b) each.0 rest ∙ grind arith

-- the place of a row, or an empty one
pub put_there : {A : Type 0} (f : Row ℕ → List A) (o : Option (Row ℕ)) (out new : List A) (r : Row ℕ) → o ≡ Some r
    → new ≡ out ++ f r → new ≡ out ++ flat_map f (rows_in (o ∷ []))
put_there f o out new r e put = put ∙ ap (λ l. out ++ l) (sym (append-nil (f r)))
    ∙ ap (λ (p : Option (Row ℕ)). out ++ flat_map f (rows_in (p ∷ []))) (sym e)

pub put_none : {A : Type 0} (f : Row ℕ → List A) (o : Option (Row ℕ)) (out new : List A) → o ≡ None → new ≡ out
    → new ≡ out ++ flat_map f (rows_in (o ∷ []))
put_none f o out new e put = put ∙ sym (append-nil out)
    ∙ ap (λ (p : Option (Row ℕ)). out ++ flat_map f (rows_in (p ∷ []))) (sym e)

-- the rows of a place more
rows_in-append : (a b : List (Option (Row ℕ))) → rows_in (a ++ b) ≡ rows_in a ++ rows_in b
rows_in-append [] b = refl
rows_in-append (None ∷ a) b = rows_in-append a b
rows_in-append (Some r ∷ a) b = ap (λ (l : List (Row ℕ)). r ∷ l) (rows_in-append a b)

pub put_place_next : {A : Type 0} (f : Row ℕ → List A) (out new front : List A) (xs : List (Option (Row ℕ))) (i : ℕ)
    → i < length xs → out ≡ front ++ flat_map f (rows_in (take i xs))
    → new ≡ out ++ flat_map f (rows_in (get_or xs i None ∷ [])) → new ≡ front ++ flat_map f (rows_in (take (i + 1) xs))
put_place_next f out new front xs i lt so_far next =
    next ∙ ap (λ l. l ++ flat_map f (rows_in (get_or xs i None ∷ []))) so_far
    ∙ append_assoc front (flat_map f (rows_in (take i xs))) (flat_map f (rows_in (get_or xs i None ∷ [])))
    ∙ ap (λ l. front ++ l) (sym (flat_map-append f (rows_in (take i xs)) (rows_in (get_or xs i None ∷ []))))
    ∙ ap (λ (l : List (Row ℕ)). front ++ flat_map f l) (sym (rows_in-append (take i xs) (get_or xs i None ∷ [])))
    ∙ ap (λ (l : List (Option (Row ℕ))). front ++ flat_map f (rows_in l)) (sym (take_more xs i None lt))

pub put_places : {A : Type 0} (f : Row ℕ → List A) (out front : List A) (xs : List (Option (Row ℕ))) (i : ℕ)
    → length xs ≤ i → out ≡ front ++ flat_map f (rows_in (take i xs)) → out ≡ front ++ flat_map f (rows_in xs)
put_places f out front xs i le so_far
    = so_far ∙ ap (λ (l : List (Option (Row ℕ))). front ++ flat_map f (rows_in l)) (take_all i xs le)

-- what is said of a row that is there, of the one that is
pub of_there : (P : Row ℕ → Type 0) (o : Option (Row ℕ)) (r : Row ℕ) → o ≡ Some r → IfSome o P → P r
of_there P o r e h = subst (λ (p : Option (Row ℕ)). IfSome p P) e h

four : (xs : List ℕ) → AllByRecursion (λ n. length ((number w32).put n) ≡ 4) xs
four [] = tt
four (x ∷ xs) = (refl, four xs)

eight : (xs : List ℤ) → AllByRecursion (λ z. length (amount.put z) ≡ 8) xs
eight [] = tt
eight (x ∷ xs) = (refl, eight xs)

-- a row of a table has as many bytes as each other
row-len : (dims measures : ℕ) (r : Row ℕ) → places.IsRow dims measures r
    → length ((row dims measures).put r) ≡ 8 + 4 * dims + 8 * measures
row-len dims measures r is =
    let tuple = flat_map (number w32).put r.tuple in
    let amounts = flat_map amount.put r.amounts in
    let codes : length tuple ≡ length r.tuple * 4 = len_each (number w32).put 4 r.tuple (four r.tuple) in
    let sums : length amounts ≡ length r.amounts * 8 = len_each amount.put 8 r.amounts (eight r.amounts) in
    omega (arith, length-append tuple amounts, codes, sums, is.tuple, is.amounts)

four_more : (n : ℕ) → suc (suc (suc (suc n))) ≡ 4 + n
four_more n = omega arith

pub rows-len : (t : Places) → IsTable t
    → length ((rows t.dims t.measures).put (rows_of t)) ≡ 4 + length (rows_of t) * (8 + 4 * t.dims + 8 * t.measures)
rows-len t is =
    let each = all_map (places.IsRow t.dims t.measures) (λ r. length ((row t.dims t.measures).put r) ≡ 8 + 4 * t.dims
    + 8 * t.measures) (rows_of t) (row-len t.dims t.measures)
    (all_recursion (places.IsRow t.dims t.measures) (rows_of t) is.rows.each) in
    let all : length (flat_map (row t.dims t.measures).put (rows_of t))
    ≡ length (rows_of t) * (8 + 4 * t.dims + 8 * t.measures)
    = len_each (row t.dims t.measures).put (8 + 4 * t.dims + 8 * t.measures) (rows_of t) each in
    four_more (length (flat_map (row t.dims t.measures).put (rows_of t))) ∙ ap (λ n. 4 + n) all

-- how many bytes a state has
pub laid-len : (text : List ℕ) (lists : List (List Text)) (dims measures : ℕ) (list : List (Row ℕ))
    → length (parts_format text lists dims measures list) ≡ 12 + length text + length (flat_map texts.put lists)
    + length ((rows dims measures).put list)
laid-len text lists dims measures list =
    let front = (number w32).put (length text) ++ text in
    let back = flat_map texts.put lists ++ (rows dims measures).put list in
    omega (
      arith,
      length-append mark_text (front ++ back),
      length-append front back,
      length-append ((number w32).put (length text)) text,
      length-append (flat_map texts.put lists) ((rows dims measures).put list),
    )
