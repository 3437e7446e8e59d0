-- What acts one after another may cost, and how many nodes and edges they leave.
use Rattle.std.proofs.Common.{◌≡◌, ℕ, suc, ◌+◌, ◌*◌, ◌≤◌, Bool, true, false, cond, Option, Some, None, List, [], ◌∷◌, ◌++◌}
use Rattle.std.proofs.Common.{length, map, nat_eq, append-nil, inl, inr, refl, sym, ap, subst, ◌∙◌, arith}
use Rattle.std.specs.FinMap as finmap
use Rattle.std.specs.List.{sum_by}
use Rattle.std.specs.Option.{option_map}
use Rattle.std.proofs.lemmas.Bool.{cond-true}
use Rattle.std.proofs.lemmas.List.{length-map}
use Rattle.std.proofs.lemmas.List.Sums.{sum_by-cons}
use Rattle.std.proofs.Math.Nat.{mul-add, mul-le-mul_left}
use Rattle.cube_defs.specs.Cell.{Cell, cell_eq}
use Rattle.cube_defs.specs.Rows.{Row}
use Rattle.cube_defs.specs.Tree.{cell_at, renamed_edge}
use Rattle.cube_laws.specs.Lists.{Among}
use Rattle.cube_laws.proofs.CallerLemmas.{among_left, cell_eq-same, map_among, nat_equality, shared_some}
use Rattle.tree_laws.proofs.CallerLemmas.{entry_get, get_entry, some_same, sum_alike, sum_by-map}
use Rattle.build_trace.specs.Trace.{Act, Act.{Add, Label, Mark}, Put, adds_of, labels_of, put_of, puts_of}
use Rattle.build_trace.specs.Follows.{cell_by}
use Rattle.build_trace.proofs.CallerLemmas.{act_node}
use Rattle.class_builder.specs.Building.{IsBuilding}
use Rattle.qc_arena.specs.Map.{Arena, Known, edges_in}
use Rattle.class_builder.specs.Costs.{cost_of_acts, cost_of_building, size_of_acts}

one_more_on : (xs ys : List Act) → size_of_acts (xs ++ ys) ≡ size_of_acts xs + size_of_acts ys
    → suc (size_of_acts (xs ++ ys)) ≡ suc (size_of_acts xs) + size_of_acts ys
one_more_on xs ys h = omega (arith, h)

size_append : (xs ys : List Act) → size_of_acts (xs ++ ys) ≡ size_of_acts xs + size_of_acts ys
size_append [] ys = let none : size_of_acts ys ≡ 0 + size_of_acts ys = omega arith in none
size_append (Add p ∷ xs) ys = one_more_on xs ys (size_append xs ys)
size_append (Label b f i v t ∷ xs) ys = one_more_on xs ys (size_append xs ys)
size_append (Mark w a ∷ xs) ys = size_append xs ys

pub cost_append : (dims : ℕ) (xs ys : List Act)
    → cost_of_acts dims (xs ++ ys) ≡ cost_of_acts dims xs + cost_of_acts dims ys
cost_append dims xs ys = ap (λ n. (dims + 1) * n) (size_append xs ys)
    ∙ mul-add (dims + 1) (size_of_acts xs) (size_of_acts ys)

-- one label more at a cell
module _ (f : Cell ℕ) (s : Put) (es : List Act) where
  abbrev more : Cell ℕ → ℕ
  more c = length (cond (cell_eq nat_eq f c) (s ∷ puts_of c es) (puts_of c es))

  abbrev before : Cell ℕ → ℕ
  before c = length (puts_of c es)

  longer : (b : Bool) (ps : List Put) → length ps ≤ length (cond b (s ∷ ps) ps)
  longer true ps = omega arith
  longer false ps = omega arith

  no_fewer : (cs : List (Cell ℕ)) → sum_by before cs ≤ sum_by more cs
  no_fewer [] = omega arith
  no_fewer (c ∷ cs) =
      let rest = no_fewer cs in
      let here = longer (cell_eq nat_eq f c) (puts_of c es) in
      omega (arith, rest, here, sum_by-cons before c cs, sum_by-cons more c cs)

  one_more : (cs : List (Cell ℕ)) → Among f cs → suc (sum_by before cs) ≤ sum_by more cs
  one_more [] m = absurd m
  one_more (c ∷ cs) (inl e) =
      let rest = no_fewer cs in
      let here : more c ≡ suc (before c) = ap length (cond-true (cell_eq nat_eq f c) _ _
      (subst (λ x. cell_eq nat_eq f x ≡ true) e (cell_eq-same nat_equality f))) in
      omega (arith, rest, here, sum_by-cons before c cs, sum_by-cons more c cs)
  one_more (c ∷ cs) (inr m) =
      let rest = one_more cs m in
      let here = longer (cell_eq nat_eq f c) (puts_of c es) in
      omega (arith, rest, here, sum_by-cons before c cs, sum_by-cons more c cs)

-- all labels are at these cells
abbrev AreAt : List (Cell ℕ) → List Act → Type 0
AreAt cs es = (b : Bool) (f : Cell ℕ) (i v : ℕ) (t : Cell ℕ) → Among (Label b f i v t) es → Among f cs

counted : (cs : List (Cell ℕ)) (es : List Act) → AreAt cs es
    → size_of_acts es ≤ length (adds_of es) + sum_by (λ c. length (puts_of c es)) cs
counted cs [] h = omega arith
counted cs (Add p ∷ es) h =
    let rest : size_of_acts es ≤ length (adds_of es) + sum_by (λ c. length (puts_of c es)) cs
    = counted cs es (λ b f i v t m. h b f i v t (inr m)) in
    let all : suc (size_of_acts es) ≤ suc (length (adds_of es)) + sum_by (λ c. length (puts_of c es)) cs
    = omega (arith, rest) in
    all
counted cs (Label b f i v t ∷ es) h =
    let rest : size_of_acts es ≤ length (adds_of es) + sum_by (λ c. length (puts_of c es)) cs
    = counted cs es (λ b f i v t m. h b f i v t (inr m)) in
    let one = one_more f (put_of b i v t) es cs (h b f i v t (inl refl)) in
    let all : suc (size_of_acts es) ≤ length (adds_of es) + sum_by (more f (put_of b i v t) es) cs
    = omega (arith, rest, one) in
    all
counted cs (Mark w a ∷ es) h = counted cs es (λ b f i v t m. h b f i v t (inr m))

split_at : (x : Act) (es : List Act) → Among x es → (xs : List Act) × (ys : List Act) × (es ≡ xs ++ x ∷ ys)
split_at x [] m = absurd m
split_at x (y ∷ es) (inl e) = ([], es, ap (λ z. z ∷ es) (sym e))
split_at x (y ∷ es) (inr m) = let r = split_at x es m in (y ∷ r.0, r.1, ap (λ zs. y ∷ zs) r.2)

-- an arena in which all is done
module _ (measures : ℕ) (rows : List (Row ℕ)) (es : List Act) (a : Arena) (done : IsBuilding measures rows es [] a) where
  abbrev cells : List (Cell ℕ)
  cells = map (λ (e : ℕ × Known). e.1.cell) (finmap.entries a.now)

  labels_at : AreAt cells es
  labels_at b f i v t m =
      let r = split_at (Label b f i v t) es m in
      let added : Among (Add f) r.0
      = act_node measures a.width rows done.wide (shared_some rows done.some) r.0 r.1 b f i v t
      (done.whole ∙ append-nil es ∙ r.2) in
      let k : (k : ℕ) × (cell_at a.now k ≡ Some f)
      = done.follows.all f (subst (Among (Add f)) (sym r.2) (among_left (Add f) r.0 (Label b f i v t ∷ r.1) added)) in
      go k.0 (finmap.get a.now k.0) refl k.1
    where
      go : (k : ℕ) (o : Option Known) → finmap.get a.now k ≡ o → option_map (λ (n : Known). n.cell) o ≡ Some f
          → Among f cells
      go k None g h = cc
      go k (Some n) g h = subst (λ c. Among c cells) (some_same h)
          (map_among (λ (e : ℕ × Known). e.1.cell) (k, n) (finmap.entries a.now) (get_entry a.now k n g))

  edges_of : (k : ℕ) (n : Known) → finmap.get a.now k ≡ Some n → length (puts_of n.cell es) ≡ length n.edges
  edges_of k n g =
      sym (length-map (puts_of n.cell es) (λ (s : Put). s.edge))
      ∙ sym (length-map (labels_of n.cell es) (renamed_edge (λ (c : Cell ℕ). Some c)))
      ∙ sym (ap (λ m. length m.edges) (done.follows.each k n g).1)
      ∙ length-map n.edges (renamed_edge (cell_by (λ k. finmap.get a.now k)))

  edges_all : sum_by (λ c. length (puts_of c es)) cells ≡ edges_in a.now
  edges_all =
      sum_by-map (λ c. length (puts_of c es)) (λ (e : ℕ × Known). e.1.cell) (finmap.entries a.now)
      ∙ sum_alike (λ (e : ℕ × Known). length (puts_of e.1.cell es)) (λ (e : ℕ × Known). length e.1.edges)
      (finmap.entries a.now) (λ e m. edges_of e.0 e.1 (entry_get a.now e m))
      ∙ sym (sum_by-map (λ (n : Known). length n.edges) (λ (e : ℕ × Known). e.1) (finmap.entries a.now))

  size_done : size_of_acts es ≤ finmap.len a.now + edges_in a.now
  size_done =
      let most = counted cells es labels_at in
      omega (arith, most, done.count, edges_all)

  -- the root and the acts after it are within what the whole tree may cost
  pub cost_done : (dims from to : ℕ) (p : Cell ℕ) (fs : List Act) → es ≡ Add p ∷ fs
      → to ≤ from + 1 + cost_of_acts dims fs + 1 → to ≤ from + cost_of_building dims a.now
  cost_done dims from to p fs e within =
      let all = size_done in
      let size : size_of_acts es ≡ suc (size_of_acts fs) = ap size_of_acts e in
      let more : size_of_acts fs + 2 ≤ finmap.len a.now + edges_in a.now + 1 = omega (arith, all, size) in
      let times : (dims + 1) * (size_of_acts fs + 2) ≤ (dims + 1) * (finmap.len a.now + edges_in a.now + 1)
      = mul-le-mul_left (dims + 1) more in
      let split = mul-add (dims + 1) (size_of_acts fs) 2 in
      omega (arith, within, times, split)
