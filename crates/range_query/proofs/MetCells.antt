-- What a walk along a box meets: just the cells of the box that cover a row, in cell order.
use Rattle.std.proofs.Common.{◌≡◌, ℕ, zero, suc, ◌+◌, ◌<◌, ◌≤◌, Bool, true, false, ◌||◌, cond, Option, Some, None, List, [], ◌∷◌, length}
use Rattle.std.proofs.Common.{filter, flat_map, take, drop, replicate, slice_get, inl, inr, refl, sym, ap, subst, ◌∙◌, arith, true≢false}
use Rattle.std.specs.List.Sorted.{IsStrictlySortedBy}
use Rattle.std.specs.Prelude.{is_some}
use Rattle.std.specs.declared.cmp.Ordering.{Ordering}
use Rattle.std.specs.declared.cmp.Ordering.TheVariants.{Less}
use Rattle.std.specs.Ordering.{eq_by_cmp}
use Rattle.std.specs.Cmp.{IsTotalOrder}
use Rattle.std.specs.FinMap.{IsAntisymmetric}
use Rattle.std.specs.List.{AllByRecursion, list_any}
use Rattle.std.proofs.lemmas.Bool.{and_from, and_parts, cond-true}
use Rattle.std.proofs.lemmas.List.{drop_all, length-set, take-set}
use Rattle.cube_defs.specs.Cell.{Cell, cell_cmp, depth, leq, depth_with, with_value}
use Rattle.cube_defs.specs.Rows.{Row, closure, covers}
use Rattle.cube_defs.specs.Tree.{covered}
use Rattle.cube_defs.specs.Answers.{Box, in_box}
use Rattle.cube_laws.specs.Lists.{Among}
use Rattle.cube_laws.proofs.CallerLemmas.{IsEquality, closure_some, cell_anti, cell_total, covered-is, covered_rises, covered_some}
use Rattle.cube_laws.proofs.CallerLemmas.{some_covered, rises_same, all_at, all_from, among_filter, among_flat_map, filter_among}
use Rattle.cube_laws.proofs.CallerLemmas.{equality_by, rises-filter}
use Rattle.tree_laws.proofs.CallerLemmas.{rises_append, any_after}
use Rattle.range_query.specs.Met.{if_covered, is_covered, met}
use Rattle.value_dict.specs.Boxes.{IsOrdered}
use Rattle.range_query.proofs.Places.{drop_get, get_drop, leq_prefix, less_at, take_all, take_less, take_more}
use Rattle.range_query.proofs.Standing.{depth-set, set-get}

module _ {A : Type 0} {cmp : A → A → Ordering} (total : IsTotalOrder cmp) (anti : IsAntisymmetric cmp)
    (rows : List (Row A)) where
  law : IsEquality (eq_by_cmp cmp)
  law = equality_by total anti

  abbrev eq : A → A → Bool
  eq = eq_by_cmp cmp

  some_of : (c : Cell A) → is_covered eq rows c ≡ true → (u : Cell A) × (closure eq rows c ≡ Some u)
  some_of c h = go (closure eq rows c) refl
    where
      go : (o : Option (Cell A)) → closure eq rows c ≡ o → (u : Cell A) × (closure eq rows c ≡ Some u)
      go None e = absurd (true≢false (sym h ∙ ap is_some e))
      go (Some u) e = (u, e)

  -- what generalizes a cell that covers a row covers it too
  covered_below : (p c : Cell A) → leq eq p c ≡ true → is_covered eq rows c ≡ true → is_covered eq rows p ≡ true
  covered_below p c l h = let u = some_of c h in ap is_some (closure_some law rows p c u.0 l u.1).1

  -- a cell that begins as p, and goes on as the box allows
  pub record Goes (box : Box A) (p : Cell A) (i : ℕ) (c : Cell A) : Type 0 where
    pub long : length c ≡ length p
    pub same : take i c ≡ take i p
    pub allowed : in_box eq box (drop i c) ≡ true
    pub covered : is_covered eq rows c ≡ true

  is_among : (v : A) (vs : List A) → list_any (eq v) vs ≡ true → Among v vs
  is_among v [] h = cc
  is_among v (w ∷ vs) h = go (eq v w) refl (is_among v vs) h
    where
      go : (b : Bool) → eq v w ≡ b → (list_any (eq v) vs ≡ true → Among v vs) → (b || list_any (eq v) vs) ≡ true
          → Among v (w ∷ vs)
      go true e more h = inl (law.exact v w e)
      go false e more h = inr (more h)

  among_is : (v : A) (vs : List A) → Among v vs → list_any (eq v) vs ≡ true
  among_is v [] h = absurd h
  among_is v (w ∷ vs) h =
      elim h [ inl e ↦ first (ap (eq v) (sym e) ∙ law.same v) | inr m ↦ second (eq v w) (among_is v vs m) ]
    where
      first : eq v w ≡ true → (eq v w || list_any (eq v) vs) ≡ true
      first e = ap (λ b. b || list_any (eq v) vs) e

      second : (b : Bool) → list_any (eq v) vs ≡ true → (b || list_any (eq v) vs) ≡ true
      second true e = refl
      second false e = e

  -- one code of a box
  abbrev one : Box A → Cell A → ℕ → A → List (Cell A)
  one box p i v = if_covered eq rows [] (λ q. met eq rows box q (suc i)) (with_value p i v)

  one_met : (box : Box A) (p : Cell A) (i : ℕ) (v : A) (c : Cell A) → Among c (one box p i v)
      → (is_covered eq rows (with_value p i v) ≡ true) × Among c (met eq rows box (with_value p i v) (suc i))
  one_met box p i v c = go (is_covered eq rows (with_value p i v)) refl
    where
      go : (b : Bool) → is_covered eq rows (with_value p i v) ≡ b
          → Among c (cond b (met eq rows box (with_value p i v) (suc i)) [])
          → (is_covered eq rows (with_value p i v) ≡ true) × Among c (met eq rows box (with_value p i v) (suc i))
      go true e m = (e, m)
      go false e m = absurd m

  met_goes : (box : Box A) (p : Cell A) (i : ℕ) (c : Cell A) → length p ≡ i + length box → depth p ≤ i
      → is_covered eq rows p ≡ true → Among c (met eq rows box p i) → Goes box p i c
  met_goes [] p i c l d k m = elim m [
    | inl e ↦ record {
      long = ap length e;
      same = ap (take i) e;
      allowed = ap (λ x. in_box eq [] (drop i x)) e ∙ ap (in_box eq []) (drop_all i p (omega arith));
      covered = ap (is_covered eq rows) e ∙ k;
    }
    | inr n ↦ absurd n
  ]
  met_goes (None ∷ box) p i c l d k m =
      let r : Goes box p (suc i) c = met_goes box p (suc i) c (omega arith) (omega arith) k m in
      let within : i < length p = omega arith in
      let t = take_less c p i r.same (omega (arith, r.long, within)) within in
      record {
        long = r.long;
        same = t.0;
        allowed = ap (in_box eq (None ∷ box)) (drop_get c i None (t.1 ∙ any_after p i d within)) ∙ r.allowed;
        covered = r.covered;
      }
  met_goes (Some vs ∷ box) p i c l d k m =
      let f : (v : A) × Among v vs × Among c (one box p i v) = (among_flat_map (one box p i) c vs).0 m in
      let within : i < length p = omega arith in
      let wide : length (with_value p i f.0) ≡ length p = length-set p i (Some f.0) in
      let n = one_met box p i f.0 c f.2 in
      let r : Goes box (with_value p i f.0) (suc i) c
      = met_goes box (with_value p i f.0) (suc i) c (omega (arith, wide, l)) (depth-set p i (Some f.0) d) n.0 n.1 in
      let t = take_less c (with_value p i f.0) i r.same (omega (arith, r.long, wide, within))
      (omega (arith, wide, within)) in
      record {
        long = r.long ∙ wide;
        same = t.0 ∙ take-set p i (Some f.0);
        allowed = ap (in_box eq (Some vs ∷ box)) (drop_get c i (Some f.0) (t.1 ∙ set-get p i (Some f.0) within))
            ∙ and_from _ _ (among_is f.0 vs f.1) r.allowed;
        covered = r.covered;
      }

  goes_met : (box : Box A) (p : Cell A) (i : ℕ) (c : Cell A) → length p ≡ i + length box → depth p ≤ i → Goes box p i c
      → Among c (met eq rows box p i)
  goes_met [] p i c l d r = inl (take_all c p i r.same (omega (arith, r.long, l)) (sym r.long))
  goes_met (None ∷ box) p i c l d r
      = go (λ k. goes_met box p (suc i) c (omega (arith, l)) (omega (arith, d)) k) (drop i c) refl r.allowed
    where
      within : i < length p
      within = omega arith

      go : (Goes box p (suc i) c → Among c (met eq rows box p (suc i))) → (s : Cell A) → drop i c ≡ s
          → in_box eq (None ∷ box) s ≡ true → Among c (met eq rows box p (suc i))
      go more [] e h = cc
      go more (None ∷ s) e h =
          let t = get_drop c i None s e in
          more (record {
            long = r.long;
            same = take_more c p i r.same (t.0 ∙ sym (any_after p i d within)) (omega (arith, r.long, within)) within;
            allowed = ap (in_box eq box) t.1 ∙ h;
            covered = r.covered;
          })
      go more (Some v ∷ s) e h = cc
  goes_met (Some vs ∷ box) p i c l d r
      = go (λ v k. goes_met box (with_value p i v) (suc i) c (omega (arith, l, length-set p i (Some v)))
      (depth-set p i (Some v) d) k) (drop i c) refl r.allowed
    where
      within : i < length p
      within = omega arith

      go : ((v : A) → Goes box (with_value p i v) (suc i) c → Among c (met eq rows box (with_value p i v) (suc i)))
          → (s : Cell A) → drop i c ≡ s → in_box eq (Some vs ∷ box) s ≡ true → Among c (flat_map (one box p i) vs)
      go more [] e h = cc
      go more (None ∷ s) e h = cc
      go more (Some v ∷ s) e h =
          let t = get_drop c i (Some v) s e in
          let b = and_parts (list_any (eq v) vs) (in_box eq box s) h in
          let wide : length (with_value p i v) ≡ length p = length-set p i (Some v) in
          let same : take (suc i) c ≡ take (suc i) (with_value p i v)
          = take_more c (with_value p i v) i (r.same ∙ sym (take-set p i (Some v))) (t.0
          ∙ sym (set-get p i (Some v) within)) (omega (arith, r.long, within)) (omega (arith, wide, within)) in
          let here : is_covered eq rows (with_value p i v) ≡ true
          = covered_below (with_value p i v) c
          (leq_prefix law (with_value p i v) c (suc i) (depth-set p i (Some v) d) same (r.long
          ∙ sym wide)) r.covered in
          (among_flat_map (one box p i) c vs).1 (
            v,
            is_among v vs b.0,
            subst (Among c) (sym (cond-true _ _ _ here))
                (more v (record {
                  long = r.long ∙ sym wide;
                  same = same;
                  allowed = ap (in_box eq box) t.1 ∙ b.1;
                  covered
                      = r.covered;
                })),
          )

  -- in cell order
  pub met_rises : (box : Box A) (p : Cell A) (i : ℕ) → length p ≡ i + length box → depth p ≤ i
      → is_covered eq rows p ≡ true → IsOrdered cmp box → IsStrictlySortedBy (cell_cmp cmp) (met eq rows box p i)
  unfolding IsStrictlySortedBy
  met_rises [] p i l d k o = (tt, tt)
  met_rises (None ∷ box) p i l d k o = met_rises box p (suc i) (omega (arith, l)) (omega (arith, d)) k o
  met_rises (Some vs ∷ box) p i l d k o
      = go (λ v h. met_rises box (with_value p i v) (suc i) (omega (arith, l, length-set p i (Some v)))
      (depth-set p i (Some v) d) h o.1) vs o.0
    where
      within : i < length p
      within = omega arith

      ones : ((v : A) → is_covered eq rows (with_value p i v) ≡ true
          → IsStrictlySortedBy (cell_cmp cmp) (met eq rows box (with_value p i v) (suc i))) → (v : A)
          → IsStrictlySortedBy (cell_cmp cmp) (one box p i v)
      ones more v = by (is_covered eq rows (with_value p i v)) refl
        where
          by : (b : Bool) → is_covered eq rows (with_value p i v) ≡ b
              → IsStrictlySortedBy (cell_cmp cmp) (cond b (met eq rows box (with_value p i v) (suc i)) [])
          by true e = more v e
          by false e = tt

      -- what comes of a value begins with it
      begins : (v : A) (x : Cell A) → Among x (one box p i v) → (take i x ≡ take i p) × (slice_get x i ≡ Some (Some v))
      begins v x m =
          let wide : length (with_value p i v) ≡ length p = length-set p i (Some v) in
          let n = one_met box p i v x m in
          let r : Goes box (with_value p i v) (suc i) x
          = met_goes box (with_value p i v) (suc i) x (omega (arith, wide, l)) (depth-set p i (Some v) d) n.0 n.1 in
          let t = take_less x (with_value p i v) i r.same (omega (arith, r.long, wide, within))
          (omega (arith, wide, within)) in
          (t.0 ∙ take-set p i (Some v), t.1 ∙ set-get p i (Some v) within)

      go : ((v : A) → is_covered eq rows (with_value p i v) ≡ true
          → IsStrictlySortedBy (cell_cmp cmp) (met eq rows box (with_value p i v) (suc i))) → (ws : List A)
          → IsStrictlySortedBy cmp ws → IsStrictlySortedBy (cell_cmp cmp) (flat_map (one box p i) ws)
      go more [] h = tt
      go more (v ∷ ws) h =
          rises_append (cell_cmp cmp) (one box p i v) (flat_map (one box p i) ws) (ones more v) (go more ws h.1)
          (λ x y m n.
          let f : (w : A) × Among w ws × Among y (one box p i w) = (among_flat_map (one box p i) y ws).0 n in
          let a = begins v x m in
          let b = begins f.0 y f.2 in
          less_at total x y i v f.0 (a.0 ∙ sym b.0) a.1 b.1 (all_at (λ w. cmp v w ≡ Less) f.0 ws h.0 f.1))

  module _ (dims : ℕ) (wide : AllByRecursion (λ row. length row.tuple ≡ dims) rows) where
    abbrev root : Cell A
    root = replicate dims None

    abbrev any_entry : Option A
    any_entry = None

    root_long : (n : ℕ) → length (replicate n any_entry) ≡ n
    root_long zero = refl
    root_long (suc n) = ap suc (root_long n)

    root_deep : (n : ℕ) → depth (replicate n any_entry) ≤ 0
    root_deep zero = omega arith
    root_deep (suc n) = deep (depth (replicate n any_entry)) (root_deep n)
      where
        deep : (m : ℕ) → m ≤ 0 → depth_with {A = A} None m ≤ 0
        deep zero h = omega arith
        deep (suc m) h = absurd (omega arith)

    listed : (c : Cell A) → length c ≡ dims → is_covered eq rows c ≡ true → Among c (covered cmp rows)
    listed c long h =
        let u = some_of c h in
        let r : (r : Row A) × Among r rows × (covers eq c r ≡ true) = some_covered eq dims c u.0 rows u.1 in
        (covered-is total anti rows c).1 (
          r.0,
          r.1,
          long
              ∙ sym (all_at (λ row. length row.tuple ≡ dims) r.0 rows wide r.1),
          r.2,
        )

    unlisted : (c : Cell A) → Among c (covered cmp rows) → (length c ≡ dims) × (is_covered eq rows c ≡ true)
    unlisted c m =
        let r : (r : Row A) × Among r rows × (length c ≡ length r.tuple) × (covers eq c r ≡ true)
        = (covered-is total anti rows c).0 m in (
          r.2 ∙ all_at (λ row. length row.tuple ≡ dims) r.0 rows wide r.1,
          ap is_some (covered_some eq rows c r.0 r.1 r.3).1,
        )

    module _ (box : Box A) (fits : length box ≡ dims) where
      -- a walk from the root meets all
      pub met_is : IsOrdered cmp box → is_covered eq rows root ≡ true
          → met eq rows box root 0 ≡ filter (in_box eq box) (covered cmp rows)
      met_is o k =
          let long : length root ≡ 0 + length box = omega (arith, root_long dims, fits) in
          rises_same (cell_total total anti) (cell_anti total anti) _ _
          (met_rises box root 0 long (root_deep dims) k o)
          (rises-filter (cell_cmp cmp) (in_box eq box) (covered cmp rows) (covered_rises total anti rows))
          (λ c m.
          let r : Goes box root 0 c = met_goes box root 0 c long (root_deep dims) k m in
          among_filter (in_box eq box) c (covered cmp rows) (listed c (r.long ∙ root_long dims) r.covered) r.allowed)
          (λ c m.
          let f = filter_among (in_box eq box) c (covered cmp rows) m in
          let u = unlisted c f.0 in
          goes_met box root 0 c long (root_deep dims) (record {
            long = u.0 ∙ sym (root_long dims);
            same = refl;
            allowed
                = f.1;
            covered = u.1;
          }))

      -- without rows there is nothing
      pub none_is : is_covered eq rows root ≡ false → filter (in_box eq box) (covered cmp rows) ≡ []
      none_is e = go (filter (in_box eq box) (covered cmp rows)) refl
        where
          go : (cells : List (Cell A)) → filter (in_box eq box) (covered cmp rows) ≡ cells → cells ≡ []
          go [] is = refl
          go (c ∷ cells) is =
              let f = filter_among (in_box eq box) c (covered cmp rows) (subst (Among c) (sym is) (inl refl)) in
              let u = unlisted c f.0 in
              absurd (true≢false (sym
              (covered_below root c (leq_prefix law root c 0 (root_deep dims) refl (u.0
              ∙ sym (root_long dims))) u.1) ∙ e))

  -- each cell that is met covers a row
  pub met_covered : (box : Box A) (p : Cell A) (i : ℕ) → length p ≡ i + length box → depth p ≤ i
      → is_covered eq rows p ≡ true → AllByRecursion (λ c. is_covered eq rows c ≡ true) (met eq rows box p i)
  met_covered box p i l d k
      = all_from (λ c. is_covered eq rows c ≡ true) (met eq rows box p i) (λ c m. (met_goes box p i c l d k m).covered)

  -- and is as long as the cell from which the walk goes on
  pub met_long : (box : Box A) (p : Cell A) (i : ℕ) → length p ≡ i + length box → depth p ≤ i
      → is_covered eq rows p ≡ true → AllByRecursion (λ c. length c ≡ length p) (met eq rows box p i)
  met_long box p i l d k =
      all_from (λ c. length c ≡ length p) (met eq rows box p i) (λ c m. (met_goes box p i c l d k m).long)
