-- How the parts of a walk find their hits.
use Rattle.std.proofs.Common.{◌≡◌, ℕ, zero, suc, ◌+◌, ◌<◌, ◌≤◌, Option, Some, None, List, [], ◌∷◌, ◌++◌, length, map, drop, set, take}
use Rattle.std.proofs.Common.{get_or, flat_map, refl, sym, ap, subst, ◌∙◌, arith}
use Rattle.std.specs.Prelude.{Err, Ok, Result, sum_by}
use Rattle.std.proofs.lemmas.List.Sums.{sum_by-cons}
use Rattle.std.proofs.lemmas.Result.{on_ok_weaker}
use Rattle.std.specs.Ordering.{nat_cmp, eq_by_cmp}
use Rattle.cube_defs.specs.Cell.{Cell}
use Rattle.cube_defs.specs.Tree.{Tree}
use Rattle.cube_defs.specs.Answers.{Box}
use Rattle.qc_arena.specs.RecordReaders.{record_at}
use Rattle.tree_laws.specs.Walk.{target_at}
use Rattle.tree_search.specs.Found.{IsTreeOf, TreeRows}
use Rattle.range_query.specs.declared.hit.Hit.{Hit}
use Rattle.range_query.specs.declared.hit.RangeRefused.{RangeRefused}
use Rattle.range_query.specs.DecodedHits.{hit_at, hit_in}
use Rattle.range_query.specs.Walk.{Ends, Finds, StandsAtNode, cost, entered, entry_cost, met}
use Rattle.range_query.proofs.Lists.{all_taken, append_none, cost_more, found_more, some_taken, steps_taken, within_taken}
use Rattle.range_query.proofs.Standing.{LeadsTo, codes_cost, codes_met, entered_none, entered_some, entry_cost_some}
use Rattle.range_query.proofs.Standing.{leads_edge, stands_whole}

-- the same cells and steps, under other names
pub finds_same : {T : Type 0} {dims : ℕ} {tree : Tree ℕ} {limit : ℕ} {found found2 : TreeRows
    → List (Cell ℕ)} {most most2 : TreeRows → ℕ} {old new : List Hit} {p q : Cell ℕ} {before now before2 now2 : ℕ}
    (result : Result T RangeRefused)
    → Finds dims tree limit found most old new p q before now result
    → ((source : TreeRows) → IsTreeOf dims tree source → found source ≡ found2 source)
    → ((source : TreeRows) → IsTreeOf dims tree source → now ≤ before + most source → now2 ≤ before2 + most2 source)
    → Finds dims tree limit found2 most2 old new p q before2 now2 result
finds_same {limit = limit} {old = old} {new = new} result f same fewer = record {
  hits = λ source h. on_ok_weaker result (λ e. e
      ∙ ap (λ cells. map hit_in old ++ map (hit_at source) cells) (same source h)) (f.hits source h);
  few = f.few;
  too_many = λ e source h. subst (λ cells. limit < length old + length cells) (same source h) (f.too_many e source h);
  cell = f.cell;
  steps = λ source h. fewer source h (f.steps source h);
}

-- one step more for each item
ones : (f g : ℕ → ℕ) → ((x : ℕ) → 1 + f x ≤ g x) → (xs : List ℕ) → sum_by f xs + length xs ≤ sum_by g xs
ones f g h [] = omega arith
ones f g h (x ∷ xs) = omega (arith, h x, ones f g h xs, sum_by-cons f x xs, sum_by-cons g x xs)

-- the hits of the first k values of a dimension, and those of the next one
module _ (each dims : ℕ) (tree : Tree ℕ) (p : Cell ℕ) (i limit : ℕ) (box : Box ℕ) (codes : List ℕ) where
  abbrev pub FindsTaken : ℕ → List Hit → List Hit → Cell ℕ → ℕ → ℕ → Type 0
  FindsTaken k old new q before now =
      Finds {T = Unit {0}} dims tree limit (λ source. flat_map (λ v. entered source (drop (i + 1) box) p i (Some v))
      (take k codes))
      (λ source. sum_by (λ v. entry_cost each source (drop (i + 1) box) p i (Some v)) (take k codes)) old new p q
      before now (Ok tt)

  abbrev pub FindsNext : {T : Type 0} → ℕ → List Hit → List Hit → Cell ℕ → Cell ℕ → ℕ → ℕ
      → Result T RangeRefused → Type 0
  FindsNext k old new q r before now result =
      Finds dims tree limit (λ source. entered source (drop (i + 1) box) q i (Some (get_or codes k 0)))
      (λ source. entry_cost each source (drop (i + 1) box) q i (Some (get_or codes k 0))) old new q r before now result

module _ (dims : ℕ) (tree : Tree ℕ) (node : ℕ) (p : Cell ℕ) (i : ℕ) (s : StandsAtNode dims tree node p i) where
  pub stands_ends : dims ≤ i → Ends dims tree node p
  stands_ends l = record {
    long = s.long;
    there = s.there;
    whole
        = λ source h. stands_whole dims tree node p i s source h l;
  }

  module _ (limit : ℕ) (box : Box ℕ) where
    -- one value: no row is left with it
    module _ (each : ℕ) (l : i < dims) (v : ℕ) (o : Option ℕ) (to : LeadsTo dims tree p i (Some v) o) where
      pub finds_none : {old : List Hit} {before now : ℕ} → o ≡ None → length old ≤ limit → now ≤ before + each
          → Finds {T = Unit {0}} dims tree limit (λ source. entered source (drop (i + 1) box) p i (Some v))
          (λ source. entry_cost each source (drop (i + 1) box) p i (Some v)) old old p p before now (Ok tt)
      finds_none {old = old} w few one = record {
        hits = λ source h. append_none (hit_at source) (map hit_in old) _
            (entered_none dims tree node p i s source h (drop (i + 1) box) (Some v) l o to w);
        few = few;
        too_many = λ e. absurd (ok_no_err e);
        cell = refl;
        steps = λ source h. omega (arith, one);
      }
        where
          ok_no_err : {e : RangeRefused} → ◌≡◌ {A = Result (Unit {0}) RangeRefused} (Ok tt) (Err e) → ⊥
          ok_no_err e = cc

      -- or the walk goes on
      pub finds_entered : {T : Type 0} {old new : List Hit} {q : Cell ℕ} {before mid now : ℕ} (j : ℕ)
          (result : Result T RangeRefused) → o ≡ Some j → mid ≤ before + each
          → Finds dims tree limit (λ source. met source (drop (i + 1) box) (set p i (Some v)) (i + 1))
          (λ source. cost source (drop (i + 1) box) (set p i (Some v)) (i + 1)) old new p q mid now result
          → Finds dims tree limit (λ source. entered source (drop (i + 1) box) p i (Some v))
          (λ source. entry_cost each source (drop (i + 1) box) p i (Some v)) old new p q before now result
      finds_entered j result w one f = finds_same result f
          (λ source h. sym (entered_some dims tree node p i s source h (drop (i + 1) box) (Some v) l o to j w))
          (λ source h m. omega (
            arith,
            m,
            one,
            entry_cost_some dims tree node p i s source h (drop (i + 1) box) (Some v) l o to j w each,
          ))

    -- the values of this dimension, one after another
    module _ (each : ℕ) (codes : List ℕ) where
      own : {T : Type 0} (k : ℕ) {old new : List Hit} {q r : Cell ℕ} {before now : ℕ} (result : Result T RangeRefused)
          → q ≡ p → FindsNext each dims tree p i limit box codes k old new q r before now result
          → FindsNext each dims tree p i limit box codes k old new p r before now result
      own k {old = old} {new = new} {r = r} {before = before} {now = now} result is f
          = subst (λ c. FindsNext each dims tree p i limit box codes k old new c r before now result) is f

      pub taken_none : {old : List Hit} {before : ℕ} → length old ≤ limit
          → FindsTaken each dims tree p i limit box codes 0 old old p before before
      taken_none {old = old} few = record {
        hits = λ source h. append_none (hit_at source) (map hit_in old) [] refl;
        few = few;
        too_many = λ e. absurd (ok_no_err e);
        cell = refl;
        steps = λ source h. omega arith;
      }
        where
          ok_no_err : {e : RangeRefused} → ◌≡◌ {A = Result (Unit {0}) RangeRefused} (Ok tt) (Err e) → ⊥
          ok_no_err e = cc

      pub taken_more : {k : ℕ} {old mid new : List Hit} {q r : Cell ℕ} {before between now : ℕ} → k < length codes
          → FindsTaken each dims tree p i limit box codes k old mid q before between
          → FindsNext each dims tree p i limit box codes {T = Unit {0}} k mid new q r between now (Ok tt)
          → FindsTaken each dims tree p i limit box codes (k + 1) old new r before now
      taken_more {k = k} {old = old} {mid = mid} {new = new} {before = before} {between = between} {now = now} l f g =
          let e = own k (Ok tt) f.cell g in
          record {
            hits = λ source h. found_more (λ v. entered source (drop (i + 1) box) p i (Some v))
                (hit_at source) hit_in old mid new codes k 0 l (f.hits source h) (e.hits source h);
            few = e.few;
            too_many = λ e. absurd (ok_no_err e);
            cell = g.cell ∙ f.cell;
            steps = λ source h. cost_more (λ v. entry_cost each source (drop (i + 1) box) p i (Some v)) codes k 0 before
                between now l (f.steps source h) (e.steps source h);
          }
        where
          ok_no_err : {e : RangeRefused} → ◌≡◌ {A = Result (Unit {0}) RangeRefused} (Ok tt) (Err e) → ⊥
          ok_no_err e = cc

      -- what is left of the steps where a code isn't searched for
      abbrev pub Spares : ℕ → Type 0
      Spares spare = (source : TreeRows)
          → sum_by (λ v. entry_cost each source (drop (i + 1) box) p i (Some v)) codes + spare
          ≤ sum_by (λ v. entry_cost 1 source (drop (i + 1) box) p i (Some v)) codes

      module _ (dim : i < length box) (is : get_or box i None ≡ Some codes) (spare : ℕ) (spares : Spares spare) where
        pub taken_all : {k : ℕ} {old new : List Hit} {q : Cell ℕ} {before now : ℕ} → length codes ≤ k
            → FindsTaken each dims tree p i limit box codes k old new q before now
            → Finds {T = Unit {0}} dims tree limit (λ source. met source (drop i box) p i)
            (λ source. cost source (drop i box) p i) old new p q before (now + (1 + spare)) (Ok tt)
        taken_all {k = k} {now = now} l f = finds_same (Ok tt) f
            (λ source h. all_taken (λ v. entered source (drop (i + 1) box) p i (Some v)) codes k l
            ∙ sym (codes_met dims tree node p i s source h box dim codes is))
            (λ source h m. let le = some_taken (λ v. entry_cost each source (drop (i + 1) box) p i (Some v)) codes k in
            omega (arith, m, le, spares source, codes_cost dims tree node p i s source h box dim codes is))

        pub taken_part : {k : ℕ} {old mid new : List Hit} {q r : Cell ℕ} {before between now : ℕ} (e : RangeRefused)
            → k < length codes → FindsTaken each dims tree p i limit box codes k old mid q before between
            → FindsNext each dims tree p i limit box codes {T = Unit {0}} k mid new q r between now (Err e)
            → Finds {T = Unit {0}} dims tree limit (λ source. met source (drop i box) p i)
            (λ source. cost source (drop i box) p i) old new p r before (now + (1 + spare)) (Err e)
        taken_part {k = k} {old = old} {mid = mid} {now = now} e l f g =
            let n = own k (Err e) f.cell g in
            record {
              hits = λ source h. tt;
              few = tt;
              too_many = λ is_too source h.
                  subst (λ cells. limit < length old + length cells)
                  (sym (codes_met dims tree node p i s source h box dim codes is))
                  (within_taken (λ v. entered source (drop (i + 1) box) p i (Some v))
                  (hit_at source) hit_in mid old codes k limit 0 l (f.hits source h) (n.too_many is_too source h));
              cell = tt;
              steps = λ source h.
                  let le = steps_taken (λ v. entry_cost each source (drop (i + 1) box) p i (Some v)) codes k 0 l in
                  omega (
                    arith,
                    f.steps source h,
                    n.steps source h,
                    le,
                    spares source,
                    codes_cost dims tree node p i s source h box dim codes is,
                  );
            }

    pub all_searched : (codes : List ℕ) → Spares 1 codes 0
    all_searched codes = λ source. omega arith

    pub none_searched : (codes : List ℕ) → Spares 0 codes (length codes)
    none_searched codes = λ source. ones (λ v. entry_cost 0 source (drop (i + 1) box) p i (Some v))
        (λ v. entry_cost 1 source (drop (i + 1) box) p i (Some v)) (λ v. omega arith) codes

    -- codes with which no row is left take nothing
    module _ (codes : List ℕ) (l : i < dims) where
      pub taken_on : (m k : ℕ) {old new : List Hit} {q : Cell ℕ} {before now : ℕ} → k + m ≤ length codes
          → ((j : ℕ) → k ≤ j → j < k + m → target_at (eq_by_cmp nat_cmp) i (get_or codes j 0) (record_at tree node).edges
          ≡ None)
          → FindsTaken 0 dims tree p i limit box codes k old new q before now
          → FindsTaken 0 dims tree p i limit box codes (k + m) old new q before now
      taken_on zero k {old = old} {new = new} {q = q} {before = before} {now = now} few none f =
          let same : k ≡ k + 0 = omega arith in
          subst (λ n. FindsTaken 0 dims tree p i limit box codes n old new q before now) same f
      taken_on (suc m) k {old = old} {new = new} {q = q} {before = before} {now = now} few none f =
          let is : q ≡ p = f.cell in
          let own : FindsTaken 0 dims tree p i limit box codes k old new p before now
          = subst (λ c. FindsTaken 0 dims tree p i limit box codes k old new c before now) is f in
          let next : FindsTaken 0 dims tree p i limit box codes (k + 1) old new p before now
          = taken_more 0 codes (omega (arith, few)) own
          (finds_none 0 l (get_or codes k 0) _ (leads_edge dims tree node p i s (get_or codes k 0) l)
          (none k (omega arith) (omega arith)) f.few (omega arith)) in
          let all : FindsTaken 0 dims tree p i limit box codes ((k + 1) + m) old new p before now
          = taken_on m (k + 1) (omega (arith, few))
          (λ j a b. none j (omega (arith, a)) (omega (arith, b))) next in
          let same : (k + 1) + m ≡ k + suc m = omega arith in
          subst (λ c. FindsTaken 0 dims tree p i limit box codes (k + suc m) old new c before now) (sym is)
          (subst (λ n. FindsTaken 0 dims tree p i limit box codes n old new p before now) same all)
