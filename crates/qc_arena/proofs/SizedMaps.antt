-- Maps whose records all get cells of another length.
use Rattle.std.proofs.Common.{◌≡◌, ℕ, suc, ◌+◌, ◌≤◌, Bool, true, false, cond, ◌&&◌, T, Option, Some, None, List, [], ◌∷◌, map, length, refl}
use Rattle.std.proofs.Common.{sym, ap, ap₂, subst, ◌∙◌, arith, nat_cmp, replicate, true≢false}
use Rattle.std.specs.Prelude.{IfSome}
use Rattle.std.specs.Ordering.{eq_by_cmp, is_lt}
use Rattle.std.specs.List.{sum_by}
use Rattle.std.specs.Option.{option_and_then, option_map}
use Rattle.std.specs.FinMap as maps
use Rattle.std.proofs.lemmas.List.Sums.{sum_by-cons}
use Rattle.slab.specs.Slab as slots
use Rattle.cell_core.specs.declared.cell.NodeNo.{NodeNo}
use Rattle.cube_defs.specs.Cell.{Cell, depth}
use Rattle.cube_defs.specs.Tree.{Tree, cell_at}
use Rattle.widen_laws.specs.Widened.{with_any_by_number}
use Rattle.qc_arena.specs.declared.tree_totals.TreeTotals.{TreeTotals}
use Rattle.qc_arena.specs.Changes.{class_in}
use Rattle.qc_arena.specs.Codes.{Shape}
use Rattle.qc_arena.specs.Map.{Known}
use Rattle.qc_arena.specs.Inside.{AreTotals, IsCounted, IsRoot, begun, join, now_of}
use Rattle.qc_arena.specs.Resized.{all_resized, entry_resized, resize, resized}
use Rattle.qc_arena.proofs.Sizes.{length-resize, resize_any, resize_deep, resize_more, resize_whole}
use Rattle.qc_arena.proofs.SlotMaps.{get_now, map_is}
use Rattle.qc_arena.proofs.TotalsSteps.{has_class, width_of}

picked : (n : ℕ) (b : Bool) (x : Known) (o o' : Option Known) → o' ≡ option_map (resized n) o
    → cond b (Some (resized n x)) o' ≡ option_map (resized n) (cond b (Some x) o)
picked n true x o o' h = refl
picked n false x o o' h = h

find_resized : (n : ℕ) (es : List (ℕ × Known)) (q : ℕ)
    → maps.find nat_cmp q (map (entry_resized n) es) ≡ option_map (resized n) (maps.find nat_cmp q es)
find_resized n [] q = refl
find_resized n (e ∷ es) q
    = picked n (eq_by_cmp nat_cmp q e.0) e.1 (maps.find nat_cmp q es) (maps.find nat_cmp q (map (entry_resized n) es))
    (find_resized n es q)

below_resized : (n k : ℕ) (es : List (ℕ × Known))
    → maps.Entries.below_all nat_cmp k (map (entry_resized n) es) ≡ maps.Entries.below_all nat_cmp k es
below_resized n k [] = refl
below_resized n k (e ∷ es) = ap (λ b. is_lt (nat_cmp k e.0) && b) (below_resized n k es)

sorted_resized : (n : ℕ) (es : List (ℕ × Known))
    → maps.is_sorted nat_cmp (map (entry_resized n) es) ≡ maps.is_sorted nat_cmp es
sorted_resized n [] = refl
sorted_resized n (e ∷ es) = ap₂ (λ a b. a && b) (below_resized n e.0 es) (sorted_resized n es)

sorted_still : (n : ℕ) (t : Tree ℕ) → T (maps.is_sorted nat_cmp (map (entry_resized n) (maps.entries t)))
sorted_still n t = subst T (sym (sorted_resized n (maps.entries t))) (maps.entries_sorted t)

entries-resized : (n : ℕ) (t : Tree ℕ) → maps.entries (all_resized n t) ≡ map (entry_resized n) (maps.entries t)
entries-resized n t = maps.entries-from_sorted nat_cmp (map (entry_resized n) (maps.entries t)) (sorted_still n t)

pub get-resized : (n : ℕ) (t : Tree ℕ) (q : ℕ) → maps.get (all_resized n t) q ≡ option_map (resized n) (maps.get t q)
get-resized n t q =
    maps.get-from_sorted nat_cmp (map (entry_resized n) (maps.entries t)) q (sorted_still n t)
    ∙ find_resized n (maps.entries t) q ∙ ap (option_map (resized n)) (sym (maps.get-entries t q))

-- a map that says so at each number
all_is : (n : ℕ) (s t : Tree ℕ) → ((q : ℕ) → maps.get s q ≡ option_map (resized n) (maps.get t q)) → s ≡ all_resized n t
all_is n s t h = map_is s (all_resized n t) (λ q. h q ∙ sym (get-resized n t q))

-- and slots that do
pub now_resized : (n : ℕ) (s t : slots.Slab (Option Known))
    → ((q : ℕ) → join (slots.get t q) ≡ option_map (resized n) (join (slots.get s q)))
    → now_of t ≡ all_resized n (now_of s)
now_resized n s t h = all_is n (now_of t) (now_of s) (λ q. get_now t q ∙ h q
    ∙ ap (option_map (resized n)) (sym (get_now s q)))

-- a record with a cell of that length
abbrev IsLong : ℕ → Option Known → Type 0
IsLong w o = (c : Cell ℕ) → option_map (λ (x : Known). x.cell) o ≡ Some c → length c ≡ w

-- what holds of a record's cell, where there is a record
pub if_cell : (o : Option Known) (P : Cell ℕ → Type 0)
    → ((c : Cell ℕ) → option_map (λ (x : Known). x.cell) o ≡ Some c → P c) → IfSome o (λ n. P n.cell)
if_cell None P h = tt
if_cell (Some n) P h = h n.cell refl

pub if_long : (w : ℕ) (o : Option Known) → IfSome o (λ n. length n.cell ≡ w) → IsLong w o
if_long w None h = λ c e. cc
if_long w (Some n) h = λ c e. let same : n.cell ≡ c = cc in ap (λ (x : Cell ℕ). length x) (sym same) ∙ h

pub same_long : (w : ℕ) (o : Option Known) → IsLong w o → option_map (resized w) o ≡ o
same_long w None h = refl
same_long w (Some n) h = ap (λ (c : Cell ℕ). Some (record n { cell = c })) (resize_whole w n.cell (h n.cell refl))

pub kept_long : (w n : ℕ) (o : Option Known) → n ≡ w + 1 → IsLong w o
    → option_map (resized n) o ≡ option_map with_any_by_number o
kept_long w n None e h = refl
kept_long w n (Some r) e h = let long = h r.cell refl in
    ap (λ (c : Cell ℕ). Some (record r { cell = c })) (resize_more n r.cell (omega arith))

-- the cell at a number is that of before
was_cell : (n : ℕ) (t : Tree ℕ) (q : ℕ) (c : Cell ℕ) → cell_at (all_resized n t) q ≡ Some c → (x : Cell ℕ)
    × (cell_at t q ≡ Some x) × (c ≡ resize n x)
was_cell n t q c e = go (maps.get t q) refl (sym (ap (option_map (λ (x : Known). x.cell)) (get-resized n t q)) ∙ e)
  where
    go : (o : Option Known) → maps.get t q ≡ o → option_map (λ (x : Known). x.cell) (option_map (resized n) o) ≡ Some c
        → (x : Cell ℕ) × (cell_at t q ≡ Some x) × (c ≡ resize n x)
    go None e h = cc
    go (Some r) e h = let same : resize n r.cell ≡ c = cc in
        (r.cell, ap (option_map (λ (x : Known). x.cell)) e, sym same)

now_cell : (n : ℕ) (t : Tree ℕ) (q : ℕ) (x : Cell ℕ) → cell_at t q ≡ Some x
    → cell_at (all_resized n t) q ≡ Some (resize n x)
now_cell n t q x e = ap (option_map (λ (x : Known). x.cell)) (get-resized n t q) ∙ go (maps.get t q) e
  where
    go : (o : Option Known) → option_map (λ (x : Known). x.cell) o ≡ Some x
        → option_map (λ (x : Known). x.cell) (option_map (resized n) o) ≡ Some (resize n x)
    go None h = cc
    go (Some r) h = let same : r.cell ≡ x = cc in ap (λ (c : Cell ℕ). Some (resize n c)) same

-- totals
length_mapped : (n : ℕ) (es : List (ℕ × Known)) → length (map (entry_resized n) es) ≡ length es
length_mapped n [] = refl
length_mapped n (e ∷ es) = ap suc (length_mapped n es)

len-resized : (n : ℕ) (t : Tree ℕ) → maps.len (all_resized n t) ≡ maps.len t
len-resized n t = maps.len-entries (all_resized n t) ∙ ap (λ (es : List (ℕ × Known)). length es) (entries-resized n t)
    ∙ length_mapped n (maps.entries t) ∙ sym (maps.len-entries t)

module _ (f : Known → ℕ) (n : ℕ) (same : (r : Known) → f (resized n r) ≡ f r) where
  sum_mapped : (es : List (ℕ × Known))
      → sum_by f (map (λ e. e.1) (map (entry_resized n) es)) ≡ sum_by f (map (λ e. e.1) es)
  sum_mapped [] = refl
  sum_mapped (e ∷ es) =
      sum_by-cons f (resized n e.1) (map (λ e. e.1) (map (entry_resized n) es))
      ∙ ap₂ (λ a b. a + b) (same e.1) (sum_mapped es) ∙ sym (sum_by-cons f e.1 (map (λ e. e.1) es))

  sum-resized : (t : Tree ℕ) → sum_by f (maps.values (all_resized n t)) ≡ sum_by f (maps.values t)
  sum-resized t = ap (λ (es : List (ℕ × Known)). sum_by f (map (λ e. e.1) es)) (entries-resized n t)
      ∙ sum_mapped (maps.entries t)

any_back : (w n : ℕ) (c : Cell ℕ) → depth c ≤ n → length c ≡ w → resize n c ≡ replicate n None → c ≡ replicate w None
any_back w n c deep long e = sym (resize_whole w c long) ∙ sym (resize_deep n w c deep) ∙ ap (resize w) e ∙ resize_any w n

module _ (w n m : ℕ) (t : Tree ℕ) (kept : TreeTotals) (is : AreTotals w m t kept)
    (deep : (q : ℕ) (c : Cell ℕ) → cell_at t q ≡ Some c → depth c ≤ n) where
  root_back : (q : ℕ) → cell_at (all_resized n t) q ≡ Some (replicate n None) → cell_at t q ≡ Some (replicate w None)
  root_back q e =
      let x = was_cell n t q (replicate n None) e in
      x.1 ∙ ap (λ (c : Cell ℕ). Some c) (any_back w n x.0 (deep q x.0 x.1) (is.cells q x.0 x.1) (sym x.2))

  root_resized : (r : Option NodeNo) → IsRoot w r t → IsRoot n r (all_resized n t)
  root_resized None none = λ q e. none q (root_back q e)
  root_resized (Some k) one = (
    now_cell n t k.0 (replicate w None) one.0 ∙ ap (λ (c : Cell ℕ). Some c) (resize_any n w),
    λ q e. one.1 q (root_back q e),
  )

  counted_resized : (q : ℕ) (x : Known) (o : Option Known) → maps.get t q ≡ o → option_map (resized n) o ≡ Some x
      → IsCounted q x
  counted_resized q x None at e = cc
  counted_resized q x (Some r) at e = let same : resized n r ≡ x = cc in
      subst (IsCounted q) same (record { number = (is.counted q r at).number; edges = (is.counted q r at).edges })

  -- what is kept of a map is right of that with another number of dimensions, if no value is lost
  pub kept_resized : AreTotals n m (all_resized n t) kept
  kept_resized = record {
    root = root_resized kept.root is.root;
    nodes = is.nodes ∙ sym (len-resized n t);
    classes = is.classes ∙ sym (sum-resized has_class n (λ r. refl) t);
    edges = is.edges ∙ sym (sum-resized width_of n (λ r. refl) t);
    few = let long = len-resized n t in let few = is.few in omega arith;
    cells = λ q c e. let x = was_cell n t q c e in ap (λ (c : Cell ℕ). length c) x.2 ∙ length-resize n x.0;
    counted = λ q x e. counted_resized q x (maps.get t q) refl (sym (get-resized n t q) ∙ e);
  }

-- what was there at the begin of a batch
pub at_begin : (b : Bool) (w : ℕ) (t : Tree ℕ) (q : ℕ) → b ≡ true
    → option_and_then (λ (s : Shape). maps.get s.tree q) (begun b w t) ≡ maps.get t q
at_begin true w t q opened = refl
at_begin false w t q opened = absurd (true≢false (sym opened))

-- a class is what it was
pub class_at_begin : (b : Bool) (w : ℕ) (t : Tree ℕ) (q : ℕ) → b ≡ true
    → class_in (maps.get t q) ≡ class_in (option_and_then (λ (s : Shape). maps.get s.tree q) (begun b w t))
class_at_begin b w t q opened = ap class_in (sym (at_begin b w t q opened))
