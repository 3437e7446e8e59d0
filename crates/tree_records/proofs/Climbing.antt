-- On the way up from a node its line is read, value by value.
use Rattle.std.proofs.Common.{◌≡◌, ℕ, zero, suc, ◌+◌, ◌-◌, ◌<◌, ◌≤◌, ◌==◌, Option, Some, None, List, [], ◌∷◌, length}
use Rattle.std.proofs.Common.{replicate, refl, sym, ap, subst, ◌∙◌, slice_get, slice_set, arith, eqb-true}
use Rattle.std.specs.Prelude.{IsSome}
use Rattle.std.specs.FinMap as map
use Rattle.std.specs.Option.{option_and_then, option_map}
use Rattle.std.specs.Ordering.{nat_cmp}
use Rattle.std.proofs.lemmas.Bool.{cond-false, false_from_ne_true}
use Rattle.std.proofs.lemmas.List.{length-replicate, length-set}
use Rattle.std.proofs.lemmas.Option.{slice_get_within}
use Rattle.cube_defs.specs.Cell.{Cell, cell_prefix, depth, with_value}
use Rattle.cube_defs.specs.Tree.{Tree, cell_at, parent_cell_of}
use Rattle.cube_laws.proofs.CallerLemmas.{length-cell_prefix}
use Rattle.qc_arena.specs.Map.{AreRooted, Known}
use Rattle.qc_arena.specs.RecordReaders.{record_at}
use Rattle.tree_laws.specs.Walk.{last_label}
use Rattle.tree_laws.proofs.CallerLemmas.{Shows, cell_record, depth-cell_prefix-le, get-cell_prefix, label_some, shows_all, shows_first}
use Rattle.tree_laws.proofs.CallerLemmas.{shows_more, some_same, split_last}
use Rattle.tree_records.specs.Lines.{IsReadAs, IsSmall, entries_of, entry_of, line_of}
use Rattle.tree_records.specs.declared.lines.TheConstants.{ANY}

-- one value more
entries_set : (n : ℕ) (c : Cell ℕ) (j v : ℕ) → j < length c
    → entries_of n (with_value c j v) ≡ slice_set (entries_of n c) j v
entries_set zero c j v h = refl
entries_set (suc n) [] j v h = absurd (omega (arith, h))
entries_set (suc n) (e ∷ c) zero v h = refl
entries_set (suc n) (e ∷ c) (suc j) v h = ap (λ es. entry_of e ∷ es) (entries_set n c j v (omega (arith, h)))

-- no value
entries_none : (n m : ℕ) → entries_of n (replicate m None) ≡ replicate n ANY
entries_none zero m = refl
entries_none (suc n) zero = ap (λ es. ANY ∷ es) (entries_none n zero)
entries_none (suc n) (suc m) = ap (λ es. ANY ∷ es) (entries_none n m)

-- a small cell has no value after the first six dimensions
small_depth : (c : Cell ℕ) → IsSmall c → depth c ≤ 6
small_depth c small = go (depth c) refl
  where
    go : (d : ℕ) → depth c ≡ d → depth c ≤ 6
    go zero e = omega (arith, e)
    go (suc j) e = let s = split_last c j e in let l = (small j s.0 s.2).0 in omega (arith, e, l)

parent_cut : (c : Cell ℕ) (j : ℕ) → depth c ≡ suc j → parent_cell_of nat_cmp c ≡ Some (cell_prefix j c)
parent_cut c j d =
    cond-false (depth c == 0) None (Some (cell_prefix (depth c - 1) c))
    (false_from_ne_true _ (λ s. let t : depth c ≡ 0 = eqb-true (depth c) 0 s in absurd (omega (arith, t, d))))
    ∙ ap (λ n. Some (cell_prefix n c)) (less (depth c) d)
  where
    less : (n : ℕ) → n ≡ suc j → n - 1 ≡ j
    less n e = omega (arith, e)

-- how far the line is read after so many turns
pub record IsOnWay (tree : Tree ℕ) (node at turns : ℕ) (line : List ℕ) : Type 0 where
  pub found : (p : Known) → map.get tree at ≡ Some p → (n : Known) × (map.get tree node ≡ Some n)
      × (out : Cell ℕ) × Shows n.cell p.cell out × (line ≡ line_of out) × (length out ≡ length p.cell)
  pub low : (n : Known) → map.get tree node ≡ Some n → IsSmall n.cell → (p : Known) × (map.get tree at ≡ Some p)
      × (depth p.cell + turns ≤ 6)

pub sets_out : (tree : Tree ℕ) (node : ℕ) → IsOnWay tree node node 0 (replicate 6 ANY)
sets_out tree node = record {
  found = λ p e. (
    p,
    e,
    replicate (length p.cell) None,
    shows_first p.cell (length p.cell) refl,
    sym (entries_none 6 (length p.cell)),
    length-replicate (length p.cell) None,
  );
  low = λ n e small. (n, e, omega (arith, small_depth n.cell small));
}

pub known : (tree : Tree ℕ) (k : ℕ) → IsSome (map.get tree k) → map.get tree k ≡ Some (record_at tree k)
known tree k t = go (map.get tree k) refl t
  where
    go : (o : Option Known) → map.get tree k ≡ o → IsSome o → map.get tree k ≡ Some (record_at tree k)
    go None e s = cc
    go (Some n) e s = cc

module _ (tree : Tree ℕ) (rooted : AreRooted tree) (node at turns : ℕ) (line : List ℕ)
    (was : IsOnWay tree node at turns line) where
  module _ (p : Known) (here : map.get tree at ≡ Some p) where
    pub read_all : last_label p.cell ≡ None → IsReadAs tree node (Some line)
    read_all none = go (was.found p here)
      where
        go : (n : Known) × (map.get tree node ≡ Some n) × (out : Cell ℕ) × Shows n.cell p.cell out × (line ≡ line_of out)
            × (length out ≡ length p.cell) → IsReadAs tree node (Some line)
        go (n, e, out, shows, is, long) =
            let whole : line ≡ line_of n.cell = is ∙ ap line_of (shows_all n.cell p.cell out shows none) in
            record {
              only = ap (λ o. option_map line_of (option_map (λ (x : Known). x.cell) o)) e ∙ ap (λ l. Some l) (sym whole);
              small = λ m f small.
                  ap (λ l. Some l) whole ∙ ap (λ (x : Known). Some (line_of x.cell)) (some_same (sym e ∙ f));
            }

    module _ (j v : ℕ) (label : last_label p.cell ≡ Some (j, v)) where
      ends : (depth p.cell ≡ suc j) × (slice_get p.cell j ≡ Some (Some v))
      ends = label_some p.cell j v label

      -- a small cell has this value
      value_small : (n : Known) → map.get tree node ≡ Some n → IsSmall n.cell → (j < 6) × (v < ANY)
      value_small n e small = go (was.found p here)
        where
          go : (m : Known) × (map.get tree node ≡ Some m) × (out : Cell ℕ) × Shows m.cell p.cell out
              × (line ≡ line_of out) × (length out ≡ length p.cell) → (j < 6) × (v < ANY)
          go (m, f, out, shows, is, long) =
              let value : slice_get m.cell j ≡ Some (Some v) = sym (get-cell_prefix j (depth p.cell) m.cell
              (omega (arith, ends.0))) ∙ ap (λ c. slice_get c j) (sym shows.front) ∙ ends.1 in
              small j v (subst (λ (x : Known). slice_get x.cell j ≡ Some (Some v)) (some_same (sym f ∙ e)) value)

      pub too_large : ((j < 6) × (v < ANY) → ⊥) → IsReadAs tree node None
      too_large large = record { only = tt; small = λ n e small. absurd (large (value_small n e small)) }

      above : parent_cell_of nat_cmp p.cell ≡ Some (cell_prefix j p.cell)
      above = parent_cut p.cell j ends.0

      pub no_parent : p.parent ≡ None → IsReadAs tree node None
      no_parent none =
          let bad : Some (cell_prefix j p.cell) ≡ None = sym above ∙ (rooted at p here).cut
          ∙ ap (option_and_then (cell_at tree)) none in
          absurd (cc bad)

      -- one turn more
      pub goes_up : (a : ℕ) → p.parent ≡ Some a → IsOnWay tree node a (turns + 1) (slice_set line j v)
      goes_up a up = record {
        found = λ q e. go (was.found p here) q (same q e);
        low = λ n e small. (
          parent.0,
          parent.1,
          let l = was.low n e small in
              omega (arith, lower l.0 l.1 l.2),
        );
      }
        where
          parent : (q : Known) × (map.get tree a ≡ Some q) × (q.cell ≡ cell_prefix j p.cell)
          parent = cell_record tree a (cell_prefix j p.cell) (sym (ap (option_and_then (cell_at tree)) up)
              ∙ sym (rooted at p here).cut ∙ above)

          same : (q : Known) → map.get tree a ≡ Some q → q.cell ≡ cell_prefix j p.cell
          same q e = ap (λ (x : Known). x.cell) (some_same (sym e ∙ parent.1)) ∙ parent.2

          lower : (q : Known) → map.get tree at ≡ Some q → depth q.cell + turns ≤ 6
              → depth parent.0.cell + (turns + 1) ≤ 6
          lower q e l =
              let d : depth q.cell ≡ depth p.cell = ap (λ (x : Known). depth x.cell) (some_same (sym e ∙ here)) in
              let m : depth parent.0.cell ≤ j = subst (λ c. depth c ≤ j) (sym parent.2) (depth-cell_prefix-le j p.cell) in
              omega (arith, l, d, m, ends.0)

          go : (n : Known) × (map.get tree node ≡ Some n) × (out : Cell ℕ) × Shows n.cell p.cell out × (line ≡ line_of out)
              × (length out ≡ length p.cell) → (q : Known) → q.cell ≡ cell_prefix j p.cell
              → (m : Known) × (map.get tree node ≡ Some m) × (new : Cell ℕ) × Shows m.cell q.cell new
              × (slice_set line j v ≡ line_of new) × (length new ≡ length q.cell)
          go (n, e, out, shows, is, long) q cut = (
            n,
            e,
            with_value out j v,
            subst (λ c. Shows n.cell c (with_value out j v)) (sym cut) (shows_more n.cell p.cell out j v shows label),
            ap (λ l. slice_set l j v) is
                ∙ sym (entries_set 6 out j v (omega (arith, long, slice_get_within p.cell j (Some v) ends.1))),
            length-set out j (Some v) ∙ long ∙ sym (length-cell_prefix j p.cell) ∙ ap length (sym cut),
          )
