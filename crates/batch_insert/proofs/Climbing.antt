-- What a node and the tuple share, read on the way up.
use Rattle.std.proofs.Common.{◌≡◌, ◌≢◌, ℕ, All, List, [], ◌∷◌, is_some, nat_cmp, slice_index_or, suc, ◌+◌, ◌^◌, ◌≤◌, ◌<◌, Bool, true, false}
use Rattle.std.proofs.Common.{not, ◌&&◌, Option, Some, None, IsSome, length, nat_eq, replicate, slice_get, if◌then◌else◌, refl, sym, ap}
use Rattle.std.proofs.Common.{◌∙◌, true≢false, arith, eqb-true}
use Rattle.std.proofs.lemmas.Nat.{pow_pos}
use Rattle.std.proofs.lemmas.Bool.{false_from_ne_true}
use Rattle.std.proofs.Math.Logic.{∥∥₁_elim}
use Rattle.std.proofs.Props.{props}
use Rattle.std.specs.Prelude.{IfSome, IfNone}
use Rattle.std.specs.Cmp.{nat_cmp_total}
use Rattle.std.specs.FinMap as map
use Rattle.std.specs.Option.{option_map, option_and_then}
use Rattle.cube_defs.specs.Cell.{Cell, depth, cell_prefix, leq, mask, meet, upto}
use Rattle.cube_defs.specs.Tree.{Tree, cell_at}
use Rattle.std.specs.Ordering.{eq_by_cmp}
use Rattle.std.proofs.Math.Bool.{and-true}
use Rattle.cube_defs.specs.Cell as tuples
use Rattle.cube_defs.specs.Rows.{meet_after}
use Rattle.cube_laws.proofs.CallerLemmas.{nat_equality, meet_comm, meet_of_leq, meet_right, cell_prefix-leq, length-cell_prefix}
use Rattle.cube_laws.proofs.CallerLemmas.{length-meet, one_test}
use Rattle.cell_core.specs.declared.cell.NodeNo.{NodeNo}
use Rattle.qc_arena.specs.Map.{Arena}
use Rattle.qc_arena.specs.RecordReaders.{number, record_at}
use Rattle.tree_laws.specs.Labels.{target_after_row}
use Rattle.tree_laws.specs.Walk.{last_label}
use Rattle.tree_laws.proofs.CallerLemmas.{label_none, label_some, parent_is, depth-cell_prefix-le, get-cell_prefix, cell_prefix-meet}
use Rattle.tree_laws.proofs.CallerLemmas.{some_same, there}
use Rattle.tree_search.specs.Found.{IsTree}
use Rattle.tree_search.proofs.CallerLemmas as climbed
use Rattle.tree_search.proofs.CallerLemmas.{cell_of, cell_there, there_is}
use Rattle.batch_insert.specs.Masks.{Shares}
use Rattle.batch_insert.specs.Cases.{Case, IsChain, IsPrefix}
use Rattle.batch_insert.specs.Planned.{IsFound, IsOld, IsReady}
use Rattle.batch_insert.specs.Whole.{IsApart, IsNext}
use Rattle.batch_insert.proofs.Chains.{chain_some}
use Rattle.batch_insert.proofs.Naming.{entry_is}
use Rattle.batch_insert.proofs.Masks.{agrees, any_met, apart_at, bit_for, flat_met, last_leq, last_mask, mask_fits}

module _ (t : Cell ℕ) (a : Arena) (ready : IsReady a) (wide : length t ≡ a.width) where
  pub long_at : (k : ℕ) → IsSome (map.get a.now k) → length (record_at a.now k).cell ≡ length t
  long_at k h = ∥∥₁_elim ready.tree (hlevel props) (λ s. climbed.wide a.width a.now s.0 s.1 k h ∙ sym wide)

  -- what the nodes k and m share with t, where m is k's parent
  pub record IsAbove (k j v m : ℕ) : Type 0 where
    pub there : IsSome (map.get a.now m)
    pub common : mask (meet nat_eq (record_at a.now k).cell t) ≡ mask (meet nat_eq (record_at a.now m).cell t)
        + bit_for t j v
    pub below : leq nat_eq (record_at a.now k).cell t ≡ (agrees t j v && leq nat_eq (record_at a.now m).cell t)
    pub shallower : suc (depth (record_at a.now m).cell) ≤ depth (record_at a.now k).cell

  module _ (k j v : ℕ) (h : IsSome (map.get a.now k)) (e : last_label (record_at a.now k).cell ≡ Some (j, v)) where
    label : (depth (record_at a.now k).cell ≡ suc j) × (slice_get (record_at a.now k).cell j ≡ Some (Some v))
    label = label_some (record_at a.now k).cell j v e

    pub within : j < length t
    within = ∥∥₁_elim ready.tree (hlevel props) (λ s. let l = climbed.last_within a.width a.now s.0 s.1 k h j v e in
        omega (arith, l, wide))

    pub has_parent : (o : Option NodeNo) → option_map number o ≡ (record_at a.now k).parent → IsSome o
    has_parent o p = ∥∥₁_elim ready.tree (hlevel props) (λ s. climbed.has_parent a.width a.now s.0 s.1 k h j v e number o p)

    pub bit_within : bit_for t j v ≤ mask (meet nat_eq (record_at a.now k).cell t)
    bit_within = let e = last_mask (record_at a.now k).cell t j v label.0 label.1 (long_at k h) in omega (arith, e)

    pub above : (o : Option NodeNo) (x : NodeNo) → option_map number o ≡ (record_at a.now k).parent → o ≡ Some x
        → IsAbove k j v x.0
    above o x p q =
        let up : option_map (cell_at a.now) (record_at a.now k).parent
        ≡ Some (Some (cell_prefix j (record_at a.now k).cell))
        = ∥∥₁_elim ready.tree (hlevel props) (λ s. parent_is nat_cmp_total map.nat_cmp-IsAntisymmetric a.width
        s.0.measures s.0.rows s.1.wide a.now s.1.canonical k _ (there_is a.now k h) j label.0) in
        let is : cell_at a.now x.0 ≡ Some (cell_prefix j (record_at a.now k).cell)
        = some_same (sym (ap (λ y. option_map (cell_at a.now) (option_map number y)) q)
        ∙ ap (option_map (cell_at a.now)) p ∙ up) in
        let own : (record_at a.now x.0).cell ≡ cell_prefix j (record_at a.now k).cell
        = cell_of a.now x.0 _ is in
        record {
          there = there a.now x.0 _ is;
          common = last_mask (record_at a.now k).cell t j v label.0 label.1 (long_at k h)
              ∙ ap (λ c. mask (meet nat_eq c t) + bit_for t j v) (sym own);
          below = last_leq (record_at a.now k).cell t j v label.0 label.1 (long_at k h)
              ∙ ap (λ c. agrees t j v && leq nat_eq c t) (sym own);
          shallower = omega (arith, ap depth own, depth-cell_prefix-le j (record_at a.now k).cell, label.0);
        }

has_bit : (b : Bool) (j n : ℕ) → n ≡ (if b then 2 ^ j else 0) → not (nat_eq n 0) ≡ b
has_bit true j n e = ap not (false_from_ne_true (nat_eq n 0) (λ h. let z : n ≡ 0 = eqb-true n 0 h in
    let p = pow_pos j in omega (arith, z, e, p)))
has_bit false j n e = ap (λ x. not (nat_eq x 0)) e

regroup : (x y u v w : Bool) → x ≡ (y && v) → v ≡ (u && w) → x ≡ ((y && u) && w)
regroup x true u v w h e = h ∙ e
regroup x false u v w h e = h

-- one node up
module _ (t : Cell ℕ) (a : Arena) (ready : IsReady a) (wide : length t ≡ a.width) (few : length t ≤ 16)
    (k j v m n bit values : ℕ) (own : Bool) (up : IsAbove t a ready wide k j v m) (is : bit ≡ bit_for t j v) where
  pub common_on : values + mask (meet nat_eq (record_at a.now k).cell t) ≡ mask (meet nat_eq (record_at a.now n).cell t)
      → values + bit + mask (meet nat_eq (record_at a.now m).cell t) ≡ mask (meet nat_eq (record_at a.now n).cell t)
  common_on h = let c = up.common in omega (arith, c, h, is)

  pub below_on : leq nat_eq (record_at a.now n).cell t ≡ (own && leq nat_eq (record_at a.now k).cell t)
      → leq nat_eq (record_at a.now n).cell t ≡ ((own && not (nat_eq bit 0)) && leq nat_eq (record_at a.now m).cell t)
  below_on h = regroup _ own (not (nat_eq bit 0)) _ _ h
      (up.below ∙ ap (λ b. b && leq nat_eq (record_at a.now m).cell t) (sym (has_bit (agrees t j v) j bit is)))

-- what a node's record shares with t
record_shares : (t : Cell ℕ) (a : Arena) (k m : ℕ) (own : Bool) → Shares t a.now m own k
    → (mask (meet nat_eq (record_at a.now k).cell t) ≡ m) × (leq nat_eq (record_at a.now k).cell t ≡ own)
record_shares t a k m own s = let c = cell_of a.now k s.cell s.at in
    (ap (λ x. mask (meet nat_eq x t)) c ∙ s.common, ap (λ x. leq nat_eq x t) c ∙ s.below)

module _ (t : Cell ℕ) (a : Arena) (ready : IsReady a) (wide : length t ≡ a.width) (few : length t ≤ 16) where
  -- what is shared is a mask
  pub common_fits : (k : ℕ) → IsSome (map.get a.now k) → mask (meet nat_eq (record_at a.now k).cell t) < 65536
  common_fits k h = mask_fits _ _
      (length-meet nat_eq (record_at a.now k).cell t (long_at t a ready wide k h) ∙ long_at t a ready wide k h) few

  -- the walk ends at the root, and at the chain's node
  pub shares_root : (n k values : ℕ) (own : Bool) → IsSome (map.get a.now n) → IsSome (map.get a.now k)
      → last_label (record_at a.now k).cell ≡ None
      → values + mask (meet nat_eq (record_at a.now k).cell t) ≡ mask (meet nat_eq (record_at a.now n).cell t)
      → leq nat_eq (record_at a.now n).cell t ≡ (own && leq nat_eq (record_at a.now k).cell t)
      → Shares t a.now values own n
  shares_root n k values own there top e h b =
      let flat = flat_met (record_at a.now k).cell t (label_none (record_at a.now k).cell e)
      (long_at t a ready wide k top) in
      let z = flat.0 in
      record {
        cell = (record_at a.now n).cell;
        at = cell_there a.now n there;
        common = omega (arith, h, z);
        below = b ∙ ap (λ x. own && x) flat.1 ∙ and-true own;
      }

  pub shared_there : (o : Option NodeNo) (k : NodeNo) (m : ℕ) (own : Bool) → o ≡ Some k
      → IfSome o (λ x. Shares t a.now m own x.0) → (mask (meet nat_eq (record_at a.now k.0).cell t) ≡ m)
      × (leq nat_eq (record_at a.now k.0).cell t ≡ own)
  shared_there None k m own e h = cc
  shared_there _ k m own e h
      = record_shares t a k.0 m own (rw (← (some_same e)) h)

-- where a label leads
abbrev pub target : Cell ℕ → Tree ℕ → ℕ → Option NodeNo → Cell ℕ
target t tree i o = target_after_row nat_eq (option_and_then (λ (k : NodeNo). cell_at tree k.0) o) t i

module _ (t : Cell ℕ) (tree : Tree ℕ) (i m : ℕ) (own : Bool) where
  met_is : (o : Option NodeNo) (k : NodeNo) → o ≡ Some k → (s : Shares t tree m own k.0)
      → target_after_row nat_eq (option_and_then (λ k. cell_at tree k.0) o) t i ≡ meet nat_eq s.cell t
  met_is o k is s = ap (λ x. target_after_row nat_eq x t i)
      (ap (option_and_then (λ (k : NodeNo). cell_at tree k.0)) is ∙ s.at)

  pub target_mask : (o : Option NodeNo) (k : NodeNo) → o ≡ Some k → Shares t tree m own k.0
      → m ≡ mask (target_after_row nat_eq (option_and_then (λ k. cell_at tree k.0) o) t i)
  target_mask o k is s = sym s.common ∙ ap mask (sym (met_is o k is s))

  pub target_prefix : (o : Option NodeNo) → o ≡ None → m ≡ mask (upto t i)
      → m ≡ mask (target_after_row nat_eq (option_and_then (λ k. cell_at tree k.0) o) t i)
  target_prefix o is e = e
      ∙ ap (λ x. mask (target_after_row nat_eq (option_and_then (λ (k : NodeNo). cell_at tree k.0) x) t i)) (sym is)

  pub target_found : (o : Option NodeNo) → IfSome o (λ k. Shares t tree m own k.0) → IfNone o (own ≡ false) → own ≡ true
      → IsFound tree o (target_after_row nat_eq (option_and_then (λ k. cell_at tree k.0) o) t i)
  target_found None h n e = true≢false (sym e ∙ n)
  target_found (Some k) h n e
      = h.at ∙ ap (λ x. Some x) (sym (met_is (Some k) k refl h ∙ meet_of_leq nat_equality h.cell t (h.below ∙ e)))

  pub target_apart : (o : Option NodeNo) → IfSome o (λ k. Shares t tree m own k.0) → own ≡ false → IsApart t tree o
  target_apart None h e = tt
  target_apart _ h e = (h.cell, h.at, rw one_test (h.below ∙ e))

  pub target_below : (o : Option NodeNo) → IfSome o (λ k. Shares t tree m own k.0)
      → leq nat_eq (target_after_row nat_eq (option_and_then (λ k. cell_at tree k.0) o) t i) t ≡ true
  target_below None h = cell_prefix-leq nat_equality (suc i) t
  target_below (Some k) h = ap (λ x. leq nat_eq x t) (met_is (Some k) k refl h) ∙ meet_right nat_equality h.cell t

pub target_long : (t : Cell ℕ) (a : Arena) (ready : IsReady a) (wide : length t ≡ a.width) (i m : ℕ) (own : Bool)
    (o : Option NodeNo) → IfSome o (λ k. Shares t a.now m own k.0)
    → length (target_after_row nat_eq (option_and_then (λ k. cell_at a.now k.0) o) t i) ≡ length t
target_long t a ready wide i m own None h = length-cell_prefix _ t
target_long t a ready wide i m own (Some k) h =
    let l : length h.cell ≡ length t = ap length (sym (cell_of a.now k.0 h.cell h.at))
    ∙ long_at t a ready wide k.0 (there a.now k.0 h.cell h.at) in
    ap length (met_is t a.now i m own _ k refl h) ∙ length-meet nat_eq h.cell t l ∙ l

pub target_old : (t : Cell ℕ) (a : Arena) (ready : IsReady a) (wide : length t ≡ a.width) (m : ℕ) (own : Bool)
    (o : Option NodeNo) → IfSome o (λ k. Shares t a.now m own k.0) → own ≡ true → IfSome o (λ k. IsOld t a.now m k.0)
target_old t a ready wide m own None h e = tt
target_old t a ready wide m own (Some k) h e = record {
  cell = h.cell;
  at = h.at;
  long = ap length (sym (cell_of a.now k.0 h.cell h.at)) ∙ long_at t a ready wide k.0 (there a.now k.0 h.cell h.at);
  below = h.below ∙ e;
  dims = ap mask (sym (meet_of_leq nat_equality h.cell t (h.below ∙ e))) ∙ h.common;
}

-- the next prefix of the old closure has another value than t
pub shares_moved : {t : Cell ℕ} {a : Arena} (c : Case t a) (p : Cell ℕ) (i m v w : ℕ)
    (k n : NodeNo) → mask p ≡ m → slice_index_or t i None ≡ Some v → w ≢ v → IsChain c p i (Some k)
    → IsNext c p i (Some (w, n)) → IsPrefix c p (suc i) → Shares t a.now m false n.0
shares_moved {t = t} c p i m v w k n masked at o leads next front =
    let s = chain_some c p i k leads in
    let x = next s.0 s.1 in
    let met : cell_prefix (suc i) (meet (eq_by_cmp nat_cmp) t s.0) ≡ p
    = ap (λ y. cell_prefix (suc i) (meet_after (eq_by_cmp nat_cmp) t y)) (sym s.1) ∙ front in
    let turned : meet nat_eq (cell_prefix (suc i) s.0) t ≡ p
    = sym (cell_prefix-meet nat_equality _ s.0 t) ∙ ap (cell_prefix (suc i)) (meet_comm nat_equality s.0 t)
    ∙ ap (λ eq. cell_prefix (suc i) (meet eq t s.0)) (sym one_test) ∙ met in
    record {
      cell = cell_prefix (suc i) s.0;
      at = x.1;
      common = ap mask turned ∙ masked;
      below = apart_at (cell_prefix (suc i) s.0) t i v w (get-cell_prefix i _ s.0 (omega arith) ∙ x.0)
          (entry_is t i v at) o;
    }

-- a tree of some rows is one to which a row comes
values : Cell ℕ → List ℕ
values [] = []
values (None ∷ t) = 0 ∷ values t
values (Some v ∷ t) = v ∷ values t

values_are : (t : Cell ℕ) → All (λ e. is_some e ≡ true) t → tuples.cell_of (values t) ≡ t
unfolding values
values_are [] full = refl
values_are (None ∷ t) full = absurd (true≢false (sym (full 0 None (omega arith))))
values_are (Some v ∷ t) full = ap (λ x. Some v ∷ x) (values_are t (λ j d k. full (suc j) d (omega arith)))

pub some_case : (t : Cell ℕ) (a : Arena) → length t ≡ a.width → All (λ e. is_some e ≡ true) t → IsTree a.width a.now → Case t a
some_case t a wide full tree
    = record {
      measures = tree.0.measures;
      xs = [];
      row = record { id = 0; tuple = values t; amounts = [] };
      ys = tree.0.rows;
      tuple = values_are t full;
      wide = wide;
      from = tree.1;
    }

-- so the next prefix has another value than t, whatever the rows are
pub shares_next : (t : Cell ℕ) (a : Arena) (wide : length t ≡ a.width) → All (λ e. is_some e ≡ true) t → IsReady a
    → (p : Cell ℕ) (i m v w : ℕ) (k n : NodeNo) → mask p ≡ m → slice_index_or t i None ≡ Some v → w ≢ v
    → ((c : Case t a) → IsChain c p i (Some k)) → ((c : Case t a) → IsNext c p i (Some (w, n)))
    → ((c : Case t a) → IsPrefix c p (suc i)) → Shares t a.now m false n.0
shares_next t a wide full ready p i m v w k n masked at o leads next front =
    let is : IsSome (map.get a.now n.0) × (mask (meet nat_eq (record_at a.now n.0).cell t) ≡ m)
    × (leq nat_eq (record_at a.now n.0).cell t ≡ false) = ∥∥₁_elim ready.tree (hlevel props) (λ s.
    let c = some_case t a wide full s in
    let shares = shares_moved c p i m v w k n masked at o (leads c) (next c) (front c) in
    let found = record_shares t a n.0 m false shares in
    (there a.now n.0 shares.cell shares.at, found.0, found.1)) in
    record { cell = (record_at a.now n.0).cell; at = cell_there a.now n.0 is.0; common = is.1; below = is.2 }

-- the root
pub root_shares : (t : Cell ℕ) (a : Arena) (wide : length t ≡ a.width) (o : Option NodeNo) (own : Bool)
    → IfSome o (λ k. cell_at a.now k.0 ≡ Some (replicate a.width None)) → own ≡ is_some o
    → IfSome o (λ k. Shares t a.now 0 own k.0)
root_shares t a wide None own h e = tt
root_shares t a wide _ own h e =
    let r = any_met a.width t (sym wide) in
    record { cell = replicate a.width None; at = h; common = r.0; below = r.1 ∙ sym e }
