-- A class stays as a row goes, where what some of its parts share has no new value but the row's own.
use Rattle.std.proofs.Common.{◌≡◌, ◌∙◌, ℕ, Bool, true, false, cond, Option, Some, None, List, [], ◌∷◌, ap, length, nat_cmp, refl, slice_get}
use Rattle.std.proofs.Common.{subst, sym, true≢false}
use Rattle.std.proofs.lemmas.Bool.{cond-false, cond-true}
use Rattle.std.specs.Ordering.{eq_by_cmp}
use Rattle.cube_defs.specs.Cell.{Cell, meet, with_value}
use Rattle.cube_defs.specs.Rows.{closure, covers}
use Rattle.cube_defs.specs.Tree.{Tree}
use Rattle.cube_laws.specs.Total.{join_cells, total}
use Rattle.cube_laws.proofs.CallerLemmas.{meet_great, closure_mono, closure_some, leq_entry, no_new, closure_length, closure_after}
use Rattle.cube_laws.proofs.CallerLemmas.{other_below, all-insert, closure_grows, closure_stays, has_same, leq_with_any, own_is_gone}
use Rattle.tree_laws.proofs.CallerLemmas.{some_same}
use Rattle.tree_search.specs.Found.{IsTreeOf}
use Rattle.batch_delete.specs.declared.parts.Rest.{Rest}
use Rattle.batch_delete.specs.Rests.{Deletion, SharesAtMost, IsTotal, rows_after, rows_before, source_before}
use Rattle.batch_delete.proofs.Labelled.{law}

module _ (d : Deletion) (u : Cell ℕ) (i v : ℕ) (any : slice_get u i ≡ Some None) (has : slice_get d.r.tuple i ≡ Some v)
    (below : covers (eq_by_cmp nat_cmp) u d.r ≡ true)
    (w : Cell ℕ) (closes : closure (eq_by_cmp nat_cmp) (rows_before d) (with_value u i v) ≡ Some w) where
  abbrev part : ℕ → Option (Cell ℕ)
  part x = cond (eq_by_cmp nat_cmp x v) (closure (eq_by_cmp nat_cmp) (rows_after d) w)
      (closure (eq_by_cmp nat_cmp) (rows_before d) (with_value u i x))

  -- each part is what a greater cell's rows share afterwards
  part_after : (x : ℕ) → part x ≡ closure (eq_by_cmp nat_cmp) (rows_after d) (with_value u i x)
  part_after x = go (eq_by_cmp nat_cmp x v) refl
    where
      go : (b : Bool) → eq_by_cmp nat_cmp x v ≡ b
          → part x ≡ closure (eq_by_cmp nat_cmp) (rows_after d) (with_value u i x)
      go true e =
          let same : x ≡ v = law.exact x v e in
          cond-true _ _ _ e ∙ sym (closure_after law d.xs d.r d.ys (with_value u i v) w closes)
          ∙ ap (λ x. closure (eq_by_cmp nat_cmp) (rows_after d) (with_value u i x)) (sym same)
      go false e = cond-false _ _ _ e
          ∙ closure_stays law d.xs d.r d.ys (with_value u i x)
          (other_below law d.xs d.r d.ys u i v any below (has_same law i v d.r has) x e)

  part_above : (x : ℕ) (c : Cell ℕ) → part x ≡ Some c → SharesAtMost d u c
  part_above x c e =
      let at : closure (eq_by_cmp nat_cmp) (rows_after d) (with_value u i x) ≡ Some c = sym (part_after x) ∙ e in
      let s = closure_some law (rows_after d) u (with_value u i x) c (leq_with_any law u i x any) at in
      (s.0, s.1, closure_mono law (rows_after d) u (with_value u i x) s.0 c (leq_with_any law u i x any) s.1 at)

  both_above : (c s : Cell ℕ) → SharesAtMost d u c → SharesAtMost d u s
      → SharesAtMost d u (meet (eq_by_cmp nat_cmp) c s)
  both_above c s a b =
      let same : b.0 ≡ a.0 = some_same (sym b.1 ∙ a.1) in
      (a.0, a.1, meet_great law a.0 c s a.2 (rw (← same) b.2))

  pub total_above : (vs : List ℕ) (s : Cell ℕ) → total (join_cells (eq_by_cmp nat_cmp)) None part vs ≡ Some s
      → SharesAtMost d u s
  total_above [] s e = cc
  total_above (x ∷ vs) s e
      = go (λ s. total_above vs s) (part x) refl (total (join_cells (eq_by_cmp nat_cmp)) None part vs) refl e
    where
      go : ((s : Cell ℕ) → total (join_cells (eq_by_cmp nat_cmp)) None part vs ≡ Some s → SharesAtMost d u s)
          → (o : Option (Cell ℕ)) → part x ≡ o → (p : Option (Cell ℕ))
          → total (join_cells (eq_by_cmp nat_cmp)) None part vs ≡ p → join_cells (eq_by_cmp nat_cmp) o p ≡ Some s
          → SharesAtMost d u s
      go more None a p b e = more s (b ∙ e)
      go more (Some c) a None b e = subst (SharesAtMost d u) (some_same e) (part_above x c a)
      go more (Some c) a (Some q) b e
          = rw (← (some_same e)) (both_above c q (part_above x c a) (more q b))

  pub rest_above : (vs : List ℕ) (rest : Rest) → IsTotal d u i v w vs (Some rest) → SharesAtMost d u rest.shared
  rest_above vs rest is = total_above vs rest.shared (sym is.cells)

-- a class stays where it gets no value
pub class_stays : (dims : ℕ) (tree : Tree ℕ) (d : Deletion) (h : IsTreeOf dims tree (source_before d)) (u s : Cell ℕ)
    → length u ≡ dims → covers (eq_by_cmp nat_cmp) u d.r ≡ true → closure (eq_by_cmp nat_cmp) (rows_before d) u ≡ Some u
    → SharesAtMost d u s → ((k v : ℕ) → slice_get u k ≡ Some None → slice_get s k ≡ Some (Some v)
    → slice_get d.r.tuple k ≡ Some v) → closure (eq_by_cmp nat_cmp) (rows_after d) u ≡ Some u
class_stays dims tree d h u s long below own above settled =
    let w = above.0 in
    let wide : length w ≡ dims
    = closure_length (eq_by_cmp nat_cmp) dims u w (rows_after d)
    (all-insert (λ row. length row.tuple ≡ dims) d.xs d.r d.ys h.wide).0 above.1 in
    let same : u ≡ w = no_new law u w (closure_grows law d.xs d.r d.ys u u w own above.1) (long ∙ sym wide)
    (λ k v any has.
    let there : slice_get s k ≡ Some (Some v) = leq_entry law k v w s above.2 has in
    true≢false (sym (has_same law k v d.r (settled k v any there))
    ∙ own_is_gone law d.xs d.r d.ys u w k v own any below above.1 has)) in
    above.1 ∙ ap (λ c. Some c) (sym same)
