-- The trees of rows that come one by one.
use Rattle.std.proofs.Common.{◌≡◌, ℕ, ℤ, suc, ◌+◌, ◌<◌, true, All, Some, None, List, [], ◌∷◌, ◌++◌, is_some, length, append-nil}
use Rattle.std.proofs.Common.{length-append, nat_cmp, refl, sym, ap, subst, ◌∙◌, arith, true≢false}
use Rattle.std.specs.FinMap as map
use Rattle.std.specs.Option.{option_map}
use Rattle.cube_defs.specs.Cell.{Cell, cell_of}
use Rattle.cube_defs.specs.Rows.{Row}
use Rattle.cube_defs.specs.Tree.{Node, cell_at}
use Rattle.tree_search.specs.Found.{IsTreeOf}
use Rattle.qc_arena.specs.Map.{Arena, no_nodes}
use Rattle.batch_insert.specs.Planned.{IsSource}
use Rattle.batch_insert.specs.RowComes.{ForRow}
use Rattle.tree_tests.specs.Rows.{HasRows}
use Rattle.cube_laws.proofs.CallerLemmas.{none_some}

none_at : (k : ℕ) (c : Cell ℕ) → cell_at {A = ℕ} map.empty k ≡ Some c → ⊥
none_at k c h = none_some (sym (ap (option_map (λ (n : Node ℕ ℕ). n.cell)) (map.get-empty nat_cmp k)) ∙ h)

pub none_yet : (dims max : ℕ) → HasRows 0 (no_nodes dims max)
none_yet dims max = (
  record { measures = 1; rows = [] },
  record {
    wide = tt;
    canonical = record {
      each = λ k n h. absurd (none_some (sym (map.get-empty nat_cmp k) ∙ h));
      once = λ k l c h m. absurd (none_at k c h);
      all = λ c h. absurd (true≢false (sym h));
    };
  },
  refl,
  omega arith,
)

full_tuple : (t : Cell ℕ) → All (λ e. is_some e ≡ true) t → (vs : List ℕ) × (cell_of vs ≡ t)
full_tuple [] all = ([], refl)
full_tuple (None ∷ t) all = absurd (true≢false (sym (all 0 None (omega arith))))
full_tuple (Some v ∷ t) all = let r = full_tuple t (λ k d l. all (suc k) d (omega (arith, l))) in
    (v ∷ r.0, ap (λ c. Some v ∷ c) r.1)

pub source_is : (n : ℕ) (a b : Arena) → HasRows n a → n < 100 → b.now ≡ a.now → b.width ≡ a.width → IsSource 1 b
source_is n a b h few now width
    = (
      h.0,
      subst (λ w. IsTreeOf w b.now h.0) (sym width) (subst (λ m. IsTreeOf a.width m h.0) (sym now) h.1),
      h.2,
      omega (arith, h.3, few),
    )

pub one_more : (n : ℕ) (t : Cell ℕ) (x : ℤ) (a b c : Arena) → HasRows n a → All (λ e. is_some e ≡ true) t
    → b.now ≡ a.now → b.width ≡ a.width
    → ForRow t (x ∷ []) b (λ before row after. IsTreeOf b.width c.now
    (record { measures = length (x ∷ []); rows = after })) → (d : Arena) → d.now ≡ c.now → d.width ≡ b.width
    → HasRows (n + 1) d
one_more n t x a b c h full now width more d later wide =
    let vs = full_tuple t full in
    let row : Row ℕ = record { id = 0; tuple = vs.0; amounts = x ∷ [] } in
    let from : IsTreeOf b.width b.now h.0
    = subst (λ w. IsTreeOf w b.now h.0) (sym width) (subst (λ m. IsTreeOf a.width m h.0) (sym now) h.1) in
    let same : h.0 ≡ record { measures = length (x ∷ []); rows = h.0.rows ++ [] }
    = λ i. record { measures = h.2 i; rows = sym (append-nil h.0.rows) i } in
    let with = more h.0.rows row [] vs.1 refl (subst (IsTreeOf b.width b.now) same from) in (
      record { measures = 1; rows = h.0.rows ++ row ∷ [] },
      subst (λ w. IsTreeOf w d.now (record { measures = 1; rows = h.0.rows ++ row ∷ [] })) (sym wide)
          (subst (λ m. IsTreeOf b.width m (record { measures = 1; rows = h.0.rows ++ row ∷ [] })) (sym later) with),
      refl,
      omega (arith, h.3, length-append h.0.rows (row ∷ [])),
    )
