-- Maps of records, as one record comes or changes.
use Rattle.std.proofs.Common.{◌≡◌, ◌≢◌, ℕ, suc, ◌<◌, true, cond, Some, None, is_some, List, [], ◌∷◌, ◌++◌, nat_eq, refl, sym, ap, ◌∙◌}
use Rattle.std.proofs.Common.{arith, inl, inr, ◌⊎◌}
use Rattle.std.proofs.lemmas.Bool.Decides.{eqb_tells}
use Rattle.std.proofs.lemmas.Bool.{cond-true, cond-false}
use Rattle.std.specs.Cmp.{nat_cmp_total}
use Rattle.std.specs.List.{AllByRecursion}
use Rattle.std.specs.FinMap as map
use Rattle.cube_defs.specs.Tree.{Edge, Tree}
use Rattle.qc_arena.specs.Map.{Known}
use Rattle.qc_arena.specs.RecordReaders.{label_lt}
use Rattle.qc_arena.specs.Edges.{put_edge}
use Rattle.build_trace.proofs.CallerLemmas.{IsPut}
use Rattle.cube_laws.proofs.CallerLemmas.{eq_cmp}

-- what is said at each number
pub put_at : (t t' : Tree ℕ) (k : ℕ) (n : Known) → map.get t' k ≡ Some n
    → ((q : ℕ) → q ≢ k → map.get t' q ≡ map.get t q) → IsPut (λ q. map.get t q) k n (λ q. map.get t' q)
put_at t t' k n here others q = elim (eqb_tells q k) [
  | inl e ↦ ap (map.get t') e.1 ∙ here ∙ sym (cond-true (nat_eq q k) _ _ e.0)
  | inr e ↦ others q e.1 ∙ sym (cond-false (nat_eq q k) _ _ e.0)
]

inserted : (t t' : Tree ℕ) (k : ℕ) (n : Known) → IsPut (λ q. map.get t q) k n (λ q. map.get t' q)
    → t' ≡ map.insert t k n
inserted t t' k n put = map.same_map nat_cmp_total map.nat_cmp-IsAntisymmetric t' (map.insert t k n) (λ q.
    put q ∙ sym (map.get-insert nat_cmp_total t k n q ∙ ap (λ b. cond b (Some n) (map.get t q)) (eq_cmp q k)))

-- one record more
pub len_more : (t t' : Tree ℕ) (k : ℕ) (n : Known) → IsPut (λ q. map.get t q) k n (λ q. map.get t' q)
    → map.get t k ≡ None → map.len t' ≡ suc (map.len t)
len_more t t' k n put free =
    let e = ap (λ (m : Tree ℕ). map.len m) (inserted t t' k n put) ∙ map.len-insert nat_cmp_total t k n
    ∙ cond-false _ _ _ (ap is_some free) in
    omega arith

-- as many records as before
pub len_same : (t t' : Tree ℕ) (k : ℕ) (n m : Known) → IsPut (λ q. map.get t q) k n (λ q. map.get t' q)
    → map.get t k ≡ Some m → map.len t' ≡ map.len t
len_same t t' k n m put was = ap (λ (m : Tree ℕ). map.len m) (inserted t t' k n put)
    ∙ map.len-insert nat_cmp_total t k n ∙ cond-true _ _ _ (ap is_some was)

before : (e f : Edge ℕ ℕ) → (e.dim < f.dim) ⊎ ((e.dim ≡ f.dim) × (e.value < f.value)) → label_lt e f ≡ true
before e f h = grind arith

-- an edge that comes after all others is put last
pub put_edge-last : (e : Edge ℕ ℕ) (es : List (Edge ℕ ℕ))
    → AllByRecursion (λ x. (x.dim < e.dim) ⊎ ((x.dim ≡ e.dim) × (x.value < e.value))) es → put_edge e es ≡ es ++ e ∷ []
put_edge-last e [] h = refl
put_edge-last e (x ∷ es) h = cond-true (label_lt x e) _ _ (before x e h.0) ∙ ap (λ xs. x ∷ xs) (put_edge-last e es h.1)
