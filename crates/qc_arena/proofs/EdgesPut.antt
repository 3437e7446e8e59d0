-- What is put into a list of edges, and what stays.
use Rattle.std.proofs.Common.{◌≡◌, ◌⊎◌, inl, inr, ℕ, Bool, true, false, cond, List, [], ◌∷◌, nat_eq, refl, ap, ◌∙◌, eqb-true}
use Rattle.std.proofs.lemmas.Bool.{and_parts}
use Rattle.cube_defs.specs.Tree.{Edge}
use Rattle.cube_laws.specs.Lists.{Among}
use Rattle.tree_laws.proofs.CallerLemmas.{HasLabelOf}
use Rattle.qc_arena.specs.Edges.{put_edge, same_label}
use Rattle.qc_arena.specs.RecordReaders.{label_lt}

-- what is put stands in the list, and each label stays
pub put_here : (e : Edge ℕ ℕ) (xs : List (Edge ℕ ℕ)) → Among e (put_edge e xs)
put_here e [] = inl refl
put_here e (x ∷ xs) = go (label_lt x e) (same_label x e) (put_here e xs)
  where
    go : (b d : Bool) → Among e (put_edge e xs) → Among e (cond b (x ∷ put_edge e xs) (cond d (e ∷ xs) (e ∷ x ∷ xs)))
    go true d m = inr m
    go false true m = inl refl
    go false false m = inl refl

pub put_stays : (e : Edge ℕ ℕ) (xs : List (Edge ℕ ℕ)) (y : Edge ℕ ℕ) → Among y xs → Among y (put_edge e xs)
    ⊎ HasLabelOf y e
put_stays e [] y m = absurd m
put_stays e (x ∷ xs) y m = go (label_lt x e) (same_label x e) refl (put_stays e xs y) m
  where
    later : (Among y (put_edge e xs) ⊎ HasLabelOf y e) → Among y (x ∷ put_edge e xs) ⊎ HasLabelOf y e
    later (inl m) = inl (inr m)
    later (inr h) = inr h

    go : (b d : Bool) → same_label x e ≡ d → (Among y xs → Among y (put_edge e xs) ⊎ HasLabelOf y e) → Among y (x ∷ xs)
        → Among y (cond b (x ∷ put_edge e xs) (cond d (e ∷ xs) (e ∷ x ∷ xs))) ⊎ HasLabelOf y e
    go true d s more (inl k) = inl (inl k)
    go true d s more (inr k) = later (more k)
    go false true s more (inl k) = let p = and_parts (nat_eq x.dim e.dim) (nat_eq x.value e.value) s in
        inr (record {
          dim = ap (λ z. z.dim) k ∙ eqb-true x.dim e.dim p.0;
          value = ap (λ z. z.value) k
              ∙ eqb-true x.value e.value p.1;
        })
    go false true s more (inr k) = inl (inr k)
    go false false s more (inl k) = inl (inr (inl k))
    go false false s more (inr k) = inl (inr (inr k))
