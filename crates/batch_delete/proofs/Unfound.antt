-- A label whose search finds no node adds no rows to the rest.
use Rattle.std.proofs.Common.{◌≡◌, ◌∙◌, ℕ, Bool, true, false, not, Option, Some, None, List, [], ◌∷◌, ◌++◌, ap, nat_eq}
use Rattle.std.proofs.Common.{length, length-set, refl, subst, sym, ◌&&◌}
use Rattle.std.specs.List.{cons_option}
use Rattle.std.proofs.lemmas.Bool.{cond-false, cond-true}
use Rattle.std.proofs.lemmas.List.{append-nil}
use Rattle.std.proofs.Math.Bool.{and-false}
use Rattle.cube_defs.specs.Cell.{Cell, with_value}
use Rattle.cube_defs.specs.Tree.{Edge, Tree}
use Rattle.cube_laws.proofs.CallerLemmas.{eq_cmp}
use Rattle.tree_search.specs.Found.{IsNumberOfCell, IsTreeOf, closure_in}
use Rattle.batch_delete.specs.declared.parts.Rest.{Rest}
use Rattle.batch_delete.specs.Rests.{Deletion, IsTotal, other_values, source_before}
use Rattle.batch_delete.proofs.Resting.{none_rest}
use Rattle.batch_delete.proofs.Totalled.{nothing_more}

pub unfound_label : (dims : ℕ) (nodes : Tree ℕ) (d : Deletion) → IsTreeOf dims nodes (source_before d)
    → (u : Cell ℕ) → length u ≡ dims → (i v : ℕ) (w : Cell ℕ) (vs : List ℕ) (x : Edge ℕ ℕ)
    → nat_eq x.dim i ≡ true → IsNumberOfCell nodes None (closure_in (source_before d) (with_value u i x.value))
    → (rest : Option Rest) → IsTotal d u i v w vs rest → IsTotal d u i v w (vs ++ other_values i v (x ∷ [])) rest
unfound_label dims nodes d tree u long i v w vs x here none rest had = go (nat_eq x.value v) refl
  where
    go : (b : Bool) → nat_eq x.value v ≡ b → IsTotal d u i v w (vs ++ other_values i v (x ∷ [])) rest
    go true e =
        let tested : (nat_eq x.dim i && not (nat_eq x.value v)) ≡ false
        = ap (λ b. nat_eq x.dim i && not b) e ∙ and-false (nat_eq x.dim i) in
        subst (λ (l : List ℕ). IsTotal d u i v w l rest)
        (sym (ap (λ (o : Option ℕ). vs ++ cons_option o []) (cond-false _ (Some x.value) None tested) ∙ append-nil vs)) had
    go false e =
        let tested : (nat_eq x.dim i && not (nat_eq x.value v)) ≡ true
        = ap (λ b. nat_eq x.dim i && not b) e ∙ ap (λ b. b && true) here in
        rw (ap (λ (o : Option ℕ). vs ++ cons_option o []) (cond-true _ (Some x.value) None tested))
        (nothing_more d u i v w vs rest had x.value (eq_cmp x.value v ∙ e)
        (none_rest dims nodes d tree _ (length-set u i (Some x.value) ∙ long) none))
