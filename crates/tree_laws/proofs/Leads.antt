-- How a row that comes changes where labels lead.
use Rattle.std.proofs.Common.{◌≡◌, ℕ, ◌≤◌, ◌<◌, Bool, true, false, ◌&&◌, cond, Option, Some, None, List, [], ◌∷◌, ◌++◌, length, slice_get}
use Rattle.std.proofs.Common.{◌↔◌, ◌≢◌, refl, sym, ap, ap₂, ◌∙◌, suc, arith}
use Rattle.std.proofs.lemmas.Bool.{cond-true, cond-false, false_from_ne_true}
use Rattle.std.specs.List.{AllByRecursion}
use Rattle.std.specs.Option.{option_map}
use Rattle.cube_defs.specs.Cell.{Cell, leq, cell_of, depth, cell_prefix, upto, with_value}
use Rattle.cube_defs.specs.Rows.{Row, covers, closure, meet_after, meet_all}
use Rattle.cube_laws.proofs.CallerLemmas.{filter_same, IsEquality, leq_antisymm, meet_comm, cell_prefix-leq, cell_prefix_mono}
use Rattle.cube_laws.proofs.CallerLemmas.{closure-cells, closure_covers, closure_some, closure_mono, closure_idem, leq-closure}
use Rattle.cube_laws.proofs.CallerLemmas.{closure-insert, covered-insert, closure_after, one_value, one_value-leq, slice_get-cell_of}
use Rattle.cube_laws.specs.Tuples.{cells_of}
use Rattle.tree_laws.proofs.Lists.{some_same}
use Rattle.tree_laws.specs.Labels.{target_of_label, target_after_row}
use Rattle.tree_laws.proofs.Prefixes.{depth-cell_prefix-le, depth-with_value, cell_prefix-beyond, with_value-leq, cell_prefix-meet}

module _ {A : Type 0} {eq : A → A → Bool} (law : IsEquality eq) where
  -- between a cell and its closure all have that closure
  pub closure_between : (rows : List (Row A)) (p q u : Cell A) → closure eq rows p ≡ Some u → leq eq p q ≡ true
      → leq eq q u ≡ true → closure eq rows q ≡ Some u
  closure_between rows p q u e h k = go (closure_some law rows q u u k (closure_idem law rows p u e))
    where
      go : (w : Cell A) × (closure eq rows q ≡ Some w) → closure eq rows q ≡ Some u
      go (w, is) = is ∙ ap (λ x. Some x)
          (leq_antisymm law w u (closure_mono law rows q u w u k is (closure_idem law rows p u e))
          (closure_mono law rows p q u w h e is))

  -- a value leads from both to the same, where both have one closure
  pub closure_with : (rows : List (Row A)) (p q u : Cell A) (i : ℕ) (v : A) → closure eq rows p ≡ Some u
      → closure eq rows q ≡ Some u
      → depth p ≤ i → depth q ≤ i → i < length p → i < length q
      → closure eq rows (with_value p i v) ≡ closure eq rows (with_value q i v)
  closure_with rows p q u i v e f h k l m =
      closure-cells eq rows (with_value p i v)
      ∙ ap (meet_all eq) (filter_same (leq eq (with_value p i v)) (leq eq (with_value q i v)) (cells_of rows)
      (both (cells_of rows) (closure_covers law rows p u e) (closure_covers law rows q u f)))
      ∙ sym (closure-cells eq rows (with_value q i v))
    where
      both : (cs : List (Cell A)) → AllByRecursion (λ d. leq eq p d ≡ leq eq u d) cs
          → AllByRecursion (λ d. leq eq q d ≡ leq eq u d) cs
          → AllByRecursion (λ d. leq eq (with_value p i v) d ≡ leq eq (with_value q i v) d) cs
      both [] a b = tt
      both (d ∷ cs) a b = (
        with_value-leq law p d i v h l ∙ ap (λ x. x && leq eq (one_value i v) d) (a.0 ∙ sym b.0)
            ∙ sym (with_value-leq law q d i v k m),
        both cs a.1 b.1,
      )

  pub leq-chain : (rows : List (Row A)) (p u : Cell A) (i : ℕ) → closure eq rows p ≡ Some u → depth p ≤ i
      → leq eq p (cell_prefix i u) ≡ true
  leq-chain rows p u i e h = ap (λ x. leq eq x (cell_prefix i u)) (sym (cell_prefix-beyond i p h))
      ∙ cell_prefix_mono law i p u (leq-closure law rows p u e)

  -- each label of p in the dimension i is one of the chain node, which is p's closure cut before i
  pub lead_chain : (rows : List (Row A)) (p u : Cell A) (i : ℕ) (v : A) → closure eq rows p ≡ Some u → depth p ≤ i
      → i < length p → i < length (cell_prefix i u)
      → target_of_label eq rows p i v ≡ target_of_label eq rows (cell_prefix i u) i v
  lead_chain rows p u i v e h l m =
      ap (option_map (λ w. upto w i))
      (closure_with rows p (cell_prefix i u) u i v e
      (closure_between rows p (cell_prefix i u) u e (leq-chain rows p u i e h) (cell_prefix-leq law i u)) h
      (depth-cell_prefix-le i u) l m)

  pub upto-meet_after : (o : Option (Cell A)) (t : Cell A) (i : ℕ)
      → upto (meet_after eq t o) i ≡ target_after_row eq (option_map (λ w. upto w i) o) t i
  upto-meet_after None t i = refl
  upto-meet_after (Some w) t i = ap (λ x. upto x i) (meet_comm law t w) ∙ cell_prefix-meet law _ w t

  covers_with : (p : Cell A) (r : Row A) (i : ℕ) (v : A) → covers eq p r ≡ true → depth p ≤ i → i < length p
      → covers eq (with_value p i v) r ≡ leq eq (one_value i v) (cell_of r.tuple)
  covers_with p r i v c h l = with_value-leq law p (cell_of r.tuple) i v h l
      ∙ ap (λ x. x && leq eq (one_value i v) (cell_of r.tuple)) c

  -- a label with another value than the row's leads where it led; one with its own leads to what both share
  pub lead-insert : (xs : List (Row A)) (r : Row A) (ys : List (Row A)) (p : Cell A) (i : ℕ) (v : A)
      → covers eq p r ≡ true → depth p ≤ i → i < length p
      → target_of_label eq (xs ++ r ∷ ys) p i v ≡ cond (leq eq (one_value i v) (cell_of r.tuple))
      (Some (target_after_row eq (target_of_label eq (xs ++ ys) p i v) (cell_of r.tuple) i))
      (target_of_label eq (xs ++ ys) p i v)
  lead-insert xs r ys p i v c h l =
      ap (option_map (λ w. upto w i)) (closure-insert law xs r ys (with_value p i v)
      ∙ ap (λ b. cond b (Some (meet_after eq (cell_of r.tuple) (closure eq (xs ++ ys) (with_value p i v))))
      (closure eq (xs ++ ys) (with_value p i v))) (covers_with p r i v c h l))
      ∙ go (leq eq (one_value i v) (cell_of r.tuple)) (closure eq (xs ++ ys) (with_value p i v))
    where
      go : (b : Bool) (o : Option (Cell A))
          → option_map (λ w. upto w i) (cond b (Some (meet_after eq (cell_of r.tuple) o)) o)
          ≡ cond b (Some (target_after_row eq (option_map (λ w. upto w i) o) (cell_of r.tuple) i))
          (option_map (λ w. upto w i) o)
      go true o = ap (λ x. Some x) (upto-meet_after o (cell_of r.tuple) i)
      go false o = refl

  -- the two cases
  own_value : (r : Row A) (i : ℕ) (v : A) → (leq eq (one_value i v) (cell_of r.tuple) ≡ true)
      ↔ (slice_get r.tuple i ≡ Some v)
  own_value r i v = let a = one_value-leq law i v (cell_of r.tuple) in let b = slice_get-cell_of r.tuple i v in
      (λ h. b.0 (a.0 h), λ h. a.1 (b.1 h))

  pub lead_other : (xs : List (Row A)) (r : Row A) (ys : List (Row A)) (p : Cell A) (i : ℕ) (v : A)
      → covers eq p r ≡ true → depth p ≤ i → i < length p → slice_get r.tuple i ≢ Some v
      → target_of_label eq (xs ++ r ∷ ys) p i v ≡ target_of_label eq (xs ++ ys) p i v
  lead_other xs r ys p i v c h l o = lead-insert xs r ys p i v c h l
      ∙ cond-false _ _ _ (false_from_ne_true _ (λ k. o ((own_value r i v).0 k)))

  pub lead_own : (xs : List (Row A)) (r : Row A) (ys : List (Row A)) (p : Cell A) (i : ℕ) (v : A) → covers eq p r ≡ true
      → depth p ≤ i → i < length p → slice_get r.tuple i ≡ Some v
      → target_of_label eq (xs ++ r ∷ ys) p i v
      ≡ Some (target_after_row eq (target_of_label eq (xs ++ ys) p i v) (cell_of r.tuple) i)
  lead_own xs r ys p i v c h l o = lead-insert xs r ys p i v c h l ∙ cond-true _ _ _ ((own_value r i v).1 o)

  pub led_from : (o : Option (Cell A)) (i : ℕ) (c : Cell A) → option_map (λ w. upto w i) o ≡ Some c → (w : Cell A)
      × (o ≡ Some w) × (upto w i ≡ c)
  led_from None i c h = cc
  led_from (Some w) i c h = (w, refl, some_same h)

  -- after a row has gone, where the old target's closure is now
  pub lead_less : (xs : List (Row A)) (r : Row A) (ys : List (Row A)) (p c : Cell A) (i : ℕ) (v : A) → depth p ≤ i
      → i < length p → target_of_label eq (xs ++ r ∷ ys) p i v ≡ Some c
      → target_of_label eq (xs ++ ys) p i v ≡ option_map (λ u. upto u i) (closure eq (xs ++ ys) c)
  lead_less xs r ys p c i v d l h =
      let f : (w : Cell A) × (closure eq (xs ++ r ∷ ys) (with_value p i v) ≡ Some w) × (upto w i ≡ c)
      = led_from (closure eq (xs ++ r ∷ ys) (with_value p i v)) i c h in
      let short : cell_prefix (suc i) (with_value p i v) ≡ with_value p i v
      = cell_prefix-beyond (suc i) (with_value p i v) (omega (arith, depth-with_value p i v d l)) in
      let up : leq eq (with_value p i v) c ≡ true = ap₂ (λ x y. leq eq x y) (sym short) (sym f.2)
      ∙ cell_prefix_mono law (suc i) (with_value p i v) f.0
      (leq-closure law (xs ++ r ∷ ys) (with_value p i v) f.0 f.1) in
      let down : leq eq c f.0 ≡ true = ap (λ x. leq eq x f.0) (sym f.2) ∙ cell_prefix-leq law (suc i) f.0 in
      let own : closure eq (xs ++ r ∷ ys) c ≡ Some f.0
      = closure_between (xs ++ r ∷ ys) (with_value p i v) c f.0 f.1 up down in
      ap (option_map (λ u. upto u i)) (closure_after law xs r ys (with_value p i v) f.0 f.1
      ∙ sym (closure_after law xs r ys c f.0 own))

  pub lead_none : (xs : List (Row A)) (r : Row A) (ys : List (Row A)) (p : Cell A) (i : ℕ) (v : A)
      → target_of_label eq (xs ++ r ∷ ys) p i v ≡ None → target_of_label eq (xs ++ ys) p i v ≡ None
  lead_none xs r ys p i v h = go (closure eq (xs ++ ys) (with_value p i v)) refl
    where
      go : (o : Option (Cell A)) → closure eq (xs ++ ys) (with_value p i v) ≡ o
          → option_map (λ u. upto u i) (closure eq (xs ++ ys) (with_value p i v)) ≡ None
      go None e = ap (option_map (λ u. upto u i)) e
      go (Some w) e =
          let b : (u : Cell A) × (closure eq (xs ++ r ∷ ys) (with_value p i v) ≡ Some u)
          = covered-insert law xs r ys (with_value p i v) w e in
          let bad : None ≡ Some (upto b.0 i) = sym h ∙ ap (option_map (λ u. upto u i)) b.1 in
          cc
