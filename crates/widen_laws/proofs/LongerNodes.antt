-- Each node of rows with one value more is an old node with Any, or an old class with the value.
use Rattle.std.proofs.Common.{◌≡◌, ◌⊎◌, inl, inr, ℕ, zero, suc, Bool, true, false, cond, List, [], ◌∷◌, ◌++◌, Option, Some, None, IfSome}
use Rattle.std.proofs.Common.{length, map, refl, ap, ap₂, sym, ◌∙◌, subst, arith, length-append, true≢false}
use Rattle.std.specs.Prelude.{◌&&◌}
use Rattle.std.specs.Option.{option_eq, option_map}
use Rattle.cube_defs.specs.Cell.{Cell, cell_eq, cell_prefix, cell_of, depth, entry_leq, leq}
use Rattle.cube_defs.specs.Rows.{Row, cov, covers, is_class, is_node, meet_all}
use Rattle.cube_laws.proofs.CallerLemmas.{IsEquality, length-cell_prefix, length-cell_of, node_closed}
use Rattle.std.proofs.lemmas.List.{map-append}
use Rattle.widen_laws.specs.Widened.{all_longer, and_any, and_value, longer}
use Rattle.widen_laws.proofs.LongerCells.{leq-longer}
use Rattle.widen_laws.proofs.LongerRows.{HaveWidth, closure_wide, node-any, node-value}

-- a cell's last entry, and the others
split_last : {A : Type 0} (c : Cell A) (n : ℕ) → length c ≡ suc n → (p : Cell A) × (e : Option A) × (c ≡ p ++ e ∷ [])
    × (length p ≡ n)
split_last [] n h = absurd (omega arith)
split_last (e ∷ []) zero h = ([], e, refl, refl)
split_last (e ∷ []) (suc n) h = absurd (omega arith)
split_last (e ∷ f ∷ c) zero h = absurd (omega arith)
split_last (e ∷ f ∷ c) (suc n) h = let r = split_last (f ∷ c) n (omega arith) in
    (e ∷ r.0, r.1, ap (λ l. e ∷ l) r.2, ap suc r.3)

not_both : (a : Bool) → (a && false) ≡ false
not_both true = refl
not_both false = refl

module _ {A : Type 0} {eq : A → A → Bool} (equality : IsEquality eq) (v : A) where
  wide-longer : (n : ℕ) (rows : List (Row A)) → HaveWidth n rows → HaveWidth (suc n) (all_longer v rows)
  wide-longer n [] wide = tt
  wide-longer n (row ∷ rows) wide = (omega (arith, length-append row.tuple (v ∷ []), wide.0), wide-longer n rows wide.1)

  pub node_length : (m : ℕ) (rows : List (Row A)) (c : Cell A) → HaveWidth m rows → is_node eq rows c ≡ true
      → length c ≡ m
  node_length m rows c wide h =
      let r = node_closed equality rows c h in
      ap length (sym r.2) ∙ length-cell_prefix (depth c) r.0
      ∙ subst (λ (o : Option (Cell A)). IfSome o (λ u. length u ≡ m)) r.1 (closure_wide equality v m rows c wide)

  -- no row has another value in the new dimension
  none_covered : (n : ℕ) (rows : List (Row A)) (p : Cell A) (e : Option A) → entry_leq eq e (Some v) ≡ false
      → HaveWidth n rows → length p ≡ n → cov eq (all_longer v rows) (p ++ e ∷ []) ≡ []
  none_covered n [] p e other wide h = refl
  none_covered n (row ∷ rows) p e other wide h =
      ap₂ (λ (b : Bool) (l : List (Row A)). cond b (longer v row ∷ l) l) out (none_covered n rows p e other wide.1 h)
    where
      out : covers eq (p ++ e ∷ []) (longer v row) ≡ false
      out =
          ap (leq eq (p ++ e ∷ [])) (map-append (λ x. Some x) row.tuple (v ∷ []))
          ∙ leq-longer eq p (cell_of row.tuple) e (Some v) (h ∙ sym wide.0 ∙ sym (length-cell_of row.tuple))
          ∙ ap (λ b. leq eq p (cell_of row.tuple) && b) other ∙ not_both (leq eq p (cell_of row.tuple))

  no_node : (n : ℕ) (rows : List (Row A)) (p : Cell A) (w : A) → eq w v ≡ false → HaveWidth n rows → length p ≡ n
      → is_node eq (all_longer v rows) (p ++ Some w ∷ []) ≡ false
  no_node n rows p w other wide h =
      ap (λ (l : List (Row A)). option_eq (cell_eq eq)
      (option_map (cell_prefix (depth (p ++ Some w ∷ []))) (meet_all eq (map (λ row. cell_of row.tuple) l)))
      (Some (p ++ Some w ∷ []))) (none_covered n rows p (Some w) other wide h)

  pub each-node : (n : ℕ) (rows : List (Row A)) (c : Cell A) → HaveWidth n rows
      → is_node eq (all_longer v rows) c ≡ true
      → (p : Cell A) × (length p ≡ n)
      × (((c ≡ and_any p) × (is_node eq rows p ≡ true)) ⊎ ((c ≡ and_value v p) × (is_class eq rows p ≡ true)))
  each-node n rows c wide h =
      let r = split_last c n (node_length (suc n) (all_longer v rows) c (wide-longer n rows wide) h) in
      (r.0, r.3, by r.0 r.1 r.2 (subst (λ (d : Cell A). is_node eq (all_longer v rows) d ≡ true) r.2 h) r.3)
    where
      by : (p : Cell A) (e : Option A) → c ≡ p ++ e ∷ [] → is_node eq (all_longer v rows) (p ++ e ∷ []) ≡ true
          → length p ≡ n
          → ((c ≡ and_any p) × (is_node eq rows p ≡ true)) ⊎ ((c ≡ and_value v p) × (is_class eq rows p ≡ true))
      by p None is node long = inl (is, sym (node-any equality v n rows p wide long) ∙ node)
      by p (Some w) is node long = same (eq w v) refl
        where
          same : (b : Bool) → eq w v ≡ b → ((c ≡ and_any p) × (is_node eq rows p ≡ true))
              ⊎ ((c ≡ and_value v p) × (is_class eq rows p ≡ true))
          same false other = absurd (true≢false (sym node ∙ no_node n rows p w other wide long))
          same true e =
              let value : w ≡ v = equality.exact w v e in
              inr (
                is ∙ ap (λ x. p ++ Some x ∷ []) value,
                sym (node-value equality v n rows p wide long)
                    ∙ ap (λ x. is_node eq (all_longer v rows) (p ++ Some x ∷ [])) (sym value) ∙ node,
              )
