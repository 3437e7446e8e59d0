-- A record is mended: its edges, its forced child and its class.
use Rattle.std.proofs.Common.{◌≡◌, ◌∙◌, ℕ, true, List, Option, Some, slice_get, sym, ap, ap₂}
use Rattle.std.proofs.lemmas.Bool.{cond-true}
use Rattle.std.specs.Option.{option_map}
use Rattle.cube_defs.specs.Cell.{Cell, depth}
use Rattle.cube_defs.specs.Rows.{Agg}
use Rattle.cube_defs.specs.Tree.{Edge}
use Rattle.qc_arena.specs.Edges.{rises}
use Rattle.qc_arena.specs.Map.{Known, with_class, with_forced}
use Rattle.qc_arena.specs.RecordReaders.{record_or}
use Rattle.batch_delete.specs.declared.parts.Rest.{Rest}
use Rattle.batch_delete.specs.Plan.{class_by, forced_by, is_left, new_target, left_to, rewritten, next_entry, heir_target, with_mixed}
use Rattle.batch_delete.proofs.OwnLabels.{led_after, left_rises, left_was}

module _ (n : Known) (a b : Option Known) (next : Option (ℕ × ℕ)) (is : a ≡ Some n)
    (cut : b ≡ option_map (with_mixed (left_to next) 0) a) where
  pub cut_is : b ≡ Some (with_mixed (left_to next) 0 n)
  cut_is = cut ∙ ap (option_map (with_mixed (left_to next) 0)) is

  -- the edges that are left rise
  pub cut_rises : rises n.edges ≡ true → rises (record_or b).edges ≡ true
  cut_rises r = ap (λ (o : Option Known). rises (record_or o).edges) cut_is ∙ left_rises (left_to next) n.edges r

  -- an edge that is left was there
  pub cut_was : (k : ℕ) (x : Edge ℕ ℕ) → slice_get (record_or b).edges k ≡ Some x → (j : ℕ)
      × (slice_get n.edges j ≡ Some x) × (is_left next x.dim x.value ≡ true)
  cut_was k x e = left_was next n.edges k x (ap (λ (o : Option Known). slice_get (record_or o).edges k) (sym cut_is)
      ∙ e)

  module _ (tuple : Cell ℕ) (heirs : ℕ → Option ℕ) where
    -- and leads where it led
    pub left_leads : (x : Edge ℕ ℕ) (t : ℕ) → is_left next x.dim x.value ≡ true → heir_target tuple heirs x ≡ Some t
        → new_target tuple heirs next x ≡ Some t
    left_leads x t left own = cond-true _ _ _ left ∙ own

    pub all_mended : (cell : Cell ℕ) (rest : Rest) (c d e : Option Known) (class : Option Agg)
        → next ≡ next_entry (depth cell) rest.shared → class ≡ class_by rest cell
        → c ≡ option_map (with_mixed (heir_target tuple heirs) 0) b
        → d ≡ option_map (with_forced (forced_by next (record_or c))) c → e ≡ option_map (with_class class) d
        → e ≡ option_map (rewritten tuple heirs cell rest) a
    all_mended cell rest c d e class entry own led forced classed =
        let first : c ≡ Some (with_mixed (new_target tuple heirs next) 0 n) =
        led ∙ ap (option_map (with_mixed (heir_target tuple heirs) 0)) cut_is
        ∙ ap (λ (l : List (Edge ℕ ℕ)). Some (let m : Known = record n { edges = l } in m))
        (led_after tuple heirs next n.edges) in
        let second = forced ∙ ap (λ (o : Option Known). option_map (with_forced (forced_by next (record_or o))) o)
        first in
        let third = classed ∙ ap (option_map (with_class class)) second in
        third ∙ ap₂ (λ (x : Option (ℕ × ℕ)) (k : Option Agg). Some
        (with_class k (with_forced (forced_by x (with_mixed (new_target tuple heirs x) 0 n))
        (with_mixed (new_target tuple heirs x) 0 n)))) entry own
        ∙ sym (ap (option_map (rewritten tuple heirs cell rest)) is)
