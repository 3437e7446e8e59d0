-- The way down a root and a node under it.
use Rattle.std.proofs.Common.{◌≡◌, ◌≢◌, ℕ, zero, suc, Some, None, is_some, replicate, slice_index_or, nat_cmp, sym, ap, subst, ◌∙◌}
use Rattle.std.proofs.Common.{true≢false, inl, inr}
use Rattle.std.proofs.lemmas.Bool.Decides.{eqb_tells}
use Rattle.std.specs.FinMap as map
use Rattle.std.specs.Option.{option_map}
use Rattle.std.specs.Ordering.{eq_by_cmp}
use Rattle.cube_defs.specs.Cell.{cell_prefix}
use Rattle.cube_defs.specs.Tree.{Tree, cell_at}
use Rattle.tree_laws.specs.Walk.{target_at}
use Rattle.qc_arena.specs.Map.{Known, bare}
use Rattle.qc_arena.specs.Edges.{with_edge}
use Rattle.qc_arena.specs.RecordReaders.{record_at, record_or}
use Rattle.tree_tests.specs.Single.{single}
use Rattle.drill_links.specs.Way.{IsWay, LeadsTo}

-- a root alone, a node more, and the edge to it
module _ (alone grown linked : Tree ℕ) (root child : ℕ)
    (root_is : map.get alone root ≡ Some (bare (replicate 3 None) None)) (no_other : (q : ℕ) → q ≢ root
    → map.get alone q ≡ None)
    (free : map.get alone child ≡ None) (child_is : map.get grown child ≡ Some (bare single (Some root)))
    (kept : (q : ℕ) → q ≢ child → map.get grown q ≡ map.get alone q)
    (edge : map.get linked root ≡ option_map (with_edge (record { dim = 1; value = 7; target = child }))
    (map.get grown root)) (others : (q : ℕ) → q ≢ root → map.get linked q ≡ map.get grown q) where
  apart : root ≢ child
  apart e = true≢false (ap is_some (sym root_is) ∙ ap (λ k. is_some (map.get alone k)) e ∙ ap is_some free)

  root_now : map.get linked root
      ≡ Some (with_edge (record { dim = 1; value = 7; target = child }) (bare (replicate 3 None) None))
  root_now = edge ∙ ap (option_map (with_edge (record { dim = 1; value = 7; target = child })))
      (kept root apart ∙ root_is)

  child_now : map.get linked child ≡ Some (bare single (Some root))
  child_now = others child (λ e. apart (sym e)) ∙ child_is

  pub root_cell : cell_at linked root ≡ Some (cell_prefix 0 single)
  root_cell = ap (option_map (λ (n : Known). n.cell)) root_now

  leads_on : (k : ℕ) → cell_at linked k ≡ Some (cell_prefix 1 single) → LeadsTo linked k 1 7 (cell_prefix 2 single)
  leads_on k at = elim (eqb_tells k root) [
    | inl e ↦ record {
      target = child;
      edge = ap (λ n. target_at (eq_by_cmp nat_cmp) 1 7 (record_at linked n).edges) e.1
          ∙ ap (λ o. target_at (eq_by_cmp nat_cmp) 1 7 (record_or o).edges) root_now;
      is = ap (option_map (λ (n : Known). n.cell)) child_now;
    }
    | inr e ↦ elim (eqb_tells k child) [
      | inl f ↦ absurd (let bad : Some single ≡ Some (cell_prefix 1 single)
          = sym (ap (option_map (λ (n : Known). n.cell)) (ap (map.get linked) f.1 ∙ child_now)) ∙ at in cc)
      | inr f ↦ absurd (let bad : None ≡ Some (cell_prefix 1 single)
          = sym (ap (option_map (λ (n : Known). n.cell)) (others k e.1 ∙ kept k f.1 ∙ no_other k e.1)) ∙ at in cc)
    ]
  ]

  pub way : IsWay linked single 0 2
  way = record { leads = λ j v k from within has at. go j v k has at }
    where
      go : (j v k : ℕ) → slice_index_or single j None ≡ Some v → cell_at linked k ≡ Some (cell_prefix j single)
          → LeadsTo linked k j v (cell_prefix (suc j) single)
      go zero v k has at = cc
      go (suc zero) v k has at = let seven : 7 ≡ v = cc in
          subst (λ x. LeadsTo linked k 1 x (cell_prefix 2 single)) seven (leads_on k at)
      go (suc (suc zero)) v k has at = cc
      go (suc (suc (suc j))) v k has at = cc
