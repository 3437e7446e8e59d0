-- Once all nodes with the row have their numbers, their records are sound.
use Rattle.std.proofs.Common.{◌≡◌, ◌⊎◌, inl, inr, ℕ, ◌<◌, Bool, true, false, cond, Option, Some, None, IsSome, ◌∷◌, ◌++◌, length, nat_cmp}
use Rattle.std.proofs.Common.{nat_eq, refl, sym, ap, slice_index_or, ◌∙◌}
use Rattle.std.proofs.lemmas.Bool.{cond-true}
use Rattle.std.specs.Ordering.{eq_by_cmp}
use Rattle.std.specs.Option.{option_map}
use Rattle.std.specs.FinMap as map
use Rattle.cube_defs.specs.Cell.{Cell, cell_eq, depth, cell_prefix, leq, mask}
use Rattle.cube_defs.specs.Rows as defs
use Rattle.cube_defs.specs.Tree.{Edge, Tree, cell_at, parent_cell_of}
use Rattle.cube_laws.specs.Lists.{Among}
use Rattle.cube_laws.proofs.CallerLemmas.{cell_eq-exact, leq_antisymm, meet_after_rest, is_node-is, closure-insert, node-insert}
use Rattle.cube_laws.proofs.CallerLemmas.{code_equality, leq_is, none_some}
use Rattle.tree_laws.proofs.CallerLemmas.{cell_record, some_same, some_there}
use Rattle.qc_arena.specs.Edges.{rises}
use Rattle.qc_arena.specs.Map.{Arena, Known}
use Rattle.qc_arena.specs.RecordReaders.{record_at, record_or}
use Rattle.batch_insert.specs.Begun.{IsBare, IsBegun}
use Rattle.batch_insert.specs.Cases.{Case, IsPrefix, new_closure, old_closure, old_lead}
use Rattle.batch_insert.specs.Stages.{HasLabel, IsSound, IsStage, new_lead}
use Rattle.batch_insert.proofs.Assembled.{parent_more}
use Rattle.batch_insert.proofs.Coming.{begun_told}
use Rattle.batch_insert.proofs.Prefixes.{above_self, prefix_leq}
use Rattle.batch_insert.proofs.Keeping.{cell_known}
use Rattle.batch_insert.proofs.Labelled.{led_or_own, read, source_label, source_parent, source_rises}
use Rattle.batch_insert.proofs.Sources.{closed}

pub record_known : (b : Tree ℕ) (k : ℕ) (n : Known) → map.get b k ≡ Some n → record_at b k ≡ n
record_known b k n h = ap record_or h

module _ {t : Cell ℕ} {a : Arena} (c : Case t a) where
  pub new_closed : (p : Cell ℕ) → leq nat_eq p t ≡ true
      → defs.closure (eq_by_cmp nat_cmp) (c.xs ++ c.row ∷ c.ys) p ≡ Some (new_closure c p)
  new_closed p h =
      closure-insert code_equality c.xs c.row c.ys p
      ∙ cond-true _ _ _ (ap (leq (eq_by_cmp nat_cmp) p) c.tuple ∙ leq_is p t ∙ h)
      ∙ ap (λ x. Some (defs.meet_after (eq_by_cmp nat_cmp) x (old_closure c p))) c.tuple

  -- the nodes that generalize t
  pub prefix_of_node : (p : Cell ℕ) → leq nat_eq p t ≡ true
      → defs.is_node (eq_by_cmp nat_cmp) (c.xs ++ c.row ∷ c.ys) p ≡ true → IsPrefix c p (depth p)
  prefix_of_node p h node
      = some_same (sym (ap (option_map (cell_prefix (depth p))) (new_closed p h))
      ∙ (is_node-is code_equality (c.xs ++ c.row ∷ c.ys) p).0 node)

  pub node_of_prefix : (p : Cell ℕ) → IsPrefix c p (depth p)
      → defs.is_node (eq_by_cmp nat_cmp) (c.xs ++ c.row ∷ c.ys) p ≡ true
  node_of_prefix p f =
      (is_node-is code_equality (c.xs ++ c.row ∷ c.ys) p).1
      (ap (option_map (cell_prefix (depth p))) (new_closed p (sym (leq_is p t) ∙ prefix_leq c p _ f)) ∙ ap (λ x. Some x) f)

  -- the records of the nodes that there were
  module _ (name : ℕ → Option (Cell ℕ)) (more : (l : ℕ) (q : Cell ℕ) → cell_at a.now l ≡ Some q → name l ≡ Some q)
      (k : ℕ) (n : Known) (g : map.get a.now k ≡ Some n) (front : IsPrefix c n.cell (depth n.cell)) where
    shut : (u : Cell ℕ) × (old_closure c n.cell ≡ Some u) × (cell_prefix (depth n.cell) u ≡ n.cell)
    shut = closed a (record { measures = c.measures; rows = c.xs ++ c.ys }) c.from k n g

    class : (n.class ≡ None) ⊎ (new_closure c n.cell ≡ n.cell)
    class = go _ refl (ap (λ m. m.class) (read c n.cell shut.0 _ front shut.1 k n g (sym shut.2)))
      where
        go : (b : Bool) → cell_eq (eq_by_cmp nat_cmp) shut.0 (cell_prefix (depth n.cell) shut.0) ≡ b
            → n.class ≡ cond b (Some
            (defs.agg (eq_by_cmp nat_cmp) c.measures (c.xs ++ c.ys) (cell_prefix (depth n.cell) shut.0))) None
            → (n.class ≡ None) ⊎ (new_closure c n.cell ≡ n.cell)
        go false e h = inl h
        go true e h =
            let same : shut.0 ≡ n.cell = cell_eq-exact code_equality _ _ e ∙ shut.2 in
            inr (leq_antisymm code_equality _ n.cell (rw same at (meet_after_rest code_equality t _ shut.0 shut.1))
            (above_self c n.cell (prefix_leq c n.cell _ front)))

    pub old_sound : IsSound c name n
    old_sound = record {
      parent = parent_more _ name more n.parent _ (source_parent c n.cell shut.0 _ front shut.1 k n g (sym shut.2)
          ∙ ap (λ q. option_map (λ x. Some x) (parent_cell_of nat_cmp q)) shut.2);
      rises = source_rises c n.cell shut.0 _ front shut.1 k n g (sym shut.2);
      place = λ x m. let l = label x m in (l.0, l.1);
      leads = λ x m. leads x m;
      class = class;
    }
      where
        label : (x : Edge ℕ ℕ) → Among x n.edges → (x.dim < length t) × IsPrefix c n.cell x.dim × (q : Cell ℕ)
            × (cell_at a.now x.target ≡ Some q) × (old_lead c n.cell x.dim x.value ≡ Some q)
        label x m = source_label c n.cell shut.0 _ front shut.1 k n g (sym shut.2) x m

        leads : (x : Edge ℕ ℕ) → Among x n.edges → (new_lead c n.cell x.dim x.value ≡ name x.target)
            ⊎ (slice_index_or t x.dim None ≡ Some x.value)
        leads x m =
            let l = label x m in
            elim (led_or_own c n.cell x.dim x.value l.1 l.0) [
              | inl h ↦ inl (h ∙ l.4 ∙ sym (more x.target l.2 l.3))
              | inr h ↦ inr h
            ]

  -- those that come
  bare_sound : (b : Tree ℕ) (n : Known) → IsBare b n → IsSound c (cell_at b) n
  bare_sound b n bare = record {
    parent = bare.parent;
    rises = ap rises bare.edges;
    place = λ x m. absurd (rw bare.edges at m);
    leads = λ x m. absurd (rw bare.edges at m);
    class = inl bare.class;
  }

  module _ (b : Tree ℕ) (f : ℕ → Option ℕ) (begun : IsBegun c b f) where
    -- each record is that of the start, or there was none
    unchanged : (k : ℕ) (n : Known) → map.get a.now k ≡ Some n → map.get b k ≡ Some n
    unchanged k n g =
        let m = cell_record b k n.cell (begun.cells k n.cell (cell_known a.now k n g)) in
        elim (begun.left k m.0 m.1) [
          | inl old ↦ m.1 ∙ sym old ∙ g
          | inr numbered ↦ elim (begun.records _ k numbered) [
            | inl same ↦ same ∙ g
            | inr new ↦ absurd (none_some (sym new.1 ∙ g))
          ]
        ]

    sound : (k : ℕ) (n : Known) → map.get b k ≡ Some n → IsPrefix c n.cell (depth n.cell) → IsSound c (cell_at b) n
    sound k n h front = elim (begun.left k n h) [
      | inl old ↦ old_sound _ begun.cells k n old front
      | inr numbered ↦ elim (begun.records _ k numbered) [
        | inl same ↦ old_sound _ begun.cells k n (sym same ∙ h) front
        | inr new ↦ bare_sound b n (rw (← (some_same (sym new.2 ∙ h))) new.3)
      ]
    ]

    module _ (all : (q : Cell ℕ) → IsPrefix c q (depth q) → IsSome (f (mask q))) where
      below : (k : ℕ) (n : Known) → map.get b k ≡ Some n → leq nat_eq n.cell t ≡ true → IsPrefix c n.cell (depth n.cell)
          × (f (mask n.cell) ≡ Some k)
      below k n h l = elim (begun.left k n h) [
        | inl old ↦
            let node = (c.from.canonical.each k n old).0 in
            let front = prefix_of_node n.cell l (node-insert code_equality c.xs c.row c.ys n.cell node) in
            let number = some_there (f _) (all n.cell front) in (
              front,
              number.1 ∙ ap (λ j. Some j) (sym (begun_told c b f k _ number.0 n begun h front refl number.1)),
            )
        | inr numbered ↦
            let p = begun.nodes _ k numbered in
            (rw (← (some_same (sym p.1 ∙ cell_known b k n h))) p.3, numbered)
      ]

      pub begun_stage : IsStage c b f
      begun_stage = record {
        nodes = begun.nodes;
        below = below;
        all = all;
        cells = begun.cells;
        apart = λ k n g l. unchanged k n g;
        stays = λ k i v h. stays k i v h (map.get a.now k) refl;
        sound = sound;
      }
        where
          stays : (k i v : ℕ) → HasLabel i v (record_at a.now k).edges → (o : Option Known) → map.get a.now k ≡ o
              → HasLabel i v (record_at b k).edges
          stays k i v h None e = absurd (rw (ap record_or e) at h.1)
          stays k i v h (Some n) e
              = rw (← (ap record_or (e ∙ sym (unchanged k n e)))) h
