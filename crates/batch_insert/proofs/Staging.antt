-- Each write keeps the records of the nodes with the row sound.
use Rattle.std.proofs.Common.{◌≡◌, ◌≢◌, ◌⊎◌, inl, inr, ℕ, ◌<◌, Bool, true, false, Option, Some, None, List, [], ◌∷◌, length, nat_cmp}
use Rattle.std.proofs.Common.{nat_eq, slice_index_or, refl, sym, ap, subst, ◌∙◌, true≢false, arith}
use Rattle.std.proofs.lemmas.Bool.Decides.{eqb_tells}
use Rattle.std.specs.Ordering.{eq_by_cmp}
use Rattle.std.specs.Option.{option_map}
use Rattle.std.specs.FinMap as map
use Rattle.cube_defs.specs.Cell.{Cell, depth, cell_prefix, leq, mask, meet}
use Rattle.cube_defs.specs.Tree.{Edge, Tree, cell_at}
use Rattle.cube_laws.specs.Lists.{Among}
use Rattle.cube_laws.proofs.CallerLemmas.{meet_of_leq, code_equality, leq_is}
use Rattle.tree_laws.proofs.CallerLemmas.{cell_record, some_same}
use Rattle.qc_arena.proofs.CallerLemmas.{rises-put, put_here, put_stays}
use Rattle.qc_arena.specs.Edges.{put_edge, with_edge}
use Rattle.qc_arena.specs.Map.{Arena, Known}
use Rattle.qc_arena.specs.RecordReaders.{record_at, record_or}
use Rattle.batch_insert.specs.declared.plan.LabelCopy.{LabelCopy}
use Rattle.batch_insert.specs.Cases.{Case, IsPrefix}
use Rattle.batch_insert.specs.Invariants.{put_edges, with_edges}
use Rattle.batch_insert.specs.Stages.{EdgesStay, HasLabel, IsCopied, IsSound, IsStage, LabelsStay, new_lead}
use Rattle.batch_insert.specs.Whole.{IsCopyOf}
use Rattle.batch_insert.proofs.Coming.{prefix_told}
use Rattle.batch_insert.proofs.Prefixes.{prefix_before, prefix_deep, prefix_leq}
use Rattle.batch_insert.proofs.Keeping.{among_put, cell_known}
use Rattle.batch_insert.proofs.Labelled.{cut, led_or_own, source_label}
use Rattle.batch_insert.proofs.Started.{record_known}

-- labels of edges that are put
pub label_put : (e : Edge ℕ ℕ) (xs : List (Edge ℕ ℕ)) (i v : ℕ) → HasLabel i v xs → HasLabel i v (put_edge e xs)
label_put e xs i v h = elim (put_stays e xs h.0 h.1) [
  | inl m ↦ (h.0, m, h.2, h.3)
  | inr s ↦ (e, put_here e xs, sym s.dim ∙ h.2, sym s.value ∙ h.3)
]

labels_put : (es xs : List (Edge ℕ ℕ)) (i v : ℕ) → HasLabel i v xs → HasLabel i v (put_edges es xs)
labels_put [] xs i v h = h
labels_put (e ∷ es) xs i v h = labels_put es _ i v (label_put e xs i v h)

labels_here : (es xs : List (Edge ℕ ℕ)) (i v : ℕ) → HasLabel i v es → HasLabel i v (put_edges es xs)
labels_here [] xs i v h = absurd h.1
labels_here (e ∷ es) xs i v h = elim h.1 [
  | inl s ↦ labels_put es _ i v (
    e,
    put_here e xs,
    ap (λ y. y.dim) (sym s) ∙ h.2,
    ap (λ y. y.value) (sym s) ∙ h.3,
  )
  | inr m ↦ labels_here es _ i v (h.0, m, h.2, h.3)
]

-- one record changes, but for its cell
module _ (b d : Tree ℕ) (k : ℕ) (n m : Known) (before : map.get b k ≡ Some n) (after : map.get d k ≡ Some m)
    (cell : m.cell ≡ n.cell) (others : (q : ℕ) → q ≢ k → map.get d q ≡ map.get b q) where
  name : (q : ℕ) → cell_at d q ≡ cell_at b q
  name q = elim (eqb_tells q k) [
    | inl s ↦ ap (cell_at d) s.1 ∙ cell_known d k m after ∙ ap (λ x. Some x) cell ∙ sym (cell_known b k n before)
        ∙ ap (cell_at b) (sym s.1)
    | inr s ↦ ap (option_map (λ (n : Known). n.cell)) (others q s.1)
  ]

  pub names : cell_at d ≡ cell_at b
  names = λ i q. name q i

  pub labels : ((i v : ℕ) → HasLabel i v n.edges → HasLabel i v m.edges) → LabelsStay b d
  labels more q i v h = elim (eqb_tells q k) [
    | inl s ↦ rw (ap (record_at d) s.1 ∙ record_known d k m after) (more i v (rw (← (ap (record_at b) s.1 ∙ record_known b k n before)) h))
    | inr s ↦ rw (← (ap record_or (sym (others q s.1)))) h
  ]

  pub edges : m.edges ≡ n.edges → EdgesStay b d
  edges same q = elim (eqb_tells q k) [
    | inl s ↦ ap (λ (r : Known). r.edges) (ap (record_at d) s.1 ∙ record_known d k m after) ∙ same
        ∙ ap (λ (r : Known). r.edges) (sym (ap (record_at b) s.1 ∙ record_known b k n before))
    | inr s ↦ ap (λ o. (record_or o).edges) (others q s.1)
  ]

  module _ {t : Cell ℕ} {a : Arena} (c : Case t a) (f : ℕ
      → Option ℕ) (front : IsPrefix c n.cell (depth n.cell)) (more : (i v : ℕ) → HasLabel i v n.edges
      → HasLabel i v m.edges) where
    pub staged : IsStage c b f → (IsSound c (cell_at b) n → IsSound c (cell_at b) m) → IsStage c d f
    staged stage keeps = record {
      nodes = λ q l h. let p = stage.nodes q l h in (p.0, name l ∙ p.1, p.2, p.3);
      below = below;
      all = stage.all;
      cells = λ l p h. name l ∙ stage.cells l p h;
      apart = apart;
      stays = λ l i v h. labels more l i v (stage.stays l i v h);
      sound = λ l r h e. rw names (sound l r h e (eqb_tells l k));
    }
      where
        below : (l : ℕ) (r : Known) → map.get d l ≡ Some r → leq nat_eq r.cell t ≡ true
            → IsPrefix c r.cell (depth r.cell) × (f (mask r.cell) ≡ Some l)
        below l r h e =
            let o = cell_record b l r.cell (sym (name l) ∙ cell_known d l r h) in
            rw (← o.2) (stage.below l o.0 o.1 (ap (λ p. leq nat_eq p t) o.2 ∙ e))

        apart : (l : ℕ) (r : Known) → map.get a.now l ≡ Some r → leq nat_eq r.cell t ≡ false → map.get d l ≡ Some r
        apart l r g e = elim (eqb_tells l k) [
          | inl s ↦ absurd (true≢false
              (sym (ap (λ p. leq nat_eq p t)
              (ap (λ (x : Known). x.cell) (some_same (sym (stage.apart l r g e) ∙ ap (map.get b) s.1 ∙ before)))
              ∙ sym (leq_is n.cell t) ∙ prefix_leq c n.cell _ front) ∙ e))
          | inr s ↦ others l s.1 ∙ stage.apart l r g e
        ]

        sound : (l : ℕ) (r : Known) → map.get d l ≡ Some r → IsPrefix c r.cell (depth r.cell)
            → ((nat_eq l k ≡ true) × (l ≡ k)) ⊎ ((nat_eq l k ≡ false) × (l ≢ k)) → IsSound c (cell_at b) r
        sound l r h e (inl s) =
            subst (IsSound c (cell_at b)) (some_same (sym after ∙ ap (map.get d) (sym s.1) ∙ h))
            (keeps (stage.sound k n before front))
        sound l r h e (inr s) = stage.sound l r (sym (others l s.1) ∙ h) e

module _ {t : Cell ℕ} {a : Arena} (c : Case t a) where
  -- an edge that the record of p may have
  abbrev Fits : (ℕ → Option (Cell ℕ)) → Cell ℕ → Edge ℕ ℕ → Type 0
  Fits name p e = (e.dim < length t) × IsPrefix c p e.dim
      × ((new_lead c p e.dim e.value ≡ name e.target) ⊎ (slice_index_or t e.dim None ≡ Some e.value))

  pub put_sound : (name : ℕ → Option (Cell ℕ)) (e : Edge ℕ ℕ) (n : Known) → Fits name n.cell e → IsSound c name n
      → IsSound c name (with_edge e n)
  put_sound name e n fits is = record {
    parent = is.parent;
    rises = rises-put e n.edges is.rises;
    place = λ x m. elim (among_put e n.edges x m) [
      | inl s ↦ rw s (fits.0, fits.1)
      | inr o ↦ is.place x o
    ];
    leads = λ x m. elim (among_put e n.edges x m) [
      | inl s
          ↦ rw s fits.2
      | inr o ↦ is.leads x o
    ];
    class = is.class;
  }

  puts_sound : (name : ℕ → Option (Cell ℕ)) (es : List (Edge ℕ ℕ)) (n : Known)
      → ((e : Edge ℕ ℕ) → Among e es → Fits name n.cell e) → IsSound c name n → IsSound c name (with_edges es n)
  puts_sound name [] n fits is = is
  puts_sound name (e ∷ es) n fits is
      = puts_sound name es _ (λ x m. fits x (inr m)) (put_sound name e n (fits e (inl refl)) is)

  -- the record of a number is that of the node with the mask
  module _ (f : ℕ → Option ℕ) (b : Tree ℕ) (stage : IsStage c b f) where
    pub held : (p : Cell ℕ) (i m k : ℕ) → IsPrefix c p i → mask p ≡ m → f m ≡ Some k → (n : Known)
        × (map.get b k ≡ Some n) × (n.cell ≡ p)
    held p i m k front dims number =
        let q = stage.nodes m k number in
        let n = cell_record b k q.0 q.1 in (
          n.0,
          n.1,
          n.2 ∙ prefix_told c q.0 p q.3 (prefix_before c p _ i (prefix_deep c p i front) (omega arith) front)
              (q.2 ∙ sym dims),
        )

    pub prefix_there : (p : Cell ℕ) (i : ℕ) (n : Known) → IsPrefix c p i → n.cell ≡ p → IsPrefix c n.cell (depth n.cell)
    prefix_there p i n front e
        = rw e (prefix_before c p _ i (prefix_deep c p i front) (omega arith) front)

    -- the labels of another node
    module _ (x : LabelCopy) (is : IsCopyOf c x) (k : ℕ) (number : f x.mask ≡ Some k) where
      pub copied_self : x.from.0 ≡ k → IsStage c b f × LabelsStay b b × IsCopied c b f x
      copied_self e = (
        stage,
        λ q i v h. h,
        (k, number, λ i v h. rw (← e) (stage.stays x.from.0 i v h)),
      )

      -- another node's prefix that generalizes t is the node itself
      source : x.from.0 ≢ k → (r : Known) × (map.get a.now x.from.0 ≡ Some r) × (r.cell ≡ cell_prefix is.dim is.upper)
          × (map.get b x.from.0 ≡ Some r)
      source off =
          let r = cell_record a.now x.from.0 _ is.from in
          (r.0, r.1, r.2, go r.0 r.1 r.2 _ refl)
        where
          go : (r : Known) → map.get a.now x.from.0 ≡ Some r → r.cell ≡ cell_prefix is.dim is.upper → (s : Bool)
              → leq nat_eq (cell_prefix is.dim is.upper) t ≡ s → map.get b x.from.0 ≡ Some r
          go r g e false l = stage.apart x.from.0 r g (ap (λ p. leq nat_eq p t) e ∙ l)
          go r g e true l =
              let below : leq (eq_by_cmp nat_cmp) (cell_prefix is.dim is.upper) t ≡ true
              = leq_is _ t ∙ l in
              let met : meet (eq_by_cmp nat_cmp) (cell_prefix is.dim is.upper) t ≡ is.node
              = sym (cut c is.node is.upper is.dim is.front is.closure is.dim) ∙ is.front in
              let same : cell_prefix is.dim is.upper ≡ is.node
              = sym (meet_of_leq code_equality _ t below) ∙ met in
              let at = stage.cells x.from.0 _ is.from in
              let o = cell_record b x.from.0 _ at in
              let told = (stage.below x.from.0 o.0 o.1 (ap (λ p. leq nat_eq p t) o.2 ∙ l)).1 in
              absurd (off (some_same (sym told ∙ ap f (ap mask (o.2 ∙ same) ∙ is.dims) ∙ number)))

      pub source_edges : x.from.0 ≢ k → (record_at b x.from.0).edges ≡ (record_at a.now x.from.0).edges
      source_edges off = let r = source off in ap (λ (y : Known). y.edges) (record_known b x.from.0 r.0 r.3)
          ∙ ap (λ (y : Known). y.edges) (sym (record_known a.now x.from.0 r.0 r.1))

      pub copied : (d : Tree ℕ) → x.from.0 ≢ k
          → map.get d k ≡ option_map (with_edges (record_at b x.from.0).edges) (map.get b k)
          → ((q : ℕ) → q ≢ k → map.get d q ≡ map.get b q)
          → IsStage c d f × LabelsStay b d × IsCopied c d f x
      copied d off here others =
          let r = source off in
          let n = held is.node is.dim x.mask k is.front is.dims number in
          let es : List (Edge ℕ ℕ) = (record_at b x.from.0).edges in
          let after : map.get d k ≡ Some (with_edges es n.0) = here ∙ ap (option_map (with_edges es)) n.1 in
          let same : es ≡ r.0.edges = ap (λ (y : Known). y.edges) (record_known b x.from.0 r.0 r.3) in
          let fits : (e : Edge ℕ ℕ) → Among e es → Fits (cell_at b) n.0.cell e
          = λ e m. rw n.2 (fit r.0 r.1 r.2 e (rw (← same) m)) in
          let old : (record_at a.now x.from.0).edges ≡ es
          = ap (λ (y : Known). y.edges) (record_known a.now x.from.0 r.0 r.1) ∙ sym same in (
            staged b d k n.0 _ n.1 after refl others c f
                (prefix_there is.node is.dim n.0 is.front n.2) (λ i v. labels_put es n.0.edges i v) stage
                (puts_sound _ es n.0 fits),
            labels b d k n.0 _ n.1 after refl others (λ i v. labels_put es n.0.edges i v),
            (
              k,
              number,
              λ i v h. rw (record_known d k _ after) (labels_here es n.0.edges i v (rw (← old) h)),
            ),
          )
        where
          fit : (r : Known) → map.get a.now x.from.0 ≡ Some r → r.cell ≡ cell_prefix is.dim is.upper → (e : Edge ℕ ℕ)
              → Among e r.edges → Fits (cell_at b) is.node e
          fit r g cell e m =
              let l = source_label c is.node is.upper is.dim is.front is.closure x.from.0 r g cell e m in (
                l.0,
                l.1,
                elim (led_or_own c is.node e.dim e.value l.1 l.0) [
                  | inl h
                      ↦ inl (h ∙ l.4 ∙ sym (stage.cells e.target l.2 l.3))
                  | inr h ↦ inr h
                ],
              )
