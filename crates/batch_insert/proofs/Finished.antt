-- Once the whole plan is done, the tree is that of the rows with the new one.
use Rattle.std.proofs.Common.{◌≡◌, ◌⊎◌, inl, inr, ℕ, zero, suc, ◌<◌, ◌≤◌, true, Option, Some, None, List, [], ◌∷◌, ◌++◌, length, nat_cmp}
use Rattle.std.proofs.Common.{nat_eq, replicate, slice_index_or, refl, sym, ap, subst, ◌∙◌, arith}
use Rattle.std.proofs.lemmas.Bool.{and_parts}
use Rattle.std.specs.List.{AllByRecursion, list_all}
use Rattle.std.specs.Cmp.{nat_cmp_total}
use Rattle.std.specs.Ordering.{eq_by_cmp}
use Rattle.std.specs.Option.{option_map}
use Rattle.std.specs.FinMap as map
use Rattle.cube_defs.specs.Cell.{Cell, depth, cell_prefix, leq, mask, with_value}
use Rattle.cube_defs.specs.Rows as defs
use Rattle.cube_defs.specs.Tree.{Edge, cell_at, node_of, renamed}
use Rattle.cube_laws.specs.Lists.{Among}
use Rattle.cube_laws.proofs.CallerLemmas.{cell_prefix-leq, leq_trans, length-cell_of, length-cell_prefix, closure_some, code_equality}
use Rattle.cube_laws.proofs.CallerLemmas.{leq_is}
use Rattle.tree_laws.specs.Labels.{target_after_row}
use Rattle.tree_laws.proofs.CallerLemmas.{leq-with_value, led_from, upto-meet_after, cell_record, some_same, some_there, chain_node}
use Rattle.tree_laws.proofs.CallerLemmas.{Ascends, HasLabelOf, IsBefore, before_apart}
use Rattle.tree_search.specs.Found.{IsTreeOf}
use Rattle.qc_arena.specs.Edges.{rises}
use Rattle.qc_arena.specs.Map.{Arena, Known}
use Rattle.qc_arena.specs.RecordReaders.{label_lt, record_at}
use Rattle.batch_insert.specs.declared.plan.LabelCopy.{LabelCopy}
use Rattle.batch_insert.specs.declared.plan.TupleLabel.{TupleLabel}
use Rattle.batch_insert.specs.declared.plan.NodeKind.{NodeKind}
use Rattle.batch_insert.specs.declared.plan.Plan.{Plan}
use Rattle.batch_insert.specs.Cases.{Case, IsPrefix, new_closure, old_closure, old_lead}
use Rattle.batch_insert.specs.Invariants.{IsClosed, KeepsNodes}
use Rattle.batch_insert.specs.Stages.{HasEndOf, HasLabel, IsCopied, IsEnded, IsSet, IsSound, IsStage, new_lead}
use Rattle.batch_insert.specs.Whole.{HasAll, HasNode, IsTupleLabelOf}
use Rattle.batch_insert.proofs.Assembled.{IsBelowRight, assembled}
use Rattle.batch_insert.proofs.Coming.{prefix_told}
use Rattle.batch_insert.proofs.Prefixes.{deep_prefix, prefix_deep, prefix_leq, prefix_long, le_or_lt, new_below, new_long}
use Rattle.batch_insert.proofs.Keeping.{cell_known}
use Rattle.batch_insert.proofs.Labelled.{led_or_own, led_own, source_has}
use Rattle.batch_insert.proofs.Naming.{same_mask}
use Rattle.batch_insert.proofs.Records.{HasEdges, record_right}
use Rattle.batch_insert.proofs.Started.{prefix_of_node, node_of_prefix, record_known}

-- edges that rise
before_of : (x y : Edge ℕ ℕ) → label_lt x y ≡ true → IsBefore x y
before_of x y h = go (le_or_lt _ y.dim)
  where
    go : (suc x.dim ≤ y.dim) ⊎ (suc y.dim ≤ suc x.dim) → IsBefore x y
    go (inl l) = record { less = inl (omega (arith, l)) }
    go (inr l) = record { less = inr (grind (arith, h, l), grind (arith, h, l)) }

all_before : (x : Edge ℕ ℕ) (xs : List (Edge ℕ ℕ)) → list_all (label_lt x) xs ≡ true → (y : Edge ℕ ℕ) → Among y xs
    → IsBefore x y
all_before x [] h y m = absurd m
all_before x (z ∷ xs) h y m =
    let p = and_parts _ _ h in
    elim m [ inl s ↦ rw s (before_of x z p.0) | inr n ↦ all_before x xs p.1 y n ]

pub ascending : (xs : List (Edge ℕ ℕ)) → rises xs ≡ true → Ascends xs
ascending [] h = tt
ascending (x ∷ xs) h = let p = and_parts _ _ h in
    (all_before x xs p.0, ascending xs p.1)

-- a label stands once
label_once : (xs : List (Edge ℕ ℕ)) → Ascends xs → (x y : Edge ℕ ℕ) → Among x xs → Among y xs → HasLabelOf x y → x ≡ y
label_once [] h x y m n s = absurd m
label_once (z ∷ xs) h x y (inl m) (inl n) s = m ∙ sym n
label_once (z ∷ xs) h x y (inl m) (inr n) s = absurd (before_apart x y (rw m (h.0 y n)) s)
label_once (z ∷ xs) h x y (inr m) (inl n) s
    = absurd (before_apart y x (rw n (h.0 x m))
    (record { dim = sym s.dim; value = sym s.value }))
label_once (z ∷ xs) h x y (inr m) (inr n) s = label_once xs h.1 x y m n s

pub cell_prefix_none : (c : Cell ℕ) (n : ℕ) → length c ≡ n → cell_prefix zero c ≡ replicate n None
cell_prefix_none [] zero e = refl
cell_prefix_none [] _ e = absurd (omega arith)
cell_prefix_none (x ∷ c) zero e = absurd (omega arith)
cell_prefix_none (x ∷ c) (suc n) e = ap (λ d. None ∷ d) (cell_prefix_none c n (omega arith))

pub all_more : {X : Type 0} (P : X → Type 0) (xs ys : List X) (y : X) → AllByRecursion P (xs ++ ys) → P y
    → AllByRecursion P (xs ++ y ∷ ys)
all_more P [] ys y h p = (p, h)
all_more P (x ∷ xs) ys y h p = (h.0, all_more P xs ys y h.1 p)

module _ {t : Cell ℕ} {a : Arena} (c : Case t a) (plan : Plan)
    (has : HasAll c plan (replicate (length t) None) 0) (tuple_labels : (x : TupleLabel)
    → Among x plan.tuple_labels.items → IsTupleLabelOf c x)
    (f : ℕ → Option ℕ) (b : Arena) (keeps : KeepsNodes t a b) (stage : IsStage c b.now f) (shut : IsClosed b)
    (copied : (x : LabelCopy) → Among x plan.copies.items → IsCopied c b.now f x) (set : (x : TupleLabel)
    → Among x plan.tuple_labels.items → IsSet t b.now f x) (ended : (x : NodeKind) → Among x plan.ends.items
    → IsEnded c b.now f x) where
  module _ (k : ℕ) (n : Known) (h : map.get b.now k ≡ Some n) (front : IsPrefix c n.cell (depth n.cell))
      (number : f (mask n.cell) ≡ Some k) where
    node : HasNode c plan n.cell
    node = has n.cell front (cell_prefix_none n.cell _ (prefix_long c n.cell _ front))

    sound : IsSound c (cell_at b.now) n
    sound = stage.sound k n h front

    one_number : (m j : ℕ) → m ≡ mask n.cell → f m ≡ Some j → j ≡ k
    one_number m j e g = some_same (sym g ∙ ap f e ∙ number)

    edges_at : (j : ℕ) → j ≡ k → (record_at b.now j).edges ≡ n.edges
    edges_at j e = ap (λ q. (record_at b.now q).edges) e ∙ ap (λ (r : Known). r.edges) (record_known b.now k n h)

    -- the label with t's value
    own_edge : (i v : ℕ) → i < length t → IsPrefix c n.cell i → slice_index_or t i None ≡ Some v → (l : ℕ)
        × Among (record { dim = i; value = v; target = l }) n.edges × (cell_at b.now l ≡ new_lead c n.cell i v)
    own_edge i v within place value =
        let y = node.tuple_labels i (prefix_deep c n.cell i place) within place in
        let s = set y.0 y.1 in
        let is = tuple_labels y.0 y.1 in
        let val : s.2 ≡ v = some_same (sym s.5 ∙ ap (λ j. slice_index_or t j None) y.3 ∙ value) in
        let same : (record_at b.now s.0).edges ≡ n.edges = edges_at s.0 (one_number y.0.mask s.0 y.2 s.3) in
        let node : is.node ≡ n.cell
        = prefix_told c is.node n.cell (deep_prefix c is.node y.0.dim is.front) front (is.dims ∙ y.2) in (
          s.1,
          rw y.3 at (rw val at (rw same at s.6)),
          led s.1 y.0.target s.4 (sym (is.target v (ap (λ j. slice_index_or t j None) y.3 ∙ value))
              ∙ ap (λ j. mask (target_after_row (eq_by_cmp nat_cmp) (old_lead c is.node j v) t j)) y.3
              ∙ ap (λ p. mask (target_after_row (eq_by_cmp nat_cmp) (old_lead c p i v) t i)) node),
        )
      where
        led : (l m : ℕ) → f m ≡ Some l → m ≡ mask (target_after_row (eq_by_cmp nat_cmp) (old_lead c n.cell i v) t i)
            → cell_at b.now l ≡ new_lead c n.cell i v
        led l m target dims =
            let q = stage.nodes m l target in
            let is : cell_prefix (suc i) (new_closure c (with_value n.cell i v)) ≡ target_after_row (eq_by_cmp nat_cmp)
            (old_lead c n.cell i v) t i
            = upto-meet_after code_equality _ t i in
            let low : leq (eq_by_cmp nat_cmp) (target_after_row (eq_by_cmp nat_cmp) (old_lead c n.cell i v) t i) t
            ≡ true = rw (← is) (leq_trans code_equality _
            _ t (cell_prefix-leq code_equality _ (new_closure c (with_value n.cell i v)))
            (new_below c (with_value n.cell i v))) in
            let long : length (target_after_row (eq_by_cmp nat_cmp) (old_lead c n.cell i v) t i) ≡ length t
            = ap length (sym is) ∙ length-cell_prefix _ _ ∙ new_long c _ in
            q.1 ∙ ap (λ w. Some w) (same_mask q.0 _ t (sym (leq_is q.0 t) ∙ prefix_leq c q.0 _ q.3) (sym (leq_is _ t) ∙ low)
            (prefix_long c q.0 _ q.3 ∙ sym long) (q.2 ∙ dims)) ∙ sym (led_own c n.cell i v place within value)

    -- the labels with other values
    old_edge : (i v : ℕ) (q : Cell ℕ) → i < length t → IsPrefix c n.cell i → old_lead c n.cell i v ≡ Some q
        → HasLabel i v n.edges
    old_edge i v q within place target_of_label =
        let w = led_from code_equality _ i q target_of_label in
        let deep = prefix_deep c n.cell i place in
        let u = closure_some code_equality (c.xs ++ c.ys) n.cell (with_value n.cell i v) w.0
        (leq-with_value code_equality n.cell i v deep) w.1 in
        elim (node.copies i deep within place u.0 u.1) [
          | inl own ↦ own_label u.0 u.1 deep own
          | inr x ↦
              let done = copied x.0 x.1 in
              let r = cell_record a.now x.0.from.0 _ x.3 in
              rw (← (edges_at done.0 (one_number x.0.mask done.0 x.2 done.1)))
              (done.2 i v (rw (record_known a.now x.0.from.0 r.0 r.1)
              (source_has c n.cell u.0 i place u.1 x.0.from.0 r.0 r.1 r.2 v q within target_of_label)))
        ]
      where
        own_label : (u : Cell ℕ) → old_closure c n.cell ≡ Some u → depth n.cell ≤ i → cell_prefix i u ≡ n.cell
            → HasLabel i v n.edges
        own_label u e deep own =
            let there = c.from.canonical.all _
            (chain_node nat_cmp_total map.nat_cmp-IsAntisymmetric c.measures (c.xs ++ c.ys) n.cell u i e deep).1 in
            let r = cell_record a.now there.0 _ there.1 in
            let o = cell_record b.now there.0 _ (stage.cells there.0 (cell_prefix i u) there.1) in
            let told = (stage.below there.0 o.0 o.1 (ap (λ p. leq nat_eq p t) (o.2 ∙ own) ∙ sym (leq_is n.cell t)
            ∙ prefix_leq c n.cell i place)).1 in
            rw (edges_at there.0 (one_number (mask o.0.cell) there.0 (ap mask (o.2 ∙ own)) told)) at (stage.stays there.0 i v
            (rw (← (record_known a.now there.0 r.0 r.1)) at (source_has c n.cell u i place e there.0 r.0 r.1 r.2 v q within
            target_of_label)))

    edges : HasEdges c n.cell front (cell_at b.now) n.edges
    edges = record {
      ascends = ascending n.edges sound.rises;
      place = λ x m. let l = sound.place x m in (prefix_deep c n.cell x.dim l.1, l.0, l.1);
      leads = λ x m. leads x m (sound.leads x m);
      all = λ i v q d l e h. elim (led_or_own c n.cell i v e l) [
        | inl same ↦ old_edge i v q l e (sym same ∙ h)
        | inr own ↦ let y = own_edge i v l e own in (record { dim = i; value = v; target = y.0 }, y.1, refl, refl)
      ];
      named = λ x m. let r = some_there (map.get b.now x.target) (shut k n x h m).0 in
          (r.0.cell, cell_known b.now x.target r.0 r.1);
    }
      where
        leads : (x : Edge ℕ ℕ) → Among x n.edges → (new_lead c n.cell x.dim x.value ≡ cell_at b.now x.target)
            ⊎ (slice_index_or t x.dim None ≡ Some x.value) → new_lead c n.cell x.dim x.value ≡ cell_at b.now x.target
        leads x m (inl e) = e
        leads x m (inr own) =
            let l = sound.place x m in
            let y = own_edge x.dim x.value l.0 l.1 own in
            let same : x ≡ record { dim = x.dim; value = x.value; target = y.0 }
            = label_once n.edges (ascending n.edges sound.rises) x
            (record { dim = x.dim; value = x.value; target = y.0 }) m y.1 (record { dim = refl; value = refl }) in
            sym y.2 ∙ ap (λ z. cell_at b.now z.target) (sym same)

    end : HasEndOf c (cell_at b.now) n.cell n
    end =
        let x = node.end in
        let e = ended x.0 x.1 in
        let same : e.1 ≡ n = some_same (sym e.3 ∙ ap (map.get b.now) (one_number x.0.mask e.0 x.2 e.2) ∙ h) in
        rw (← same) e.4

    pub record_is : Some (renamed (cell_at b.now) n) ≡ option_map (renamed (λ q. Some q))
        (node_of nat_cmp c.measures (c.xs ++ c.row ∷ c.ys) n.cell)
    record_is = record_right c n.cell front _ n refl sound.parent edges end

  covers_is : (p : Cell ℕ) → defs.covers (eq_by_cmp nat_cmp) p c.row ≡ true → leq nat_eq p t ≡ true
  covers_is p h = sym (leq_is p t) ∙ ap (leq (eq_by_cmp nat_cmp) p) (sym c.tuple) ∙ h

  once : (k l : ℕ) (p : Cell ℕ) → defs.covers (eq_by_cmp nat_cmp) p c.row ≡ true → cell_at b.now k ≡ Some p
      → cell_at b.now l ≡ Some p → k ≡ l
  once k l p h m q =
      let x = cell_record b.now k p m in
      let y = cell_record b.now l p q in
      let u = (stage.below k x.0 x.1 (ap (λ r. leq nat_eq r t) x.2 ∙ covers_is p h)).1 in
      let v = (stage.below l y.0 y.1 (ap (λ r. leq nat_eq r t) y.2 ∙ covers_is p h)).1 in
      some_same (sym u ∙ ap f (ap mask (x.2 ∙ sym y.2)) ∙ v)

  right : IsBelowRight c.measures c.xs c.row c.ys a b c.from.canonical
      (subst (λ s. KeepsNodes s a b) (sym c.tuple) keeps)
  right = record {
    each = λ k n h e. let l = stage.below k n h (covers_is n.cell e) in
        (node_of_prefix c n.cell l.0, record_is k n h l.0 l.1);
    once = once;
    all = λ p h node.
        let front = prefix_of_node c p (covers_is p h) node in
        let k = some_there (f _) (stage.all p front) in
        let q = stage.nodes _ k.0 k.1 in
        (k.0, q.1 ∙ ap (λ r. Some r) (prefix_told c q.0 p q.3 front q.2));
  }

  pub finished : IsTreeOf a.width b.now (record { measures = c.measures; rows = c.xs ++ c.row ∷ c.ys })
  finished = record {
    wide = all_more (λ row. length row.tuple ≡ a.width) c.xs c.ys c.row c.from.wide (sym (length-cell_of c.row.tuple)
        ∙ ap length c.tuple ∙ c.wide);
    canonical = assembled c.measures c.xs c.row c.ys a b c.from.canonical
        (subst (λ s. KeepsNodes s a b) (sym c.tuple) keeps) right;
  }
