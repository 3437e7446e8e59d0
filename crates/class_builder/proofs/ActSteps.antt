-- An arena in which one act more is done.
use Rattle.std.proofs.Common.{◌≡◌, ◌≢◌, ℕ, suc, ◌<◌, ◌≤◌, Bool, cond, ◌||◌, Option, Some, None, IsSome, is_some, List, [], ◌∷◌, ◌++◌}
use Rattle.std.proofs.Common.{length, nat_eq, nat_cmp, refl, sym, ap, subst, ◌∙◌, arith, inl, inr, append_assoc, append-nil, length-append}
use Rattle.std.proofs.Common.{replicate}
use Rattle.std.proofs.lemmas.Bool.Decides.{eqb_tells}
use Rattle.std.specs.List.{AllByRecursion}
use Rattle.std.specs.Option.{option_map}
use Rattle.std.specs.Prelude.{Result, Ok, Err, IfOk, OnOk}
use Rattle.cell_core.specs.declared.cell.NodeNo.{NodeNo}
use Rattle.std.specs.FinMap as map
use Rattle.cube_defs.specs.Cell.{Cell, depth, with_value}
use Rattle.cube_defs.specs.Rows.{Row, Agg}
use Rattle.cube_defs.specs.Tree.{Edge, Tree, cell_at, parent_cell_of, nodes}
use Rattle.cube_laws.specs.Lists.{Among}
use Rattle.cube_laws.proofs.CallerLemmas.{shared_some}
use Rattle.build_trace.specs.Trace.{Act, Act.{Add, Label, Mark}, trace, adds_of}
use Rattle.build_trace.specs.Follows.{RecordLookup, Follows, cell_by}
use Rattle.qc_arena.specs.Map.{Arena, Known, bare, frame, is_open, is_touched, with_class}
use Rattle.qc_arena.specs.RecordReaders.{record_at, record_or}
use Rattle.qc_arena.specs.Edges.{put_edge}
use Rattle.class_builder.specs.Building.{IsBuilding, ActsComeNext, PerformsActs}
use Rattle.build_trace.proofs.CallerLemmas.{adds_append, IsPut, follow_add, follow_label, follow_mark, add_fresh, add_bare, more_nodes}
use Rattle.build_trace.proofs.CallerLemmas.{put_last}
use Rattle.class_builder.proofs.Cuts.{cut-with_value, cut-root}
use Rattle.class_builder.proofs.Maps.{put_at, len_more, len_same, put_edge-last}
use Rattle.tree_laws.proofs.CallerLemmas.{some_same}

-- b has this record at the number, and else those of a
pub record OneNew (a b : Arena) (k : ℕ) (n : Known) : Type 0 where
  pub here : map.get b.now k ≡ Some n
  pub others : (q : ℕ) → q ≢ k → map.get b.now q ≡ map.get a.now q
  pub rest : frame b ≡ frame a

put_of : (a b : Arena) (k : ℕ) (n : Known) → OneNew a b k n → IsPut (λ q. map.get a.now q) k n (λ q. map.get b.now q)
put_of a b k n o = put_at a.now b.now k n o.here o.others

more_adds : (xs : List (Cell ℕ)) (p : Cell ℕ) → length (xs ++ p ∷ []) ≡ suc (length xs)
more_adds xs p = let e = length-append xs (p ∷ []) in omega arith

-- a number's cell was added
was_added : (look : RecordLookup) (done : List Act) (k : ℕ) (f : Cell ℕ) → Follows done look → cell_by look k ≡ Some f
    → Among (Add f) done
was_added look done k f follows at = go (look k) refl
  where
    go : (o : Option Known) → look k ≡ o → Among (Add f) done
    go None e = let bad : None ≡ Some f = sym (ap (option_map (λ (x : Known). x.cell)) e) ∙ at in cc
    go (Some n) e = subst (λ c. Among (Add c) done) (some_same (sym (ap (option_map (λ (x : Known). x.cell)) e) ∙ at))
        (follows.each k n e).0

module _ (measures : ℕ) (rows : List (Row ℕ)) (done rest : List Act) (a b : Arena) where
  -- a new node, whose parent has the cell without the last value
  going_add : (p : Cell ℕ) (up : Option ℕ) (k : ℕ) → IsBuilding measures rows done (Add p ∷ rest) a
      → map.get a.now k ≡ None → OneNew a b k (bare p up) → ((q : ℕ) → is_touched b q ≡ (nat_eq k q || is_touched a q))
      → option_map (cell_at a.now) up ≡ option_map (λ c. Some c) (parent_cell_of nat_cmp p)
      → IsBuilding measures rows (done ++ Add p ∷ []) rest b
  going_add p up k g free o touched parent =
      let put = put_of a b k (bare p up) o in
      let shared = shared_some rows g.some in
      let new = add_bare measures a.width rows g.wide shared done rest p g.whole in
      record {
        wide = subst (λ w. AllByRecursion (λ row. length row.tuple ≡ w) rows)
            (sym (ap (λ (v : Arena). v.width) o.rest)) g.wide;
        some = g.some;
        whole = ap (λ (v : Arena). trace measures v.width rows) o.rest ∙ g.whole
            ∙ sym (append_assoc done (Add p ∷ []) rest);
        opened = ap is_open o.rest ∙ g.opened;
        follows = follow_add done p up (λ q. map.get a.now q) (λ q. map.get b.now q) k g.follows free put
            (add_fresh measures a.width rows g.wide shared done rest p g.whole) new.0 new.1 parent;
        count = len_more a.now b.now k (bare p up) put free ∙ ap suc g.count ∙ sym (more_adds (adds_of done) p)
            ∙ ap length (sym (adds_append done (Add p ∷ [])));
        touched = λ q h. elim (eqb_tells k q) [
          | inl e ↦ touched q ∙ ap (λ t. t || is_touched a q) e.0
          | inr e ↦ touched q ∙ ap (λ t. t || is_touched a q) e.0
              ∙ g.touched q (subst IsSome (o.others q (λ s. e.1 (sym s))) h)
        ];
      }

  -- another record at a node's number
  going_change : (e : Act) (k : ℕ) (m n : Known) → IsBuilding measures rows done (e ∷ rest) a → map.get a.now k ≡ Some m
      → OneNew a b k n → ((q : ℕ) → is_touched b q ≡ is_touched a q) → adds_of (e ∷ []) ≡ []
      → Follows (done ++ e ∷ []) (λ q. map.get b.now q) → IsBuilding measures rows (done ++ e ∷ []) rest b
  going_change e k m n g was o touched none follows = record {
    wide = subst (λ w. AllByRecursion (λ row. length row.tuple ≡ w) rows)
        (sym (ap (λ (v : Arena). v.width) o.rest)) g.wide;
    some = g.some;
    whole = ap (λ (v : Arena). trace measures v.width rows) o.rest ∙ g.whole ∙ sym (append_assoc done (e ∷ []) rest);
    opened = ap is_open o.rest ∙ g.opened;
    follows = follows;
    count = len_same a.now b.now k n m (put_of a b k n o) was ∙ g.count
        ∙ sym (ap length (adds_append done (e ∷ []) ∙ ap (λ xs. adds_of done ++ xs) none ∙ append-nil (adds_of done)));
    touched = λ q h. touched q ∙ elim (eqb_tells q k) [
      | inl s ↦ g.touched q (ap (λ x. is_some (map.get a.now x)) s.1 ∙ ap is_some was)
      | inr s ↦ g.touched q (subst IsSome (o.others q s.1) h)
    ];
  }

-- each number keeps its cell
kept_cells : (a b : Arena) (k : ℕ) (m n : Known) → map.get a.now k ≡ Some m → n.cell ≡ m.cell → OneNew a b k n
    → (q : ℕ) (c : Cell ℕ) → cell_at a.now q ≡ Some c → cell_at b.now q ≡ Some c
kept_cells a b k m n was same o q c h = elim (eqb_tells q k) [
  | inl s ↦ ap (cell_at b.now) s.1 ∙ ap (option_map (λ (x : Known). x.cell)) o.here ∙ ap (λ x. Some x) same
      ∙ sym (ap (option_map (λ (x : Known). x.cell)) was) ∙ ap (cell_at a.now) (sym s.1) ∙ h
  | inr s ↦ ap (option_map (λ (x : Known). x.cell)) (o.others q s.1) ∙ h
]

-- a record with one label more
abbrev pub with_label : Bool → Edge ℕ ℕ → Known → Known
with_label b e n = record n { forced = cond b (Some e) n.forced; edges = put_edge e n.edges }

module _ (measures : ℕ) (rows : List (Row ℕ)) (a b : Arena) (k : ℕ) where
  -- a node is added
  does_add : (p : Cell ℕ) (up : Option ℕ) → map.get a.now k ≡ None → OneNew a b k (bare p up)
      → ((q : ℕ) → is_touched b q ≡ (nat_eq k q || is_touched a q))
      → ((done rest : List Act) → IsBuilding measures rows done (Add p ∷ rest) a
      → option_map (cell_at a.now) up ≡ option_map (λ c. Some c) (parent_cell_of nat_cmp p))
      → PerformsActs measures rows (Add p ∷ []) a b
  does_add p up free o touched parent = record {
    acts = λ done rest g. going_add measures rows done rest a b p up k g free o touched (parent done rest g);
    cells = λ q c h. elim (eqb_tells q k) [
      | inl s ↦ absurd (let bad : None ≡ Some c
          = sym (ap (option_map (λ (x : Known). x.cell)) (ap (map.get a.now) s.1 ∙ free)) ∙ h in cc)
      | inr s ↦ ap (option_map (λ (x : Known). x.cell)) (o.others q s.1) ∙ h
    ];
  }

  -- the root is added
  pub does_root : map.get a.now k ≡ None → OneNew a b k (bare (replicate a.width None) None)
      → ((q : ℕ) → is_touched b q ≡ (nat_eq k q || is_touched a q))
      → PerformsActs measures rows (Add (replicate a.width None) ∷ []) a b
  does_root free o touched
      = does_add (replicate a.width None) None free o touched
      (λ done rest g. sym (ap (option_map (λ c. Some c)) (cut-root a.width)))

  -- a node is added as a child of its parent
  pub does_child : (up : ℕ) (f : Cell ℕ) (i v : ℕ) → cell_at a.now up ≡ Some f → depth f ≤ i → map.get a.now k ≡ None
      → OneNew a b k (bare (with_value f i v) (Some up)) → ((q : ℕ) → is_touched b q ≡ (nat_eq k q || is_touched a q))
      → PerformsActs measures rows (Add (with_value f i v) ∷ []) a b
  does_child up f i v at behind free o touched = does_add (with_value f i v) (Some up) free o touched (λ done rest g.
      let new = add_fresh measures a.width rows g.wide (shared_some rows g.some) done rest (with_value f i v) g.whole in
      let old : Among (Add f) done = was_added (λ q. map.get a.now q) done up f g.follows at in
      ap (λ c. Some c) at ∙ sym (ap (option_map (λ c. Some c))
      (cut-with_value f i v behind (λ e. new (subst (λ c. Among (Add c) done) (sym e) old)))))

  -- a label is set, to a node that is there
  pub does_label : (forced : Bool) (f t : Cell ℕ) (i v l : ℕ) → cell_at a.now k ≡ Some f → cell_at a.now l ≡ Some t
      → (m : Known) → map.get a.now k ≡ Some m
      → OneNew a b k (with_label forced (record { dim = i; value = v; target = l }) m)
      → ((q : ℕ) → is_touched b q ≡ is_touched a q) → PerformsActs measures rows (Label forced f i v t ∷ []) a b
  does_label forced f t i v l at target m was o touched
      = record { acts = acts; cells = kept_cells a b k m _ was refl o }
    where
      is : m.cell ≡ f
      is = some_same (sym (ap (option_map (λ (x : Known). x.cell)) was) ∙ at)

      acts : (done rest : List Act) → IsBuilding measures rows done (Label forced f i v t ∷ rest) a
          → IsBuilding measures rows (done ++ Label forced f i v t ∷ []) rest b
      acts done rest g =
          let e : Edge ℕ ℕ = record { dim = i; value = v; target = l } in
          let last = put_edge-last e m.edges
          (put_last measures a.width rows g.wide (shared_some rows g.some) done rest forced f i v t
          (λ q. map.get a.now q) k m g.whole g.follows was is) in
          let put = subst (λ es. IsPut (λ q. map.get a.now q) k
          (record m { forced = cond forced (Some e) m.forced; edges = es }) (λ q. map.get b.now q)) last
          (put_of a b k _ o) in
          going_change measures rows done rest a b (Label forced f i v t) k m _ g was o touched refl
          (subst (λ c. Follows (done ++ Label forced c i v t ∷ []) (λ q. map.get b.now q)) is
          (follow_label done forced i v t (λ q. map.get a.now q) (λ q. map.get b.now q) k l m g.follows was target put))

  -- a class is marked
  pub does_mark : (w : Cell ℕ) (x : Agg) → cell_at a.now k ≡ Some w → (m : Known) → map.get a.now k ≡ Some m
      → OneNew a b k (with_class (Some x) m) → ((q : ℕ) → is_touched b q ≡ is_touched a q)
      → PerformsActs measures rows (Mark w x ∷ []) a b
  does_mark w x at m was o touched = record { acts = acts; cells = kept_cells a b k m _ was refl o }
    where
      is : m.cell ≡ w
      is = some_same (sym (ap (option_map (λ (x : Known). x.cell)) was) ∙ at)

      acts : (done rest : List Act) → IsBuilding measures rows done (Mark w x ∷ rest) a
          → IsBuilding measures rows (done ++ Mark w x ∷ []) rest b
      acts done rest g =
          going_change measures rows done rest a b (Mark w x) k m _ g was o touched refl
          (subst (λ c. Follows (done ++ Mark c x ∷ []) (λ q. map.get b.now q)) is
          (follow_mark done x (λ q. map.get a.now q) (λ q. map.get b.now q) k m g.follows was (put_of a b k _ o)))

-- one act after another
pub does_both : (measures : ℕ) (rows : List (Row ℕ)) (e f : Act) (a b c : Arena)
    → PerformsActs measures rows (e ∷ []) a b → PerformsActs measures rows (f ∷ []) b c
    → PerformsActs measures rows (e ∷ f ∷ []) a c
does_both measures rows e f a b c d h = record {
  acts = λ done rest g. subst (λ es. IsBuilding measures rows es rest c) (append_assoc done (e ∷ []) (f ∷ []))
      (h.acts (done ++ e ∷ []) rest (d.acts done (f ∷ rest) g));
  cells = λ q x at. h.cells q x (d.cells q x at);
}

-- where a node comes next, there are more nodes than there are records
pub more_next : (measures : ℕ) (rows : List (Row ℕ)) (p : Cell ℕ) (es : List Act) (a : Arena)
    → ActsComeNext measures rows (Add p ∷ es) a → map.len a.now ≡ a.max → a.max < length (nodes nat_cmp rows)
more_next measures rows p es a n full =
    let g = n.going in
    let more = more_nodes measures a.width rows g.wide (shared_some rows g.some) n.done (es ++ n.rest) p g.whole in
    let count = g.count in
    omega arith

-- a root that was added
pub root_made : {E : Type 0} (r : Result NodeNo E) (a b : Arena) → IfOk r (λ k. map.get a.now k.0 ≡ None)
    → IfOk r (λ k. map.get b.now k.0 ≡ Some (bare (replicate a.width None) None))
    → IfOk r (λ k. (q : ℕ) → q ≢ k.0 → map.get b.now q ≡ map.get a.now q)
    → IfOk r (λ k. (q : ℕ) → is_touched b q ≡ (nat_eq k.0 q || is_touched a q)) → frame b ≡ frame a
    → OnOk r ((measures : ℕ) (rows : List (Row ℕ)) → PerformsActs measures rows (Add (replicate a.width None) ∷ []) a b)
root_made (Ok k) a b free here others touched rest
    = λ measures rows. does_root measures rows a b k.0 free
    (record { here = here; others = others; rest = rest }) touched
root_made (Err e) a b free here others touched rest = tt

-- the cell of a record that is there
pub cell_of_record : (t : Tree ℕ) (k : ℕ) (f : Cell ℕ) → cell_at t k ≡ Some f → (record_at t k).cell ≡ f
cell_of_record t k f at = go (map.get t k) at
  where
    go : (o : Option Known) → option_map (λ (x : Known). x.cell) o ≡ Some f → (record_or o).cell ≡ f
    go None e = cc
    go (Some n) e = cc
