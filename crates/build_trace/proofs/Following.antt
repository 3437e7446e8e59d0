-- A map that follows some acts follows one more once the step is made.
use Rattle.std.proofs.Common.{◌≡◌, inl, inr, ℕ, Bool, true, false, cond, Option, Some, None, List, [], ◌∷◌, ◌++◌, map, nat_eq, nat_cmp}
use Rattle.std.proofs.Common.{refl, sym, ap, ap₂, subst, ◌∙◌, true≢false, eqb-true, eq-eqb}
use Rattle.std.proofs.lemmas.Bool.{cond-true, cond-false, false_from_ne_true}
use Rattle.std.proofs.lemmas.List.{map-append}
use Rattle.std.specs.Option.{option_map}
use Rattle.cube_defs.specs.Cell.{Cell, cell_eq}
use Rattle.cube_defs.specs.Rows.{Agg}
use Rattle.cube_defs.specs.Tree.{Node, renamed, renamed_edge, parent_cell_of, Tree, IsCanonical}
use mathlib.Core.Path.{fun_ext}
use Rattle.std.specs.FinMap as finmap
use Rattle.cube_laws.specs.Lists.{Among}
use Rattle.cube_laws.proofs.CallerLemmas.{nat_equality, cell_eq-exact, cell_eq-same, among_left}
use Rattle.tree_laws.proofs.CallerLemmas.{some_same}
use Rattle.build_trace.specs.Trace.{Act, Act.{Add, Label, Mark}, puts_of, labels_of, forced_in, mark_of, read}
use Rattle.build_trace.specs.Follows.{RecordLookup, Follows, cell_by}
use Rattle.build_trace.proofs.Lists.{among_right, among_either}
use Rattle.build_trace.proofs.Steps.{same_node, with_put, read_add, read_label, read_mark}
use Rattle.build_trace.proofs.Names.{renamed_more}

-- the record with number k is replaced
abbrev pub IsPut : RecordLookup → ℕ → Node ℕ ℕ → RecordLookup → Type 0
IsPut look k n more = (q : ℕ) → more q ≡ cond (nat_eq q k) (Some n) (look q)

put_here : (look : RecordLookup) (k : ℕ) (n : Node ℕ ℕ) (more : RecordLookup) → IsPut look k n more → more k ≡ Some n
put_here look k n more put = put k ∙ cond-true (nat_eq k k) _ _ (eq-eqb k k refl)

cells_stay : (look : RecordLookup) (k : ℕ) (n m : Node ℕ ℕ) (more : RecordLookup) → look k ≡ Some n → m.cell ≡ n.cell
    → IsPut look k m more → cell_by more ≡ cell_by look
cells_stay look k n m more was cell put = fun_ext (λ q. go q (nat_eq q k) refl)
  where
    go : (q : ℕ) (b : Bool) → nat_eq q k ≡ b → cell_by more q ≡ cell_by look q
    go q true e = ap (option_map (λ n. n.cell)) (put q ∙ cond-true (nat_eq q k) _ _ e) ∙ ap (λ c. Some c) cell
        ∙ ap (option_map (λ n. n.cell)) (sym was) ∙ ap (cell_by look) (sym (eqb-true q k e))
    go q false e = ap (option_map (λ n. n.cell)) (put q ∙ cond-false (nat_eq q k) _ _ e)

-- an act that adds no node changes the record of one
pub follow_at : (done : List Act) (e : Act) (look more : RecordLookup) (k : ℕ) (n m : Node ℕ ℕ) → Follows done look
    → look k ≡ Some n → m.cell ≡ n.cell → IsPut look k m more
    → ((c : Cell ℕ) → Add c ≡ e → ⊥)
    → ((q : Cell ℕ) → cell_eq nat_eq n.cell q ≡ false → read (done ++ e ∷ []) q ≡ read done q)
    → renamed (cell_by look) m ≡ renamed (λ c. Some c) (read (done ++ e ∷ []) n.cell)
    → Follows (done ++ e ∷ []) more
follow_at done e look more k n m f was cell put other beside here = record {
  each = each_is;
  once = λ a b c h g. f.once a b c (sym (ap (λ l. l a) names) ∙ h) (sym (ap (λ l. l b) names) ∙ g);
  all = λ c a. let r : (k : ℕ) × (cell_by look k ≡ Some c) = f.all c (old c a) in (r.0, ap (λ l. l r.0) names ∙ r.1);
}
  where
    names : cell_by more ≡ cell_by look
    names = cells_stay look k n m more was cell put

    old : (c : Cell ℕ) → Among (Add c) (done ++ e ∷ []) → Among (Add c) done
    old c a = elim (among_either (Add c) done (e ∷ []) a) [
      | inl a ↦ a
      | inr b ↦ elim b [ inl s ↦ absurd (other c s) | inr b ↦ absurd b ]
    ]

    each_is : (q : ℕ) (x : Node ℕ ℕ) → more q ≡ Some x → Among (Add x.cell) (done ++ e ∷ [])
        × (renamed (cell_by more) x ≡ renamed (λ c. Some c) (read (done ++ e ∷ []) x.cell))
    each_is q x h = go (nat_eq q k) refl
      where
        go : (b : Bool) → nat_eq q k ≡ b → Among (Add x.cell) (done ++ e ∷ [])
            × (renamed (cell_by more) x ≡ renamed (λ c. Some c) (read (done ++ e ∷ []) x.cell))
        go true t =
            let is : m ≡ x = some_same (sym (put q ∙ cond-true (nat_eq q k) _ _ t) ∙ h) in
            let c : x.cell ≡ n.cell = ap (λ y. y.cell) (sym is) ∙ cell in (
              among_left (Add x.cell) done (e ∷ []) (subst (λ z. Among (Add z) done) (sym c) (f.each k n was).0),
              ap (λ l. renamed l x) names ∙ ap (renamed (cell_by look)) (sym is) ∙ here
                  ∙ ap (λ z. renamed (λ c. Some c) (read (done ++ e ∷ []) z)) (sym c),
            )
        go false t =
            let was_x : look q ≡ Some x = sym (put q ∙ cond-false (nat_eq q k) _ _ t) ∙ h in
            let differs : cell_eq nat_eq n.cell x.cell ≡ false = false_from_ne_true _ (λ s.
            let same : n.cell ≡ x.cell = cell_eq-exact nat_equality n.cell x.cell s in
            let num : q ≡ k = f.once q k x.cell (ap (option_map (λ n. n.cell)) was_x) (ap (option_map (λ n. n.cell)) was
            ∙ ap (λ c. Some c) same) in
            true≢false (sym (eq-eqb q k num) ∙ t)) in (
              among_left (Add x.cell) done (e ∷ []) (f.each q x was_x).0,
              ap (λ l. renamed l x) names ∙ (f.each q x was_x).1
                  ∙ ap (renamed (λ c. Some c)) (sym (beside x.cell differs)),
            )

-- a label at a node that is there, to one that is there
pub follow_label : (done : List Act) (b : Bool) (i v : ℕ) (t : Cell ℕ) (look more : RecordLookup) (k l : ℕ)
    (n : Node ℕ ℕ) → Follows done look → look k ≡ Some n → cell_by look l ≡ Some t
    → IsPut look k (record {
      cell = n.cell;
      parent = n.parent;
      class = n.class;
      forced
          = cond b (Some (record { dim = i; value = v; target = l })) n.forced;
      edges
          = n.edges ++ (record { dim = i; value = v; target = l }) ∷ [];
    }) more
    → Follows (done ++ Label b n.cell i v t ∷ []) more
follow_label done b i v t look more k l n f was target put =
    follow_at done (Label b n.cell i v t) look more k n _ f was refl put (λ c s. cc)
    (λ q s. read_label done b n.cell i v t q ∙ cond-false (cell_eq nat_eq n.cell q) _ _ s)
    (is ∙ ap (renamed (λ c. Some c))
    (sym (cond-true (cell_eq nat_eq n.cell n.cell) _ _ (cell_eq-same nat_equality n.cell))
    ∙ sym (read_label done b n.cell i v t n.cell)))
  where
    named : renamed_edge (cell_by look) (record { dim = i; value = v; target = l }) ≡ renamed_edge (λ c. Some c)
        (record { dim = i; value = v; target = t })
    named = ap (λ o. record { dim = i; value = v; target = o }) target

    old : renamed (cell_by look) n ≡ renamed (λ c. Some c) (read done n.cell)
    old = (f.each k n was).1

    forced : (b : Bool) → option_map (renamed_edge (cell_by look))
        (cond b (Some (record { dim = i; value = v; target = l })) n.forced) ≡ option_map (renamed_edge (λ c. Some c))
        (cond b (Some (record { dim = i; value = v; target = t })) (read done n.cell).forced)
    forced true = ap (λ x. Some x) named
    forced false = ap (λ m. m.forced) old

    is : renamed (cell_by look) (record {
      cell = n.cell;
      parent = n.parent;
      class = n.class;
      forced
          = cond b (Some (record { dim = i; value = v; target = l })) n.forced;
      edges
          = n.edges ++ (record { dim = i; value = v; target = l }) ∷ [];
    })
        ≡ renamed (λ c. Some c) (with_put true b (record { dim = i; value = v; target = t }) (read done n.cell))
    is = same_node _ _ refl (ap (λ m. m.parent) old) (ap (λ m. m.class) old) (forced b)
        (map-append (renamed_edge (cell_by look)) n.edges ((record { dim = i; value = v; target = l }) ∷ [])
        ∙ ap₂ (λ xs x. xs ++ x ∷ []) (ap (λ m. m.edges) old) named
        ∙ sym (map-append (renamed_edge (λ c. Some c)) (labels_of n.cell done)
        ((record { dim = i; value = v; target = t }) ∷ [])))

pub follow_mark : (done : List Act) (a : Agg) (look more : RecordLookup) (k : ℕ) (n : Node ℕ ℕ) → Follows done look
    → look k ≡ Some n
    → IsPut look k (record {
      cell = n.cell;
      parent = n.parent;
      class = Some a;
      forced = n.forced;
      edges
          = n.edges;
    }) more
    → Follows (done ++ Mark n.cell a ∷ []) more
follow_mark done a look more k n f was put =
    follow_at done (Mark n.cell a) look more k n _ f was refl put (λ c s. cc)
    (λ q s. read_mark done n.cell a q ∙ cond-false (cell_eq nat_eq n.cell q) _ _ s)
    (same_node _ _ refl (ap (λ m. m.parent) old) refl (ap (λ m. m.forced) old) (ap (λ m. m.edges) old)
    ∙ ap (renamed (λ c. Some c)) (sym (cond-true (cell_eq nat_eq n.cell n.cell) _ _ (cell_eq-same nat_equality n.cell))
    ∙ sym (read_mark done n.cell a n.cell)))
  where
    old : renamed (cell_by look) n ≡ renamed (λ c. Some c) (read done n.cell)
    old = (f.each k n was).1

-- a new node
pub follow_add : (done : List Act) (p : Cell ℕ) (up : Option ℕ) (look more : RecordLookup) (k : ℕ) → Follows done look
    → look k ≡ None
    → IsPut look k (record { cell = p; parent = up; class = None; forced = None; edges = [] }) more
    → (Among (Add p) done → ⊥) → puts_of p done ≡ [] → mark_of p done ≡ None
    → option_map (cell_by look) up ≡ option_map (λ c. Some c) (parent_cell_of nat_cmp p)
    → Follows (done ++ Add p ∷ []) more
follow_add done p up look more k f free put fresh puts mark parent
    = record { each = each_is; once = once_is; all = all_are }
  where
    n : Node ℕ ℕ
    n = record { cell = p; parent = up; class = None; forced = None; edges = [] }

    at_k : (q : ℕ) → nat_eq q k ≡ true → more q ≡ Some n
    at_k q e = put q ∙ cond-true (nat_eq q k) _ _ e

    beside : (q : ℕ) → nat_eq q k ≡ false → more q ≡ look q
    beside q e = put q ∙ cond-false (nat_eq q k) _ _ e

    extends : (l : ℕ) (c : Cell ℕ) → cell_by look l ≡ Some c → cell_by more l ≡ Some c
    extends l c h = go (nat_eq l k) refl
      where
        go : (b : Bool) → nat_eq l k ≡ b → cell_by more l ≡ Some c
        go true e = absurd (let bad : None ≡ Some c = sym (ap (option_map (λ n. n.cell)) free)
            ∙ ap (cell_by look) (sym (eqb-true l k e)) ∙ h in cc)
        go false e = ap (option_map (λ n. n.cell)) (beside l e) ∙ h

    bare : renamed (cell_by look) n ≡ renamed (λ c. Some c) (read done p)
    bare = same_node _ _ refl parent (sym mark)
        (sym (ap (λ ss. option_map (renamed_edge (λ c. Some c)) (forced_in ss)) puts))
        (sym (ap (λ ss. map (renamed_edge (λ c. Some c)) (map (λ s. s.edge) ss)) puts))

    new_add : Among (Add p) (done ++ Add p ∷ [])
    new_add = among_right (Add p) done (Add p ∷ []) (inl refl)

    each_is : (q : ℕ) (x : Node ℕ ℕ) → more q ≡ Some x → Among (Add x.cell) (done ++ Add p ∷ [])
        × (renamed (cell_by more) x ≡ renamed (λ c. Some c) (read (done ++ Add p ∷ []) x.cell))
    each_is q x h = go (nat_eq q k) refl
      where
        go : (b : Bool) → nat_eq q k ≡ b → Among (Add x.cell) (done ++ Add p ∷ [])
            × (renamed (cell_by more) x ≡ renamed (λ c. Some c) (read (done ++ Add p ∷ []) x.cell))
        go true t =
            let is : n ≡ x = some_same (sym (at_k q t) ∙ h) in
            subst (λ y. Among (Add y.cell) (done ++ Add p ∷ [])
            × (renamed (cell_by more) y ≡ renamed (λ c. Some c) (read (done ++ Add p ∷ []) y.cell))) is (
              new_add,
              renamed_more (cell_by look) (cell_by more) extends n (read done p) bare
                  ∙ ap (renamed (λ c. Some c)) (sym (read_add done p p)),
            )
        go false t =
            let e = f.each q x (sym (beside q t) ∙ h) in (
              among_left (Add x.cell) done (Add p ∷ []) e.0,
              renamed_more (cell_by look) (cell_by more) extends x (read done x.cell) e.1
                  ∙ ap (renamed (λ c. Some c)) (sym (read_add done p x.cell)),
            )

    -- an old number has another cell
    old_other : (q : ℕ) → cell_by look q ≡ Some p → ⊥
    old_other q h = go (look q) refl
      where
        go : (o : Option (Node ℕ ℕ)) → look q ≡ o → ⊥
        go None e = let bad : None ≡ Some p = sym (ap (option_map (λ n. n.cell)) e) ∙ h in cc
        go (Some x) e = let c : x.cell ≡ p = some_same (sym (ap (option_map (λ n. n.cell)) e) ∙ h) in
            fresh (subst (λ z. Among (Add z) done) c (f.each q x e).0)

    once_is : (a b : ℕ) (c : Cell ℕ) → cell_by more a ≡ Some c → cell_by more b ≡ Some c → a ≡ b
    once_is a b c h g = go (nat_eq a k) (nat_eq b k) refl refl
      where
        mixed : (q w : ℕ) → nat_eq q k ≡ true → nat_eq w k ≡ false → cell_by more q ≡ Some c
            → cell_by more w ≡ Some c → ⊥
        mixed q w e d x y =
            let is : p ≡ c = some_same (sym (ap (option_map (λ n. n.cell)) (at_k q e)) ∙ x) in
            old_other w (sym (ap (option_map (λ n. n.cell)) (beside w d)) ∙ y ∙ ap (λ z. Some z) (sym is))

        go : (x y : Bool) → nat_eq a k ≡ x → nat_eq b k ≡ y → a ≡ b
        go true true e d = eqb-true a k e ∙ sym (eqb-true b k d)
        go true false e d = absurd (mixed a b e d h g)
        go false true e d = absurd (mixed b a d e g h)
        go false false e d = f.once a b c (sym (ap (option_map (λ n. n.cell)) (beside a e)) ∙ h)
            (sym (ap (option_map (λ n. n.cell)) (beside b d)) ∙ g)

    all_are : (c : Cell ℕ) → Among (Add c) (done ++ Add p ∷ []) → (q : ℕ) × (cell_by more q ≡ Some c)
    all_are c a = elim (among_either (Add c) done (Add p ∷ []) a) [
      | inl a ↦ let r : (q : ℕ) × (cell_by look q ≡ Some c) = f.all c a in (r.0, extends r.0 c r.1)
      | inr b ↦ elim b [
        | inl s ↦ let is : c ≡ p = cc in
            (k, ap (option_map (λ n. n.cell)) (put_here look k n more put) ∙ ap (λ z. Some z) (sym is))
        | inr b ↦ absurd b
      ]
    ]

-- a table without rows
pub none_canonical : (measures : ℕ) (tree : Tree ℕ) → ((k : ℕ) → finmap.get tree k ≡ None)
    → IsCanonical nat_cmp measures [] tree
none_canonical measures tree none = record {
  each = λ k n h. let bad : None ≡ Some n = sym (none k) ∙ h in cc;
  once = λ k l c h g. let bad : None ≡ Some c = sym (ap (option_map (λ n. n.cell)) (none k)) ∙ h in cc;
  all = λ c h. absurd (true≢false (sym h));
}

-- nothing is done
pub follow_none : (look : RecordLookup) → ((k : ℕ) → look k ≡ None) → Follows [] look
follow_none look none = record {
  each = λ k n h. let bad : None ≡ Some n = sym (none k) ∙ h in cc;
  once = λ k l c h g. let bad : None ≡ Some c = sym (ap (option_map (λ n. n.cell)) (none k)) ∙ h in cc;
  all = λ c a. absurd a;
}
