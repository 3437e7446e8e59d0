-- What is read off the acts with one more.
use Rattle.std.proofs.Common.{◌≡◌, ℕ, Bool, true, false, cond, Option, Some, None, List, [], ◌∷◌, ◌++◌, map, nat_eq, refl, ap, ◌∙◌}
use Rattle.std.proofs.lemmas.List.{map-append, append-nil}
use Rattle.cube_defs.specs.Cell.{Cell, cell_eq}
use Rattle.cube_defs.specs.Rows.{Agg}
use Rattle.cube_defs.specs.Tree.{Edge, Node}
use Rattle.build_trace.specs.Trace.{Act, Act.{Add, Label, Mark}, Put, put_of, puts_of, labels_of, forced_by, forced_in, mark_by, mark_of}
use Rattle.build_trace.specs.Trace.{read, adds_of}

pub puts_append : (q : Cell ℕ) (xs ys : List Act) → puts_of q (xs ++ ys) ≡ puts_of q xs ++ puts_of q ys
puts_append q [] ys = refl
puts_append q (Add p ∷ xs) ys = puts_append q xs ys
puts_append q (Mark w a ∷ xs) ys = puts_append q xs ys
puts_append q (Label b f i v t ∷ xs) ys = go (puts_append q xs ys) (cell_eq nat_eq f q)
  where
    go : puts_of q (xs ++ ys) ≡ puts_of q xs ++ puts_of q ys → (d : Bool)
        → cond d (put_of b i v t ∷ puts_of q (xs ++ ys)) (puts_of q (xs ++ ys)) ≡ cond d (put_of b i v t ∷ puts_of q xs)
        (puts_of q xs) ++ puts_of q ys
    go more true = ap (λ es. put_of b i v t ∷ es) more
    go more false = more

pub labels_append : (q : Cell ℕ) (xs ys : List Act) → labels_of q (xs ++ ys) ≡ labels_of q xs ++ labels_of q ys
labels_append q xs ys = ap (map (λ s. s.edge)) (puts_append q xs ys)
    ∙ map-append (λ s. s.edge) (puts_of q xs) (puts_of q ys)

pub adds_append : (xs ys : List Act) → adds_of (xs ++ ys) ≡ adds_of xs ++ adds_of ys
adds_append [] ys = refl
adds_append (Add p ∷ xs) ys = ap (λ es. p ∷ es) (adds_append xs ys)
adds_append (Label b f i v t ∷ xs) ys = adds_append xs ys
adds_append (Mark w a ∷ xs) ys = adds_append xs ys

-- the last of two readings
abbrev pub later : {X : Type 0} → Option X → Option X → Option X
later o None = o
later o (Some x) = Some x

mark_append : (q : Cell ℕ) (xs ys : List Act) → mark_of q (xs ++ ys) ≡ later (mark_of q xs) (mark_of q ys)
mark_append q [] ys = none (mark_of q ys)
  where
    none : (o : Option Agg) → o ≡ later None o
    none None = refl
    none (Some x) = refl
mark_append q (Add p ∷ xs) ys = mark_append q xs ys
mark_append q (Label b f i v t ∷ xs) ys = mark_append q xs ys
mark_append q (Mark w a ∷ xs) ys = ap (λ o. mark_by o (cell_eq nat_eq w q) a) (mark_append q xs ys)
    ∙ go (mark_of q xs) (mark_of q ys)
  where
    go : (o p : Option Agg) → mark_by (later o p) (cell_eq nat_eq w q) a ≡ later (mark_by o (cell_eq nat_eq w q) a) p
    go o None = refl
    go o (Some x) = refl

forced_append : (xs ys : List Put) → forced_in (xs ++ ys) ≡ later (forced_in xs) (forced_in ys)
forced_append [] ys = none (forced_in ys)
  where
    none : (o : Option (Edge ℕ (Cell ℕ))) → o ≡ later None o
    none None = refl
    none (Some x) = refl
forced_append (s ∷ xs) ys = ap (λ o. forced_by o s) (forced_append xs ys) ∙ go (forced_in xs) (forced_in ys)
  where
    go : (o p : Option (Edge ℕ (Cell ℕ))) → forced_by (later o p) s ≡ later (forced_by o s) p
    go o None = refl
    go o (Some x) = refl

pub same_node : {T : Type 0} (n m : Node ℕ T) → n.cell ≡ m.cell → n.parent ≡ m.parent → n.class ≡ m.class
    → n.forced ≡ m.forced → n.edges ≡ m.edges → n ≡ m
same_node n m a b c d e = λ i. record { cell = a i; parent = b i; class = c i; forced = d i; edges = e i }

-- what one act does to the record of q
abbrev pub with_put : Bool → Bool → Edge ℕ (Cell ℕ) → Node ℕ (Cell ℕ) → Node ℕ (Cell ℕ)
with_put here b e n = cond here (record {
  cell = n.cell;
  parent = n.parent;
  class = n.class;
  forced
      = cond b (Some e) n.forced;
  edges = n.edges ++ e ∷ [];
}) n

abbrev pub with_class : Bool → Agg → Node ℕ (Cell ℕ) → Node ℕ (Cell ℕ)
with_class here a n = cond here (record {
  cell = n.cell;
  parent = n.parent;
  class = Some a;
  forced = n.forced;
  edges
      = n.edges;
}) n

pub read_add : (done : List Act) (p q : Cell ℕ) → read (done ++ Add p ∷ []) q ≡ read done q
read_add done p q =
    same_node (read (done ++ Add p ∷ []) q) (read done q) refl refl (mark_append q done (Add p ∷ []))
    (ap forced_in (puts_append q done (Add p ∷ []) ∙ append-nil (puts_of q done)))
    (ap (map (λ s. s.edge)) (puts_append q done (Add p ∷ []) ∙ append-nil (puts_of q done)))

pub read_label : (done : List Act) (b : Bool) (f : Cell ℕ) (i v : ℕ) (t q : Cell ℕ)
    → read (done ++ Label b f i v t ∷ []) q ≡ with_put (cell_eq nat_eq f q) b
    (record { dim = i; value = v; target = t }) (read done q)
read_label done b f i v t q = go (cell_eq nat_eq f q) refl
  where
    put : (d : Bool) → cell_eq nat_eq f q ≡ d → puts_of q (done ++ Label b f i v t ∷ []) ≡ puts_of q done
        ++ cond d (put_of b i v t ∷ []) []
    put d e = puts_append q done (Label b f i v t ∷ []) ∙ ap (λ d. puts_of q done ++ cond d (put_of b i v t ∷ []) []) e

    last : (b : Bool) (o : Option (Edge ℕ (Cell ℕ)))
        → later o (cond b (Some (record { dim = i; value = v; target = t })) None)
        ≡ cond b (Some (record { dim = i; value = v; target = t })) o
    last true o = refl
    last false o = refl

    go : (d : Bool) → cell_eq nat_eq f q ≡ d
        → read (done ++ Label b f i v t ∷ []) q ≡ with_put d b (record { dim = i; value = v; target = t }) (read done q)
    go true e =
        same_node (read (done ++ Label b f i v t ∷ []) q)
        (with_put true b (record { dim = i; value = v; target = t }) (read done q)) refl refl
        (mark_append q done (Label b f i v t ∷ []))
        (ap forced_in (put true e) ∙ forced_append (puts_of q done) (put_of b i v t ∷ [])
        ∙ last b (forced_in (puts_of q done)))
        (ap (map (λ s. s.edge)) (put true e) ∙ map-append (λ s. s.edge) (puts_of q done) (put_of b i v t ∷ []))
    go false e =
        same_node (read (done ++ Label b f i v t ∷ []) q) (read done q) refl refl
        (mark_append q done (Label b f i v t ∷ []))
        (ap forced_in (put false e ∙ append-nil (puts_of q done)))
        (ap (map (λ s. s.edge)) (put false e ∙ append-nil (puts_of q done)))

pub read_mark : (done : List Act) (w : Cell ℕ) (a : Agg) (q : Cell ℕ)
    → read (done ++ Mark w a ∷ []) q ≡ with_class (cell_eq nat_eq w q) a (read done q)
read_mark done w a q = go (cell_eq nat_eq w q) refl
  where
    mark : (d : Bool) → cell_eq nat_eq w q ≡ d
        → mark_of q (done ++ Mark w a ∷ []) ≡ later (mark_of q done) (cond d (Some a) None)
    mark d e = mark_append q done (Mark w a ∷ []) ∙ ap (λ d. later (mark_of q done) (cond d (Some a) None)) e

    go : (d : Bool) → cell_eq nat_eq w q ≡ d → read (done ++ Mark w a ∷ []) q ≡ with_class d a (read done q)
    go true e =
        same_node (read (done ++ Mark w a ∷ []) q) (with_class true a (read done q)) refl refl (mark true e)
        (ap forced_in (puts_append q done (Mark w a ∷ []) ∙ append-nil (puts_of q done)))
        (ap (map (λ s. s.edge)) (puts_append q done (Mark w a ∷ []) ∙ append-nil (puts_of q done)))
    go false e =
        same_node (read (done ++ Mark w a ∷ []) q) (read done q) refl refl (mark false e)
        (ap forced_in (puts_append q done (Mark w a ∷ []) ∙ append-nil (puts_of q done)))
        (ap (map (λ s. s.edge)) (puts_append q done (Mark w a ∷ []) ∙ append-nil (puts_of q done)))
