-- A schema with one more dimension is a schema.
use Rattle.std.proofs.Common.{◌≡◌, ◌<◌, ◌∙◌, ℕ, List, [], ◌∷◌, ◌++◌, Bool, true, false, length, map, refl, sym, ap, arith, append_assoc}
use Rattle.std.specs.Prelude.{not}
use Rattle.std.specs.Bool.{Decides}
use Rattle.std.specs.List.{list_all, list_any}
use Rattle.std.specs.Str.{bytes_eq}
use Rattle.std.proofs.lemmas.Bool.{and_parts, not-true, or_parts}
use Rattle.std.proofs.lemmas.Slice.Eq.{bytes_eq-Decides}
use Rattle.std.proofs.lemmas.List.{append-nil, length_push}
use Rattle.cube_defs.specs.Text.{Text}
use Rattle.qc_schema.specs.Grammar.{is_new_name, is_used}
use Rattle.qc_schema.specs.Schema.{IsLayout, Layout, all_different, is_name, max_dims, names_of, with_dim}

-- an element put between others
put-all : {X : Type 0} (p : X → Bool) (xs ys : List X) (y : X) → list_all p (xs ++ ys) ≡ true → p y ≡ true
    → list_all p (xs ++ y ∷ ys) ≡ true
put-all p [] ys y all h = rw (h, all) refl
put-all p (x ∷ xs) ys y all h = let parts = and_parts (p x) (list_all p (xs ++ ys)) all in
    rw (parts.0, put-all p xs ys y parts.1 h) refl

put-any : {X : Type 0} (p : X → Bool) (xs ys : List X) (y : X) → list_any p (xs ++ ys) ≡ false → p y ≡ false
    → list_any p (xs ++ y ∷ ys) ≡ false
put-any p [] ys y none h = rw (h, none) refl
put-any p (x ∷ xs) ys y none h = let parts = or_parts (p x) (list_any p (xs ++ ys)) none in
    rw (parts.0, put-any p xs ys y parts.1 h) refl

put-different : {X : Type 0} (eq : X → X → Bool) → ((a b : X) → eq a b ≡ false → eq b a ≡ false)
    → (xs ys : List X) (y : X)
    → all_different eq (xs ++ ys) ≡ true → list_any (λ x. eq x y) (xs ++ ys) ≡ false
    → all_different eq (xs ++ y ∷ ys) ≡ true
put-different eq flip [] ys y d n = rw (n, d) refl
put-different eq flip (x ∷ xs) ys y d n =
    let p = and_parts (not (list_any (λ z. eq z x) (xs ++ ys))) (all_different eq (xs ++ ys)) d in
    let q = or_parts (eq x y) (list_any (λ z. eq z y) (xs ++ ys)) n in
    let apart = put-any (λ z. eq z x) xs ys y (not-true (list_any (λ z. eq z x) (xs ++ ys)) p.0) (flip x y q.0) in
    rw (apart, put-different eq flip xs ys y p.1 q.1) refl

-- an element more
pub push-all : {X : Type 0} (p : X → Bool) (xs : List X) (y : X) → list_all p xs ≡ true → p y ≡ true
    → list_all p (xs ++ y ∷ []) ≡ true
push-all p xs y all h = put-all p xs [] y (ap (list_all p) (append-nil xs) ∙ all) h

pub push-different : {X : Type 0} (eq : X → X → Bool) → ((a b : X) → eq a b ≡ false → eq b a ≡ false)
    → (xs : List X) (y : X)
    → all_different eq xs ≡ true → list_any (λ x. eq x y) xs ≡ false → all_different eq (xs ++ y ∷ []) ≡ true
push-different eq flip xs y d n
    = put-different eq flip xs [] y (ap (all_different eq) (append-nil xs) ∙ d)
    (ap (list_any (λ x. eq x y)) (append-nil xs) ∙ n)

pub flip-by : {P Q : Type 0} (a b : Bool) → Decides a P → Decides b Q → (Q → P) → a ≡ false → b ≡ false
flip-by a true p q turn e = let same : a ≡ true = p.1 (turn (q.0 refl)) in absurd (cc same)
flip-by a false p q turn e = refl

pub bytes-flip : (a b : List ℕ) → bytes_eq a b ≡ false → bytes_eq b a ≡ false
bytes-flip a b e = flip-by (bytes_eq a b) (bytes_eq b a) (bytes_eq-Decides a b) (bytes_eq-Decides b a)
    (λ same. sym same) e

-- the names, with that of the dimension between those of the others and of the measures
wider-names : (l : Layout) (name : Text) → names_of (with_dim l name) ≡ (l.id ∷ l.dims) ++ name
    ∷ map (λ m. m.name) l.measures
wider-names l name = ap (λ xs. l.id ∷ xs) (append_assoc l.dims (name ∷ []) (map (λ m. m.name) l.measures))

pub wider : (l : Layout) (name : Text) → IsLayout l → length l.dims < max_dims l.version → is_new_name l name ≡ true
    → IsLayout (with_dim l name)
wider l name h few new =
    let parts = and_parts (is_name name) (not (is_used l name)) new in
    record {
      some_dims = omega (arith, length_push l.dims name, h.some_dims);
      few_dims = omega (arith, length_push l.dims name);
      few_measures = h.few_measures;
      scales = h.scales;
      names = ap (list_all is_name) (wider-names l name)
          ∙ put-all is_name (l.id ∷ l.dims) (map (λ m. m.name) l.measures) name h.names parts.0;
      different_names = ap (all_different bytes_eq) (wider-names l name)
          ∙ put-different bytes_eq bytes-flip (l.id ∷ l.dims) (map (λ m. m.name) l.measures) name h.different_names
          (not-true (is_used l name) parts.1);
      indexes = h.indexes;
      different_indexes = h.different_indexes;
      limits = h.limits;
    }
