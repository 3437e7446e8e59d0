-- Rows that stay where those of some ids go.
use Rattle.std.proofs.Common.{◌≡◌, ◌∙◌, ℕ, List, [], ◌∷◌, ◌++◌, Bool, true, false, refl, sym, ap, arith}
use Rattle.std.specs.Prelude.{◌||◌, ◌&&◌, not, nat_eq}
use Rattle.std.specs.List.{list_any}
use Rattle.std.proofs.lemmas.Bool.{eqb-true}
use Rattle.cube_defs.specs.Rows.{Row}
use Rattle.base_table.specs.Places.{has_id, without_id}
use Rattle.warehouse.specs.Batch.{is_among}
use Rattle.warehouse.specs.InPlace.{kept}
use Rattle.warehouse.specs.State.{ids_of}
use Rattle.cube_laws.proofs.CallerLemmas.{nat_eq-turned}

pub among-turned : (id : ℕ) (ids : List ℕ) → is_among id ids ≡ list_any (nat_eq id) ids
among-turned id [] = refl
among-turned id (x ∷ ids) = grind (arith, among-turned id ids)

pub has-ids : (rows : List (Row ℕ)) (id : ℕ) → has_id rows id ≡ is_among id (ids_of rows)
has-ids [] id = refl
has-ids (row ∷ rows) id = ap (λ (b : Bool). nat_eq row.id id || b) (has-ids rows id)

or-false : (b : Bool) → (b || false) ≡ b
or-false true = refl
or-false false = refl

pub kept-none : {A : Type 0} (rows : List (Row A)) → kept [] rows ≡ rows
kept-none [] = refl
kept-none (row ∷ rows) = ap (λ (rs : List (Row _)). row ∷ rs) (kept-none rows)

pub among-more : (x : ℕ) (gone : List ℕ) (id : ℕ) → is_among x (gone ++ id ∷ []) ≡ (is_among x gone || nat_eq id x)
among-more x [] id = or-false (nat_eq id x)
among-more x (g ∷ gone) id = go (nat_eq g x) (among-more x gone id)
  where
    go : (b : Bool) → is_among x (gone ++ id ∷ []) ≡ (is_among x gone || nat_eq id x)
        → (b || is_among x (gone ++ id ∷ [])) ≡ ((b || is_among x gone) || nat_eq id x)
    go true rest = refl
    go false rest = rest

-- one id more goes
pub kept-more : (rows : List (Row ℕ)) (gone : List ℕ) (id : ℕ)
    → without_id (kept gone rows) id ≡ kept (gone ++ id ∷ []) rows
kept-more [] gone id = refl
kept-more (row ∷ rows) gone id = go (is_among row.id gone) refl (nat_eq row.id id) refl (kept-more rows gone id)
  where
    go : (b : Bool) → is_among row.id gone ≡ b → (e : Bool) → nat_eq row.id id ≡ e
        → without_id (kept gone rows) id ≡ kept (gone ++ id ∷ []) rows
        → without_id (kept gone (row ∷ rows)) id ≡ kept (gone ++ id ∷ []) (row ∷ rows)
    go true is e same rest = rw (among-more row.id gone id, is) rest
    go false is true same rest = rw (among-more row.id gone id, is, nat_eq-turned id row.id, same) rest
    go false is false same rest
        = rw (among-more row.id gone id, is, nat_eq-turned id row.id, same) (ap (λ (rs : List (Row ℕ)). row ∷ rs) rest)

-- an id is kept if it is there and doesn't go
pub has-kept : (rows : List (Row ℕ)) (gone : List ℕ) (id : ℕ)
    → has_id (kept gone rows) id ≡ (is_among id (ids_of rows) && not (is_among id gone))
has-kept [] gone id = refl
has-kept (row ∷ rows) gone id = go (is_among row.id gone) refl (nat_eq row.id id) refl (has-kept rows gone id)
  where
    none : (b : Bool) → (b && false) ≡ false
    none true = refl
    none false = refl

    go : (b : Bool) → is_among row.id gone ≡ b → (e : Bool) → nat_eq row.id id ≡ e
        → has_id (kept gone rows) id ≡ (is_among id (ids_of rows) && not (is_among id gone))
        → has_id (kept gone (row ∷ rows)) id ≡ (is_among id (ids_of (row ∷ rows)) && not (is_among id gone))
    go true is true same rest =
        let here : is_among id gone ≡ true = ap (λ (n : ℕ). is_among n gone) (sym (eqb-true row.id id same)) ∙ is in
        rw (is, same, here) (rest ∙ ap (λ (b : Bool). is_among id (ids_of rows) && not b) here
        ∙ none (is_among id (ids_of rows)))
    go true is false same rest = rw (is, same) rest
    go false is true same rest =
        let here : is_among id gone ≡ false = ap (λ (n : ℕ). is_among n gone) (sym (eqb-true row.id id same)) ∙ is in
        rw (is, same, here) refl
    go false is false same rest = rw (is, same) rest

-- what a deletion finds
pub there-before : (rows : List (Row ℕ)) (gone : List ℕ) (id : ℕ) → has_id (kept gone rows) id ≡ true
    → is_among id (ids_of rows) ≡ true
there-before rows gone id there
    = left (is_among id (ids_of rows)) (not (is_among id gone)) (sym (has-kept rows gone id) ∙ there)
  where
    left : (a b : Bool) → (a && b) ≡ true → a ≡ true
    left true b e = refl
    left false b e = e

pub missing-before : (rows : List (Row ℕ)) (gone : List ℕ) (id : ℕ) → has_id (kept gone rows) id ≡ false
    → is_among id gone ≡ false → is_among id (ids_of rows) ≡ false
missing-before rows gone id missing new
    = left (is_among id (ids_of rows)) (is_among id gone) (sym (has-kept rows gone id) ∙ missing) new
  where
    left : (a b : Bool) → (a && not b) ≡ false → b ≡ false → a ≡ false
    left false b e n = refl
    left true true e n = cc
    left true false e n = e
