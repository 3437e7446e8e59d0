-- Files and lines that are refused.
use Rattle.std.proofs.Common.{◌==◌, ◌≡◌, ◌<◌, ◌∙◌, ℕ, suc, Bool, true, false, cond, Option, Some, None, IfSome, List, [], ◌∷◌, length, refl}
use Rattle.std.proofs.Common.{ap, arith, Result, Ok, Err}
use Rattle.std.specs.Prelude.{nat_lt, fold, option_map}
use Rattle.std.specs.List.{position_or_len}
use Rattle.std.proofs.lemmas.Bool.{ltb-true}
use Rattle.cube_defs.specs.Text.{Text, text_cmp}
use Rattle.cube_defs.specs.Tree.{classes, nodes}
use Rattle.cube_defs.specs.Rows.{Row}
use Rattle.csv_load.specs.Batch.{Change, deleted, inserted}
use Rattle.csv_load.specs.Files.{base_in, batch_in}
use Rattle.csv_load.specs.Faults.{Fault}
use Rattle.warehouse.specs.Batch as batches
use Rattle.warehouse.specs.Batch.{Applied, FileUse, Refusal, after, first_number, first_twice, full_dim, is_missing, is_present, or_else}
use Rattle.warehouse.specs.Batch.{refusal_of, result, result_of, rows_after, texts_after, unless, with_row, with_tuple}
use Rattle.warehouse.specs.State.{IsState, State, ids_of}
use Rattle.warehouse.specs.Stored.{refusal_in}
use Rattle.warehouse.specs.declared.refused.Refused.{Refused}
use Rattle.warehouse.specs.declared.refused.Refused.TheVariants as files
use Rattle.reply_text.specs.Words.{IsDimension}

-- the last of some causes, where it is none of those before
or-second : (a b : Option Refusal) (r : Refusal) → (a ≡ Some r → ⊥) → or_else a b ≡ Some r → b ≡ Some r
or-second None b r other e = e
or-second (Some a) b r other e = absurd (other e)

length-learnt : (lists : List (List Text)) (tuple : List Text) → length (with_tuple lists tuple) ≡ length lists
length-learnt (texts ∷ lists) (text ∷ tuple) = ap suc (length-learnt lists tuple)
length-learnt _ tuple = refl

length-after : (lists : List (List Text)) (rows : List (Row Text)) → length (fold with_row lists rows) ≡ length lists
length-after lists [] = refl
length-after lists (row ∷ rows) = length-after (with_row lists row) rows ∙ length-learnt lists row.tuple

full-within : (max : ℕ) (lists : List (List Text)) (dim : ℕ) → full_dim max lists ≡ Some dim → dim < length lists
full-within max lists dim e = go (nat_lt place (length lists)) refl e
  where
    place : ℕ
    place = position_or_len (λ texts. nat_lt max (length texts)) lists

    go : (b : Bool) → nat_lt place (length lists) ≡ b → cond b (Some place) None ≡ Some dim → dim < length lists
    go true t h = let same : place ≡ dim = cc in omega (arith, ltb-true _ _ t, same)
    go false t h = cc

-- the refusal that names a dimension
not-numbered : (f : ℕ → Refusal) (r : Refusal) (o : Option ℕ) → ((k : ℕ) → f k ≡ r → ⊥) → option_map f o ≡ Some r → ⊥
not-numbered f r None other e = cc
not-numbered f r (Some k) other e = other k (some e)
  where
    some : {x y : Refusal} → Some x ≡ Some y → x ≡ y
    some e = cc

not-rows : (b : Bool) (dim : ℕ) → cond b (Some batches.RowsFull) None ≡ Some (batches.ValuesFull dim) → ⊥
not-rows true dim e = cc
not-rows false dim e = cc

not-nodes : (b : Bool) (dim : ℕ) → cond b (Some batches.NodesFull) None ≡ Some (batches.ValuesFull dim) → ⊥
not-nodes true dim e = cc
not-nodes false dim e = cc

values-within : (s : State) (changes : List (Change Text)) (dim : ℕ) → IsState s
    → refusal_of s changes ≡ Some (batches.ValuesFull dim) → dim < length s.schema.dims
values-within s changes dim is e =
    let rest = or-second (option_map (λ k. batches.Twice k) (first_twice changes)) _ _
    (not-numbered _ _ (first_twice changes) (λ k h. cc)) e in
    let rest2 = or-second (option_map (λ k. batches.Missing k) (first_number (is_missing (ids_of s.rows)) changes)) _ _
    (not-numbered _ _ (first_number (is_missing (ids_of s.rows)) changes) (λ k h. cc)) rest in
    let rest3 = or-second (option_map (λ k. batches.Present k)
    (first_number (is_present (ids_of s.rows) (deleted changes)) changes)) _ _
    (not-numbered _ _ (first_number (is_present (ids_of s.rows) (deleted changes)) changes) (λ k h. cc)) rest2 in
    let rest4 = or-second (cond (nat_lt s.schema.rows (length (rows_after s.rows changes)))
    (Some batches.RowsFull) None) _ _ (not-rows _ dim) rest3 in
    values (full_dim s.schema.values (texts_after s.texts changes)) refl rest4
  where
    full : Bool
    full = nat_lt s.schema.nodes (length (nodes text_cmp (rows_after s.rows changes)))

    values : (o : Option ℕ) → full_dim s.schema.values (texts_after s.texts changes) ≡ o
        → or_else (option_map (λ d. batches.ValuesFull d) o) (cond full (Some batches.NodesFull) None)
        ≡ Some (batches.ValuesFull dim) → dim < length s.schema.dims
    values None e h = absurd (not-nodes full dim h)
    values (Some d) e h =
        let same : d ≡ dim = cc in
        let within = full-within s.schema.values (texts_after s.texts changes) d e in
        omega (arith, within, same, length-after s.texts (inserted changes), is.consistent.lists)

unless-err : (o : Option Refusal) (applied : Applied) (r : Refusal) → unless o applied ≡ Err r → o ≡ Some r
unless-err None applied r e = cc
unless-err (Some q) applied r e = ap (λ x. Some x) (same e)
  where
    same : {x y : Refusal} → (let u : Result Applied Refusal = Err x in u) ≡ Err y → x ≡ y
    same e = cc

of-within : (s : State) (read : Result (List (Change Text)) Fault) (dim : ℕ) → IsState s
    → result_of s read ≡ Err (batches.ValuesFull dim) → dim < length s.schema.dims
of-within s (Err fault) dim is e = cc
of-within s (Ok changes) dim is e
    = values-within s changes dim is
    (unless-err (refusal_of s changes)
    (record {
      records = length changes;
      classes = length (classes text_cmp (rows_after s.rows changes));
      state
          = after s changes;
    }) _ e)

result-within : (s : State) (kind : FileUse) (bytes : List ℕ) (dim : ℕ) → IsState s
    → result s kind bytes ≡ Err (batches.ValuesFull dim) → dim < length s.schema.dims
result-within s batches.Load bytes dim is e = go (length s.rows == 0) e
  where
    go : (b : Bool) → cond b (result_of s (base_in s.schema bytes)) (Err batches.NotEmpty)
        ≡ Err (batches.ValuesFull dim) → dim < length s.schema.dims
    go true h = of-within s (base_in s.schema bytes) dim is h
    go false h = cc
result-within s batches.Apply bytes dim is e = of-within s (batch_in s.schema bytes) dim is e

pub dim-within : (s : State) (kind : FileUse) (bytes : List ℕ) (e : Refused) → IsState s
    → IfSome (refusal_in e) (λ r. result s kind bytes ≡ Err r) → IsDimension e (length s.schema.dims)
dim-within s kind bytes (files.ValuesFull dim) is h = result-within s kind bytes dim is h
dim-within s kind bytes _ is h = tt
