-- How many bytes the records of a text have, and how many records there are.
use Rattle.std.proofs.Common.{◌≡◌, ◌<◌, ◌≤◌, ◌+◌, ℕ, zero, suc, List, [], ◌∷◌, ◌++◌, length, get_or, refl, ap, arith, Some, None, true}
use Rattle.std.proofs.Common.{false, Bool, cond}
use Rattle.std.specs.Prelude.{Option, unwrap_or}
use Rattle.std.proofs.lemmas.List.{length_push}
use Rattle.csv.specs.Machine.{Read, ends_at_end, field_after, fields_after, is_end, next_record, step}
use Rattle.csv.specs.Reading.{default_config, records, records_from}
use Rattle.csv.specs.declared.parser.Action.{Action}
use Rattle.csv.specs.declared.parser.Action.TheVariants as act
use Rattle.csv.specs.declared.parser.State.{State}
use Rattle.csv.specs.declared.parser.State.TheVariants as st
use Rattle.text_lines.specs.Records.{bytes_in, bytes_in_all}
use Rattle.text_lines.proofs.Records.{leaves-between}

pub bytes-append : (xs ys : List (List ℕ)) → bytes_in (xs ++ ys) ≡ bytes_in xs + bytes_in ys
bytes-append [] ys = omega arith
bytes-append (x ∷ xs) ys = omega (arith, bytes-append xs ys)

pub bytes-push : (xs : List (List ℕ)) (x : List ℕ) → bytes_in (xs ++ x ∷ []) ≡ bytes_in xs + length x
bytes-push xs x = omega (arith, bytes-append xs (x ∷ []))

-- an action adds at most the byte at hand
acted : (a : Action) (c : ℕ) (fields : List (List ℕ)) (field : List ℕ)
    → bytes_in (fields_after a fields field) + length (field_after a c field) ≤ bytes_in fields + length field + 1
acted act.Skip c fields field = omega arith
acted act.Copy c fields field = omega (arith, length_push field c)
acted _ c fields field = omega (arith, bytes-push fields field)

is-within : (size : ℕ) (a p : Read) → Some a ≡ Some p → bytes_in a.0 + length a.2 ≤ size
    → bytes_in p.0 + length p.2 ≤ size
is-within size a p e h =
    let same : a ≡ p = ap (λ (o : Option Read). unwrap_or o p) e in
    rw (← same) h

-- a record has no more bytes than its text
record-within : (rest : List ℕ) (s : State) (fields : List (List ℕ)) (field : List ℕ) (p : Read)
    → next_record default_config s fields field rest ≡ Some p
    → bytes_in p.0 + length p.2 ≤ bytes_in fields + length field + length rest
unfolding next_record
record-within [] s fields field p e = by (ends_at_end s) e
  where
    by : (b : Bool) → cond b (Some (fields ++ field ∷ [], st.StartRecord, [])) None ≡ Some p
        → bytes_in p.0 + length p.2 ≤ bytes_in fields + length field + 0
    by true m = is-within _ _ p m (omega (arith, bytes-push fields field))
    by false m = absurd (cc m)
record-within (c ∷ rest) s fields field p e =
    by (is_end (step default_config s c).1) e
    (record-within rest (step default_config s c).0 (fields_after (step default_config s c).1 fields field)
    (field_after (step default_config s c).1 c field) p)
  where
    by : (b : Bool) → cond b
        (Some (fields_after (step default_config s c).1 fields field, (step default_config s c).0, rest))
        (next_record default_config (step default_config s c).0 (fields_after (step default_config s c).1 fields field)
        (field_after (step default_config s c).1 c field) rest) ≡ Some p
        → (next_record default_config (step default_config s c).0
        (fields_after (step default_config s c).1 fields field)
        (field_after (step default_config s c).1 c field) rest ≡ Some p
        → bytes_in p.0 + length p.2 ≤ bytes_in (fields_after (step default_config s c).1 fields field)
        + length (field_after (step default_config s c).1 c field) + length rest)
        → bytes_in p.0 + length p.2 ≤ bytes_in fields + length field + suc (length rest)
    by true m more = is-within _ _ p m (omega (arith, acted (step default_config s c).1 c fields field))
    by false m more = omega (arith, more m, acted (step default_config s c).1 c fields field)

records-within : (n : ℕ) (s : State) (xs : List ℕ) → bytes_in_all (records_from default_config n s xs) ≤ length xs
unfolding records_from
records-within zero s xs = omega arith
records-within (suc n) s xs = by (next_record default_config s [] [] xs) refl (λ p. records-within n p.1 p.2)
  where
    by : (o : Option Read) → next_record default_config s [] [] xs ≡ o
        → ((p : Read) → bytes_in_all (records_from default_config n p.1 p.2) ≤ length p.2)
        → bytes_in_all (records_from default_config (suc n) s xs) ≤ length xs
    by None e more = rw e (omega arith)
    by (Some p) e more = rw e (omega (arith, more p, record-within xs s [] [] p e))

-- the records of a text have no more bytes than the text
pub size_records : (text : List ℕ) → bytes_in_all (records default_config text) ≤ length text
size_records text = records-within (length text + 1) st.StartRecord text

records-few : (n : ℕ) (s : State) (xs : List ℕ) → ends_at_end s ≡ false
    → length (records_from default_config n s xs) ≤ length xs
unfolding records_from
records-few zero s xs b = omega arith
records-few (suc n) s xs b
    = by (next_record default_config s [] [] xs) refl (λ p e. let l = leaves-between s xs p b e in
    omega (arith, l.left, records-few n p.1 p.2 l.between))
  where
    by : (o : Option Read) → next_record default_config s [] [] xs ≡ o
        → ((p : Read) → next_record default_config s [] [] xs ≡ Some p
        → length (records_from default_config n p.1 p.2) < length xs)
        → length (records_from default_config (suc n) s xs) ≤ length xs
    by None e more = rw e (omega arith)
    by (Some p) e more = rw e (omega (arith, more p e))

-- and it has no more records than bytes
pub few_records : (text : List ℕ) → length (records default_config text) ≤ length text
few_records text = records-few (length text + 1) st.StartRecord text refl

-- a field has no more bytes than its record
pub field-within : (xs : List (List ℕ)) (k : ℕ) → length (get_or xs k []) ≤ bytes_in xs
field-within (x ∷ xs) (suc k) = omega (arith, field-within xs k)
field-within _ k = omega arith
