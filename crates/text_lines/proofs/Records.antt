-- The records that a reader gives in turn are the records of the text.
use Rattle.std.proofs.Common.{◌≡◌, ◌<◌, ◌≤◌, ◌+◌, ◌∙◌, ℕ, zero, suc, List, [], ◌∷◌, length, Some, None, true, false, refl, sym, ap, arith}
use Rattle.std.proofs.Common.{Bool, cond, Bor, add-one}
use Rattle.std.specs.Prelude.{Option, ◌==◌, unwrap_or, IsSome}
use Rattle.csv.specs.Machine.{Read, next_record, step, is_end, ends_at_end, fields_after, field_after, after_end, ends_with, in_field}
use Rattle.csv.specs.Machine.{start_field, start_record}
use Rattle.csv.specs.Reading.{NextIs, ReadRecord, ReadsNext, ReadsOn, default_config, pending_of, records_from}
use Rattle.csv.specs.declared.reader.Reader.{Reader}
use Rattle.text_lines.specs.Records.{IsPlain, Steps, records_rest, rows_left, text_left}
use Rattle.csv.specs.declared.parser.State.{State}
use Rattle.csv.specs.declared.parser.State.TheVariants as st
use Rattle.csv.specs.declared.parser.Action.{Action}
use Rattle.csv.specs.declared.parser.Action.TheVariants as act
use Rattle.csv.specs.declared.parser.Terminator.TheVariants as term

-- after a record the machine is between records
record IsGood (x : State × Action) : Type 0 where
  is : is_end x.1 ≡ true → ends_at_end x.0 ≡ false

good-cond : (b : Bool) (x y : State × Action) → IsGood x → IsGood y → IsGood (cond b x y)
good-cond true x y p q = p
good-cond false x y p q = q

good-not : (s : State) (a : Action) → is_end a ≡ false → IsGood (s, a)
good-not s a h = record { is = λ e. absurd (cc (sym h ∙ e)) }

good-end : (b : Bool) → ends_at_end (cond b st.AfterCr st.StartRecord) ≡ false
good-end true = refl
good-end false = refl

good-ended : (c : ℕ) → IsGood (after_end term.CRLF c, act.EndRecord)
good-ended c = record { is = λ e. good-end (c == 13) }

good-in_field : (c : ℕ) → IsGood (in_field default_config c)
good-in_field c = good-cond (c == 44) _ _ (good-not st.StartField act.EndField refl)
    (good-cond (ends_with term.CRLF c) _ _ (good-ended c) (good-not st.InField act.Copy refl))

good-start_field : (c : ℕ) → IsGood (start_field default_config c)
good-start_field c = good-cond (c == 34) _ _ (good-not st.InQuoted act.Skip refl) (good-in_field c)

good-start_record : (c : ℕ) → IsGood (start_record default_config c)
good-start_record c = good-cond (ends_with term.CRLF c) _ _ (good-not st.StartRecord act.Skip refl) (good-start_field c)

good-step : (s : State) (c : ℕ) → IsGood (step default_config s c)
good-step st.StartRecord c = good-start_record c
good-step st.StartField c = good-start_field c
good-step st.InField c = good-in_field c
good-step st.InQuoted c
    = good-cond (c == 34) _ _ (good-not st.AfterQuote act.Skip refl) (good-not st.InQuoted act.Copy refl)
good-step st.InEscape c = good-not st.InQuoted act.Copy refl
good-step st.AfterQuote c = good-cond (c == 34) _ _ (good-not st.InQuoted act.Copy refl) (good-in_field c)
good-step st.InComment c
    = good-cond (c == 10) _ _ (good-not st.StartRecord act.Skip refl) (good-not st.InComment act.Skip refl)
good-step st.AfterCr c = good-cond (c == 10) _ _ (good-not st.StartRecord act.Skip refl) (good-start_record c)

-- what a read leaves: no more bytes than there were, and the machine between records
record Leaves (size : ℕ) (p : Read) : Type 0 where
  left : length p.2 ≤ size
  between : ends_at_end p.1 ≡ false

is_leaves : (size : ℕ) (a p : Read) → Some a ≡ Some p → Leaves size a → Leaves size p
is_leaves size a p e h =
    let same : a ≡ p = ap (λ (o : Option Read). unwrap_or o p) e in
    rw (← same) h

at_end : (fields : List (List ℕ)) (b : Bool) (p : Read)
    → cond b (Some (fields, st.StartRecord, [])) None ≡ Some p → Leaves 0 p
at_end fields true p e = is_leaves 0 _ p e (record { left = omega arith; between = refl })
at_end fields false p e = absurd (cc e)

-- one byte, and then what the rest leaves
one : (s : State) (fields : List (List ℕ)) (field rest : List ℕ) (c : ℕ) (p : Read) (b : Bool)
    → is_end (step default_config s c).1 ≡ b
    → cond b (Some (fields_after (step default_config s c).1 fields field, (step default_config s c).0, rest))
    (next_record default_config (step default_config s c).0 (fields_after (step default_config s c).1 fields field)
    (field_after (step default_config s c).1 c field) rest) ≡ Some p
    → (next_record default_config (step default_config s c).0 (fields_after (step default_config s c).1 fields field)
    (field_after (step default_config s c).1 c field) rest ≡ Some p → Leaves (length rest) p)
    → Leaves (length rest) p
one s fields field rest c p true h e more
    = is_leaves _ _ p e (record { left = omega arith; between = (good-step s c).is h })
one s fields field rest c p false h e more = more e

wider : (n : ℕ) (p : Read) → Leaves n p → Leaves (suc n) p
wider n p h = record { left = omega (arith, h.left); between = h.between }

leaves : (rest : List ℕ) (c : ℕ) (s : State) (fields : List (List ℕ)) (field : List ℕ) (p : Read)
    → next_record default_config s fields field (c ∷ rest) ≡ Some p → Leaves (length rest) p
unfolding next_record
leaves [] c s fields field p e = one s fields field [] c p _ refl e (λ h. at_end _ _ p h)
leaves (d ∷ rest) c s fields field p e
    = one s fields field (d ∷ rest) c p _ refl e (λ h. wider _ p (leaves rest d _ _ _ p h))

-- the same, from between two records
pub record Falls (size : ℕ) (p : Read) : Type 0 where
  pub left : length p.2 < size
  pub between : ends_at_end p.1 ≡ false

pub leaves-between : (s : State) (xs : List ℕ) (p : Read) → ends_at_end s ≡ false
    → next_record default_config s [] [] xs ≡ Some p → Falls (length xs) p
unfolding next_record
leaves-between s [] p b e = absurd (cc (rw b at e))
leaves-between s (c ∷ rest) p b e = let l = leaves rest c s [] [] p e in
    record { left = omega (arith, l.left); between = l.between }

-- enough turns are enough
enough : (n m : ℕ) (s : State) (xs : List ℕ) → ends_at_end s ≡ false → length xs < n → length xs < m
    → records_from default_config n s xs ≡ records_from default_config m s xs
unfolding records_from
enough zero m s xs b h k = absurd (omega arith)
enough (suc n) zero s xs b h k = absurd (omega arith)
enough (suc n) (suc m) s xs b h k
    = by (next_record default_config s [] [] xs) refl (λ p e. let l = leaves-between s xs p b e in
    enough n m p.1 p.2 l.between (omega (arith, l.left)) (omega (arith, l.left)))
  where
    by : (o : Option Read) → next_record default_config s [] [] xs ≡ o
        → ((p : Read) → next_record default_config s [] [] xs ≡ Some p
        → records_from default_config n p.1 p.2 ≡ records_from default_config m p.1 p.2)
        → records_from default_config (suc n) s xs ≡ records_from default_config (suc m) s xs
    by None e more = rw e refl
    by (Some p) e more = rw e (ap (λ (rows : List (List (List ℕ))). p.0 ∷ rows) (more p e))

pub rest-found : (s : State) (xs : List ℕ) (p : Read) → ends_at_end s ≡ false
    → next_record default_config s [] [] xs ≡ Some p → (records_rest s xs ≡ p.0 ∷ records_rest p.1 p.2)
    × (ends_at_end p.1 ≡ false)
unfolding records_from
rest-found s xs p b e =
    let l = leaves-between s xs p b e in (
      rw (add-one, e) (ap (λ (rows : List (List (List ℕ))). p.0 ∷ rows)
          (enough (length xs) (length p.2 + 1) p.1 p.2 l.between l.left (omega arith))),
      l.between,
    )

pub rest-none : (s : State) (xs : List ℕ) → next_record default_config s [] [] xs ≡ None → records_rest s xs ≡ []
unfolding records_from
rest-none s xs e = rw (add-one, e) refl

next-found : (s s2 : State) (xs : List ℕ) (k : Option (List ℕ)) (fields : List (List ℕ)) → ends_at_end s ≡ false
    → ReadsNext default_config s (Some xs) k true fields s2
    → (ys : List ℕ) × (k ≡ Some ys) × (records_rest s xs ≡ fields ∷ records_rest s2 ys) × (ends_at_end s2 ≡ false)
next-found s s2 xs None fields b h = absurd h
next-found s s2 xs (Some ys) fields b h = by (next_record default_config s [] [] xs) refl h
  where
    by : (o : Option Read) → next_record default_config s [] [] xs ≡ o → NextIs o true fields s2 ys
        → (zs : List ℕ) × (Some ys ≡ Some zs) × (records_rest s xs ≡ fields ∷ records_rest s2 zs)
        × (ends_at_end s2 ≡ false)
    by None e n = absurd (cc n)
    by (Some p) e n = let f = rest-found s xs p b e in (ys, refl, rw (n.1, n.2, n.3) f.0, rw n.2 f.1)

next-none : (s s2 : State) (xs : List ℕ) (k : Option (List ℕ)) (fields : List (List ℕ))
    → ReadsNext default_config s (Some xs) k false fields s2 → records_rest s xs ≡ []
next-none s s2 xs None fields h = absurd h
next-none s s2 xs (Some ys) fields h = by (next_record default_config s [] [] xs) refl h
  where
    by : (o : Option Read) → next_record default_config s [] [] xs ≡ o → NextIs o false fields s2 ys
        → records_rest s xs ≡ []
    by None e n = rest-none s xs e
    by (Some p) e n = absurd (cc n.0)

-- a read that found a record
pub found : (a b : Reader (Bor (List ℕ))) (fields : List (List ℕ)) → IsPlain a
    → ReadRecord (λ s. Some s.now) a b true fields → ReadsOn a b
    → (rows_left a ≡ fields ∷ rows_left b) × IsPlain b
found a b fields plain r on = by (text_left a) refl plain.known
  where
    by : (o : Option (List ℕ)) → text_left a ≡ o → IsSome o → (rows_left a ≡ fields ∷ rows_left b) × IsPlain b
    by None e k = absurd (cc k)
    by (Some xs) e k =
        let n = next-found a.state b.state xs (pending_of (Some b.rdr.now) b) fields plain.between
        (rw (plain.config, e) at r.0) in
        let left : text_left b ≡ Some n.0 = rw r.1 n.1 in (
          rw (e, left) n.2,
          record {
            trim = on.1 ∙ plain.trim;
            ready = (on.4 plain.ready).0;
            config = on.0 ∙ plain.config;
            flexible = on.2 ∙ plain.flexible;
            between = n.3;
            known = rw left refl;
          },
        )

-- a read that found none
pub ended : (a b : Reader (Bor (List ℕ))) (fields : List (List ℕ)) → IsPlain a
    → ReadRecord (λ s. Some s.now) a b false fields → rows_left a ≡ []
ended a b fields plain r = by (text_left a) refl plain.known
  where
    by : (o : Option (List ℕ)) → text_left a ≡ o → IsSome o → rows_left a ≡ []
    by None e k = absurd (cc k)
    by (Some xs) e k = rw e
        (next-none a.state b.state xs (pending_of (Some b.rdr.now) b) fields (rw (plain.config, e) at r.0))

pub stepped : (a b : Reader (Bor (List ℕ))) (f : Bool) (fields : List (List ℕ)) → IsPlain a
    → ReadRecord (λ s. Some s.now) a b f fields → (f ≡ true → ReadsOn a b) → Steps a b f fields
stepped a b true fields plain r on = found a b fields plain r (on refl)
stepped a b false fields plain r on = ended a b fields plain r
