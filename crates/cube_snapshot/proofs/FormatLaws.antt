-- What was written is read as itself, and what is read was written so.
use Rattle.std.proofs.Common.{◌≡◌, ◌↔◌, ℕ, zero, suc, ◌+◌, ◌^◌, ◌<◌, ◌≤◌, Bool, true, false, cond, ltb, List, [], ◌∷◌, ◌++◌, length, take}
use Rattle.std.proofs.Common.{drop, Option, Some, None, refl, sym, ap, ap₂, subst, ◌∙◌, append_assoc, arith, inl, inr}
use Rattle.std.specs.Int.{Width, w32, w64, byte_len, from_be_bytes, to_be_bytes}
use Rattle.std.specs.List.{flat_map, AllByRecursion}
use Rattle.std.specs.Option.{option_map, option_and_then}
use Rattle.std.proofs.lemmas.Bool.{cases_lt, ltb-false, le-ltb}
use Rattle.std.proofs.lemmas.List.{append-nil, take_at, drop_at, take-append-drop, length-append, length-take, get_or-drop, get_or-take}
use Rattle.std.proofs.lemmas.List.{get_or_past}
use Rattle.std.proofs.lemmas.List.Concat.{flat_map-cons}
use Rattle.std.proofs.lemmas.Nat.{be_bytes_4, be_bytes_8, from_be_bytes-to_be_bytes_4, from_be_bytes-to_be_bytes_8}
use Rattle.cube_snapshot.specs.Format.{Format, IsBytes, byte, with_count, then_format, get_times, number, only, run, mapped_format, sized}
use Rattle.cube_snapshot.specs.Format.{repeated, whole}

IsBytes-drop : (n : ℕ) (bytes : List ℕ) → IsBytes bytes → IsBytes (drop n bytes)
IsBytes-drop n bytes h i = rw get_or-drop (h (n + i))

IsBytes-take : (n : ℕ) (bytes : List ℕ) → IsBytes bytes → IsBytes (take n bytes)
IsBytes-take n bytes h i =
    elim (cases_lt i n) [
      | inl lt ↦ rw (get_or-take n bytes i 0 lt) (h i)
      | inr le ↦ rw (get_or_past (take n bytes) i 0 (omega (arith, length-take n bytes))) (omega arith)
    ]

-- what a reader took from the beginning
pub record Takes (bytes text rest : List ℕ) : Type 0 where
  pub parts : bytes ≡ text ++ rest
  pub rest_fits : IsBytes rest

pub Takes-then : (a x b y c : List ℕ) → Takes a x b → Takes b y c → Takes a (x ++ y) c
Takes-then a x b y c p q = record {
  parts = p.parts ∙ ap (λ (t : List ℕ). x ++ t) q.parts ∙ sym (append_assoc x y c);
  rest_fits = q.rest_fits;
}

-- the laws of a format, for the values that have a spelling
pub record IsFormat {X : Type 0} (a : Format X) (Fits : X → Type 0) : Type 0 where
  pub again : (x : X) (rest : List ℕ) → Fits x → a.get (a.put x ++ rest) ≡ Some (x, rest)
  pub takes : (bytes : List ℕ) (x : X) (rest : List ℕ) → IsBytes bytes → a.get bytes ≡ Some (x, rest)
      → Takes bytes (a.put x) rest × Fits x

-- the value of a step that found something
pub bind_some : {A B : Type 0} (o : Option A) (f : A → Option B) (y : B) → option_and_then f o ≡ Some y → (x : A)
    × (o ≡ Some x) × (f x ≡ Some y)
bind_some (Some x) f y e = (x, refl, e)
bind_some None f y e = absurd cc

pub map_some : {A B : Type 0} (o : Option A) (f : A → B) (y : B) → option_map f o ≡ Some y → (x : A)
    × (o ≡ Some x) × (f x ≡ y)
map_some (Some x) f y e = (x, refl, cc)
map_some None f y e = absurd cc

abbrev done : {A : Type 0} → A → Option A
done x = Some x

some_is : {A : Type 0} (x y : A) → done x ≡ done y → x ≡ y
some_is x y e = cc

guard_some : {A : Type 0} (b : Bool) (x y : A) → cond b None (Some x) ≡ Some y → (b ≡ false) × (x ≡ y)
guard_some true x y e = absurd cc
guard_some false x y e = (refl, cc)

-- a number
pub record IsWide (w : Width) (limit : ℕ) : Type 0 where
  pub len : (n : ℕ) → length (to_be_bytes w n) ≡ byte_len w
  pub back : (bytes : List ℕ) → length bytes ≡ byte_len w → IsBytes bytes
      → to_be_bytes w (from_be_bytes w bytes) ≡ bytes
  pub again : (n : ℕ) → n < limit → from_be_bytes w (to_be_bytes w n) ≡ n
  pub below : (bytes : List ℕ) → IsBytes bytes → from_be_bytes w bytes < limit

pub wide32 : IsWide w32 (2 ^ 32)
wide32 = record {
  len = λ n. refl;
  back = λ bytes len fits. be_bytes_4 bytes _ len fits refl;
  again = λ n lt. from_be_bytes-to_be_bytes_4 n lt;
  below = λ bytes fits. omega (arith, fits 0, fits 1, fits 2, fits 3);
}

pub wide64 : IsWide w64 (2 ^ 64)
wide64 = record {
  len = λ n. refl;
  back = λ bytes len fits. be_bytes_8 bytes _ len fits refl;
  again = λ n lt. from_be_bytes-to_be_bytes_8 n lt;
  below = λ bytes fits. omega (arith, fits 0, fits 1, fits 2, fits 3, fits 4, fits 5, fits 6, fits 7);
}

pub number-is : (w : Width) (limit : ℕ) → IsWide w limit → IsFormat (number w) (λ n. n < limit)
number-is w limit wide = record { again = again; takes = takes }
  where
    again : (n : ℕ) (rest : List ℕ) → n < limit → (number w).get (to_be_bytes w n ++ rest) ≡ Some (n, rest)
    again n rest lt =
        let len = wide.len n in
        let long : ltb (length (to_be_bytes w n ++ rest)) (byte_len w) ≡ false
        = le-ltb _ _ (omega (arith, length-append (to_be_bytes w n) rest)) in
        rw (
          long,
          take_at (to_be_bytes w n) rest (byte_len w) len,
          drop_at (to_be_bytes w n) rest (byte_len w) len,
          wide.again n lt,
        ) refl

    takes : (bytes : List ℕ) (n : ℕ) (rest : List ℕ) → IsBytes bytes → (number w).get bytes ≡ Some (n, rest)
        → Takes bytes (to_be_bytes w n) rest × (n < limit)
    takes bytes n rest fits e =
        let g = guard_some (ltb (length bytes) (byte_len w)) (
          from_be_bytes w (take (byte_len w) bytes),
          drop (byte_len w) bytes,
        ) (n, rest) e in
        let long : byte_len w ≤ length bytes = ltb-false _ _ g.0 in
        let n-is : from_be_bytes w (take (byte_len w) bytes) ≡ n = ap (λ (p : ℕ × List ℕ). p.0) g.1 in
        let rest-is : drop (byte_len w) bytes ≡ rest = ap (λ (p : ℕ × List ℕ). p.1) g.1 in
        let front : to_be_bytes w n ≡ take (byte_len w) bytes
        = rw (← n-is) (wide.back (take (byte_len w) bytes) (omega (arith, length-take (byte_len w) bytes))
        (IsBytes-take (byte_len w) bytes fits)) in (
          record {
            parts = rw (front, ← rest-is) (sym (take-append-drop (byte_len w) bytes));
            rest_fits
                = rw (← rest-is) (IsBytes-drop (byte_len w) bytes fits);
          },
          rw (← n-is) (wide.below (take (byte_len w) bytes) (IsBytes-take (byte_len w) bytes fits)),
        )

IsBytes-rest : (b : ℕ) (bytes : List ℕ) → IsBytes (b ∷ bytes) → IsBytes bytes
IsBytes-rest b bytes h i = h (suc i)

pub byte-is : IsFormat byte (λ n. n < 256)
byte-is = record { again = λ n rest lt. refl; takes = takes }
  where
    takes : (bytes : List ℕ) (n : ℕ) (rest : List ℕ) → IsBytes bytes → byte.get bytes ≡ Some (n, rest)
        → Takes bytes (n ∷ []) rest × (n < 256)
    takes [] n rest fits e = absurd cc
    takes (b ∷ bytes) n rest fits e =
        let same = some_is (b, bytes) (n, rest) e in
        let n-is : b ≡ n = ap (λ (p : ℕ × List ℕ). p.0) same in
        let rest-is : bytes ≡ rest = ap (λ (p : ℕ × List ℕ). p.1) same in (
          record {
            parts = ap₂ (λ x xs. x ∷ xs) n-is rest-is;
            rest_fits
                = subst IsBytes rest-is (IsBytes-rest b bytes fits);
          },
          subst (λ m. m < 256) n-is (fits 0),
        )

pub run-is : (n : ℕ) → IsFormat (run n) (λ text. length text ≡ n)
run-is n = record { again = again; takes = takes }
  where
    again : (text rest : List ℕ) → length text ≡ n → (run n).get (text ++ rest) ≡ Some (text, rest)
    again text rest len =
        let long : ltb (length (text ++ rest)) n ≡ false = le-ltb _ _ (omega (arith, length-append text rest)) in
        rw (long, take_at text rest n len, drop_at text rest n len) refl

    takes : (bytes text rest : List ℕ) → IsBytes bytes → (run n).get bytes ≡ Some (text, rest) → Takes bytes text rest
        × (length text ≡ n)
    takes bytes text rest fits e =
        let g = guard_some (ltb (length bytes) n) (take n bytes, drop n bytes) (text, rest) e in
        let long : n ≤ length bytes = ltb-false _ _ g.0 in
        let len : length (take n bytes) ≡ n = omega (arith, length-take n bytes) in
        subst (λ (p : List ℕ × List ℕ). Takes bytes p.0 p.1 × (length p.0 ≡ n)) g.1
        (record { parts = sym (take-append-drop n bytes); rest_fits = IsBytes-drop n bytes fits }, len)

module _ {X Y : Type 0} where
  pub followed-is : (a : Format X) (f : X → Format Y) (P : X → Type 0) (Q : X → Y → Type 0) → IsFormat a P
      → ((x : X) → P x → IsFormat (f x) (Q x)) → IsFormat (then_format a f) (λ p. P p.0 × Q p.0 p.1)
  followed-is a f P Q ha hf = record { again = again; takes = takes }
    where
      again : (p : X × Y) (rest : List ℕ) → P p.0 × Q p.0 p.1
          → (then_format a f).get ((a.put p.0 ++ (f p.0).put p.1) ++ rest) ≡ Some (p, rest)
      again p rest fits =
          ap (then_format a f).get (append_assoc (a.put p.0) ((f p.0).put p.1) rest)
          ∙ ap (option_and_then (λ p. option_map (λ q. ((p.0, q.0), q.1)) ((f p.0).get p.1)))
          (ha.again p.0 ((f p.0).put p.1 ++ rest) fits.0)
          ∙ ap (option_map (λ q. ((p.0, q.0), q.1))) ((hf p.0 fits.0).again p.1 rest fits.1)

      takes : (bytes : List ℕ) (p : X × Y) (rest : List ℕ) → IsBytes bytes
          → (then_format a f).get bytes ≡ Some (p, rest) → Takes bytes (a.put p.0 ++ (f p.0).put p.1) rest
          × (P p.0 × Q p.0 p.1)
      takes bytes p rest fits e =
          let x = bind_some (a.get bytes) (λ p. option_map (λ q. ((p.0, q.0), q.1)) ((f p.0).get p.1)) (p, rest) e in
          let y = map_some ((f x.0.0).get x.0.1) (λ q. ((x.0.0, q.0), q.1)) (p, rest) x.2 in
          let s = ha.takes bytes x.0.0 x.0.1 fits x.1 in
          let t = (hf x.0.0 s.1).takes x.0.1 y.0.0 y.0.1 s.0.rest_fits y.1 in
          subst (λ (z : (X × Y) × List ℕ). Takes bytes (a.put z.0.0 ++ (f z.0.0).put z.0.1) z.1
          × (P z.0.0 × Q z.0.0 z.0.1)) y.2
          (Takes-then bytes (a.put x.0.0) x.0.1 ((f x.0.0).put y.0.0) y.0.1 s.0 t.0, (s.1, t.1))

  pub seen-is : (a : Format X) (from : Y → X) (to : X → Option Y) (P : X → Type 0) (Q : Y → Type 0) → IsFormat a P
      → ((y : Y) → Q y → P (from y) × (to (from y) ≡ Some y))
      → ((x : X) (y : Y) → P x → to x ≡ Some y → (from y ≡ x) × Q y) → IsFormat (mapped_format a from to) Q
  seen-is a from to P Q ha there back = record { again = again; takes = takes }
    where
      again : (y : Y) (rest : List ℕ) → Q y → (mapped_format a from to).get (a.put (from y) ++ rest) ≡ Some (y, rest)
      again y rest fits =
          ap (option_and_then (λ p. option_map (λ y. (y, p.1)) (to p.0))) (ha.again (from y) rest (there y fits).0)
          ∙ ap (option_map (λ y. (y, rest))) (there y fits).1

      takes : (bytes : List ℕ) (y : Y) (rest : List ℕ) → IsBytes bytes
          → (mapped_format a from to).get bytes ≡ Some (y, rest) → Takes bytes (a.put (from y)) rest × Q y
      takes bytes y rest fits e =
          let p = bind_some (a.get bytes) (λ p. option_map (λ y. (y, p.1)) (to p.0)) (y, rest) e in
          let q = map_some (to p.0.0) (λ y. (y, p.0.1)) (y, rest) p.2 in
          let s = ha.takes bytes p.0.0 p.0.1 fits p.1 in
          let b = back p.0.0 q.0 s.1 q.1 in
          subst (λ (z : Y × List ℕ). Takes bytes (a.put (from z.0)) z.1
          × Q z.0) q.2 (subst (λ x. Takes bytes (a.put x) p.0.1) (sym b.0) s.0, b.1)

module _ {X : Type 0} (a : Format X) (P : X → Type 0) (ha : IsFormat a P) where
  pub times-is : (n : ℕ) → IsFormat (repeated a n) (λ xs. (length xs ≡ n) × AllByRecursion P xs)
  times-is n = record { again = λ xs rest fits. again n xs rest fits; takes = takes n }
    where
      again : (n : ℕ) (xs : List X) (rest : List ℕ) → (length xs ≡ n) × AllByRecursion P xs
          → get_times a n (flat_map a.put xs ++ rest) ≡ Some (xs, rest)
      again zero [] rest fits = refl
      again zero (x ∷ xs) rest fits = absurd (omega (arith, fits.0))
      again (suc n) [] rest fits = absurd (omega (arith, fits.0))
      again (suc n) (x ∷ xs) rest fits =
          let regrouped : flat_map a.put (x ∷ xs) ++ rest ≡ a.put x ++ (flat_map a.put xs ++ rest)
          = ap (λ (t : List ℕ). t ++ rest) (flat_map-cons a.put x xs)
          ∙ append_assoc (a.put x) (flat_map a.put xs) rest in
          ap (get_times a (suc n)) regrouped
          ∙ ap (option_and_then (λ p. option_map (λ q. (p.0 ∷ q.0, q.1)) (get_times a n p.1)))
          (ha.again x (flat_map a.put xs ++ rest) fits.1.0)
          ∙ ap (option_map (λ q. (x ∷ q.0, q.1))) (again n xs rest (omega (arith, fits.0), fits.1.1))

      takes : (n : ℕ) (bytes : List ℕ) (xs : List X) (rest : List ℕ) → IsBytes bytes
          → get_times a n bytes ≡ Some (xs, rest) → Takes bytes (flat_map a.put xs) rest
          × ((length xs ≡ n) × AllByRecursion P xs)
      takes zero bytes xs rest fits e =
          subst (λ (y : List X × List ℕ). Takes bytes (flat_map a.put y.0) y.1
          × ((length y.0 ≡ 0) × AllByRecursion P y.0)) (let s : ([], bytes) ≡ (xs, rest)
          = some_is ([], bytes) (xs, rest) e in s) (record { parts = refl; rest_fits = fits }, (refl, tt))
      takes (suc n) bytes xs rest fits e =
          let p = bind_some (a.get bytes) (λ p. option_map (λ q. (p.0 ∷ q.0, q.1)) (get_times a n p.1)) (xs, rest) e in
          let q = map_some (get_times a n p.0.1) (λ q. (p.0.0 ∷ q.0, q.1)) (xs, rest) p.2 in
          let first = ha.takes bytes p.0.0 p.0.1 fits p.1 in
          let second = takes n p.0.1 q.0.0 q.0.1 first.0.rest_fits q.1 in
          let both = Takes-then bytes (a.put p.0.0) p.0.1 (flat_map a.put q.0.0) q.0.1 first.0 second.0 in
          subst (λ (y : List X × List ℕ). Takes bytes (flat_map a.put y.0) y.1
          × ((length y.0 ≡ suc n) × AllByRecursion P y.0)) q.2 (
            rw flat_map-cons both,
            (ap suc second.1.0, (first.1, second.1.1)),
          )

  -- the same format, where what fits is said in another way
  pub fits-is : (Q : X → Type 0) → ((x : X) → Q x → P x) → ((x : X) → P x → Q x) → IsFormat a Q
  fits-is Q from to = record {
    again = λ x rest fits. ha.again x rest (from x fits);
    takes = λ bytes x rest fits e. let t = ha.takes bytes x rest fits e in (t.0, to x t.1);
  }

  -- what was written is read as itself
  pub whole-again : (x : X) → P x → whole a (a.put x) ≡ Some x
  whole-again x fits = ap (λ b. only a (a.get b)) (sym (append-nil (a.put x))) ∙ ap (only a) (ha.again x [] fits)

  -- all of the bytes spell a value just where they are its spelling
  pub whole-is : (bytes : List ℕ) (x : X) → IsBytes bytes → (whole a bytes ≡ Some x) ↔ ((bytes ≡ a.put x) × P x)
  whole-is bytes x fits = (λ e. from (a.get bytes) refl e, λ h. ap (whole a) h.0 ∙ whole-again x h.1)
    where
      from : (o : Option (X × List ℕ)) → a.get bytes ≡ o → only a o ≡ Some x → (bytes ≡ a.put x) × P x
      from None q e = absurd cc
      from (Some (y, [])) q e =
          let s = ha.takes bytes y [] fits q in
          subst (λ z. (bytes ≡ a.put z) × P z) (let same : y ≡ x = cc in same) (s.0.parts ∙ append-nil (a.put y), s.1)
      from (Some (y, b ∷ rest)) q e = absurd cc

module _ (len : Format ℕ) (L : ℕ → Type 0) (hl : IsFormat len L) where
  pub sized-is : IsFormat (sized len) (λ text. L (length text))
  sized-is = record { again = again; takes = takes }
    where
      again : (text rest : List ℕ) → L (length text)
          → (sized len).get ((len.put (length text) ++ text) ++ rest) ≡ Some (text, rest)
      again text rest fits =
          ap (sized len).get (append_assoc (len.put (length text)) text rest)
          ∙ ap (option_and_then (λ n. (run n.0).get n.1)) (hl.again (length text) (text ++ rest) fits)
          ∙ (run-is (length text)).again text rest refl

      takes : (bytes text rest : List ℕ) → IsBytes bytes → (sized len).get bytes ≡ Some (text, rest)
          → Takes bytes (len.put (length text) ++ text) rest × L (length text)
      takes bytes text rest fits e =
          let n = bind_some (len.get bytes) (λ n. (run n.0).get n.1) (text, rest) e in
          let s = hl.takes bytes n.0.0 n.0.1 fits n.1 in
          let t = (run-is n.0.0).takes n.0.1 text rest s.0.rest_fits n.2 in
          subst (λ k. Takes bytes (len.put k ++ text) rest
          × L k) (sym t.1) (Takes-then bytes (len.put n.0.0) n.0.1 text rest s.0 t.0, s.1)

  pub counted-is : {X : Type 0} (a : Format X) (P : X → Type 0) → IsFormat a P
      → IsFormat (with_count a len) (λ xs. L (length xs) × AllByRecursion P xs)
  counted-is {X} a P ha = record { again = again; takes = takes }
    where
      again : (xs : List X) (rest : List ℕ) → L (length xs) × AllByRecursion P xs
          → (with_count a len).get ((len.put (length xs) ++ flat_map a.put xs) ++ rest) ≡ Some (xs, rest)
      again xs rest fits =
          ap (with_count a len).get (append_assoc (len.put (length xs)) (flat_map a.put xs) rest)
          ∙ ap (option_and_then (λ n. get_times a n.0 n.1)) (hl.again (length xs) (flat_map a.put xs ++ rest) fits.0)
          ∙ (times-is a P ha (length xs)).again xs rest (refl, fits.1)

      takes : (bytes : List ℕ) (xs : List X) (rest : List ℕ) → IsBytes bytes
          → (with_count a len).get bytes ≡ Some (xs, rest) → Takes bytes (len.put (length xs) ++ flat_map a.put xs) rest
          × (L (length xs) × AllByRecursion P xs)
      takes bytes xs rest fits e =
          let n = bind_some (len.get bytes) (λ n. get_times a n.0 n.1) (xs, rest) e in
          let s = hl.takes bytes n.0.0 n.0.1 fits n.1 in
          let t = (times-is a P ha n.0.0).takes n.0.1 xs rest s.0.rest_fits n.2 in
          subst (λ k. Takes bytes (len.put k ++ flat_map a.put xs) rest × (L k × AllByRecursion P xs)) (sym t.1.0)
          (Takes-then bytes (len.put n.0.0) n.0.1 (flat_map a.put xs) rest s.0 t.0, (s.1, t.1.1))
