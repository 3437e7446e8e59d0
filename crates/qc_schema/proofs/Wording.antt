-- Lines that are made of words are cut into these words again.
use Rattle.std.proofs.Common.{◌≡◌, ◌<◌, ◌-◌, ◌∙◌, ℕ, zero, suc, List, [], ◌∷◌, ◌++◌, length, get_or, refl, sym, ap, arith, true, false}
use Rattle.std.proofs.Common.{append_assoc}
use Rattle.std.specs.Prelude.{◌==◌, filter, map, IsUtf8}
use Rattle.std.specs.Char.{is_ascii_digit}
use Rattle.std.specs.List.{list_all, flat_map, AllByRecursion}
use Rattle.std.specs.Str.{all_ascii_digits}
use Rattle.std.proofs.lemmas.Bool.{and_parts}
use Rattle.std.proofs.lemmas.Bool.Decides.{nat_tests}
use Rattle.std.proofs.lemmas.Str.{IsUtf8-from_ascii}
use Rattle.cube_defs.specs.Text.{Text}
use Rattle.text_lines.specs.Cuts.{cut_at, has_bytes, words_of}
use Rattle.text_lines.specs.Lines.{is_comment, lines_of, without_cr}
use Rattle.qc_schema.specs.Schema.{is_name_byte}
use Rattle.qc_schema.specs.Spelling.{line_text}
use Rattle.qc_schema.proofs.Naming.{name-byte}

-- a word of letters, digits and `_`
pub record IsWord (word : Text) : Type 0 where
  pub some : 0 < length word
  pub bytes : list_all is_name_byte word ≡ true

-- at least one word
pub record IsLine (words : List Text) : Type 0 where
  pub some : 0 < length words
  pub each : AllByRecursion IsWord words

-- a line without its LF
abbrev pub joined : List Text → List ℕ
joined [] = []
joined (word ∷ []) = word
joined (word ∷ next ∷ words) = word ++ 32 ∷ joined (next ∷ words)

name-not-space : (b : ℕ) → is_name_byte b ≡ true → (b == 32) ≡ false
name-not-space b h = grind (arith, nat_tests)

name-not-lf : (b : ℕ) → is_name_byte b ≡ true → (b == 10) ≡ false
name-not-lf b h = grind (arith, nat_tests)

name-not-cr : (b : ℕ) → is_name_byte b ≡ true → (b == 13) ≡ false
name-not-cr b h = grind (arith, nat_tests)

name-not-mark : (b : ℕ) → is_name_byte b ≡ true → (b == 35) ≡ false
name-not-mark b h = grind (arith, nat_tests)

digit-byte : (b : ℕ) → is_ascii_digit b ≡ true → is_name_byte b ≡ true
digit-byte b h = grind (arith, nat_tests)

pub digits-bytes : (ds : List ℕ) → all_ascii_digits ds ≡ true → list_all is_name_byte ds ≡ true
digits-bytes [] h = refl
digits-bytes (b ∷ bs) h = let p = and_parts (is_ascii_digit b) (all_ascii_digits bs) h in
    rw (digit-byte b p.0, digits-bytes bs p.1) refl

-- what a byte of a line is known to be
pub record IsPlain (b : ℕ) : Type 0 where
  pub ascii : b < 128
  pub no_lf : (b == 10) ≡ false
  pub no_cr : (b == 13) ≡ false

plain-name : (b : ℕ) → is_name_byte b ≡ true → IsPlain b
plain-name b h = record { ascii = name-byte b h; no_lf = name-not-lf b h; no_cr = name-not-cr b h }

plain-space : IsPlain 32
plain-space = record { ascii = omega arith; no_lf = refl; no_cr = refl }

plain-append : (xs ys : List ℕ) → AllByRecursion IsPlain xs → AllByRecursion IsPlain ys
    → AllByRecursion IsPlain (xs ++ ys)
plain-append [] ys a b = b
plain-append (x ∷ xs) ys a b = (a.0, plain-append xs ys a.1 b)

plain-word : (word : Text) → list_all is_name_byte word ≡ true → AllByRecursion IsPlain word
plain-word [] h = tt
plain-word (b ∷ bs) h = let p = and_parts (is_name_byte b) (list_all is_name_byte bs) h in
    (plain-name b p.0, plain-word bs p.1)

plain-joined : (words : List Text) → AllByRecursion IsWord words → AllByRecursion IsPlain (joined words)
plain-joined [] h = tt
plain-joined (word ∷ []) h = plain-word word h.0.bytes
plain-joined (word ∷ next ∷ words) h
    = plain-append word (32 ∷ joined (next ∷ words)) (plain-word word h.0.bytes) (
      plain-space,
      plain-joined (next ∷ words) h.1,
    )

-- a line's text is cut at its LF
text-joined : (words : List Text) (rest : List ℕ) → line_text words ++ rest ≡ joined words ++ 10 ∷ rest
text-joined [] rest = refl
text-joined (word ∷ []) rest = append_assoc word (10 ∷ []) rest
text-joined (word ∷ next ∷ words) rest =
    append_assoc word (32 ∷ line_text (next ∷ words)) rest
    ∙ ap (λ (xs : List ℕ). word ++ 32 ∷ xs) (text-joined (next ∷ words) rest)
    ∙ sym (append_assoc word (32 ∷ joined (next ∷ words)) (10 ∷ rest))

line-prefix : (xs rest : List ℕ) → AllByRecursion IsPlain xs → lines_of (xs ++ 10 ∷ rest) ≡ xs ∷ lines_of rest
line-prefix [] rest h = refl
line-prefix (x ∷ xs) rest h = rw (h.0.no_lf, line-prefix xs rest h.1) refl

no-cr-at : (xs : List ℕ) (i : ℕ) → AllByRecursion IsPlain xs → (get_or xs i 0 == 13) ≡ false
no-cr-at [] i h = refl
no-cr-at (x ∷ xs) zero h = h.0.no_cr
no-cr-at (x ∷ xs) (suc i) h = no-cr-at xs i h.1

cr-none : (xs : List ℕ) → AllByRecursion IsPlain xs → without_cr xs ≡ xs
cr-none xs h = rw (no-cr-at xs (length xs - 1) h) refl

pub lines-more : (words : List Text) (rest : List ℕ) → IsLine words
    → map without_cr (lines_of (line_text words ++ rest)) ≡ joined words ∷ map without_cr (lines_of rest)
lines-more words rest h =
    let plain : AllByRecursion IsPlain (joined words) = plain-joined words h.each in
    ap (λ (bs : List ℕ). map without_cr (lines_of bs)) (text-joined words rest)
    ∙ ap (map without_cr) (line-prefix (joined words) rest plain)
    ∙ ap (λ (line : List ℕ). line ∷ map without_cr (lines_of rest)) (cr-none (joined words) plain)

-- the words of a line
piece-prefix : (word rest : List ℕ) → list_all is_name_byte word ≡ true
    → cut_at 32 (word ++ 32 ∷ rest) ≡ word ∷ cut_at 32 rest
piece-prefix [] rest h = refl
piece-prefix (b ∷ bs) rest h = let p = and_parts (is_name_byte b) (list_all is_name_byte bs) h in
    rw (name-not-space b p.0, piece-prefix bs rest p.1) refl

piece-last : (word : List ℕ) → list_all is_name_byte word ≡ true → cut_at 32 word ≡ word ∷ []
piece-last [] h = refl
piece-last (b ∷ bs) h = let p = and_parts (is_name_byte b) (list_all is_name_byte bs) h in
    rw (name-not-space b p.0, piece-last bs p.1) refl

keep-word : (word : List ℕ) (pieces : List (List ℕ)) → 0 < length word
    → filter has_bytes (word ∷ pieces) ≡ word ∷ filter has_bytes pieces
keep-word [] pieces h = absurd (omega arith)
keep-word (b ∷ bs) pieces h = refl

pub words-joined : (words : List Text) → AllByRecursion IsWord words → words_of (joined words) ≡ words
unfolding words_of
words-joined [] h = refl
words-joined (word ∷ []) h = ap (filter has_bytes) (piece-last word h.0.bytes) ∙ keep-word word [] h.0.some
words-joined (word ∷ next ∷ words) h =
    ap (filter has_bytes) (piece-prefix word (joined (next ∷ words)) h.0.bytes)
    ∙ keep-word word (cut_at 32 (joined (next ∷ words))) h.0.some
    ∙ ap (λ (ws : List Text). word ∷ ws) (words-joined (next ∷ words) h.1)

pub not-comment : (words : List Text) → IsLine words → is_comment (joined words) ≡ false
not-comment [] h = refl
not-comment ([] ∷ words) h = absurd (omega (arith, h.each.0.some))
not-comment ((b ∷ bs) ∷ []) h = name-not-mark b (and_parts (is_name_byte b) (list_all is_name_byte bs) h.each.0.bytes).0
not-comment ((b ∷ bs) ∷ next ∷ words) h
    = name-not-mark b (and_parts (is_name_byte b) (list_all is_name_byte bs) h.each.0.bytes).0

-- the whole text is ASCII
ascii-at : (xs : List ℕ) (i : ℕ) → AllByRecursion (λ b. b < 128) xs → get_or xs i 0 < 128
ascii-at [] i h = omega arith
ascii-at (x ∷ xs) zero h = h.0
ascii-at (x ∷ xs) (suc i) h = ascii-at xs i h.1

ascii-plain : (xs : List ℕ) (rest : List ℕ) → AllByRecursion IsPlain xs → AllByRecursion (λ b. b < 128) rest
    → AllByRecursion (λ b. b < 128) (xs ++ rest)
ascii-plain [] rest h r = r
ascii-plain (x ∷ xs) rest h r = (h.0.ascii, ascii-plain xs rest h.1 r)

ascii-lines : (lines : List (List Text)) → AllByRecursion IsLine lines
    → AllByRecursion (λ b. b < 128) (flat_map line_text lines)
ascii-lines [] h = tt
ascii-lines (words ∷ lines) h
    = rw (text-joined words (flat_map line_text lines))
    (ascii-plain (joined words) (10 ∷ flat_map line_text lines) (plain-joined words h.0.each) (
      omega arith,
      ascii-lines lines h.1,
    ))

pub text-utf8 : (lines : List (List Text)) → AllByRecursion IsLine lines → IsUtf8 (flat_map line_text lines)
text-utf8 lines h = IsUtf8-from_ascii (flat_map line_text lines)
    (λ i. ascii-at (flat_map line_text lines) i (ascii-lines lines h))
