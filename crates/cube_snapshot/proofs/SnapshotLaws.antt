-- A snapshot has one spelling.
use Rattle.std.proofs.Common.{◌≡◌, ◌↔◌, ℕ, ◌^◌, ◌<◌, Bool, true, false, cond, List, Option, Some, None, Result, Ok, Err, length, refl, sym}
use Rattle.std.proofs.Common.{ap, ◌∙◌, subst}
use Rattle.std.specs.Cmp.Lexicographic.{bytes_decides}
use Rattle.std.specs.Str.{bytes_eq}
use Rattle.std.specs.Int.{w32}
use Rattle.std.specs.List.{AllByRecursion}
use Rattle.cube_defs.specs.Text.{Text}
use Rattle.cube_defs.specs.Rows.{Row}
use Rattle.qc_schema.specs.Schema.{Layout}
use Rattle.qc_schema.specs.Grammar.{schema_in}
use Rattle.qc_schema.specs.Spelling.{layout_text}
use Rattle.cube_snapshot.specs.Format.{IsBytes, then_format, number, run, sized, repeated, whole}
use Rattle.cube_snapshot.specs.Parts.{AreTexts, IsRow, rows, texts}
use Rattle.cube_snapshot.specs.Snapshot.{AreLists, AreRows, IsSnapshot, IsSpelled, Parts, Sequence, texts_and_rows, if_canonical, mark}
use Rattle.cube_snapshot.specs.Snapshot.{mark_in, mark_text, parts_of, schema, schema_of, sequence, sequence_of, snapshot}
use Rattle.cube_snapshot.proofs.FormatLaws.{IsFormat, fits-is, followed-is, number-is, run-is, seen-is, sized-is, times-is, whole-again}
use Rattle.cube_snapshot.proofs.FormatLaws.{whole-is, wide32}
use Rattle.cube_snapshot.proofs.PartLaws.{rows-is, texts-is}

itself : (text : Text) → bytes_eq text text ≡ true
itself text = (bytes_decides text text).1 refl

passed : {X : Type 0} (b : Bool) (x y : X) → cond b (Some x) None ≡ Some y → (b ≡ true) × (x ≡ y)
passed true x y e = (refl, cc)
passed false x y e = absurd cc

pub mark-is : IsFormat mark (λ _. Unit {0})
mark-is = seen-is (run 8) (λ _. mark_text) mark_in (λ text. length text ≡ 8) (λ _. Unit {0}) (run-is 8)
    (λ _ _. (refl, ap (λ b. cond b (Some tt) None) (itself mark_text)))
    (λ x _ h e. (sym ((bytes_decides x mark_text).0 (passed (bytes_eq x mark_text) tt _ e).0), tt))

pub schema-is : IsFormat schema IsSpelled
schema-is = seen-is (sized (number w32)) layout_text schema_of (λ text. length text < 2 ^ 32) IsSpelled
    (sized-is (number w32) (λ n. n < 2 ^ 32) (number-is w32 (2 ^ 32) wide32))
    (λ l h. (
      h.few,
      ap (if_canonical (layout_text l)) h.again
          ∙ ap (λ b. cond b (Some l) None) (itself (layout_text l)),
    ))
    (λ x l h e. let b = back schema_in x l (schema_in x) refl e in
    (b.0, record { few = subst (λ t. length t < 2 ^ 32) (sym b.0) h; again = b.1 }))
  where
    back : {E : Type 0} (read : List ℕ → Result Layout E) (x : List ℕ) (l : Layout) (r : Result Layout E) → read x ≡ r
        → if_canonical x r ≡ Some l → (layout_text l ≡ x) × (read (layout_text l) ≡ Ok l)
    back read x l (Err f) q e = absurd cc
    back read x l (Ok k) q e =
        let p = passed (bytes_eq x (layout_text k)) k l e in
        let same : layout_text l ≡ x = ap layout_text (sym p.1) ∙ sym ((bytes_decides x (layout_text k)).0 p.0) in
        (same, ap read same ∙ q ∙ ap (λ y. Ok y) p.1)

-- what holds of the parts that have a spelling, one after another
abbrev FitsBehind : Layout → List (List Text) × List (Row ℕ) → Type 0
FitsBehind l q = AreLists (length l.dims) q.0 × AreRows (length l.dims) (length l.measures) q.1

abbrev FitsSequence : Sequence → Type 0
FitsSequence s = Unit {0} × (IsSpelled s.1.0 × FitsBehind s.1.0 s.1.1)

lists-is : (dims : ℕ) → IsFormat (repeated texts dims) (AreLists dims)
lists-is dims = fits-is (repeated texts dims) (λ ts. (length ts ≡ dims) × AllByRecursion AreTexts ts)
    (times-is texts AreTexts texts-is dims) (AreLists dims)
    (λ ts h. (h.dims_are, h.each)) (λ ts h. record { dims_are = h.0; each = h.1 })

list-of-rows-is : (dims measures : ℕ) → IsFormat (rows dims measures) (AreRows dims measures)
list-of-rows-is dims measures
    = fits-is (rows dims measures) (λ rs. (length rs < 2 ^ 32) × AllByRecursion (IsRow dims measures) rs)
    (rows-is dims measures) (AreRows dims measures)
    (λ rs h. (h.few, h.each)) (λ rs h. record { few = h.0; each = h.1 })

behind-is : (l : Layout) → IsFormat (texts_and_rows l) (FitsBehind l)
behind-is l = followed-is (repeated texts (length l.dims)) (λ _. rows (length l.dims) (length l.measures))
    (AreLists (length l.dims)) (λ _. AreRows (length l.dims) (length l.measures))
    (lists-is (length l.dims)) (λ _ _. list-of-rows-is (length l.dims) (length l.measures))

sequence-is : IsFormat sequence FitsSequence
sequence-is =
    followed-is mark (λ _. then_format schema texts_and_rows) (λ _. Unit {0}) (λ _ q. IsSpelled q.0
    × FitsBehind q.0 q.1) mark-is
    (λ _ _. followed-is schema texts_and_rows IsSpelled FitsBehind schema-is (λ l _. behind-is l))

pub snapshot-is : IsFormat snapshot IsSnapshot
snapshot-is = seen-is sequence sequence_of (λ s. Some (parts_of s)) FitsSequence IsSnapshot sequence-is there back
  where
    there : (p : Parts) → IsSnapshot p → FitsSequence (sequence_of p)
        × (let o : Option Parts = Some (parts_of (sequence_of p)) in o ≡ Some p)
    there p h = ((tt, (h.spelled, (h.texts_are, h.rows_are))), refl)

    same : (x y : Parts) → (let o : Option Parts = Some x in o) ≡ Some y → x ≡ y
    same x y e = cc

    back : (s : Sequence) (p : Parts) → FitsSequence s → (let o : Option Parts = Some (parts_of s) in o) ≡ Some p
        → (sequence_of p ≡ s) × IsSnapshot p
    back s p h e =
        let e' = same (parts_of s) p e in (
          ap sequence_of (sym e'),
          subst IsSnapshot e' (record { spelled = h.1.0; texts_are = h.1.1.0; rows_are = h.1.1.1 }),
        )

-- bytes are the spelling of just one value, and of none just where nothing is read
pub one_encoding : (bytes : List ℕ) (p : Parts) → IsBytes bytes → (whole snapshot bytes ≡ Some p)
    ↔ ((bytes ≡ snapshot.put p) × IsSnapshot p)
one_encoding bytes p fits = whole-is snapshot IsSnapshot snapshot-is bytes p fits

-- what has a spelling is read from it
pub read_again : (p : Parts) → IsSnapshot p → whole snapshot (snapshot.put p) ≡ Some p
read_again p h = whole-again snapshot IsSnapshot snapshot-is p h

-- parts with one spelling are the same
pub same_parts : (p q : Parts) → IsSnapshot p → IsSnapshot q → snapshot.put p ≡ snapshot.put q → p ≡ q
same_parts p q hp hq e =
    let found : (let o : Option Parts = Some p in o) ≡ Some q = sym (read_again p hp) ∙ ap (whole snapshot) e
    ∙ read_again q hq in
    cc
