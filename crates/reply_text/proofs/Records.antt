-- Records written field by field.
use Rattle.std.proofs.Common.{◌≡◌, ◌<◌, ◌+◌, ◌∙◌, ℕ, zero, suc, List, [], ◌∷◌, ◌++◌, take, length, get_or, refl, sym, ap, append_assoc}
use Rattle.std.proofs.Common.{append-nil, arith, add-one}
use Rattle.std.specs.List.{join_with_byte}
use Rattle.std.proofs.lemmas.List.{length-map, length-take}
use Rattle.aggregates.specs.Views.{agg_in, part_in}
use Rattle.aggregates.specs.declared.agg.Agg.{Agg}
use Rattle.cube_defs.specs.Text.{Text}
use Rattle.cube_defs.specs.Rows.{Part, part_of}
use Rattle.qc_schema.specs.Schema.{Measure, no_measure}
use Rattle.reply_text.specs.Replies.{fields_text, part_texts, parts_texts, record_text}

regroup-three : (out x y z : List ℕ) → ((out ++ x) ++ y) ++ z ≡ out ++ (x ++ (y ++ z))
regroup-three out x y z = simp append_assoc

pub three-fields : (out a b c : List ℕ) → ((out ++ 44 ∷ a) ++ 44 ∷ b) ++ 44 ∷ c ≡ out ++ fields_text (a ∷ b ∷ c ∷ [])
three-fields out a b c = regroup-three out (44 ∷ a) (44 ∷ b) (44 ∷ c)
    ∙ ap (λ (z : List ℕ). out ++ ((44 ∷ a) ++ ((44 ∷ b) ++ (44 ∷ z)))) (sym (append-nil c))

pub fields-append : (xs ys : List Text) → fields_text (xs ++ ys) ≡ fields_text xs ++ fields_text ys
fields-append [] ys = refl
fields-append (x ∷ xs) ys = ap (λ (z : List ℕ). 44 ∷ x ++ z) (fields-append xs ys)
    ∙ ap (λ (z : List ℕ). 44 ∷ z) (sym (append_assoc x (fields_text xs) (fields_text ys)))

-- a field after three
pub fourth-field : (out a b c d : List ℕ) → (out ++ fields_text (a ∷ b ∷ c ∷ [])) ++ 44 ∷ d ≡ out
    ++ fields_text (a ∷ b ∷ c ∷ d ∷ [])
fourth-field out a b c d = append_assoc out (fields_text (a ∷ b ∷ c ∷ [])) (44 ∷ d)
    ∙ ap (λ (z : List ℕ). out ++ (fields_text (a ∷ b ∷ c ∷ []) ++ 44 ∷ z)) (sym (append-nil d))
    ∙ ap (λ (z : List ℕ). out ++ z) (sym (fields-append (a ∷ b ∷ c ∷ []) (d ∷ [])))

-- the first field, and each other after a comma
pub record-fields : (x : Text) (xs : List Text) → join_with_byte 44 (x ∷ xs) ≡ x ++ fields_text xs
record-fields x [] = sym (append-nil x)
record-fields x (y ∷ ys) = ap (λ (z : List ℕ). x ++ 44 ∷ z) (record-fields y ys)

-- the numbers of the first measures with one more
pub parts-more : (count : ℕ) (measures : List Measure) (parts : List Part) (k : ℕ) → k < length measures
    → k < length parts
    → parts_texts count (take (k + 1) measures) (take (k + 1) parts)
    ≡ parts_texts count (take k measures) (take k parts) ++ part_texts count (get_or measures k no_measure).scale
    (get_or parts k (part_of []))
parts-more count measures parts k h l = rw add-one (by measures parts k h l)
  where
    by : (measures : List Measure) (parts : List Part) (k : ℕ) → k < length measures → k < length parts
        → parts_texts count (take (suc k) measures) (take (suc k) parts)
        ≡ parts_texts count (take k measures) (take k parts) ++ part_texts count (get_or measures k no_measure).scale
        (get_or parts k (part_of []))
    by [] parts k h l = absurd (omega arith)
    by (m ∷ measures) [] k h l = absurd (omega arith)
    by (m ∷ measures) (p ∷ parts) zero h l = append-nil (part_texts count m.scale p)
    by (m ∷ measures) (p ∷ parts) (suc k) h l =
        ap (λ (z : List Text). part_texts count m.scale p ++ z) (by measures parts k (omega arith) (omega arith))
        ∙ sym (append_assoc (part_texts count m.scale p) (parts_texts count (take k measures) (take k parts))
        (part_texts count (get_or measures k no_measure).scale (get_or parts k (part_of []))))

-- a measure of an aggregate has its part
pub part-there : (a : Agg) (k : ℕ) → k < a.measures → k < length a.parts → k < length (agg_in a).parts
part-there a k h l = omega (arith, length-map (take a.measures a.parts) part_in, length-take a.measures a.parts)

-- a record after other bytes, whose first fields were written before
pub record-more : (out word line : Text) (cell more : List Text)
    → (((out ++ word) ++ fields_text (line ∷ cell)) ++ fields_text more) ++ 10 ∷ [] ≡ out
    ++ record_text (word ∷ line ∷ cell ++ more)
record-more out word line cell more =
    regroup out word (fields_text (line ∷ cell)) (fields_text more) (10 ∷ [])
    ∙ ap (λ (z : List ℕ). out ++ (z ++ 10 ∷ []))
    (ap (λ (z : List ℕ). word ++ z) (sym (fields-append (line ∷ cell) more))
    ∙ sym (record-fields word (line ∷ (cell ++ more))))
  where
    regroup : (v w x y z : List ℕ) → (((v ++ w) ++ x) ++ y) ++ z ≡ v ++ ((w ++ (x ++ y)) ++ z)
    regroup v w x y z = simp append_assoc

-- with a cell alone
pub record-end : (out word line : Text) (cell : List Text)
    → ((out ++ word) ++ fields_text (line ∷ cell)) ++ 10 ∷ [] ≡ out ++ record_text (word ∷ line ∷ cell ++ [])
record-end out word line cell =
    ap (λ (z : List ℕ). z ++ 10 ∷ []) (sym (append-nil ((out ++ word) ++ fields_text (line ∷ cell))))
    ∙ record-more out word line cell []
