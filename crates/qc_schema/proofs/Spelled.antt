-- The lines of a schema's text, one after the other.
use Rattle.std.proofs.Common.{◌≡◌, ◌∙◌, ℕ, List, [], ◌∷◌, ◌++◌, map, ap, sym, append_assoc}
use Rattle.std.specs.Prelude.{codes}
use Rattle.std.specs.List.{flat_map}
use Rattle.std.proofs.lemmas.Grind.{flat_map-append}
use Rattle.cube_defs.specs.Text.{Text}
use Rattle.qc_schema.specs.Schema.{Layout, version_word}
use Rattle.qc_schema.specs.Spelling.{dim_words, index_words, layout_text, limit_words, line_text, measure_words}

in-a-row : (a b c d e f : List ℕ) → ((((a ++ b) ++ c) ++ d) ++ e) ++ f ≡ a ++ (b ++ (c ++ (d ++ (e ++ f))))
in-a-row a b c d e f = append_assoc (((a ++ b) ++ c) ++ d) e f ∙ append_assoc ((a ++ b) ++ c) d (e ++ f)
    ∙ append_assoc (a ++ b) c (d ++ (e ++ f)) ∙ append_assoc a b (c ++ (d ++ (e ++ f)))

lines-in-a-row : (a b c d : List (List Text)) → flat_map line_text (a ++ (b ++ (c ++ d))) ≡ flat_map line_text a
    ++ (flat_map line_text b ++ (flat_map line_text c ++ flat_map line_text d))
lines-in-a-row a b c d =
    flat_map-append line_text a (b ++ (c ++ d))
    ∙ ap (λ xs. flat_map line_text a ++ xs) (flat_map-append line_text b (c ++ d)
    ∙ ap (λ xs. flat_map line_text b ++ xs) (flat_map-append line_text c d))

-- a text to which each kind of line was added in turn
pub text-spelled : (l : Layout) (version id dims measures indexes limits : List ℕ)
    → version ≡ line_text (codes "qcube" ∷ version_word l.version ∷ [])
    → id ≡ version ++ line_text (codes "id" ∷ l.id ∷ [])
    → dims ≡ id ++ flat_map line_text (map dim_words l.dims)
    → measures ≡ dims ++ flat_map line_text (map measure_words l.measures)
    → indexes ≡ measures ++ flat_map line_text (map (index_words l.measures) l.indexes)
    → limits ≡ indexes ++ flat_map line_text (limit_words l)
    → limits ≡ layout_text l
text-spelled l version id dims measures indexes limits v i d m k t =
    let first : List ℕ = line_text (codes "qcube" ∷ version_word l.version ∷ []) in
    let second : List ℕ = line_text (codes "id" ∷ l.id ∷ []) in
    let dim_text : List ℕ = flat_map line_text (map dim_words l.dims) in
    let measure_text : List ℕ = flat_map line_text (map measure_words l.measures) in
    let index_text : List ℕ = flat_map line_text (map (index_words l.measures) l.indexes) in
    let limit_text : List ℕ = flat_map line_text (limit_words l) in
    let to_dims : dims ≡ (first ++ second) ++ dim_text
    = d ∙ ap (λ (xs : List ℕ). xs ++ dim_text) (i ∙ ap (λ (xs : List ℕ). xs ++ second) v) in
    let to_indexes : indexes ≡ (((first ++ second) ++ dim_text) ++ measure_text) ++ index_text =
    k ∙ ap (λ (xs : List ℕ). xs ++ index_text) (m ∙ ap (λ (xs : List ℕ). xs ++ measure_text) to_dims) in
    t ∙ ap (λ (xs : List ℕ). xs ++ limit_text) to_indexes
    ∙ in-a-row first second dim_text measure_text index_text limit_text
    ∙ ap (λ (xs : List ℕ). first ++ (second ++ xs))
    (sym (lines-in-a-row (map dim_words l.dims) (map measure_words l.measures)
    (map (index_words l.measures) l.indexes) (limit_words l)))
