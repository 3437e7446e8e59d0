-- Classes on their way into an index, and the index of them.
use Rattle.std.proofs.Common.{◌≡◌, ℕ, zero, suc, ◌+◌, ◌<◌, get_or, take, Option, None, List, [], ◌∷◌, ◌++◌, length, map, refl, sym, ap, ap₂}
use Rattle.std.proofs.Common.{subst, ◌∙◌, arith}
use Rattle.std.specs.List.{All, AllZip}
use Rattle.std.proofs.lemmas.List.{map-append, take_more}
use Rattle.cube_defs.specs.Rows as defs
use Rattle.aggregates.specs.Views.{IsThere}
use Rattle.aggregates.specs.declared.agg.Agg.{Agg}
use Rattle.aggregates.specs.declared.kind.AggKind.{AggKind}
use Rattle.cell_core.specs.declared.cell.NodeNo.{NodeNo}
use Rattle.qc_arena.specs.Changes.{AreNew}
use Rattle.measure_index.specs.Builder.{AreKeysOf, GatheredKeys, HasOneMore, IsRankingOf, gathered_units}
use Rattle.measure_index.specs.Index.{scale_of, units}
use Rattle.measure_index.specs.ColumnKeys.{IsKey}
use Rattle.measure_index.specs.Rankings.{IsIndex, IsRanking, Ranking, no_entries}
use Rattle.measure_index.proofs.Classes.{no_classes, ranking_changed}
use Rattle.measure_index.proofs.Zips.{zip_more}

-- ---- before a class comes

abbrev pub bare_coming : List ℕ → AggKind → GatheredKeys
bare_coming scales kind = record { kind = kind; scale = scale_of scales kind; keys = [] }

pub bare_more : (scales : List ℕ) (kinds : List AggKind) (k : ℕ) (d : AggKind) (scale : ℕ) (made : GatheredKeys)
    → k < length kinds → made ≡ record { kind = get_or kinds k d; scale = scale; keys = [] }
    → scale ≡ scale_of scales (get_or kinds k d)
    → (before now : List GatheredKeys) → before ≡ map (bare_coming scales) (take k kinds) → now ≡ before ++ made ∷ []
    → now ≡ map (bare_coming scales) (take (k + 1) kinds)
bare_more scales kinds k d scale made lt is unit before now had more =
    more ∙ ap₂ (λ cs (c : GatheredKeys). cs ++ c ∷ []) had (is
    ∙ ap (λ s. record { kind = get_or kinds k d; scale = s; keys = [] }) unit)
    ∙ sym (map-append (bare_coming scales) (take k kinds) (get_or kinds k d ∷ []))
    ∙ ap (map (bare_coming scales)) (sym (take_more kinds k d lt))

pub bare_units : (scales : List ℕ) (kinds : List AggKind)
    → gathered_units (map (bare_coming scales) kinds) ≡ map (λ kind. (kind, scale_of scales kind)) kinds
bare_units scales [] = refl
bare_units scales (kind ∷ kinds) = ap (λ us. (kind, scale_of scales kind) ∷ us) (bare_units scales kinds)

pub bare_keys : (scales : List ℕ) (kinds : List AggKind) → AreKeysOf [] (map (bare_coming scales) kinds)
bare_keys scales [] = λ k d l. absurd (omega (arith, l))
bare_keys scales (kind ∷ kinds) = behind (bare_keys scales kinds)
  where
    behind : AreKeysOf [] (map (bare_coming scales) kinds) → AreKeysOf [] (map (bare_coming scales) (kind ∷ kinds))
    behind more zero d l = tt
    behind more (suc k) d l = more k d (omega (arith, l))

-- ---- a class comes

pub of_units : (measures : ℕ) (comings : List GatheredKeys)
    → All (λ unit. IsThere measures unit.0) (gathered_units comings) → All (λ c. IsThere measures c.kind) comings
of_units measures [] h = λ k d l. absurd (omega (arith, l))
of_units measures (c ∷ comings) h = behind (of_units measures comings (λ k d l. h (suc k) d (omega (arith, l))))
  where
    behind : All (λ c. IsThere measures c.kind) comings → All (λ c. IsThere measures c.kind) (c ∷ comings)
    behind more zero d l = h 0 (c.kind, c.scale) (omega arith)
    behind more (suc k) d l = more k d (omega (arith, l))

pub one_more : (class : NodeNo × Agg) (olds news : List GatheredKeys) → AllZip (HasOneMore class) olds news
    → (before : List (NodeNo × Agg)) → AreKeysOf before olds → AreKeysOf (before ++ class ∷ []) news
one_more class [] [] h before are = λ k d l. absurd (omega (arith, l))
one_more class [] (n ∷ news) h before are = absurd h
one_more class (o ∷ olds) [] h before are = absurd h
one_more class (o ∷ olds) (n ∷ news) h before are
    = behind (one_more class olds news h.1 before (λ k d l. are (suc k) d (omega (arith, l))))
  where
    first : AllZip (IsKey n.kind) (before ++ class ∷ []) n.keys
    first =
        subst (λ (c : GatheredKeys). AllZip (IsKey c.kind) (before ++ class ∷ []) c.keys) (sym h.0.2)
        (zip_more (IsKey o.kind) before o.keys class h.0.0 (are 0 o (omega arith)) h.0.1)

    behind : AreKeysOf (before ++ class ∷ []) news → AreKeysOf (before ++ class ∷ []) (n ∷ news)
    behind more zero d l = first
    behind more (suc k) d l = more k d (omega (arith, l))

-- ---- the index

pub ranked_units : (comings : List GatheredKeys) (index : List Ranking) → AllZip IsRankingOf comings index
    → units index ≡ gathered_units comings
ranked_units [] [] h = refl
ranked_units [] (r ∷ index) h = absurd h
ranked_units (c ∷ comings) [] h = absurd h
ranked_units (c ∷ comings) (r ∷ index) h
    = ap₂ (λ u us. u ∷ us) (λ i. (h.0.kind i, h.0.scale i)) (ranked_units comings index h.1)

none_was : (class : ℕ → Option defs.Agg) → AreNew class (λ _. None) []
none_was class = record {
  listed = λ i x e. cc;
  new = λ i x e. cc;
  all = λ q a e. cc;
  once = λ i j x y l e. cc;
}

pub ranked_index : (comings : List GatheredKeys) (index : List Ranking) → AllZip IsRankingOf comings index
    → (classes : List (NodeNo × Agg)) (class : ℕ → Option defs.Agg) → AreKeysOf classes comings
    → AreNew (λ _. None) class classes → IsIndex class index
ranked_index [] [] h classes class are new = λ k d l. absurd (omega (arith, l))
ranked_index [] (r ∷ index) h classes class are new = absurd h
ranked_index (c ∷ comings) [] h classes class are new = absurd h
ranked_index (c ∷ comings) (r ∷ index) h classes class are new
    = behind (ranked_index comings index h.1 classes class (λ k d l. are (suc k) d (omega (arith, l))) new)
  where
    first : IsRanking class r
    first = ranking_changed classes [] (λ _. None) class new (none_was class) (no_entries c.kind c.scale) r
        (h.0.classes classes (are 0 c (omega arith))) (no_classes c.kind c.scale)

    behind : IsIndex class index → IsIndex class (r ∷ index)
    behind more zero d l = first
    behind more (suc k) d l = more k d (omega (arith, l))
