-- The index of the tree's classes.
use Rattle.std.proofs.Common.{◌≡◌, ℕ, ◌≤◌, List, [], ◌∷◌, Option, Some, None, length, map, refl, sym, ap, subst, true, is_some, true≢false}
use Rattle.std.proofs.Common.{◌∙◌}
use Rattle.std.specs.Prelude.{Err, IfOk, IfSome, IsSome, Ok, Result, slice_index_or}
use Rattle.std.specs.FinMap as numbers
use Rattle.std.specs.List.{All, AllByRecursion}
use Rattle.std.specs.Option.{option_and_then}
use Rattle.std.specs.Ordering.{nat_cmp}
use Rattle.std.proofs.lemmas.List.Elements.{All-cons, All-nil}
use Rattle.cube_defs.specs.Rows as defs
use Rattle.cube_defs.specs.Tree.{Tree}
use Rattle.aggregates.specs.Views.{IsThere, agg_in}
use Rattle.aggregates.specs.declared.agg.Agg.{Agg}
use Rattle.aggregates.specs.declared.kind.AggKind.{AggKind}
use Rattle.cell_core.specs.declared.cell.NodeNo.{NodeNo}
use Rattle.cube_defs.specs.declared.limits.TheConstants.{MAX_SCALE}
use Rattle.measure_index.specs.Builder.{AreKeysOf, GatheredKeys, gathered_units}
use Rattle.measure_index.specs.Entries.{HaveMeasure}
use Rattle.measure_index.specs.Index.{empty_ranking, ranking_of, scale_of, units}
use Rattle.measure_index.specs.Rankings.{IsIndex, Ranking}
use Rattle.measure_index.proofs.CallerLemmas.{index_alike, scale_found, units-empty}
use Rattle.qc_arena.specs.Changes.{AreNew, class_in, class_was}
use Rattle.qc_arena.specs.Codes.{Shape}
use Rattle.qc_arena.specs.Map.{Arena, is_open}
use Rattle.qc_schema.specs.Schema.{IsLayout, Layout, Measure}
use Rattle.iceberg_query.specs.Indexed.{class_of_node}
use Rattle.iceberg_query.proofs.CallerLemmas.{class_there, class_same, there_is_measure}
use Rattle.warehouse.specs.State.{IsIndexed, scale_in}
use Rattle.warehouse.specs.Stored.{IsTreeOfSome}
use Rattle.cube_laws.proofs.CallerLemmas.{got}

-- the classes of a tree have the measures of the schema
has-measure : (schema : Layout) (tree : Tree ℕ) → IsTreeOfSome schema tree → (k : ℕ) (class : Agg)
    → class_of_node tree k ≡ Some (agg_in class) → (kind : AggKind) → IsThere (length schema.measures) kind
    → IsThere class.measures kind
has-measure schema tree is k class told kind there =
    let same = sym told ∙ class_same (numbers.get tree k) in
    there_is_measure (length schema.dims) tree (record { measures = length schema.measures; rows = is.0 }) is.1 k
    (class_there tree k (subst (λ o. IsSome o) same refl)) class kind same there

have-measure : (schema : Layout) (tree : Tree ℕ) → IsTreeOfSome schema tree
    → (from : ℕ → Option defs.Agg) (pairs : List (NodeNo × Agg)) → AreNew from (class_of_node tree) pairs
    → (kind : AggKind) → IsThere (length schema.measures) kind → HaveMeasure kind pairs
have-measure schema tree is from pairs new kind there = λ k d l.
    let x = slice_index_or pairs k d in
    has-measure schema tree is x.0.0 x.1 (new.listed k x (got pairs k d l)) kind there

abbrev pub unit-in : Layout → AggKind → AggKind × ℕ
unit-in schema kind = (kind, scale_in schema kind)

none-left : (schema : Layout) (r : Ranking) (index : List Ranking) → units (r ∷ index) ≡ map (unit-in schema) [] → ⊥
none-left schema r index e = cc

all-measured : (schema : Layout) (pairs : List (NodeNo × Agg))
    → ((kind : AggKind) → IsThere (length schema.measures) kind → HaveMeasure kind pairs)
    → (index : List Ranking) (kinds : List AggKind)
    → units index ≡ map (unit-in schema) kinds → AllByRecursion (IsThere (length schema.measures)) kinds
    → All (λ r. HaveMeasure r.kind pairs) index
all-measured schema pairs have [] kinds e there = All-nil (λ (r : Ranking). HaveMeasure r.kind pairs)
all-measured schema pairs have (r ∷ index) [] e there = absurd (none-left schema r index e)
all-measured schema pairs have (r ∷ index) (kind ∷ kinds) e there =
    let first : ◌≡◌ {A = AggKind × ℕ} (r.kind, r.scale) (kind, scale_in schema kind) = cc in
    let rest : units index ≡ map (unit-in schema) kinds = cc in
    All-cons (λ (s : Ranking). HaveMeasure s.kind pairs) r index
    (subst (λ k. HaveMeasure k pairs) (sym (ap (λ p. p.0) first)) (have kind there.0))
    (all-measured schema pairs have index kinds rest there.1)

-- classes of a tree of the schema have the measures of the index's kinds
pub measured : (schema : Layout) (tree : Tree ℕ) (index : List Ranking) → IsLayout schema → IsTreeOfSome schema tree
    → units index ≡ map (unit-in schema) schema.indexes → (from : ℕ → Option defs.Agg) (pairs : List (NodeNo × Agg))
    → AreNew from (class_of_node tree) pairs → All (λ r. HaveMeasure r.kind pairs) index
measured schema tree index layout is e from pairs new
    = all-measured schema pairs (have-measure schema tree is from pairs new) index schema.indexes e layout.indexes

-- a class of a tree of the schema has the measures of the kinds that the schema names
pub class-measured : (schema : Layout) (tree : Tree ℕ) → IsLayout schema → IsTreeOfSome schema tree
    → (k : ℕ) (class : Agg) → class_of_node tree k ≡ Some (agg_in class) → (units : List (AggKind × ℕ))
    → units ≡ map (unit-in schema) schema.indexes
    → All (λ unit. IsThere class.measures unit.0) units
class-measured schema tree layout is k class told units e
    = subst (λ (us : List (AggKind × ℕ)). All (λ unit. IsThere class.measures unit.0) us) (sym e)
    (go schema.indexes layout.indexes)
  where
    go : (kinds : List AggKind) → AllByRecursion (IsThere (length schema.measures)) kinds
        → All (λ unit. IsThere class.measures unit.0) (map (unit-in schema) kinds)
    go [] there = All-nil (λ (unit : AggKind × ℕ). IsThere class.measures unit.0)
    go (kind ∷ kinds) there
        = All-cons (λ (unit : AggKind × ℕ). IsThere class.measures unit.0) (unit-in schema kind)
        (map (unit-in schema) kinds) (has-measure schema tree is k class told kind there.0) (go kinds there.1)

-- the classes at the begin of a batch are those of the tree then
was-is : (a : Arena) (before : Shape) → a.was ≡ Some before → class_was a ≡ class_of_node before.tree
was-is a before e = λ i q. class_in (option_and_then (λ s. numbers.get s.tree q) (e i))

-- what is known of an open batch, with the tree at its begin named
pub record IsBegun (schema : Layout) (a : Arena) (index : List Ranking) : Type 0 where
  pub tree : Tree ℕ
  pub was : class_was a ≡ class_of_node tree
  pub is : IsTreeOfSome schema tree
  pub indexed : IsIndexed schema tree index

pub begun : (schema : Layout) (a : Arena) (index : List Ranking) → is_open a ≡ true
    → IfSome a.was (λ before. IsTreeOfSome schema before.tree × IsIndexed schema before.tree index)
    → IsBegun schema a index
begun schema a index opened h = go a.was refl opened h
  where
    go : (o : Option Shape) → a.was ≡ o → is_some o ≡ true
        → IfSome o (λ before. IsTreeOfSome schema before.tree × IsIndexed schema before.tree index)
        → IsBegun schema a index
    go None e bad known = absurd (true≢false (sym bad))
    go (Some before) e there known
        = record { tree = before.tree; was = was-is a before e; is = known.0; indexed = known.1 }

-- the scale of a kind that the index has is that of its measure
pub unit-named : (schema : Layout) (tree : Tree ℕ) (index : List Ranking) → IsIndexed schema tree index
    → (kind : AggKind) → IfSome (ranking_of kind index) (λ r. r.scale ≡ scale_in schema kind)
unit-named schema tree index is kind = go (ranking_of kind index) refl
  where
    go : (o : Option Ranking) → ranking_of kind index ≡ o → IfSome o (λ r. r.scale ≡ scale_in schema kind)
    go None f = tt
    go (Some r) f = scale_found (map (λ (m : Measure). m.scale) schema.measures) kind index schema.indexes is.kinds r f

pub index-empty : (schema : Layout) (scales : List ℕ) (index : List Ranking)
    → scales ≡ map (λ (m : Measure). m.scale) schema.measures → index ≡ map (empty_ranking scales) schema.indexes
    → IsIndex (λ _. None) index → IsIndexed schema numbers.empty index
index-empty schema scales index same made is = record {
  classes = index_alike (λ _. None) (class_of_node numbers.empty)
      (λ k. sym (ap class_in (numbers.get-empty nat_cmp k))) index is;
  kinds = ap units made ∙ units-empty scales schema.indexes
      ∙ ap (λ (ss : List ℕ). map (λ kind. (kind, scale_of ss kind)) schema.indexes) same;
}

-- the scales of a schema are those of its measures
pub small-scales : (measures : List Measure) → AllByRecursion (λ m. m.scale ≤ MAX_SCALE) measures
    → All (λ scale. scale ≤ MAX_SCALE) (map (λ (m : Measure). m.scale) measures)
small-scales [] h = All-nil (λ scale. scale ≤ MAX_SCALE)
small-scales (m ∷ measures) h
    = All-cons (λ scale. scale ≤ MAX_SCALE) m.scale (map (λ (m : Measure). m.scale) measures) h.0
    (small-scales measures h.1)

-- the same of an index that may not be had for want of memory
pub made-empty : {E : Type 0} (schema : Layout) (scales : List ℕ) (kinds : List AggKind) (r : Result (List Ranking) E)
    → scales ≡ map (λ (m : Measure). m.scale) schema.measures → kinds ≡ schema.indexes
    → IfOk r (λ index. index ≡ map (empty_ranking scales) kinds) → IfOk r (λ index. IsIndex (λ _. None) index)
    → IfOk r (λ index. IsIndexed schema numbers.empty index)
made-empty schema scales kinds (Ok index) same named made is
    = index-empty schema scales index same (made ∙ ap (map (empty_ranking scales)) named) is
made-empty schema scales kinds (Err e) same named made is = tt

-- the units of an index that may not be had for want of memory
pub units-named : {E : Type 0} (r : Result (List GatheredKeys) E) (made named : List (AggKind × ℕ)) → made ≡ named
    → IfOk r (λ filling. gathered_units filling ≡ made) → IfOk r (λ filling. gathered_units filling ≡ named)
units-named (Ok filling) made named same units = units ∙ same
units-named (Err e) made named same units = tt

-- the index that is made of all classes, if it is
pub index-made : {E : Type 0} (schema : Layout) (tree : Tree ℕ) (filling : List GatheredKeys)
    (pairs : List (NodeNo × Agg)) → AreKeysOf pairs filling → AreNew (λ _. None) (class_of_node tree) pairs
    → gathered_units filling ≡ map (unit-in schema) schema.indexes
    → (r : Result (List Ranking) E) → IfOk r (λ index. units index ≡ gathered_units filling)
    → IfOk r (λ index. (classes : List (NodeNo × Agg)) (class : ℕ → Option defs.Agg) → AreKeysOf classes filling
    → AreNew (λ _. None) class classes → IsIndex class index) → IfOk r (λ index. IsIndexed schema tree index)
index-made schema tree filling pairs keys new named (Ok index) us are
    = record { classes = are pairs (class_of_node tree) keys new; kinds = us ∙ named }
index-made schema tree filling pairs keys new named (Err e) us are = tt
