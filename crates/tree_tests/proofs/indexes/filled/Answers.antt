use Rattle.std.proofs.Common.{◌≡◌, ◌+◌, ◌++◌, [], ℕ, zero, suc, List, ◌∷◌, arith, get_or, length, map, refl, subst, sym}
use Rattle.std.proofs.lemmas.Slice.Zip.{AllZip-long}
use Rattle.std.proofs.lemmas.List.{length-append}
use Rattle.aggregates.specs.declared.agg.Agg.{Agg}
use Rattle.cell_core.specs.declared.cell.NodeNo.{NodeNo}
use Rattle.measure_index.specs.Builder.{AreKeysOf, GatheredKeys}
use Rattle.measure_index.specs.ColumnKeys.{IsKey}
use Rattle.std.specs.List.{All}
use Rattle.aggregates.specs.Views.{IsThere}
use Rattle.aggregates.specs.declared.kind.AggKind.{AggKind}
use Rattle.measure_index.specs.Index.{scale_of}
use Rattle.tree_tests.proofs.indexes.filled.Goals as goal

-- each unit has a measure where its kind has one
units_there : (scale : AggKind → ℕ) (kinds : List AggKind) → All (IsThere 1) kinds
    → All (λ (unit : AggKind × ℕ). IsThere 1 unit.0) (map (λ kind. (kind, scale kind)) kinds)
units_there scale [] h = λ k d l. absurd (omega (arith, l))
units_there scale (kind ∷ kinds) h = after (units_there scale kinds (λ k d l. h (suc k) d (omega (arith, l))))
  where
    after : All (λ (unit : AggKind × ℕ). IsThere 1 unit.0) (map (λ kind. (kind, scale kind)) kinds)
        → All (λ (unit : AggKind × ℕ). IsThere 1 unit.0) (map (λ kind. (kind, scale kind)) (kind ∷ kinds))
    after more zero d l = h 0 kind (omega arith)
    after more (suc k) d l = more k d (omega (arith, l))

-- a class more
one_more : (filling now : List GatheredKeys) (k : ℕ) (class : NodeNo × Agg)
    → ((before : List (NodeNo × Agg)) → AreKeysOf before filling → AreKeysOf (before ++ class ∷ []) now)
    → (before : List (NodeNo × Agg)) × AreKeysOf before filling × (length before ≡ k)
    → (before : List (NodeNo × Agg)) × AreKeysOf before now × (length before ≡ k + 1)
one_more filling now k class push was =
    let longer = length-append was.0 (class ∷ []) in
    (was.0 ++ class ∷ [], push was.0 was.1, omega (arith, longer, was.2))

pub told-init : goal.told-init
told-init c = record {
  units = subst (λ (us : List (AggKind × ℕ)). All (λ unit. IsThere 1 unit.0) us) (sym c.in_ok-filling.ensures.units)
      (units_there (λ kind. scale_of (2 ∷ []) kind) c.args.kinds.now c.requires.kinds);
  classes = ([], c.in_ok-filling.ensures.classes, refl);
}

pub told-preserved : goal.told-preserved
told-preserved c = record {
  units = subst (λ (us : List (AggKind × ℕ)). All (λ unit. IsThere 1 unit.0) us)
      (sym c.in_ok-push.ensures.units) c.told.invariant.units;
  classes = one_more c.told.filling c.push.new.self c.told.k _ c.in_ok-push.ensures.classes c.told.invariant.classes;
}

pub finish-requires : goal.finish-requires
finish-requires c = λ k d l.
    let was = c.told.invariant.classes in
    let long = AllZip-long (IsKey (get_or c.told.filling k d).kind) was.0 (get_or c.told.filling k d).keys (was.1 k d l) in
    omega (arith, long, was.2, c.requires.few, c.told.auto.k-end)
