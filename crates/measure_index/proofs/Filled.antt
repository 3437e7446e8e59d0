-- A ranking without entries after classes came into it.
use Rattle.std.proofs.Common.{◌≡◌, ◌&&◌, ◌||◌, ℕ, ◌≤◌, Bool, true, false, List, [], ◌∷◌, length, refl, sym, ◌∙◌, arith}
use Rattle.std.specs.List.{AllZip}
use Rattle.std.specs.List.Sorted.{IsStrictlySortedBy}
use Rattle.std.specs.BTreeSet.{BTreeSet, contains}
use Rattle.aggregates.specs.declared.agg.Agg.{Agg}
use Rattle.aggregates.specs.declared.kind.AggKind.{AggKind}
use Rattle.cell_core.specs.declared.cell.NodeNo.{NodeNo}
use Rattle.cube_defs.specs.declared.limits.TheConstants.{MAX_SCALE}
use Rattle.measure_index.specs.declared.key.Key.{Key}
use Rattle.measure_index.specs.Changes.{HasChanged, lists}
use Rattle.measure_index.specs.Entries.{entry_total}
use Rattle.measure_index.specs.ColumnKeys.{IsKey, entries_at, key_cmp, key_total}
use Rattle.measure_index.specs.Keys.{among}
use Rattle.measure_index.specs.Rankings.{Ranking}
use Rattle.measure_index.proofs.KeyLemmas.{any_turned}
use Rattle.measure_index.proofs.Keyed.{are_entries, carried, rising}

or_none : (b : Bool) → b ≡ (b || (false && true))
or_none true = refl
or_none false = refl

module _ (kind : AggKind) (scale : ℕ) (within : scale ≤ MAX_SCALE) where
  abbrev ranking : List Key → Ranking
  ranking ks = record { kind = kind; scale = scale; entries = entries_at kind scale ks }

  pub filled : (classes : List (NodeNo × Agg)) (items : List Key) (old new : BTreeSet Key)
      → AllZip (IsKey kind) classes items → length (entries_at kind scale old.keys) ≡ 0
      → IsStrictlySortedBy key_cmp new.keys
      → ((k : Key) → contains key_cmp new k ≡ among key_cmp items k)
      → HasChanged classes [] (ranking old.keys) (ranking new.keys)
  unfolding IsStrictlySortedBy
  filled classes items old new are none sorted same = go old.keys none
    where
      go : (ks : List Key) → length (entries_at kind scale ks) ≡ 0
          → HasChanged classes [] (ranking ks) (ranking new.keys)
      go [] h = record {
        alike = record {
          kind = refl;
          scale = refl;
          was_rising = rising kind scale [] tt;
          rising
              = rising kind scale new.keys sorted;
        };
        added = entries_at kind scale items;
        removed = [];
        adds = are_entries kind scale within classes items are;
        removes = tt;
        entry = λ q.
            any_turned entry_total (entries_at kind scale new.keys) q
            ∙ carried kind scale (λ x y. y) refl [] items new.keys
            (λ k. sym (any_turned key_total new.keys k) ∙ same k) q
            ∙ or_none (lists (entries_at kind scale items) q);
      }
      go (k ∷ ks) h = absurd (omega (arith, h))
