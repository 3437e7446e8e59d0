-- A ranking after entries came and went, and after a change was undone.
use Rattle.std.proofs.Common.{◌≡◌, ◌&&◌, ◌||◌, not, List, ◌∷◌, sym, ap, ap₂, ◌∙◌}
use Rattle.std.specs.Prelude.{Err, Ok, OnErr, Result}
use Rattle.std.specs.BTreeSet.{BTreeSet}
use Rattle.measure_index.specs.Index.{units}
use Rattle.aggregates.specs.declared.agg.Agg.{Agg}
use Rattle.cell_core.specs.declared.cell.NodeNo.{NodeNo}
use Rattle.measure_index.specs.declared.entry.IndexEntry.{IndexEntry}
use Rattle.measure_index.specs.Changes.{AreFresh, ArePlanned, EntriesAdded, HasChanged, EntriesRemoved, has, lists}
use Rattle.measure_index.specs.Rankings.{Ranking}
use Rattle.measure_index.proofs.EntryLemmas.{same_entries}
use Rattle.measure_index.proofs.KeyLemmas.{back_again, changed}

module _ (add remove : List (NodeNo × Agg)) (old mid new : Ranking) (coming going put went : List IndexEntry)
    (plan : ArePlanned old add remove coming going) (p : put ≡ coming) where
  pub has_changed : went ≡ going → EntriesAdded put old mid → EntriesRemoved went mid new
      → HasChanged add remove old new
  has_changed q c w = record {
    alike = record {
      kind = w.alike.kind ∙ c.alike.kind;
      scale = w.alike.scale ∙ c.alike.scale;
      was_rising
          = c.alike.was_rising;
      rising = w.alike.rising;
    };
    added = plan.added;
    removed = plan.removed;
    adds = plan.adds;
    removes = plan.removes;
    entry = λ e. changed (has old e) (lists plan.added e) (lists plan.removed e) (lists going e) (has mid e)
        (has new e) (plan.goes e)
        (c.entry e ∙ ap (λ b. has old e || b) (ap (λ es. lists es e) p ∙ plan.comes e))
        (w.entry e ∙ ap (λ es. has mid e && not (lists es e)) q);
  }

pub has_gone_back : (old mid new : Ranking) (put came went : List IndexEntry) → AreFresh old put came → went ≡ came
    → EntriesAdded put old mid → EntriesRemoved went mid new → new ≡ old
has_gone_back old mid new put came went fresh q c w =
    let before : BTreeSet IndexEntry = record { keys = old.entries } in
    let after : BTreeSet IndexEntry = record { keys = new.entries } in
    let entries : old.entries ≡ new.entries =
    same_entries before after c.alike.was_rising w.alike.rising
    (λ e. back_again (has old e) (lists put e) (has mid e) (lists came e) (has new e) (c.entry e) (fresh e) (w.entry e
    ∙ ap (λ es. has mid e && not (lists es e)) q)) in
    λ i. record {
      kind = (w.alike.kind ∙ c.alike.kind) i;
      scale = (w.alike.scale ∙ c.alike.scale) i;
      entries
          = sym entries i;
    }

-- the kinds and scales stay where the first column and the others keep theirs
pub kept_units : (first next : Ranking) (rest others columns : List Ranking) → columns ≡ first ∷ rest
    → next.kind ≡ first.kind → next.scale ≡ first.scale → units others ≡ units rest
    → units (next ∷ others) ≡ units columns
kept_units first next rest others columns is kind scale more
    = ap₂ (λ u us. u ∷ us) (ap₂ (λ k s. (k, s)) kind scale) more ∙ sym (ap units is)

pub on_err : {T E P : Type 0} (r : Result T E) → P → OnErr r P
on_err (Ok x) p = tt
on_err (Err e) p = p
