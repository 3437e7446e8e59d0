-- Entries that are read off keys are in the keys' order, and a list of them has what the keys have.
use Rattle.std.proofs.Common.{◌≡◌, ◌⊎◌, inl, inr, ◌||◌, ℕ, ◌*◌, ◌<◌, ◌≤◌, min, Bool, true, false, ℤ, pos, ◌*ℤ◌, List, [], ◌∷◌, ◌++◌, map}
use Rattle.std.proofs.Common.{reverse, is_eq, int_cmp, refl, sym, ap, ap₂, subst, ◌∙◌}
use mathlib.Core.List.{reverse-cons}
use Rattle.std.specs.BTreeSet.{BTreeSet, IsSameSet}
use Rattle.std.specs.List.{AllByRecursion, AllZip}
use Rattle.std.specs.List.Sorted.{IsPermutation, IsStrictlySortedBy}
use Rattle.std.specs.declared.cmp.Ordering.{Ordering}
use Rattle.std.specs.declared.cmp.Ordering.TheVariants.{Less, Equal}
use Rattle.std.specs.Ordering.{nat_cmp, ordering_reverse, ordering_then}
use Rattle.std.specs.Cmp.{IsTotalOrder, int_cmp_total, tied_itself}
use Rattle.std.proofs.lemmas.List.Sorted.{IsPermutation-map, list_any-IsPermutation}
use Rattle.std.proofs.Math.Nat.{min-eq_left}
use Rattle.cube_defs.specs.Rows.{Fraction, lowest_terms}
use Rattle.cube_defs.specs.Answers.{fraction_cmp}
use Rattle.cube_defs.specs.declared.limits.TheConstants.{MAX_SCALE}
use Rattle.cube_laws.proofs.CallerLemmas.{lowest_terms-positive, lowest_terms-value, mul-mul, value_total, is_equal}
use Rattle.aggregates.specs.Quotients.{unit_of}
use Rattle.aggregates.specs.Views.{ratio_in}
use Rattle.aggregates.specs.declared.agg.Agg.{Agg}
use Rattle.aggregates.specs.declared.kind.AggKind.{AggKind}
use Rattle.aggregates.proofs.CallerLemmas.{order-over}
use Rattle.cell_core.specs.declared.cell.NodeNo.{NodeNo}
use Rattle.measure_index.specs.declared.entry.IndexEntry.{IndexEntry}
use Rattle.measure_index.specs.declared.key.Key.{Key}
use Rattle.measure_index.specs.declared.walk.Direction.{Direction}
use Rattle.measure_index.specs.declared.walk.Direction.TheVariants.{Falling, Rising}
use Rattle.measure_index.specs.Changes.{lists}
use Rattle.measure_index.specs.Entries.{AreEntries, entry_cmp, entry_total}
use Rattle.measure_index.specs.ColumnKeys.{IsKey, divisor, entries_at, entry_of, key_cmp, key_total, quotient_in}
use Rattle.measure_index.specs.Keys.{among}
use Rattle.measure_index.specs.Rankings.{IsRising}
use Rattle.measure_index.specs.Walks.{directed}
use Rattle.measure_index.specs.Divisors.{positive, some}
use Rattle.measure_index.proofs.EntryLemmas.{exact, same_entries, same_entry}
use Rattle.measure_index.proofs.KeyLemmas.{any_turned}
use Rattle.measure_index.proofs.LowestTerms.{same_ratio}

-- ---- the order of entries

-- a fraction with its value
record Valued : Type 0 where
  value : Fraction
  is_positive : 0 < value.den

abbrev by_value : Valued → Valued → Ordering
by_value x y = fraction_cmp x.value y.value

total : IsTotalOrder by_value
total = value_total (λ (x : Valued). x.value) (λ x. x.is_positive)

-- fractions of one value as another two are ordered as these are
alike : (x y u v : Valued) → by_value x u ≡ Equal → by_value y v ≡ Equal → by_value x y ≡ by_value u v
alike x y u v p q = total.congr x u y p ∙ total.antisymm u y ∙ ap ordering_reverse (total.congr y v u q)
    ∙ sym (total.antisymm u v)

pub same_entries_of : {j k : AggKind} {m n : ℕ} {xs ys : List Key} → j ≡ k → m ≡ n → xs ≡ ys
    → entries_at j m xs ≡ entries_at k n ys
same_entries_of p q r = λ i. entries_at (p i) (q i) (r i)

module _ (kind : AggKind) (scale : ℕ) where
  abbrev whole : Key → Valued
  whole k = record {
    value = record { num = k.num; den = divisor kind scale k };
    is_positive
        = positive kind scale k.den k.in_range;
  }

  abbrev lowest : Key → Valued
  lowest k = record {
    value = lowest_terms k.num (divisor kind scale k);
    is_positive
        = lowest_terms-positive k.num (divisor kind scale k) (positive kind scale k.den k.in_range);
  }

  same_value : (k : Key) → by_value (lowest k) (whole k) ≡ Equal
  same_value k = ap (λ (n : ℤ). int_cmp n (k.num *ℤ pos (lowest k).value.den))
      (lowest_terms-value k.num (divisor kind scale k) (positive kind scale k.den k.in_range))
      ∙ tied_itself int_cmp_total (k.num *ℤ pos (lowest k).value.den)

  over_units : (x y : Key) → by_value (whole x) (whole y) ≡ fraction_cmp (quotient_in x) (quotient_in y)
  over_units x y =
      let u = unit_of kind (min scale MAX_SCALE) in
      sym (order-over (x.num *ℤ pos y.den) (y.num *ℤ pos x.den) u (some kind scale).0
      ∙ ap₂ int_cmp (mul-mul x.num y.den u) (mul-mul y.num x.den u))

  pub same_order : (x y : Key) → entry_cmp (entry_of kind scale x) (entry_of kind scale y) ≡ key_cmp x y
  unfolding entry_of
  same_order x y = ap (λ o. ordering_then o (nat_cmp x.node y.node))
      (alike (lowest x) (lowest y) (whole x) (whole y) (same_value x) (same_value y) ∙ over_units x y)

  below_all : (x : Key) (ks : List Key) → AllByRecursion (λ y. key_cmp x y ≡ Less) ks
      → AllByRecursion (λ e. entry_cmp (entry_of kind scale x) e ≡ Less) (entries_at kind scale ks)
  below_all x [] h = h
  below_all x (k ∷ ks) h = (same_order x k ∙ h.0, below_all x ks h.1)

  pub rising : (ks : List Key) → IsStrictlySortedBy key_cmp ks → IsRising (entries_at kind scale ks)
  unfolding IsStrictlySortedBy
  rising [] h = h
  rising (k ∷ ks) h = (below_all k ks h.0, rising ks h.1)

  -- ---- what a list of them has

  at : (ks : List Key) (k : Key) → lists (entries_at kind scale ks) (entry_of kind scale k) ≡ among key_cmp ks k
  at [] k = refl
  at (x ∷ ks) k = ap₂ (λ a b. a || b) (ap is_eq (same_order x k)) (at ks k)

  either : (ks : List Key) (q : IndexEntry) → ((k : Key) × (entry_of kind scale k ≡ q))
      ⊎ (lists (entries_at kind scale ks) q ≡ false)
  either [] q = inr refl
  either (k ∷ ks) q = go (is_eq (entry_cmp (entry_of kind scale k) q)) refl (either ks q)
    where
      go : (b : Bool) → is_eq (entry_cmp (entry_of kind scale k) q) ≡ b → ((x : Key) × (entry_of kind scale x ≡ q))
          ⊎ (lists (entries_at kind scale ks) q ≡ false) → ((x : Key) × (entry_of kind scale x ≡ q))
          ⊎ (lists (entries_at kind scale (k ∷ ks)) q ≡ false)
      go true e rest = inl (k, exact (entry_of kind scale k) q (is_equal _ e))
      go false e (inl found) = inl found
      go false e (inr none) = inr (ap₂ (λ a b. a || b) e none)

  -- what holds of each key among some holds of each entry
  pub carried : (both : Bool → Bool → Bool) → both false false ≡ false → (old items new : List Key)
      → ((k : Key) → among key_cmp new k ≡ both (among key_cmp old k) (among key_cmp items k))
      → (q : IndexEntry) → lists (entries_at kind scale new) q ≡ both (lists (entries_at kind scale old) q)
      (lists (entries_at kind scale items) q)
  carried both none old items new h q = elim (either new q) [
    | inl f ↦ found f
    | inr n ↦ elim (either old q) [
      | inl f ↦ found f
      | inr o ↦ elim (either items q) [ inl f ↦ found f | inr i ↦ n ∙ sym none ∙ sym (ap₂ both o i) ]
    ]
  ]
    where
      found : ((k : Key) × (entry_of kind scale k ≡ q))
          → lists (entries_at kind scale new) q ≡ both (lists (entries_at kind scale old) q)
          (lists (entries_at kind scale items) q)
      found f =
          subst (λ e. lists (entries_at kind scale new) e ≡ both (lists (entries_at kind scale old) e)
          (lists (entries_at kind scale items) e)) f.1
          (at new f.0 ∙ h f.0 ∙ sym (ap₂ both (at old f.0) (at items f.0)))

  -- sets with the same keys stand for the same entries
  pub same_entries_at : (s t : BTreeSet Key) → IsStrictlySortedBy key_cmp s.keys → IsStrictlySortedBy key_cmp t.keys
      → IsSameSet key_cmp s t → entries_at kind scale s.keys ≡ entries_at kind scale t.keys
  same_entries_at s t a b h =
      same_entries (record { keys = entries_at kind scale s.keys }) (record { keys = entries_at kind scale t.keys })
      (rising s.keys a) (rising t.keys b)
      (λ q. any_turned entry_total (entries_at kind scale s.keys) q
      ∙ carried (λ x y. y) refl [] t.keys s.keys (λ k. sym (any_turned key_total s.keys k) ∙ h k
      ∙ any_turned key_total t.keys k) q
      ∙ sym (any_turned entry_total (entries_at kind scale t.keys) q))

  pub same_lists : (ks sorted : List Key) → IsPermutation ks sorted → (q : IndexEntry)
      → lists (entries_at kind scale sorted) q ≡ lists (entries_at kind scale ks) q
  same_lists ks sorted p q
      = sym (list_any-IsPermutation (λ x. is_eq (entry_cmp x q)) (entries_at kind scale ks)
      (entries_at kind scale sorted) (IsPermutation-map (entry_of kind scale) ks sorted p))

  -- ---- entries of classes, for a scale as there is one

  module _ (within : scale ≤ MAX_SCALE) where
    as_it_is : min scale MAX_SCALE ≡ scale
    as_it_is = min-eq_left within

    pub is_that : (k : Key) (e : IndexEntry) → e.node ≡ k.node
        → ratio_in e.value ≡ lowest_terms k.num (k.den * unit_of kind scale) → e ≡ entry_of kind scale k
    unfolding entry_of
    is_that k e p h =
        let f : ratio_in e.value ≡ lowest_terms k.num (divisor kind scale k)
        = h ∙ ap (λ (m : ℕ). lowest_terms k.num (k.den * unit_of kind m)) (sym as_it_is) in
        same_entry e (entry_of kind scale k)
        (same_ratio e.value (entry_of kind scale k).value (ap (λ r. r.num) f) (ap (λ r. r.den) f)) p

    pub are_entries : (classes : List (NodeNo × Agg)) (ks : List Key) → AllZip (IsKey kind) classes ks
        → AreEntries kind scale classes (entries_at kind scale ks)
    unfolding entry_of
    are_entries [] [] h = tt
    are_entries [] (k ∷ ks) h = absurd h
    are_entries (x ∷ classes) [] h = absurd h
    are_entries (x ∷ classes) (k ∷ ks) h
        = (
          (h.0.0, ap (λ (m : ℕ). lowest_terms k.num (k.den * unit_of kind m)) as_it_is ∙ h.0.1 scale),
          are_entries classes ks h.1,
        )

  -- ---- entries as they are read

  back : (ks : List Key) → reverse (entries_at kind scale ks) ≡ map (entry_of kind scale) (reverse ks)
  back [] = refl
  back (k ∷ ks) = reverse-cons (entry_of kind scale k) (entries_at kind scale ks)
      ∙ ap (λ es. es ++ entry_of kind scale k ∷ []) (back ks) ∙ sym (joined (reverse ks))
      ∙ ap (map (entry_of kind scale)) (sym (reverse-cons k ks))
    where
      joined : (xs : List Key) → map (entry_of kind scale) (xs ++ k ∷ []) ≡ map (entry_of kind scale) xs
          ++ entry_of kind scale k ∷ []
      joined [] = refl
      joined (x ∷ xs) = ap (λ es. entry_of kind scale x ∷ es) (joined xs)

  pub read : (direction : Direction) (ks : List Key)
      → directed direction (entries_at kind scale ks) ≡ map (entry_of kind scale) (directed direction ks)
  read Falling ks = back ks
  read Rising ks = refl
