-- Keys of a set after one key came or went.
use Rattle.std.proofs.Common.{◌≡◌, ℕ, ◌<◌, ◌++◌, Bool, true, false, not, cond, refl, sym, ap, subst, ◌∙◌, List, [], ◌∷◌, length, arith}
use Rattle.std.specs.List.{All, insert, list_any, remove}
use Rattle.std.specs.List.Sorted.{IsStrictlySortedBy}
use Rattle.std.specs.Ordering.{eq_by_cmp}
use Rattle.std.specs.Cmp.{eq_by_cmp_equiv}
use Rattle.std.proofs.Math.Bool.{or-false}
use Rattle.std.proofs.lemmas.List.Edits.{length-insert, length-remove}
use Rattle.std.proofs.lemmas.List.Elements.{All-cons, All-nil}
use Rattle.measure_index.specs.Blocks.{AreBlocks, HasCome, HasGone, joined}
use Rattle.measure_index.specs.ColumnKeys.{key_cmp, key_total}
use Rattle.measure_index.specs.Keys.{IsPlace, among}
use Rattle.measure_index.specs.declared.key.Key.{Key}
use Rattle.measure_index.proofs.BlockLemmas.{Block}
use Rattle.measure_index.proofs.KeyLemmas.{alike, any_turned, at_place}
use Rattle.measure_index.proofs.Places.{has_inserted, has_removed, insert_rises, sorted_of}

either : (e : Bool) (b : Bool) → (e ≡ true → b ≡ true) → b ≡ cond e true b
either true b h = h refl
either false b h = refl

neither : (e : Bool) (b : Bool) → (e ≡ true → b ≡ false) → b ≡ cond e false b
neither true b h = h refl
neither false b h = refl

-- the first key
module _ (key : Key) where
  pub come_first : (bs news : List Block) (b : Block) → bs ≡ [] → b.items ≡ key ∷ [] → news ≡ bs ++ b ∷ []
      → AreBlocks news × HasCome key (joined bs) (joined news) true
  unfolding IsStrictlySortedBy
  come_first bs news b none one e =
      let all : news ≡ b ∷ [] = e ∙ ap (λ cs. cs ++ b ∷ []) none in
      let keys : joined news ≡ key ∷ [] = ap joined all ∙ ap (λ ks. ks ++ []) one in
      let some = ap length one in (
        record {
          full = subst (All (λ (b : Block). 0 < length b.items)) (sym all)
              (All-cons (λ (b : Block). 0 < length b.items) b [] (omega (arith, some))
              (All-nil (λ (b : Block). 0 < length b.items)));
          rising = subst (IsStrictlySortedBy key_cmp) (sym keys) (tt, tt);
        },
        subst (λ cs. HasCome key (joined cs) (joined news) true) (sym none)
            (subst (λ ks. HasCome key [] ks true) (sym keys) (record {
              added = refl;
              has = λ q. or-false (eq_by_cmp key_cmp q key) ∙ (eq_by_cmp_equiv key_total).symm q key
                  ∙ is_itself (eq_by_cmp key_cmp key q);
              len = refl;
              rising = (tt, tt);
            })),
      )
    where
      is_itself : (b : Bool) → b ≡ cond b true false
      is_itself true = refl
      is_itself false = refl

  module _ (xs : List Key) (rising : IsStrictlySortedBy key_cmp xs) where
    same_any : (q : Key) → eq_by_cmp key_cmp key q ≡ true → list_any (eq_by_cmp key_cmp q) xs ≡ among key_cmp xs key
    same_any q e = any_turned key_total xs q ∙ sym (alike key_total xs key q e)

    -- a key that is there doesn't come
    pub come_not : (ys : List Key) → ys ≡ xs → true ≡ among key_cmp xs key → HasCome key xs ys false
    come_not ys same there = subst (λ ks. HasCome key xs ks false) (sym same) (record {
      added = sym (ap not (any_turned key_total xs key ∙ sym there));
      has = λ q. either (eq_by_cmp key_cmp key q) (list_any (eq_by_cmp key_cmp q) xs) (λ e. same_any q e ∙ sym there);
      len = omega arith;
      rising = rising;
    })

    -- a key that isn't there comes at its place
    pub come_at : (ys : List Key) (g : ℕ) → ys ≡ insert xs g key → IsPlace key_cmp xs key g
        → false ≡ among key_cmp xs key → HasCome key xs ys true
    come_at ys g is place lacks = subst (λ ks. HasCome key xs ks true) (sym is) (record {
      added = sym (ap not (any_turned key_total xs key ∙ sym lacks));
      has = λ q. has_inserted key_total xs g key q;
      len = length-insert xs g key place.within;
      rising = insert_rises key_total xs g key rising place (sym lacks);
    })

    -- a key that isn't there doesn't go
    pub go_not : false ≡ among key_cmp xs key → HasGone key xs xs false
    go_not lacks = record {
      has = λ q. neither (eq_by_cmp key_cmp key q) (list_any (eq_by_cmp key_cmp q) xs) (λ e. same_any q e ∙ sym lacks);
      len = omega arith;
    }

    -- a key that is there goes from its place
    pub go_from : (ys : List Key) (g : ℕ) → ys ≡ remove xs g → g < length xs → IsPlace key_cmp xs key g
        → true ≡ among key_cmp xs key → HasGone key xs ys true
    go_from ys g is within place there = subst (λ ks. HasGone key xs ks true) (sym is) (record {
      has = λ q. has_removed key_total xs g rising within key q
          (at_place key_total xs key g (sorted_of key_total xs rising) place key within ∙ sym there);
      len = length-remove xs g within;
    })
