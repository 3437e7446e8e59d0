use Rattle.std.proofs.Common.{◌≡◌, ◌<◌, ◌∷◌, ◌∙◌, ℕ, All, length, map, ap, subst, sym, rules}
use Rattle.std.specs.List.{dedup}
use Rattle.std.specs.List.Sorted.{IsSorted}
use Rattle.std.specs.Ordering.{eq_by_cmp, is_lt, on}
use Rattle.std.proofs.lemmas.Fn.{always_returns_same, dedup_same}
use Rattle.std.proofs.lemmas.List.Elements.{All-map}
use Rattle.std.proofs.lemmas.List.Filters.{All-dedup}
use Rattle.std.proofs.lemmas.List.MinMax.{ranks_by}
use Rattle.std.proofs.lemmas.List.Sorted.{All-permutation}
use Rattle.cube_defs.specs.Text.{Text, text_cmp}
use Rattle.value_dict.specs.declared.in_order.Keyed.{Keyed}
use Rattle.value_dict.specs.Recoded.{text_in}
use Rattle.value_dict.specs.Starts.{HasStart}
use Rattle.value_dict.specs.TextLists.{list_at}
use Rattle.value_dict.proofs.AskedValues.{text_anti, text_total}
use Rattle.value_dict.proofs.InOrder.{in-order}
use Rattle.value_dict.proofs.Starts.{All-unmap, kept-texts, sorted-texts}
use Rattle.value_dict.proofs.in_order.sorted.Goals as goal

abbrev text-of : goal.After-dedup_by → Keyed → Text
text-of c k = text_in c.args.dict.now.lists c.args.dim k.code

abbrev with-start : goal.After-dedup_by → Keyed → Text
with-start c k = k.start ∷ text-of c k

has : (c : goal.After-dedup_by) → All (λ k. HasStart (text-of c k) k.start) c.sort_unstable_by.new.self.items
has c = All-permutation (λ k. HasStart (text-of c k) k.start) c.args.keyed.items c.sort_unstable_by.new.self.items
    c.sort_unstable_by.ensures.permutation c.requires

by-starts : (c : goal.After-dedup_by) → IsSorted (on (with-start c) text_cmp) c.sort_unstable_by.new.self.items
by-starts c = c.sort_unstable_by.ensures.sorted (λ x y. is_lt (text_cmp (with-start c x) (with-start c y)))
    (ranks_by text_total (with-start c))
    (always_returns_same _ _ _ (λ a r f' h.
    let e : r ≡ text_cmp (with-start c a.0.now) (with-start c a.1.0.now) = search rules in
    (ap is_lt e, search rules)))

kept : (c : goal.After-dedup_by)
    → c.dedup_by.new.self.items ≡ dedup (eq_by_cmp (on (text-of c) text_cmp)) c.sort_unstable_by.new.self.items
kept c = dedup_same _ (eq_by_cmp (on (with-start c) text_cmp)) _ (λ x y b f' x' y' k. search rules) _ _ c.dedup_by.ensures.filtered
    ∙ kept-texts (λ k. k.start) (text-of c) c.sort_unstable_by.new.self.items (has c)

pub returns-clause-value : goal.returns-clause-value
returns-clause-value c =
    ap (map (text-of c)) (kept c) ∙ in-order (text-of c) text_total text_anti c.args.keyed.items
    c.sort_unstable_by.new.self.items c.sort_unstable_by.ensures.permutation
    (sorted-texts (λ k. k.start) (text-of c) c.sort_unstable_by.new.self.items (has c) (by-starts c))

pub returns-clause-within : goal.returns-clause-within
returns-clause-within c = λ h.
    let P = λ (code : ℕ). code < length (list_at c.args.dict.now c.args.dim) in
    let all = All-permutation (λ (k : Keyed). P k.code) c.args.keyed.items c.sort_unstable_by.new.self.items
    c.sort_unstable_by.ensures.permutation (All-unmap P (λ k. k.code) c.args.keyed.items h) in
    All-map P (λ (k : Keyed). k.code) c.dedup_by.new.self.items
    (subst (All (λ (k : Keyed). P k.code)) (sym (kept c))
    (All-dedup (eq_by_cmp (on (text-of c) text_cmp)) (λ k. P k.code) c.sort_unstable_by.new.self.items all))
