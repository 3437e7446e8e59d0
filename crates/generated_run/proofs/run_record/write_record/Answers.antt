use Rattle.std.proofs.Common.{◌≡◌, ◌∙◌, ap, ap₂, ℕ, ℤ, List, [], ◌∷◌, ◌++◌, decimal, rules, w64}
use Rattle.std.proofs.lemmas.Int.{to_z-of_z}
use Rattle.std.specs.Prelude.{Err, Ok, OnOk, Result, codes, if◌then◌else◌, is_ok}
use Rattle.aggregates.specs.Texts.{amount_text}
use Rattle.generated_run.specs.Generated.{record_text, sum_in}
use Rattle.generated_run.proofs.run_record.write_record.Goals as goal

number-more : (z w : List ℕ) (m n : ℕ) → z ≡ w → m ≡ n → z ++ 44 ∷ decimal m ≡ w ++ 44 ∷ decimal n
number-more z w m n e f = ap₂ (λ (z : List ℕ) (n : ℕ). z ++ 44 ∷ decimal n) e f

amount-more : (z w : List ℕ) (a b : ℤ) → z ≡ w → a ≡ b → z ++ 44 ∷ amount_text 2 a ≡ w ++ 44 ∷ amount_text 2 b
amount-more z w a b e f = ap₂ (λ (z : List ℕ) (b : ℤ). z ++ 44 ∷ amount_text 2 b) e f

ended : {A B : Type 0} (r : Result A B) (new old whole : List ℕ) → new ≡ (if is_ok r then old ++ 10 ∷ [] else old)
    → old ++ 10 ∷ [] ≡ whole → OnOk r (new ≡ whole)
ended (Ok x) new old whole e f = e ∙ f
ended (Err x) new old whole e f = tt

pub returns : goal.returns
unfolding record_text
returns g c =
    let begun = c.in_ok-extend_from_slice.ensures.items ∙ ap (λ (z : List ℕ). z ++ codes "gen") c.clear.ensures.items in
    let rows = c.in_ok-push_number.ensures ∙ number-more _ _ _ _ begun c.from.ensures in
    let seed = c.in_ok-push_number-2.ensures ∙ ap (λ (z : List ℕ). z ++ 44 ∷ decimal c.args.seed) rows in
    let classes = number-more _ _ _ _ seed c.stats.ensures.classes in
    let nodes = number-more _ _ _ _ classes c.stats.ensures.nodes in
    let edges = number-more _ _ _ _ nodes c.stats.ensures.tree_edges in
    let links = c.in_ok-push_counts.ensures ∙ number-more _ _ _ _ edges c.stats.ensures.links in
    let sum = c.in_ok-push_amount.ensures ∙ amount-more _ _ _ _ links (to_z-of_z w64 c.sum_of.result (search rules)
    ∙ c.sum_of.ensures ∙ ap sum_in c.total.ensures) in
    ended c.extend_from_slice-2.result _ _ _ c.extend_from_slice-2.ensures.items (ap (λ (z : List ℕ). z ++ 10 ∷ []) sum)
