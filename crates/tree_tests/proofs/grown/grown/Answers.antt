use Rattle.std.proofs.Common.{◌≡◌, ◌∙◌, ℕ, IsSome, ap, is_some, sym, true≢false}
use Rattle.std.specs.Prelude.{Err, Ok, OnErr, OnOk, Result}
use Rattle.std.specs.FinMap as map
use Rattle.std.specs.Option.{option_map}
use Rattle.qc_arena.specs.Map.{Arena, Known}
use Rattle.qc_arena.proofs.CallerLemmas.{some_map}
use Rattle.tree_tests.proofs.grown.grown.Goals as goal

still_there : {U E : Type 0} (r : Result U E) (a b : Arena) (k : ℕ) (f : Known → Known)
    → OnOk r (map.get b.now k ≡ option_map f (map.get a.now k)) → OnErr r (b ≡ a) → IsSome (map.get a.now k)
    → IsSome (map.get b.now k)
still_there (Ok x) a b k f ok err h = ap is_some ok ∙ sym (some_map f (map.get a.now k)) ∙ h
still_there (Err x) a b k f ok err h = ap (λ (v : Arena). is_some (map.get v.now k)) err ∙ h

pub returns-clause-root : goal.returns-clause-root
returns-clause-root g c =
    let root = c.in_ok-arena.root.0 in
    let here = ap is_some c.in_ok-arena.ensures.root in
    let apart : root ≡ c.in-Ok.child.0 → ⊥
    = λ e. true≢false (sym here ∙ ap (λ k. is_some (map.get c.in_ok-arena.arena.now k)) e
    ∙ ap is_some c.in-Ok.ensures.free) in
    let grown = ap is_some (c.in-Ok.ensures.others root apart) ∙ here in
    let same = ap (λ (v : Arena). is_some (map.get v.now root)) c.in-Err-Full.ensures.err ∙ grown in
    still_there c.set_edge.result c.add_node-2.new.self c.set_edge.new.self root _ c.set_edge.ensures.here
    c.set_edge.ensures.err same
