-- The steps that a query takes, where an index is known of more kinds.
use Rattle.std.proofs.Common.{◌≡◌, ◌≤◌, ◌+◌, ℕ, Bool, true, false, true≢false, refl, sym, arith}
use Rattle.std.specs.Prelude.{if◌then◌else◌}
use Rattle.aggregates.specs.Views.{kind_in}
use Rattle.aggregates.specs.declared.kind.AggKind.{AggKind}
use Rattle.aggregates.specs.declared.kind.AggKind.TheVariants as kinds
use Rattle.query_answers.specs.Queries.{named_kind, query_cost, steps_of_walk}
use Rattle.query_script.specs.Queries as asks
use Rattle.query_script.specs.Queries.{Query}
use Rattle.warehouse.specs.State.{State}

pub named-in : (kind : AggKind) → named_kind (kind_in kind) ≡ kind
named-in kinds.Count = refl
named-in _ = refl

-- a walk is counted wherever no index is named
fewer : (kept named : Bool) → (named ≡ true → kept ≡ true) → (told walk before after : ℕ)
    → after ≤ before + (told + (if kept then 0 else walk)) → after ≤ before + (told + (if named then 0 else walk))
fewer true false more told walk before after w = omega (arith, w)
fewer false true more told walk before after w = absurd (true≢false (sym (more refl)))
fewer _ _ more told walk before after w = w

pub within-named : (s : State) (kept named : AggKind → Bool) → ((kind : AggKind) → named kind ≡ true → kept kind ≡ true)
    → (query : Query) (before after : ℕ) → after ≤ before + query_cost s kept query
    → after ≤ before + query_cost s named query
within-named s kept named more (asks.Iceberg kind bound value) before after w
    = fewer (kept (named_kind kind)) (named (named_kind kind)) (more (named_kind kind)) _ (steps_of_walk s) before after w
within-named s kept named more _ before after w = w
