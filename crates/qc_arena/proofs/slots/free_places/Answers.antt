use Rattle.std.proofs.Common.{◌≡◌, ◌∙◌, ◌+◌, IsSome, List, Option, ap, arith, eq-eqb, inl, inr, is_some, nat_eq, refl, subst, sym}
use Rattle.std.proofs.Common.{true≢false, ℕ}
use Rattle.std.proofs.lemmas.Bool.{cond-false, cond-true}
use Rattle.std.proofs.lemmas.Bool.Decides.{eqb_tells}
use Rattle.std.specs.Map.{lookup}
use Rattle.std.specs.FinMap as map
use Rattle.slab.specs.Slab as slots
use Rattle.cube_defs.specs.Tree.{Tree}
use Rattle.qc_arena.specs.Inside.{image_at}
use Rattle.qc_arena.specs.Map.{Known}
use Rattle.qc_arena.proofs.Freed.{none_killed}
use Rattle.qc_arena.proofs.SlotMaps.{same_now}
use Rattle.qc_arena.proofs.Suffixes.{suffix_from, look_gone, look_less, none_behind, numbered}
use Rattle.qc_arena.proofs.Imaged.{eq_apart}
use Rattle.qc_arena.proofs.slots.free_places.Goals as goal

pub clear_killed-requires : goal.clear_killed-requires
clear_killed-requires c =
    let es : List (ℕ × Option Known) = c.args.images.now in
    let e = numbered es c.images.k c.number.result (omega (arith, c.len-k-end.ensures.len)) c.number.ensures in
    subst (λ (n : ℕ). slots.ContainsKey c.images.nodes n) (sym e.2)
    (c.images.invariant.placed e.0.0
    (ap is_some (look_less es c.images.k e.0 e.0.0 e.1
    ∙ cond-true (nat_eq e.0.0 e.0.0) _ _ (eq-eqb e.0.0 e.0.0 refl))))

pub images-preserved : goal.images-preserved
images-preserved c =
    let es : List (ℕ × Option Known) = c.args.images.now in
    let e = numbered es c.images.k c.number.result (omega (arith, c.len-k-end.ensures.len)) c.number.ensures in
    let gone = look_gone es c.images.k e.0 c.len-k-end.ensures.once e.1 in
    let less = λ (q : ℕ) (n : q ≡ e.0.0 → ⊥). look_less es c.images.k e.0 q e.1
    ∙ cond-false (nat_eq q e.0.0) _ _ (eq_apart q e.0.0 n) in
    record {
      placed = λ q h. elim (eqb_tells q e.0.0) [
        | inl s ↦ absurd (true≢false (sym h ∙ ap (λ n. is_some (image_at (suffix_from (c.images.k + 1) es) n)) s.1
            ∙ ap is_some gone))
        | inr s ↦ subst (λ (o : _). IsSome o) (sym (c.clear_killed.ensures.others q (λ t. s.1 (t ∙ e.2))))
            (c.images.invariant.placed q (ap is_some (less q s.1) ∙ h))
      ];
      killed = λ q h. elim (eqb_tells q e.0.0) [
        | inl s ↦ absurd (c.clear_killed.ensures.here (ap (slots.get c.clear_killed.new.nodes) (e.2 ∙ sym s.1) ∙ h))
        | inr s ↦ sym (ap is_some (less q s.1))
            ∙ c.images.invariant.killed q (sym (c.clear_killed.ensures.others q (λ t. s.1 (t ∙ e.2))) ∙ h)
      ];
      same = λ q. c.clear_killed.ensures.now q ∙ c.images.invariant.same q;
    }

pub returns-clause-none_killed : goal.returns-clause-none_killed
returns-clause-none_killed c = λ q h.
    let es : List (ℕ × Option Known) = c.args.images.now in
    true≢false (sym (c.images.invariant.killed q h)
    ∙ ap (λ (l : List (ℕ × Option Known)). is_some (lookup (nat_eq q) l))
    (none_behind es c.images.k (omega (arith, c.len-k-end.ensures.len, c.images-test.false))))

-- there are as many nodes as places in use
pub returns-then-len-live-clause-none_killed : goal.returns-then-len-live-clause-none_killed
returns-then-len-live-clause-none_killed c = λ q.
    let same = ap (λ (m : Tree ℕ). map.len m) (same_now c.args.nodes.now c.images.nodes c.images.invariant.same) in
    none_killed c.images.nodes q (omega (arith, c.len.ensures, c.if-len-live.true, c.requires.live, same))
