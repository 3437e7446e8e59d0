use Rattle.std.proofs.Common.{◌≡◌, ◌<◌, ◌-◌, ◌+◌, ◌∙◌, ◌++◌, ◌∷◌, ℕ, [], List, ap, arith, length, length-append, set, subst, sym}
use Rattle.std.proofs.lemmas.List.{get_or-set_same, length-set, set-get_or, set-set}
use Rattle.cube_defs.specs.Text.{Text}
use Rattle.value_dict.specs.TextLists.{TextLists, list_at}
use Rattle.cube_snapshot.specs.Format.{get_times}
use Rattle.cube_snapshot.specs.Parts.{text}
use Rattle.cube_snapshot.specs.Readers.{AreAllowed}
use Rattle.cube_snapshot.proofs.Looping.{begins, goes_on, with_prefix}
use Rattle.cube_snapshot.proofs.NextText.{none_allowed}
use Rattle.cube_snapshot.proofs.texts.learn_texts.Goals as goal

pub texts-init : goal.texts-init
texts-init c =
    let d = c.args.dict.now in
    let none : c.args.count - 0 ≡ c.args.count = omega arith in
    record {
      lists = λ j. let e : TextLists = record { lists = sym (set-get_or d.lists c.args.dim []) j; max = d.max } in e;
      count_is = ap (λ (l : List Text). length l) c.requires.empty;
      allowed = subst (AreAllowed d.max) (sym c.requires.empty) (none_allowed d.max);
      so_far = ap (λ (l : List Text). with_prefix text l (get_times text (c.args.count - 0) c.args.bytes.now))
          c.requires.empty
          ∙ begins text (get_times text (c.args.count - 0) c.args.bytes.now)
          ∙ ap (λ (n : ℕ). get_times text n c.args.bytes.now) none;
    }

pub texts-preserved : goal.texts-preserved
texts-preserved c =
    let first = c.args.dict.now in
    let d = c.texts.dict in
    let d' = c.learn_next.new.dict in
    let dim = c.args.dim in
    let list = list_at d dim in
    let value = c.in-Some.value.now in
    let inv = c.texts.invariant in
    let max : d.max ≡ first.max = ap (λ (n : TextLists). n.max) inv.lists in
    let lt : dim < length d.lists
    = omega (
      arith,
      c.requires.within,
      ap (λ (n : TextLists). length n.lists) inv.lists,
      length-set first.lists dim list,
    ) in
    let is : list_at d' dim ≡ list ++ value ∷ [] = ap (λ (n : TextLists). list_at n dim) c.in-Ok.ensures.ok
    ∙ get_or-set_same d.lists dim (list ++ value ∷ []) [] lt in
    let lists : d'.lists ≡ set first.lists dim (list_at d' dim) =
    ap (λ (n : TextLists). n.lists) c.in-Ok.ensures.ok
    ∙ ap (λ (n : TextLists). set n.lists dim (list ++ value ∷ [])) inv.lists
    ∙ set-set first.lists dim list (list ++ value ∷ []) ∙ ap (set first.lists dim) (sym is) in
    let most : d'.max ≡ first.max = ap (λ (n : TextLists). n.max) c.in-Ok.ensures.ok ∙ max in
    record {
      lists = λ j. let e : TextLists = record { lists = lists j; max = most j } in e;
      count_is = omega (arith, ap (λ (l : List Text). length l) is, length-append list (value ∷ []), inv.count_is);
      allowed = subst (AreAllowed first.max) (sym is)
          (subst (λ (m : ℕ). AreAllowed m (list ++ value ∷ [])) max c.in-Ok.ensures.allowed);
      so_far = ap (λ (l : List Text). with_prefix text l
          (get_times text (c.args.count - (c.texts.place + 1)) c.in-Some.after.now)) is
          ∙ goes_on text list c.args.count c.texts.place c.texts.rest.now (get_times text c.args.count c.args.bytes.now)
          value c.in-Some.after.now c.texts-test.true (sym c.in-Some.ensures.read) inv.so_far;
    }
