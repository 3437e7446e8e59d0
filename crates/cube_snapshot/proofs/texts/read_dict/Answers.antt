use Rattle.std.proofs.Common.{◌≡◌, ◌≤◌, ◌<◌, ◌-◌, ◌+◌, ◌∙◌, ◌++◌, ◌∷◌, ℕ, [], All, List, Some, ap, arith, length, subst, sym, take}
use Rattle.std.proofs.lemmas.List.{get_or-set_other, length-set, take_all, take_more_set}
use Rattle.std.proofs.lemmas.List.Elements.{All-push}
use Rattle.cube_defs.specs.Text.{Text}
use Rattle.value_dict.specs.TextLists.{TextLists, list_at}
use Rattle.cube_snapshot.specs.Format.{get_times}
use Rattle.cube_snapshot.specs.Parts.{texts}
use Rattle.cube_snapshot.specs.Readers.{AreAllowed}
use Rattle.cube_snapshot.proofs.Looping.{goes_on, is_done, of_all, stop_reads, with_prefix}
use Rattle.cube_snapshot.proofs.texts.read_dict.Goals as goal

pub returns-in-Err-clause-reads : goal.returns-in-Err-clause-reads
returns-in-Err-clause-reads c =
    let first = c.args.dict.now in
    let d = c.dims.dict in
    let inv = c.dims.invariant in
    let lt : c.dims.dim < length first.lists = omega (arith, c.dims-test.true, c.dims-dim-end.ensures.value) in
    stop_reads texts (AreAllowed d.max) (All (AreAllowed first.max)) (take c.dims.dim d.lists)
    (length first.lists) c.dims.dim c.dims.rest.now (get_times texts (length first.lists) c.args.bytes.now)
    c.in-Err.refused lt
    c.in-Err.ensures.reads (λ x more all. subst (λ (m : ℕ). AreAllowed m x) (sym inv.max)
    (of_all (AreAllowed first.max) (take c.dims.dim d.lists) x more all)) inv.so_far

pub dims-preserved : goal.dims-preserved
dims-preserved c =
    let first = c.args.dict.now in
    let d = c.dims.dict in
    let d' = c.texts_at.new.dict in
    let dim = c.dims.dim in
    let new = list_at d' dim in
    let inv = c.dims.invariant in
    let ok = c.in-Ok.ensures.lists in
    let reads = c.in-Ok.ensures.reads in
    let lt : dim < length first.lists = omega (arith, c.dims-test.true, c.dims-dim-end.ensures.value) in
    let within : dim < length d.lists = omega (arith, lt, inv.count_is) in
    let took : take (dim + 1) d'.lists ≡ take dim d.lists ++ new ∷ []
    = ap (λ (n : TextLists). take (dim + 1) n.lists) ok ∙ take_more_set d.lists dim new within in
    record {
      max = ap (λ (n : TextLists). n.max) ok ∙ inv.max;
      count_is = ap (λ (n : TextLists). length n.lists) ok ∙ length-set d.lists dim new ∙ inv.count_is;
      allowed = subst (All (AreAllowed first.max)) (sym took)
          (All-push (AreAllowed first.max) (take dim d.lists) new inv.allowed
          (subst (λ (m : ℕ). AreAllowed m new) inv.max reads.1));
      left = λ j le. ap (λ (n : TextLists). list_at n j) ok ∙ get_or-set_other d.lists dim j new [] (omega arith)
          ∙ inv.left j (omega arith);
      so_far = ap (λ (l : List (List Text)). with_prefix texts l
          (get_times texts (length first.lists - (dim + 1)) c.in-Ok.after.now)) took
          ∙ goes_on texts (take dim d.lists) (length first.lists) dim c.dims.rest.now
          (get_times texts (length first.lists) c.args.bytes.now) new c.in-Ok.after.now lt reads.0 inv.so_far;
    }

pub returns-clause-reads : goal.returns-clause-reads
returns-clause-reads c =
    let first = c.args.dict.now in
    let d = c.dims.dict in
    let inv = c.dims.invariant in
    let le : length first.lists ≤ c.dims.dim = omega (arith, c.dims-test.false, c.dims-dim-end.ensures.value) in
    let whole : take c.dims.dim d.lists ≡ d.lists = take_all c.dims.dim d.lists (omega (arith, le, inv.count_is)) in (
      is_done texts (take c.dims.dim d.lists) (length first.lists) c.dims.dim c.dims.rest.now
          (get_times texts (length first.lists) c.args.bytes.now) le inv.so_far
          ∙ ap (λ (l : List (List Text)). Some (l, c.dims.rest.now)) whole,
      subst (All (AreAllowed first.max)) whole inv.allowed,
    )
