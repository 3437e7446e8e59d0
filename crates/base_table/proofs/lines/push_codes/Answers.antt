use Rattle.std.proofs.Common.{◌≡◌, ◌∙◌, ◌++◌, ap, arith, sym, length, map, take, subst, All, ℕ, List, ◌<◌, ◌∷◌, [], None, is_some}
use Rattle.std.proofs.lemmas.List.{length-map, take_all}
use Rattle.cell_core.specs.Entry.{value_in}
use Rattle.base_table.specs.Store.{code_or_any}
use Rattle.base_table.proofs.Columns.{values-codes, codes_more, small_more, small_code}
use Rattle.base_table.proofs.lines.push_codes.Goals as goal

pub codes-preserved : goal.codes-preserved
codes-preserved c =
    let lt : c.codes.dim < length c.args.tuple.now = omega (arith, c.codes-test.true, c.dims-dim-end.ensures.value) in
    record {
      put = c.push_reserved.ensures.items ∙ ap (λ (l : List ℕ). l ++ c.code_or_any.result ∷ []) c.codes.invariant.put
          ∙ codes_more c.args.codes.now.items c.args.tuple.now c.codes.dim c.code_or_any.result
          (value_in c.get.result) lt c.get.ensures.value c.code_or_any.ensures;
      len = omega arith;
      room = c.push_reserved.ensures.capacity ∙ c.codes.invariant.room;
      small = small_more c.args.tuple.now c.codes.dim c.code_or_any.result
          (value_in c.get.result) lt c.get.ensures.value c.code_or_any.ensures
          (subst (λ n. n < 4000000) (sym c.code_or_any.ensures)
          (small_code c.get.result c.get.ensures.small (ap is_some c.get.ensures.value
          ∙ c.requires.no_any c.codes.dim None lt))) c.codes.invariant.small;
    }

pub returns : goal.returns
returns c =
    let whole : map code_or_any (take c.codes.dim c.args.tuple.now) ≡ map code_or_any c.args.tuple.now
    = ap (map code_or_any) (take_all c.codes.dim c.args.tuple.now (omega arith)) in
    let values = values-codes c.args.tuple.now c.requires.no_any in
    let same = whole ∙ sym values in
    record {
      items = c.codes.invariant.put ∙ ap (λ (l : List ℕ). c.args.codes.now.items ++ l) same;
      small = subst (λ (l : List ℕ). All (λ code. code < 4000000) l) same c.codes.invariant.small;
      dims = ap length values ∙ length-map c.args.tuple.now code_or_any;
      capacity = c.codes.invariant.room;
    }
