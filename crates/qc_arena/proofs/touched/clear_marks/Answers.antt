use Rattle.std.proofs.Common.{◌≡◌, ℕ, Bool, arith, false, get_or, nat_lt, ltb-true, ltb-false, refl, true}
use Rattle.std.proofs.Math.ListN.{get_or-eq_default}
use Rattle.qc_arena.proofs.touched.clear_marks.Goals as goal

pub returns : goal.returns
returns c = λ q. at q (nat_lt q c.marks.k) refl
  where
    at : (q : ℕ) (b : Bool) → nat_lt q c.marks.k ≡ b → get_or c.marks.marks q false ≡ false
    at q true e = c.marks.invariant q (ltb-true q c.marks.k e)
    at q false e =
        let past = ltb-false q c.marks.k e in
        get_or-eq_default c.marks.marks false (omega (arith, past, c.marks.auto.marks, c.marks-test.false))
