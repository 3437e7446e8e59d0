-- Equalities that come from orders.
use Rattle.std.proofs.Common.{◌≡◌, ℕ, Bool, ◌∙◌, ap, sym, refl, true, true≢false, nat_cmp, nat_eq, arith}
use Rattle.std.specs.Cmp.{IsTotalOrder, nat_cmp_total, tied_itself}
use Rattle.std.specs.FinMap.{IsAntisymmetric, nat_cmp-IsAntisymmetric}
use Rattle.std.specs.Ordering.{eq_by_cmp, is_eq, ordering_then}
use Rattle.std.specs.declared.cmp.Ordering.{Ordering}
use Rattle.std.specs.declared.cmp.Ordering.TheVariants.{Less, Equal, Greater}
use Rattle.cube_laws.proofs.Cells.{IsEquality}
use Rattle.cube_defs.specs.Cell.{Cell, leq}

pub is_equal : (o : Ordering) → is_eq o ≡ true → o ≡ Equal
is_equal Less h = absurd (true≢false (sym h))
is_equal Equal h = refl
is_equal Greater h = absurd (true≢false (sym h))

-- where an order by two is a tie, the second is one
pub then_equal : (a b : Ordering) → ordering_then a b ≡ Equal → b ≡ Equal
then_equal Less b h = cc
then_equal Equal b h = h
then_equal Greater b h = cc

-- an order that tells values apart gives an equality
pub equality_by : {A : Type 0} {cmp : A → A → Ordering} → IsTotalOrder cmp → IsAntisymmetric cmp
    → IsEquality (eq_by_cmp cmp)
equality_by {cmp = cmp} total anti
    = record { exact = λ x y h. anti x y (is_equal (cmp x y) h); same = λ x. ap is_eq (tied_itself total x) }

-- and so does the test that goes by it
pub equality_of : {A : Type 0} {cmp : A → A → Ordering} {eq : A → A → Bool} → IsTotalOrder cmp → IsAntisymmetric cmp
    → ((x y : A) → eq x y ≡ is_eq (cmp x y)) → IsEquality eq
equality_of total anti by = record {
  exact = λ x y h. (equality_by total anti).exact x y (sym (by x y) ∙ h);
  same
      = λ x. by x x ∙ (equality_by total anti).same x;
}

-- both are one test
pub equality-path : {A : Type 0} (cmp : A → A → Ordering) {eq : A → A → Bool} → ((x y : A) → eq x y ≡ is_eq (cmp x y))
    → eq_by_cmp cmp ≡ eq
equality-path cmp by = λ i x y. sym (by x y) i

-- codes by their order, and both tests of them
pub code_equality : IsEquality (eq_by_cmp nat_cmp)
code_equality = equality_by nat_cmp_total nat_cmp-IsAntisymmetric

pub eq_cmp : (x y : ℕ) → eq_by_cmp nat_cmp x y ≡ nat_eq x y
eq_cmp x y = grind arith

pub one_test : eq_by_cmp nat_cmp ≡ nat_eq
one_test = λ i x y. eq_cmp x y i

pub nat_eq-turned : (m n : ℕ) → nat_eq m n ≡ nat_eq n m
nat_eq-turned m n = grind arith

-- by their order or by their equality, codes tell the same cells that generalize one another
pub leq_is : (c t : Cell ℕ) → leq (eq_by_cmp nat_cmp) c t ≡ leq nat_eq c t
leq_is c t = ap (λ e. leq e c t) one_test
