-- Numbers of nodes, the last of which are a run.
use Rattle.std.specs.Prelude.{ℕ, ◌-◌, ◌<◌, ◌≤◌, List, if◌then◌else◌, nat_eq, refl}
use Rattle.std.specs.List.{All, range_with_len}
use Rattle.std.specs.Coded.{Coded, code_by, coded×, coded_list, coded_ℕ}

-- the numbers, and how many there may be without more memory, whatever they are
pub record Numbers : Type 0 where
  pub items : List ℕ
  pub capacity : ℕ

abbrev pub numbers_code : Coded Numbers
numbers_code = code_by (List ℕ × ℕ) (coded× (coded_list coded_ℕ) coded_ℕ) (λ n. (n.items, n.capacity))
    (λ p. record { items = p.0; capacity = p.1 }) (λ _. refl)

-- the numbers from the first up to the end
abbrev pub run : ℕ → ℕ → List ℕ
run first end = range_with_len first (end - first)

-- a list with a run has no room of its own
abbrev pub capacity_of : ℕ → ℕ → ℕ
capacity_of first room = if nat_eq first 4294967296 then room else 0

-- all that is listed is smaller than the run
pub record IsNumberList (listed : List ℕ) (first end : ℕ) : Type 0 where
  pub rises : first ≤ end
  pub small : end ≤ 4294967296
  pub before : All (λ n. n < first) listed
