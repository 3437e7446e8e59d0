-- Searches in the table of the shop's rows.
use Rattle.std.proofs.Common.{◌≡◌, ℕ, Some, None, refl, nat_cmp}
use Rattle.std.specs.Cmp.{nat_cmp_total}
use Rattle.std.specs.Ordering.{eq_by_cmp}
use Rattle.std.specs.FinMap as map
use Rattle.cube_examples.specs.Codes.{shop_codes, code_cell, entries, numbered_table}
use Rattle.tree_laws.specs.Walk.{climb, walk}

look : (k : ℕ) → map.get numbered_table k ≡ map.find nat_cmp k entries
unfolding numbered_table
look k = map.get-from_entries nat_cmp_total entries k

pub to_store : walk (eq_by_cmp nat_cmp) numbered_table (code_cell (Some shop_codes.S1) None None) 0 0 ≡ Some 3
to_store = simp look refl

pub to_all : walk (eq_by_cmp nat_cmp) numbered_table (code_cell None None None) 0 0 ≡ Some 0
to_all = simp look refl

pub along_link : walk (eq_by_cmp nat_cmp) numbered_table (code_cell None (Some shop_codes.P2) None) 0 0 ≡ Some 7
along_link = simp look refl

pub against_forced : walk (eq_by_cmp nat_cmp) numbered_table
    (code_cell None (Some shop_codes.P2) (Some shop_codes.f)) 0 0 ≡ None
against_forced = simp look refl

pub without_edge : walk (eq_by_cmp nat_cmp) numbered_table
    (code_cell (Some shop_codes.S2) (Some shop_codes.P2) None) 0 0 ≡ None
without_edge = simp look refl

pub upwards : climb numbered_table 3 7 (code_cell None None None) ≡ code_cell (Some shop_codes.S1) (Some shop_codes.P2)
    (Some shop_codes.s)
upwards = simp look refl

pub past_forced : walk (eq_by_cmp nat_cmp) numbered_table (code_cell (Some shop_codes.S1) (Some shop_codes.P1) None) 0 0
    ≡ Some 5
past_forced = simp look refl

pub to_no_store : walk (eq_by_cmp nat_cmp) numbered_table (code_cell (Some 2) None None) 0 0 ≡ None
to_no_store = simp look refl
