-- What the labels of a class's prefix cost: the one with the row's own value is not looked up.
use Rattle.std.proofs.Common.{◌≡◌, ℕ, suc, ◌+◌, ◌*◌, ◌≤◌, true, Some, None, arith, inl, length, nat_cmp, refl, slice_get}
use Rattle.std.specs.Ordering.{eq_by_cmp}
use Rattle.cube_defs.specs.Cell.{Cell, cell_prefix}
use Rattle.cube_defs.specs.Rows.{closure, covers}
use Rattle.cube_defs.specs.Tree.{Tree, cell_at}
use Rattle.cube_laws.proofs.CallerLemmas.{among_insert, times_mono}
use Rattle.qc_arena.specs.RecordReaders.{record_at}
use Rattle.tree_search.specs.Found.{IsTreeOf}
use Rattle.batch_delete.specs.Rests.{Deletion, other_values, rows_before, source_before}
use Rattle.batch_delete.proofs.HaveAll.{label_there}
use Rattle.batch_delete.proofs.Others.{others_fewer, times_more}

pub own_label : (dims : ℕ) (tree : Tree ℕ) (d : Deletion) (h : IsTreeOf dims tree (source_before d)) (u : Cell ℕ)
    (i v : ℕ) → slice_get u i ≡ Some None → length u ≡ dims → closure (eq_by_cmp nat_cmp) (rows_before d) u ≡ Some u
    → (k : ℕ) → cell_at tree k ≡ Some (cell_prefix i u) → covers (eq_by_cmp nat_cmp) u d.r ≡ true
    → slice_get d.r.tuple i ≡ Some v
    → suc (length (other_values i v (record_at tree k).edges)) ≤ length (record_at tree k).edges
own_label dims tree d h u i v any long own k at below has =
    let l = label_there dims tree d h u i v any long own k at v d.r
    ((among_insert d.r d.xs d.r d.ys).1 (inl refl)) below has in
    others_fewer i v (record_at tree k).edges (record { dim = i; value = v; target = l.0 }) refl l.1

shares : (n e : ℕ) → (4 * n + 7) * e ≡ 2 * n * e + (2 * n + 3) * e + 4 * e
shares n e = grind arith

-- so many labels were read, so many searched for, and so many of them joined
pub label_steps : (n e k until m s old : ℕ) → s ≤ old + (3 + 2 * e + k + 2 * n * until + (2 * n + 3) * m) → k ≤ e → until ≤ e
    → suc m ≤ e → s ≤ old + (2 + (4 * n + 7) * e)
label_steps n e k until m s old h a within b =
    let up = times_mono (2 * n + 3) (m + 1) e (omega arith) in
    let one = times_more (2 * n + 3) m in
    let all = times_mono (2 * n) until e within in
    let split = shares n e in
    omega arith
