-- What a class has at the labels of its prefix in one dimension where it has Any.
use Rattle.std.proofs.Common.{◌≡◌, ◌<◌, ◌≤◌, ◌+◌, ◌*◌, ◌∙◌, true, ℕ, List, Option, Some, None, ◌∷◌, arith, get_or, length, nat_cmp}
use Rattle.std.proofs.Common.{slice_get, sym, take}
use Rattle.std.specs.Ordering.{eq_by_cmp}
use Rattle.cube_defs.specs.Cell.{Cell, cell_prefix, cell_of, with_value}
use Rattle.cube_defs.specs.Rows.{closure}
use Rattle.cube_defs.specs.Tree.{Edge, Tree, cell_at}
use Rattle.qc_arena.specs.Edges.{rises}
use Rattle.qc_arena.specs.RecordReaders.{record_at}
use Rattle.tree_search.specs.Found.{IsTreeOf, closure_in}
use Rattle.batch_delete.specs.declared.deleted_row.Class.{Class}
use Rattle.batch_delete.specs.declared.parts.Rest.{Rest}
use Rattle.batch_delete.specs.DeletedRow.{IsPrefixNode, IsClass}
use Rattle.batch_delete.specs.Rests.{Deletion, IsRest, IsTotal, other_values, rows_after, rows_before, source_before}
use Rattle.std.proofs.Common.{◌++◌}
use Rattle.std.specs.Prelude.{IfSome}
use Rattle.cube_laws.proofs.CallerLemmas.{some_of}
use Rattle.batch_delete.specs.DeletedRow.{MaySettle}
use Rattle.batch_delete.proofs.Found.{all_found}
use Rattle.batch_delete.proofs.HaveAll.{have_all}
use Rattle.batch_delete.proofs.Settled.{rest_above}
use Rattle.batch_delete.proofs.Settling.{if_some}
use Rattle.batch_delete.proofs.Others.{once_all, others_taken}
use Rattle.batch_delete.proofs.Paid.{label_steps, own_label}
use Rattle.batch_delete.proofs.Stepped.{all_rest, own_closes, tuple_value}

pub record AtLabels (dims : ℕ) (nodes : Tree ℕ) (d : Deletion) (t u : Cell ℕ) (i number : ℕ) : Type 0 where
  pub tree : IsTreeOf dims nodes (source_before d)
  pub long : length u ≡ dims
  pub tuple : length t ≡ dims
  pub row : t ≡ cell_of d.r.tuple
  pub class : IsClass d u
  pub any : slice_get u i ≡ Some None
  pub dim : i < length u
  pub front : cell_at nodes number ≡ Some (cell_prefix i u)

pub at_labels : (d : Deletion) (class : Class) (i number : ℕ) → IsPrefixNode d class i number
    → AtLabels class.row.now.arena.now.width class.row.now.arena.now.now d class.row.now.tuple.now class.cell.now i number
at_labels d class i number at
    = record {
      tree = at.known.gone.tree;
      long = at.known.long;
      tuple = at.known.gone.long;
      row = at.known.gone.tuple;
      class = at.known.is;
      any = at.any;
      dim = at.dim;
      front = at.front;
    }

-- the labels from the first in a dimension to the first behind it are in that dimension
pub label_in_dim : (es : List (Edge ℕ ℕ)) (i first end k : ℕ) (x : Edge ℕ ℕ)
    → ((j : ℕ) (y : Edge ℕ ℕ) → first ≤ j → slice_get es j ≡ Some y → i ≤ y.dim)
    → ((j : ℕ) (y : Edge ℕ ℕ) → j < end → slice_get es j ≡ Some y → y.dim < i + 1)
    → first ≤ k → k < end → slice_get es k ≡ Some x → x.dim ≡ i
label_in_dim es i first end k x behind before from until at =
    let low = behind k x from at in
    let high = before k x until at in
    omega arith

module _ {dims : ℕ} {nodes : Tree ℕ} {d : Deletion} {t u : Cell ℕ} {i number : ℕ}
    (is : AtLabels dims nodes d t u i number) where
  abbrev pub edges : List (Edge ℕ ℕ)
  edges = (record_at nodes number).edges

  -- the tuple's value there
  pub value : (v : ℕ) × (slice_get d.r.tuple i ≡ Some v) × (get_or t i None ≡ Some v)
  value = tuple_value d.r.tuple t i is.row (rw (← (is.long ∙ sym is.tuple)) is.dim)

  -- the closure of the class with that value
  pub closes : (w : Cell ℕ) × (closure (eq_by_cmp nat_cmp) (rows_before d) (with_value u i value.0) ≡ Some w)
  closes = own_closes dims nodes d is.tree u i is.any value.0 value.1 is.class.below

  -- the rest, once all labels with another value have been taken
  pub rest_is : rises edges ≡ true → (k : ℕ) (rest : Option Rest)
      → other_values i value.0 (take k edges) ≡ other_values i value.0 edges
      → ((v : ℕ) (w : Cell ℕ) → get_or t i None ≡ Some v → closure_in (source_before d) (with_value u i v) ≡ Some w
      → IsTotal d u i v w (v ∷ other_values i v (take k edges)) rest)
      → IsRest d.measures (rows_after d) u rest
  rest_is rising k rest all total =
      all_rest dims nodes d is.tree u i is.any value.0 value.1 is.class.below closes.0 closes.1 is.long is.class.own
      number is.front rising rest
      (rw (← all) (total value.0 closes.0 value.2 closes.1))

  -- the steps of the labels before the k-th
  pub paid : (k until steps old : ℕ) → k ≤ length edges → until ≤ length edges
      → ((v : ℕ) → get_or t i None ≡ Some v
      → steps ≤ old + (3 + 2 * length edges + k + 2 * length u * until
      + (2 * length u + 3) * length (other_values i v (take k edges))))
      → steps ≤ old + (2 + (4 * length u + 7) * length edges)
  paid k until steps old within ahead had =
      let own = own_label dims nodes d is.tree u i value.0 is.any is.long is.class.own number is.front
      is.class.below value.1 in
      let some = others_taken i value.0 edges k in
      label_steps (length u) (length edges) k until (length (other_values i value.0 (take k edges))) steps old
      (had value.0 value.2) within ahead (omega (arith, own, some))

  -- the rest of some of the labels may settle the plan
  pub may_settle : rises edges ≡ true → (vs ws : List ℕ) → vs ++ ws ≡ value.0 ∷ other_values i value.0 edges
      → (rest : Option Rest) → IfSome rest (λ some. length some.shared ≡ length u)
      → IsTotal d u i value.0 closes.0 vs rest → IfSome rest (λ some. MaySettle d u some)
  may_settle rising vs ws both rest long total = if_some (λ some. MaySettle d u some) rest (λ some e.
      let is_total = rw e at total in
      record {
        shared = some_of (λ (some : Rest). length some.shared ≡ length u) rest some e long;
        above = rest_above d u i value.0 is.any value.1 is.class.below closes.0 closes.1 vs some is_total;
        all = all_found d u i value.0 is.any value.1 is.class.below closes.0 closes.1 vs ws
            (rw both (once_all i value.0 edges rising))
            (rw both (have_all dims nodes d is.tree u i value.0 is.any is.long is.class.own number is.front)) some is_total;
      })
