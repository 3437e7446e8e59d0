-- Acts one after another on an arena, and paths in it.
use Rattle.std.proofs.Common.{◌≡◌, ◌≢◌, ℕ, zero, suc, ◌+◌, ◌≤◌, Some, List, [], ◌++◌, append-nil, append_assoc, sym, ap, subst, ◌∙◌, arith}
use Rattle.std.proofs.Common.{inl, inr, ◌⊎◌}
use Rattle.std.specs.Prelude.{Result, Ok, Err, OnOk}
use Rattle.cube_defs.specs.Cell.{Cell, cell_prefix, depth}
use Rattle.cube_defs.specs.Rows.{Row}
use Rattle.cube_defs.specs.Tree.{Tree, cell_at}
use Rattle.tree_laws.proofs.CallerLemmas.{depth-cell_prefix-le}
use Rattle.class_builder.proofs.Prefixes.{prefix_less}
use Rattle.qc_arena.specs.Map.{Arena}
use Rattle.qc_arena.specs.RecordReaders.{record_at}
use Rattle.build_trace.specs.Trace.{Act}
use Rattle.class_builder.specs.Building.{IsBuilding, ActsComeNext, PerformsActs}
use Rattle.class_builder.proofs.ActSteps.{cell_of_record}
use Rattle.class_builder.specs.Walk.{IsOnPath, node_on}
use Rattle.class_builder.specs.declared.path.Path.{Path}

module _ {measures : ℕ} {rows : List (Row ℕ)} where
  pub does_nothing : (a : Arena) → PerformsActs measures rows [] a a
  does_nothing a = record {
    acts = λ done rest g. subst (λ ds. IsBuilding measures rows ds rest a) (sym (append-nil done)) g;
    cells = λ k c h. h;
  }

  pub does_then : (es fs : List Act) (a b c : Arena) → PerformsActs measures rows es a b
      → PerformsActs measures rows fs b c → PerformsActs measures rows (es ++ fs) a c
  does_then es fs a b c d e = record {
    acts = λ done rest g.
        subst (λ ds. IsBuilding measures rows ds rest c) (append_assoc done es fs)
        (e.acts (done ++ es) rest
        (d.acts done (fs ++ rest) (subst (λ rs. IsBuilding measures rows done rs a) (append_assoc es fs rest) g)));
    cells = λ k x h. e.cells k x (d.cells k x h);
  }

  pub next_prefix : (es fs : List Act) (a : Arena) → ActsComeNext measures rows (es ++ fs) a
      → ActsComeNext measures rows es a
  next_prefix es fs a n = record {
    done = n.done;
    rest = fs ++ n.rest;
    going = subst (λ rs. IsBuilding measures rows n.done rs a) (append_assoc es fs n.rest) n.going;
  }

  pub next_behind : (es fs : List Act) (a b : Arena) → ActsComeNext measures rows (es ++ fs) a
      → PerformsActs measures rows es a b → ActsComeNext measures rows fs b
  next_behind es fs a b n d = record {
    done = n.done ++ es;
    rest = n.rest;
    going = d.acts n.done (fs ++ n.rest)
        (subst (λ rs. IsBuilding measures rows n.done rs a) (append_assoc es fs n.rest) n.going);
  }

-- where nodes keep their cells
pub path_stays : (a b : Arena) (path : Path) (c : Cell ℕ) (k : ℕ)
    → ((q : ℕ) (x : Cell ℕ) → cell_at a.now q ≡ Some x → cell_at b.now q ≡ Some x) → IsOnPath a path c k
    → IsOnPath b path c k
path_stays a b path c k cells on = record { each = λ j l. cells (node_on path j) (cell_prefix j c) (on.each j l) }

pub prefix_depth : (tree : Tree ℕ) (k j : ℕ) (c : Cell ℕ) → cell_at tree k ≡ Some (cell_prefix j c)
    → depth (record_at tree k).cell ≤ j
prefix_depth tree k j c h
    = subst (λ d. depth d ≤ j) (sym (cell_of_record tree k (cell_prefix j c) h)) (depth-cell_prefix-le j c)

upto_or : (j k : ℕ) → j ≤ k + 1 → (j ≤ k) ⊎ (j ≡ k + 1)
upto_or zero k h = inl (omega arith)
upto_or (suc j) zero h = inr (omega arith)
upto_or (suc j) (suc k) h = elim (upto_or j k (omega arith)) [ inl m ↦ inl (omega arith) | inr e ↦ inr (omega arith) ]

-- a path that goes on by one node
pub path_on : (a : Arena) (old new : Path) (c : Cell ℕ) (k : ℕ) → IsOnPath a old c k
    → ((j : ℕ) → j ≢ k + 1 → node_on new j ≡ node_on old j)
    → cell_at a.now (node_on new (k + 1)) ≡ Some (cell_prefix (suc k) c) → IsOnPath a new c (k + 1)
path_on a old new c k on others here = record { each = λ j l. go j (upto_or j k l) }
  where
    go : (j : ℕ) → (j ≤ k) ⊎ (j ≡ k + 1) → cell_at a.now (node_on new j) ≡ Some (cell_prefix j c)
    go j (inl m) = let ne : j ≢ k + 1 = omega arith in ap (λ n. cell_at a.now n) (others j ne) ∙ on.each j m
    go j (inr e) = let s : k + 1 ≡ suc k = omega arith in
        subst (λ x. cell_at a.now (node_on new x) ≡ Some (cell_prefix x c)) (sym e) (here
        ∙ ap (λ x. Some (cell_prefix x c)) (sym s))

-- a node of the path, by its number
pub on_path : (a : Arena) (path : Path) (c : Cell ℕ) (k j n : ℕ) → IsOnPath a path c k → j ≤ k → n ≡ node_on path j
    → cell_at a.now n ≡ Some (cell_prefix j c)
on_path a path c k j n on l e = ap (λ x. cell_at a.now x) e ∙ on.each j l

pub on_end : (a : Arena) (path : Path) (c : Cell ℕ) (k n : ℕ) → IsOnPath a path c k → n ≡ node_on path k
    → cell_at a.now n ≡ Some (cell_prefix k c)
on_end a path c k n on e = on_path a path c k k n on (omega arith) e

-- a path serves each cell with the same prefix
pub path_of : (a : Arena) (path : Path) (c d : Cell ℕ) (k : ℕ) → cell_prefix k c ≡ cell_prefix k d → IsOnPath a path c k
    → IsOnPath a path d k
path_of a path c d k e on = record { each = λ j l. on.each j l ∙ ap (λ b. Some b) (prefix_less j k c d l e) }

-- an error is the same whatever the value would be
pub err_again : {A B E : Type 0} (x y : E) → (let r : Result A E = Err x in r) ≡ Err y
    → (let r : Result B E = Err x in r) ≡ Err y
err_again x y h = let e : x ≡ y = cc in cc

-- what holds anyway holds of an Ok, and so does what follows from two clauses on it
pub ok_always : {A E P : Type 0} (r : Result A E) → P → OnOk r P
ok_always (Ok a) p = p
ok_always (Err e) p = tt

pub ok_both : {A E P Q S : Type 0} (r : Result A E) → (P → Q → S) → OnOk r P → OnOk r Q → OnOk r S
ok_both (Ok a) f p q = f p q
ok_both (Err e) f p q = tt
