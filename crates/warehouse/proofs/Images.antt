-- The images of a change, put over the tree after it.
use Rattle.std.proofs.Common.{◌≡◌, ◌∙◌, ℕ, [], Option, Some, Result, Ok, Err, ap, subst, sym}
use Rattle.std.specs.FinMap as finmap
use Rattle.std.specs.FinSet as set
use Rattle.std.specs.Ordering.{nat_cmp}
use Rattle.std.proofs.lemmas.List.{nil_from_length}
use Rattle.std.specs.Prelude.{IfSome, OnErr, OnOk}
use Rattle.cube_defs.specs.Tree.{Tree}
use Rattle.qc_arena.specs.Codes.{Shape}
use Rattle.qc_arena.specs.Map.{Arena, ImageMap, Known, frame, overlaid, shape_of, with_images}
use Rattle.warehouse.specs.State.{Contents}

no-images : finmap.entries (finmap.empty {X = Option Known} {R = nat_cmp}) ≡ []
no-images = nil_from_length _ (sym (finmap.len-entries (finmap.empty {X = Option Known} {R = nat_cmp}))
    ∙ finmap.len-empty nat_cmp (Option Known))

pub over-none : (tree : Tree ℕ) → overlaid finmap.empty tree ≡ tree
over-none tree = ap (λ es. with_images es tree) no-images

-- they give the tree before it back, and after a refusal all is as it was, without images
pub over-kept : {T E : Type 0} (r : Result T E) (now before : Contents)
    → OnOk r (overlaid now.images now.tree ≡ before.tree) → OnErr r (now ≡ before) → before.images ≡ finmap.empty
    → overlaid now.images now.tree ≡ before.tree
over-kept (Ok x) now before made same none = made
over-kept (Err e) now before made same none
    = ap (λ (i : ImageMap). overlaid i now.tree) (ap (λ (w : Contents). w.images) same ∙ none) ∙ over-none now.tree
    ∙ ap (λ (w : Contents). w.tree) same

-- what follows from what holds after a refusal
pub err-then : {T E P Q : Type 0} (r : Result T E) → (P → Q) → OnErr r P → OnErr r Q
err-then (Ok x) f h = tt
err-then (Err e) f h = f h

pub err-same : {T E X : Type 0} (r : Result T E) (f : Contents → X) (now mid was : Contents) → mid ≡ was
    → OnErr r (now ≡ mid) → OnErr r (f now ≡ f was)
err-same r f now mid was rest same = err-then r (λ (e : now ≡ mid). ap f (e ∙ rest)) same

-- an arena in which a batch was opened
abbrev pub begun : Arena → Arena
begun a = record a { was = Some (shape_of a); touched = set.empty; last = finmap.empty }

-- what was committed can be put back over the tree
pub over-begun : (before opened changed : Arena) (images : ImageMap) (now : Tree ℕ) → opened ≡ begun before
    → frame changed ≡ frame opened
    → IfSome changed.was (λ shape. overlaid images now ≡ shape.tree)
    → overlaid images now ≡ before.now
over-begun before opened changed images now begins same kept =
    let all : frame changed ≡ frame (begun before) = same ∙ ap frame begins in
    let was : changed.was ≡ Some (shape_of before) = ap (λ (a : Arena). a.was) all in
    subst (λ (o : Option Shape). IfSome o (λ shape. overlaid images now ≡ shape.tree)) was kept
