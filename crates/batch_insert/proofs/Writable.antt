-- Each node that a plan names has a number, once all nodes have one.
use Rattle.std.proofs.Common.{◌≡◌, ℕ, All, true, Option, Some, None, IsSome, is_some, length}
use Rattle.std.specs.Prelude.{IfSome}
use Rattle.cube_defs.specs.Cell.{Cell, depth, mask}
use Rattle.cube_defs.specs.Tree.{Tree}
use Rattle.qc_arena.specs.Map.{Arena}
use Rattle.batch_insert.specs.declared.plan.ForcedChild.{ForcedChild}
use Rattle.batch_insert.specs.declared.plan.LabelCopy.{LabelCopy}
use Rattle.batch_insert.specs.declared.plan.NodeKind.{NodeKind}
use Rattle.batch_insert.specs.declared.plan.Plan.{Plan}
use Rattle.batch_insert.specs.declared.plan.TupleLabel.{TupleLabel}
use Rattle.batch_insert.specs.Cases.{Case, IsPrefix}
use Rattle.batch_insert.specs.Planned.{IsLabelCopy, IsNodeKind, IsPlan, IsWritable}
use Rattle.batch_insert.specs.Whole.{IsCopyOf, IsEndFor, IsLast, IsTupleLabelOf}
use Rattle.batch_insert.proofs.Prefixes.{deep_prefix, next_prefix, target_prefix}
use Rattle.batch_insert.proofs.Turns.{value_there}

module _ {t : Cell ℕ} {a : Arena} (full : All (λ e. is_some e ≡ true) t) (c : Case t a)
    (f : ℕ → Option ℕ) (all : (q : Cell ℕ) → IsPrefix c q (depth q) → IsSome (f (mask q))) where
  node_number : (p : Cell ℕ) (i m : ℕ) → IsPrefix c p i → mask p ≡ m → IsSome (f m)
  node_number p i m front dims = rw (← dims) (all p (deep_prefix c p i front))

  copy_number : (x : LabelCopy) → IsCopyOf c x → IsSome (f x.mask)
  copy_number x is = node_number is.node is.dim x.mask is.front is.dims

  label_number : (x : TupleLabel) → IsTupleLabelOf c x → IsSome (f x.mask)
  label_number x is = node_number is.node x.dim x.mask is.front is.dims

  target_number : (x : TupleLabel) → IsTupleLabelOf c x → IsSome (f x.target)
  target_number x is =
      let v = value_there t x.dim full is.within in
      node_number _ _ x.target (target_prefix c is.node x.dim v.0) (is.target v.0 v.1)

  kind_number : (x : NodeKind) → IsEndFor c x → IsSome (f x.mask)
  kind_number x is = go x.forced is.last
    where
      go : (o : Option ForcedChild) → IsLast c is.node o x.before → IsSome (f x.mask)
      go None h = node_number is.node (length t) x.mask h.0 is.dims
      go (Some g) h = node_number is.node g.dim x.mask h.0 is.dims

  child_number : (x : NodeKind) → IsEndFor c x → IfSome x.forced (λ g. IsSome (f g.child))
  child_number x is = go x.forced is.last
    where
      go : (o : Option ForcedChild) → IsLast c is.node o x.before → IfSome o (λ g. IsSome (f g.child))
      go None h = tt
      go (Some g) h =
          let v = value_there t g.dim full h.1 in
          let next = h.2 v.0 v.1 in
          node_number _ _ g.child (next_prefix c is.node g.dim v.0 h.0 next.0) next.1

  pub writable : (measures : ℕ) (b : Tree ℕ) (plan : Plan) → IsPlan t a plan
      → All (λ x. IsLabelCopy b x) plan.copies.items → All (λ x. IsNodeKind (length t) measures x) plan.ends.items
      → IsWritable t measures b f plan
  writable measures b plan parts copies ends = record {
    copies = λ k d l. record { from = copies k d l; to = copy_number _ (parts.copies_right k d l c) };
    tuple_labels = λ k d l. record {
      dim = parts.tuple_labels k d l;
      node = label_number _ (parts.owns_right k d l c);
      target = target_number _ (parts.owns_right k d l c);
    };
    ends = λ k d l. record {
      kind = ends k d l;
      node = kind_number _ (parts.ends_right k d l c);
      child = child_number _ (parts.ends_right k d l c);
    };
  }
