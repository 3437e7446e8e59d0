-- The parts of a plan one after another.
use Rattle.batch_insert.specs.Stages.{IsStage, HaveCopied, HaveEnded, HaveSet, IsCopied, IsDone, LabelsStay}
use Rattle.std.proofs.Common.{◌≡◌, inl, inr, ℕ, ◌+◌, ◌<◌, Option, Some, None, IsSome, List, [], ◌∷◌, ◌++◌, ℤ, length, take, get_or}
use Rattle.std.proofs.Common.{replicate, refl, sym, subst, ◌∙◌}
use Rattle.std.proofs.lemmas.List.{take_more}
use Rattle.cube_defs.specs.Cell.{Cell, depth, mask}
use Rattle.cube_defs.specs.Tree.{Tree}
use Rattle.cube_laws.specs.Lists.{Among}
use Rattle.cube_laws.proofs.CallerLemmas.{among_append, all_among}
use Rattle.tree_search.specs.Found.{IsTreeOf}
use Rattle.qc_arena.specs.Map.{Arena}
use Rattle.batch_insert.specs.declared.plan.PlannedNode.{PlannedNode}
use Rattle.batch_insert.specs.declared.plan.LabelCopy.{LabelCopy}
use Rattle.batch_insert.specs.declared.plan.TupleLabel.{TupleLabel}
use Rattle.batch_insert.specs.declared.plan.NodeKind.{NodeKind}
use Rattle.batch_insert.specs.declared.plan.Plan.{Plan}
use Rattle.batch_insert.specs.Begun.{IsBegun}
use Rattle.batch_insert.specs.Cases.{Case, IsPrefix}
use Rattle.batch_insert.specs.Invariants.{IsClosed, KeepsNodes}
use Rattle.batch_insert.specs.Planned.{IsPlan, IsRootOrPlanned}
use Rattle.batch_insert.specs.Whole.{HasAll, IsCopyOf, IsEndFor, IsTupleLabelOf}
use Rattle.batch_insert.proofs.Finished.{finished, cell_prefix_none}
use Rattle.batch_insert.proofs.Masks.{flat_mask}
use Rattle.batch_insert.proofs.Prefixes.{prefix_long}
use Rattle.batch_insert.proofs.TupleLabels.{set_stays}
use Rattle.batch_insert.proofs.Started.{begun_stage}
use Rattle.tree_laws.proofs.CallerLemmas.{some_there}

pub numbered_still : (f g : ℕ → Option ℕ) (m : ℕ) → ((q k : ℕ) → f q ≡ Some k → g q ≡ Some k) → IsSome (f m)
    → IsSome (g m)
numbered_still f g m grows h = let r = some_there (f m) h in rw (grows m r.0 r.1) refl

-- the parent of a planned node has a number once the root and the nodes before it have one
pub known_parent : (f : ℕ → Option ℕ) (xs : List PlannedNode) (m : ℕ) → IsSome (f 0)
    → ((s : PlannedNode) → Among s xs → IsSome (f s.mask)) → IsRootOrPlanned xs m → IsSome (f m)
known_parent f xs m top known (inl e) = subst (λ n. IsSome (f n)) (sym e) top
known_parent f xs m top known (inr s) = rw (← s.2) (known s.0 s.1)

-- one more spot has its number
pub known_next : (xs : List PlannedNode) (k : ℕ) (x z : PlannedNode) → k < length xs → x ≡ get_or xs k z
    → (f g : ℕ → Option ℕ) → ((s : PlannedNode) → Among s (take k xs) → IsSome (f s.mask))
    → ((m l : ℕ) → f m ≡ Some l → g m ≡ Some l) → IsSome (g x.mask)
    → (s : PlannedNode) → Among s (take (k + 1) xs) → IsSome (g s.mask)
known_next xs k x z l e f g old grows new s m
    = elim ((among_append s (take k xs) (get_or xs k z ∷ [])).0 (rw (← (take_more xs k z l)) m)) [
      | inl n ↦ let r = some_there (f s.mask) (old s n) in rw (grows s.mask r.0 r.1) refl
      | inr n ↦ elim n [ inl i ↦ rw (← (e ∙ sym i)) new | inr i ↦ absurd i ]
    ]

copied_stays : {t : Cell ℕ} {a : Arena} (c : Case t a) (b d : Tree ℕ) (f : ℕ → Option ℕ) (x : LabelCopy)
    → LabelsStay b d → IsCopied c b f x → IsCopied c d f x
copied_stays c b d f x stay h = (h.0, h.1, λ i v l. stay h.0 i v (h.2 i v l))

module _ (t : Cell ℕ) (f : ℕ → Option ℕ) (b : Tree ℕ) where
  pub copied_none : HaveCopied t f [] b b
  copied_none a c stage are = (stage, λ k i v h. h, λ x m. absurd m)

  pub set_none : HaveSet t f [] b b
  set_none a c stage are = (stage, λ k i v h. h, λ x m. absurd m, λ y is h. h)

  pub ended_none : (amounts : List ℤ) → HaveEnded t amounts f [] b b
  ended_none amounts a c same many stage are = (stage, λ k. refl, λ x m. absurd m, λ y h. h)

  module _ (d e : Tree ℕ) where
    copied_then : (xs : List LabelCopy) (x : LabelCopy) → HaveCopied t f xs b d → HaveCopied t f (x ∷ []) d e
        → HaveCopied t f (xs ++ x ∷ []) b e
    copied_then xs x one two a c stage are =
        let p = one a c stage (λ y m. are y ((among_append y xs (x ∷ [])).1 (inl m))) in
        let q = two a c p.0 (λ y m. are y ((among_append y xs (x ∷ [])).1 (inr m))) in (
          q.0,
          λ k i v h. q.1 k i v (p.1 k i v h),
          λ y m. elim ((among_append y xs (x ∷ [])).0 m) [
            | inl n ↦ copied_stays c d e f y q.1 (p.2 y n)
            | inr n ↦ q.2 y n
          ],
        )

    pub copied_next : (xs : List LabelCopy) (k : ℕ) (z : LabelCopy) → k < length xs → HaveCopied t f (take k xs) b d
        → HaveCopied t f (get_or xs k z ∷ []) d e → HaveCopied t f (take (k + 1) xs) b e
    copied_next xs k z l one two
        = rw (take_more xs k z l) (copied_then _ _ one two)

    set_then : (xs : List TupleLabel) (x : TupleLabel) → HaveSet t f xs b d → HaveSet t f (x ∷ []) d e
        → HaveSet t f (xs ++ x ∷ []) b e
    set_then xs x one two a c stage are =
        let p = one a c stage (λ y m. are y ((among_append y xs (x ∷ [])).1 (inl m))) in
        let q = two a c p.0 (λ y m. are y ((among_append y xs (x ∷ [])).1 (inr m))) in (
          q.0,
          λ k i v h. q.1 k i v (p.1 k i v h),
          λ y m. elim ((among_append y xs (x ∷ [])).0 m) [
            | inl n ↦ q.3 y (are y m) (p.2 y n)
            | inr n ↦ q.2 y n
          ],
          λ y is h. q.3 y is (p.3 y is h),
        )

    pub set_next : (xs : List TupleLabel) (k : ℕ) (z : TupleLabel) → k < length xs → HaveSet t f (take k xs) b d
        → HaveSet t f (get_or xs k z ∷ []) d e → HaveSet t f (take (k + 1) xs) b e
    set_next xs k z l one two
        = rw (take_more xs k z l) (set_then _ _ one two)

    ended_then : (amounts : List ℤ) (xs : List NodeKind) (x : NodeKind) → HaveEnded t amounts f xs b d
        → HaveEnded t amounts f (x ∷ []) d e → HaveEnded t amounts f (xs ++ x ∷ []) b e
    ended_then amounts xs x one two a c same many stage are =
        let p = one a c same many stage (λ y m. are y ((among_append y xs (x ∷ [])).1 (inl m))) in
        let q = two a c same many p.0 (λ y m. are y ((among_append y xs (x ∷ [])).1 (inr m))) in (
          q.0,
          λ k. q.1 k ∙ p.1 k,
          λ y m. elim ((among_append y xs (x ∷ [])).0 m) [
            | inl n ↦ q.3 y (p.2 y n)
            | inr n ↦ q.2 y n
          ],
          λ y h. q.3 y (p.3 y h),
        )

    pub ended_next : (amounts : List ℤ) (xs : List NodeKind) (k : ℕ) (z : NodeKind) → k < length xs
        → HaveEnded t amounts f (take k xs) b d → HaveEnded t amounts f (get_or xs k z ∷ []) d e
        → HaveEnded t amounts f (take (k + 1) xs) b e
    ended_next amounts xs k z l one two
        = rw (take_more xs k z l) (ended_then amounts _ _ one two)

-- the whole plan
module _ {t : Cell ℕ} {a : Arena} (c : Case t a) (plan : Plan) (parts : IsPlan t a plan)
    (has : HasAll c plan (replicate (length t) None) 0) (f : ℕ → Option ℕ) (b : Tree ℕ) where
  pub every_number : IsSome (f 0) → ((s : PlannedNode) → Among s plan.planned_nodes.items → IsSome (f s.mask))
      → (q : Cell ℕ) → IsPrefix c q (depth q) → IsSome (f (mask q))
  every_number top planned_nodes q front
      = elim (has q front (cell_prefix_none q _ (prefix_long c q _ front))).spot [
        | inl flat ↦ rw (flat_mask q flat) top
        | inr s ↦ rw (← s.2) (planned_nodes s.0 s.1)
      ]

  pub stage_is : IsBegun c b f → IsSome (f 0)
      → ((s : PlannedNode) → Among s plan.planned_nodes.items → IsSome (f s.mask)) → IsStage c b f
  stage_is begun top planned_nodes = begun_stage c b f begun (every_number top planned_nodes)

  pub all_done : (amounts : List ℤ) (e : Arena) → IsBegun c b f → IsSome (f 0)
      → ((s : PlannedNode) → Among s plan.planned_nodes.items → IsSome (f s.mask)) → c.row.amounts ≡ amounts
      → c.measures ≡ length amounts
      → IsDone t amounts f plan b e.now → KeepsNodes t a e → IsClosed e
      → IsTreeOf a.width e.now (record { measures = c.measures; rows = c.xs ++ c.row ∷ c.ys })
  all_done amounts e begun top planned_nodes same many done keeps shut =
      let start = begun_stage c b f begun (every_number top planned_nodes) in
      let tuple_labels : (x : TupleLabel) → Among x plan.tuple_labels.items → IsTupleLabelOf c x
      = λ x m. all_among (λ y. (c : Case t a)
      → IsTupleLabelOf c y) plan.tuple_labels.items parts.owns_right x m c in
      let p = done.2 a c start
      (λ x m. all_among (λ y. (c : Case t a) → IsCopyOf c y) plan.copies.items parts.copies_right x m c) in
      let q = done.3 a c p.0 tuple_labels in
      let r = done.4 a c same many q.0
      (λ x m. all_among (λ y. (c : Case t a) → IsEndFor c y) plan.ends.items parts.ends_right x m c) in
      finished c plan has tuple_labels f e keeps r.0 shut
      (λ x m. let h = copied_stays c done.0 done.1 f x q.1 (p.2 x m) in
      (h.0, h.1, λ i v l. rw (r.1 h.0) (h.2 i v l)))
      (λ x m. set_stays t done.1 e.now f x r.1 (q.2 x m))
      r.2
