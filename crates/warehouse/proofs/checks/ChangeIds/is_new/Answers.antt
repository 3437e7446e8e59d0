use Rattle.std.proofs.Common.{◌≡◌, ◌-◌, ◌∙◌, ℕ, List, true, false, ap, ap₂, arith, nat_eq, sym, take}
use Rattle.std.specs.Prelude.{not}
use Rattle.std.specs.List.{list_any}
use Rattle.csv_load.specs.Batch.{change_at, is_deletion}
use Rattle.warehouse.proofs.Changes.{deletion-seen, insertion-seen, same-deletion, same-insertion}
use Rattle.warehouse.proofs.checks.ChangeIds.is_new.Goals as goal

pub returns-in_ok-new-clause-new : goal.returns-in_ok-new-clause-new
returns-in_ok-new-clause-new c =
    let changes = c.args.batch.now.changes in
    let before = take (c.args.k - 1) changes in
    let is : is_deletion (change_at changes c.args.k) ≡ true = sym c.is_delete.ensures ∙ c.if-is_delete.true in
    c.in_ok-new.ensures.added
    ∙ ap₂ (λ (id : ℕ) (ids : List ℕ). not (list_any (nat_eq id) ids)) c.id-id.ensures c.requires.seen.deletions
    ∙ ap not (sym (same-deletion (change_at changes c.args.k) before is))

pub returns-in_ok-new-clause-seen : goal.returns-in_ok-new-clause-seen
returns-in_ok-new-clause-seen c = λ e.
    let changes = c.args.batch.now.changes in
    let gone = c.args.self.now.gone.keys in
    let is : is_deletion (change_at changes c.args.k) ≡ true = sym c.is_delete.ensures ∙ c.if-is_delete.true in
    let new : c.in_ok-new.new ≡ true = cc in
    let absent : list_any (nat_eq c.id-id.result) gone ≡ false = grind (arith, c.in_ok-new.ensures.added, new) in
    rw (c.in_ok-new.ensures.keys, absent, c.id-id.ensures)
    (deletion-seen gone c.args.self.now.come.keys changes c.args.k c.requires.there.first c.requires.there.last is
    c.requires.seen)

pub returns-in_ok-new-2-clause-new : goal.returns-in_ok-new-2-clause-new
returns-in_ok-new-2-clause-new c =
    let changes = c.args.batch.now.changes in
    let before = take (c.args.k - 1) changes in
    let is : is_deletion (change_at changes c.args.k) ≡ false = sym c.is_delete.ensures ∙ c.if-is_delete.false in
    c.in_ok-new-2.ensures.added
    ∙ ap₂ (λ (id : ℕ) (ids : List ℕ). not (list_any (nat_eq id) ids)) c.id-id.ensures c.requires.seen.insertions
    ∙ ap not (sym (same-insertion (change_at changes c.args.k) before is))

pub returns-in_ok-new-2-clause-seen : goal.returns-in_ok-new-2-clause-seen
returns-in_ok-new-2-clause-seen c = λ e.
    let changes = c.args.batch.now.changes in
    let come = c.args.self.now.come.keys in
    let is : is_deletion (change_at changes c.args.k) ≡ false = sym c.is_delete.ensures ∙ c.if-is_delete.false in
    let new : c.in_ok-new-2.new ≡ true = cc in
    let absent : list_any (nat_eq c.id-id.result) come ≡ false = grind (arith, c.in_ok-new-2.ensures.added, new) in
    rw (c.in_ok-new-2.ensures.keys, absent, c.id-id.ensures)
    (insertion-seen c.args.self.now.gone.keys come changes c.args.k c.requires.there.first c.requires.there.last is
    c.requires.seen)
