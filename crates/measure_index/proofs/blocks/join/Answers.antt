use Rattle.std.proofs.Common.{Bool, List, ℕ, length, ◌<◌, ap, ap₂, arith, get_or, if◌then◌else◌, set, subst, sym, true, vec_capacity}
use Rattle.std.proofs.Common.{vec_len, ◌+◌, ◌++◌, ◌≡◌, ◌≤◌, ◌∙◌}
use Rattle.std.proofs.lemmas.List.{get_or_default}
use Rattle.std.proofs.lemmas.List.Edits.{get_or-remove_below}
use Rattle.measure_index.specs.Blocks.{AreBlocks, joined}
use Rattle.measure_index.specs.declared.key.Key.{Key}
use Rattle.measure_index.proofs.BlockLemmas.{Block, join_are, join_same}
use Rattle.measure_index.proofs.blocks.join.Goals as goal

-- the block with the next one's keys, where it had room for them
taken_over : (bs : List Block) (at : ℕ) (block next : Block) (keys both : List Key) (ok : Bool) → at + 1 < length bs
    → block ≡ get_or bs at block → next ≡ get_or bs (at + 1) next → keys ≡ next.items
    → ((d : Block) → vec_len (get_or bs at d) + vec_len (get_or bs (at + 1) d) ≤ vec_capacity (get_or bs at d))
    → (vec_len block + length keys ≤ vec_capacity block → ok ≡ true)
    → both ≡ (if ok then block.items ++ keys else block.items)
    → both ≡ (get_or bs at block).items ++ (get_or bs (at + 1) next).items
taken_over bs at block next keys both ok more here there are room succeeds is =
    let after : get_or bs (at + 1) block ≡ next = get_or_default bs (at + 1) block next more ∙ sym there in
    let one = ap (λ (b : Block). vec_len b) here in
    let two = ap (λ (b : Block). vec_len b) after in
    let cap = ap (λ (b : Block). vec_capacity b) here in
    let long = ap length are in
    let fits : vec_len block + length keys ≤ vec_capacity block
    = omega (arith, room block, one, two, cap, long, next.ok.0) in
    is ∙ ap (λ b. if b then block.items ++ keys else block.items) (succeeds fits)
    ∙ ap₂ (λ xs ys. xs ++ ys) (ap (λ (b : Block). b.items) here) (are ∙ ap (λ (b : Block). b.items) there)

pub returns-clause-are : goal.returns-clause-are
returns-clause-are c =
    let bs = c.args.blocks.now.items in
    let at = c.args.at in
    let next = c.remove-next.result in
    let block = c.index_mut.result.now in
    let here : block ≡ get_or bs at block = c.index_mut.ensures.value
    ∙ ap (λ (cs : List Block). get_or cs at block) c.remove-next.ensures.items
    ∙ get_or-remove_below bs (at + 1) block at (omega arith) c.requires.next in
    subst (λ (cs : List Block). AreBlocks (set cs at c.extend_from_slice.new.self)) (sym c.remove-next.ensures.items)
    (join_are bs at block (omega (arith, c.requires.next)) next c.extend_from_slice.new.self c.requires.next
    (taken_over bs at block next c.deref.result.now c.extend_from_slice.new.self.items _ c.requires.next here
    c.remove-next.ensures.value c.deref.ensures.value c.requires.room c.extend_from_slice.ensures.succeeds
    c.extend_from_slice.ensures.items) c.requires.are)

pub returns-clause-same : goal.returns-clause-same
returns-clause-same c =
    let bs = c.args.blocks.now.items in
    let at = c.args.at in
    let next = c.remove-next.result in
    let block = c.index_mut.result.now in
    let here : block ≡ get_or bs at block = c.index_mut.ensures.value
    ∙ ap (λ (cs : List Block). get_or cs at block) c.remove-next.ensures.items
    ∙ get_or-remove_below bs (at + 1) block at (omega arith) c.requires.next in
    ap (λ (cs : List Block). joined (set cs at c.extend_from_slice.new.self)) c.remove-next.ensures.items
    ∙ join_same bs at block (omega (arith, c.requires.next)) next c.extend_from_slice.new.self c.requires.next
    (taken_over bs at block next c.deref.result.now c.extend_from_slice.new.self.items _ c.requires.next here
    c.remove-next.ensures.value c.deref.ensures.value c.requires.room c.extend_from_slice.ensures.succeeds
    c.extend_from_slice.ensures.items)
