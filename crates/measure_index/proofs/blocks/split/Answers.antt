use Rattle.std.proofs.Common.{ap, arith, drop, take, ◌+◌, ◌≡◌, ◌∙◌, get_or, if◌then◌else◌, not, set}
use Rattle.std.specs.List.{insert}
use Rattle.std.proofs.lemmas.List.{get_or_default, take_rest}
use Rattle.std.proofs.lemmas.List.Edits.{get_or-insert_below}
use Rattle.measure_index.specs.Blocks.{joined}
use Rattle.measure_index.proofs.BlockLemmas.{split_are, split_same}
use Rattle.measure_index.proofs.blocks.split.Goals as goal

pub returns-clause-are : goal.returns-clause-are
returns-clause-are c =
    let bs = c.args.blocks.now.items in
    let at = c.args.at in
    let upper = c.in_ok-upper.upper in
    let block = c.index_mut.result.now in
    let within = c.requires.within in
    let news : c.insert.new.self.items ≡ insert bs (at + 1) upper
    = c.insert.ensures.items ∙ ap (λ b. if b then insert bs (at + 1) upper else bs)
    (c.is_err.ensures.negation ∙ ap not c.if-is_err.false) in
    let kept : block ≡ get_or bs at block = c.index_mut.ensures.value ∙ ap (λ cs. get_or cs at block) news
    ∙ get_or-insert_below bs (at + 1) upper block at (omega arith) (omega (arith, within)) in
    let read = c.index.ensures ∙ get_or_default bs at c.index.result.now block within in
    split_are bs at block within c.truncate.new.self upper 32
    (c.truncate.ensures.items ∙ ap (λ b. take 32 b.items) kept)
    (c.in_ok-upper.ensures ∙ take_rest c.deref.result.now 32
    ∙ ap (drop 32) (c.deref.ensures.value ∙ ap (λ b. b.items) read))
    c.insert.new.self.items news (omega arith) (c.requires.long block) c.requires.are

pub returns-clause-same : goal.returns-clause-same
returns-clause-same c =
    let bs = c.args.blocks.now.items in
    let at = c.args.at in
    let upper = c.in_ok-upper.upper in
    let block = c.index_mut.result.now in
    let within = c.requires.within in
    let news : c.insert.new.self.items ≡ insert bs (at + 1) upper
    = c.insert.ensures.items ∙ ap (λ b. if b then insert bs (at + 1) upper else bs)
    (c.is_err.ensures.negation ∙ ap not c.if-is_err.false) in
    let kept : block ≡ get_or bs at block = c.index_mut.ensures.value ∙ ap (λ cs. get_or cs at block) news
    ∙ get_or-insert_below bs (at + 1) upper block at (omega arith) (omega (arith, within)) in
    let read = c.index.ensures ∙ get_or_default bs at c.index.result.now block within in
    ap (λ cs. joined (set cs at c.truncate.new.self)) news
    ∙ split_same bs at block within c.truncate.new.self upper 32
    (c.truncate.ensures.items ∙ ap (λ b. take 32 b.items) kept)
    (c.in_ok-upper.ensures ∙ take_rest c.deref.result.now 32
    ∙ ap (drop 32) (c.deref.ensures.value ∙ ap (λ b. b.items) read))
