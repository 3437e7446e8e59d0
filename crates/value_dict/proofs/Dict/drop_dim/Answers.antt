use Rattle.std.proofs.Common.{◌∙◌, ◌-◌, ap, take}
use Rattle.value_dict.specs.TextLists.{texts_of}
use Rattle.value_dict.proofs.Dictionaries.{dictionary_narrower}
use Rattle.value_dict.proofs.Dict.drop_dim.Goals as goal

pub invariant_of-self : goal.invariant_of-self
invariant_of-self c =
    let m = c.self.inside in
    dictionary_narrower texts_of m.lists.items c.pop.new.self.items m.max c.args.self.now c.self.view_is c.requires.some
    (c.pop.ensures.rest ∙ ap (λ n. take (n - 1) m.lists.items) m.lists.ok.0) c.self.invariant

pub returns-clause-dictionary : goal.returns-clause-dictionary
returns-clause-dictionary c =
    let m = c.self.inside in
    dictionary_narrower texts_of m.lists.items c.pop.new.self.items m.max c.args.self.now c.self.view_is c.requires.some
    (c.pop.ensures.rest ∙ ap (λ n. take (n - 1) m.lists.items) m.lists.ok.0) c.self.invariant
