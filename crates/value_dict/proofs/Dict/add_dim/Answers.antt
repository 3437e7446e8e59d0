use Rattle.value_dict.specs.TextLists.{texts_of}
use Rattle.value_dict.proofs.Dictionaries.{dictionary_wider}
use Rattle.value_dict.proofs.Dict.add_dim.Goals as goal

pub invariant_of-self-2 : goal.invariant_of-self-2
invariant_of-self-2 c =
    let m = c.self.inside in
    dictionary_wider texts_of m.lists.items c.push.new.self.items m.max c.args.self.now c.self.view_is c.in_ok-list.list
    c.args.text.now c.requires.few c.in_ok-push.ensures.items c.in_ok-list.ensures c.self.invariant

pub returns-clause-dictionary : goal.returns-clause-dictionary
returns-clause-dictionary c =
    let m = c.self.inside in
    dictionary_wider texts_of m.lists.items c.push.new.self.items m.max c.args.self.now c.self.view_is c.in_ok-list.list
    c.args.text.now c.requires.few c.in_ok-push.ensures.items c.in_ok-list.ensures c.self.invariant
