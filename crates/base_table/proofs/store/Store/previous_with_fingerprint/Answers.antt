use Rattle.base_table.proofs.Columns.{prints-view}
use Rattle.base_table.specs.Store.{print_of}
use Rattle.std.proofs.Common.{◌∙◌, ap, map, take, get_or, ℕ, List, nat_eq}
use Rattle.base_table.proofs.store.Store.previous_with_fingerprint.Goals as goal
use Rattle.std.proofs.lemmas.List.{get_or-map}
use Rattle.base_table.specs.Last.{last_of}

pub returns : goal.returns
returns c =
    let m = c.self.inside in
    let rows = c.args.self.now.rows in
    let printer = c.args.self.now.printer in
    let prints = prints-view m.dims m.measures m.printer m.dims_then m.ids m.prints m.codes.items m.amounts.items _
    c.self.invariant c.args.self.now c.self.view_is in
    λ d.
    c.before-2.ensures 0 ∙ ap (λ (l : List ℕ). last_of (nat_eq (get_or l c.args.place 0)) (take c.args.place l)) prints
    ∙ ap (λ (n : ℕ). last_of (nat_eq n) (take c.args.place (map (print_of printer) rows)))
    (get_or-map (print_of printer) rows c.args.place d 0 c.requires)
