use Rattle.std.proofs.Common.{◌≡◌, ◌-ℤ◌, ap₂, of_z, rules, to_z, w64}
use Rattle.std.proofs.lemmas.Int.{to_z-of_z}
use Rattle.batch_delete.proofs.Lesser.{part_told}
use Rattle.batch_delete.proofs.subtracting.measure_without_part.Goals as goal
use Rattle.std.proofs.Common.{◌∙◌}

pub returns-clause-rest : goal.returns-clause-rest
returns-clause-rest c = λ o e.
    let w = c.args.whole.now in
    let p = c.args.part.now in
    let wl : to_z w64 (of_z w64 w.least) ≡ w.least = to_z-of_z w64 w.least (search rules) in
    let wg : to_z w64 (of_z w64 w.greatest) ≡ w.greatest = to_z-of_z w64 w.greatest (search rules) in
    let ws : to_z w64 (of_z w64 w.sum) ≡ w.sum = to_z-of_z w64 w.sum (search rules) in
    let ps : to_z w64 (of_z w64 p.sum) ≡ p.sum = to_z-of_z w64 p.sum (search rules) in
    let both = ap₂ (λ x y. x -ℤ y) ws ps in
    part_told p w _ _ _ (to_z-of_z w64 _ (search rules) ∙ both) wl wg c.requires.told.least
    c.requires.told.greatest o e
