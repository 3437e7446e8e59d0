-- A script without a mark before it is no longer than it was.
use Rattle.std.proofs.Common.{◌≡◌, ◌≤◌, ℕ, List, ap, arith, length}
use Rattle.cube_defs.specs.declared.limits.TheConstants.{MAX_FILE}
use Rattle.text_lines.specs.Lines.{without_mark}
use Rattle.text_lines.proofs.CallerLemmas.{no_longer}

pub bare-short : (script bare : List ℕ) → bare ≡ without_mark script → length script ≤ MAX_FILE → length bare ≤ MAX_FILE
bare-short script bare is short =
    let same = ap (λ (bs : List ℕ). length bs) is in
    omega (arith, same, short, no_longer script)
