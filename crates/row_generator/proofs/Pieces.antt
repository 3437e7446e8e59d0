-- One record more.
use Rattle.std.proofs.Common.{◌≡◌, ◌∙◌, ap, ℕ, suc, ◌+◌, List, ◌++◌, append_assoc}
use Rattle.row_generator.specs.Generator.{after_draws, deletion_text, deletions_text, row_text, rows_text}

pub deletions-more : (out : List ℕ) (left before id : ℕ) → before ≡ suc left
    → (out ++ deletion_text id) ++ deletions_text left (id + 1) ≡ out ++ deletions_text before id
deletions-more out left before id e = rw e (append_assoc out (deletion_text id) (deletions_text left (id + 1)))

pub rows-more : (out front : List ℕ) (left before id s : ℕ) → before ≡ suc left
    → ((out ++ front) ++ row_text id s) ++ rows_text front left (id + 1) (after_draws 5 s) ≡ out
    ++ rows_text front before id s
rows-more out front left before id s e =
    let rest = rows_text front left (id + 1) (after_draws 5 s) in
    rw e (ap (λ (z : List ℕ). z ++ rest) (append_assoc out front (row_text id s))
    ∙ append_assoc out (front ++ row_text id s) rest)
