-- Which file is open while one is read.
use Rattle.std.proofs.Common.{◌≡◌, ℕ, List, Some, None, subst}
use Rattle.std.specs.Prelude.{Option}
use Rattle.qc_io.specs.Outside.{Cursor, IsOpenAs, FileContents, advanced}
use Rattle.qc_io.proofs.Reading.{HasRead}

pub nothing_open : (told : Option FileContents) (cursor : Option Cursor) (name : List ℕ) → cursor ≡ None
    → IsOpenAs told cursor name
nothing_open None cursor name e = tt
nothing_open (Some t) cursor name e = rw e tt

-- the file that is read is open
read_open : (told : Option FileContents) (cursor : Option Cursor) (name bytes : List ℕ) → HasRead told cursor name bytes
    → IsOpenAs told cursor name
read_open None cursor name bytes h = tt
read_open (Some t) cursor name bytes h = rw h.place h.is_whole

moved_open : (n : ℕ) (told : Option FileContents) (cursor : Option Cursor) (name : List ℕ) → IsOpenAs told cursor name
    → IsOpenAs told (advanced n cursor) name
moved_open n None cursor name h = tt
moved_open n (Some t) None name h = tt
moved_open n (Some t) (Some c) name h = h

-- and so it is after a read
pub still_open : (n : ℕ) (told before : Option FileContents) (cursor after : Option Cursor) (name bytes : List ℕ)
    → told ≡ before → HasRead told cursor name bytes → after ≡ advanced n cursor → IsOpenAs before after name
still_open n told before cursor after name bytes same h e =
    rw e (moved_open n before cursor name
    (subst (λ t. IsOpenAs t cursor name) same (read_open told cursor name bytes h)))

pub left_open : (told before : Option FileContents) (cursor : Option Cursor) (name bytes : List ℕ) → told ≡ before
    → HasRead told cursor name bytes → IsOpenAs before cursor name
left_open told before cursor name bytes same h
    = subst (λ t. IsOpenAs t cursor name) same (read_open told cursor name bytes h)
