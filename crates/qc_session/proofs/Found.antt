-- Where each file that is named is told, steady files are all read.
use Rattle.std.proofs.Common.{◌≡◌, ◌∙◌, ℕ, Option, Some, None, IfSome, List, [], ◌∷◌, ◌++◌, inl, inr}
use Rattle.std.specs.Prelude.{IsSome}
use Rattle.std.specs.List.{AllByRecursion}
use Rattle.std.proofs.lemmas.List.Elements.{recursion_from_All}
use Rattle.qc_io.specs.Outside.{FileContents}
use Rattle.qc_session.specs.Forms.{FileNames}
use Rattle.qc_session.specs.Lines.{script_lines}
use Rattle.qc_session.specs.Answers.{file_of}
use Rattle.qc_session.specs.Runs.{AllFilesKnown, CannotRead, IsLineFileKnown, LineUnread, HasReported, Unread}
use Rattle.qc_session.proofs.FileNamed.{file-same}

all-at : {X : Type 0} (P : X → Type 0) (done : List X) (x : X) (rest : List X)
    → AllByRecursion P (done ++ x ∷ rest) → P x
all-at P [] x rest h = h.0
all-at P (y ∷ done) x rest h = all-at P done x rest h.1

not-none : {X : Type 0} (o : Option X) → o ≡ None → IsSome o → ⊥
not-none None e h = cc
not-none (Some x) e h = cc

line-told : (t : FileContents) (file : Option (List ℕ)) (name : List ℕ) → file ≡ Some name
    → IfSome file (λ n. IsSome (t n)) → IsSome (t name)
line-told t None name e h = cc
line-told t (Some n) name e h = rw (some e) at h
  where
    some : {x y : List ℕ} → Some x ≡ Some y → x ≡ y
    some e = cc

line-unread : (t : FileContents) (sure : Type 0) (names : FileNames) (skipped name : List ℕ)
    (before now : Option (List ℕ)) → sure → AllFilesKnown t names → LineUnread t sure names skipped name before now → ⊥
line-unread t sure names skipped name before now surely all u =
    let s = u.stopped in
    let lines = recursion_from_All (IsLineFileKnown t u.start.schema) (script_lines u.script)
    (all.lines u.start u.script u.start_read u.script_read) in
    let line = all-at (IsLineFileKnown t u.start.schema) s.done s.line s.rest (rw s.split at lines) in
    not-none (t name) (s.untold surely)
    (line-told t (file_of u.start.schema s.line) name (file-same u.start.schema s.wrote.state.state.schema s.line
    ∙ s.names) line)

none-unread : (t : FileContents) (sure : Type 0) (names : FileNames) (skipped name : List ℕ)
    (before now : Option (List ℕ)) → sure → AllFilesKnown t names → Unread t sure names skipped name before now → ⊥
none-unread t sure names skipped name before now surely all (inl u)
    = not-none (t names.first) (rw u.is_first at (u.untold surely)) all.first
none-unread t sure names skipped name before now surely all (inr (inl u))
    = not-none (t names.script) (rw u.is_script at (u.untold surely)) all.script
none-unread t sure names skipped name before now surely all (inr (inr u))
    = line-unread t sure names skipped name before now surely all u

pub found-all : (told : Option FileContents) (names : FileNames) (sure rose ends : Type 0) (skipped : List ℕ)
    (before now err err2 : Option (List ℕ)) → sure
    → (ends → IfSome told (λ t. (name : List ℕ) × Unread t sure names skipped name before now
    × HasReported rose (CannotRead name) err err2))
    → IfSome told (λ t. AllFilesKnown t names → ends → ⊥)
found-all None names sure rose ends skipped before now err err2 surely h = tt
found-all (Some t) names sure rose ends skipped before now err err2 surely h = λ all is.
    let u = h is in
    none-unread t sure names skipped u.0 before now surely all u.1
