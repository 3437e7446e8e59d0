-- How the reading of a file ends, by the file that is told.
use Rattle.std.proofs.Common.{◌≡◌, ◌∙◌, ◌≤◌, ◌<◌, ◌+◌, ◌++◌, ℕ, List, Some, None, append-nil, ap, arith, drop, false, is_some, length, refl}
use Rattle.std.proofs.Common.{subst, sym, take, take-append-drop}
use Rattle.std.specs.Prelude.{Err, IfSome, IsErrOf, IsSomeAnd, Ok, Option, ◌↔◌}
use Rattle.qc_io.specs.Outside.{Cursor, ReadsPrefix, Rose, FileContents, bytes_left}
use Rattle.qc_io.specs.declared.whole.ReadRefused.{ReadRefused}
use Rattle.qc_io.specs.declared.whole.ReadRefused.TheVariants as refused
use Rattle.qc_io.proofs.Reading.{HasRead}

-- an answer is no refusal, and a refusal is no other
pub ok-is-no-refusal : {T : Type 0} (x : T) (e : ReadRefused) → IsErrOf (Ok x) e → ⊥
ok-is-no-refusal x e q = cc q

pub failed-is-not-long : {T : Type 0} → IsErrOf {T = T} (Err refused.Failed) refused.TooLong → ⊥
failed-is-not-long q = cc q

pub memory-is-not-failed : {T : Type 0} → IsErrOf {T = T} (Err refused.Memory) refused.Failed → ⊥
memory-is-not-failed q = cc q

pub memory-is-not-long : {T : Type 0} → IsErrOf {T = T} (Err refused.Memory) refused.TooLong → ⊥
memory-is-not-long q = cc q

pub long-is-not-failed : {T : Type 0} → IsErrOf {T = T} (Err refused.TooLong) refused.Failed → ⊥
long-is-not-failed q = cc q

-- a count that rises later rises
pub rises-later : (before now after : ℕ) → before ≤ now → Rose now after → Rose before after
rises-later before now after le rose = omega arith

-- a file that couldn't be opened isn't there
pub unopened : (told : Option FileContents) (name : List ℕ) (Failed : Type 0) → Failed
    → IfSome told (λ t. false ≡ is_some (t name)) → IfSome told (λ t. Failed ↔ (t name ≡ None))
unopened None name Failed failed h = tt
unopened (Some t) name Failed failed h = (λ _. none (t name) h, λ _. failed)
  where
    none : (o : Option (List ℕ)) → false ≡ is_some o → o ≡ None
    none None e = refl
    none (Some x) e = absurd (cc e)

module _ (told before : Option FileContents) (cursor : Option Cursor) (name bytes : List ℕ) (same : told ≡ before)
    (read : HasRead told cursor name bytes) where
  -- a file that is read is there
  pub opened : (Failed : Type 0) → (Failed → ⊥) → IfSome before (λ t. Failed ↔ (t name ≡ None))
  opened Failed fine = subst (λ o. IfSome o (λ t. Failed ↔ (t name ≡ None))) same (by told read)
    where
      by : (o : Option FileContents) → HasRead o cursor name bytes → IfSome o (λ t. Failed ↔ (t name ≡ None))
      by None h = tt
      by (Some t) h = (
        λ failed. absurd (fine failed),
        λ none. let clash : Some h.whole ≡ None
            = sym h.is_whole ∙ none in absurd (cc clash),
      )

  -- at its end all of it is read
  pub read-whole : (n : ℕ) (buf : List ℕ) → IfSome cursor (λ c. ReadsPrefix (bytes_left c) n buf) → n ≡ 0
      → IfSome before (λ t. t name ≡ Some bytes)
  read-whole n buf gives zero = subst (λ o. IfSome o (λ t. t name ≡ Some bytes)) same (by told read)
    where
      by : (o : Option FileContents) → HasRead o cursor name bytes → IfSome o (λ t. t name ≡ Some bytes)
      by None h = tt
      by (Some t) h =
          let g : ReadsPrefix (drop (length bytes) h.whole) n buf = rw h.place at gives in
          let front : List ℕ = take (length bytes) h.whole in
          let whole : bytes ≡ h.whole = h.front ∙ sym (append-nil front)
          ∙ ap (λ (more : List ℕ). front ++ more) (sym (g.at_end zero)) ∙ take-append-drop (length bytes) h.whole in
          h.is_whole ∙ ap (λ (x : List ℕ). Some x) (sym whole)

  -- more was read than the limit
  pub read-longer : (limit : ℕ) → limit < length bytes
      → IfSome before (λ t. IsSomeAnd (t name) (λ whole. limit < length whole))
  read-longer limit lt = subst (λ o. IfSome o (λ t. IsSomeAnd (t name) (λ whole. limit < length whole))) same
      (by told read)
    where
      by : (o : Option FileContents) → HasRead o cursor name bytes
          → IfSome o (λ t. IsSomeAnd (t name) (λ whole. limit < length whole))
      by None h = tt
      by (Some t) h = rw h.is_whole (omega (arith, h.within, lt))

  -- and no more than a byte past it
  pub read-to : (limit : ℕ) → length bytes ≡ limit + 1
      → IfSome before (λ t. IfSome (t name) (λ whole. cursor ≡ Some (whole, limit + 1)))
  read-to limit len = subst (λ o. IfSome o (λ t. IfSome (t name) (λ whole. cursor ≡ Some (whole, limit + 1)))) same
      (by told read)
    where
      by : (o : Option FileContents) → HasRead o cursor name bytes
          → IfSome o (λ t. IfSome (t name) (λ whole. cursor ≡ Some (whole, limit + 1)))
      by None h = tt
      by (Some t) h = rw h.is_whole (h.place ∙ ap (λ (k : ℕ). Some (h.whole, k)) len)
