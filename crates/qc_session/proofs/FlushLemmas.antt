-- How bytes are handed on in turn.
use Rattle.std.proofs.Common.{◌≡◌, ◌∙◌, ℕ, List, [], ◌++◌, length, take, drop, refl, sym, ap, None, Some, append-nil, append_assoc}
use Rattle.std.specs.Prelude.{Option, Result, Ok, Err, OnErr}
use Rattle.std.proofs.Math.Seq.{take-append_seam}
use Rattle.std.proofs.lemmas.List.{take-append-drop}
use Rattle.qc_io.specs.Outside.{with_taken}
use Rattle.qc_io.proofs.CallerLemmas.{taking-taking}
use Rattle.qc_session.specs.Flushed.{IsFlushed, TookPrefix}

pub taking-nil : (taken : Option (List ℕ)) → taken ≡ with_taken [] taken
taking-nil None = refl
taking-nil (Some xs) = ap Some (sym (append-nil xs))

-- nothing is handed on
pub handed-none : (bytes : List ℕ) (before : Option (List ℕ)) → IsFlushed bytes bytes before before
handed-none bytes before = record { front = []; split = refl; took = taking-nil before }

pub handed-all : (bytes : List ℕ) (before now : Option (List ℕ)) → now ≡ with_taken bytes before
    → IsFlushed bytes [] before now
handed-all bytes before now is = record { front = bytes; split = sym (append-nil bytes); took = is }

pub handed-part : (n : ℕ) (bytes : List ℕ) (before now : Option (List ℕ)) → now ≡ with_taken (take n bytes) before
    → TookPrefix bytes before now
handed-part n bytes before now is
    = (drop n bytes, record { front = take n bytes; split = sym (take-append-drop n bytes); took = is })

-- bytes more, which are kept
pub handed-more : (bytes more kept : List ℕ) (before now : Option (List ℕ)) → IsFlushed bytes kept before now
    → IsFlushed (bytes ++ more) (kept ++ more) before now
handed-more bytes more kept before now h = record {
  front = h.front;
  split = ap (λ (xs : List ℕ). xs ++ more) h.split ∙ append_assoc h.front kept more;
  took = h.took;
}

-- what was kept is handed on
pub handed-then : (bytes kept rest : List ℕ) (first before now : Option (List ℕ)) → IsFlushed bytes kept first before
    → IsFlushed kept rest before now → IsFlushed bytes rest first now
handed-then bytes kept rest first before now h more = record {
  front = h.front ++ more.front;
  split = h.split ∙ ap (λ (xs : List ℕ). h.front ++ xs) more.split ∙ sym (append_assoc h.front more.front rest);
  took = more.took ∙ ap (with_taken more.front) h.took ∙ taking-taking h.front more.front first;
}

-- the same with bytes that came between
pub handed-on : (bytes more kept rest : List ℕ) (first before now : Option (List ℕ)) → IsFlushed bytes kept first before
    → IsFlushed (kept ++ more) rest before now → IsFlushed (bytes ++ more) rest first now
handed-on bytes more kept rest first before now h then
    = handed-then (bytes ++ more) (kept ++ more) rest first before now (handed-more bytes more kept first before h) then

pub prefix-more : (bytes more : List ℕ) (before now : Option (List ℕ)) → TookPrefix bytes before now
    → TookPrefix (bytes ++ more) before now
prefix-more bytes more before now (rest, h) = (rest ++ more, handed-more bytes more rest before now h)

pub prefix-then : (bytes kept : List ℕ) (first before now : Option (List ℕ)) → IsFlushed bytes kept first before
    → TookPrefix kept before now → TookPrefix bytes first now
prefix-then bytes kept first before now h (rest, more) = (rest, handed-then bytes kept rest first before now h more)

pub prefix-on : (bytes more kept : List ℕ) (first before now : Option (List ℕ)) → IsFlushed bytes kept first before
    → TookPrefix (kept ++ more) before now → TookPrefix (bytes ++ more) first now
prefix-on bytes more kept first before now h (rest, then)
    = (rest, handed-on bytes more kept rest first before now h then)

-- how many bytes were taken
pub taken-count : (bytes : List ℕ) (before now : Option (List ℕ)) → TookPrefix bytes before now → (count : ℕ)
    × (now ≡ with_taken (take count bytes) before)
taken-count bytes before now (rest, h)
    = (
      length h.front,
      h.took
          ∙ ap (λ (xs : List ℕ). with_taken xs before)
          (sym (ap (take (length h.front)) h.split ∙ take-append_seam h.front rest)),
    )

-- what holds at any end holds at an error
pub on_err : {T E P : Type 0} (r : Result T E) → P → OnErr r P
on_err (Ok x) p = tt
on_err (Err e) p = p
