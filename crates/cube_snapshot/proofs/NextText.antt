-- A text that is learnt as the next of its dimension.
use Rattle.std.proofs.Common.{◌≡◌, ◌<◌, ◌≤◌, ℕ, List, [], ◌∷◌, ◌++◌, false, cond, Option, Some, None, get_or, length, is_some, refl, sym}
use Rattle.std.proofs.Common.{ap, ap₂, subst, ◌∙◌, arith, length-append, true≢false}
use Rattle.std.specs.Prelude.{IsUtf8}
use Rattle.std.specs.List.{IsDistinct}
use Rattle.std.specs.Str.{bytes_eq}
use Rattle.std.specs.Cmp.Lexicographic.{bytes_decides}
use Rattle.std.proofs.lemmas.List.Elements.{All-nil, All-push}
use Rattle.std.proofs.lemmas.List.{get_or-set_same, get_or_append_left, get_or_at}
use Rattle.std.proofs.lemmas.List.Quantifiers.{position-Some}
use Rattle.std.proofs.lemmas.Map.Keys as keys
use Rattle.cube_defs.specs.Text.{Text}
use Rattle.csv_load.specs.Batch.{IsValue}
use Rattle.cube_defs.specs.declared.limits.TheConstants.{MAX_TEXT}
use Rattle.value_dict.specs.TextLists.{TextLists, code_in, learnt, learnt_in, list_at}
use Rattle.value_dict.proofs.CallerLemmas.{IsDistinct-push, same_bytes, code_pushed}
use Rattle.cube_snapshot.specs.Readers.{AreAllowed}

-- no texts are allowed
pub none_allowed : (max : ℕ) → AreAllowed max []
unfolding IsDistinct
none_allowed max = record { values = All-nil IsValue; distinct = tt; few = omega arith }

module _ (list : List Text) (text : Text) where
  -- a text that is known can't stand after them
  pub known_again : (max code : ℕ) → code_in list text ≡ Some code → (more : List Text)
      → AreAllowed max (list ++ text ∷ more) → ⊥
  known_again max code is more allowed =
      let at = position-Some (bytes_eq text) list code [] is in
      let lt : code < length list = at.0 in
      let here : get_or (list ++ text ∷ more) code [] ≡ get_or list code []
      = get_or_append_left list (text ∷ more) [] code lt in
      let there : get_or (list ++ text ∷ more) (length list) [] ≡ text
      = get_or_at list text more [] (length list) refl in
      let apart : bytes_eq (get_or (list ++ text ∷ more) code [])
      (get_or (list ++ text ∷ more) (length list) []) ≡ false
      = keys.apart_from_distinct bytes_eq (list ++ text ∷ more) code (length list) [] allowed.distinct lt
      (omega (arith, length-append list (text ∷ more))) in
      let same : text ≡ get_or list code [] = (bytes_decides text (get_or list code [])).0 at.1 in
      true≢false (sym (same_bytes text) ∙ ap (λ (t : Text). bytes_eq t text) same
      ∙ sym (ap₂ bytes_eq here there) ∙ apart)

  -- nor one where there are as many as there may be
  pub no_room : (max : ℕ) → length list ≡ max → (more : List Text) → AreAllowed max (list ++ text ∷ more) → ⊥
  no_room max full more allowed = absurd (omega (arith, allowed.few, length-append list (text ∷ more)))

  -- each is a value
  pub is_value : (max : ℕ) (more : List Text) → AreAllowed max (list ++ text ∷ more) → IsValue text
  is_value max more allowed
      = subst IsValue (get_or_at list text more [] (length list) refl)
      (allowed.values (length list) [] (omega (arith, length-append list (text ∷ more))))

  -- the place after them is that of a text that wasn't there
  pub was_new : (code : ℕ) → code_in (learnt_in list text) text ≡ Some code → code ≡ length list
      → code_in list text ≡ None
  was_new code is last = go (code_in list text) refl
    where
      go : (o : Option ℕ) → code_in list text ≡ o → code_in list text ≡ None
      go None e = e
      go (Some k) e =
          let known : code_in list text ≡ Some code
          = ap (λ (o : Option ℕ). code_in (cond (is_some o) list (list ++ text ∷ [])) text) (sym e) ∙ is in
          absurd (omega (arith, (position-Some (bytes_eq text) list code [] known).0))

  pub was_known : (code : ℕ) → code_in (learnt_in list text) text ≡ Some code → (code ≡ length list → ⊥) → (k : ℕ)
      × (code_in list text ≡ Some k)
  was_known code is other = go (code_in list text) refl
    where
      go : (o : Option ℕ) → code_in list text ≡ o → (k : ℕ) × (code_in list text ≡ Some k)
      go (Some k) e = (k, e)
      go None e =
          let last : Some code ≡ Some (length list)
          = sym is ∙ ap (λ (o : Option ℕ). code_in (cond (is_some o) list (list ++ text ∷ [])) text) e
          ∙ code_pushed list text e (same_bytes text) in
          absurd (other cc)

  pub learnt_new : code_in list text ≡ None → learnt_in list text ≡ list ++ text ∷ []
  learnt_new e = ap (λ (o : Option ℕ). cond (is_some o) list (list ++ text ∷ [])) e

  pub allowed_more : (max : ℕ) → AreAllowed max list → IsUtf8 text → length text ≤ MAX_TEXT → code_in list text ≡ None
      → length (list ++ text ∷ []) ≤ max → AreAllowed max (list ++ text ∷ [])
  allowed_more max allowed utf8 short new room = record {
    values = All-push IsValue list text allowed.values (record { utf8 = utf8; short = short });
    distinct = IsDistinct-push list text new allowed.distinct;
    few = room;
  }

-- the texts of a dimension after one is learnt there
pub learnt_list : (d d' : TextLists) (dim : ℕ) (value text : Text) → dim < length d.lists → d' ≡ learnt d dim value
    → value ≡ text → list_at d' dim ≡ learnt_in (list_at d dim) text
learnt_list d d' dim value text lt ok said =
    ap (λ (n : TextLists). list_at n dim) ok ∙ get_or-set_same d.lists dim (learnt_in (list_at d dim) value) [] lt
    ∙ ap (learnt_in (list_at d dim)) said

-- and the code of the text there
pub learnt_code : (d d' : TextLists) (dim : ℕ) (value text : Text) (code : ℕ) → dim < length d.lists
    → d' ≡ learnt d dim value → value ≡ text → code_in (list_at d' dim) value ≡ Some code
    → code_in (learnt_in (list_at d dim) text) text ≡ Some code
learnt_code d d' dim value text code lt ok said is
    = ap₂ code_in (sym (learnt_list d d' dim value text lt ok said)) (sym said) ∙ is
