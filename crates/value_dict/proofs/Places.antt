-- Texts and their places: the place of a text tells it apart from the other texts of its dimension.
use Rattle.std.proofs.Common.{◌≡◌, ◌<◌, ◌∙◌, Bool, true, false, List, [], ◌∷◌, length, get_or, refl, sym, ap, arith}
use Rattle.std.specs.List.{list_any, position_or_len}
use Rattle.std.specs.Str.{bytes_eq}
use Rattle.std.specs.Cmp.Lexicographic.{bytes_decides}
use Rattle.std.proofs.lemmas.List.Sums.{passes_at_first}
use Rattle.std.proofs.lemmas.Map.Text.{is_eq-slice_cmp}
use Rattle.cube_defs.specs.Text.{Text, text_eq}
use Rattle.cube_laws.specs.Recoding.{TellsApart}
use Rattle.cube_laws.proofs.CallerLemmas.{IsEquality}
use Rattle.value_dict.specs.Decoded.{has_text, place_in}

pub text_equality : IsEquality text_eq
text_equality = record {
  exact = λ v w h. (bytes_decides v w).0 (sym (is_eq-slice_cmp v w) ∙ h);
  same = λ v. is_eq-slice_cmp v v ∙ (bytes_decides v v).1 refl;
}

pub any-within : {X : Type 0} (p : X → Bool) (xs : List X) → list_any p xs ≡ true → position_or_len p xs < length xs
any-within p [] h = cc
any-within p (x ∷ xs) h = go (p x) refl (any-within p xs)
  where
    go : (b : Bool) → p x ≡ b → (list_any p xs ≡ true → position_or_len p xs < length xs)
        → position_or_len p (x ∷ xs) < length (x ∷ xs)
    go true e more = rw e (omega arith)
    go false e more = rw e (omega (arith, more (rw e at h)))

pub within-any : {X : Type 0} (p : X → Bool) (xs : List X) → position_or_len p xs < length xs → list_any p xs ≡ true
within-any p [] h = absurd (omega arith)
within-any p (x ∷ xs) h = go (p x) refl (within-any p xs)
  where
    go : (b : Bool) → p x ≡ b → (position_or_len p xs < length xs → list_any p xs ≡ true) → list_any p (x ∷ xs) ≡ true
    go true e more = rw e refl
    go false e more = let h2 = rw e at h in rw e (more (omega (arith, h2)))

-- a text that is there stands at its place
pub text-at : (text : Text) (texts : List Text) → list_any (bytes_eq text) texts ≡ true
    → text ≡ get_or texts (position_or_len (bytes_eq text) texts) []
text-at text texts h = (bytes_decides text _).0
    (passes_at_first (bytes_eq text) texts [] (any-within (bytes_eq text) texts h))

pub places-apart : (texts : List (List Text)) → TellsApart (has_text texts) (place_in texts)
places-apart texts = record {
  apart = λ i v w hv hw e.
      text-at v (get_or texts i []) hv
      ∙ ap (λ n. get_or (get_or texts i []) n []) e
      ∙ sym (text-at w (get_or texts i []) hw);
}
