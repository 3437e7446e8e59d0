-- Why a version isn't pinned, by what is found of the pins.
use Rattle.std.proofs.Common.{◌≡◌, ◌<◌, ◌≤◌, refl, sym, ap, ap₂, ◌∙◌, Bool, true, false, Option, Some, None, Ok, Err, List, cond, length}
use Rattle.std.proofs.Common.{ltb, map}
use Rattle.std.specs.Prelude.{is_some, option_copied, option_map}
use Rattle.std.specs.Borrow.{Bor}
use Rattle.std.specs.List.{find}
use Rattle.std.proofs.lemmas.List.{length-map}
use Rattle.std.proofs.lemmas.Bool.{le-ltb, lt-ltb}
use Rattle.cube_defs.specs.Text.{Text}
use Rattle.pinned_view.specs.Pins.{has_name, version_in}
use Rattle.pinned_view.specs.Refusals.{pin_refusal}
use Rattle.pinned_view.specs.Versions.{version_of}
use Rattle.pinned_view.specs.declared.pins.Pin.{Pin}
use Rattle.pinned_view.specs.declared.pins.TheConstants.{MAX_PINS}
use Rattle.pinned_view.specs.declared.refused.PinRefused.TheVariants.{NameTaken, AllPinned}
use Rattle.pinned_view.proofs.Staying.{find-map}

module _ (pins : List Pin) (name : Text) (r : Option (Bor Pin)) (e : option_copied r ≡ find (has_name name) pins) where
  some-map : (o : Option Pin) → is_some (option_map version_in o) ≡ is_some o
  some-map None = refl
  some-map (Some pin) = refl

  some-copied : (o : Option (Bor Pin)) → is_some (option_copied o) ≡ is_some o
  some-copied None = refl
  some-copied (Some pin) = refl

  pub found : is_some (version_of (map version_in pins) name) ≡ is_some r
  found = ap is_some (find-map pins name) ∙ some-map (find (has_name name) pins) ∙ ap is_some (sym e) ∙ some-copied r

  pub taken : is_some r ≡ true → Err NameTaken ≡ pin_refusal (map version_in pins) name
  taken h = sym (ap (λ (b : Bool). cond b (Err NameTaken)
      (cond (ltb (length (map version_in pins)) MAX_PINS) (Ok tt) (Err AllPinned))) (found ∙ h))

  pub full : is_some r ≡ false → MAX_PINS ≤ length pins → Err AllPinned ≡ pin_refusal (map version_in pins) name
  full h l = sym (ap₂ (λ (b d : Bool). cond b (Err NameTaken) (cond d (Ok tt) (Err AllPinned))) (found ∙ h)
      (ap (λ n. ltb n MAX_PINS) (length-map pins version_in) ∙ le-ltb _ _ l))

  pub free : is_some r ≡ false → length pins < MAX_PINS → Ok tt ≡ pin_refusal (map version_in pins) name
  free h l = sym (ap₂ (λ (b d : Bool). cond b (Err NameTaken) (cond d (Ok tt) (Err AllPinned))) (found ∙ h)
      (ap (λ n. ltb n MAX_PINS) (length-map pins version_in) ∙ lt-ltb _ _ l))

  -- no pin bears the name
  pub none_found : is_some r ≡ false → find (has_name name) pins ≡ None
  none_found h = by r e h
    where
      by : (o : Option (Bor Pin)) → option_copied o ≡ find (has_name name) pins → is_some o ≡ false
          → find (has_name name) pins ≡ None
      by None e h = sym e
      by (Some pin) e h = absurd cc

  pub missing : is_some r ≡ false → version_of (map version_in pins) name ≡ None
  missing h = find-map pins name ∙ ap (option_map version_in) (none_found h)
