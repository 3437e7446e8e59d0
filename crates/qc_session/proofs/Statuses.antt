-- Statuses, each of which is no other.
use Rattle.std.proofs.Common.{◌≡◌, ◌⊎◌, ℕ, Some, inl, inr, arith}
use Rattle.std.specs.Prelude.{◌↔◌, IsNone}
use Rattle.qc_session.specs.Forms.{Form}
use Rattle.qc_session.specs.Runs.{IsScriptStatus, IsStatus}

pub a-status : (s : ℕ) → IsScriptStatus s → IsStatus s
a-status s (inl h) = inl h
a-status s (inr h) = inr (inr h)

pub no-usage : (s : ℕ) → IsScriptStatus s → s ≡ 2 → ⊥
no-usage s (inl h) e = absurd (omega (arith, h, e))
no-usage s (inr (inl h)) e = absurd (omega (arith, h, e))
no-usage s (inr (inr (inl h))) e = absurd (omega (arith, h, e))
no-usage s (inr (inr (inr (inl h)))) e = absurd (omega (arith, h, e))
no-usage s (inr (inr (inr (inr h)))) e = absurd (omega (arith, h, e))

pub usage-only : (form : Form) (s : ℕ) → IsScriptStatus s → (s ≡ 2 ↔ IsNone (Some form))
usage-only form s known = (λ e. absurd (no-usage s known e), λ h. cc)

pub at-late : (s : ℕ) (P : Type 0) → (s ≡ 5 → P) → (s ≡ 6 → P) → (s ≡ 5) ⊎ (s ≡ 6) → P
at-late s P f g (inl h) = f h
at-late s P f g (inr h) = g h

-- the usage error's status is no other
pub usage-no_end : (s : ℕ) → s ≡ 2 → s ≡ 0 → ⊥
usage-no_end s is e = omega (arith, is, e)

pub usage-no_file : (s : ℕ) → s ≡ 2 → s ≡ 3 → ⊥
usage-no_file s is e = omega (arith, is, e)

pub usage-no_write : (s : ℕ) → s ≡ 2 → s ≡ 4 → ⊥
usage-no_write s is e = omega (arith, is, e)

pub usage-no_memory : (s : ℕ) → s ≡ 2 → s ≡ 5 → ⊥
usage-no_memory s is e = omega (arith, is, e)

pub usage-no_refusal : (s : ℕ) → s ≡ 2 → s ≡ 6 → ⊥
usage-no_refusal s is e = omega (arith, is, e)
