-- What keys' numbers are divided by: it is not zero, and no more than a value's denominator may be.
use Rattle.std.specs.Prelude.{ℕ, ◌*◌, ◌^◌, ◌<◌, ◌≤◌, min}
use Rattle.std.proofs.Math.Nat.{min-le_right, mul-le-mul, mul-pos, one-le-pow, pow-le-pow_right, zero-lt-suc}
use Rattle.aggregates.specs.Quotients.{IsDivisor, unit_of}
use Rattle.aggregates.specs.declared.kind.AggKind.{AggKind}
use Rattle.aggregates.specs.declared.kind.AggKind.TheVariants as kinds
use Rattle.cube_defs.specs.declared.limits.TheConstants.{MAX_SCALE}

ten : (scale : ℕ) → (0 < 10 ^ min scale MAX_SCALE) × (10 ^ min scale MAX_SCALE ≤ 10 ^ MAX_SCALE)
ten scale =
    let few = min-le_right scale MAX_SCALE in (
      one-le-pow (min scale MAX_SCALE) 10 (zero-lt-suc 9),
      pow-le-pow_right {n = 10} (zero-lt-suc 9) {i = min scale MAX_SCALE} {j = MAX_SCALE} few,
    )

pub some : (kind : AggKind) (scale : ℕ) → (0 < unit_of kind (min scale MAX_SCALE))
    × (unit_of kind (min scale MAX_SCALE) ≤ 10 ^ MAX_SCALE)
some kinds.Count scale = (zero-lt-suc 0, one-le-pow MAX_SCALE 10 (zero-lt-suc 9))
some (kinds.Sum m) scale = ten scale
some (kinds.Least m) scale = ten scale
some (kinds.Greatest m) scale = ten scale
some (kinds.Mean m) scale = ten scale

pub positive : (kind : AggKind) (scale den : ℕ) → IsDivisor den → 0 < den * unit_of kind (min scale MAX_SCALE)
positive kind scale den d = mul-pos d.positive (some kind scale).0

pub small : (kind : AggKind) (scale den : ℕ) → IsDivisor den → den * unit_of kind (min scale MAX_SCALE) ≤ 10 ^ 12
small kind scale den d = mul-le-mul d.few (some kind scale).1
