-- What a byte stands for.
use Rattle.std.proofs.Common.{◌≡◌, ℕ, ◌+◌, ◌<◌, refl, arith}
use Rattle.tenths.specs.Scan.{Stands}
use Rattle.tenths.specs.declared.reading.Mark.{Mark}
use Rattle.tenths.specs.declared.reading.Mark.TheVariants.{Minus, Dot, Digit, Other}

-- a byte that stands for no digit is none
pub no_digit : (b : ℕ) (m : Mark) → Stands b m → ((d : ℕ) → m ≡ Digit d → ⊥) → (d : ℕ) → d < 10 → b ≡ 48 + d → ⊥
no_digit b Minus stands not d small is = omega arith
no_digit b Dot stands not d small is = omega arith
no_digit b (Digit e) stands not d small is = not e refl
no_digit b Other stands not d small is = stands.2 d small is
