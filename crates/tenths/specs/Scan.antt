-- What the steps of reading find in a text.
use Rattle.std.specs.Prelude.{◌≡◌, ℕ, ◌+◌, ◌<◌, ◌≤◌, List, [], ℤ, Some, None, decimal, Option, FitsSigned, ◌≢◌}
use Rattle.std.specs.Int.{w32}
use Rattle.tenths.specs.declared.reading.Mark.{Mark}
use Rattle.tenths.specs.declared.reading.Mark.TheVariants.{Minus, Dot, Digit, Other}
use Rattle.tenths.specs.Text.{text_of}

-- what a byte stands for
abbrev pub Stands : ℕ → Mark → Type 0
Stands b Minus = b ≡ 45
Stands b Dot = b ≡ 46
Stands b (Digit d) = (d < 10) × (b ≡ 48 + d)
Stands b Other = (b ≢ 45) × (b ≢ 46) × ((d : ℕ) → d < 10 → b ≢ 48 + d)

-- the largest whole part, and the largest size that has it
abbrev pub largest_whole : ℕ
largest_whole = 214748364

abbrev pub largest_size : ℕ
largest_size = 2147483649

-- the number, at most the given one, whose spelling a text is, or none where there is no such number
abbrev pub Spelt : (ℕ → List ℕ) → ℕ → List ℕ → Option ℕ → Type 0
Spelt spell most text (Some n) = (n ≤ most) × (text ≡ spell n)
Spelt spell most text None = (n : ℕ) → n ≤ most → text ≢ spell n

-- the number whose text this is, or none where it is the text of no number
abbrev pub Named : List ℕ → Option ℤ → Type 0
Named text (Some n) = FitsSigned w32 n × (text ≡ text_of n)
Named text None = (n : ℤ) → FitsSigned w32 n → text ≢ text_of n

-- the digits read so far, of the number that they make
abbrev pub front : Option ℕ → List ℕ
front None = []
front (Some n) = decimal n
