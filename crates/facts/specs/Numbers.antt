-- The number that is known of a variable, as an option.
use Rattle.std.specs.Prelude.{◌≡◌, ℤ, Some, None, Option, FitsSigned}
use Rattle.std.specs.Int.{w32}
use Rattle.facts.specs.declared.constant.Constant.{Constant}
use Rattle.facts.specs.declared.constant.Constant.TheVariants.{Unknown, Number, Unfixed}

-- the number that is known, if one is
abbrev pub number_of : Constant → Option ℤ
number_of Unknown = None
number_of (Number c) = Some c
number_of Unfixed = None

-- a number that there may be is one of 32 bits
abbrev pub Fits32 : Option ℤ → Type 0
Fits32 o = (c : ℤ) → o ≡ Some c → FitsSigned w32 c
