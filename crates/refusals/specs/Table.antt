-- The table of refusals: the number of each, and the place that it names.
use Rattle.std.specs.Prelude.{ℕ}
use Rattle.refusals.specs.declared.refusal.Refusal.{Refusal}
use Rattle.refusals.specs.declared.refusal.Refusal.TheVariants.{Missing, Operand, Branches, Outside, Repeated, NotStep, Full, NoEnds, Unreached, Stranded, TooManyExpressions, Short, NotTenths}

abbrev pub number_of : Refusal → ℕ
number_of Missing = 1
number_of Operand = 2
number_of Branches = 3
number_of Outside = 4
number_of Repeated = 5
number_of NotStep = 6
number_of Full = 7
number_of (NoEnds r) = 8
number_of (Unreached n) = 9
number_of (Stranded n) = 10
number_of (TooManyExpressions n) = 11
number_of Short = 12
number_of NotTenths = 13

-- the region of 8, the node of 9 to 11, else 0
abbrev pub place_of : Refusal → ℕ
place_of Missing = 0
place_of Operand = 0
place_of Branches = 0
place_of Outside = 0
place_of Repeated = 0
place_of NotStep = 0
place_of Full = 0
place_of (NoEnds r) = r
place_of (Unreached n) = n
place_of (Stranded n) = n
place_of (TooManyExpressions n) = n
place_of Short = 0
place_of NotTenths = 0
