-- A count of tenths as text, and what writing and reading it answer.
use Rattle.std.specs.Prelude.{◌≡◌, ℕ, suc, ◌+◌, ◌/◌, ◌%◌, ◌<◌, ◌≤◌, List, [], ◌∷◌, ◌++◌, length, take, drop, ℤ, pos, negsuc, Ok, Err, decimal, Result, FitsSigned, ◌≢◌}
use Rattle.std.specs.Int.{w32}
use Rattle.refusals.specs.declared.refusal.Refusal.{Refusal}
use Rattle.refusals.specs.declared.refusal.Refusal.TheVariants.{Short, NotTenths}

-- n tenths: the whole part, a dot, the tenths left over
abbrev pub size_text : ℕ → List ℕ
size_text n = decimal (n / 10) ++ (46 ∷ (48 + n % 10) ∷ [])

-- below zero a minus stands first
abbrev pub text_of : ℤ → List ℕ
text_of (pos n) = size_text n
text_of (negsuc n) = 45 ∷ size_text (suc n)

-- what writing a number answers: the length of its text, which takes the place of the first bytes; or, where there are fewer than 12,
-- a refusal that changes none
abbrev pub Writes : ℤ → List ℕ → List ℕ → Result ℕ Refusal → Type 0
Writes n before after (Ok k) = (12 ≤ length before) × (k ≡ length (text_of n)) × (after ≡ text_of n ++ drop k before)
Writes n before after (Err e) = (e ≡ Short) × (length before < 12) × (after ≡ before)

-- what reading a text answers: the number whose text it is, or a refusal where it is the text of none
abbrev pub Reads : List ℕ → Result ℤ Refusal → Type 0
Reads text (Ok n) = FitsSigned w32 n × (text ≡ text_of n)
Reads text (Err e) = (e ≡ NotTenths) × ((n : ℤ) → FitsSigned w32 n → text ≢ text_of n)

-- the text of a number is read as that number, and so are the bytes that writing it gives
abbrev pub ReadBack : Type 0
ReadBack =
    (n : ℤ) → FitsSigned w32 n → (r : Result ℤ Refusal)
    → (Reads (text_of n) r → r ≡ Ok n) × ((before after : List ℕ) (k : ℕ) → Writes n before after (Ok k) → Reads (take k after) r → r ≡ Ok n)

-- the number that a text is read as has that text, and writing it gives these bytes again
abbrev pub WriteBack : Type 0
WriteBack =
    (text : List ℕ) (n : ℤ) → Reads text (Ok n)
    → (text_of n ≡ text) × ((before after : List ℕ) (k : ℕ) → Writes n before after (Ok k) → take k after ≡ text)

-- reading and writing undo each other
abbrev pub Inverse : Type 0
Inverse = ReadBack × WriteBack
