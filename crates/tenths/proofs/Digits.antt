-- A decimal, digit by digit.
use Rattle.std.proofs.Common.{◌≡◌, ℕ, ◌+◌, ◌*◌, ◌/◌, ◌%◌, ◌^◌, ◌<◌, ◌≤◌, ◌⊎◌, List, [], ◌∷◌, ◌++◌, length, get_or, take, IfSome, Some, None, decimal, Option, sym, refl, ap, ◌∙◌, ap₂, inl, inr, ⊎_elim, arith}
use Rattle.std.proofs.lemmas.Fmt.{decimal_by_steps, decimal_digit, decimal_step, decimal_nonempty, decimal_injective}
use Rattle.std.proofs.lemmas.List.{same_from_push, take-append-le, take_all, take_more, length_push}
use Rattle.std.proofs.lemmas.Bool.{cases_lt}
use Rattle.tenths.specs.Scan.{largest_whole, Spelt, front}

-- the last digit of a decimal stands alone, or after the decimal of the tens
pub last_digit : (n : ℕ) (ds : List ℕ) (b : ℕ) → n < 2 ^ 64 → ds ++ b ∷ [] ≡ decimal n
    → ((n < 10) × (ds ≡ []) × (b ≡ 48 + n)) ⊎ ((10 ≤ n) × (ds ≡ decimal (n / 10)) × (b ≡ 48 + n % 10))
last_digit n ds b fits is =
    ⊎_elim
    (λ small. let ends = same_from_push ds [] b (48 + n) (is ∙ decimal_digit n small) in inl (small, ends.0, ends.1))
    (λ large. let ends = same_from_push ds (decimal (n / 10)) b (48 + n % 10) (is ∙ decimal_step n large fits) in inr (large, ends.0, ends.1))
    (cases_lt n 10)

-- and it is a digit
pub last_is_digit : (n : ℕ) (ds : List ℕ) (b : ℕ) → n < 2 ^ 64 → ds ++ b ∷ [] ≡ decimal n → ((d : ℕ) → d < 10 → b ≡ 48 + d → ⊥) → ⊥
last_is_digit n ds b fits is no_digit =
    ⊎_elim (λ one. no_digit n one.0 one.2) (λ more. no_digit (n % 10) (omega arith) more.2) (last_digit n ds b fits is)

-- a digit after a number other than 0 makes ten times it and the digit
pub digit_after : (tens d : ℕ) → 0 < tens → tens < 2 ^ 32 → d < 10 → decimal tens ++ (48 + d) ∷ [] ≡ decimal (tens * 10 + d)
digit_after tens d some fits small =
    sym
    (decimal_step (tens * 10 + d) (omega arith) (omega arith)
    ∙ ap₂ (λ (m k : ℕ). decimal m ++ (48 + k) ∷ []) (omega arith) (omega arith))

-- and no other number has it for its last digit: none goes on after a 0
pub digit_after_is : (tens d n : ℕ) → tens < 2 ^ 32 → d < 10 → n < 2 ^ 64 → decimal tens ++ (48 + d) ∷ [] ≡ decimal n → (0 < tens) × (n ≡ tens * 10 + d)
digit_after_is tens d n fits small fits-n is =
    ⊎_elim
    (λ one. absurd (omega (arith, decimal_nonempty tens (omega arith), ap length one.1)))
    (λ more.
    let same : tens ≡ n / 10 = decimal_injective tens (n / 10) (omega arith) (omega arith) more.1 in
    (omega (arith, more.0), omega (arith, more.2)))
    (last_digit n (decimal tens) (48 + d) fits-n is)

-- the first digits of ds, the decimal of n, are the decimal of a number that is no larger
abbrev Fronts : ℕ → List ℕ → Type 0
Fronts n ds = n < 2 ^ 64 → ds ≡ decimal n → (i : ℕ) → 0 < i → i ≤ length ds → (m : ℕ) × (m ≤ n) × (take i ds ≡ decimal m)

-- so it is for one digit
fronts_one : (n : ℕ) → n < 10 → Fronts n ((48 + n) ∷ [])
fronts_one n small fits is i some within = (n, omega arith, take_all i ((48 + n) ∷ []) (omega arith) ∙ is)

-- and for a digit more
fronts_more : (n : ℕ) (ds : List ℕ) → 10 ≤ n → Fronts (n / 10) ds → Fronts n (ds ++ (48 + n % 10) ∷ [])
fronts_more n ds large before fits is i some within =
    let b = 48 + n % 10 in
    ⊎_elim
    (λ (all : length ds < i). (n, omega arith, take_all i (ds ++ b ∷ []) (omega (arith, length_push ds b)) ∙ is))
    (λ (part : i ≤ length ds).
    let tens = same_from_push ds (decimal (n / 10)) b b (is ∙ decimal_step n large fits) in
    let front = before (omega arith) tens.0 i some part in
    (front.0, omega (arith, front.1), take-append-le i ds (b ∷ []) part ∙ front.2))
    (cases_lt (length ds) i)

-- so the first digits of a decimal are the decimal of a number that is no larger
decimal_front : (n : ℕ) → n < 2 ^ 64 → (i : ℕ) → 0 < i → i ≤ length (decimal n) → (m : ℕ) × (m ≤ n) × (take i (decimal n) ≡ decimal m)
decimal_front n fits = decimal_by_steps Fronts fronts_one fronts_more n fits fits refl

-- and so are the bytes up to a place, with the byte there
pub front_more : (ds : List ℕ) (n i : ℕ) → n < 2 ^ 64 → i < length ds → ds ≡ decimal n → (m : ℕ) × (m ≤ n) × (take i ds ++ get_or ds i 0 ∷ [] ≡ decimal m)
front_more ds n i fits within is =
    let front = decimal_front n fits (i + 1) (omega arith) (omega (arith, ap length is)) in
    (front.0, front.1, sym (take_more ds i 0 within) ∙ ap (take (i + 1)) is ∙ front.2)

-- where all the digits are read, they are the decimal of the number made, or there are none
pub front_all : (ds : List ℕ) (whole : Option ℕ) → IfSome whole (λ n. n ≤ largest_whole) → ds ≡ front whole → Spelt decimal largest_whole ds whole
front_all ds (Some n) small is = (small, is)
front_all ds None small is = λ n le other. omega (arith, decimal_nonempty n (omega arith), ap length (sym is ∙ other))
