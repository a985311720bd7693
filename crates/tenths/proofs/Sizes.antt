-- The text of a size.
use Rattle.std.proofs.Common.{◌≡◌, ℕ, ◌+◌, ◌-◌, ◌/◌, ◌%◌, ◌^◌, ◌<◌, ◌≤◌, List, [], ◌∷◌, ◌++◌, length, get_or, take, decimal, sym, ap, ◌∙◌, ap₂, ⊎_elim, append_assoc, arith}
use Rattle.std.proofs.lemmas.Fmt.{decimal_nonempty, decimal_digit, first_decimal, decimal_injective}
use Rattle.std.proofs.lemmas.List.{same_from_push, get_or_append_left, take_all, take_more}
use Rattle.std.proofs.lemmas.Bool.{cases_lt}
use Rattle.tenths.specs.Text.{size_text}

-- equal texts have equal last bytes, and equal texts before them
pub same_last_two : (xs ys : List ℕ) (a b c d : ℕ) → xs ++ a ∷ b ∷ [] ≡ ys ++ c ∷ d ∷ [] → (xs ≡ ys) × (a ≡ c) × (b ≡ d)
same_last_two xs ys a b c d is =
    let last = same_from_push (xs ++ a ∷ []) (ys ++ c ∷ []) b d (append_assoc xs (a ∷ []) (b ∷ []) ∙ is ∙ sym (append_assoc ys (c ∷ []) (d ∷ []))) in
    let before = same_from_push xs ys a c last.0 in
    (before.0, before.1, last.1)

-- the text of a size has one size
pub same_size : (m n : ℕ) → m < 2 ^ 64 → n < 2 ^ 64 → size_text m ≡ size_text n → m ≡ n
same_size m n fits-m fits-n is =
    let parts = same_last_two (decimal (m / 10)) (decimal (n / 10)) 46 (48 + m % 10) 46 (48 + n % 10) is in
    let whole = decimal_injective (m / 10) (n / 10) (omega arith) (omega arith) parts.0 in
    omega (arith, whole, parts.2)

-- a decimal begins with a digit
first_digit : (n : ℕ) → n < 2 ^ 64 → 48 ≤ get_or (decimal n) 0 0
first_digit n fits =
    ⊎_elim
    (λ small. omega (arith, ap (λ (xs : List ℕ). get_or xs 0 0) (decimal_digit n small)))
    (λ large. omega (arith, first_decimal n (omega arith) fits))
    (cases_lt n 10)

-- so the text of a size begins with no minus
pub size_no_minus : (n : ℕ) → n < 2 ^ 64 → get_or (size_text n) 0 0 ≡ 45 → ⊥
size_no_minus n fits is =
    omega (arith, first_digit (n / 10) (omega arith), get_or_append_left (decimal (n / 10)) (46 ∷ (48 + n % 10) ∷ []) 0 0 (decimal_nonempty (n / 10) (omega arith)))

-- a text is what stands before its last two bytes, and these
pub last_two : (text : List ℕ) → 2 ≤ length text → text ≡ take (length text - 2) text ++ get_or text (length text - 2) 0 ∷ get_or text (length text - 1) 0 ∷ []
last_two text two =
    let k = length text - 2 in
    let all : length text ≡ k + 1 + 1 = omega arith in
    let last : k + 1 ≡ length text - 1 = omega arith in
    sym (take_all (k + 1 + 1) text (omega arith)) ∙ take_more text (k + 1) 0 (omega arith)
    ∙ ap₂ (λ (xs : List ℕ) (i : ℕ). xs ++ get_or text i 0 ∷ []) (take_more text k 0 (omega arith)) last
    ∙ append_assoc (take k text) (get_or text k 0 ∷ []) (get_or text (length text - 1) 0 ∷ [])

-- its last two bytes are a dot and a digit, after the whole part
pub size_parts : (text : List ℕ) (n : ℕ) → 2 ≤ length text → text ≡ size_text n
    → (take (length text - 2) text ≡ decimal (n / 10)) × (get_or text (length text - 2) 0 ≡ 46) × (get_or text (length text - 1) 0 ≡ 48 + n % 10)
size_parts text n two is = same_last_two (take (length text - 2) text) (decimal (n / 10)) _ _ 46 (48 + n % 10) (sym (last_two text two) ∙ is)
