-- The bits of numbers: of sums of digits, of `&`, `|` and the complement, and that numbers with equal bits are equal.
use Rattle.std.proofs.Common.{◌≡◌, ℕ, zero, suc, ◌+◌, ◌-◌, ◌*◌, ◌/◌, ◌%◌, ◌^◌, ◌<◌, ◌≤◌, min, max, Bool, true, false, cond, not, ◌&&◌, ◌||◌, eqb, sym, refl, ap, ◌∙◌, pow-suc, arith}
use mathlib.Core.Bool.{and-true}
use mathlib.Core.HLevel.{is_prop→PathP}
use native.Mathlib.Bridge.{le_prop}
use lib.Bits.{bit_and, bit_or, and_step, or_step}
use Rattle.std.proofs.lemmas.Nat.{shr-shr, one_shl}
use Rattle.std.proofs.lemmas.Bool.{ne_eqb}
use Rattle.std.proofs.lemmas.Bool.Decides.{nat_tests}
use Rattle.bitset.specs.declared.bits.Bits.{Bits}
use Rattle.bitset.specs.Bits.{bit, number_from, below_two, bits_from}

-- ---- the lowest digit, as a test

low_and : (x y : ℕ) → x < 2 → y < 2 → eqb (min x y) 1 ≡ (eqb x 1 && eqb y 1)
low_and x y p q = grind (arith, nat_tests)

low_or : (x y : ℕ) → x < 2 → y < 2 → eqb (max x y) 1 ≡ (eqb x 1 || eqb y 1)
low_or x y p q = grind (arith, nat_tests)

low_not : (x : ℕ) → x < 2 → eqb (1 - x) 1 ≡ not (eqb x 1)
low_not x p = grind (arith, nat_tests)

low_cond : (b : Bool) → eqb (cond b 1 0) 1 ≡ b
low_cond true = refl
low_cond false = refl

same_low : (x y : ℕ) → x < 2 → y < 2 → eqb x 1 ≡ eqb y 1 → x ≡ y
same_low x y p q e = grind (arith, nat_tests)

-- ---- operations

pub bit_of_and : (i a b : ℕ) → bit i (bit_and a b) ≡ (bit i a && bit i b)
unfolding bit
bit_of_and zero a b =
    let low : bit_and a b % 2 ≡ min (a % 2) (b % 2) = omega (arith, and_step a b) in
    ap (λ (n : ℕ). eqb n 1) low ∙ low_and (a % 2) (b % 2) (omega arith) (omega arith)
bit_of_and (suc i) a b =
    let half : bit_and a b / 2 ≡ bit_and (a / 2) (b / 2) = omega (arith, and_step a b) in
    ap (bit i) half ∙ bit_of_and i (a / 2) (b / 2)

pub bit_of_or : (i a b : ℕ) → bit i (bit_or a b) ≡ (bit i a || bit i b)
unfolding bit
bit_of_or zero a b =
    let low : bit_or a b % 2 ≡ max (a % 2) (b % 2) = omega (arith, or_step a b) in
    ap (λ (n : ℕ). eqb n 1) low ∙ low_or (a % 2) (b % 2) (omega arith) (omega arith)
bit_of_or (suc i) a b =
    let half : bit_or a b / 2 ≡ bit_or (a / 2) (b / 2) = omega (arith, or_step a b) in
    ap (bit i) half ∙ bit_of_or i (a / 2) (b / 2)

-- the complement of a number of k digits
pub bit_turned : (k i a : ℕ) → i < k → a < 2 ^ k → bit i (2 ^ k - 1 - a) ≡ not (bit i a)
unfolding bit
bit_turned zero i a h p = absurd (omega arith)
bit_turned (suc k) zero a h p =
    let low : (2 ^ suc k - 1 - a) % 2 ≡ 1 - a % 2 = omega (arith, pow-suc 2 k) in
    ap (λ (n : ℕ). eqb n 1) low ∙ low_not (a % 2) (omega arith)
bit_turned (suc k) (suc i) a h p =
    let half : (2 ^ suc k - 1 - a) / 2 ≡ 2 ^ k - 1 - a / 2 = omega (arith, pow-suc 2 k) in
    ap (bit i) half ∙ bit_turned k i (a / 2) (omega arith) (omega (arith, pow-suc 2 k))

pub bit_zero : (i : ℕ) → bit i 0 ≡ false
unfolding bit
bit_zero zero = refl
bit_zero (suc i) = bit_zero i

-- a power of two has one bit
bit_power : (k i : ℕ) → bit i (2 ^ k) ≡ eqb i k
unfolding bit
bit_power zero zero = refl
bit_power zero (suc i) = bit_zero i ∙ sym (ne_eqb (suc i) 0 (λ e. omega arith))
bit_power (suc k) zero =
    let low : 2 ^ suc k % 2 ≡ 0 = omega (arith, pow-suc 2 k) in
    ap (λ (n : ℕ). eqb n 1) low ∙ sym (ne_eqb 0 (suc k) (λ e. omega arith))
bit_power (suc k) (suc i) =
    let half : 2 ^ suc k / 2 ≡ 2 ^ k = omega (arith, pow-suc 2 k) in
    ap (bit i) half ∙ bit_power k i ∙ grind (arith, nat_tests)

-- past its digits a number has no bit
pub bit_past : (k i a : ℕ) → k ≤ i → a < 2 ^ k → bit i a ≡ false
unfolding bit
bit_past zero i a h p = let none : a ≡ 0 = omega arith in ap (bit i) none ∙ bit_zero i
bit_past (suc k) zero a h p = absurd (omega arith)
bit_past (suc k) (suc i) a h p = bit_past k i (a / 2) (omega arith) (omega (arith, pow-suc 2 k))

-- the bit at i is the lowest once i digits are shifted out
pub bit_shifted : (i a : ℕ) → bit i a ≡ eqb (a / 2 ^ i % 2) 1
unfolding bit
bit_shifted zero a = let whole : a ≡ a / 1 = omega arith in ap (λ (n : ℕ). eqb (n % 2) 1) whole
bit_shifted (suc i) a = bit_shifted i (a / 2) ∙ ap (λ (n : ℕ). eqb (n % 2) 1) (shr-shr a 1 i ∙ ap (λ (n : ℕ). a / 2 ^ n) (omega arith))

-- ---- numbers from bits

bit_number : (k i : ℕ) (f : ℕ → Bool) → i < k → bit i (number_from k f) ≡ f i
unfolding bit number_from
bit_number zero i f h = absurd (omega arith)
bit_number (suc k) zero f h =
    let low : (cond (f 0) 1 0 + 2 * number_from k (λ i. f (suc i))) % 2 ≡ cond (f 0) 1 0 = omega (arith, below_two (f 0)) in
    ap (λ (n : ℕ). eqb n 1) low ∙ low_cond (f 0)
bit_number (suc k) (suc i) f h =
    let half : (cond (f 0) 1 0 + 2 * number_from k (λ i. f (suc i))) / 2 ≡ number_from k (λ i. f (suc i)) = omega (arith, below_two (f 0)) in
    ap (bit i) half ∙ bit_number k i (λ i. f (suc i)) (omega arith)

-- two numbers of k digits are equal where their bits are
same_numbers : (k a b : ℕ) → a < 2 ^ k → b < 2 ^ k → ((i : ℕ) → i < k → bit i a ≡ bit i b) → a ≡ b
unfolding bit
same_numbers zero a b p q e = omega arith
same_numbers (suc k) a b p q e =
    let high : a / 2 ≡ b / 2 = same_numbers k (a / 2) (b / 2) (omega (arith, pow-suc 2 k)) (omega (arith, pow-suc 2 k)) (λ i h. e (suc i) (omega arith)) in
    let low : a % 2 ≡ b % 2 = same_low (a % 2) (b % 2) (omega arith) (omega arith) (e 0 (omega arith)) in
    omega arith

-- ---- words

-- a word is known by its number
pub same_word : (x y : Bits) → x.word ≡ y.word → x ≡ y
same_word x y e = λ i. record { word = e i; fits = is_prop→PathP (λ i. e i < 2 ^ 64) (λ i. le_prop) x.fits y.fits i }

-- a word is told by its bits
pub same_bits : (x y : Bits) → ((i : ℕ) → i < 64 → bit i x.word ≡ bit i y.word) → x ≡ y
same_bits x y e = same_word x y (same_numbers 64 x.word y.word x.fits y.fits e)

pub bit_from : (f : ℕ → Bool) (i : ℕ) → i < 64 → bit i (bits_from f).word ≡ f i
unfolding bits_from
bit_from f i h = bit_number 64 i f h

-- a word is made from its bits
pub from_bits : (x : Bits) (f : ℕ → Bool) → ((i : ℕ) → i < 64 → bit i x.word ≡ f i) → x ≡ bits_from f
from_bits x f e = same_bits x (bits_from f) (λ i h. e i h ∙ sym (bit_from f i h))

-- ---- one bit

-- past the 64 places, a bit that is left out changes nothing
pub left_out_past : (x : Bits) (k : ℕ) → 64 ≤ k → x ≡ bits_from (λ i. bit i x.word && not (eqb i k))
left_out_past x k h = from_bits x _ (λ i l. sym (ap (λ (b : Bool). bit i x.word && not b) (ne_eqb i k (λ e. omega arith)) ∙ and-true (bit i x.word)))

-- the number of `x & !(1 << k)`
pub bit_left_out : (x : Bits) (k i : ℕ) → k < 64 → i < 64 → bit i (bit_and x.word (2 ^ 64 - 1 - 1 * 2 ^ k % 2 ^ 64)) ≡ (bit i x.word && not (eqb i k))
bit_left_out x k i h l =
    let one : 1 * 2 ^ k % 2 ^ 64 ≡ 2 ^ k = one_shl k 64 h in
    bit_of_and i x.word (2 ^ 64 - 1 - 1 * 2 ^ k % 2 ^ 64)
    ∙ ap (λ (b : Bool). bit i x.word && b) (bit_turned 64 i (1 * 2 ^ k % 2 ^ 64) l (omega arith) ∙ ap (λ (n : ℕ). not (bit i n)) one ∙ ap not (bit_power k i))

-- every bit of the largest word is 1
pub bit_largest : (i : ℕ) → i < 64 → bit i (2 ^ 64 - 1) ≡ true
bit_largest i h = bit_turned 64 i 0 h (omega arith) ∙ ap not (bit_zero i)
