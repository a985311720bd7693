-- Words of bits.
--   bit i n      whether bit i of the number n is 1, counted from the lowest
--   is_set i x   whether bit i of the word x is 1
--   ones x       how many bits of the word x are 1
--   bits_from f  the word whose bit i is f i, for each of its 64 places
--   every, none  the words of ones and of zeros
--   both, any    the bits that are 1 in both of two words, and in one of them
--   turned       every bit turned over
--   without k    the word with bit k made 0
use Rattle.std.specs.Prelude.{ℕ, zero, suc, ◌+◌, ◌*◌, ◌/◌, ◌%◌, ◌^◌, ◌<◌, Bool, true, false, cond, not, ◌&&◌, ◌||◌, ◌==◌, count_ones}
use Rattle.std.proofs.Common.{pow-suc, arith}
use Rattle.bitset.specs.declared.bits.Bits.{Bits}

unfoldable pub bit : ℕ → ℕ → Bool
bit zero n = n % 2 == 1
bit (suc i) n = bit i (n / 2)

abbrev pub is_set : ℕ → Bits → Bool
is_set i x = bit i x.word

abbrev pub ones : Bits → ℕ
ones x = count_ones x.word

-- the number whose lowest k bits are f 0, f 1 and so on, and whose other bits are 0
unfoldable pub number_from : ℕ → (ℕ → Bool) → ℕ
number_from zero f = 0
number_from (suc k) f = cond (f 0) 1 0 + 2 * number_from k (λ i. f (suc i))

-- so many bits make a number below that power of two
pub below_two : (b : Bool) → cond b 1 0 < 2
below_two true = omega arith
below_two false = omega arith

pub number_lt : (k : ℕ) (f : ℕ → Bool) → number_from k f < 2 ^ k
unfolding number_from
number_lt zero f = omega arith
number_lt (suc k) f = omega (arith, number_lt k (λ i. f (suc i)), below_two (f 0), pow-suc 2 k)

unfoldable pub bits_from : (ℕ → Bool) → Bits
bits_from f = record { word = number_from 64 f; fits = number_lt 64 f }

abbrev pub every : Bits
every = bits_from (λ i. true)

abbrev pub none : Bits
none = bits_from (λ i. false)

abbrev pub both : Bits → Bits → Bits
both x y = bits_from (λ i. is_set i x && is_set i y)

abbrev pub any : Bits → Bits → Bits
any x y = bits_from (λ i. is_set i x || is_set i y)

abbrev pub turned : Bits → Bits
turned x = bits_from (λ i. not (is_set i x))

abbrev pub without : ℕ → Bits → Bits
without k x = bits_from (λ i. is_set i x && not (i == k))
