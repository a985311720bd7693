use Rattle.std.proofs.Common.{rules}
use lib.Bits.{or_lt}
use Rattle.bitset.proofs.Digits.{from_bits, bit_of_or}
use Rattle.bitset.proofs.bits.Bits.any.Goals as goal

pub invariant_of-result : goal.invariant_of-result
invariant_of-result c = search (rules, or_lt)

pub returns : goal.returns
returns c = from_bits _ _ (λ i h. bit_of_or i c.args.self.word c.args.other.word)
