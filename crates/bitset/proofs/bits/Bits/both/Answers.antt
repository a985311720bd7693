use Rattle.bitset.proofs.Digits.{from_bits, bit_of_and}
use Rattle.bitset.proofs.bits.Bits.both.Goals as goal

pub returns : goal.returns
returns c = from_bits _ _ (λ i h. bit_of_and i c.args.self.word c.args.other.word)
