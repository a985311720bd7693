use Rattle.bitset.proofs.Digits.{from_bits, bit_largest}
use Rattle.bitset.proofs.bits.Bits.every.Goals as goal

pub returns : goal.returns
returns c = from_bits _ _ bit_largest
