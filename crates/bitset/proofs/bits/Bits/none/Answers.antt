use Rattle.bitset.proofs.Digits.{from_bits, bit_zero}
use Rattle.bitset.proofs.bits.Bits.none.Goals as goal

pub returns : goal.returns
returns c = from_bits _ _ (λ i h. bit_zero i)
