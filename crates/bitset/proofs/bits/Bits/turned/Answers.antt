use Rattle.bitset.proofs.Digits.{from_bits, bit_turned}
use Rattle.bitset.proofs.bits.Bits.turned.Goals as goal

pub returns : goal.returns
returns c = from_bits _ _ (λ i h. bit_turned 64 i c.args.self.word h c.args.self.fits)
