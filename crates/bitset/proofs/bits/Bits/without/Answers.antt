use Rattle.bitset.proofs.Digits.{from_bits, left_out_past, bit_left_out}
use Rattle.bitset.proofs.bits.Bits.without.Goals as goal

pub returns-then-place-ge64 : goal.returns-then-place-ge64
returns-then-place-ge64 c = left_out_past c.args.self c.args.place c.if-place-ge64.true

pub returns : goal.returns
returns c = from_bits _ _ (λ i h. bit_left_out c.args.self c.args.place i c.if-place-ge64.false h)
