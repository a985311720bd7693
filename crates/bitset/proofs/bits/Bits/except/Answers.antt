use Rattle.std.proofs.Common.{ℕ, not, ap, ◌∙◌}
use Rattle.bitset.specs.Bits.{bit}
use Rattle.bitset.proofs.Digits.{from_bits, bit_turned}
use Rattle.bitset.proofs.bits.Bits.except.Goals as goal

pub returns : goal.returns
returns c = from_bits _ _ (λ i h. bit_turned 64 i c.from.result h c.from.type_inv ∙ ap (λ (m : ℕ). not (bit i m)) c.from.ensures)
