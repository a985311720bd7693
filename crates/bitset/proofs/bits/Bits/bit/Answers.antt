use Rattle.std.proofs.Common.{ℕ, ◌/◌, ◌^◌, eqb, sym, ap, ◌∙◌}
use Rattle.std.proofs.lemmas.Nat.{and_mask}
use Rattle.std.proofs.lemmas.Bool.{le-ltb}
use Rattle.bitset.proofs.Digits.{bit_shifted, bit_past}
use Rattle.bitset.proofs.bits.Bits.bit.Goals as goal

pub returns-then-place-lt64 : goal.returns-then-place-lt64
returns-then-place-lt64 c =
    ap (λ (n : ℕ). eqb n 1) (and_mask (c.args.self.word / 2 ^ c.args.place) 1) ∙ sym (bit_shifted c.args.place c.args.self.word)

pub returns-else-place-lt64 : goal.returns-else-place-lt64
returns-else-place-lt64 c =
    le-ltb c.args.place 64 c.if-place-lt64.false ∙ sym (bit_past 64 c.args.place c.args.self.word c.if-place-lt64.false c.args.self.fits)
