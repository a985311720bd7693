use Rattle.std.proofs.Common.{◌≡◌, ℕ, ◌∷◌, pos, neg_ℤ, sym, ap, ◌∙◌, arith}
use Rattle.std.proofs.lemmas.Int.{ints}
use Rattle.tenths.specs.Text.{size_text}
use Rattle.tenths.proofs.Signs.{minus_size, minus_zero, named_if_fits}
use Rattle.tenths.proofs.reading.below_zero.Goals as goal

pub returns-then-zero : goal.returns-then-zero
returns-then-zero c n fits is =
    let none : c.args.size ≡ 0 = omega arith in
    minus_zero n fits (sym (ap (λ (k : ℕ). 45 ∷ size_text k) none) ∙ is)

pub returns : goal.returns
returns c =
    let size = c.args.size in
    let below = minus_size size (λ none. omega arith) (omega arith) in
    rw c.ok.ensures.value (named_if_fits _ (neg_ℤ (pos size)) _ c.try_from.result below.1 below.0 (omega (arith, ints)) c.try_from.ensures)
