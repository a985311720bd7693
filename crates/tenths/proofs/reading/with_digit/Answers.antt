use Rattle.std.proofs.Common.{ℕ, ◌+◌, ◌*◌, ◌≤◌, [], ◌∷◌, ◌++◌, decimal, Option, sym, ap, ◌∙◌, ⊎_elim, arith}
use Rattle.std.proofs.lemmas.Fmt.{decimal_digit}
use Rattle.std.proofs.lemmas.Option.{MatchOption-at_some}
use Rattle.tenths.specs.Scan.{largest_whole, front}
use Rattle.tenths.proofs.Digits.{digit_after, digit_after_is}
use Rattle.tenths.proofs.reading.with_digit.Goals as goal

pub returns-in_default : goal.returns-in_default
returns-in_default c =
    let d = c.args.digit in (
      omega arith,
      ap (λ (o : Option ℕ). front o ++ (48 + d) ∷ []) c.in_default.is ∙ sym (decimal_digit d c.requires.0) ∙ ap decimal (sym c.from-units.ensures),
    )

pub returns-then-next-gt-WHOLE_MAX : goal.returns-then-next-gt-WHOLE_MAX
returns-then-next-gt-WHOLE_MAX c n le is =
    let d = c.args.digit in
    let tens = c.in-Some.tens in
    let small : tens ≤ largest_whole = MatchOption-at_some _ _ tens c.in-Some.is c.requires.1 in
    let got = digit_after_is tens d n (omega arith) c.requires.0 (omega arith) (sym (ap (λ (o : Option ℕ). front o ++ (48 + d) ∷ []) c.in-Some.is) ∙ is) in
    ⊎_elim (λ zero. omega (arith, got.0)) (λ large. omega (arith, got.1, large.1)) c.if-next-gt-WHOLE_MAX.either

pub returns-else-next-gt-WHOLE_MAX : goal.returns-else-next-gt-WHOLE_MAX
returns-else-next-gt-WHOLE_MAX c =
    let d = c.args.digit in
    let tens = c.in-Some.tens in
    let small : tens ≤ largest_whole = MatchOption-at_some _ _ tens c.in-Some.is c.requires.1 in (
      omega arith,
      ap (λ (o : Option ℕ). front o ++ (48 + d) ∷ []) c.in-Some.is ∙ digit_after tens d (omega arith) (omega arith) c.requires.0
          ∙ ap (λ (k : ℕ). decimal (tens * 10 + k)) (sym c.from-units.ensures),
    )
