use Rattle.std.proofs.Common.{ℕ, List, ◌++◌, decimal, ◌∙◌, ap₂, arith, length-set}
use Rattle.std.proofs.lemmas.Fmt.{length-decimal-le, decimal_nonempty}
use Rattle.tenths.proofs.Places.{put_last_two}
use Rattle.tenths.proofs.writing.put_size.Goals as goal

pub write_digits-requires : goal.write_digits-requires
write_digits-requires c =
    let short = length-decimal-le 9 c.from.result (omega arith) (omega arith) (omega arith) in
    (omega (arith, short), simp length-set (omega arith))

pub returns : goal.returns
returns c =
    let whole = c.from.result in
    let digits = c.write_digits.ensures in
    let short = length-decimal-le 9 whole (omega arith) (omega arith) (omega arith) in
    let some = decimal_nonempty whole (omega arith) in (
      omega (arith, digits.start, short),
      omega (arith, digits.start, some),
      digits.written ∙ ap₂ (λ (n : ℕ) (xs : List ℕ). decimal n ++ xs) c.from.ensures (put_last_two c.args.text.now _ _ c.told-text),
    )
