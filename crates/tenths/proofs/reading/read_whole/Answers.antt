use Rattle.std.proofs.Common.{ℕ, List, [], ◌∷◌, ◌++◌, get_or, take, sym, ◌∙◌, ap₂, arith}
use Rattle.std.proofs.lemmas.List.{take_all}
use Rattle.tenths.proofs.Digits.{last_is_digit, front_more, front_all}
use Rattle.tenths.proofs.Marks.{no_digit}
use Rattle.tenths.proofs.reading.read_whole.Goals as goal

pub returns-in_default : goal.returns-in_default
returns-in_default c n le is =
    let ds = c.args.digits.now in
    let i = c.loop-byte.byte-index in
    let more = front_more ds n i (omega arith) c.loop-byte-test.true is in
    last_is_digit more.0 (take i ds) (get_or ds i 0) (omega (arith, more.1)) more.2 (no_digit (get_or ds i 0) c.mark_of.result c.mark_of.ensures c.in_default.not-Digit)

pub returns-in_err-with_digit : goal.returns-in_err-with_digit
returns-in_err-with_digit c =
    rw c.from_residual.ensures
    (λ n le is.
    let ds = c.args.digits.now in
    let i = c.loop-byte.byte-index in
    let more = front_more ds n i (omega arith) c.loop-byte-test.true is in
    c.in_err-with_digit.ensures more.0 (omega (arith, more.1))
    (sym (ap₂ (λ (xs : List ℕ) (b : ℕ). xs ++ b ∷ []) c.loop-byte.invariant.1 c.in-Digit.ensures.1) ∙ more.2))

pub returns : goal.returns
returns c =
    let ds = c.args.digits.now in
    let i = c.loop-byte.byte-index in
    front_all ds c.loop-byte.whole c.loop-byte.invariant.0 (sym (take_all i ds c.loop-byte-test.false) ∙ c.loop-byte.invariant.1)
