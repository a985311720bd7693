use Rattle.std.proofs.Common.{◌%◌, ◌≤◌, length, arith, ltb-false}
use Rattle.tenths.proofs.Marks.{no_digit}
use Rattle.tenths.proofs.Sizes.{size_parts}
use Rattle.tenths.proofs.reading.read_size.Goals as goal

pub returns-in_default-mark_of-2 : goal.returns-in_default-mark_of-2
returns-in_default-mark_of-2 c n le is =
    let two : 2 ≤ length c.args.text.now = omega (arith, ltb-false) in
    no_digit _ c.mark_of-2.result c.mark_of-2.ensures c.in_default-mark_of-2.not-Digit (n % 10) (omega arith) (size_parts c.args.text.now n two is).2
