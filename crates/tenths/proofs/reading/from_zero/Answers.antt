use Rattle.std.proofs.Common.{pos, refl, arith}
use Rattle.tenths.proofs.Signs.{named_if_fits}
use Rattle.tenths.proofs.reading.from_zero.Goals as goal

pub returns : goal.returns
returns c = rw c.ok.ensures.value (named_if_fits _ (pos c.args.size) _ c.try_from.result (omega arith) refl refl c.try_from.ensures)
