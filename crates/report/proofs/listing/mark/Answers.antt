use Rattle.std.proofs.Common.{◌≡◌, get_or, arith, rules}
use Rattle.std.proofs.lemmas.List.{get_or_read}
use Rattle.bitset.specs.Bits.{every}
use Rattle.report.proofs.Filling.{filled_more}
use Rattle.report.proofs.listing.mark.Goals as goal

pub loop-n-preserved : goal.loop-n-preserved
loop-n-preserved g c = λ f tested.
    let l = c.loop-n in
    let value : c.index-values-n.result ≡ get_or c.args.values.now l.n every = get_or_read c.args.values.now l.n c.index-values-n.result (omega (arith, c.loop-n-test.true, c.requires.along.0)) c.index-values-n.is every in
    let answer = rw value at c.test.ensures in
    let is = tested l.n c.loop-n-test.true c.test.result answer in
    filled_more 0 _ c.args.out.now l.out l.n _ (omega arith) (search rules) (l.invariant f tested)
