use Rattle.std.proofs.Common.{List, length, get_or, None, subst}
use Rattle.plan.specs.declared.node.Node.{Node}
use Rattle.plan.specs.declared.node.Node.TheVariants.{Step}
use Rattle.plan.specs.declared.node.Direction.TheVariants.{Forward}
use Rattle.plan.specs.declared.statement.Statement.TheVariants.{Idle}
use Rattle.plan.specs.Stored.{seen}
use Rattle.plan.proofs.Opened.{opened}
use Rattle.facts.specs.declared.fixed.Fixed as declared
use Rattle.pairs.specs.declared.pair.Pair.{Pair}
use Rattle.facts.specs.Four.{four}
use Rattle.sweep.specs.Swept.{ValuesMeet}
use Rattle.report.specs.Listing.{Filled}
use Rattle.report.specs.Sending.{sent_of, unknown_four}
use Rattle.report.proofs.SentValues.{unfixed_four, sent_below}
use Rattle.report.proofs.sending.find_four.Goals as goal

pub returns : goal.returns
returns c =
    let p = seen c.args.plan.now in
    let swept = c.in_ok-find.ensures in
    let values = c.find.new.values in
    sent_below p (opened p c.args.plan.now.sound) swept.whole c.args.four.first values
    (subst (λ (k : Pair (Pair declared.Fixed declared.Fixed) (Pair declared.Fixed declared.Fixed)). ValuesMeet (four k) p Forward unfixed_four values) c.kind.ensures swept.meets)
    c.args.sent.now c.note_all.new.sent c.requires
    (subst (λ (ns : List Node). Filled None (λ n. sent_of (get_or ns n (Step 0 Idle)) c.args.four.first (get_or values n unknown_four) (get_or c.args.sent.now n None)) (length ns) c.args.sent.now c.note_all.new.sent) c.nodes.ensures c.note_all.ensures.filled)
    c.note_all.ensures.fits
