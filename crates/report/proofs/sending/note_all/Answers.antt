use Rattle.std.proofs.Common.{get_or, ℤ, None, Option, ap, ◌∙◌, arith}
use Rattle.plan.specs.declared.node.Node.TheVariants.{Step}
use Rattle.plan.specs.declared.statement.Statement.TheVariants.{Idle}
use Rattle.report.specs.Sending.{sent_of, unknown_four}
use Rattle.report.proofs.Filling.{filled_more}
use Rattle.report.proofs.SentValues.{fitting_set}
use Rattle.report.proofs.sending.note_all.Goals as goal

pub loop-n-preserved : goal.loop-n-preserved
loop-n-preserved c =
    let l = c.loop-n in
    let node = get_or c.args.nodes.now l.n (Step 0 Idle) in
    let values = get_or c.args.values.now l.n unknown_four in (
      filled_more None _ c.args.sent.now l.sent l.n c.note.result (omega (arith, c.loop-n-test.true, c.requires.along.1))
          (c.note.ensures.value ∙ ap (λ (o : Option ℤ). sent_of node c.args.four.first values o) (l.invariant.0.kept.rest l.n None (omega arith)))
          l.invariant.0,
      fitting_set l.sent l.n c.note.result (omega (arith, c.loop-n-test.true, c.requires.along.1, l.auto.sent)) c.note.ensures.fits l.invariant.1,
    )
