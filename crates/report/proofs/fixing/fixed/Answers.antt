use Rattle.std.proofs.Common.{◌<◌, length, ap, arith, rules}
use Rattle.plan.specs.Stored.{seen}
use Rattle.plan.proofs.Opened.{opened}
use Rattle.report.proofs.LastValue.{fixed_before}
use Rattle.report.proofs.fixing.fixed.Goals as goal

pub returns : goal.returns
returns c =
    let p = seen c.args.plan.now in
    let swept = c.in_ok-find.ensures in
    let there : c.args.node < length p.nodes = omega (arith, c.if-node-nodes.false, ap length c.nodes.ensures) in
    fixed_before p (opened p c.args.plan.now.sound) swept.whole c.args.variable c.args.node (omega (arith, c.if-variable-ge-VARIABLES.false)) there c.find.new.values swept.meets _ (search rules)
