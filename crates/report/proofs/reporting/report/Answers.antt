use Rattle.std.proofs.Common.{◌≡◌, ◌-◌, length, ap, arith, rules}
use Rattle.plan.specs.Stored.{seen}
use Rattle.report.proofs.Found.{none_sent, fits, reports}
use Rattle.report.proofs.reporting.report.Goals as goal

pub find_sent-requires : goal.find_sent-requires
find_sent-requires c = none_sent (seen c.args.plan.now) 256

pub put_report-requires-clause-room : goal.put_report-requires-clause-room
put_report-requires-clause-room c =
    let p = seen c.args.plan.now in
    let all : length c.nodes-nodes.result.now - 0 ≡ length p.nodes = omega (arith, ap length c.nodes-nodes.ensures) in
    fits p c.args.plan.now.ranged c.args.conditions.kept _ c.redundant.new.out _ c.dead.new.out c.find_sent.new.sent c.in_ok-redundant.ensures.list c.in_ok-dead.ensures c.in_ok-find_sent.ensures
    _ all c.args.plan.now.small.0

pub returns : goal.returns
returns c =
    let p = seen c.args.plan.now in
    let all : length c.nodes-nodes.result.now - 0 ≡ length p.nodes = omega (arith, ap length c.nodes-nodes.ensures) in
    reports p c.args.plan.now.ranged c.args.conditions.kept _ c.redundant.new.out _ c.dead.new.out c.find_sent.new.sent c.in_ok-redundant.ensures.list c.in_ok-dead.ensures c.in_ok-find_sent.ensures
    _ all c.args.out.now c.put_report.new.out c.put_report.result (omega arith) (search rules) (search rules)
