use Rattle.std.proofs.Common.{arith}
use Rattle.plan.specs.Stored.{seen}
use Rattle.plan.proofs.Marking.{unset_unreached}
use Rattle.plan.proofs.stored.Plan.first_unreached.Goals as goal

pub returns : goal.returns
returns c =
    unset_unreached (seen c.args.self.now) c.args.direction c.reached-marks.result c.len.result (omega arith) c.reached-marks.ensures
    c.first_unset.result c.first_unset.ensures
